-- What a loop has summed.
use Prim.Native.Nat.{ℕ, ◌+◌}
use mathlib.Core.Path.{◌≡◌, sym}
use native.Mathlib.Omega.{arith}
use native.Mathlib.Nat.{mul-suc}
use native.Mathlib.Numerals.{add-one}
use Rattle.metering.specs.Sum.{sum_below_zero, sum_below_suc}
use Rattle.entries.specs.Sums.{Figure, Summed}

pub none_yet : (bound : ℕ) (f : ℕ → ℕ) → Summed 0 bound f 0
none_yet bound f = record { is = sym (sum_below_zero f); small = omega arith }

pub one_more : {n bound v r : ℕ} {f : ℕ → ℕ} → Summed n bound f r → Figure bound (f n) v → Summed (n + 1) bound f (r + v)
one_more so_far next = record { is = rw (add-one, sum_below_suc, so_far.is, next.is); small = rw (add-one, mul-suc) (omega arith) }

-- where the counter has reached its limit
pub ends : {n m bound r : ℕ} {f : ℕ → ℕ} → n ≡ m → Summed n bound f r → Summed m bound f r
ends e s = rw e at s
