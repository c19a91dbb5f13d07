-- Sums over members.
use Rattle.std.proofs.Common.{◌≡◌, ℕ, ◌+◌, ◌*◌, ◌≤◌, ◌<◌, List, [], length, get_or, take, refl, add-one, arith, mul-le-mul_left}
use native.Mathlib.Nat.{mul-suc}
use lib.Seq.{take-suc, length-take-le}
use Rattle.ledger.specs.Net.{sum_over}
use Rattle.ledger.proofs.Nets.{sum_over_append, sum_over_one}
use Rattle.entries.specs.Sums.{Figure}
use Rattle.net.specs.Walk.{SummedOver}

-- ---- what a loop over members has summed

pub none_yet : (bound : ℕ) (f : ℕ → ℕ) → SummedOver [] bound f 0
unfolding sum_over
none_yet bound f = record { is = refl; small = omega arith }

pub one_further : (members : List ℕ) {n bound v r : ℕ} {f : ℕ → ℕ} → SummedOver (take n members) bound f r → n < length members → Figure bound (f (get_or members n 0)) v →
    SummedOver (take (n + 1) members) bound f (r + v)
one_further members {n} {bound} {v} {r} {f} so_far low next =
    let now : length (take n members) ≡ n = length-take-le n members (omega arith) in
    let then : length (take (n + 1) members) ≡ n + 1 = length-take-le (n + 1) members (omega arith) in
    record {
      is = rw (add-one, take-suc members n 0 low, sum_over_append, sum_over_one, so_far.is, next.is);
      small = let s : r ≤ bound * n = rw now at so_far.small in rw (then, add-one, mul-suc) (omega (arith, next.small));
    }

-- of at most 64 members
pub as_figure : {members : List ℕ} {bound r : ℕ} {f : ℕ → ℕ} → SummedOver members bound f r → length members ≤ 64 → Figure (bound * 64) (sum_over members f) r
as_figure {bound = bound} s few = record { is = s.is; small = omega (arith, s.small, mul-le-mul_left bound few) }
