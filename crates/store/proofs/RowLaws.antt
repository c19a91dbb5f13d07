-- A date's row lies in cells that are long enough: there are as many rows as dates.
use Prim.Native.Nat.{ℕ, ◌+◌, ◌*◌, ◌≤◌, ◌<◌}
use mathlib.Core.Path.{◌≡◌}
use mathlib.Core.Bool.{true}
use mathlib.Core.List.{List}
use native.Mathlib.Nat.{mul-le-mul_right, suc-mul}
use native.Mathlib.Omega.{arith}
use lib.ListN.{length}
use Rattle.ledger.proofs.Ready.{cells_long}
use Rattle.ledger.specs.Store.{dates_of, row_length, cells_ready, days_ready}

pub row_fits : (s cells : List ℕ) (d : ℕ) → cells_ready s cells ≡ true → d < dates_of s → d * row_length s + row_length s ≤ length cells
row_fits s cells d h l = omega (arith, cells_long s cells h, suc-mul d (row_length s), mul-le-mul_right (row_length s) l)

-- the cells stay ready when their length does
pub still_ready : (s cells cells' : List ℕ) → length cells' ≡ length cells → cells_ready s cells ≡ true → cells_ready s cells' ≡ true
unfolding cells_ready
still_ready s cells cells' e h = rw e h

-- and so do the days
pub days_still_ready : (s days days' : List ℕ) → length days' ≡ length days → days_ready s days ≡ true → days_ready s days' ≡ true
unfolding days_ready
days_still_ready s days days' e h = rw e h
