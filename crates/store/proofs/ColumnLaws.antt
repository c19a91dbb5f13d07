-- A category's cells are within the part wherever the date's row is; the rows of all dates of a complete part are.
use Prim.Native.Nat.{ℕ, suc, ◌+◌, ◌*◌, ◌≤◌, ◌<◌}
use mathlib.Core.Path.{◌≡◌, sym, ◌∙◌}
use mathlib.Core.Bool.{Bool, true, false, and-eq-true_iff}
use mathlib.Core.List.{List}
use native.Mathlib.Omega.{arith}
use native.Mathlib.Nat.{mul-le-mul_right, suc-mul}
use lib.ListN.{length}
use borrow.Author.Tests.{leb-true, not-false}
use Rattle.ledger.specs.Sizes.{cells_length}
use Rattle.ledger.specs.Store.{categories_of, dates_of, periods_of, settings_ready, cells_ready, cell_index}
use Rattle.ledger.proofs.Ready.{ready, periods_bound}
use Rattle.ledger.specs.Calls.{cells_unready}
use Rattle.store.specs.declared.column.Column.{Column}
use Rattle.store.specs.Column.{column_of, place_in, Reaches}

-- the places of a date's cells follow each other
pub next_place : (column : Column) (d first k : ℕ) → first ≡ place_in column d 1 → first + k ≡ place_in column d (suc k)
unfolding cell_index
next_place column d first k e = omega arith

module _ {cells : List ℕ} {column : Column} {d : ℕ} (w : Reaches cells column d) where
  category_within : column.category * column.periods + column.periods ≤ column.categories * column.periods
  category_within = rw suc-mul at (mul-le-mul_right column.periods w.category)

  -- the category's last cell of the date is within the part
  pub places_within : place_in column d 1 + column.periods ≤ length cells
  unfolding cell_index
  places_within = omega (arith, category_within, w.date)

-- parts that pass the first check of a read
pub cells_lent : (settings cells : List ℕ) {b : Bool} → b ≡ cells_unready settings cells → b ≡ false → (settings_ready settings ≡ true) × (cells_ready settings cells ≡ true)
unfolding cells_unready
cells_lent settings cells e h = (and-eq-true_iff (settings_ready settings) (cells_ready settings cells)).0 (not-false _ (sym e ∙ h))

-- such a part reaches past the cells of each of its dates
pub column_reaches : (settings cells : List ℕ) (d c : ℕ) → settings_ready settings ≡ true → cells_ready settings cells ≡ true → d < dates_of settings → c < categories_of settings →
    Reaches cells (column_of settings c) d
unfolding cells_ready cells_length
column_reaches settings cells d c opened complete hd hc =
    let b = periods_bound settings (ready settings opened) in
    let n = categories_of settings * periods_of settings in
    let all : dates_of settings * n ≤ length cells = leb-true _ _ complete in
    record { category = hc; periods = (omega arith, b.1); date = omega (arith, all, suc-mul d n, mul-le-mul_right n hd) }
