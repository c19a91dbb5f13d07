-- One category's cells in the lent part: where they stand, and what they say.
use Rattle.std.specs.Prelude.{ℕ, suc, ◌+◌, ◌*◌, ◌≤◌, ◌<◌, ◌≡◌, Bool, List, length, get_or}
use Rattle.ledger.specs.Method as method
use Rattle.ledger.specs.Store.{categories_of, periods_of, cell_of_entry, cell_index, is_run_at}
use Rattle.entries.specs.declared.cell.Cell.{Cell}
use Rattle.store.specs.declared.column.Column.{Column}
use Rattle.entries.specs.Cell.{cell_meant}

-- what the settings say of category c
abbrev pub column_of : List ℕ → ℕ → Column
column_of settings c = record { categories = categories_of settings; periods = periods_of settings; category = c }

-- category c of the same store
abbrev pub beside : Column → ℕ → Column
beside column c = record { categories = column.categories; periods = column.periods; category = c }

-- the place of period j of date d
abbrev pub place_in : Column → ℕ → ℕ → ℕ
place_in column d j = cell_index column.categories column.periods d column.category j

abbrev pub cell_in : Column → List ℕ → ℕ → ℕ → method.Cell
cell_in column cells d j = cell_of_entry (get_or cells (place_in column d j) 0)

abbrev pub run_in : Column → List ℕ → ℕ → Bool
run_in column cells d = is_run_at (column.categories * column.periods) cells d

-- what the cell of the period after k others gives
abbrev pub value_after : Column → List ℕ → ℕ → ℕ → ℕ
value_after column cells d k = (cell_in column cells d (suc k)).value

abbrev pub blank_after : Column → List ℕ → ℕ → ℕ → ℕ
blank_after column cells d k = method.is_blank (cell_in column cells d (suc k)).flag

-- the category is one of those that there are, and the part reaches past the date's cells
pub record Reaches (cells : List ℕ) (column : Column) (d : ℕ) : Type 0 where
  pub category : column.category < column.categories
  pub periods : (1 ≤ column.periods) × (column.periods ≤ 96)
  pub date : d * (column.categories * column.periods) + column.categories * column.periods ≤ length cells

-- a cell as it is read: its value has 32 bits
pub record CellRead (cell : method.Cell) (r : Cell) : Type 0 where
  pub is : cell_meant r ≡ cell
  pub small : r.value ≤ 4294967295
