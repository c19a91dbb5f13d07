-- A category's rows by their numbers, what the code keeps of its date as the definition's, and the rows that a part has room for.
use Rattle.std.specs.Prelude.{ℕ, ◌+◌, ◌*◌, ◌<◌, ◌≤◌}
use Rattle.ledger.specs.Store as store
use Rattle.store.specs.declared.day_rows.DayRow.{DayRow}
use Rattle.store.specs.declared.day_rows.DayRow.TheVariants.{Day, Sums, Tot, Off}
use Rattle.store.specs.declared.day_rows.DayEntries.{DayEntries}

abbrev pub row_meant : DayRow → ℕ
row_meant Day = store.day_row
row_meant Sums = store.sum_row
row_meant Tot = store.tot_row
row_meant Off = store.off_row

abbrev pub entries_meant : DayEntries → store.DayEntries
entries_meant e = record { day = e.day; tot = e.tot; off = e.off }

-- a date and a category that there may be, and the category's rows lie in a part of L entries
pub record RowsFit (dates category date L : ℕ) : Type 0 where
  pub few_dates : dates ≤ 800
  pub few_categories : category < 64
  pub a_date : date < dates
  pub room : (4 * category + 4) * dates ≤ L
