-- Sums over categories, and what is written for the periods of a date.
use Rattle.std.specs.Prelude.{ℕ, ◌+◌, ◌*◌, ◌≤◌, ◌<◌, ◌≡◌, cond, List, eqb, length, get_or, ℤ, pos, ◌-ℤ◌}
use Rattle.ledger.specs.Table.{filling}
use Rattle.ledger.specs.Net.{sum_over, Net}
use Rattle.ledger.specs.Store.{tot_row, day_index, energy_of}
use Rattle.ledger.specs.Calls.{dates_sum, net_with, overwritten}
use Rattle.store.specs.declared.column.Column.{Column}
use Rattle.store.specs.Column.{beside, cell_in, run_in, value_after, blank_after, Reaches}
use Rattle.store.specs.DayRows.{RowsFit}
use Rattle.entries.specs.Sums.{Summed}

-- over the members, with the bound that keeps the sum within 64 bits
pub record SummedOver (members : List ℕ) (bound : ℕ) (f : ℕ → ℕ) (r : ℕ) : Type 0 where
  pub is : r ≡ sum_over members f
  pub small : r ≤ bound * length members

-- the members are among the categories that there are
pub record Among (categories : ℕ) (members : List ℕ) : Type 0 where
  pub few : length members ≤ 64
  pub each : (i : ℕ) → i < length members → get_or members i 0 < categories

-- ---- the periods of a date; `column` is any category's of the store, and k how many periods come before

pub record SideSummed (cells : List ℕ) (column : Column) (d k : ℕ) (members : List ℕ) (value blanks : ℕ) : Type 0 where
  pub values : SummedOver members 4294967295 (λ c. value_after (beside column c) cells d k) value
  pub blank : SummedOver members 1 (λ c. blank_after (beside column c) cells d k) blanks

module _ (cells : List ℕ) (column : Column) (d : ℕ) where
  abbrev pub side_value : List ℕ → ℕ → ℕ
  side_value side k = sum_over side (λ c. value_after (beside column c) cells d k)

  abbrev pub side_blanks : List ℕ → ℕ → ℕ
  side_blanks side k = sum_over side (λ c. blank_after (beside column c) cells d k)

  abbrev pub period_net : List ℕ → List ℕ → ℕ → ℤ
  period_net imports exports k = pos (side_value imports k) -ℤ pos (side_value exports k)

  abbrev pub period_mark : List ℕ → List ℕ → ℕ → ℕ
  period_mark imports exports k = cond (eqb (side_blanks imports k + side_blanks exports k) 0) 0 1

-- 64 categories of 32 bits each
pub record DayWritten (cells : List ℕ) (column : Column) (d : ℕ) (imports exports : List ℕ) (numbers numbers' : List ℤ) (marks marks' : List ℕ) (import export : ℕ) : Type 0 where
  pub nets_are : numbers' ≡ filling column.periods (period_net cells column d imports exports) numbers
  pub marks_are : marks' ≡ filling column.periods (period_mark cells column d imports exports) marks
  pub imported : Summed column.periods 274877906880 (side_value cells column d imports) import
  pub exported : Summed column.periods 274877906880 (side_value cells column d exports) export

-- ---- the week

-- TOT7 of category c
abbrev pub week_tot : List ℕ → ℕ → ℕ → ℕ → ℕ
week_tot days dates d c = energy_of (dates_sum 7 d (day_index dates c tot_row d) days)

-- the rows of each of the members lie in days of L entries
pub record InDays (L dates d : ℕ) (members : List ℕ) : Type 0 where
  pub few : length members ≤ 64
  pub each : (i : ℕ) → i < length members → RowsFit dates (get_or members i 0) d L

-- ---- the net

abbrev pub net_in : Column → List ℕ → List ℕ → ℕ → List ℕ → List ℕ → ℕ → Net
net_in column cells days dates imports exports d =
    net_with (pos (sum_over imports (week_tot days dates d)) -ℤ pos (sum_over exports (week_tot days dates d))) column.periods (run_in column cells)
    (λ x c j. cell_in (beside column c) cells x j) imports exports d

-- all checks have passed, and both sides are found
pub record MayWrite (cells : List ℕ) (column : Column) (L dates d : ℕ) (imports exports : List ℕ) (numbers marks : ℕ) : Type 0 where
  pub reaches : Reaches cells column d
  pub import_days : InDays L dates d imports
  pub export_days : InDays L dates d exports
  pub imported : Among column.categories imports
  pub exported : Among column.categories exports
  pub numbers_long : column.periods ≤ numbers
  pub marks_long : column.periods ≤ marks

-- TOT and TOT7 are a net's, and both lists have its periods and marks at their fronts
pub record NetWritten (net : Net) (tot tot7 : ℤ) (numbers numbers' : List ℤ) (marks marks' : List ℕ) : Type 0 where
  pub day : tot ≡ net.tot
  pub week : tot7 ≡ net.tot7
  pub nets_are : numbers' ≡ overwritten net.periods numbers
  pub marks_are : marks' ≡ overwritten net.marks marks
