-- METH005 version 5.3 (source document 000), the Load Shaping Service, as the scope paper condenses it. A number such as "000, 9.1" is a section of
-- that document; "house" marks a rule that the paper adds or puts in place of METH005's.
-- Dates count from 0, categories from 0, periods from 1.
use Rattle.std.specs.Prelude.{ℕ, zero, suc, ◌+◌, ◌-◌, ◌*◌, min, Bool, true, false, cond, ◌&&◌, List, [], ◌∷◌, ℤ, pos, negsuc, ◌==◌, nat_eq, nat_le, slice_index}
use Rattle.std.proofs.Math.Option.{Option, none, some}
use Rattle.metering.specs.Sum.{sum_below}
use Rattle.metering.specs.Average.{average, remainder, annual}
use Rattle.metering.specs.Calendar.{lies_within}

-- ---- categories (000, 3.1; 003 for Advanced)

-- a load shape category, its record's eight bytes taken apart; the first five fields are the key
pub record Category : Type 0 where
  pub segment : ℕ
  pub group : ℕ
  pub domestic : ℕ
  pub quantity : ℕ
  pub connection : ℕ
  pub window : ℕ
  pub de_minimis : ℕ

-- the record that stands at place c of category bytes, eight to a record
unfoldable pub category_at : List ℕ → ℕ → Category
category_at bytes c =
    record {
      segment = slice_index bytes (8 * c);
      group = slice_index bytes (8 * c + 1);
      domestic = slice_index bytes (8 * c + 2);
      quantity = slice_index bytes (8 * c + 3);
      connection = slice_index bytes (8 * c + 4);
      window = slice_index bytes (8 * c + 5);
      de_minimis = 256 * slice_index bytes (8 * c + 6) + slice_index bytes (8 * c + 7);
    }

unfoldable pub is_smart : Category → Bool
is_smart a = a.segment == 1

-- an off-peak window, from its start to its end minute
pub record Window : Type 0 where
  pub start : ℕ
  pub end : ℕ

-- the window that a category names by its place in a list of minutes, start, end, start, end and so on (house; 000, 11.1 has two windows).
-- 0 names none, which is empty
unfoldable pub window_at : List ℕ → ℕ → Window
window_at minutes zero = record { start = 0; end = 0 }
window_at minutes (suc k) = record { start = slice_index minutes (2 * k); end = slice_index minutes (2 * k + 1) }

-- METH005's two: 00:00 to 07:00 and 00:30 to 07:30 (000, 11.1)
abbrev pub method_windows : List ℕ
method_windows = 0 ∷ 420 ∷ 30 ∷ 450 ∷ []

-- the paper's "family": Smart categories alike in domestic, quantity and connection; the GSP group and all else may differ (000, 6.1)
unfoldable pub same_family : Category → Category → Bool
same_family a b = is_smart a && is_smart b && a.domestic == b.domestic && a.quantity == b.quantity && a.connection == b.connection

-- ---- readings of a date (000, 4.1: counted by category and period)

-- a set: the reading of each period in Wh, where it has one
abbrev pub ReadingSet : Type 0
ReadingSet = ℕ → Option ℕ

-- a set held on a date, with the category of its meter
pub record HeldSet : Type 0 where
  pub category : ℕ
  pub readings : ReadingSet

-- the paper's "picture": the sets held on a date when it was run
abbrev pub Picture : Type 0
Picture = List HeldSet

abbrev pub watt_hours : Option ℕ → ℕ
watt_hours none = 0
watt_hours (some w) = w

abbrev pub present : Option ℕ → ℕ
present none = 0
present (some w) = 1

-- over the entries whose category is chosen: the sum of what `measure` finds in period j
unfoldable pub total : (Option ℕ → ℕ) → (ℕ → Bool) → Picture → ℕ → ℕ
total measure chosen [] j = 0
total measure chosen (e ∷ es) j = cond (chosen e.category) (measure (e.readings j)) 0 + total measure chosen es j

-- ---- one date's own shape (000, 5, 6 and 9)

-- what a date's own readings give for a category and period: the average of its readings, the average over the family, or nothing; an
-- average is its value, the count, and the remainder that rounding dropped
pub data Fresh : Type 0 where
  absent : Fresh
  own : ℕ → ℕ → ℤ → Fresh
  pooled : ℕ → ℕ → ℤ → Fresh

-- a count that gives a shape: at least one reading, and it reaches the de-minimis m
unfoldable pub is_enough : ℕ → ℕ → Bool
is_enough n m = nat_le 1 n && nat_le m n

-- s and n over the category, S and K over the family, m the category's de-minimis: own where n is enough (000, 5.1 and 9.1), else pooled
-- where the category is Smart and K is enough by the same m (000, 6.1). Averages are whole Wh, halves up (house).
unfoldable pub fresh_of : Bool → ℕ → ℕ → ℕ → ℕ → ℕ → Fresh
fresh_of smart m s n S K =
    cond (is_enough n m) (own (average s n) n (remainder s n)) (cond (smart && is_enough K m) (pooled (average S K) K (remainder S K)) absent)

-- the same from a picture; S is over single readings, never over regional averages
unfoldable pub fresh_in : (ℕ → Category) → Picture → ℕ → ℕ → Fresh
fresh_in category picture c j =
    fresh_of (is_smart (category c)) (category c).de_minimis
    (total watt_hours (nat_eq c) picture j)
    (total present (nat_eq c) picture j)
    (total watt_hours (λ b. same_family (category c) (category b)) picture j)
    (total present (λ b. same_family (category c) (category b)) picture j)

-- ---- cells (000, 7 and 8)

pub data Flag : Type 0 where
  A D E N : Flag

pub record Cell : Type 0 where
  pub flag : Flag
  pub value : ℕ
  pub count : ℕ
  pub origin : ℕ
  pub remainder : ℤ

-- no shape: flag N, value 0, count 0, origin 65535, remainder 0 (house; 000, 8.1 has flag B and value 1)
unfoldable pub blank : Cell
blank = record { flag = N; value = 0; count = 0; origin = 65535; remainder = pos 0 }

-- the cells that date d's own readings give: its category's average under flag A (000, 5.1), its family's under flag D (000, 6.1)
abbrev pub own_cell : ℕ → ℕ → ℕ → ℤ → Cell
own_cell d v n r = record { flag = A; value = v; count = n; origin = d; remainder = r }

abbrev pub pooled_cell : ℕ → ℕ → ℕ → ℤ → Cell
pooled_cell d v k r = record { flag = D; value = v; count = k; origin = d; remainder = r }

-- whether a cell is its date's own shape: flag A or D
unfoldable pub is_own_cell : Cell → Bool
is_own_cell a = elim a.flag [ A ↦ true | D ↦ true | E ↦ false | N ↦ false ]

-- what a later date without a shape of its own takes over: value, count, origin and remainder under flag E (000, 7.1 and 7.3), and nothing from nothing
unfoldable pub carried : Cell → Cell
unfolding blank
carried a = elim a.flag [
  | A ↦ record { flag = E; value = a.value; count = a.count; origin = a.origin; remainder = a.remainder }
  | D ↦ record { flag = E; value = a.value; count = a.count; origin = a.origin; remainder = a.remainder }
  | E ↦ record { flag = E; value = a.value; count = a.count; origin = a.origin; remainder = a.remainder }
  | N ↦ blank
]

-- the cell of a run date d, from its own shape and the cell of its predecessor
unfoldable pub cell_from : ℕ → Fresh → Cell → Cell
cell_from d absent before = carried before
cell_from d (own v n r) before = own_cell d v n r
cell_from d (pooled v k r) before = pooled_cell d v k r

-- a date as one category and period sees it: not run, or run with its own shape
pub data Day : Type 0 where
  not_run : Day
  ran : Fresh → Day

-- going past date d: a run date of the day type looked for puts its cell in place of the one before
unfoldable pub after_date : ℕ → Day → Bool → Cell → Cell
after_date d not_run ofType before = before
after_date d (ran f) ofType before = cond ofType (cell_from d f before) before

-- the cell of the nearest run date before d with day type t, found by going through the dates upward; blank where there is none
unfoldable pub latest : (ℕ → ℕ) → (ℕ → Day) → ℕ → ℕ → Cell
latest day_type day t zero = blank
latest day_type day t (suc d) = after_date d (day d) (day_type d == t) (latest day_type day t d)

-- the cell of date d, whose predecessor's cell is given; a date not run has the blank one
unfoldable pub cell_of : ℕ → Day → Cell → Cell
cell_of d not_run before = blank
cell_of d (ran f) before = cell_from d f before

unfoldable pub cell_on : (ℕ → ℕ) → (ℕ → Day) → ℕ → Cell
cell_on day_type day d = cell_of d (day d) (latest day_type day (day_type d) d)

abbrev pub flag_number : Flag → ℕ
flag_number A = 1
flag_number D = 2
flag_number E = 3
flag_number N = 0

-- a flag's letter in ASCII
abbrev pub letter_of : Flag → ℕ
letter_of A = 65
letter_of D = 68
letter_of E = 69
letter_of N = 78

abbrev pub same_integer : ℤ → ℤ → Bool
same_integer (pos a) (pos b) = a == b
same_integer (pos a) (negsuc b) = false
same_integer (negsuc a) (pos b) = false
same_integer (negsuc a) (negsuc b) = a == b

-- whether value, flag, count, origin and remainder are all alike
unfoldable pub same_cell : Cell → Cell → Bool
same_cell a b =
    (flag_number a.flag == flag_number b.flag) && a.value == b.value && a.count == b.count && a.origin == b.origin
    && same_integer a.remainder b.remainder

-- the paper's "moved" for one cell: 1 where it differs, else 0
unfoldable pub moved_cell : Cell → Cell → ℕ
moved_cell a b = cond (same_cell a b) 0 1

-- ---- totals of a run date and category (000, 10 to 17)

-- all that a totals read answers
pub record Totals : Type 0 where
  pub tot : ℕ
  pub off : ℕ
  pub peak : ℕ
  pub tot7 : ℕ
  pub off7 : ℕ
  pub peak7 : ℕ
  pub days7 : ℕ
  pub ann : ℕ
  pub days : ℕ
  pub fresh : ℕ
  pub blanks : ℕ

abbrev pub is_fresh : Flag → ℕ
is_fresh A = 1
is_fresh D = 1
is_fresh E = 0
is_fresh N = 0

abbrev pub is_blank : Flag → ℕ
is_blank A = 0
is_blank D = 0
is_blank E = 0
is_blank N = 1

-- over the run dates among d and the n − 1 before it: the sum of f (000, 13.1 to 16.1 for n 7 and 365)
unfoldable pub over_run_dates : (ℕ → Bool) → ℕ → (ℕ → ℕ) → ℕ → ℕ
over_run_dates is_run n f d = sum_below n (λ k. cond (nat_le k d && is_run (d - k)) (f (d - k)) 0)

-- in the cells of a category's periods: FRESH counts those that are A or D, BLANK those that are N
unfoldable pub fresh_among : ℕ → (ℕ → Cell) → ℕ
fresh_among periods cells = sum_below periods (λ k. is_fresh (cells k).flag)

unfoldable pub blanks_among : ℕ → (ℕ → Cell) → ℕ
blanks_among periods cells = sum_below periods (λ k. is_blank (cells k).flag)

-- for one category: the period duration, P, its window by number and by minutes, which dates are run, and its cell on a date and period
module _ (duration periods w : ℕ) (window : Window) (is_run : ℕ → Bool) (cell : ℕ → ℕ → Cell) where
  -- TOT: all values of the date (000, 10.1)
  unfoldable pub tot_on : ℕ → ℕ
  tot_on d = sum_below periods (λ k. (cell d (suc k)).value)

  -- OFF: the periods that lie wholly in the window (000, 11.1); none does in an empty one
  unfoldable pub off_on : ℕ → ℕ
  off_on d = sum_below periods (λ k. cond (lies_within duration window.start window.end (suc k)) (cell d (suc k)).value 0)

  -- PEAK: TOT less OFF (000, 12.1); with window 0 it is 0 as well (house)
  unfoldable pub peak_on : ℕ → ℕ
  peak_on d = cond (w == 0) 0 (tot_on d - off_on d)

  -- ANN over fewer than 365 run dates is scaled up to a year (000, 17), halves up (house)
  unfoldable pub totals_on : ℕ → Totals
  totals_on d =
      record {
        tot = tot_on d;
        off = off_on d;
        peak = peak_on d;
        tot7 = over_run_dates is_run 7 tot_on d;
        off7 = over_run_dates is_run 7 off_on d;
        peak7 = over_run_dates is_run 7 peak_on d;
        days7 = over_run_dates is_run 7 (λ _. 1) d;
        ann = annual (over_run_dates is_run 365 tot_on d) (over_run_dates is_run 365 (λ _. 1) d);
        days = over_run_dates is_run 365 (λ _. 1) d;
        fresh = fresh_among periods (λ k. cell d (suc k));
        blanks = blanks_among periods (λ k. cell d (suc k));
      }

-- ---- coverage of a run date and category (house)

-- all that a coverage read answers
pub record Coverage : Type 0 where
  pub fresh7 : ℕ
  pub blanks7 : ℕ
  pub fresh365 : ℕ
  pub blanks365 : ℕ
  pub oldest : ℕ

-- what a cell's origin counts for among others: an N cell has none, which counts as the latest
unfoldable pub origin_of : Cell → ℕ
origin_of a = elim a.flag [ A ↦ a.origin | D ↦ a.origin | E ↦ a.origin | N ↦ 65535 ]

-- the oldest origin among the cells that are not N; 65535 if all are N
unfoldable pub oldest_among : ℕ → (ℕ → Cell) → ℕ
oldest_among zero cells = 65535
oldest_among (suc n) cells = min (oldest_among n cells) (origin_of (cells n))

-- for one category: P, which dates are run, and its cell on a date and period
module _ (periods : ℕ) (is_run : ℕ → Bool) (cell : ℕ → ℕ → Cell) where
  unfoldable pub coverage_on : ℕ → Coverage
  coverage_on d =
      record {
        fresh7 = over_run_dates is_run 7 (λ x. fresh_among periods (λ k. cell x (suc k))) d;
        blanks7 = over_run_dates is_run 7 (λ x. blanks_among periods (λ k. cell x (suc k))) d;
        fresh365 = over_run_dates is_run 365 (λ x. fresh_among periods (λ k. cell x (suc k))) d;
        blanks365 = over_run_dates is_run 365 (λ x. blanks_among periods (λ k. cell x (suc k))) d;
        oldest = oldest_among periods (λ k. cell d (suc k));
      }
