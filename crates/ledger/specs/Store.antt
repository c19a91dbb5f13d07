-- The store's layout: how each thing is read off the lent parts, whatever lists they are, and how it is written there.
use Rattle.std.specs.Prelude.{◌≡◌, ℕ, zero, suc, ◌+◌, ◌-◌, ◌*◌, ◌/◌, ◌%◌, ◌<◌, ◌≤◌, Bool, cond, not, ◌&&◌, ◌||◌, ◌≢◌, List, [], ◌∷◌, ◌++◌, length, drop, ℤ, pos, negsuc, ◌-ℤ◌, ◌==◌, nat_le, nat_lt, slice_index, slice_set}
use Rattle.std.proofs.Math.Option.{Option, none, some}
use Rattle.std.proofs.lemmas.List.Edits.{sets}
use Rattle.std.specs.Int.Signed.{mag}
use Rattle.metering.specs.Range.{between, meters_in_range, categories_in_range, dates_in_range}
use Rattle.metering.specs.Sum.{sum_below}
use Rattle.metering.specs.Average.{annual}
use Rattle.metering.specs.Calendar.{duration_known, periods_per_day, lies_within}
use Rattle.ledger.specs.Method.{Category, category_at, Window, Flag, A, D, E, N, flag_number, Cell, fresh_among, blanks_among, oldest_among, Totals, Coverage}
use Rattle.ledger.specs.Opening.{Opening, categories, dates}
use Rattle.ledger.specs.Table.{first_from}
use Rattle.ledger.specs.Checks.{Registration}
use Rattle.ledger.specs.Sizes.{header_length, settings_length, meters_length, readings_length, cells_length, days_length}

-- ---- settings: the header, which is duration, M, C, T and the minutes of eight windows, two bytes each, big-endian; the category records; the
-- day types

unfoldable pub word : List ℕ → ℕ → ℕ
word s k = 256 * slice_index s (2 * k) + slice_index s (2 * k + 1)

unfoldable pub word_bytes : ℕ → List ℕ
word_bytes n = n / 256 ∷ n % 256 ∷ []

-- the first n minutes of windows, 0 where there are no more
unfoldable pub minute_bytes : ℕ → List ℕ → List ℕ
minute_bytes zero minutes = []
minute_bytes (suc n) minutes = minute_bytes n minutes ++ word_bytes (slice_index minutes n)

-- the header that an opening writes; below, how each of its numbers is read
unfoldable pub header_bytes : Opening → List ℕ
header_bytes a =
    word_bytes a.duration ++ word_bytes a.meters ++ word_bytes (categories a) ++ word_bytes (dates a) ++ minute_bytes 16 a.window_minutes

unfoldable pub duration_of : List ℕ → ℕ
duration_of s = word s 0

unfoldable pub meters_of : List ℕ → ℕ
meters_of s = word s 1

unfoldable pub categories_of : List ℕ → ℕ
categories_of s = word s 2

unfoldable pub dates_of : List ℕ → ℕ
dates_of s = word s 3

unfoldable pub periods_of : List ℕ → ℕ
periods_of s = periods_per_day (duration_of s)

-- the window of this number: two of the header's numbers for each of 1 to 8, and an empty one for 0 and beyond
unfoldable pub window_of : List ℕ → ℕ → Window
window_of s w =
    record { start = cond (between 1 8 w) (word s (2 * w + 2)) 0; end = cond (between 1 8 w) (word s (2 * w + 3)) 0 }

-- how many cells a date has
unfoldable pub row_length : List ℕ → ℕ
row_length s = categories_of s * periods_of s

unfoldable pub category_of : List ℕ → ℕ → Category
category_of s c = category_at (drop header_length s) c

unfoldable pub day_type_of : List ℕ → ℕ → ℕ
day_type_of s d = slice_index s (header_length + 8 * categories_of s + d)

-- unopened: the kept duration, M, C or T is out of range
unfoldable pub is_opened : List ℕ → Bool
is_opened s = duration_known (duration_of s) && meters_in_range (meters_of s) && categories_in_range (categories_of s) && dates_in_range (dates_of s)

-- opened, and as long as its own numbers ask
unfoldable pub settings_ready : List ℕ → Bool
settings_ready s = is_opened s && nat_le (settings_length (categories_of s) (dates_of s)) (length s)

unfoldable pub meters_ready : List ℕ → List ℕ → Bool
meters_ready s meters = nat_le (meters_length (meters_of s)) (length meters)

unfoldable pub readings_ready : List ℕ → List ℕ → Bool
readings_ready s readings = nat_le (readings_length (meters_of s) (dates_of s) (periods_of s)) (length readings)

unfoldable pub cells_ready : List ℕ → List ℕ → Bool
cells_ready s cells = nat_le (cells_length (categories_of s) (dates_of s) (periods_of s)) (length cells)

unfoldable pub days_ready : List ℕ → List ℕ → Bool
days_ready s days = nat_le (days_length (categories_of s) (dates_of s)) (length days)

-- ---- meters: M MPANs, 0 where the slot is free, then for each slot eight registrations of five entries, the moment first; status 0
-- says that one is unused

unfoldable pub mpan_at : List ℕ → ℕ → ℕ
mpan_at meters i = slice_index meters i

-- the slot of an MPAN: the first below M that has it or is free, else M
unfoldable pub slot_from : ℕ → List ℕ → ℕ → ℕ → ℕ
slot_from mpan meters n i = first_from (λ k. (mpan_at meters k == mpan) || mpan_at meters k == 0) n i

unfoldable pub slot_of : ℕ → ℕ → List ℕ → ℕ
slot_of M mpan meters = slot_from mpan meters M 0

-- where registration k of slot i starts
unfoldable pub registration_index : ℕ → ℕ → ℕ → ℕ
registration_index M i k = M + 40 * i + 5 * k

unfoldable pub registration_at : ℕ → List ℕ → ℕ → ℕ → Registration
registration_at M meters i k =
    record {
      moment = slice_index meters (registration_index M i k);
      category = slice_index meters (registration_index M i k + 1);
      sender = slice_index meters (registration_index M i k + 2);
      status = slice_index meters (registration_index M i k + 3);
      limit = slice_index meters (registration_index M i k + 4);
    }

-- the used ones of the next n registrations of slot i, from k on, up to the first unused
unfoldable pub used_from : ℕ → List ℕ → ℕ → ℕ → ℕ → List Registration
used_from M meters i zero k = []
used_from M meters i (suc n) k =
    let rest = used_from M meters i n (suc k) in
    cond ((registration_at M meters i k).status == 0) [] (registration_at M meters i k ∷ rest)

unfoldable pub registrations_at : ℕ → List ℕ → ℕ → List Registration
registrations_at M meters i = used_from M meters i 8 0

-- whether an MPAN is known: its slot has it, and is no free one nor past the last
unfoldable pub known_at : ℕ → ℕ → List ℕ → Bool
known_at M mpan meters = nat_lt (slot_of M mpan meters) M && mpan_at meters (slot_of M mpan meters) == mpan

-- slot i has the MPAN, and registration k
unfoldable pub put_registration : ℕ → ℕ → ℕ → ℕ → Registration → List ℕ → List ℕ
put_registration M mpan i k r meters =
    sets (slice_set meters i mpan) (registration_index M i k) (r.moment ∷ r.category ∷ r.sender ∷ r.status ∷ r.limit ∷ [])

-- ---- readings: for each date and slot a mark, not 0 where a set is held, then an entry for each period

unfoldable pub set_index : ℕ → ℕ → ℕ → ℕ → ℕ
set_index M P d i = (d * M + i) * (1 + P)

unfoldable pub is_held_at : ℕ → ℕ → List ℕ → ℕ → ℕ → Bool
is_held_at M P readings d i = not (slice_index readings (set_index M P d i) == 0)

-- an entry is 0 where no record came, 2 ^ 32 plus the Wh for a reading, 2 ^ 33 for a record that is no reading
unfoldable pub reading_of : ℕ → Option ℕ
reading_of e = cond (e / 4294967296 % 2 == 1) (some (e % 4294967296)) none

unfoldable pub reading_at : ℕ → ℕ → List ℕ → ℕ → ℕ → ℕ → Option ℕ
reading_at M P readings d i j = reading_of (slice_index readings (set_index M P d i + j))

-- ---- cells: for each date, category and period an entry, 0 on a date not run. Its upper half is the value; below stand the remainder plus
-- 512 in 10 bits, origin in 10, count less one in 10, and the flag's number in 2. N is flag 0 with remainder 0 and nothing else. An entry with
-- flag 0 that no put gave reads as N with its value. `entry_of` puts and `cell_of_entry` reads; what else is done with an entry is said by these.

-- a remainder from −512 to 511, plus 512
abbrev pub remainder_bits : ℤ → ℕ
remainder_bits (pos n) = 512 + n
remainder_bits (negsuc n) = 511 - n

unfoldable pub count_and_origin : Cell → ℕ
count_and_origin a = elim a.flag [
  | A ↦ 4 * (a.count - 1) + 4096 * a.origin
  | D ↦ 4 * (a.count - 1) + 4096 * a.origin
  | E ↦ 4 * (a.count - 1) + 4096 * a.origin
  | N ↦ 0
]

unfoldable pub entry_of : Cell → ℕ
entry_of a = flag_number a.flag + count_and_origin a + 4194304 * remainder_bits a.remainder + 4294967296 * a.value

-- what an entry has room for
abbrev pub ShapeFits : Cell → Type 0
ShapeFits a = (1 ≤ a.count) × (a.count ≤ 1024) × (a.origin < 1024) × (mag a.remainder < 512)

abbrev pub NothingElse : Cell → Type 0
NothingElse a = (a.count ≡ 0) × (a.origin ≡ 65535) × (a.remainder ≡ pos 0)

pub record FitsEntry (a : Cell) : Type 0 where
  pub value : a.value < 4294967296
  pub shape : a.flag ≢ N → ShapeFits a
  pub no_shape : a.flag ≡ N → NothingElse a

abbrev pub flag_of : ℕ → Flag
flag_of n = cond (n == 1) A (cond (n == 2) D (cond (n == 3) E N))

unfoldable pub flag_number_of : ℕ → ℕ
flag_number_of e = e % 4

-- with flag 0 there is no shape
abbrev pub if_shape : {X : Type 0} → ℕ → X → X → X
if_shape e shape otherwise = cond (flag_number_of e == 0) otherwise shape

unfoldable pub cell_of_entry : ℕ → Cell
cell_of_entry e =
    record {
      flag = flag_of (flag_number_of e);
      value = e / 4294967296;
      count = if_shape e (e / 4 % 1024 + 1) 0;
      origin = if_shape e (e / 4096 % 1024) 65535;
      remainder = if_shape e (pos (e / 4194304 % 1024) -ℤ pos 512) (pos 0);
    }

unfoldable pub cell_index : ℕ → ℕ → ℕ → ℕ → ℕ → ℕ
cell_index C P d c j = d * (C * P) + (c * P + (j - 1))

-- a date is run where the entry of its first cell is not 0; n is a date's number of cells
unfoldable pub is_run_at : ℕ → List ℕ → ℕ → Bool
is_run_at n cells d = not (slice_index cells (d * n) == 0)

-- ---- days: for each category four rows of T entries, one of each for a date: the day, its sums, TOT and OFF. The day of a run
-- date is FRESH + 2 ^ 16 BLANK + 2 ^ 32 oldest origin + 2 ^ 48, and TOT stands as TOT + 2 ^ 48, so that adding TOT of dates counts
-- the run ones. On a date not run day, TOT and OFF are 0. A date has sums, run or not: FRESH + 2 ^ 16 BLANK over the run dates among
-- 7, and 2 ^ 32 times the same over those among 365.

abbrev pub day_row : ℕ
day_row = 0

abbrev pub sum_row : ℕ
sum_row = 1

abbrev pub tot_row : ℕ
tot_row = 2

abbrev pub off_row : ℕ
off_row = 3

-- where the entry of date d stands in row r of category c
unfoldable pub day_index : ℕ → ℕ → ℕ → ℕ → ℕ
day_index T c r d = (4 * c + r) * T + d

-- what is kept of a category's date beside its sums
pub record DayEntries : Type 0 where
  pub day : ℕ
  pub tot : ℕ
  pub off : ℕ

abbrev pub not_run_entries : DayEntries
not_run_entries = record { day = 0; tot = 0; off = 0 }

unfoldable pub day_entry : ℕ → ℕ → ℕ → ℕ
day_entry fresh blanks oldest = fresh + 65536 * blanks + 4294967296 * oldest + 281474976710656

-- the day of a category's cells on a date
unfoldable pub day_entry_of : ℕ → (ℕ → Cell) → ℕ
day_entry_of periods cells = day_entry (fresh_among periods cells) (blanks_among periods cells) (oldest_among periods cells)

unfoldable pub tot_entry : ℕ → ℕ
tot_entry tot = tot + 281474976710656

-- the values of a category's cells on a date, all of them or those in its window
unfoldable pub tot_among : ℕ → (ℕ → Cell) → ℕ
tot_among periods cells = sum_below periods (λ k. (cells k).value)

unfoldable pub off_among : ℕ → Window → ℕ → (ℕ → Cell) → ℕ
off_among duration window periods cells =
    sum_below periods (λ k. cond (lies_within duration window.start window.end (suc k)) (cells k).value 0)

unfoldable pub day_entries_of : ℕ → Window → ℕ → (ℕ → Cell) → DayEntries
day_entries_of duration window periods cells =
    record { day = day_entry_of periods cells; tot = tot_entry (tot_among periods cells); off = off_among duration window periods cells }

-- FRESH + 2 ^ 16 BLANK of a day, and each of them
unfoldable pub counts_of : ℕ → ℕ
counts_of entry = entry % 4294967296

unfoldable pub day_fresh : ℕ → ℕ
day_fresh entry = entry % 65536

unfoldable pub day_blanks : ℕ → ℕ
day_blanks entry = entry / 65536 % 65536

unfoldable pub is_run_day : ℕ → ℕ → List ℕ → ℕ → Bool
is_run_day T c days d = not (slice_index days (day_index T c day_row d) == 0)

unfoldable pub coverage_of : ℕ → ℕ → Coverage
coverage_of entry sum =
    record {
      fresh7 = sum % 65536;
      blanks7 = sum / 65536 % 65536;
      fresh365 = sum / 4294967296 % 65536;
      blanks365 = sum / 281474976710656 % 65536;
      oldest = entry / 4294967296 % 65536;
    }

-- in an entry of TOT or OFF, or in a sum of such entries: the Wh, and the number of run dates
unfoldable pub energy_of : ℕ → ℕ
energy_of entry = entry % 281474976710656

unfoldable pub run_dates_of : ℕ → ℕ
run_dates_of entry = entry / 281474976710656

-- with window 0 there is no PEAK
unfoldable pub peak_of : ℕ → ℕ → ℕ → ℕ
peak_of w tot off = cond (w == 0) 0 (tot - off)

-- from a date's entries, and from those of TOT and OFF summed over a week and of TOT over a year
unfoldable pub totals_of : ℕ → DayEntries → ℕ → ℕ → ℕ → Totals
totals_of w entries week offWeek year =
    record {
      tot = energy_of entries.tot;
      off = energy_of entries.off;
      peak = peak_of w (energy_of entries.tot) (energy_of entries.off);
      tot7 = energy_of week;
      off7 = energy_of offWeek;
      peak7 = peak_of w (energy_of week) (energy_of offWeek);
      days7 = run_dates_of week;
      ann = annual (energy_of year) (run_dates_of year);
      days = run_dates_of year;
      fresh = day_fresh entries.day;
      blanks = day_blanks entries.day;
    }
