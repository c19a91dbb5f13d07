-- The plain ledger. It is given the opening, then each call's arguments and the lengths of the parts lent, and works everything out afresh.
use Rattle.std.specs.Prelude.{ℕ, suc, ◌/◌, min, Bool, true, false, cond, ◌&&◌, ◌||◌, List, [], ◌∷◌, ◌++◌, length, ◌==◌, nat_le, nat_lt}
use Rattle.std.proofs.Math.Option.{Option, none, some}
use Rattle.metering.specs.Sum.{sum_below}
use Rattle.ledger.specs.Method.{Category, ReadingSet, Picture, fresh_in, Cell, Day, not_run, ran, cell_on, moved_cell, Totals, totals_on, Coverage, coverage_on}
use Rattle.ledger.specs.Net.{active_import, active_export, side_of, Net, net_on}
use Rattle.ledger.specs.Band.{BandCall, Band, band_on}
use Rattle.ledger.specs.Fill.{FillCall, shape_category, weight_by, may_fill, filled_values}
use Rattle.ledger.specs.Checks.{Registration, RegistrationCall, ReceptionCall, Verdict, verdict, registered, start_of, in_force, registration_check, reception_check, reading_in, any_below, run_check, read_check, totals_in_range, cell_in_range, NetCall, lists_short, may_net, net_check, band_check, fill_check, PreviewCall, RowCall, is_published, preview_check, row_check}
use Rattle.ledger.specs.Table.{tabulate}
use Rattle.ledger.specs.Sizes.{settings_length, meters_length, readings_length, cells_length, days_length, draft_length}
pub use Rattle.ledger.specs.Opening.{Opening, windows, window_places, window, categories, dates, periods, category, day_type}

-- ---- what it keeps

-- a known meter: its registrations in the order in which they came, and the set held for each date, if any
pub record Meter : Type 0 where
  pub mpan : ℕ
  pub registrations : List Registration
  pub held : ℕ → Option ReadingSet

-- the draft beside the store: how many entries it has, and the cell that it shows of each category and period
pub record Draft : Type 0 where
  pub room : ℕ
  pub shown : ℕ → ℕ → Cell

-- for each date the picture, or "not run"
pub record Ledger : Type 0 where
  pub opening : Opening
  pub known : List Meter
  pub pictures : ℕ → Option Picture
  pub draft : Draft

-- at first no meter is known, no set held and no date run; what the draft shows then is given
unfoldable pub start : Opening → Draft → Ledger
start o draft = record { opening = o; known = []; pictures = λ d. none; draft = draft }

-- ---- calls, answers, lengths lent

pub data Call : Type 0 where
  register : RegistrationCall → Call
  receive : ReceptionCall → Call
  run : ℕ → Call
  read_totals : ℕ → ℕ → Call
  read_cell : ℕ → ℕ → ℕ → Call
  read_net : NetCall → Call
  search_band : BandCall → Call
  fill_hole : FillCall → Call
  read_coverage : ℕ → ℕ → Call
  preview : PreviewCall → Call
  read_row : RowCall → Call

-- a refusal has its number and place
pub data Answer : Type 0 where
  refused : ℕ → ℕ → Answer
  accepted : Answer
  moved : ℕ → Answer
  totals_are : Totals → Answer
  cell_is : Cell → Answer
  net_is : Net → Answer
  band_is : Band → Answer
  filled_are : List ℕ → Answer
  coverage_is : Coverage → Answer
  row_is : List Cell → Answer

-- the first failed check's answer, or that of the accepted call
unfoldable pub answer : Verdict → Answer → Answer
answer v given = cond (v.number == 0) given (refused v.number v.place)

-- the same for what is left behind: a refused call changes nothing
unfoldable pub left {ℓ} : {A : Type ℓ} → Verdict → A → A → A
left v before after = cond (v.number == 0) after before

-- the lengths of the parts as they are lent to a call
pub record Lengths : Type 0 where
  pub settings : ℕ
  pub meters : ℕ
  pub readings : ℕ
  pub cells : ℕ
  pub days : ℕ

-- the least that an opening asks of each
abbrev pub least_lengths : Opening → Lengths
least_lengths o =
    record {
      settings = settings_length (categories o) (dates o);
      meters = meters_length o.meters;
      readings = readings_length o.meters (dates o) (periods o);
      cells = cells_length (categories o) (dates o) (periods o);
      days = days_length (categories o) (dates o);
    }

unfoldable pub settings_short : Opening → Lengths → Bool
settings_short o n = nat_lt n.settings (settings_length (categories o) (dates o))

-- registration and reception are lent settings, meters and readings
unfoldable pub meters_short : Opening → Lengths → Bool
meters_short o n =
    settings_short o n || nat_lt n.meters (meters_length o.meters) || nat_lt n.readings (readings_length o.meters (dates o) (periods o))

-- the cell read, the row and the fill are lent settings and cells, the net read days as well
unfoldable pub cells_short : Opening → Lengths → Bool
cells_short o n = settings_short o n || nat_lt n.cells (cells_length (categories o) (dates o) (periods o))

-- the reads of totals and coverage and the band search are lent settings and days
unfoldable pub days_short : Opening → Lengths → Bool
days_short o n = settings_short o n || nat_lt n.days (days_length (categories o) (dates o))

-- an opening, a run and a preview are lent all five
unfoldable pub any_short : Opening → Lengths → Bool
any_short o n =
    meters_short o n || nat_lt n.cells (cells_length (categories o) (dates o) (periods o)) || nat_lt n.days (days_length (categories o) (dates o))

-- ---- registration

unfoldable pub meter_with : ℕ → List Meter → Option Meter
meter_with mpan [] = none
meter_with mpan (m ∷ ms) = let rest = meter_with mpan ms in cond (m.mpan == mpan) (some m) rest

unfoldable pub changed : ℕ → (Meter → Meter) → List Meter → List Meter
changed mpan f [] = []
changed mpan f (m ∷ ms) = let rest = changed mpan f ms in cond (m.mpan == mpan) (f m ∷ ms) (m ∷ rest)

abbrev pub registrations_of : Option Meter → Option (List Registration)
registrations_of none = none
registrations_of (some m) = some m.registrations

abbrev pub is_held : Option ReadingSet → Bool
is_held none = false
is_held (some s) = true

-- whether a set is held on or after a start
unfoldable pub held_from : ℕ → ℕ → Option Meter → Bool
held_from T from none = false
held_from T from (some m) = any_below T (λ d. nat_le from d && is_held (m.held d))

unfoldable pub ledger_registration_check : Ledger → Lengths → RegistrationCall → Verdict
ledger_registration_check l n a =
    verdict
    (registration_check (meters_short l.opening n) (dates l.opening) (categories l.opening)
    (nat_le l.opening.meters (length l.known))
    (held_from (dates l.opening) (start_of a.date a.minute) (meter_with a.mpan l.known))
    (registrations_of (meter_with a.mpan l.known))
    a)

abbrev pub with_registration : Registration → Meter → Meter
with_registration r m = record { mpan = m.mpan; registrations = m.registrations ++ (r ∷ []); held = m.held }

-- a new MPAN becomes a known meter, a known one has one registration more
unfoldable pub register_in : RegistrationCall → Option Meter → List Meter → List Meter
register_in a none ms = ms ++ (record { mpan = a.mpan; registrations = registered a ∷ []; held = λ d. none } ∷ [])
register_in a (some m) ms = changed a.mpan (with_registration (registered a)) ms

unfoldable pub after_registration : Ledger → RegistrationCall → Ledger
after_registration l a =
    record { opening = l.opening; known = register_in a (meter_with a.mpan l.known) l.known; pictures = l.pictures; draft = l.draft }

-- ---- reception

unfoldable pub ledger_reception_check : Ledger → Lengths → ReceptionCall → Verdict
ledger_reception_check l n a =
    reception_check (meters_short l.opening n) (dates l.opening) l.opening.duration (categories l.opening) (category l.opening)
    (registrations_of (meter_with a.mpan l.known))
    a

-- the set that a body brings
unfoldable pub set_of : Opening → List ℕ → ReadingSet
set_of o body j = reading_in o.duration body (length body / 7) j

-- f, but v at d
unfoldable pub at {ℓ} : {A : Type ℓ} → ℕ → A → (ℕ → A) → ℕ → A
at d v f x = cond (x == d) v (f x)

-- the new set replaces the earlier one entirely
abbrev pub with_set : ℕ → ReadingSet → Meter → Meter
with_set date s m = record { mpan = m.mpan; registrations = m.registrations; held = at date (some s) m.held }

unfoldable pub after_reception : Ledger → ReceptionCall → Ledger
after_reception l a =
    record {
      opening = l.opening;
      known = changed a.mpan (with_set a.date (set_of l.opening a.body)) l.known;
      pictures = l.pictures;
      draft = l.draft;
    }

-- ---- cells, made afresh from the pictures

abbrev pub day_of : (ℕ → Category) → ℕ → ℕ → Option Picture → Day
day_of category_of c j none = not_run
day_of category_of c j (some p) = ran (fresh_in category_of p c j)

-- the cells that pictures give
unfoldable pub cell_by : Opening → (ℕ → Option Picture) → ℕ → ℕ → ℕ → Cell
cell_by o pictures d c j = cell_on (day_type o) (λ x. day_of (category o) c j (pictures x)) d

unfoldable pub cell_at : Ledger → ℕ → ℕ → ℕ → Cell
cell_at l d c j = cell_by l.opening l.pictures d c j

abbrev pub is_picture : Option Picture → Bool
is_picture none = false
is_picture (some p) = true

unfoldable pub is_run : Ledger → ℕ → Bool
is_run l d = is_picture (l.pictures d)

-- ---- run

unfoldable pub ledger_run_check : Ledger → Lengths → ℕ → Verdict
ledger_run_check l n date = verdict (run_check (any_short l.opening n) (dates l.opening) date)

abbrev pub held_sets_of : Option ReadingSet → Option Registration → Picture
held_sets_of none r = []
held_sets_of (some s) none = []
held_sets_of (some s) (some r) = record { category = r.category; readings = s } ∷ []

-- the sets held on a date, with the categories of their meters
unfoldable pub picture_of : ℕ → List Meter → Picture
picture_of date [] = []
picture_of date (m ∷ ms) = held_sets_of (m.held date) (in_force date m.registrations) ++ picture_of date ms

unfoldable pub after_run : Ledger → ℕ → Ledger
after_run l date =
    record { opening = l.opening; known = l.known; pictures = at date (some (picture_of date l.known)) l.pictures; draft = l.draft }

-- the paper's "moved": how many cells of all dates, categories and periods differ
unfoldable pub moved_between : Opening → (ℕ → ℕ → ℕ → Cell) → (ℕ → ℕ → ℕ → Cell) → ℕ
moved_between o before after =
    sum_below (dates o) (λ d. sum_below (categories o) (λ c. sum_below (periods o) (λ k. moved_cell (before d c (suc k)) (after d c (suc k)))))

abbrev pub moved_by_run : Ledger → ℕ → ℕ
moved_by_run l d = moved_between l.opening (cell_at l) (cell_at (after_run l d))

-- ---- reads

unfoldable pub ledger_totals_check : Ledger → Lengths → ℕ → ℕ → Verdict
ledger_totals_check l n d c =
    verdict (read_check (days_short l.opening n) (dates l.opening) d (totals_in_range (categories l.opening) c) (is_run l d))

unfoldable pub ledger_cell_check : Ledger → Lengths → ℕ → ℕ → ℕ → Verdict
ledger_cell_check l n d c j =
    verdict
    (read_check (cells_short l.opening n) (dates l.opening) d (cell_in_range (categories l.opening) (periods l.opening) c j) (is_run l d))

unfoldable pub totals_at : Ledger → ℕ → ℕ → Totals
totals_at l d c =
    totals_on l.opening.duration (periods l.opening) (category l.opening c).window (window l.opening (category l.opening c).window) (is_run l) (λ x j. cell_at l x c j) d

unfoldable pub ledger_net_check : Ledger → Lengths → NetCall → Verdict
ledger_net_check l n a =
    verdict
    (net_check (days_short l.opening n || (cells_short l.opening n || lists_short (periods l.opening) a.numbers a.marks))
    (dates l.opening) a.date
    (totals_in_range (categories l.opening) a.category)
    (may_net (category l.opening) (categories l.opening) a.all_groups a.category)
    (is_run l a.date))

-- the categories on one side of a net
unfoldable pub side_at : Ledger → Bool → ℕ → ℕ → List ℕ
side_at l all_groups quantity c = side_of (category l.opening) (categories l.opening) all_groups quantity c

unfoldable pub net_at : Ledger → NetCall → Net
net_at l a =
    net_on (periods l.opening) (is_run l) (cell_at l) (side_at l a.all_groups active_import a.category) (side_at l a.all_groups active_export a.category) a.date

-- a band search has no date: 9 and 14 are none of its checks
unfoldable pub ledger_band_check : Ledger → Lengths → BandCall → Verdict
ledger_band_check l n a = verdict (band_check (days_short l.opening n) (totals_in_range (categories l.opening) a.category))

unfoldable pub band_at : Ledger → BandCall → Band
band_at l a = band_on (dates l.opening) (is_run l) (day_type l.opening) (λ d. (totals_at l d a.category).tot) a

-- the category whose shape a fill takes
unfoldable pub shape_at : Ledger → FillCall → ℕ
shape_at l a = shape_category (category l.opening) (categories l.opening) a.shape

-- what each period of the date counts for
unfoldable pub weight_at : Ledger → FillCall → ℕ → ℕ
weight_at l a = weight_by a.marks (λ k. (cell_at l a.date (shape_at l a) (suc k)).value)

unfoldable pub ledger_fill_check : Ledger → Lengths → FillCall → Verdict
ledger_fill_check l n a =
    verdict
    (fill_check (cells_short l.opening n || lists_short (periods l.opening) (length a.marks) a.room) (dates l.opening) a.date
    (totals_in_range (categories l.opening) (shape_at l a))
    (is_run l a.date)
    (may_fill (periods l.opening) (weight_at l a)))

unfoldable pub fill_at : Ledger → FillCall → List ℕ
fill_at l a = filled_values (periods l.opening) (weight_at l a) a.advance

unfoldable pub ledger_coverage_check : Ledger → Lengths → ℕ → ℕ → Verdict
ledger_coverage_check l n d c =
    verdict (read_check (days_short l.opening n) (dates l.opening) d (totals_in_range (categories l.opening) c) (is_run l d))

unfoldable pub coverage_at : Ledger → ℕ → ℕ → Coverage
coverage_at l d c = coverage_on (periods l.opening) (is_run l) (λ x j. cell_at l x c j) d

-- ---- preview and row

-- a draft is lent cut at its end, as a part is
unfoldable pub draft_short : Ledger → ℕ → Bool
draft_short l lent = nat_lt (min lent l.draft.room) (draft_length (categories l.opening) (periods l.opening))

unfoldable pub ledger_preview_check : Ledger → Lengths → PreviewCall → Verdict
ledger_preview_check l n a = verdict (preview_check (any_short l.opening n) (draft_short l a.lent) (dates l.opening) a.date)

-- the draft shows the date as a run would leave it, and nothing else changes
unfoldable pub after_preview : Ledger → PreviewCall → Ledger
after_preview l a =
    record {
      opening = l.opening;
      known = l.known;
      pictures = l.pictures;
      draft = record { room = l.draft.room; shown = λ c j. cell_at (after_run l a.date) a.date c j };
    }

unfoldable pub ledger_row_check : Ledger → Lengths → RowCall → Verdict
ledger_row_check l n a =
    verdict
    (row_check (cells_short l.opening n) (draft_short l a.lent) (dates l.opening)
    (totals_in_range (categories l.opening) a.category)
    (is_run l a.date)
    a)

-- a category's row, published or of the draft
unfoldable pub row_shown : Ledger → RowCall → List Cell
row_shown l a =
    tabulate (periods l.opening)
    (λ k. cond (is_published a) (cell_at l a.date a.category (suc k)) (l.draft.shown a.category (suc k)))

-- ---- a call

unfoldable pub ledger_answer : Ledger → Lengths → Call → Answer
ledger_answer l n (register a) = answer (ledger_registration_check l n a) accepted
ledger_answer l n (receive a) = answer (ledger_reception_check l n a) accepted
ledger_answer l n (run d) = answer (ledger_run_check l n d) (moved (moved_by_run l d))
ledger_answer l n (read_totals d c) = answer (ledger_totals_check l n d c) (totals_are (totals_at l d c))
ledger_answer l n (read_cell d c j) = answer (ledger_cell_check l n d c j) (cell_is (cell_at l d c j))
ledger_answer l n (read_net a) = answer (ledger_net_check l n a) (net_is (net_at l a))
ledger_answer l n (search_band a) = answer (ledger_band_check l n a) (band_is (band_at l a))
ledger_answer l n (fill_hole a) = answer (ledger_fill_check l n a) (filled_are (fill_at l a))
ledger_answer l n (read_coverage d c) = answer (ledger_coverage_check l n d c) (coverage_is (coverage_at l d c))
ledger_answer l n (preview a) = answer (ledger_preview_check l n a) (moved (moved_by_run l a.date))
ledger_answer l n (read_row a) = answer (ledger_row_check l n a) (row_is (row_shown l a))

unfoldable pub ledger_after : Ledger → Lengths → Call → Ledger
ledger_after l n (register a) = left (ledger_registration_check l n a) l (after_registration l a)
ledger_after l n (receive a) = left (ledger_reception_check l n a) l (after_reception l a)
ledger_after l n (run d) = left (ledger_run_check l n d) l (after_run l d)
ledger_after l n (read_totals d c) = l
ledger_after l n (read_cell d c j) = l
ledger_after l n (read_net a) = l
ledger_after l n (search_band a) = l
ledger_after l n (fill_hole a) = l
ledger_after l n (read_coverage d c) = l
ledger_after l n (preview a) = left (ledger_preview_check l n a) l (after_preview l a)
ledger_after l n (read_row a) = l
