-- What is promised, in the scope paper's words. The proofs are in proofs/Agreement.antt, and in proofs/Demands.antt and the files there whose names end in Demands.
use Rattle.std.specs.Prelude.{◌≡◌, ℕ, zero, suc, ◌+◌, ◌-◌, ◌*◌, ◌/◌, ◌%◌, ◌<◌, ◌≤◌, Bool, true, false, cond, not, ◌&&◌, ltb, ◌≢◌, ◌⊎◌, ◌↔◌, List, [], ◌∷◌, ◌++◌, map, length, take, ℤ, pos, ◌+ℤ◌, ◌-ℤ◌, neg_ℤ, ◌==◌, nat_eq, nat_lt, slice_index, slice_index_or}
use Rattle.std.proofs.Math.Option.{Option, none, some}
use Rattle.metering.specs.Mpan.{mpan_valid}
use Rattle.metering.specs.Calendar.{duration_known, periods_per_day}
use Rattle.metering.specs.Sum.{sum_below}
use Rattle.metering.specs.Average.{Rounded}
use Rattle.ledger.specs.Method.{Category, method_windows, same_family, Picture, watt_hours, present, total, absent, fresh_in, Flag, A, D, E, N, flag_number, Cell, blank, carried, cell_from, latest, moved_cell, Coverage}
use Rattle.ledger.specs.Table.{tabulate, chosen_below}
use Rattle.ledger.specs.Net.{active_import, active_export, on_side, sum_over, any_of, net_on}
use Rattle.ledger.specs.Band.{BandCall}
use Rattle.ledger.specs.Fill.{ShapeOf, of_category, of_opted_out, FillCall, weight_by, may_fill, remainder_of, left_over, filled_values}
use Rattle.ledger.specs.Checks.{Registration, RegistrationCall, registered, in_force, appointed, found_in, ReceptionCall, end_minute, quality, watt_hours_at, opening_check, NetCall, may_net, PreviewCall, RowCall, is_published}
use Rattle.ledger.specs.Sizes.{settings_length, meters_length, readings_length, cells_length, days_length}
use Rattle.ledger.specs.Ledger.{Opening, windows, window_places, window, categories, dates, periods, category, day_type, Meter, Ledger, Call, register, start, receive, run, read_totals, read_cell, read_net, search_band, fill_hole, read_coverage, preview, read_row, Answer, refused, accepted, moved, totals_are, cell_is, net_is, band_is, filled_are, coverage_is, row_is, answer, Lengths, least_lengths, meters_short, cells_short, any_short, meter_with, registrations_of, cell_at, day_of, is_run, picture_of, after_run, moved_between, totals_at, side_at, net_at, band_at, shape_at, fill_at, coverage_at, row_shown, ledger_answer, ledger_after}
use Rattle.ledger.specs.Store.{categories_of, row_length, category_of}
use Rattle.ledger.specs.Calls.{opening_verdict, family_for, tally, family_tally}
use Rattle.ledger.specs.Engine.{Parts, call_answer, with_draft, leaves, opened_parts, Item, store_answers, cut_lengths, lengths_of, AreBytes, BodiesOfBytes, Every, draft_of}

-- ---- Demand 2, registrations: which one is in force on a date, and which one is appointed

-- date and minute of a registration
abbrev pub date_of : Registration → ℕ
date_of r = r.moment / 1440

abbrev pub minute_of : Registration → ℕ
minute_of r = r.moment % 1440

-- they are those of the call that brought it
abbrev pub RegisteredAsGiven : Type 0
RegisteredAsGiven = (a : RegistrationCall) → a.minute ≤ 1439 → (date_of (registered a) ≡ a.date) × (minute_of (registered a) ≡ a.minute)

-- it starts on its date at minute 0, else on the next date
abbrev pub StartsOn : ℕ → ℕ → ℕ → Type 0
StartsOn date minute start = ((minute ≡ 0) × (start ≡ date)) ⊎ ((minute ≢ 0) × (start ≡ date + 1))

abbrev pub StartedBy : ℕ → Registration → Type 0
StartedBy date r = (start : ℕ) → StartsOn (date_of r) (minute_of r) start → start ≤ date

abbrev pub StartsNoLater : Registration → Registration → Type 0
StartsNoLater x r = (start : ℕ) → StartsOn (date_of r) (minute_of r) start → StartedBy start x

-- its date and minute are not after minute 720 of a date
abbrev pub ByMidday : ℕ → Registration → Type 0
ByMidday date r = (date_of r < date) ⊎ ((date_of r ≡ date) × (minute_of r ≤ 720))

abbrev pub DatedNoLater : Registration → Registration → Type 0
DatedNoLater x r = (date_of x < date_of r) ⊎ ((date_of x ≡ date_of r) × (minute_of x ≤ minute_of r))

-- r is the latest of the registrations that are in time; of equals it is the one that came last
pub record IsLatest (InTime : Registration → Type 0) (NoLater : Registration → Registration → Type 0) (rs : List Registration) (r : Registration) : Type 0 where
  pub earlier : List Registration
  pub following : List Registration
  pub among : rs ≡ earlier ++ (r ∷ following)
  pub in_time : InTime r
  pub none_later : Every (λ x. InTime x → NoLater x r) earlier
  pub none_as_late : Every (λ x. InTime x → NoLater r x → ⊥) following

abbrev pub InForceOn : ℕ → List Registration → Registration → Type 0
InForceOn date = IsLatest (StartedBy date) StartsNoLater

abbrev pub AppointedOn : ℕ → List Registration → Registration → Type 0
AppointedOn date = IsLatest (ByMidday date) DatedNoLater

abbrev pub InForceExact : Type 0
InForceExact = (date : ℕ) (rs : List Registration) (r : Registration) → (in_force date rs ≡ some r) ↔ InForceOn date rs r

abbrev pub AppointedExact : Type 0
AppointedExact = (date : ℕ) (rs : List Registration) (r : Registration) → (appointed date rs ≡ some r) ↔ AppointedOn date rs r

-- a date with a category in force always has a sender; the reverse is refusal 7
abbrev pub SenderWhereInForce : Type 0
SenderWhereInForce =
    (date : ℕ) (rs : List Registration) (r : Registration) → in_force date rs ≡ some r → (s : Registration) × (appointed date rs ≡ some s)

-- ---- Demand 2, reception: a meter day is accepted exactly when the conditions hold

-- record k of a body is good under a registration
pub record GoodRecord (o : Opening) (r : Registration) (body : List ℕ) (k : ℕ) : Type 0 where
  pub known_quality : (1 ≤ quality body k) × (quality body k ≤ 14)
  pub ends_a_period : (j : ℕ) × (1 ≤ j) × (j ≤ periods o) × (end_minute body k ≡ j * o.duration)
  pub no_duplicate : (i : ℕ) → i < k → end_minute body i ≢ end_minute body k
  pub de_energised : r.status ≡ 2 → quality body k ≤ 9
  pub connected : r.status ≢ 3
  pub zero_energy : 10 ≤ quality body k → quality body k ≤ 13 → watt_hours_at body k ≡ 0
  pub within_limit : watt_hours_at body k ≤ r.limit

pub record MayReceive (l : Ledger) (n : Lengths) (a : ReceptionCall) : Type 0 where
  pub long_enough : meters_short l.opening n ≡ false
  pub a_date : a.date < dates l.opening
  pub a_number : mpan_valid a.mpan ≡ true
  pub meter : Meter
  pub known : meter_with a.mpan l.known ≡ some meter
  pub registration : Registration
  pub in_force : InForceOn a.date meter.registrations registration
  pub a_category : registration.category < categories l.opening
  pub appointment : Registration
  pub at_midday : AppointedOn a.date meter.registrations appointment
  pub same_sender : a.sender ≡ appointment.sender
  pub same_quantity : a.quantity ≡ (category l.opening registration.category).quantity
  pub same_duration : a.duration ≡ l.opening.duration
  pub whole_records : length a.body % 7 ≡ 0
  pub good_records : (k : ℕ) → k < length a.body / 7 → GoodRecord l.opening registration a.body k

abbrev pub ReceptionExact : Type 0
ReceptionExact =
    (l : Ledger) (n : Lengths) (a : ReceptionCall) → duration_known l.opening.duration ≡ true → (ledger_answer l n (receive a) ≡ accepted) ↔ MayReceive l n a

-- ---- Demand 2: which check fails first

-- a row of the paper's table, as a call meets it: what has to hold, and the number and place that are returned where it does not
pub record Row : Type 1 where
  pub number : ℕ
  pub place : ℕ
  pub holds : Type 0

-- most rows return place 0
abbrev pub row : ℕ → Type 0 → Row
row n P = record { number = n; place = 0; holds = P }

-- those of record i return its place, counted from 1
abbrev pub row_of : ℕ → ℕ → Type 0 → Row
row_of i n P = record { number = n; place = suc i; holds = P }

-- the rows of record 0, then those of record 1, and so on below n
unfoldable pub each_below : ℕ → (ℕ → List Row) → List Row
each_below zero rows = []
each_below (suc n) rows = rows 0 ++ each_below n (λ i. rows (suc i))

abbrev pub AllHold : List Row → Type 0
AllHold [] = Unit {0}
AllHold (r ∷ rows) = r.holds × AllHold rows

-- top to bottom, the first row that does not hold returns number n and place p
abbrev pub FirstFails : List Row → ℕ → ℕ → Type 0
FirstFails [] n p = ⊥
FirstFails (r ∷ rows) n p = ((r.holds → ⊥) × (n ≡ r.number) × (p ≡ r.place)) ⊎ (r.holds × FirstFails rows n p)

-- an answer goes by rows: it is `given` exactly when all hold, and a refusal exactly with the number and place of the first that does not
abbrev pub GoesBy : List Row → Answer → Answer → Type 0
GoesBy rows given heard = ((heard ≡ given) ↔ AllHold rows) × ((n p : ℕ) → (heard ≡ refused n p) ↔ FirstFails rows n p)

-- 1: each part lent has its least length; registration and reception are lent settings, meters and readings, the cell read, the row and the
-- fill settings and cells, the reads of totals and coverage and the band search settings and days, the net read both, opening, run and preview
-- all five
abbrev pub MetersLong : Opening → Lengths → Type 0
MetersLong o n = ((least_lengths o).settings ≤ n.settings) × ((least_lengths o).meters ≤ n.meters) × ((least_lengths o).readings ≤ n.readings)

abbrev pub CellsLong : Opening → Lengths → Type 0
CellsLong o n = ((least_lengths o).settings ≤ n.settings) × ((least_lengths o).cells ≤ n.cells)

abbrev pub DaysLong : Opening → Lengths → Type 0
DaysLong o n = ((least_lengths o).settings ≤ n.settings) × ((least_lengths o).days ≤ n.days)

abbrev pub AllLong : Opening → Lengths → Type 0
AllLong o n = MetersLong o n × ((least_lengths o).cells ≤ n.cells) × ((least_lengths o).days ≤ n.days)

-- opening

-- 3
pub record GoodSizes (o : Opening) : Type 0 where
  pub duration : (o.duration ≡ 15) ⊎ (o.duration ≡ 30)
  pub meters : (1 ≤ o.meters) × (o.meters ≤ 1024)
  pub categories : (C : ℕ) × (1 ≤ C) × (C ≤ 64) × (length o.category_bytes ≡ 8 * C)
  pub dates : (1 ≤ length o.day_types) × (length o.day_types ≤ 800)

-- 19: one of eight that has both its minutes; these come after so many whole periods, in order, and the later one within the day
pub record GoodWindow (o : Opening) (i : ℕ) : Type 0 where
  pub one_of_eight : i < 8
  pub both_minutes : 2 * i + 2 ≤ length o.window_minutes
  pub before : ℕ
  pub until : ℕ
  pub starts : (window o (suc i)).start ≡ before * o.duration
  pub ends : (window o (suc i)).end ≡ until * o.duration
  pub order : (window o (suc i)).start < (window o (suc i)).end
  pub in_the_day : (window o (suc i)).end ≤ 1440

-- 4: the fields of a category record; the window, if any, is one of those whose minutes are there
abbrev pub ValidSmart : Opening → Category → Type 0
ValidSmart o a =
    (a.segment ≡ 1) × (1 ≤ a.group) × (a.group ≤ 14) × (1 ≤ a.domestic) × (a.domestic ≤ 2) × (2 * a.window ≤ length o.window_minutes)

abbrev pub ValidAdvanced : Category → Type 0
ValidAdvanced a = (a.segment ≡ 2) × (a.group ≡ 0) × (a.domestic ≡ 0) × (a.window ≡ 0)

pub record ValidCategory (o : Opening) (a : Category) : Type 0 where
  pub segment : ValidSmart o a ⊎ ValidAdvanced a
  pub quantity : (1 ≤ a.quantity) × (a.quantity ≤ 2)
  pub connection : (1 ≤ a.connection) × (a.connection ≤ 4)

-- the first five are the key
pub record SameKey (a b : Category) : Type 0 where
  pub segment : a.segment ≡ b.segment
  pub group : a.group ≡ b.group
  pub domestic : a.domestic ≡ b.domestic
  pub quantity : a.quantity ≡ b.quantity
  pub connection : a.connection ≡ b.connection

-- a good record has a key that no earlier one has
abbrev pub GoodCategory : Opening → ℕ → Type 0
GoodCategory o i = ValidCategory o (category o i) × ((k : ℕ) → k < i → SameKey (category o k) (category o i) → ⊥)

-- 5
abbrev pub GoodDayType : Opening → ℕ → Type 0
GoodDayType o i = (1 ≤ day_type o i) × (day_type o i ≤ 16)

abbrev pub opening_rows : Opening → Lengths → List Row
opening_rows o n =
    row 3 (GoodSizes o)
    ∷ (each_below (window_places o) (λ i. row_of i 19 (GoodWindow o i) ∷ [])
    ++ (each_below (categories o) (λ i. row_of i 4 (GoodCategory o i) ∷ [])
    ++ (each_below (dates o) (λ i. row_of i 5 (GoodDayType o i) ∷ [])
    ++ (row 1 (AllLong o n)
    ∷ []))))

abbrev pub OpeningExact : Type 0
OpeningExact = (o : Opening) (n : Lengths) → GoesBy (opening_rows o n) accepted (answer (opening_check o (any_short o n)) accepted)

-- so the place of 19 is that of the first bad window, the place of 4, where all windows are good, that of the first bad record, and the place of
-- 5, where all records are good too, that of the first bad day type
abbrev pub FirstBad : (ℕ → Type 0) → ℕ → ℕ → Type 0
FirstBad good n i = (i < n) × ((k : ℕ) → k < i → good k) × (good i → ⊥)

abbrev pub OpeningPlaces : Type 0
OpeningPlaces =
    (o : Opening) (n : Lengths) (i : ℕ) →
    let heard = answer (opening_check o (any_short o n)) accepted in
    let all_windows = (k : ℕ) → k < window_places o → GoodWindow o k in
    ((heard ≡ refused 19 (suc i)) ↔ (GoodSizes o × FirstBad (GoodWindow o) (window_places o) i))
    × ((heard ≡ refused 4 (suc i)) ↔ (GoodSizes o × all_windows × FirstBad (GoodCategory o) (categories o) i))
    × ((heard ≡ refused 5 (suc i)) ↔ (GoodSizes o × all_windows × ((k : ℕ) → k < categories o → GoodCategory o k) × FirstBad (GoodDayType o) (dates o) i))

-- an accepted opening has a start and an end for each of its windows, and eight of them at most
abbrev pub WindowsWhole : Type 0
WindowsWhole =
    (o : Opening) (short : Bool) → (opening_check o short).number ≡ 0 →
    (length o.window_minutes ≡ 2 * windows o) × (windows o ≤ 8) × ((i : ℕ) → i < windows o → GoodWindow o i)

-- and no two categories of an accepted opening share a key
abbrev pub KeysDiffer : Type 0
KeysDiffer =
    (o : Opening) (short : Bool) → (opening_check o short).number ≡ 0 → (i k : ℕ) → i < categories o → k < categories o → i ≢ k →
    SameKey (category o i) (category o k) → ⊥

-- registration

-- 16
pub record GoodFields (o : Opening) (a : RegistrationCall) (start : ℕ) : Type 0 where
  pub minute : a.minute ≤ 1439
  pub category : a.category < categories o
  pub status : (1 ≤ a.status) × (a.status ≤ 3)
  pub starts : start < dates o

-- `meter` is the one that has the MPAN, if it is known
abbrev pub registration_rows : Ledger → Lengths → RegistrationCall → ℕ → Option Meter → List Row
registration_rows l n a start meter =
    row 1 (MetersLong l.opening n)
    ∷ row 9 (a.date < dates l.opening)
    ∷ row 6 (mpan_valid a.mpan ≡ true)
    ∷ row 16 (GoodFields l.opening a start)
    ∷ row 8 (meter ≡ none → length l.known < l.opening.meters)
    ∷ row 10 ((m : Meter) → meter ≡ some m → (rs : List Registration) (r : Registration) → m.registrations ≡ rs ++ (r ∷ []) → (last : ℕ) → StartsOn (date_of r) (minute_of r) last → last < start)
    ∷ row 11 ((m : Meter) → meter ≡ some m → (d : ℕ) → start ≤ d → d < dates l.opening → m.held d ≡ none)
    ∷ row 12 ((m : Meter) → meter ≡ some m → length m.registrations < 8)
    ∷ []

abbrev pub RegistrationExact : Type 0
RegistrationExact =
    (l : Ledger) (n : Lengths) (a : RegistrationCall) (start : ℕ) → StartsOn a.date a.minute start →
    GoesBy (registration_rows l n a start (meter_with a.mpan l.known)) accepted (ledger_answer l n (register a))

-- reception

-- record k of a body
abbrev pub record_rows : Opening → Registration → List ℕ → ℕ → List Row
record_rows o r body k =
    row_of k 13 ((1 ≤ quality body k) × (quality body k ≤ 14))
    ∷ row_of k 1005 ((j : ℕ) × (1 ≤ j) × (j ≤ periods o) × (end_minute body k ≡ j * o.duration))
    ∷ row_of k 1006 ((i : ℕ) → i < k → end_minute body i ≢ end_minute body k)
    ∷ row_of k 1008 (r.status ≡ 2 → quality body k ≤ 9)
    ∷ row_of k 1009 (r.status ≢ 3)
    ∷ row_of k 1011 (10 ≤ quality body k → quality body k ≤ 13 → watt_hours_at body k ≡ 0)
    ∷ row_of k 1012 (watt_hours_at body k ≤ r.limit)
    ∷ []

-- 2, 1001, 1002, 1004, 13: under the registration in force, if there is one; the sender is that of the one appointed
abbrev pub under_rows : Opening → ReceptionCall → Option Registration → Option Registration → List Row
under_rows o a appointment none = []
under_rows o a appointment (some r) =
    row 2 (r.category < categories o)
    ∷ row 1001 ((s : Registration) × (appointment ≡ some s) × (a.sender ≡ s.sender))
    ∷ row 1002 (a.quantity ≡ (category o r.category).quantity)
    ∷ row 1004 (a.duration ≡ o.duration)
    ∷ row 13 ((k : ℕ) × (length a.body ≡ 7 * k))
    ∷ []

-- and before them 1, 9, 6, 7
abbrev pub header_rows : Ledger → Lengths → ReceptionCall → Option Registration → Option Registration → List Row
header_rows l n a appointment current =
    row 1 (MetersLong l.opening n)
    ∷ row 9 (a.date < dates l.opening)
    ∷ row 6 (mpan_valid a.mpan ≡ true)
    ∷ row 7 ((r : Registration) × (current ≡ some r))
    ∷ under_rows l.opening a appointment current

-- then the records
abbrev pub body_rows : Opening → ReceptionCall → Option Registration → List Row
body_rows o a none = []
body_rows o a (some r) = each_below (length a.body / 7) (record_rows o r a.body)

abbrev pub ReceptionAnswer : Type 0
ReceptionAnswer =
    (l : Ledger) (n : Lengths) (a : ReceptionCall) → duration_known l.opening.duration ≡ true →
    let meter = registrations_of (meter_with a.mpan l.known) in
    let current = found_in (in_force a.date) meter in
    GoesBy (header_rows l n a (found_in (appointed a.date) meter) current ++ body_rows l.opening a current) accepted (ledger_answer l n (receive a))

-- so a refusal with a place is that of the first bad record, with the number of the first of its rows that does not hold
abbrev pub ReceptionPlaces : Type 0
ReceptionPlaces =
    (l : Ledger) (n : Lengths) (a : ReceptionCall) (r : Registration) → duration_known l.opening.duration ≡ true →
    let meter = registrations_of (meter_with a.mpan l.known) in
    found_in (in_force a.date) meter ≡ some r →
    (number k : ℕ) →
    (ledger_answer l n (receive a) ≡ refused number (suc k))
    ↔ (AllHold (header_rows l n a (found_in (appointed a.date) meter) (some r)) × (k < length a.body / 7) × ((i : ℕ) → i < k → GoodRecord l.opening r a.body i)
    × FirstFails (record_rows l.opening r a.body k) number (suc k))

-- run and reads

-- 14: for each date there is a picture, or "not run"
abbrev pub HasPicture : Ledger → ℕ → Type 0
HasPicture l d = (p : Picture) × (l.pictures d ≡ some p)

abbrev pub RunExact : Type 0
RunExact =
    (l : Ledger) (n : Lengths) (d : ℕ) →
    GoesBy (row 1 (AllLong l.opening n) ∷ row 9 (d < dates l.opening) ∷ [])
    (moved (moved_between l.opening (cell_at l) (cell_at (after_run l d))))
    (ledger_answer l n (run d))

abbrev pub TotalsExact : Type 0
TotalsExact =
    (l : Ledger) (n : Lengths) (d c : ℕ) →
    GoesBy
    (row 1 (DaysLong l.opening n) ∷ row 9 (d < dates l.opening) ∷ row 15 (c < categories l.opening) ∷ row 14 (HasPicture l d) ∷ [])
    (totals_are (totals_at l d c))
    (ledger_answer l n (read_totals d c))

abbrev pub CellExact : Type 0
CellExact =
    (l : Ledger) (n : Lengths) (d c j : ℕ) →
    GoesBy
    (row 1 (CellsLong l.opening n)
    ∷ row 9 (d < dates l.opening)
    ∷ row 15 ((c < categories l.opening) × (1 ≤ j) × (j ≤ periods l.opening))
    ∷ row 14 (HasPicture l d)
    ∷ [])
    (cell_is (cell_at l d c j))
    (ledger_answer l n (read_cell d c j))

-- ---- Families

-- Smart categories alike in domestic, quantity and connection
pub record SameFamily (a b : Category) : Type 0 where
  pub smart : (a.segment ≡ 1) × (b.segment ≡ 1)
  pub same_domestic : a.domestic ≡ b.domestic
  pub same_quantity : a.quantity ≡ b.quantity
  pub same_connection : a.connection ≡ b.connection

-- each Smart category is of its own family and an Advanced one of none; of two in one family either is in the other's
abbrev pub FamilyExact : Type 0
FamilyExact =
    ((a b : Category) → (same_family a b ≡ true) ↔ SameFamily a b)
    × ((a : Category) → a.segment ≡ 1 → same_family a a ≡ true)
    × ((a b : Category) → a.segment ≡ 2 → (same_family a b ≡ false) × (same_family b a ≡ false))
    × ((a b : Category) → same_family a b ≡ same_family b a)

-- each number is below those after it
abbrev pub Upward : List ℕ → Type 0
Upward [] = Unit {0}
Upward (x ∷ xs) = Every (λ y. x < y) xs × Upward xs

-- the family that a run takes of category c, on any store: a list, upward and so each once, of exactly those of the categories that are of the paper's
-- family, and of none where the category is not Smart
abbrev pub FamilyListed : Type 0
FamilyListed =
    (settings : List ℕ) (c : ℕ) →
    Upward (family_for settings c)
    × ((b : ℕ) → (any_of (family_for settings c) (nat_eq b) ≡ true) ↔ ((b < categories_of settings) × SameFamily (category_of settings c) (category_of settings b)))
    × ((category_of settings c).segment ≢ 1 → family_for settings c ≡ [])

-- S and K of the run's contract are sums over it
abbrev pub FamilySummed : Type 0
FamilySummed =
    (settings meters readings : List ℕ) (date : ℕ) (measure : Option ℕ → ℕ) (c j : ℕ) →
    family_tally settings meters readings date measure c j ≡ sum_over (family_for settings c) (λ b. tally settings meters readings date measure b j)

-- ---- Demand 2, runs and reads

-- after a run each cell of the date is METH005's: its own shape, or what the nearest earlier run date of its day type left
abbrev pub RunIsMethod : Type 0
RunIsMethod =
    (l : Ledger) (d c j : ℕ) →
    cell_at (after_run l d) d c j
    ≡ cell_from d (fresh_in (category l.opening) (picture_of d l.known) c j)
    (latest (day_type l.opening) (λ x. day_of (category l.opening) c j (l.pictures x)) (day_type l.opening d) d)

-- a read never says 14 of a run date
abbrev pub NeverNotRun : Type 0
NeverNotRun =
    (l : Ledger) (n : Lengths) (d c j : ℕ) → is_run l d ≡ true →
    (ledger_answer l n (read_cell d c j) ≢ refused 14 0) × (ledger_answer l n (read_totals d c) ≢ refused 14 0)
    × (ledger_answer l n (read_coverage d c) ≢ refused 14 0)

-- ---- Demand 2, the nearest earlier run date

-- e is a run date before d with the same day type
pub record Earlier (l : Ledger) (e d : ℕ) : Type 0 where
  pub before : e < d
  pub is_run : is_run l e ≡ true
  pub same_type : day_type l.opening e ≡ day_type l.opening d

-- and the nearest: no other lies between the two
pub record Nearest (l : Ledger) (e d : ℕ) : Type 0 where
  pub earlier : Earlier l e d
  pub none_between : (x : ℕ) → e < x → Earlier l x d → ⊥

-- what date d takes over
abbrev pub taken_over : Ledger → ℕ → ℕ → ℕ → Cell
taken_over l d c j = latest (day_type l.opening) (λ x. day_of (category l.opening) c j (l.pictures x)) (day_type l.opening d) d

-- b copies a: value, count, origin and remainder, under flag E
pub record CopyOf (a b : Cell) : Type 0 where
  pub flagged : b.flag ≡ E
  pub same_value : b.value ≡ a.value
  pub same_count : b.count ≡ a.count
  pub same_origin : b.origin ≡ a.origin
  pub same_remainder : b.remainder ≡ a.remainder

-- flag N, value 0, count 0, origin 65535, remainder 0
pub record NoShape (a : Cell) : Type 0 where
  pub flagged : a.flag ≡ N
  pub no_value : a.value ≡ 0
  pub no_count : a.count ≡ 0
  pub no_origin : a.origin ≡ 65535
  pub no_remainder : a.remainder ≡ pos 0

-- it is the cell of the nearest earlier run date of its day type, and without a shape where there is none
abbrev pub NearestEarlier : Type 0
NearestEarlier =
    (l : Ledger) (d c j : ℕ) →
    ((e : ℕ) → Nearest l e d → taken_over l d c j ≡ cell_at l e c j) × (((e : ℕ) → Earlier l e d → ⊥) → NoShape (taken_over l d c j))

-- a cell that is not N is carried as its copy, N as no shape
abbrev pub CarriedExact : Type 0
CarriedExact = (a : Cell) → (a.flag ≢ N → CopyOf a (carried a)) × (a.flag ≡ N → NoShape (carried a))

-- so a run date without a shape of its own carries the cell of that date, and has no shape where there is none
abbrev pub CarriesNearest : Type 0
CarriesNearest =
    (l : Ledger) (d c j : ℕ) (picture : Picture) → l.pictures d ≡ some picture → fresh_in (category l.opening) picture c j ≡ absent →
    ((e : ℕ) → Nearest l e d → cell_at l d c j ≡ carried (cell_at l e c j)) × (((e : ℕ) → Earlier l e d → ⊥) → NoShape (cell_at l d c j))

-- ---- Demand 2, totals

-- the run dates among d and the n − 1 before it, upward
abbrev pub run_dates_among : Ledger → ℕ → ℕ → List ℕ
run_dates_among l n d = chosen_below (suc d) (λ x. nat_lt d (x + n) && is_run l x)

-- TOT7, OFF7 and PEAK7 are sums over the run dates among this and the 6 before; days7 counts them
abbrev pub WeekExact : Type 0
WeekExact =
    (l : Ledger) (d c : ℕ) →
    let week = run_dates_among l 7 d in
    ((totals_at l d c).tot7 ≡ sum_over week (λ x. (totals_at l x c).tot))
    × ((totals_at l d c).off7 ≡ sum_over week (λ x. (totals_at l x c).off))
    × ((totals_at l d c).peak7 ≡ sum_over week (λ x. (totals_at l x c).peak))
    × ((totals_at l d c).days7 ≡ length week)

-- days counts the run dates among this and the 364 before. ANN is their TOT sum where there are 365, and of any run date the whole number
-- nearest to 365 times that sum over days, halves up: the quotient is less than ANN + 1/2 and at least ANN − 1/2
abbrev pub YearExact : Type 0
YearExact =
    (l : Ledger) (d c : ℕ) →
    let days = length (run_dates_among l 365 d) in
    let sum = sum_over (run_dates_among l 365 d) (λ x. (totals_at l x c).tot) in
    ((totals_at l d c).days ≡ days)
    × (days ≡ 365 → (totals_at l d c).ann ≡ sum)
    × (is_run l d ≡ true → (2 * (sum * 365) < 2 * days * (totals_at l d c).ann + days) × (2 * days * (totals_at l d c).ann ≤ 2 * (sum * 365) + days))

-- TOT is the sum of the values of periods 1 to P
abbrev pub TotIsSum : Type 0
TotIsSum = (l : Ledger) (d c : ℕ) → (totals_at l d c).tot ≡ sum_over (tabulate (periods l.opening) suc) (λ j. (cell_at l d c j).value)

-- with a window OFF and PEAK make up TOT, on a date and over seven; with window 0 all four are 0
abbrev pub OffAndPeak : Type 0
OffAndPeak =
    (l : Ledger) (d c : ℕ) → duration_known l.opening.duration ≡ true →
    ((category l.opening c).window ≢ 0 →
    ((totals_at l d c).peak + (totals_at l d c).off ≡ (totals_at l d c).tot) × ((totals_at l d c).peak7 + (totals_at l d c).off7 ≡ (totals_at l d c).tot7))
    × ((category l.opening c).window ≡ 0 →
    ((totals_at l d c).off ≡ 0) × ((totals_at l d c).peak ≡ 0) × ((totals_at l d c).off7 ≡ 0) × ((totals_at l d c).peak7 ≡ 0))

-- the periods from one minute of the grid to another
abbrev pub periods_from : ℕ → ℕ → ℕ → List ℕ
periods_from duration start end = tabulate (end / duration - start / duration) (λ k. start / duration + suc k)

-- what a category's periods come to on a date
abbrev pub values_over : Ledger → ℕ → List ℕ → ℕ → ℕ
values_over l c js d = sum_over js (λ j. (cell_at l d c j).value)

-- OFF and PEAK are those of so many off-peak and so many peak periods, on a date and over seven
pub record OffAndPeakOver (l : Ledger) (d c : ℕ) (offPeak peak : List ℕ) : Type 0 where
  pub off : (totals_at l d c).off ≡ values_over l c offPeak d
  pub peak_is : (totals_at l d c).peak ≡ values_over l c peak d
  pub off7 : (totals_at l d c).off7 ≡ sum_over (run_dates_among l 7 d) (values_over l c offPeak)
  pub peak7 : (totals_at l d c).peak7 ≡ sum_over (run_dates_among l 7 d) (values_over l c peak)

-- they are the periods from a window's start to its end, and those before and after it
abbrev pub WindowPeriods : Type 0
WindowPeriods =
    (l : Ledger) (d c i : ℕ) → duration_known l.opening.duration ≡ true → (category l.opening c).window ≡ suc i → GoodWindow l.opening i →
    let from = periods_from l.opening.duration in
    let own = window l.opening (suc i) in
    OffAndPeakOver l d c (from own.start own.end) (from 0 own.start ++ from own.end 1440)

-- so with METH005's two windows they are as METH005 has them (000, 11.1 and 12.1): off-peak 00:00 to 07:00 and peak 07:00 to 00:00, or off-peak
-- 00:30 to 07:30 and peak 00:00 to 00:30 and 07:30 to 00:00. The other totals do not depend on a window
abbrev pub MethodTotals : Type 0
MethodTotals =
    (l : Ledger) (d c : ℕ) → duration_known l.opening.duration ≡ true → l.opening.window_minutes ≡ method_windows →
    let from = periods_from l.opening.duration in
    ((category l.opening c).window ≡ 1 → OffAndPeakOver l d c (from 0 420) (from 420 1440))
    × ((category l.opening c).window ≡ 2 → OffAndPeakOver l d c (from 30 450) (from 0 30 ++ from 450 1440))

-- and with a window that is the whole day OFF is TOT, and PEAK is 0
abbrev pub WholeDay : Type 0
WholeDay =
    (l : Ledger) (d c : ℕ) → duration_known l.opening.duration ≡ true →
    let own = window l.opening (category l.opening c).window in
    own.start ≡ 0 → own.end ≡ 1440 →
    ((totals_at l d c).off ≡ (totals_at l d c).tot) × ((totals_at l d c).peak ≡ 0) × ((totals_at l d c).off7 ≡ (totals_at l d c).tot7) × ((totals_at l d c).peak7 ≡ 0)

-- how many periods of a date have a cell with this flag
abbrev pub flagged_on : Ledger → ℕ → ℕ → Flag → ℕ
flagged_on l d c f = length (chosen_below (periods l.opening) (λ k. nat_eq (flag_number (cell_at l d c (suc k)).flag) (flag_number f)))

-- FRESH counts A and D, BLANK counts N, and with the copies they make up all P periods
abbrev pub FlagsCounted : Type 0
FlagsCounted =
    (l : Ledger) (d c : ℕ) →
    ((totals_at l d c).fresh ≡ flagged_on l d c A + flagged_on l d c D)
    × ((totals_at l d c).blanks ≡ flagged_on l d c N)
    × ((totals_at l d c).fresh + (totals_at l d c).blanks + flagged_on l d c E ≡ periods l.opening)

-- ---- Demand 2, on the engine

-- the ledger after a list of calls, each lent parts of the lengths `whole` cut
unfoldable pub ledger_after_items : Ledger → Lengths → List Item → Ledger
ledger_after_items l whole [] = l
ledger_after_items l whole (i ∷ is) = ledger_after_items (ledger_after l (cut_lengths i.lent whole) i.call) whole is

-- and from an opening on, beside the parts p
abbrev pub ledger_beside : Parts → Opening → List Item → Ledger
ledger_beside p a items = ledger_after_items (start a (draft_of a p.draft)) (lengths_of p) items

-- x is the store's answer to i after those items: the last one, behind the answers to them
abbrev pub LastAnswer : Parts → List Item → Item → Answer → Type 0
LastAnswer p items i x = store_answers p (items ++ (i ∷ [])) ≡ store_answers p items ++ (x ∷ [])

-- an opening that is accepted
abbrev pub Accepts : Parts → Opening → Type 0
Accepts p a = (opening_verdict p.settings p.meters p.readings p.cells p.days a).number ≡ 0

-- after any calls a reception is accepted exactly when the conditions hold
abbrev pub EngineReceivesExactly : Type 0
EngineReceivesExactly =
    (p : Parts) (a : Opening) (items : List Item) (n : Lengths) (r : ReceptionCall) → Accepts p a → BodiesOfBytes items → AreBytes r.body →
    LastAnswer (opened_parts p a) items (record { lent = n; call = receive r }) accepted
    ↔ MayReceive (ledger_beside p a items) (cut_lengths n (lengths_of p)) r

-- after any calls a run of a date, lent parts that are long enough, is accepted and reports how many cells differ before and after
abbrev pub EngineRuns : Type 0
EngineRuns =
    (p : Parts) (a : Opening) (items : List Item) (n : Lengths) (d : ℕ) → Accepts p a → BodiesOfBytes items →
    any_short a (cut_lengths n (lengths_of p)) ≡ false → d < dates a →
    let l = ledger_beside p a items in
    LastAnswer (opened_parts p a) items (record { lent = n; call = run d }) (moved (moved_between a (cell_at l) (cell_at (after_run l d))))

-- no run of date d, nor of an earlier date of its day type
abbrev pub Spares : Opening → ℕ → Item → Type 0
Spares a d i = (x : ℕ) → i.call ≡ run x → x ≤ d → day_type a x ≢ day_type a d

-- after an accepted run of d, and any calls that are none of these runs, a cell of d is read as METH005's: from the sets held on d at the
-- run, or what the nearest earlier run date of its day type left
abbrev pub EngineReadsMethod : Type 0
EngineReadsMethod =
    (p : Parts) (a : Opening) (before after : List Item) (lentRun lentRead : Lengths) (d c j moves : ℕ) → Accepts p a → BodiesOfBytes before → BodiesOfBytes after →
    LastAnswer (opened_parts p a) before (record { lent = lentRun; call = run d }) (moved moves) →
    Every (Spares a d) after →
    cells_short a (cut_lengths lentRead (lengths_of p)) ≡ false → c < categories a → 1 ≤ j → j ≤ periods a →
    let l = ledger_beside p a before in
    LastAnswer (opened_parts p a) (before ++ (record { lent = lentRun; call = run d } ∷ after)) (record { lent = lentRead; call = read_cell d c j })
    (cell_is
    (cell_from d (fresh_in (category a) (picture_of d l.known) c j)
    (latest (day_type a) (λ x. day_of (category a) c j (l.pictures x)) (day_type a d) d)))

-- ---- Sizes

-- the least length of each part is at most 64 times (M + C) times T times P entries
abbrev pub PartsBounded : Type 0
PartsBounded =
    (M C T duration : ℕ) → (1 ≤ M) × (M ≤ 1024) → (1 ≤ C) × (C ≤ 64) → (1 ≤ T) × (T ≤ 800) → (duration ≡ 15) ⊎ (duration ≡ 30) →
    let P = periods_per_day duration in
    let most = 64 * (M + C) * T * P in
    (settings_length C T ≤ most) × (meters_length M ≤ most) × (readings_length M T P ≤ most) × (cells_length C T P ≤ most)
    × (days_length C T ≤ most)

-- ---- Consequences

-- running a date twice in a row moves nothing the second time
abbrev pub SecondRunMovesNothing : Type 0
SecondRunMovesNothing =
    (l : Ledger) (n : Lengths) (d : ℕ) → any_short l.opening n ≡ false → d < dates l.opening → ledger_answer (after_run l d) n (run d) ≡ moved 0

-- cells depend on the opening and the pictures alone
abbrev pub SamePicturesSameCells : Type 0
SamePicturesSameCells =
    (l m : Ledger) → l.opening ≡ m.opening → ((d : ℕ) → l.pictures d ≡ m.pictures d) → (d c j : ℕ) → cell_at l d c j ≡ cell_at m d c j

-- the origin of a copied cell is an earlier run date whose own cell is A or D, with the same value, count and remainder
abbrev pub CopiesHaveOrigins : Type 0
CopiesHaveOrigins =
    (l : Ledger) (d c j : ℕ) → (cell_at l d c j).flag ≡ E →
    (is_run l (cell_at l d c j).origin ≡ true)
    × (((cell_at l (cell_at l d c j).origin c j).flag ≡ A) ⊎ ((cell_at l (cell_at l d c j).origin c j).flag ≡ D))
    × ((cell_at l (cell_at l d c j).origin c j).value ≡ (cell_at l d c j).value)
    × ((cell_at l (cell_at l d c j).origin c j).count ≡ (cell_at l d c j).count)
    × ((cell_at l (cell_at l d c j).origin c j).remainder ≡ (cell_at l d c j).remainder)
    × ((cell_at l d c j).origin < d)

-- ---- What rounding dropped (change request 2026-04)

-- a cell averages the chosen categories' readings of a date: its count is theirs, value times count makes up their sum with the remainder, and
-- value and remainder are the only such pair
pub record Averages (l : Ledger) (d : ℕ) (chosen : ℕ → Bool) (j : ℕ) (a : Cell) : Type 0 where
  pub picture : Picture
  pub is_picture : l.pictures d ≡ some picture
  pub counts : a.count ≡ total present chosen picture j
  pub rounds : Rounded (total watt_hours chosen picture j) a.count a.value a.remainder

abbrev pub family_of : Ledger → ℕ → ℕ → Bool
family_of l c b = same_family (category l.opening c) (category l.opening b)

-- an A cell averages its category's readings, a D cell its family's, and a copy what the cell at its origin does
abbrev pub ShowsSum : Ledger → ℕ → ℕ → ℕ → Cell → Type 0
ShowsSum l d c j a =
    (a.flag ≡ A → Averages l d (nat_eq c) j a)
    × (a.flag ≡ D → Averages l d (family_of l c) j a)
    × (a.flag ≡ E →
    (((cell_at l a.origin c j).flag ≡ A) × Averages l a.origin (nat_eq c) j a)
    ⊎ (((cell_at l a.origin c j).flag ≡ D) × Averages l a.origin (family_of l c) j a))

abbrev pub SumsShown : Type 0
SumsShown = (l : Ledger) (d c j : ℕ) → ShowsSum l d c j (cell_at l d c j)

-- on the engine: where the store, after any calls, answers a cell read with a cell, it is such a one, by the pictures of the ledger beside it
abbrev pub EngineShowsSums : Type 0
EngineShowsSums =
    (p : Parts) (a : Opening) (items : List Item) (n : Lengths) (d c j : ℕ) (given : Cell) → Accepts p a → BodiesOfBytes items →
    LastAnswer (opened_parts p a) items (record { lent = n; call = read_cell d c j }) (cell_is given) →
    ShowsSum (ledger_beside p a items) d c j given

-- a cell counts as moved exactly where one of the five differs
abbrev pub MovedExact : Type 0
MovedExact =
    (a b : Cell) →
    ((moved_cell a b ≡ 0) ↔ ((a.flag ≡ b.flag) × (a.value ≡ b.value) × (a.count ≡ b.count) × (a.origin ≡ b.origin) × (a.remainder ≡ b.remainder)))
    × (moved_cell a b ≤ 1)

-- ---- Net reads (change request 2026-13)

-- what it takes to stand on a side of a net: Smart, of the side's quantity, alike in domestic and connection, and in group unless all groups are pooled
pub record OnSide (all_groups : Bool) (quantity : ℕ) (a b : Category) : Type 0 where
  pub smart : (a.segment ≡ 1) × (b.segment ≡ 1)
  pub same_quantity : b.quantity ≡ quantity
  pub same_domestic : b.domestic ≡ a.domestic
  pub same_connection : b.connection ≡ a.connection
  pub same_group : all_groups ≡ false → b.group ≡ a.group

-- a side has exactly these categories, each once: a sum over it is one over all categories in which the others count nothing
abbrev pub SideExact : Type 0
SideExact =
    (l : Ledger) (all_groups : Bool) (quantity c : ℕ) →
    ((f : ℕ → ℕ) → sum_over (side_at l all_groups quantity c) f
    ≡ sum_below (categories l.opening) (λ b. cond (on_side all_groups quantity (category l.opening c) (category l.opening b)) (f b) 0))
    × ((a b : Category) → (on_side all_groups quantity a b ≡ true) ↔ OnSide all_groups quantity a b)

-- 26: the category is Smart import, and there is an export category on the other side
pub record Paired (o : Opening) (all_groups : Bool) (c : ℕ) : Type 0 where
  pub smart : (category o c).segment ≡ 1
  pub imports : (category o c).quantity ≡ 1
  pub partner : (p : ℕ) × (p < categories o) × OnSide all_groups 2 (category o c) (category o p)

-- which check fails first; 1 is for the two lists of results too
abbrev pub NetExact : Type 0
NetExact =
    (l : Ledger) (n : Lengths) (a : NetCall) →
    let o = l.opening in
    GoesBy
    (row 1 (DaysLong o n × CellsLong o n × (periods o ≤ a.numbers) × (periods o ≤ a.marks))
    ∷ row 9 (a.date < dates o)
    ∷ row 15 (a.category < categories o)
    ∷ row 26 (Paired o a.all_groups a.category)
    ∷ row 14 (HasPicture l a.date)
    ∷ [])
    (net_is (net_at l a))
    (ledger_answer l n (read_net a))

-- in the first form a category that may be netted stands alone on its side, and one partner on the other
abbrev pub OwnGroupPair : Type 0
OwnGroupPair =
    (l : Ledger) (short : Bool) (c : ℕ) →
    (opening_check l.opening short).number ≡ 0 →
    c < categories l.opening →
    may_net (category l.opening) (categories l.opening) false c ≡ true →
    (p : ℕ) × (p < categories l.opening) × OnSide false active_export (category l.opening c) (category l.opening p)
    × (side_at l false active_import c ≡ c ∷ []) × (side_at l false active_export c ≡ p ∷ [])

-- the sum of a list of signed numbers
unfoldable pub signed_total : List ℤ → ℤ
signed_total [] = pos 0
signed_total (x ∷ xs) = x +ℤ signed_total xs

-- net TOT is the sum of the net periods
abbrev pub NetTotIsSum : Type 0
NetTotIsSum = (l : Ledger) (a : NetCall) → (net_at l a).tot ≡ signed_total (net_at l a).periods

-- net TOT is TOT of the import side less TOT of the export side, and net TOT7 the same of TOT7
abbrev pub NetOfTotals : Type 0
NetOfTotals =
    (l : Ledger) (a : NetCall) →
    let imports = side_at l a.all_groups active_import a.category in
    let exports = side_at l a.all_groups active_export a.category in
    ((net_at l a).tot ≡ pos (sum_over imports (λ c. (totals_at l a.date c).tot)) -ℤ pos (sum_over exports (λ c. (totals_at l a.date c).tot)))
    × ((net_at l a).tot7 ≡ pos (sum_over imports (λ c. (totals_at l a.date c).tot7)) -ℤ pos (sum_over exports (λ c. (totals_at l a.date c).tot7)))

-- so in the first form they are those of the category asked for less those of its partner
abbrev pub OwnGroupNetOfTotals : Type 0
OwnGroupNetOfTotals =
    (l : Ledger) (short : Bool) (a : NetCall) →
    (opening_check l.opening short).number ≡ 0 →
    a.all_groups ≡ false →
    a.category < categories l.opening →
    may_net (category l.opening) (categories l.opening) false a.category ≡ true →
    (p : ℕ) × OnSide false active_export (category l.opening a.category) (category l.opening p)
    × ((net_at l a).tot ≡ pos (totals_at l a.date a.category).tot -ℤ pos (totals_at l a.date p).tot)
    × ((net_at l a).tot7 ≡ pos (totals_at l a.date a.category).tot7 -ℤ pos (totals_at l a.date p).tot7)

-- a mark is 0 exactly where none of the cells summed for the period is N, and else 1
abbrev pub MarkExact : Type 0
MarkExact =
    (l : Ledger) (a : NetCall) (k : ℕ) → k < periods l.opening →
    let summed = side_at l a.all_groups active_import a.category ++ side_at l a.all_groups active_export a.category in
    ((slice_index (net_at l a).marks k ≡ 0) ↔ Every (λ c. (cell_at l a.date c (suc k)).flag ≢ N) summed)
    × (slice_index (net_at l a).marks k ≤ 1)

-- a period where all cells summed are N nets to 0 with mark 1
abbrev pub NothingNetsToZero : Type 0
NothingNetsToZero =
    (l : Ledger) (a : NetCall) (k : ℕ) → k < periods l.opening →
    may_net (category l.opening) (categories l.opening) a.all_groups a.category ≡ true →
    Every (λ c. (cell_at l a.date c (suc k)).flag ≡ N) (side_at l a.all_groups active_import a.category ++ side_at l a.all_groups active_export a.category) →
    (slice_index_or (net_at l a).periods k (pos 1) ≡ pos 0) × (slice_index (net_at l a).marks k ≡ 1)

-- exchanging the two lists of categories changes every sign, and no mark; zero stays zero
abbrev pub SidesExchanged : Type 0
SidesExchanged =
    (periods : ℕ) (is_run : ℕ → Bool) (cell : ℕ → ℕ → ℕ → Cell) (imports exports : List ℕ) (d : ℕ) →
    let net = net_on periods is_run cell imports exports d in
    let exchanged = net_on periods is_run cell exports imports d in
    (exchanged.tot ≡ neg_ℤ net.tot) × (exchanged.tot7 ≡ neg_ℤ net.tot7) × (exchanged.periods ≡ map neg_ℤ net.periods) × (exchanged.marks ≡ net.marks)
    × (neg_ℤ (pos 0) ≡ pos 0)

-- ---- Band searches (change request 2026-14)

-- which check fails first: a search has no date
abbrev pub BandAnswer : Type 0
BandAnswer =
    (l : Ledger) (n : Lengths) (a : BandCall) →
    GoesBy (row 1 (DaysLong l.opening n) ∷ row 15 (a.category < categories l.opening) ∷ []) (band_is (band_at l a)) (ledger_answer l n (search_band a))

-- what it takes for a date to be found
pub record InBand (l : Ledger) (a : BandCall) (d : ℕ) : Type 0 where
  pub a_date : d < dates l.opening
  pub is_run : is_run l d ≡ true
  pub of_type : day_type l.opening d ≡ a.day_type
  pub known_type : (1 ≤ a.day_type) × (a.day_type ≤ 16)
  pub within : (a.least ≤ (totals_at l d a.category).tot) × ((totals_at l d a.category).tot ≤ a.most)

-- the same search with a list that has room for every date
abbrev pub with_room : ℕ → BandCall → BandCall
with_room n a = record { category = a.category; day_type = a.day_type; least = a.least; most = a.most; room = n }

abbrev pub all_dates : Ledger → BandCall → List ℕ
all_dates l a = (band_at l (with_room (dates l.opening) a)).dates

-- such a list has exactly the dates within the band, each once, upward
abbrev pub BandExact : Type 0
BandExact = (l : Ledger) (a : BandCall) → ((d : ℕ) → (any_of (all_dates l a) (nat_eq d) ≡ true) ↔ InBand l a d) × Upward (all_dates l a)

-- any other list gets the first of them, as many as it holds; the numbers are those of the dates written and of all
abbrev pub BandCounts : Type 0
BandCounts =
    (l : Ledger) (a : BandCall) →
    ((band_at l a).dates ≡ take a.room (all_dates l a))
    × ((band_at l a).written ≡ length (band_at l a).dates)
    × ((band_at l a).found ≡ length (all_dates l a))

-- ---- Filling a hole (change request 2026-01)

-- a Smart domestic category with this group, quantity and connection
pub record OptedOutShape (group quantity connection : ℕ) (a : Category) : Type 0 where
  pub smart : a.segment ≡ 1
  pub domestic : a.domestic ≡ 1
  pub same_group : a.group ≡ group
  pub same_quantity : a.quantity ≡ quantity
  pub same_connection : a.connection ≡ connection

-- category c is one whose shape is asked for: the category named, or one for a meter opted out of half-hours
abbrev pub HasShape : Opening → ShapeOf → ℕ → Type 0
HasShape o (of_category x) c = (c < categories o) × (c ≡ x)
HasShape o (of_opted_out group quantity connection) c = (c < categories o) × OptedOutShape group quantity connection (category o c)

-- of an accepted opening at most one category is, and that is the one taken
abbrev pub ShapeExact : Type 0
ShapeExact =
    (l : Ledger) (short : Bool) (a : FillCall) → (opening_check l.opening short).number ≡ 0 → (c : ℕ) →
    HasShape l.opening a.shape c ↔ ((c < categories l.opening) × (shape_at l a ≡ c))

-- below, k periods come before the one meant; any mark but 0 says that it is missing
abbrev pub IsMissing : List ℕ → ℕ → Type 0
IsMissing marks k = slice_index marks k ≢ 0

-- the sum of the missing periods' values
abbrev pub missing_sum : ℕ → List ℕ → (ℕ → ℕ) → ℕ
missing_sum periods marks value = sum_over (chosen_below periods (λ k. not (slice_index marks k == 0))) value

-- the values of the shape on the date
abbrev pub shape_value : Ledger → FillCall → ℕ → ℕ
shape_value l a k = (cell_at l a.date (shape_at l a) (suc k)).value

-- which check fails first; 1 is for marks and result too, and 17 asks that a period is missing and that the missing periods' values do not sum to 0
abbrev pub FillExact : Type 0
FillExact =
    (l : Ledger) (n : Lengths) (a : FillCall) →
    let o = l.opening in
    GoesBy
    (row 1 (CellsLong o n × (periods o ≤ length a.marks) × (periods o ≤ a.room))
    ∷ row 9 (a.date < dates o)
    ∷ row 15 ((c : ℕ) × HasShape o a.shape c)
    ∷ row 14 (HasPicture l a.date)
    ∷ row 17 (((k : ℕ) × (k < periods o) × IsMissing a.marks k) × (missing_sum (periods o) a.marks (shape_value l a) ≢ 0))
    ∷ [])
    (filled_are (fill_at l a))
    (ledger_answer l n (fill_hole a))

-- what the paper asks of the numbers given to the periods
pub record Shared (periods : ℕ) (marks : List ℕ) (value : ℕ → ℕ) (advance : ℕ) (given : List ℕ) : Type 0 where
  -- P numbers, 0 where nothing was missing
  pub long : length given ≡ periods
  pub not_missing : (k : ℕ) → k < periods → slice_index marks k ≡ 0 → slice_index given k ≡ 0
  -- advance times value divided by the sum of the missing periods' values: the whole part and the remainder
  pub part : ℕ → ℕ
  pub remainder : ℕ → ℕ
  pub divided : (k : ℕ) → (advance * value k ≡ part k * missing_sum periods marks value + remainder k) × (remainder k < missing_sum periods marks value)
  -- a missing period gets the whole part, or one Wh more
  pub whole_part : (k : ℕ) → k < periods → IsMissing marks k → (slice_index given k ≡ part k) ⊎ (slice_index given k ≡ part k + 1)
  -- where i gets one more and k does not, i has the larger remainder, or the same and is the earlier
  pub largest_first : (i k : ℕ) → i < periods → k < periods → IsMissing marks i → IsMissing marks k → slice_index given i ≡ part i + 1 → slice_index given k ≡ part k →
      (remainder k < remainder i) ⊎ ((remainder k ≡ remainder i) × (i < k))
  -- they add up to the advance exactly
  pub adds_up : sum_over given (λ v. v) ≡ advance

-- the filled values are the only such numbers
abbrev pub FillUnique : Type 0
FillUnique =
    (periods : ℕ) (marks : List ℕ) (value : ℕ → ℕ) (advance : ℕ) → missing_sum periods marks value ≢ 0 → (given : List ℕ) →
    (given ≡ filled_values periods (weight_by marks value) advance) ↔ Shared periods marks value advance given

-- so a call that is not refused answers with them
abbrev pub Fills : Ledger → Lengths → FillCall → List ℕ → Type 0
Fills l n a given = ledger_answer l n (fill_hole a) ≡ filled_are given

abbrev pub FillShares : Type 0
FillShares =
    (l : Ledger) (n : Lengths) (a : FillCall) (given : List ℕ) → Fills l n a given → Shared (periods l.opening) a.marks (shape_value l a) a.advance given

-- each missing period gets a number less than one Wh away from its exact share, and nothing where its value is 0
abbrev pub FillNear : Type 0
FillNear =
    (l : Ledger) (n : Lengths) (a : FillCall) (given : List ℕ) → Fills l n a given → (k : ℕ) → k < periods l.opening → IsMissing a.marks k →
    let sum = missing_sum (periods l.opening) a.marks (shape_value l a) in
    let share = a.advance * shape_value l a k in
    (slice_index given k * sum < share + sum) × (share < slice_index given k * sum + sum) × (shape_value l a k ≡ 0 → slice_index given k ≡ 0)

-- where one period is missing it gets all of the advance
abbrev pub FillAlone : Type 0
FillAlone =
    (l : Ledger) (n : Lengths) (a : FillCall) (given : List ℕ) → Fills l n a given → (i : ℕ) → i < periods l.opening →
    ((k : ℕ) → k < periods l.opening → IsMissing a.marks k → k ≡ i) → slice_index given i ≡ a.advance

-- nothing is left over, or fewer Wh than there are remainders above 0: one each is enough
abbrev pub LeftOverFew : Type 0
LeftOverFew =
    (periods : ℕ) (weight : ℕ → ℕ) (advance : ℕ) → may_fill periods weight ≡ true →
    (left_over periods weight advance ≡ 0) ⊎ (left_over periods weight advance < length (chosen_below periods (λ k. ltb 0 (remainder_of periods weight advance k))))

-- a fill changes nothing
abbrev pub FillLeavesAll : Type 0
FillLeavesAll = (l : Ledger) (n : Lengths) (p : Parts) (a : FillCall) → (ledger_after l n (fill_hole a) ≡ l) × (leaves p (fill_hole a) ≡ p)

-- on the engine: where the store, after any calls, answers a fill with numbers, they are these, by the shape of the ledger beside it
abbrev pub EngineFills : Type 0
EngineFills =
    (p : Parts) (a : Opening) (items : List Item) (n : Lengths) (r : FillCall) (given : List ℕ) → Accepts p a → BodiesOfBytes items →
    LastAnswer (opened_parts p a) items (record { lent = n; call = fill_hole r }) (filled_are given) →
    Shared (periods a) r.marks (shape_value (ledger_beside p a items) r) r.advance given

-- ---- Coverage reads (change request 2026-02)

-- 1, 9, 15, 14
abbrev pub CoverageExact : Type 0
CoverageExact =
    (l : Ledger) (n : Lengths) (d c : ℕ) →
    GoesBy
    (row 1 (DaysLong l.opening n) ∷ row 9 (d < dates l.opening) ∷ row 15 (c < categories l.opening) ∷ row 14 (HasPicture l d) ∷ [])
    (coverage_is (coverage_at l d c))
    (ledger_answer l n (read_coverage d c))

-- period j of category c on date d has a cell that is not N
pub record Shaped (l : Ledger) (d c j : ℕ) : Type 0 where
  pub a_period : (1 ≤ j) × (j ≤ periods l.opening)
  pub not_blank : (cell_at l d c j).flag ≢ N

-- the sums are those of the totals' FRESH and BLANK over the run dates among this and the 6, or the 364, before; no cell that is not N has an
-- origin before the oldest, and one has it, or all are N and it is 65535
pub record Covered (l : Ledger) (d c : ℕ) (given : Coverage) : Type 0 where
  pub fresh_week : given.fresh7 ≡ sum_over (run_dates_among l 7 d) (λ x. (totals_at l x c).fresh)
  pub blank_week : given.blanks7 ≡ sum_over (run_dates_among l 7 d) (λ x. (totals_at l x c).blanks)
  pub fresh_year : given.fresh365 ≡ sum_over (run_dates_among l 365 d) (λ x. (totals_at l x c).fresh)
  pub blank_year : given.blanks365 ≡ sum_over (run_dates_among l 365 d) (λ x. (totals_at l x c).blanks)
  pub none_older : (j : ℕ) → Shaped l d c j → given.oldest ≤ (cell_at l d c j).origin
  pub one_as_old : ((j : ℕ) × Shaped l d c j × ((cell_at l d c j).origin ≡ given.oldest)) ⊎ (((j : ℕ) → Shaped l d c j → ⊥) × (given.oldest ≡ 65535))

-- on a date below 65535, which says that there is none; an opening has at most 800
abbrev pub CoverageCounts : Type 0
CoverageCounts = (l : Ledger) (d c : ℕ) → d < 65535 → Covered l d c (coverage_at l d c)

-- a coverage read changes nothing
abbrev pub CoverageLeavesAll : Type 0
CoverageLeavesAll = (l : Ledger) (n : Lengths) (p : Parts) (d c : ℕ) → (ledger_after l n (read_coverage d c) ≡ l) × (leaves p (read_coverage d c) ≡ p)

-- on the engine: where the store, after any calls, answers a coverage read with numbers, they are these, by the cells of the ledger beside it
abbrev pub EngineCovers : Type 0
EngineCovers =
    (p : Parts) (a : Opening) (items : List Item) (n : Lengths) (d c : ℕ) (given : Coverage) → Accepts p a → BodiesOfBytes items →
    LastAnswer (opened_parts p a) items (record { lent = n; call = read_coverage d c }) (coverage_is given) →
    Covered (ledger_beside p a items) d c given

-- ---- Previews and rows (change request 2026-05)

-- 18: of the draft's entries as many are lent as a date has cells
abbrev pub DraftLong : Ledger → ℕ → Type 0
DraftLong l lent = (categories l.opening * periods l.opening ≤ lent) × (categories l.opening * periods l.opening ≤ l.draft.room)

abbrev pub PreviewExact : Type 0
PreviewExact =
    (l : Ledger) (n : Lengths) (a : PreviewCall) →
    GoesBy (row 1 (AllLong l.opening n) ∷ row 18 (DraftLong l a.lent) ∷ row 9 (a.date < dates l.opening) ∷ [])
    (moved (moved_between l.opening (cell_at l) (cell_at (after_run l a.date))))
    (ledger_answer l n (preview a))

-- 14 is for published rows alone, the others are for all
abbrev pub RowExact : Type 0
RowExact =
    (l : Ledger) (n : Lengths) (a : RowCall) →
    GoesBy
    (row 1 (CellsLong l.opening n)
    ∷ row 18 (DraftLong l a.lent)
    ∷ row 9 (a.date < dates l.opening)
    ∷ row 15 (a.category < categories l.opening)
    ∷ row 14 (a.switch ≡ 0 → HasPicture l a.date)
    ∷ [])
    (row_is (row_shown l a))
    (ledger_answer l n (read_row a))

-- with a draft that is long enough a preview answers what the run would, a refusal too; and so does the run after it
abbrev pub PreviewIsRun : Type 0
PreviewIsRun =
    (l : Ledger) (n : Lengths) (a : PreviewCall) → DraftLong l a.lent →
    (ledger_answer l n (preview a) ≡ ledger_answer l n (run a.date))
    × (ledger_answer (ledger_after l n (preview a)) n (run a.date) ≡ ledger_answer l n (preview a))

-- after it each row of the draft is what the published row would be after the run, refusals included
abbrev pub DraftIsRun : Type 0
DraftIsRun =
    (l : Ledger) (n m : Lengths) (a : PreviewCall) (moves category switch lent : ℕ) → ledger_answer l n (preview a) ≡ moved moves → switch ≢ 0 →
    ledger_answer (ledger_after l n (preview a)) m (read_row (record { date = a.date; category = category; switch = switch; lent = lent }))
    ≡ ledger_answer (ledger_after l n (run a.date)) m (read_row (record { date = a.date; category = category; switch = 0; lent = lent }))

-- a row has P cells, and a published one those that cell reads give
abbrev pub RowIsCells : Type 0
RowIsCells =
    (l : Ledger) (n : Lengths) (a : RowCall) (cells : List Cell) → ledger_answer l n (read_row a) ≡ row_is cells →
    (length cells ≡ periods l.opening)
    × (a.switch ≡ 0 → (k : ℕ) → k < periods l.opening → ledger_answer l n (read_cell a.date a.category (suc k)) ≡ cell_is (slice_index_or cells k blank))

-- whether a call reads a row of the draft
abbrev pub reads_draft : Call → Bool
reads_draft (register a) = false
reads_draft (receive a) = false
reads_draft (run d) = false
reads_draft (read_totals d c) = false
reads_draft (read_cell d c j) = false
reads_draft (read_net a) = false
reads_draft (search_band a) = false
reads_draft (fill_hole a) = false
reads_draft (read_coverage d c) = false
reads_draft (preview a) = false
reads_draft (read_row a) = not (is_published a)

-- the answers to a list of calls but for those to rows of the draft
unfoldable pub but_draft_rows : List Item → List Answer → List Answer
but_draft_rows [] answers = []
but_draft_rows (i ∷ is) [] = []
but_draft_rows (i ∷ is) (x ∷ xs) = let rest = but_draft_rows is xs in cond (reads_draft i.call) rest (x ∷ rest)

-- a call among others, beside the same list without it: what is answered before and after
pub record AltersRowsOnly (p : Parts) (before : List Item) (i : Item) (later : List Item) : Type 0 where
  pub heard : Answer
  pub after : List Answer
  pub without : List Answer
  pub with_it : store_answers p (before ++ (i ∷ later)) ≡ store_answers p before ++ (heard ∷ after)
  pub without_it : store_answers p (before ++ later) ≡ store_answers p before ++ without
  pub alike : but_draft_rows later after ≡ but_draft_rows later without

-- a preview anywhere among other calls alters no later answer but rows of its draft, on any store whatever
abbrev pub PreviewAltersRowsOnly : Type 0
PreviewAltersRowsOnly =
    (p : Parts) (before : List Item) (n : Lengths) (a : PreviewCall) (later : List Item) → AltersRowsOnly p before (record { lent = n; call = preview a }) later

-- it leaves every part, all of the draft where it is refused, and past the date's entries where it is not
pub record LeavesRest (p : Parts) (a : PreviewCall) : Type 0 where
  pub draft : List ℕ
  pub parts_stand : leaves p (preview a) ≡ with_draft draft p
  pub refusal : (number place : ℕ) → call_answer p (preview a) ≡ refused number place → draft ≡ p.draft
  pub as_long : length draft ≡ length p.draft
  pub rest : (i : ℕ) → row_length p.settings ≤ i → slice_index draft i ≡ slice_index p.draft i

abbrev pub PreviewLeavesRest : Type 0
PreviewLeavesRest = (p : Parts) (a : PreviewCall) → LeavesRest p a

-- on the engine: after any calls a preview with a draft that is long enough is answered, and the run after it is answered the same
abbrev pub EngineForetells : Type 0
EngineForetells =
    (p : Parts) (a : Opening) (items : List Item) (n : Lengths) (r : PreviewCall) → Accepts p a → BodiesOfBytes items →
    categories a * periods a ≤ r.lent → categories a * periods a ≤ length p.draft →
    let previews : Item = record { lent = n; call = preview r } in
    (heard : Answer) × LastAnswer (opened_parts p a) items previews heard
    × LastAnswer (opened_parts p a) (items ++ (previews ∷ [])) (record { lent = n; call = run r.date }) heard
