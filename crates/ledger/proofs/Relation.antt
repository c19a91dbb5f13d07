-- The relation between the parts of a store and the plain ledger that each call keeps.
use Rattle.std.proofs.Common.{◌≡◌, ℕ, suc, ◌+◌, ◌*◌, ◌/◌, ◌%◌, ◌<◌, ◌≤◌, false, cond, ◌≢◌, ◌⊎◌, List, [], ◌∷◌, length, get_or}
use mathlib.Core.Option.{Option, none, some}
use Rattle.ledger.specs.Method.{Category, ReadingSet, Picture, watt_hours, Fresh, absent, fresh_in}
use Rattle.ledger.specs.Checks.{Registration}
use Rattle.ledger.specs.Sizes.{settings_length, meters_length, readings_length, cells_length, days_length}
use Rattle.ledger.specs.Ledger.{Opening, window, categories, dates, periods, category, day_type, Meter, Draft, Ledger, is_held, cell_by, is_picture}
use Rattle.ledger.specs.Store.{duration_of, meters_of, categories_of, dates_of, window_of, category_of, day_type_of, mpan_at, registration_at, registrations_at, is_held_at, reading_at, cell_of_entry, DayEntries, not_run_entries, day_entries_of}
use Rattle.ledger.proofs.Rows.{CellsAre}
use Rattle.ledger.proofs.Days.{DaysAre}

-- ---- the ledger by itself

-- an opening that was accepted
pub record Valid (o : Opening) : Type 0 where
  pub duration : (o.duration ≡ 15) ⊎ (o.duration ≡ 30)
  pub meters : (1 ≤ o.meters) × (o.meters ≤ 1024)
  pub categories_are : (1 ≤ categories o) × (categories o ≤ 64)
  pub dates_are : (1 ≤ dates o) × (dates o ≤ 800)
  pub whole : length o.category_bytes ≡ 8 * categories o

abbrev pub SmallSet : ReadingSet → Type 0
SmallSet s = (j : ℕ) → watt_hours (s j) < 4294967296

-- registrations that were accepted
abbrev pub SoundRegistrations : ℕ → List Registration → Type 0
SoundRegistrations C [] = Unit {0}
SoundRegistrations C (r ∷ rs) = (r.category < C) × (r.status ≢ 0) × SoundRegistrations C rs

pub record SoundMeter (C : ℕ) (m : Meter) : Type 0 where
  pub numbered : m.mpan ≢ 0
  pub at_most_8 : length m.registrations ≤ 8
  pub registered : SoundRegistrations C m.registrations
  pub small : (d : ℕ) (s : ReadingSet) → m.held d ≡ some s → SmallSet s

abbrev pub SoundMeters : ℕ → List Meter → Type 0
SoundMeters C [] = Unit {0}
SoundMeters C (m ∷ ms) = SoundMeter C m × SoundMeters C ms

-- entries of sets that were held
abbrev pub SoundPicture : ℕ → Picture → Type 0
SoundPicture C [] = Unit {0}
SoundPicture C (e ∷ es) = (e.category < C) × SmallSet e.readings × SoundPicture C es

-- ---- settings

pub record SettingsAgree (o : Opening) (s : List ℕ) : Type 0 where
  pub duration : duration_of s ≡ o.duration
  pub meters : meters_of s ≡ o.meters
  pub categories_are : categories_of s ≡ categories o
  pub dates_are : dates_of s ≡ dates o
  pub windows : (w : ℕ) → window_of s w ≡ window o w
  pub records : (c : ℕ) → c < categories o → category_of s c ≡ category o c
  pub types : (d : ℕ) → d < dates o → day_type_of s d ≡ day_type o d
  pub long : settings_length (categories o) (dates o) ≤ length s

-- ---- slots

-- from slot i on, meters stand in order, one to a slot, and the other slots of M are free
abbrev pub SlotsFrom : ℕ → (ℕ → Meter → Type 0) → (ℕ → Type 0) → ℕ → List Meter → Type 0
SlotsFrom M At Free i [] = (i ≤ M) × ((x : ℕ) → i ≤ x → x < M → Free x)
SlotsFrom M At Free i (m ∷ ms) = (i < M) × At i m × SlotsFrom M At Free (suc i) ms

-- ---- meters: the known meters stand in the first slots, in order, and the others are free

pub record MeterAt (M : ℕ) (meters : List ℕ) (i : ℕ) (m : Meter) : Type 0 where
  pub mpan_is : mpan_at meters i ≡ m.mpan
  pub are : registrations_at M meters i ≡ m.registrations
  pub unused : (k : ℕ) → length m.registrations ≤ k → k < 8 → (registration_at M meters i k).status ≡ 0

pub record FreeAt (M : ℕ) (meters : List ℕ) (i : ℕ) : Type 0 where
  pub no_mpan : mpan_at meters i ≡ 0
  pub unused : (k : ℕ) → k < 8 → (registration_at M meters i k).status ≡ 0

abbrev pub MetersFrom : ℕ → List ℕ → ℕ → List Meter → Type 0
MetersFrom M meters i ms = SlotsFrom M (MeterAt M meters) (FreeAt M meters) i ms

pub record MetersAgree (o : Opening) (meters : List ℕ) (known : List Meter) : Type 0 where
  pub slots : MetersFrom o.meters meters 0 known
  pub long : meters_length o.meters ≤ length meters

-- ---- readings

pub record HeldAt (o : Opening) (readings : List ℕ) (i : ℕ) (m : Meter) : Type 0 where
  pub marks : (d : ℕ) → d < dates o → is_held_at o.meters (periods o) readings d i ≡ is_held (m.held d)
  pub sets : (d : ℕ) (s : ReadingSet) → d < dates o → m.held d ≡ some s → (j : ℕ) → 1 ≤ j → j ≤ periods o → reading_at o.meters (periods o) readings d i j ≡ s j

abbrev pub NotHeldAt : Opening → List ℕ → ℕ → Type 0
NotHeldAt o readings i = (d : ℕ) → d < dates o → is_held_at o.meters (periods o) readings d i ≡ false

abbrev pub HeldFrom : Opening → List ℕ → ℕ → List Meter → Type 0
HeldFrom o readings i ms = SlotsFrom o.meters (HeldAt o readings) (NotHeldAt o readings) i ms

pub record ReadingsAgree (o : Opening) (readings : List ℕ) (known : List Meter) : Type 0 where
  pub slots : HeldFrom o readings 0 known
  pub long : readings_length o.meters (dates o) (periods o) ≤ length readings

-- ---- cells

-- the own shape of a date in column k, the periods of a category side by side
abbrev pub shape_of : (ℕ → Category) → ℕ → ℕ → Option Picture → Fresh
shape_of category_of c j none = absent
shape_of category_of c j (some p) = fresh_in category_of p c j

abbrev pub shapes : Opening → (ℕ → Option Picture) → ℕ → ℕ → Fresh
shapes o pictures k d = shape_of (category o) (k / periods o) (suc (k % periods o)) (pictures d)

pub record CellsAgree (o : Opening) (cells : List ℕ) (pictures : ℕ → Option Picture) : Type 0 where
  pub are : CellsAre (categories o * periods o) (dates o) (day_type o) (λ d. is_picture (pictures d)) (shapes o pictures) cells
  pub long : cells_length (categories o) (dates o) (periods o) ≤ length cells

-- ---- days

-- the entries of category c and date d that the ledger's cells give; a date not run has none
unfoldable pub day_by : Opening → (ℕ → Option Picture) → ℕ → ℕ → DayEntries
day_by o pictures c d =
    cond (is_picture (pictures d)) (day_entries_of o.duration (window o (category o c).window) (periods o) (λ k. cell_by o pictures d c (suc k))) not_run_entries

-- kept = recounted
pub record DaysAgree (o : Opening) (days : List ℕ) (pictures : ℕ → Option Picture) : Type 0 where
  pub are : DaysAre (dates o) (categories o) (day_by o pictures) days
  pub long : days_length (categories o) (dates o) ≤ length days

-- ---- the draft

-- as long as the ledger's, and its entries are read as the cells that the ledger has
pub record DraftAgree (o : Opening) (draft : List ℕ) (d : Draft) : Type 0 where
  pub as_long : length draft ≡ d.room
  pub shows : (c k : ℕ) → c < categories o → k < periods o → cell_of_entry (get_or draft (c * periods o + k) 0) ≡ d.shown c (suc k)

-- ---- the ledger's state after accepted calls

pub record Sound (l : Ledger) : Type 0 where
  pub valid : Valid l.opening
  pub meters : SoundMeters (categories l.opening) l.known
  pub few : length l.known ≤ l.opening.meters
  pub pictures_are : (d : ℕ) (p : Picture) → l.pictures d ≡ some p → SoundPicture (categories l.opening) p × (length p ≤ 1024)
