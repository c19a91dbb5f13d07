-- Which check of a call fails first, families and keys.
use Rattle.std.proofs.Common.{◌≡◌, ℕ, zero, suc, ◌+◌, ◌*◌, ◌/◌, ◌%◌, ◌<◌, ◌≤◌, Bool, true, false, cond, not, ◌&&◌, ◌||◌, eqb, ltb, leb, ◌≢◌, ◌⊎◌, ◌↔◌, List, [], ◌∷◌, ◌++◌, length, get_or, drop, sym, refl, ap, subst, ◌∙◌, inl, inr, ⊎_elim, true≢false, add-zero, mul-le-mul_right, zero-add, arith, get_or-drop, get_or-take, ltb-false, ltb-true, le-ltb, lt-ltb, eq-eqb, ne_eqb, eqb-true, le-leb, leb-false, leb-true}
use mathlib.Core.Logic.Iff
use mathlib.Core.Bool.{and-eq-true_iff}
use mathlib.Core.Option.{Option, none, some, none-ne-some, some-ne-none, some-injective}
use native.Mathlib.Nat.{mul-mod_left}
use borrow.Table.Steps.{cases}
use borrow.Author.Tests.{eqb-false, lt-leb, not-false}
use Rattle.metering.specs.Range.{between, meters_in_range, categories_in_range, dates_in_range, day_type_valid, smart_valid, advanced_valid, category_valid}
use Rattle.metering.specs.Calendar.{duration_known, periods_per_day, period_ending, window_valid}
use Rattle.metering.proofs.Laws.{between_true, duration_is, duration_pos, window_valid_is, whole_periods, periods_per_day_times, period_ending_at, period_ending_is, period_ending_le}
use Rattle.ledger.specs.Method.{Category, category_at, window_at, is_smart, same_family, ReadingSet, Picture}
use Rattle.ledger.specs.Checks.{verdict, first_failed, any_below, record_at, same_key, window_number, category_number, day_type_number, or_else, sizes_valid, opening_check, call_number, Registration, RegistrationCall, starts, in_force, appointed, found_in, not_after_last, fields_number, known_number, meter_number, registration_check, ReceptionCall, end_minute, quality, watt_hours_at, is_sender_of, content_number, record_number_if, record_number, header_number, body_check, in_force_check, reception_check, run_check, read_check, totals_in_range, cell_in_range, band_check, lists_short}
use Rattle.ledger.specs.Ledger.{Opening, windows, window_places, window, categories, dates, periods, category, day_type, Meter, Ledger, accepted, answer, Lengths, settings_short, meters_short, cells_short, days_short, any_short, meter_with, registrations_of, is_held, held_from, ledger_registration_check, ledger_reception_check, is_picture, is_run, ledger_run_check, ledger_totals_check, ledger_coverage_check, ledger_cell_check, ledger_band_check, ledger_answer}
use Rattle.ledger.specs.Demands.{date_of, minute_of, GoodRecord, MayReceive, ReceptionExact, Row, row, row_of, each_below, AllHold, FirstFails, MetersLong, CellsLong, DaysLong, AllLong, GoodSizes, GoodWindow, ValidCategory, SameKey, GoodCategory, GoodDayType, opening_rows, OpeningExact, FirstBad, OpeningPlaces, WindowsWhole, KeysDiffer, StartsOn, GoodFields, registration_rows, RegistrationExact, record_rows, under_rows, body_rows, header_rows, ReceptionAnswer, ReceptionPlaces, HasPicture, RunExact, TotalsExact, CoverageExact, CellExact, BandAnswer, SameFamily, FamilyExact}
use Rattle.ledger.proofs.Choices.{neither, fields_hold}
use Rattle.ledger.proofs.Lists.{below_suc}
use Rattle.ledger.proofs.RegistrationDemands.{starts_on, starts_is, starts_there, in_force_exact, appointed_exact}
use Rattle.ledger.proofs.Windows.{places_few}
use Rattle.ledger.proofs.FirstFailed.{Finds, Decides, AtPlace, all_append, first_left, first_right, all_left, all_right, of_each, each_all, first_append, first_each, each_first, at_place, only, first_bad, finds_none, finds_skip, finds_row, decides_row, finds_both, decides_else, decides_each, passed_all, goes_by}

-- ---- tests

any_false : (n : ℕ) (f : ℕ → Bool) → any_below n f ≡ false → (k : ℕ) → k < n → f k ≡ false
unfolding any_below
any_false zero f e k h = absurd (omega arith)
any_false (suc n) f e k h =
    cases (any_below n f)
    (λ q. absurd (true≢false (rw q at e)))
    (λ q. let last : f n ≡ false = rw q at e in below_suc (λ x. f x ≡ false) n (any_false n f q) last k h)

none_below : (n : ℕ) (f : ℕ → Bool) → ((k : ℕ) → k < n → f k ≡ false) → any_below n f ≡ false
unfolding any_below
none_below zero f h = refl
none_below (suc n) f h = rw (none_below n f (λ k l. h k (omega arith)), h n (omega arith))

eq_iff : (x y : ℕ) → (eqb x y ≡ true) ↔ (x ≡ y)
eq_iff x y = (eqb-true x y, eq-eqb x y)

pub not_iff : {P : Type 0} (t : Bool) → (t ≡ true) ↔ P → (not t ≡ false) ↔ P
not_iff t is = (λ e. is.0 (not-false t e), λ h. rw (is.1 h))

pub date_iff : (dates d : ℕ) → (leb dates d ≡ false) ↔ (d < dates)
date_iff dates d = (leb-false dates d, lt-leb dates d)

pub below_iff : (n c : ℕ) → (ltb c n ≡ true) ↔ (c < n)
below_iff n c = (ltb-true c n, lt-ltb c n)

module _ (o : Opening) (n : Lengths) where
  meters_iff : (meters_short o n ≡ false) ↔ MetersLong o n
  unfolding meters_short settings_short
  meters_iff = (
    λ e. let q = neither _ _ e in let w = neither _ _ q.0 in (ltb-false _ _ w.0, ltb-false _ _ w.1, ltb-false _ _ q.1),
    λ h. rw (le-ltb _ _ h.0, le-ltb _ _ h.1, le-ltb _ _ h.2),
  )

  pub cells_iff : (cells_short o n ≡ false) ↔ CellsLong o n
  unfolding cells_short settings_short
  cells_iff = (λ e. let q = neither _ _ e in (ltb-false _ _ q.0, ltb-false _ _ q.1), λ h. rw (le-ltb _ _ h.0, le-ltb _ _ h.1))

  days_iff : (days_short o n ≡ false) ↔ DaysLong o n
  unfolding days_short settings_short
  days_iff = (λ e. let q = neither _ _ e in (ltb-false _ _ q.0, ltb-false _ _ q.1), λ h. rw (le-ltb _ _ h.0, le-ltb _ _ h.1))

  -- and two lists that take P entries each
  pub lists_iff : (x y : ℕ) → ((cells_short o n || lists_short (periods o) x y) ≡ false) ↔ (CellsLong o n × (periods o ≤ x) × (periods o ≤ y))
  unfolding lists_short
  lists_iff x y = (
    λ e. let p = neither _ _ e in let q = neither _ _ p.1 in (cells_iff.0 p.0, ltb-false _ _ q.0, ltb-false _ _ q.1),
    λ h. rw (cells_iff.1 h.0, le-ltb _ _ h.1, le-ltb _ _ h.2),
  )

  -- the net read is lent days as well
  pub net_lists_iff : (x y : ℕ) → ((days_short o n || (cells_short o n || lists_short (periods o) x y)) ≡ false) ↔ (DaysLong o n × CellsLong o n × (periods o ≤ x) × (periods o ≤ y))
  net_lists_iff x y = (
    λ e. let p = neither _ _ e in let q = (lists_iff x y).0 p.1 in (days_iff.0 p.0, q.0, q.1, q.2),
    λ h. rw (days_iff.1 h.0, (lists_iff x y).1 (h.1, h.2, h.3)),
  )

  pub any_iff : (any_short o n ≡ false) ↔ AllLong o n
  unfolding any_short
  any_iff = (
    λ e. let p = neither _ _ e in let q = neither _ _ p.0 in (meters_iff.0 q.0, ltb-false _ _ q.1, ltb-false _ _ p.1),
    λ h. rw (meters_iff.1 h.0, le-ltb _ _ h.1, le-ltb _ _ h.2),
  )

-- ---- opening

exchanged : (t : Bool) (n : ℕ) → ◌≡◌ {A = ℕ} (cond t 0 n) (cond (not t) n 0)
exchanged true n = refl
exchanged false n = refl

sizes_iff : (o : Opening) → (sizes_valid o ≡ true) ↔ GoodSizes o
unfolding sizes_valid meters_in_range categories_in_range dates_in_range
sizes_iff o = (
  λ e. let p = (and-eq-true_iff _ _).0 e in
      let q = (and-eq-true_iff _ _).0 p.0 in
      let r = (and-eq-true_iff _ _).0 q.0 in
      let t = (and-eq-true_iff _ _).0 r.0 in
      let C = (between_true 1 64 (categories o)).0 q.1 in
      let whole = eqb-true (length o.category_bytes % 8) 0 r.1 in
      record {
        duration = duration_is o.duration t.0;
        meters = (between_true 1 1024 o.meters).0 t.1;
        categories = (categories o, C.0, C.1, omega arith);
        dates = (between_true 1 800 (dates o)).0 p.1;
      },
  λ g. let low = g.categories.1 in
      let high = g.categories.2 in
      let is = g.categories.3 in
      rw (
        known g.duration,
        (between_true 1 1024 o.meters).1 g.meters,
        eq-eqb (length o.category_bytes % 8) 0 (omega arith),
        (between_true 1 64 (categories o)).1 (omega arith, omega arith),
        (between_true 1 800 (dates o)).1 g.dates,
      ),
)
  where
    known : (o.duration ≡ 15) ⊎ (o.duration ≡ 30) → duration_known o.duration ≡ true
    known h = unfold duration_known in ⊎_elim (λ e. rw e) (λ e. rw e) h

-- 19
window_iff : (o : Opening) (i : ℕ) →
    ((ltb i 8 && ltb (2 * i + 1) (length o.window_minutes) && window_valid o.duration (get_or o.window_minutes (2 * i) 0) (get_or o.window_minutes (2 * i + 1) 0)) ≡ true)
    ↔ GoodWindow o i
unfolding window_at
window_iff o i = (
  λ e. let p = (and-eq-true_iff _ _).0 e in
      let q = (and-eq-true_iff _ _).0 p.0 in
      let v = (window_valid_is o.duration _ _).0 p.1 in
      let there = ltb-true (2 * i + 1) (length o.window_minutes) q.1 in
      record {
        one_of_eight = ltb-true _ _ q.0;
        both_minutes = omega arith;
        before = (window o (suc i)).start / o.duration;
        until = (window o (suc i)).end / o.duration;
        starts = sym (whole_periods o.duration _ v.0);
        ends = sym (whole_periods o.duration _ v.1);
        order = v.2;
        in_the_day = v.3;
      },
  λ g. let there = g.both_minutes in
      rw (
        lt-ltb i 8 g.one_of_eight,
        lt-ltb (2 * i + 1) (length o.window_minutes) (omega arith),
        (window_valid_is o.duration _ _).1 (ap (λ x. x % o.duration) g.starts ∙ mul-mod_left g.before o.duration, ap (λ x. x % o.duration) g.ends ∙ mul-mod_left g.until o.duration, g.order, g.in_the_day),
      ),
)

window_finds : (o : Opening) (i : ℕ) → Finds (window_number o.duration o.window_minutes i) (suc i) (row_of i 19 (GoodWindow o i) ∷ [])
unfolding window_number
window_finds o i = rw (exchanged _ 19) (finds_row refl (not_iff _ (window_iff o i)) finds_none)

-- a record alone
valid_iff : (o : Opening) (r : List ℕ) → (category_valid (windows o) r ≡ true) ↔ ValidCategory o (category_at r 0)
unfolding category_valid category_at smart_valid advanced_valid
valid_iff o r = (
  λ e.
      cases (smart_valid (windows o) r)
      (λ t.
      let p = (and-eq-true_iff _ _).0 t in
      let q = (and-eq-true_iff _ _).0 p.0 in
      let u = (and-eq-true_iff _ _).0 q.0 in
      let v = (and-eq-true_iff _ _).0 u.0 in
      let w = (and-eq-true_iff _ _).0 v.0 in
      let group = (between_true 1 14 (get_or r 1 0)).0 w.1 in
      let domestic = (between_true 1 2 (get_or r 2 0)).0 v.1 in
      let window = ((between_true 0 (windows o) (get_or r 5 0)).0 p.1).1 in
      record {
        segment = inl (eqb-true _ _ w.0, group.0, group.1, domestic.0, domestic.1, omega arith);
        quantity = (between_true 1 2 (get_or r 3 0)).0 u.1;
        connection = (between_true 1 4 (get_or r 4 0)).0 q.1;
      })
      (λ t.
      let p = (and-eq-true_iff _ _).0 (rw t at e) in
      let q = (and-eq-true_iff _ _).0 p.0 in
      let u = (and-eq-true_iff _ _).0 q.0 in
      let v = (and-eq-true_iff _ _).0 u.0 in
      let w = (and-eq-true_iff _ _).0 v.0 in
      let group = ((between_true 0 0 (get_or r 1 0)).0 w.1).1 in
      let domestic = ((between_true 0 0 (get_or r 2 0)).0 v.1).1 in
      let window = ((between_true 0 0 (get_or r 5 0)).0 p.1).1 in
      record {
        segment = inr (eqb-true _ _ w.0, omega arith, omega arith, omega arith);
        quantity = (between_true 1 2 (get_or r 3 0)).0 u.1;
        connection = (between_true 1 4 (get_or r 4 0)).0 q.1;
      }),
  λ g.
      rw ((between_true 1 2 (get_or r 3 0)).1 g.quantity, (between_true 1 4 (get_or r 4 0)).1 g.connection)
      (⊎_elim
      (λ h. rw (
        h.0,
        (between_true 1 14 (get_or r 1 0)).1 (h.1, h.2),
        (between_true 1 2 (get_or r 2 0)).1 (h.3, h.4),
        (between_true 0 (windows o) (get_or r 5 0)).1 (omega arith, let few = h.5 in omega arith),
      ))
      (λ h. rw (h.0, h.1, h.2, h.3) (unfold between in refl))
      g.segment),
)

-- the eight bytes of record i, cut out
byte_is : (bytes : List ℕ) (i j : ℕ) → j < 8 → get_or (record_at bytes i) j 0 ≡ get_or bytes (8 * i + j) 0
unfolding record_at
byte_is bytes i j h = get_or-take 8 (drop (8 * i) bytes) j 0 h ∙ get_or-drop (8 * i) bytes j 0

cut_out : (bytes : List ℕ) (i : ℕ) → category_at (record_at bytes i) 0 ≡ category_at bytes i
unfolding category_at
cut_out bytes i =
    rw (
      byte_is bytes i 0 (omega arith),
      add-zero (8 * i),
      byte_is bytes i 1 (omega arith),
      byte_is bytes i 2 (omega arith),
      byte_is bytes i 3 (omega arith),
      byte_is bytes i 4 (omega arith),
      byte_is bytes i 5 (omega arith),
      byte_is bytes i 6 (omega arith),
      byte_is bytes i 7 (omega arith),
    )

key_iff : (bytes : List ℕ) (k i : ℕ) → (same_key bytes k i ≡ true) ↔ SameKey (category_at bytes k) (category_at bytes i)
unfolding same_key category_at
key_iff bytes k i = (
  λ e. let p = (and-eq-true_iff _ _).0 e in
      let q = (and-eq-true_iff _ _).0 p.0 in
      let r = (and-eq-true_iff _ _).0 q.0 in
      let t = (and-eq-true_iff _ _).0 r.0 in
      record {
        segment = eqb-true _ _ t.0;
        group = eqb-true _ _ t.1;
        domestic = eqb-true _ _ r.1;
        quantity = eqb-true _ _ q.1;
        connection = eqb-true _ _ p.1;
      },
  λ s. rw (eq-eqb _ _ s.segment, eq-eqb _ _ s.group, eq-eqb _ _ s.domestic, eq-eqb _ _ s.quantity, eq-eqb _ _ s.connection),
)

-- 4
category_iff : (o : Opening) (i : ℕ) →
    ((not (category_valid (windows o) (record_at o.category_bytes i)) || any_below i (λ k. same_key o.category_bytes k i)) ≡ false)
    ↔ GoodCategory o i
category_iff o i = (
  λ e. let p = neither _ _ e in (
    rw (cut_out bytes i) at ((valid_iff o (record_at bytes i)).0 (not-false _ p.0)),
    λ k h same. true≢false (sym ((key_iff bytes k i).1 same) ∙ any_false i (λ x. same_key bytes x i) p.1 k h),
  ),
  λ h. rw (
    (valid_iff o (record_at bytes i)).1 (rw (cut_out bytes i) h.0),
    none_below i (λ x. same_key bytes x i) (λ k l. cases (same_key bytes k i) (λ t. absurd (h.1 k l ((key_iff bytes k i).0 t))) (λ t. t)),
  ),
)
  where
    bytes : List ℕ
    bytes = o.category_bytes

category_finds : (o : Opening) (i : ℕ) → Finds (category_number (windows o) o.category_bytes i) (suc i) (row_of i 4 (GoodCategory o i) ∷ [])
unfolding category_number
category_finds o i = finds_row refl (category_iff o i) finds_none

day_type_finds : (o : Opening) (i : ℕ) → Finds (day_type_number o.day_types i) (suc i) (row_of i 5 (GoodDayType o i) ∷ [])
unfolding day_type_number day_type_valid
day_type_finds o i = rw (exchanged (between 1 16 (day_type o i)) 5) (finds_row refl (not_iff _ (between_true 1 16 (day_type o i))) finds_none)

-- with any test `short` for 1
opening_decides : (o : Opening) (short : Bool) (Long : Type 0) → (short ≡ false) ↔ Long →
    Decides (opening_check o short)
    (row 3 (GoodSizes o)
    ∷ (each_below (window_places o) (λ i. row_of i 19 (GoodWindow o i) ∷ [])
    ++ (each_below (categories o) (λ i. row_of i 4 (GoodCategory o i) ∷ []) ++ (each_below (dates o) (λ i. row_of i 5 (GoodDayType o i) ∷ []) ++ (row 1 Long ∷ [])))))
unfolding opening_check
opening_decides o short Long is =
    let windowed = first_failed (window_number o.duration o.window_minutes) (window_places o) 0 in
    let records = first_failed (category_number (windows o) o.category_bytes) (categories o) 0 in
    let day_types = first_failed (day_type_number o.day_types) (dates o) 0 in
    let last = verdict (cond short 1 0) in
    decides_row (or_else windowed (or_else records (or_else day_types last))) refl (not_iff _ (sizes_iff o))
    (decides_else windowed (or_else records (or_else day_types last))
    (decides_each (window_number o.duration o.window_minutes) (window_places o) 0 (λ i. row_of i 19 (GoodWindow o i) ∷ []) (λ k. rw (zero-add k) (window_finds o k)))
    (decides_else records (or_else day_types last)
    (decides_each (category_number (windows o) o.category_bytes) (categories o) 0 (λ i. row_of i 4 (GoodCategory o i) ∷ []) (λ k. rw (zero-add k) (category_finds o k)))
    (decides_else day_types last
    (decides_each (day_type_number o.day_types) (dates o) 0 (λ i. row_of i 5 (GoodDayType o i) ∷ []) (λ k. rw (zero-add k) (day_type_finds o k)))
    (finds_row refl is finds_none))))

pub opening_exact : OpeningExact
opening_exact o n = goes_by (opening_check o (any_short o n)) accepted refl (opening_decides o (any_short o n) (AllLong o n) (any_iff o n))

-- the places of 19, 4 and 5
module _ (o : Opening) (n : Lengths) (i : ℕ) where
  abbrev windowed : List Row
  windowed = each_below (window_places o) (λ k. row_of k 19 (GoodWindow o k) ∷ [])

  abbrev records : List Row
  records = each_below (categories o) (λ k. row_of k 4 (GoodCategory o k) ∷ [])

  abbrev day_types : List Row
  day_types = each_below (dates o) (λ k. row_of k 5 (GoodDayType o k) ∷ [])

  abbrev last : List Row
  last = row 1 (AllLong o n) ∷ []

  first_window : (m : ℕ) → FirstFails windowed m (suc i) ↔ ((m ≡ 19) × FirstBad (GoodWindow o) (window_places o) i)
  first_window m = first_bad (window_places o) 19 (GoodWindow o) m i

  first_record : (m : ℕ) → FirstFails records m (suc i) ↔ ((m ≡ 4) × FirstBad (GoodCategory o) (categories o) i)
  first_record m = first_bad (categories o) 4 (GoodCategory o) m i

  first_day_type : (m : ℕ) → FirstFails day_types m (suc i) ↔ ((m ≡ 5) × FirstBad (GoodDayType o) (dates o) i)
  first_day_type m = first_bad (dates o) 5 (GoodDayType o) m i

  -- a refusal with a place is 19, 4 or 5
  placed : (m : ℕ) → FirstFails (opening_rows o n) m (suc i) →
      GoodSizes o
      × (FirstFails windowed m (suc i) ⊎ (AllHold windowed × (FirstFails records m (suc i) ⊎ (AllHold records × FirstFails day_types m (suc i)))))
  placed m f =
      ⊎_elim
      (λ three. absurd (let z = three.2 in omega arith))
      (λ later. (
        later.0,
        ⊎_elim
            (λ a. inl a)
            (λ b. inr (
              b.0,
              ⊎_elim
                  (λ a. inl a)
                  (λ c. ⊎_elim (λ a. inr (c.0, a)) (λ one. absurd (let z = (only (row 1 (AllLong o n)) m (suc i) one.1).2 in omega arith)) (first_append day_types last m (suc i) c.1))
                  (first_append records (day_types ++ last) m (suc i) b.1),
            ))
            (first_append windowed (records ++ (day_types ++ last)) m (suc i) later.1),
      ))
      f

  all_windows : AllHold windowed → (k : ℕ) → k < window_places o → GoodWindow o k
  all_windows all k l = (of_each (window_places o) (λ x. row_of x 19 (GoodWindow o x) ∷ []) all k l).0

  windows_hold : ((k : ℕ) → k < window_places o → GoodWindow o k) → AllHold windowed
  windows_hold h = each_all (window_places o) (λ x. row_of x 19 (GoodWindow o x) ∷ []) (λ k l. (h k l, tt))

  nineteen : FirstFails (opening_rows o n) 19 (suc i) ↔ (GoodSizes o × FirstBad (GoodWindow o) (window_places o) i)
  nineteen = (
    λ f. let p = placed 19 f in (
      p.0,
      ⊎_elim
          (λ a. ((first_window 19).0 a).1)
          (λ b. ⊎_elim (λ c. absurd (let z = ((first_record 19).0 c).0 in omega arith)) (λ c. absurd (let z = ((first_day_type 19).0 c.1).0 in omega arith)) b.1)
          p.1,
    ),
    λ h. inr (h.0, first_left windowed _ 19 (suc i) ((first_window 19).1 (refl, h.1))),
  )

  four : FirstFails (opening_rows o n) 4 (suc i) ↔ (GoodSizes o × ((k : ℕ) → k < window_places o → GoodWindow o k) × FirstBad (GoodCategory o) (categories o) i)
  four = (
    λ f. let p = placed 4 f in
        ⊎_elim
        (λ a. absurd (let z = ((first_window 4).0 a).0 in omega arith))
        (λ b. (
          p.0,
          all_windows b.0,
          ⊎_elim (λ c. ((first_record 4).0 c).1) (λ c. absurd (let z = ((first_day_type 4).0 c.1).0 in omega arith)) b.1,
        ))
        p.1,
    λ h. inr (h.0, first_right windowed _ 4 (suc i) (windows_hold h.1) (first_left records _ 4 (suc i) ((first_record 4).1 (refl, h.2)))),
  )

  five : FirstFails (opening_rows o n) 5 (suc i)
      ↔ (GoodSizes o × ((k : ℕ) → k < window_places o → GoodWindow o k) × ((k : ℕ) → k < categories o → GoodCategory o k) × FirstBad (GoodDayType o) (dates o) i)
  five = (
    λ f. let p = placed 5 f in
        ⊎_elim
        (λ a. absurd (let z = ((first_window 5).0 a).0 in omega arith))
        (λ b.
        ⊎_elim
        (λ c. absurd (let z = ((first_record 5).0 c).0 in omega arith))
        (λ c. (
          p.0,
          all_windows b.0,
          λ k l. (of_each (categories o) (λ x. row_of x 4 (GoodCategory o x) ∷ []) c.0 k l).0,
          ((first_day_type 5).0 c.1).1,
        ))
        b.1)
        p.1,
    λ h. inr (
      h.0,
      first_right windowed _ 5 (suc i) (windows_hold h.1)
          (first_right records _ 5 (suc i) (each_all (categories o) (λ x. row_of x 4 (GoodCategory o x) ∷ []) (λ k l. (h.2 k l, tt)))
          (first_left day_types _ 5 (suc i) ((first_day_type 5).1 (refl, h.3)))),
    ),
  )

pub opening_places : OpeningPlaces
opening_places o n i =
    let goes = (opening_exact o n).1 in (
      Iff.trans (goes 19 (suc i)) (nineteen o n i),
      Iff.trans (goes 4 (suc i)) (four o n i),
      Iff.trans (goes 5 (suc i)) (five o n i),
    )

-- an accepted opening passed them all
module _ (o : Opening) (short : Bool) (ok : (opening_check o short).number ≡ 0) where
  passed : AllHold
      (each_below (window_places o) (λ i. row_of i 19 (GoodWindow o i) ∷ [])
      ++ (each_below (categories o) (λ i. row_of i 4 (GoodCategory o i) ∷ []) ++ (each_below (dates o) (λ i. row_of i 5 (GoodDayType o i) ∷ []) ++ (row 1 (short ≡ false) ∷ []))))
  passed = (passed_all (opening_decides o short (short ≡ false) Iff.rfl) ok).1

  every_window : (i : ℕ) → i < window_places o → GoodWindow o i
  every_window i h = (of_each (window_places o) (λ x. row_of x 19 (GoodWindow o x) ∷ []) (all_left (each_below (window_places o) _) _ passed) i h).0

  every_record : (i : ℕ) → i < categories o → GoodCategory o i
  every_record i h =
      (of_each (categories o) (λ x. row_of x 4 (GoodCategory o x) ∷ [])
      (all_left (each_below (categories o) _) _ (all_right (each_below (window_places o) _) _ passed)) i h).0

pub windows_are_whole : WindowsWhole
windows_are_whole o short ok =
    let every = every_window o short ok in
    let few = places_few (length o.window_minutes) (λ i h. let w = (every i h).both_minutes in ((every i h).one_of_eight, omega arith)) in
    let low = few.0 in
    (few.1, omega arith, λ i h. every i (omega arith))

pub keys_differ : KeysDiffer
keys_differ o short ok i k hi hk other same =
    cases (ltb k i)
    (λ t. earlier i hi k (ltb-true k i t) (record { segment = sym same.segment; group = sym same.group; domestic = sym same.domestic; quantity = sym same.quantity; connection = sym same.connection }))
    (λ t. let after = ltb-false k i t in earlier k hk i (omega arith) same)
  where
    earlier : (x : ℕ) → x < categories o → (y : ℕ) → y < x → SameKey (category o y) (category o x) → ⊥
    earlier x h y l alike = (every_record o short ok x h).1 y l alike

-- ---- registration

fields_iff : (o : Opening) (a : RegistrationCall) (start : ℕ) →
    ((leb a.minute 1439 && ltb a.category (categories o) && between 1 3 a.status && ltb start (dates o)) ≡ true) ↔ GoodFields o a start
fields_iff o a start = (
  λ e. let p = fields_hold (dates o) (categories o) start a.minute a.category a.status e in
      record { minute = p.minute_is; category = p.category_is; status = p.status_is; starts = p.starts_is },
  λ g. rw (le-leb _ _ g.minute, lt-ltb _ _ g.category, (between_true 1 3 a.status).1 g.status, lt-ltb _ _ g.starts),
)

-- a list is empty or has a last entry
last_of : {A : Type 0} (xs : List A) → (xs ≡ []) ⊎ ((before : List A) × (x : A) × (xs ≡ before ++ (x ∷ [])))
last_of [] = inl refl
last_of (x ∷ xs) = ⊎_elim (λ e. inr ([], x, rw e)) (λ h. inr (x ∷ h.0, h.1, rw h.2)) (last_of xs)

after_last : (start : ℕ) (answer : Bool) (rs : List Registration) (r : Registration) → not_after_last start answer (rs ++ (r ∷ [])) ≡ leb start (starts r)
unfolding not_after_last
after_last start answer [] r = refl
after_last start answer (x ∷ rs) r = after_last start (leb start (starts x)) rs r

last_iff : (start : ℕ) (registrations : List Registration) →
    (not_after_last start false registrations ≡ false) ↔ ((rs : List Registration) (r : Registration) → registrations ≡ rs ++ (r ∷ []) → (last : ℕ) → StartsOn (date_of r) (minute_of r) last → last < start)
last_iff start registrations = (
  λ e rs r is last on. rw (← starts_is r last on) (leb-false start (starts r) (sym (after_last start false rs r) ∙ rw is at e)),
  λ h. ⊎_elim
      (λ e. rw e (unfold not_after_last in refl))
      (λ p. rw p.2 (after_last start false p.0 p.1 ∙ lt-leb start (starts p.1) (h p.0 p.1 p.2 (starts p.1) (starts_there p.1))))
      (last_of registrations),
)

held_iff : (x : Option ReadingSet) → (is_held x ≡ false) ↔ (x ≡ none)
held_iff none = (λ e. refl, λ e. refl)
held_iff (some s) = (λ e. absurd (true≢false e), λ e. absurd (some-ne-none s e))

from_iff : (T start : ℕ) (m : Meter) → (held_from T start (some m) ≡ false) ↔ ((d : ℕ) → start ≤ d → d < T → m.held d ≡ none)
unfolding held_from
from_iff T start m = (
  λ e d from low. (held_iff (m.held d)).0 (rw (le-leb start d from) at (any_false T (λ x. leb start x && is_held (m.held x)) e d low)),
  λ h. none_below T (λ x. leb start x && is_held (m.held x))
      (λ d low. cases (leb start d) (λ q. rw (q, (held_iff (m.held d)).1 (h d (leb-true start d q) low))) (λ q. rw q)),
)

-- 8, or 10, 11, 12
meter_finds : (l : Ledger) (start : ℕ) (x : Option Meter) →
    Finds (meter_number (leb l.opening.meters (length l.known)) start (held_from (dates l.opening) start x) (registrations_of x)) 0
    (row 8 (x ≡ none → length l.known < l.opening.meters)
    ∷ row 10 ((m : Meter) → x ≡ some m → (rs : List Registration) (r : Registration) → m.registrations ≡ rs ++ (r ∷ []) → (last : ℕ) → StartsOn (date_of r) (minute_of r) last → last < start)
    ∷ row 11 ((m : Meter) → x ≡ some m → (d : ℕ) → start ≤ d → d < dates l.opening → m.held d ≡ none)
    ∷ row 12 ((m : Meter) → x ≡ some m → length m.registrations < 8)
    ∷ [])
unfolding meter_number known_number
meter_finds l start none =
    finds_row refl (λ e _. leb-false _ _ e, λ h. lt-leb _ _ (h refl))
    (finds_skip (λ m e. absurd (none-ne-some m e))
    (finds_skip (λ m e. absurd (none-ne-some m e))
    (finds_skip (λ m e. absurd (none-ne-some m e))
    finds_none)))
meter_finds l start (some m) =
    finds_skip (λ e. absurd (some-ne-none m e))
    (finds_row refl (of_it _ (last_iff start m.registrations))
    (finds_row refl (of_it _ (from_iff (dates l.opening) start m))
    (finds_row refl (of_it _ (date_iff 8 (length m.registrations)))
    finds_none)))
  where
    of_it : {t : Bool} (P : Meter → Type 0) → (t ≡ false) ↔ P m → (t ≡ false) ↔ ((m' : Meter) → some m ≡ some m' → P m')
    of_it P is = (λ e m' same. rw (some-injective m m' same) at (is.0 e), λ h. is.1 (h m refl))

pub registration_exact : RegistrationExact
unfolding ledger_answer ledger_registration_check registration_check call_number fields_number
registration_exact l n a start s =
    goes_by (ledger_registration_check l n a) {rows = registration_rows l n a start (meter_with a.mpan l.known)} accepted refl
    (rw (starts_on a.date a.minute start s)
    (finds_both
    (finds_row refl (meters_iff l.opening n)
    (finds_row refl (date_iff (dates l.opening) a.date)
    (finds_row refl (not_iff _ Iff.rfl)
    finds_none)))
    (finds_both
    (finds_row refl (not_iff _ (fields_iff l.opening a start))
    finds_none)
    (meter_finds l start (meter_with a.mpan l.known)))))

-- ---- reception

whole_iff : (n : ℕ) → (eqb (n % 7) 0 ≡ true) ↔ ((k : ℕ) × (n ≡ 7 * k))
whole_iff n = (λ e. let z = eqb-true (n % 7) 0 e in (n / 7, omega arith), λ h. let z = h.1 in eq-eqb (n % 7) 0 (omega arith))

-- 1005
ends_iff : (d e : ℕ) → duration_known d ≡ true → (eqb (period_ending d e) 0 ≡ false) ↔ ((j : ℕ) × (1 ≤ j) × (j ≤ periods_per_day d) × (e ≡ j * d))
ends_iff d e known = (
  λ h. let found = eqb-false (period_ending d e) 0 h in
      (period_ending d e, omega arith, period_ending_le d e known, (period_ending_is d e (period_ending d e) (duration_pos d known) refl found).0),
  λ h. let times = periods_per_day_times d known in
      let low = h.1 in
      let last = mul-le-mul_right d h.2 in
      rw (h.3, period_ending_at d h.0 (duration_pos d known) low (omega arith)) (ne_eqb h.0 0 (λ z. omega arith)),
)

-- 1006
once_iff : (k : ℕ) (f : ℕ → ℕ) → (any_below k (λ i. eqb (f i) (f k)) ≡ false) ↔ ((i : ℕ) → i < k → f i ≢ f k)
once_iff k f = (
  λ e i h. eqb-false (f i) (f k) (any_false k (λ x. eqb (f x) (f k)) e i h),
  λ h. none_below k (λ x. eqb (f x) (f k)) (λ i l. ne_eqb (f i) (f k) (h i l)),
)

-- 1008
energised_iff : (status q : ℕ) → ((eqb status 2 && ltb 9 q) ≡ false) ↔ (status ≡ 2 → q ≤ 9)
energised_iff status q = (
  λ e s. ltb-false 9 q (rw (eq-eqb status 2 s) at e),
  λ h. cases (eqb status 2) (λ t. rw (t, le-ltb 9 q (h (eqb-true status 2 t)))) (λ t. rw t),
)

-- 1011
zero_iff : (q wh : ℕ) → ((between 10 13 q && not (eqb wh 0)) ≡ false) ↔ (10 ≤ q → q ≤ 13 → wh ≡ 0)
zero_iff q wh = (
  λ e low high. eqb-true wh 0 (not-false _ (rw ((between_true 10 13 q).1 (low, high)) at e)),
  λ h. cases (between 10 13 q) (λ t. let b = (between_true 10 13 q).0 t in rw (t, eq-eqb wh 0 (h b.0 b.1))) (λ t. rw t),
)

-- 1001
sender_iff : (sender : ℕ) (appointment : Option Registration) →
    (is_sender_of sender appointment ≡ true) ↔ ((s : Registration) × (appointment ≡ some s) × (sender ≡ s.sender))
sender_iff sender none = (λ e. absurd (true≢false (sym e)), λ h. absurd (none-ne-some h.0 h.1))
sender_iff sender (some s) = (
  λ e. (s, refl, eqb-true sender s.sender e),
  λ h. eq-eqb sender s.sender (h.2 ∙ sym (ap (λ x. x.sender) (some-injective s h.0 h.1))),
)

module _ (o : Opening) (known : duration_known o.duration ≡ true) (a : ReceptionCall) where
  record-finds : (r : Registration) (k : ℕ) → Finds (record_number o.duration r.status r.limit a.body k) (suc k) (record_rows o r a.body k)
  unfolding record_number record_number_if content_number
  record-finds r k =
      finds_row refl (not_iff _ (between_true 1 14 (quality a.body k)))
      (finds_row refl (ends_iff o.duration (end_minute a.body k) known)
      (finds_row refl (once_iff k (end_minute a.body))
      (finds_row refl (energised_iff r.status (quality a.body k))
      (finds_row refl (eqb-false r.status 3, ne_eqb r.status 3)
      (finds_row refl (zero_iff (quality a.body k) (watt_hours_at a.body k))
      (finds_row refl (ltb-false r.limit (watt_hours_at a.body k), le-ltb r.limit (watt_hours_at a.body k))
      finds_none))))))

  force_decides : (appointment x : Option Registration) →
      Decides (in_force_check o.duration (categories o) (category o) a appointment x) (row 7 ((r : Registration) × (x ≡ some r)) ∷ (under_rows o a appointment x ++ body_rows o a x))
  unfolding in_force_check body_check header_number
  force_decides appointment none = finds_row {t = true} refl (λ e. absurd (true≢false e), λ h. absurd (none-ne-some h.0 h.1)) finds_none
  force_decides appointment (some r) =
      let records = record_number o.duration r.status r.limit a.body in
      finds_skip (r, refl)
      (decides_else (verdict (header_number o.duration (categories o) (category o) a appointment r)) (first_failed records (length a.body / 7) 0)
      (finds_row refl (date_iff (categories o) r.category)
      (finds_row refl (not_iff _ (sender_iff a.sender appointment))
      (finds_row refl (not_iff _ (eq_iff a.quantity (category o r.category).quantity))
      (finds_row refl (not_iff _ (eq_iff a.duration o.duration))
      (finds_row refl (not_iff _ (whole_iff (length a.body)))
      finds_none)))))
      (decides_each records (length a.body / 7) 0 (record_rows o r a.body) (λ k. rw (zero-add k) (record-finds r k))))

pub reception_answer : ReceptionAnswer
unfolding ledger_answer ledger_reception_check reception_check call_number
reception_answer l n a known =
    let meter = registrations_of (meter_with a.mpan l.known) in
    let appointment = found_in (appointed a.date) meter in
    let current = found_in (in_force a.date) meter in
    goes_by (ledger_reception_check l n a) accepted refl
    (decides_else (verdict (call_number (meters_short l.opening n) (dates l.opening) a.mpan a.date))
    (in_force_check l.opening.duration (categories l.opening) (category l.opening) a appointment current)
    (finds_row refl (meters_iff l.opening n)
    (finds_row refl (date_iff (dates l.opening) a.date)
    (finds_row refl (not_iff _ Iff.rfl)
    finds_none)))
    (force_decides l.opening known a appointment current))

-- ---- reception, exactly

good_iff : (o : Opening) (r : Registration) (body : List ℕ) (k : ℕ) → AllHold (record_rows o r body k) ↔ GoodRecord o r body k
good_iff o r body k = (
  λ all. record {
    known_quality = all.0;
    ends_a_period = all.1.0;
    no_duplicate = all.1.1.0;
    de_energised = all.1.1.1.0;
    connected = all.1.1.1.1.0;
    zero_energy = all.1.1.1.1.1.0;
    within_limit = all.1.1.1.1.1.1.0;
  },
  λ g. (g.known_quality, (g.ends_a_period, (g.no_duplicate, (g.de_energised, (g.connected, (g.zero_energy, (g.within_limit, tt))))))),
)

module _ (l : Ledger) (n : Lengths) (a : ReceptionCall) where
  abbrev count : ℕ
  count = length a.body / 7

  may_receive : (m : Option Meter) → meter_with a.mpan l.known ≡ m → (x : Option Registration) → found_in (in_force a.date) (registrations_of m) ≡ x →
      AllHold (header_rows l n a (found_in (appointed a.date) (registrations_of m)) x ++ body_rows l.opening a x) → MayReceive l n a
  may_receive none is x found all = let seven = all.1.1.1.0 in absurd (none-ne-some seven.0 (found ∙ seven.1))
  may_receive (some m) is none found all = let seven = all.1.1.1.0 in absurd (none-ne-some seven.0 seven.1)
  may_receive (some m) is (some r) found all =
      let under = all.1.1.1.1 in
      record {
        long_enough = (meters_iff l.opening n).1 all.0;
        a_date = all.1.0;
        a_number = all.1.1.0;
        meter = m;
        known = is;
        registration = r;
        in_force = (in_force_exact a.date m.registrations r).0 found;
        a_category = under.0;
        appointment = under.1.0.0;
        at_midday = (appointed_exact a.date m.registrations under.1.0.0).0 under.1.0.1;
        same_sender = under.1.0.2;
        same_quantity = under.1.1.0;
        same_duration = under.1.1.1.0;
        whole_records = eqb-true _ _ ((whole_iff (length a.body)).1 under.1.1.1.1.0);
        good_records = λ k h.
            (good_iff l.opening r a.body k).0 (of_each count (record_rows l.opening r a.body) under.1.1.1.1.1 k h);
      }

  rows_hold : MayReceive l n a →
      let meter = registrations_of (meter_with a.mpan l.known) in
      let current = found_in (in_force a.date) meter in
      AllHold (header_rows l n a (found_in (appointed a.date) meter) current ++ body_rows l.opening a current)
  rows_hold m =
      let r = m.registration in
      let rs = m.meter.registrations in
      let midday = (appointed_exact a.date rs m.appointment).1 m.at_midday in
      let whole = (whole_iff (length a.body)).0 (eq-eqb _ _ m.whole_records) in
      let under : AllHold (under_rows l.opening a (appointed a.date rs) (some r)) = (m.a_category, ((m.appointment, midday, m.same_sender), (m.same_quantity, (m.same_duration, (whole, tt))))) in
      let header : AllHold (header_rows l n a (appointed a.date rs) (some r)) = ((meters_iff l.opening n).0 m.long_enough, (m.a_date, (m.a_number, ((r, refl), under)))) in
      subst
      (λ (found : Option Meter).
      AllHold
      (header_rows l n a (found_in (appointed a.date) (registrations_of found)) (found_in (in_force a.date) (registrations_of found))
      ++ body_rows l.opening a (found_in (in_force a.date) (registrations_of found))))
      (sym m.known)
      (subst (λ (current : Option Registration). AllHold (header_rows l n a (appointed a.date rs) current ++ body_rows l.opening a current))
      (sym ((in_force_exact a.date rs r).1 m.in_force))
      (all_append (header_rows l n a (appointed a.date rs) (some r)) (body_rows l.opening a (some r)) header
      (each_all count (record_rows l.opening r a.body) (λ k h. (good_iff l.opening r a.body k).1 (m.good_records k h)))))

pub reception_exact : ReceptionExact
reception_exact l n a known =
    let goes = (reception_answer l n a known).0 in
    (λ e. may_receive l n a (meter_with a.mpan l.known) refl _ refl (goes.0 e), λ m. goes.1 (rows_hold l n a m))

-- the first bad record of a body
first_record_is : (o : Opening) (r : Registration) (body : List ℕ) (count number k : ℕ) →
    FirstFails (each_below count (record_rows o r body)) number (suc k)
    ↔ ((k < count) × ((i : ℕ) → i < k → GoodRecord o r body i) × FirstFails (record_rows o r body k) number (suc k))
first_record_is o r body count number k = (
  λ f. let found = first_each count (record_rows o r body) number (suc k) f in
      let place = at_place (suc found.0) (record_rows o r body found.0) number (suc k) (own found.0) found.3 in
      let same : found.0 ≡ k = omega arith in
      (rw same at found.1, λ i low. (good_iff o r body i).0 (found.2 i (rw same low)), rw same at found.3),
  λ h. each_first count (record_rows o r body) number (suc k) k h.0 (λ i low. (good_iff o r body i).1 (h.1 i low)) h.2,
)
  where
    own : (x : ℕ) → AtPlace (suc x) (record_rows o r body x)
    own x = (refl, (refl, (refl, (refl, (refl, (refl, (refl, tt)))))))

pub reception_places : ReceptionPlaces
reception_places l n a r known is number k =
    let header = header_rows l n a (found_in (appointed a.date) (registrations_of (meter_with a.mpan l.known))) (some r) in
    let goes = rw is at ((reception_answer l n a known).1 number (suc k)) in
    let first = first_record_is l.opening r a.body (length a.body / 7) number k in (
      λ e.
          ⊎_elim
          (λ early. absurd (let z = at_place 0 header number (suc k) without early in omega arith))
          (λ body. let bad = first.0 body.1 in (body.0, bad.0, bad.1, bad.2))
          (first_append header (body_rows l.opening a (some r)) number (suc k) (goes.0 e)),
      λ h. goes.1 (first_right header (body_rows l.opening a (some r)) number (suc k) h.0 (first.1 (h.1, h.2, h.3))),
    )
  where
    without : AtPlace 0 (header_rows l n a (found_in (appointed a.date) (registrations_of (meter_with a.mpan l.known))) (some r))
    without = (refl, (refl, (refl, (refl, (refl, (refl, (refl, (refl, (refl, tt)))))))))

-- ---- run and reads

pub run_exact : RunExact
unfolding ledger_answer ledger_run_check run_check
run_exact l n d =
    goes_by (ledger_run_check l n d) _ refl
    (finds_row refl (any_iff l.opening n)
    (finds_row refl (date_iff (dates l.opening) d)
    finds_none))

picture_iff : (x : Option Picture) → (is_picture x ≡ true) ↔ ((p : Picture) × (x ≡ some p))
picture_iff none = (λ e. absurd (true≢false (sym e)), λ h. absurd (none-ne-some h.0 h.1))
picture_iff (some p) = (λ e. (p, refl), λ h. refl)

pub ran_iff : (l : Ledger) (d : ℕ) → (is_run l d ≡ true) ↔ HasPicture l d
unfolding is_run
ran_iff l d = picture_iff (l.pictures d)

pub totals_exact : TotalsExact
unfolding ledger_answer ledger_totals_check read_check totals_in_range
totals_exact l n d c =
    goes_by (ledger_totals_check l n d c) _ refl
    (finds_row refl (days_iff l.opening n)
    (finds_row refl (date_iff (dates l.opening) d)
    (finds_row refl (not_iff _ (below_iff (categories l.opening) c))
    (finds_row refl (not_iff _ (ran_iff l d))
    finds_none))))

pub coverage_exact : CoverageExact
unfolding ledger_answer ledger_coverage_check read_check totals_in_range
coverage_exact l n d c =
    goes_by (ledger_coverage_check l n d c) _ refl
    (finds_row refl (days_iff l.opening n)
    (finds_row refl (date_iff (dates l.opening) d)
    (finds_row refl (not_iff _ (below_iff (categories l.opening) c))
    (finds_row refl (not_iff _ (ran_iff l d))
    finds_none))))

pub cell_exact : CellExact
unfolding ledger_answer ledger_cell_check read_check cell_in_range
cell_exact l n d c j =
    goes_by (ledger_cell_check l n d c j) _ refl
    (finds_row refl (cells_iff l.opening n)
    (finds_row refl (date_iff (dates l.opening) d)
    (finds_row refl (not_iff _ in_range)
    (finds_row refl (not_iff _ (ran_iff l d))
    finds_none))))
  where
    in_range : ((ltb c (categories l.opening) && between 1 (periods l.opening) j) ≡ true) ↔ ((c < categories l.opening) × (1 ≤ j) × (j ≤ periods l.opening))
    in_range = (
      λ e. let p = (and-eq-true_iff _ _).0 e in
          let q = (between_true 1 (periods l.opening) j).0 p.1 in
          (ltb-true _ _ p.0, q.0, q.1),
      λ h. (and-eq-true_iff _ _).1 (lt-ltb _ _ h.0, (between_true 1 (periods l.opening) j).1 (h.1, h.2)),
    )

pub band_answer_lem : BandAnswer
unfolding ledger_answer ledger_band_check band_check totals_in_range
band_answer_lem l n a =
    goes_by (ledger_band_check l n a) _ refl
    (finds_row refl (days_iff l.opening n)
    (finds_row refl (not_iff _ (below_iff (categories l.opening) a.category))
    finds_none))

-- ---- families

pub family_iff : (a b : Category) → (same_family a b ≡ true) ↔ SameFamily a b
unfolding same_family is_smart
family_iff a b = (
  λ e. let p = (and-eq-true_iff _ _).0 e in
      let q = (and-eq-true_iff _ _).0 p.0 in
      let r = (and-eq-true_iff _ _).0 q.0 in
      let t = (and-eq-true_iff _ _).0 r.0 in
      record {
        smart = (eqb-true _ _ t.0, eqb-true _ _ t.1);
        same_domestic = eqb-true _ _ r.1;
        same_quantity = eqb-true _ _ q.1;
        same_connection = eqb-true _ _ p.1;
      },
  λ s. rw (
    eq-eqb _ _ s.smart.0,
    eq-eqb _ _ s.smart.1,
    eq-eqb _ _ s.same_domestic,
    eq-eqb _ _ s.same_quantity,
    eq-eqb _ _ s.same_connection,
  ),
)

pub no_family : (a b : Category) → (SameFamily a b → ⊥) → same_family a b ≡ false
no_family a b out = cases (same_family a b) (λ t. absurd (out ((family_iff a b).0 t))) (λ t. t)

pub family_exact : FamilyExact
family_exact = (
  family_iff,
  λ a smart. (family_iff a a).1 (record { smart = (smart, smart); same_domestic = refl; same_quantity = refl; same_connection = refl }),
  λ a b advanced. (
    no_family a b (λ s. let z = s.smart.0 in omega arith),
    no_family b a (λ s. let z = s.smart.1 in omega arith),
  ),
  λ a b.
      cases (same_family a b)
      (λ t. t ∙ sym ((family_iff b a).1 (exchanged a b ((family_iff a b).0 t))))
      (λ t. t ∙ sym (no_family b a (λ s. true≢false (sym ((family_iff a b).1 (exchanged b a s)) ∙ t)))),
)
  where
    exchanged : (a b : Category) → SameFamily a b → SameFamily b a
    exchanged a b s =
        record { smart = (s.smart.1, s.smart.0); same_domestic = sym s.same_domestic; same_quantity = sym s.same_quantity; same_connection = sym s.same_connection }
