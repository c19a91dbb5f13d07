-- What the opening's checks say, one after the other, and what is left then.
use Rattle.std.proofs.Common.{◌≡◌, ℕ, ◌+◌, ◌/◌, ◌<◌, ◌≤◌, Bool, true, false, ◌||◌, cond, List, [], length, refl, sym, ap, ◌∙◌, add-zero, zero-add, zero, suc, arith}
use Rattle.std.proofs.Math.Bool.{or-false, or_assoc}
use Rattle.std.specs.List.{range_with_len, list_any}
use Rattle.metering.proofs.Laws.{duration_pos}
use Rattle.ledger.specs.Opening.{Opening, windows, window_places, categories, dates}
use Rattle.ledger.specs.Checks.{verdict, first_failed, any_below, or_else, window_number, category_number, day_type_number, sizes_valid, opening_check}
use Rattle.ledger.specs.Ledger.{Lengths, least_lengths, settings_short, meters_short, any_short, answer, accepted, refused}
use Rattle.ledger.specs.Calls.{opening_verdict, emptied, opened_settings, opened_meters, opened_readings, opened_cells, opened_days, OpeningMeets}
use Rattle.ledger.proofs.Verdicts.{left_none, left_some, accepted_none, refused_some, or_refused, or_accepted}
use Rattle.metering.specs.Calendar.{periods_per_day}
use Rattle.ledger.proofs.Runs.{valid_periods}
use Rattle.ledger.proofs.Settings.{duration_known_lem}
use Rattle.ledger.proofs.Open.{OpeningAccepted, opening_accepted, sizes_valid_lem}
use Rattle.opening.specs.Lengths.{any_below_least}

-- the numbers from a on, after those below it
any_added : (f : ℕ → Bool) (a n : ℕ) → (any_below a f || list_any f (range_with_len a n)) ≡ any_below (a + n) f
unfolding any_below
any_added f a zero = simp (or-false, add-zero)
any_added f a (suc n) =
    let after : a + suc n ≡ suc a + n = omega arith in
    let here : a + 1 ≡ suc a = omega arith in
    rw (after, ← any_added f (suc a) n, here, or_assoc)

pub any_listed : (f : ℕ → Bool) (n : ℕ) → list_any f (range_with_len 0 n) ≡ any_below n f
unfolding any_below
any_listed f n = rw zero-add at (any_added f 0 n)

-- ---- the checks, one after the other

-- windows are no part of the sizes
pub sizes_of : (a : Opening) (minutes : List ℕ) → sizes_valid (record { duration = a.duration; meters = a.meters; window_minutes = minutes; category_bytes = a.category_bytes; day_types = a.day_types }) ≡ sizes_valid a
unfolding sizes_valid
sizes_of a minutes = refl

module _ (a : Opening) (short : Bool) where
  pub sizes_refused : sizes_valid (record a { window_minutes = [] }) ≡ false → refused 3 0 ≡ answer (opening_check a short) accepted
  unfolding opening_check answer sizes_valid
  sizes_refused e = rw e

  module _ (valid : sizes_valid (record a { window_minutes = [] }) ≡ true) where
    opening_next : opening_check a short
        ≡ or_else (first_failed (window_number a.duration a.window_minutes) (window_places a) 0)
        (or_else (first_failed (category_number (windows a) a.category_bytes) (categories a) 0) (or_else (first_failed (day_type_number a.day_types) (dates a) 0) (verdict (cond short 1 0))))
    unfolding opening_check
    opening_next = rw (sym (sizes_of a []) ∙ valid)

    pub window_refused : (n p : ℕ) → refused n p ≡ answer (first_failed (window_number a.duration a.window_minutes) (window_places a) 0) accepted
        → refused n p ≡ answer (opening_check a short) accepted
    window_refused n p e = rw opening_next (or_refused _ _ n p e)

    module _ (windowed : accepted ≡ answer (first_failed (window_number a.duration a.window_minutes) (window_places a) 0) accepted) where
      pub category_refused : (n p : ℕ) → refused n p ≡ answer (first_failed (category_number (windows a) a.category_bytes) (categories a) 0) accepted
          → refused n p ≡ answer (opening_check a short) accepted
      category_refused n p e = rw (opening_next, or_accepted _ _ windowed) (or_refused _ _ n p e)

      module _ (records : accepted ≡ answer (first_failed (category_number (windows a) a.category_bytes) (categories a) 0) accepted) where
        pub day_type_refused : (n p : ℕ) → refused n p ≡ answer (first_failed (day_type_number a.day_types) (dates a) 0) accepted
            → refused n p ≡ answer (opening_check a short) accepted
        day_type_refused n p e = rw (opening_next, or_accepted _ _ windowed, or_accepted _ _ records) (or_refused _ _ n p e)

        module _ (types : accepted ≡ answer (first_failed (day_type_number a.day_types) (dates a) 0) accepted) where
          opening_last : opening_check a short ≡ verdict (cond short 1 0)
          opening_last = rw (opening_next, or_accepted _ _ windowed, or_accepted _ _ records) (or_accepted _ _ types)

          pub short_refused : short ≡ true → refused 1 0 ≡ answer (opening_check a short) accepted
          unfolding answer
          short_refused e = rw (opening_last, e)

          pub none_failed : short ≡ false → accepted ≡ answer (opening_check a short) accepted
          unfolding answer
          none_failed e = rw (opening_last, e)

-- ---- sizes in range give products far below 2 ^ 64

module _ (duration meters : ℕ) (records types : List ℕ) (valid : sizes_valid (record { duration = duration; meters = meters; window_minutes = []; category_bytes = records; day_types = types }) ≡ true) where
  pub duration_some : 0 < duration
  duration_some = duration_pos _ (duration_known_lem _ (sizes_valid_lem _ valid).duration)

  pub few_meters : meters ≤ 1024
  few_meters = (sizes_valid_lem _ valid).meters.1

  pub few_categories : length records / 8 ≤ 64
  few_categories = (sizes_valid_lem _ valid).categories_are.1

  pub few_dates : length types ≤ 800
  few_dates = (sizes_valid_lem _ valid).dates_are.1

  pub few_periods : periods_per_day duration ≤ 96
  few_periods = (valid_periods _ (sizes_valid_lem _ valid)).1

pub ruleset sized = (duration_some, few_meters, few_categories, few_dates, few_periods)

-- a length below its least is what the ledger calls short
pub short_is : (a : Opening) (n least : Lengths) {short : Bool} → short ≡ any_below_least n least → least ≡ least_lengths (record a { window_minutes = [] }) → short ≡ any_short a n
unfolding any_below_least any_short meters_short settings_short
short_is a n least is are = rw (is, are)

-- what the checks tell, in their order
pub ruleset pieces = (sizes_refused, duration_some, window_refused, category_refused, day_type_refused, short_is, short_refused, none_failed)

-- the lengths of parts
abbrev lengths_of : List ℕ → List ℕ → List ℕ → List ℕ → List ℕ → Lengths
lengths_of S M R C D = record { settings = length S; meters = length M; readings = length R; cells = length C; days = length D }

module _ (S M R C D : List ℕ) (a : Opening) where
  -- a refused opening leaves each part as it was
  pub opening_refused : (n p : ℕ) → refused n p ≡ answer (opening_check a (any_short a (lengths_of S M R C D))) accepted → OpeningMeets S M R C D a (refused n p) S M R C D
  unfolding opening_verdict
  opening_refused n p e =
      let ne = refused_some _ n p e in
      record {
        answered = e;
        settings = sym (left_some _ _ _ ne);
        meters = sym (left_some _ _ _ ne);
        readings = sym (left_some _ _ _ ne);
        cells = sym (left_some _ _ _ ne);
        days = sym (left_some _ _ _ ne);
      }

  module _ (e : accepted ≡ answer (opening_check a (any_short a (lengths_of S M R C D))) accepted) where
    pub passed : OpeningAccepted S M R C D a
    unfolding opening_verdict
    passed = opening_accepted _ _ _ _ _ _ (accepted_none _ e)

    -- an accepted one is written, each other part emptied to its least length
    pub opening_done : (least : Lengths) {S' M' R' C' D' : List ℕ} → least ≡ least_lengths (record a { window_minutes = [] })
        → S' ≡ opened_settings a S → M' ≡ emptied least.meters M → R' ≡ emptied least.readings R → C' ≡ emptied least.cells C → D' ≡ emptied least.days D
        → OpeningMeets S M R C D a accepted S' M' R' C' D'
    unfolding opening_verdict opened_meters opened_readings opened_cells opened_days
    opening_done least are s m r c d =
        let z = accepted_none _ e in
        record {
          answered = e;
          settings = s ∙ sym (left_none _ _ _ z);
          meters = m ∙ ap (λ n. emptied n.meters M) are ∙ sym (left_none _ _ _ z);
          readings = r ∙ ap (λ n. emptied n.readings R) are ∙ sym (left_none _ _ _ z);
          cells = c ∙ ap (λ n. emptied n.cells C) are ∙ sym (left_none _ _ _ z);
          days = d ∙ ap (λ n. emptied n.days D) are ∙ sym (left_none _ _ _ z);
        }
