-- An accepted opening gives the relation.
use Rattle.std.proofs.Common.{◌≡◌, ℕ, zero, suc, ◌+◌, ◌*◌, ◌/◌, ◌%◌, ◌<◌, ◌≤◌, Bool, true, false, cond, not, ltb, leb, List, [], ◌++◌, length, get_or, drop, replicate, sym, refl, ap, ◌∙◌, add_assoc, zero-add, arith, length-append, length-drop, get_or-drop, get_or-append-add, ltb-false, eqb-true, le-leb, leb-false, leb-true}
use mathlib.Core.Option.{none}
use lib.ListN.{length-replicate, get_or-replicate, get_or-append, get_or-eq_default}
use borrow.Table.Steps.{cases}
use borrow.Author.Tests.{not-false}
use Rattle.metering.specs.Range.{between, meters_in_range, categories_in_range, dates_in_range}
use Rattle.metering.proofs.Laws.{between_true, duration_is}
use Rattle.ledger.specs.Method.{category_at, window_at}
use Rattle.ledger.specs.Checks.{verdict, first_failed, window_number, category_number, day_type_number, sizes_valid, opening_check}
use Rattle.ledger.specs.Sizes.{header_length, settings_length, meters_length, readings_length, cells_length, days_length}
use Rattle.ledger.specs.Opening.{Opening, windows, window_places, window, categories, dates, periods}
use Rattle.ledger.specs.Ledger.{any_short, meters_short, settings_short}
use Rattle.ledger.specs.Store.{word, word_bytes, minute_bytes, header_bytes, duration_of, meters_of, categories_of, dates_of, window_of, category_of, day_type_of, mpan_at, registration_index, registration_at, set_index, is_held_at}
use Rattle.ledger.proofs.Ready.{both}
use Rattle.ledger.specs.Calls.{opening_verdict, emptied, opened_settings, row_at}
use Rattle.ledger.proofs.Choices.{verdict_passed, neither}
use Rattle.ledger.proofs.Verdicts.{passed_else}
use Rattle.ledger.proofs.Lists.{block_below}
use Rattle.ledger.proofs.Days.{none_are}
use Rattle.ledger.proofs.Relation.{Valid, SettingsAgree, FreeAt, MetersAgree, ReadingsAgree, CellsAgree, day_by, DaysAgree}
use Rattle.ledger.proofs.Receive.{set_below, first_passed}
use Rattle.ledger.proofs.Windows.{minute_length, minute_byte}

-- ---- what an accepted opening tells

-- sizes in range
pub sizes_valid_lem : (a : Opening) → sizes_valid a ≡ true → Valid a
unfolding sizes_valid meters_in_range categories_in_range dates_in_range
sizes_valid_lem a h =
    let t = both _ _ h in
    let c = both _ _ t.0 in
    let w = both _ _ c.0 in
    let d = both _ _ w.0 in
    record {
      duration = duration_is a.duration d.0;
      meters = (between_true 1 1024 a.meters).0 d.1;
      categories_are = (between_true 1 64 (categories a)).0 c.1;
      dates_are = (between_true 1 800 (dates a)).0 t.1;
      whole = let z = eqb-true (length a.category_bytes % 8) 0 w.1 in omega arith;
    }

pub record OpeningAccepted (settings meters readings cells days : List ℕ) (a : Opening) : Type 0 where
  pub sizes : sizes_valid a ≡ true
  pub valid : Valid a
  pub windows_good : (i : ℕ) → i < window_places a → window_number a.duration a.window_minutes i ≡ 0
  pub settings_long : settings_length (categories a) (dates a) ≤ length settings
  pub meters_long : meters_length a.meters ≤ length meters
  pub readings_long : readings_length a.meters (dates a) (periods a) ≤ length readings
  pub cells_long : cells_length (categories a) (dates a) (periods a) ≤ length cells
  pub days_long : days_length (categories a) (dates a) ≤ length days

pub opening_accepted : (settings meters readings cells days : List ℕ) (a : Opening) → (opening_verdict settings meters readings cells days a).number ≡ 0 → OpeningAccepted settings meters readings cells days a
unfolding opening_verdict opening_check any_short meters_short settings_short
opening_accepted settings meters readings cells days a e =
    let p3 = verdict_passed (not (sizes_valid a)) 2 _ e in
    let p19 = passed_else (first_failed (window_number a.duration a.window_minutes) (window_places a) 0) _ p3.1 in
    let p4 = passed_else (first_failed (category_number (windows a) a.category_bytes) (categories a) 0) _ p19.1 in
    let p5 = passed_else (first_failed (day_type_number a.day_types) (dates a) 0) _ p4.1 in
    let s4 = neither _ (ltb (length days) (days_length (categories a) (dates a))) (shorts _ p5.1) in
    let s3 = neither _ (ltb (length cells) (cells_length (categories a) (dates a) (periods a))) s4.0 in
    let s2 = neither _ (ltb (length readings) (readings_length a.meters (dates a) (periods a))) s3.0 in
    let s1 = neither (ltb (length settings) (settings_length (categories a) (dates a))) (ltb (length meters) (meters_length a.meters)) s2.0 in
    record {
      sizes = not-false _ p3.0;
      valid = sizes_valid_lem a (not-false _ p3.0);
      windows_good = λ i h. rw (zero-add i) at (first_passed (window_number a.duration a.window_minutes) (window_places a) 0 p19.0 i h);
      settings_long = ltb-false _ _ s1.0;
      meters_long = ltb-false _ _ s1.1;
      readings_long = ltb-false _ _ s2.1;
      cells_long = ltb-false _ _ s3.1;
      days_long = ltb-false _ _ s4.1;
    }
  where
    shorts : (b : Bool) → (verdict (cond b 1 0)).number ≡ 0 → b ≡ false
    shorts true e = absurd (omega arith)
    shorts false e = refl

-- ---- settings

module _ (a : Opening) (settings : List ℕ) (whole : length a.category_bytes ≡ 8 * categories a) where
  rest : List ℕ
  rest = drop (settings_length (categories a) (dates a)) settings

  two : (n : ℕ) → 256 * (n / 256) + n % 256 ≡ n
  two n = omega arith

  drop_is : drop header_length (opened_settings a settings) ≡ a.category_bytes ++ a.day_types ++ rest
  unfolding opened_settings header_bytes word_bytes minute_bytes rest
  drop_is = refl

  abbrev minutes : List ℕ
  minutes = a.window_minutes

  -- the bytes of the windows' minutes, after four numbers
  minutes_are : drop 8 (opened_settings a settings) ≡ minute_bytes 16 minutes ++ a.category_bytes ++ a.day_types ++ rest
  unfolding opened_settings header_bytes word_bytes rest
  minutes_are = refl

  minute_is : (k b : ℕ) → k < 16 → b < 2 → get_or (opened_settings a settings) (8 + (2 * k + b)) 0 ≡ get_or (word_bytes (get_or minutes k 0)) b 0
  minute_is k b h l =
      sym (get_or-drop 8 (opened_settings a settings) (2 * k + b) 0)
      ∙ rw minutes_are
      (get_or-append (minute_bytes 16 minutes ++ a.category_bytes ++ a.day_types) rest 0 (2 * k + b) (omega (arith, long.0))
      ∙ get_or-append (minute_bytes 16 minutes ++ a.category_bytes) a.day_types 0 (2 * k + b) (omega (arith, long.1))
      ∙ get_or-append (minute_bytes 16 minutes) a.category_bytes 0 (2 * k + b) (omega (arith, minute_length 16 minutes))
      ∙ minute_byte 16 minutes k h b l)
    where
      long : (32 ≤ length (minute_bytes 16 minutes ++ a.category_bytes ++ a.day_types)) × (32 ≤ length (minute_bytes 16 minutes ++ a.category_bytes))
      long = (
        omega (arith, length-append (minute_bytes 16 minutes ++ a.category_bytes) a.day_types, length-append (minute_bytes 16 minutes) a.category_bytes, minute_length 16 minutes),
        omega (arith, length-append (minute_bytes 16 minutes) a.category_bytes, minute_length 16 minutes),
      )

  kept_minute : (k : ℕ) → k < 16 → word (opened_settings a settings) (4 + k) ≡ get_or minutes k 0
  unfolding word
  kept_minute k h =
      let high : 2 * (4 + k) ≡ 8 + (2 * k + 0) = omega arith in
      let low : 2 * (4 + k) + 1 ≡ 8 + (2 * k + 1) = omega arith in
      rw (low, high, minute_is k 0 h (omega arith), minute_is k 1 h (omega arith)) (unfold word_bytes in two (get_or minutes k 0))

  window_is_lem : length minutes ≤ 16 → (w : ℕ) → window_of (opened_settings a settings) w ≡ window a w
  unfolding window_of window_at between
  window_is_lem few zero = refl
  window_is_lem few (suc k) =
      cases (leb (suc k) 8)
      (λ q.
      let low = leb-true (suc k) 8 q in
      let start : 2 * suc k + 2 ≡ 4 + 2 * k = omega arith in
      let end : 2 * suc k + 3 ≡ 4 + (2 * k + 1) = omega arith in
      rw (le-leb 1 (suc k) (omega arith), q, start, end, kept_minute (2 * k) (omega arith), kept_minute (2 * k + 1) (omega arith)))
      (λ q.
      let high = leb-false (suc k) 8 q in
      rw (le-leb 1 (suc k) (omega arith), q, get_or-eq_default minutes 0 {n = 2 * k} (omega arith), get_or-eq_default minutes 0 {n = 2 * k + 1} (omega arith)))

  byte_is : (i : ℕ) → i < length a.category_bytes → get_or (drop header_length (opened_settings a settings)) i 0 ≡ get_or a.category_bytes i 0
  byte_is i h =
      rw drop_is
      (get_or-append (a.category_bytes ++ a.day_types) rest 0 i (rw (length-append a.category_bytes a.day_types) (omega arith))
      ∙ get_or-append a.category_bytes a.day_types 0 i h)

  record_is : (c : ℕ) → c < categories a → category_of (opened_settings a settings) c ≡ category_at a.category_bytes c
  unfolding category_of category_at
  record_is c h =
      λ i.
      record {
        segment = byte_is (8 * c) (omega (arith, whole)) i;
        group = byte_is (8 * c + 1) (omega (arith, whole)) i;
        domestic = byte_is (8 * c + 2) (omega (arith, whole)) i;
        quantity = byte_is (8 * c + 3) (omega (arith, whole)) i;
        connection = byte_is (8 * c + 4) (omega (arith, whole)) i;
        window = byte_is (8 * c + 5) (omega (arith, whole)) i;
        de_minimis = 256 * byte_is (8 * c + 6) (omega (arith, whole)) i + byte_is (8 * c + 7) (omega (arith, whole)) i;
      }

  categories_is : categories_of (opened_settings a settings) ≡ categories a
  unfolding categories_of word opened_settings header_bytes word_bytes
  categories_is = two (categories a)

  type_is : (d : ℕ) → d < dates a → day_type_of (opened_settings a settings) d ≡ get_or a.day_types d 0
  unfolding day_type_of
  type_is d h =
      rw (categories_is, ← whole)
      (ap (λ i. get_or (opened_settings a settings) i 0) (add_assoc header_length (length a.category_bytes) d)
      ∙ sym (get_or-drop header_length (opened_settings a settings) (length a.category_bytes + d) 0)
      ∙ rw drop_is
      (get_or-append (a.category_bytes ++ a.day_types) rest 0 (length a.category_bytes + d) (rw (length-append a.category_bytes a.day_types) (omega arith))
      ∙ get_or-append-add a.category_bytes a.day_types d 0))

  pub settings_length_lem : settings_length (categories a) (dates a) ≤ length settings → length (opened_settings a settings) ≡ length settings
  unfolding opened_settings header_bytes word_bytes minute_bytes settings_length
  settings_length_lem h =
      let x = length-append (a.category_bytes ++ a.day_types) (drop (header_length + 8 * categories a + dates a) settings) in
      let y = length-append a.category_bytes a.day_types in
      let z = length-drop (header_length + 8 * categories a + dates a) settings in
      omega (arith, whole)

  pub settings_agree : length a.window_minutes ≤ 16 → settings_length (categories a) (dates a) ≤ length settings → SettingsAgree a (opened_settings a settings)
  unfolding duration_of meters_of dates_of word opened_settings header_bytes word_bytes
  settings_agree few h =
      record {
        duration = two a.duration;
        meters = two a.meters;
        categories_are = categories_is;
        dates_are = two (dates a);
        windows = window_is_lem few;
        records = record_is;
        types = type_is;
        long = rw (settings_length_lem h) h;
      }

-- ---- the other parts are emptied

emptied_at : (n : ℕ) (xs : List ℕ) (i : ℕ) → i < n → get_or (emptied n xs) i 0 ≡ 0
unfolding emptied
emptied_at n xs i h = get_or-append (replicate n 0) (drop n xs) 0 i (rw (length-replicate {A = ℕ} n 0) h) ∙ get_or-replicate {A = ℕ} n i 0 0 h

pub emptied_length : (n : ℕ) (xs : List ℕ) → n ≤ length xs → length (emptied n xs) ≡ length xs
unfolding emptied
emptied_length n xs h = length-append (replicate n 0) (drop n xs) ∙ rw (length-replicate {A = ℕ} n 0, length-drop n xs) (omega arith)

pub meters_agree : (o : Opening) (xs : List ℕ) → meters_length o.meters ≤ length xs → MetersAgree o (emptied (meters_length o.meters) xs) []
meters_agree o xs h = record { slots = (omega arith, λ x l m. free x m); long = rw (emptied_length (meters_length o.meters) xs h) h }
  where
    entry : (x k : ℕ) → x < o.meters → k < 8 → registration_index o.meters x k + 3 < meters_length o.meters
    entry x k m l = unfold registration_index meters_length in omega arith

    first : (x : ℕ) → x < o.meters → x < meters_length o.meters
    first x m = unfold meters_length in omega arith

    free : (x : ℕ) → x < o.meters → FreeAt o.meters (emptied (meters_length o.meters) xs) x
    free x m =
        record {
          no_mpan = unfold mpan_at in emptied_at (meters_length o.meters) xs x (first x m);
          unused = λ k l. unfold registration_at in emptied_at (meters_length o.meters) xs (registration_index o.meters x k + 3) (entry x k m l);
        }

pub readings_agree : (o : Opening) (xs : List ℕ) → readings_length o.meters (dates o) (periods o) ≤ length xs → ReadingsAgree o (emptied (readings_length o.meters (dates o) (periods o)) xs) []
unfolding is_held_at
readings_agree o xs h =
    record {
      slots = (omega arith, λ x l m d k. rw (emptied_at (readings_length o.meters (dates o) (periods o)) xs _ (below x m d k)));
      long = rw (emptied_length (readings_length o.meters (dates o) (periods o)) xs h) h;
    }
  where
    below : (x : ℕ) → x < o.meters → (d : ℕ) → d < dates o → set_index o.meters (periods o) d x < readings_length o.meters (dates o) (periods o)
    below x m d k = let b = set_below o.meters (periods o) (dates o) d x 0 k m (omega arith) in omega arith

pub cells_agree : (o : Opening) (xs : List ℕ) → cells_length (categories o) (dates o) (periods o) ≤ length xs → CellsAgree o (emptied (cells_length (categories o) (dates o) (periods o)) xs) (λ d. none)
unfolding row_at cells_length
cells_agree o xs h =
    record {
      are = λ x k l m. emptied_at (dates o * (categories o * periods o)) xs (x * (categories o * periods o) + k) (block_below (categories o * periods o) (dates o) x k l m);
      long = rw (emptied_length (dates o * (categories o * periods o)) xs h) h;
    }

-- no date is run
pub days_agree : (o : Opening) (xs : List ℕ) → days_length (categories o) (dates o) ≤ length xs → DaysAgree o (emptied (days_length (categories o) (dates o)) xs) (λ d. none)
unfolding day_by
days_agree o xs h =
    record {
      are = none_are (dates o) (categories o) (emptied (days_length (categories o) (dates o)) xs) (λ i l. emptied_at (days_length (categories o) (dates o)) xs i l);
      long = rw (emptied_length (days_length (categories o) (dates o)) xs h) h;
    }
