-- Settings that are cut at their end: short and refused, or alike in all that is read of them.
use Rattle.std.proofs.Common.{◌≡◌, ℕ, ◌+◌, ◌*◌, ◌<◌, ◌≤◌, Bool, true, false, not, ◌&&◌, ◌||◌, ltb, leb, ◌⊎◌, List, length, get_or, take, drop, sym, refl, ◌∙◌, ⊎_elim, arith, length-take, get_or-drop, le-ltb, lt-ltb, le-leb, leb-false, leb-true}
use borrow.Table.Steps.{cases}
use borrow.Author.Tests.{lt-leb}
use Rattle.metering.specs.Range.{between, meters_in_range, categories_in_range, dates_in_range}
use Rattle.metering.specs.Calendar.{duration_known}
use Rattle.metering.proofs.Laws.{between_true}
use Rattle.ledger.specs.Method.{category_at}
use Rattle.ledger.specs.Sizes.{header_length, settings_length, meters_length, readings_length, cells_length, days_length}
use Rattle.ledger.specs.Ledger.{Opening, categories, dates, periods, settings_short, meters_short, cells_short, days_short, any_short}
use Rattle.ledger.specs.Store.{word, duration_of, meters_of, categories_of, dates_of, periods_of, window_of, category_of, day_type_of, is_opened, settings_ready, meters_ready, readings_ready, cells_ready, days_ready}
use Rattle.ledger.specs.Calls.{meters_unready, run_unready, cells_unready, days_unready}
use Rattle.ledger.proofs.Lists.{get_d_cut}
use Rattle.ledger.proofs.Relation.{Valid, SettingsAgree}

-- ---- cut, and long enough

word_cut : (n : ℕ) (s : List ℕ) (k : ℕ) → header_length ≤ n → k < 20 → word (take n s) k ≡ word s k
unfolding word
word_cut n s k h l = rw (get_d_cut n s (2 * k) (omega arith), get_d_cut n s (2 * k + 1) (omega arith))

byte_cut : (n : ℕ) (s : List ℕ) (i : ℕ) → header_length + i < n → get_or (drop header_length (take n s)) i 0 ≡ get_or (drop header_length s) i 0
byte_cut n s i h = get_or-drop header_length (take n s) i 0 ∙ get_d_cut n s (header_length + i) h ∙ sym (get_or-drop header_length s i 0)

record-cut : (n : ℕ) (s : List ℕ) (c : ℕ) → header_length + 8 * c + 8 ≤ n → category_of (take n s) c ≡ category_of s c
unfolding category_of category_at
record-cut n s c h = λ i.
    record {
      segment = byte_cut n s (8 * c) (omega arith) i;
      group = byte_cut n s (8 * c + 1) (omega arith) i;
      domestic = byte_cut n s (8 * c + 2) (omega arith) i;
      quantity = byte_cut n s (8 * c + 3) (omega arith) i;
      connection = byte_cut n s (8 * c + 4) (omega arith) i;
      window = byte_cut n s (8 * c + 5) (omega arith) i;
      de_minimis = 256 * byte_cut n s (8 * c + 6) (omega arith) i + byte_cut n s (8 * c + 7) (omega arith) i;
    }

window_cut : (n : ℕ) (s : List ℕ) (w : ℕ) → header_length ≤ n → window_of (take n s) w ≡ window_of s w
unfolding window_of
window_cut n s w h =
    cases (between 1 8 w)
    (λ q. let b = (between_true 1 8 w).0 q in rw (word_cut n s (2 * w + 2) h (omega arith), word_cut n s (2 * w + 3) h (omega arith)))
    (λ q. rw q)

pub settings_cut : (o : Opening) (s : List ℕ) (n : ℕ) → SettingsAgree o s → settings_length (categories o) (dates o) ≤ length (take n s) → SettingsAgree o (take n s)
unfolding settings_length duration_of meters_of categories_of dates_of day_type_of
settings_cut o s n a h =
    let l = length-take n s in
    let long : header_length + 8 * categories o + dates o ≤ n = omega arith in
    let C = word_cut n s 2 (omega arith) (omega arith) ∙ a.categories_are in
    record {
      duration = word_cut n s 0 (omega arith) (omega arith) ∙ a.duration;
      meters = word_cut n s 1 (omega arith) (omega arith) ∙ a.meters;
      categories_are = C;
      dates_are = word_cut n s 3 (omega arith) (omega arith) ∙ a.dates_are;
      windows = λ w. window_cut n s w (omega arith) ∙ a.windows w;
      records = λ c m. record-cut n s c (omega arith) ∙ a.records c m;
      types = λ d m. rw C (get_d_cut n s (header_length + 8 * categories o + d) (omega arith) ∙ rw a.categories_are at (a.types d m));
      long = h;
    }

-- ---- ready or short

in_range : (low high x : ℕ) → low ≤ x → x ≤ high → between low high x ≡ true
unfolding between
in_range low high x a b = rw (le-leb low x a, le-leb x high b)

pub duration_known_lem : (d : ℕ) → (d ≡ 15) ⊎ (d ≡ 30) → duration_known d ≡ true
unfolding duration_known
duration_known_lem d h = ⊎_elim (λ e. rw e) (λ e. rw e) h

settings_ready_lem : (o : Opening) (s : List ℕ) → Valid o → SettingsAgree o s → settings_ready s ≡ true
unfolding settings_ready is_opened meters_in_range categories_in_range dates_in_range
settings_ready_lem o s v a =
    rw (
      a.duration,
      a.meters,
      a.categories_are,
      a.dates_are,
      duration_known_lem o.duration v.duration,
      in_range 1 1024 o.meters v.meters.0 v.meters.1,
      in_range 1 64 (categories o) v.categories_are.0 v.categories_are.1,
      in_range 1 800 (dates o) v.dates_are.0 v.dates_are.1,
      le-leb (settings_length (categories o) (dates o)) (length s) a.long,
    )

and_false : (a : Bool) → (a && false) ≡ false
and_false true = refl
and_false false = refl

settings_unready : (o : Opening) (s : List ℕ) (n : ℕ) → SettingsAgree o s → length (take n s) < settings_length (categories o) (dates o) → settings_ready (take n s) ≡ false
unfolding settings_ready settings_length categories_of dates_of
settings_unready o s n a h =
    let l = length-take n s in
    let long : settings_length (categories o) (dates o) ≤ length s = a.long in
    rw (lt-leb (header_length + 8 * word (take n s) 2 + word (take n s) 3) (length (take n s))
    (cases (leb header_length n)
    (λ q. rw (word_cut n s 2 (leb-true header_length n q) (omega arith), word_cut n s 3 (leb-true header_length n q) (omega arith), a.categories_are, a.dates_are) h)
    (λ q. let m = leb-false header_length n q in omega arith)))
    (and_false (is_opened (take n s)))

not_leb : (a b : ℕ) → not (leb a b) ≡ ltb b a
not_leb a b =
    cases (leb a b)
    (λ q. rw (q, le-ltb b a (leb-true a b q)))
    (λ q. rw (q, lt-ltb b a (leb-false a b q)))

not_and : (a b : Bool) → not (a && b) ≡ (not a || not b)
not_and true b = refl
not_and false b = refl

-- for each group of parts lent, cut settings first
module _ (o : Opening) (s : List ℕ) (n : ℕ) (v : Valid o) (a : SettingsAgree o s) where
  settings_short_lem : not (settings_ready (take n s)) ≡ ltb (length (take n s)) (settings_length (categories o) (dates o))
  settings_short_lem =
      cases (leb (settings_length (categories o) (dates o)) (length (take n s)))
      (λ q.
      let l = leb-true (settings_length (categories o) (dates o)) (length (take n s)) q in
      rw (settings_ready_lem o (take n s) v (settings_cut o s n a l), le-ltb (length (take n s)) (settings_length (categories o) (dates o)) l))
      (λ q.
      let l = leb-false (settings_length (categories o) (dates o)) (length (take n s)) q in
      rw (settings_unready o s n a l, lt-ltb (length (take n s)) (settings_length (categories o) (dates o)) l))

  -- what the other parts ask is the opening's where the settings are long enough, and no matter where they are not
  guard : (f g : Bool) → (settings_length (categories o) (dates o) ≤ length (take n s) → f ≡ g) →
      (not (settings_ready (take n s)) || f) ≡ (ltb (length (take n s)) (settings_length (categories o) (dates o)) || g)
  guard f g h =
      rw settings_short_lem
      (cases (leb (settings_length (categories o) (dates o)) (length (take n s)))
      (λ q. rw (h (leb-true (settings_length (categories o) (dates o)) (length (take n s)) q)))
      (λ q. rw (lt-ltb (length (take n s)) (settings_length (categories o) (dates o)) (leb-false (settings_length (categories o) (dates o)) (length (take n s)) q))))

  or_assoc : (a b c : Bool) → ((a || b) || c) ≡ (a || (b || c))
  or_assoc true b c = refl
  or_assoc false b c = refl

  meters_part : (m : List ℕ) → settings_length (categories o) (dates o) ≤ length (take n s) → not (meters_ready (take n s) m) ≡ ltb (length m) (meters_length o.meters)
  unfolding meters_ready
  meters_part m l = rw (settings_cut o s n a l).meters (not_leb (meters_length o.meters) (length m))

  readings_part : (r : List ℕ) → settings_length (categories o) (dates o) ≤ length (take n s) →
      not (readings_ready (take n s) r) ≡ ltb (length r) (readings_length o.meters (dates o) (periods o))
  unfolding readings_ready periods_of
  readings_part r l =
      let c = settings_cut o s n a l in
      rw (c.meters, c.dates_are, c.duration) (not_leb (readings_length o.meters (dates o) (periods o)) (length r))

  cells_part : (x : List ℕ) → settings_length (categories o) (dates o) ≤ length (take n s) →
      not (cells_ready (take n s) x) ≡ ltb (length x) (cells_length (categories o) (dates o) (periods o))
  unfolding cells_ready periods_of
  cells_part x l =
      let c = settings_cut o s n a l in
      rw (c.categories_are, c.dates_are, c.duration) (not_leb (cells_length (categories o) (dates o) (periods o)) (length x))

  days_part : (x : List ℕ) → settings_length (categories o) (dates o) ≤ length (take n s) → not (days_ready (take n s) x) ≡ ltb (length x) (days_length (categories o) (dates o))
  unfolding days_ready
  days_part x l =
      let c = settings_cut o s n a l in
      rw (c.categories_are, c.dates_are) (not_leb (days_length (categories o) (dates o)) (length x))

  pub meters_unready_lem : (m r : List ℕ) (k j : ℕ) → meters_unready (take n s) m r ≡ meters_short o (record { settings = length (take n s); meters = length m; readings = length r; cells = k; days = j })
  unfolding meters_unready meters_short settings_short
  meters_unready_lem m r k j =
      rw (not_and (settings_ready (take n s) && meters_ready (take n s) m) (readings_ready (take n s) r), not_and (settings_ready (take n s)) (meters_ready (take n s) m))
      (simp or_assoc (guard _ _ (λ l. rw (meters_part m l, readings_part r l))))

  pub cells_unready_lem : (x : List ℕ) (i k j : ℕ) → cells_unready (take n s) x ≡ cells_short o (record { settings = length (take n s); meters = i; readings = k; cells = length x; days = j })
  unfolding cells_unready cells_short settings_short
  cells_unready_lem x i k j = rw (not_and (settings_ready (take n s)) (cells_ready (take n s) x)) (guard _ _ (λ l. cells_part x l))

  pub days_unready_lem : (x : List ℕ) (i k j : ℕ) → days_unready (take n s) x ≡ days_short o (record { settings = length (take n s); meters = i; readings = k; cells = j; days = length x })
  unfolding days_unready days_short settings_short
  days_unready_lem x i k j = rw (not_and (settings_ready (take n s)) (days_ready (take n s) x)) (guard _ _ (λ l. days_part x l))

  pub run_unready_lem : (m r x y : List ℕ) → run_unready (take n s) m r x y ≡ any_short o (record { settings = length (take n s); meters = length m; readings = length r; cells = length x; days = length y })
  unfolding run_unready any_short meters_short settings_short
  run_unready_lem m r x y =
      rw (
        not_and (settings_ready (take n s) && meters_ready (take n s) m && readings_ready (take n s) r && cells_ready (take n s) x) (days_ready (take n s) y),
        not_and (settings_ready (take n s) && meters_ready (take n s) m && readings_ready (take n s) r) (cells_ready (take n s) x),
        not_and (settings_ready (take n s) && meters_ready (take n s) m) (readings_ready (take n s) r),
        not_and (settings_ready (take n s)) (meters_ready (take n s) m),
      )
      (simp or_assoc (guard _ _ (λ l. rw (meters_part m l, readings_part r l, cells_part x l, days_part y l))))
