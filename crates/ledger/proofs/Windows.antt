-- Windows: what good ones come to, their bytes in the header, and sums over a stretch of periods.
use Rattle.std.proofs.Common.{◌≡◌, ℕ, zero, suc, ◌+◌, ◌*◌, ◌/◌, ◌<◌, ◌≤◌, Bool, true, false, cond, ◌&&◌, ltb, leb, List, ◌++◌, length, get_or, refl, ◌∙◌, arith, length-append, get_or-append-add, ltb-false, ltb-true, le-ltb, lt-ltb, le-leb, leb-false, leb-true}
use mathlib.Core.Bool.{and-eq-true_iff}
use lib.ListN.{get_or-append, get_or-eq_default}
use borrow.Table.Steps.{cases}
use borrow.Author.Tests.{lt-leb}
use Rattle.metering.specs.Sum.{sum_below}
use Rattle.metering.specs.Calendar.{window_valid}
use Rattle.metering.proofs.Laws.{window_valid_is}
use Rattle.ledger.specs.Checks.{window_number}
use Rattle.ledger.specs.Store.{word_bytes, minute_bytes}
use Rattle.ledger.proofs.Lists.{below_suc, sum_below_more, sum_below_none, sum_below_cong}

-- ---- good windows

no_19 : (t : Bool) → ◌≡◌ {A = ℕ} (cond t 0 19) 0 → t ≡ true
no_19 true e = refl
no_19 false e = absurd (omega arith)

window_good : (duration : ℕ) (minutes : List ℕ) (i : ℕ) → window_number duration minutes i ≡ 0 →
    (i < 8) × (2 * i + 1 < length minutes) × (window_valid duration (get_or minutes (2 * i) 0) (get_or minutes (2 * i + 1) 0) ≡ true)
unfolding window_number
window_good duration minutes i e =
    let p = (and-eq-true_iff _ _).0 (no_19 _ e) in
    let q = (and-eq-true_iff _ _).0 p.0 in
    (ltb-true _ _ q.0, ltb-true _ _ q.1, p.1)

-- places of n minutes, the last one with a start alone where n is odd: where each is one of eight and has its end, the minutes are few and even
pub places_few : (n : ℕ) → ((i : ℕ) → i < (n + 1) / 2 → (i < 8) × (2 * i + 1 < n)) → (n ≤ 16) × (n ≡ 2 * (n / 2))
places_few n good = (
  cases (leb n 16) (λ q. leb-true n 16 q) (λ q. let more = leb-false n 16 q in let ninth = (good 8 (omega arith)).0 in absurd (omega arith)),
  cases (ltb (n / 2) ((n + 1) / 2))
      (λ q. let odd = ltb-true (n / 2) ((n + 1) / 2) q in let last = (good (n / 2) odd).1 in absurd (omega arith))
      (λ q. let even = ltb-false (n / 2) ((n + 1) / 2) q in omega arith),
)

either : (k m : ℕ) (P : ℕ → Type 0) → 2 * m ≤ k → k ≤ 2 * m + 1 → P (2 * m) → P (2 * m + 1) → P k
either k m P low high p q =
    cases (leb k (2 * m))
    (λ t. let h = leb-true k (2 * m) t in let e : k ≡ 2 * m = omega arith in rw e p)
    (λ t. let h = leb-false k (2 * m) t in let e : k ≡ 2 * m + 1 = omega arith in rw e q)

-- where all are good
module _ (duration : ℕ) (minutes : List ℕ) (good : (i : ℕ) → i < (length minutes + 1) / 2 → window_number duration minutes i ≡ 0) where
  pub windows_few : length minutes ≤ 16
  windows_few = (places_few (length minutes) (λ i h. let w = window_good duration minutes i (good i h) in (w.0, w.1))).0

  -- a minute is the start or the end of its window
  pub minutes_low : (k : ℕ) → get_or minutes k 0 ≤ 1440
  minutes_low k =
      cases (ltb k (length minutes))
      (λ q.
      let there = ltb-true k (length minutes) q in
      let w = window_good duration minutes (k / 2) (good (k / 2) (omega arith)) in
      let v = (window_valid_is duration (get_or minutes (2 * (k / 2)) 0) (get_or minutes (2 * (k / 2) + 1) 0)).0 w.2 in
      let order = v.2 in
      let end = v.3 in
      either k (k / 2) (λ x. get_or minutes x 0 ≤ 1440) (omega arith) (omega arith) (omega arith) end)
      (λ q. rw (get_or-eq_default minutes 0 {n = k} (ltb-false k (length minutes) q)) (omega arith))

-- ---- the header's bytes of them

pub minute_length : (n : ℕ) (minutes : List ℕ) → length (minute_bytes n minutes) ≡ 2 * n
unfolding minute_bytes word_bytes
minute_length zero minutes = refl
minute_length (suc n) minutes = length-append (minute_bytes n minutes) (word_bytes (get_or minutes n 0)) ∙ rw (minute_length n minutes) (omega arith)

-- byte b of minute k
pub minute_byte : (n : ℕ) (minutes : List ℕ) (k : ℕ) → k < n → (b : ℕ) → b < 2 → get_or (minute_bytes n minutes) (2 * k + b) 0 ≡ get_or (word_bytes (get_or minutes k 0)) b 0
unfolding minute_bytes
minute_byte zero minutes k h b l = absurd (omega arith)
minute_byte (suc n) minutes k h b l =
    below_suc (λ x. get_or (minute_bytes n minutes ++ word_bytes (get_or minutes n 0)) (2 * x + b) 0 ≡ get_or (word_bytes (get_or minutes x 0)) b 0) n
    (λ x m. get_or-append (minute_bytes n minutes) (word_bytes (get_or minutes n 0)) 0 (2 * x + b) (rw (minute_length n minutes) (omega arith)) ∙ minute_byte n minutes x m b l)
    (rw (← (minute_length n minutes)) (get_or-append-add (minute_bytes n minutes) (word_bytes (get_or minutes n 0)) b 0))
    k h

-- ---- sums over a stretch of periods

pub stretch_in : (a m b : ℕ) (f : ℕ → ℕ) → sum_below (a + m + b) (λ k. cond (leb a k && ltb k (a + m)) (f k) 0) ≡ sum_below m (λ i. f (a + i))
stretch_in a m b f =
    let g : ℕ → ℕ = λ k. cond (leb a k && ltb k (a + m)) (f k) 0 in
    let before : sum_below a g ≡ 0 = sum_below_none a g (λ k l. rw (lt-leb a k l)) in
    let after : sum_below b (λ k. g (a + m + k)) ≡ 0 =
    sum_below_none b (λ k. g (a + m + k)) (λ k l. rw (le-leb a (a + m + k) (omega arith), le-ltb (a + m + k) (a + m) (omega arith))) in
    let within : sum_below m (λ i. g (a + i)) ≡ sum_below m (λ i. f (a + i)) =
    sum_below_cong m (λ i. g (a + i)) (λ i. f (a + i)) (λ k l. rw (le-leb a (a + k) (omega arith), lt-ltb (a + k) (a + m) (omega arith))) in
    sum_below_more (a + m) b g ∙ rw (sum_below_more a m g, before, after, within) (omega arith)
