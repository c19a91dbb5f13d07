-- Laws of the definitions, for the layers above: what they may use without opening a definition.
use Rattle.std.specs.Prelude.{ℕ, zero, suc, ◌+◌, ◌*◌, ◌/◌, ◌%◌, ◌-◌, ◌≤◌, ◌<◌, ◌≡◌, refl, ◌↔◌, ◌≢◌, ◌⊎◌, Bool, true, false, not, ◌&&◌, get_or, eqb, leb, ltb, ℤ, pos, neg_ℤ, ◌+ℤ◌, ◌-ℤ◌, ◌≤ℤ◌, ◌<ℤ◌}
use Rattle.std.proofs.Common.{sym, ap, ◌∙◌, inl, inr, ⊎_elim, div-lt_iff_lt-mul, div-one, div-add-mod', mod-lt, div-mul-le_self, le-div_iff_mul-le, le_trans, add-zero, mul-pos, pos_of_ne-zero, mul-div_cancel, le_of_mul-le-mul_right, mul-le-mul_left, mul-le-mul_right, mul-lt-mul_of_pos_right, arith, leb→le, le→leb, ltb→lt, lt→ltb, leb-true, le-leb, ltb-true, ltb-false, lt-ltb, le-ltb, eqb-true, eq-eqb, ne_eqb}
use Rattle.std.proofs.Math.Bool.{and-eq-true_iff, and-false}
use Rattle.std.proofs.Math.Nat.{mul-div-le, lt-mul-div-succ, div-eq_of_lt-le, mul-mod_left}
use Rattle.std.proofs.Math.IntN.{sub_ℕ, +ℤ_idr, +ℤ_comm, +ℤ-neg_ℤ_cancel, -ℤ-+ℤ_cancel}
use Rattle.std.specs.Int.Signed.{mag}
use borrow.Table.Steps.{cases}
use Rattle.std.proofs.lemmas.Bool.{lt-leb, not-true, not-false}
use Rattle.metering.specs.Average.{average, remainder, Rounded, annual}
use Rattle.metering.specs.Calendar.{duration_known, periods_per_day, period_ending, lies_within, window_valid}
use Rattle.metering.specs.Sum.{sum_below, sum_below_le}
use Rattle.metering.specs.Mpan.{weights, digit, product, weighted_sum, mpan_valid}
use Rattle.metering.specs.Range.{between}

-- what a call answered, and the negated test on it

pub test_failed : {r x : Bool} → r ≡ x → not r ≡ true → x ≡ false
test_failed e t = sym e ∙ not-true _ t

pub test_passed : {r x : Bool} → r ≡ x → not r ≡ false → x ≡ true
test_passed e t = sym e ∙ not-false _ t

-- what two calls answered, and the test whether they agree

pub agree : {a b x y : ℕ} → a ≡ x → b ≡ y → a ≡ b → eqb x y ≡ true
agree p q e = eq-eqb _ _ (sym p ∙ e ∙ q)

pub differ : {a b x y : ℕ} → a ≡ x → b ≡ y → (a ≡ b → ⊥) → eqb x y ≡ false
differ p q n = ne_eqb _ _ (λ e. n (p ∙ e ∙ sym q))

pub both_leb : (a b c d : ℕ) → (leb a b && leb c d ≡ true) ↔ ((a ≤ b) × (c ≤ d))
both_leb a b c d = (
  λ e. let p = (and-eq-true_iff (leb a b) (leb c d)).0 e in (leb-true a b p.0, leb-true c d p.1),
  λ h. (and-eq-true_iff (leb a b) (leb c d)).1 (le-leb a b h.0, le-leb c d h.1),
)

-- ranges

pub between_true : (low high x : ℕ) → (between low high x ≡ true) ↔ ((low ≤ x) × (x ≤ high))
unfolding between
between_true low high x = both_leb low x x high

-- averages

-- halves go up: v is the average of s over n where s / n < v + 1/2 and v - 1/2 ≤ s / n
pub average_is : (s n v : ℕ) → 0 < n → ((2 * s < 2 * n * v + n) × (2 * n * v ≤ 2 * s + n)) ↔ (v ≡ average s n)
unfolding average
average_is s n v h = (
  λ b. sym (div-eq_of_lt-le (2 * n) (omega arith) (omega arith)),
  λ e. let low : 2 * n * v ≤ 2 * s + n = rw e (mul-div-le (2 * s + n) (2 * n)) in
      let high : 2 * s + n < 2 * n * (v + 1) = rw e (lt-mul-div-succ (2 * s + n) (omega arith)) in
      (omega arith, low),
)

pub average_le : (s n b : ℕ) → 0 < n → s ≤ n * b → average s n ≤ b
unfolding average
average_le s n b h k =
    let less : average s n < b + 1 = (div-lt_iff_lt-mul {k = 2 * n} {x = 2 * s + n} {y = b + 1} (omega arith)).1 (omega arith) in
    omega arith

-- a difference of two numbers, by which of them is less
pub minus_is : (a b : ℕ) → pos a -ℤ pos b ≡ sub_ℕ a b
minus_is a zero = let same : a + 0 ≡ a - 0 = omega arith in rw (le-ltb a 0 (omega arith), same)
minus_is a (suc b) = refl

-- it is what makes up the one with the other
minus_makes_up : (a b : ℕ) (r : ℤ) → (pos b +ℤ r ≡ pos a) ↔ (r ≡ pos a -ℤ pos b)
minus_makes_up a b r = (
  λ e. sym (+ℤ-neg_ℤ_cancel r (pos b)) ∙ ap (λ x. x -ℤ pos b) (+ℤ_comm r (pos b) ∙ e),
  λ e. +ℤ_comm (pos b) r ∙ ap (λ x. x +ℤ pos b) e ∙ -ℤ-+ℤ_cancel (pos a) (pos b),
)

-- twice a difference, between minus a count and the count
minus_doubled : (a b n : ℕ) → let r = sub_ℕ a b in
    ((neg_ℤ (pos (suc n)) ≤ℤ (r +ℤ r)) × ((r +ℤ r) <ℤ pos (suc n))) ↔ ((2 * a < 2 * b + suc n) × (2 * b ≤ 2 * a + suc n))
minus_doubled a b n =
    cases (ltb a b)
    (λ q.
    let less = ltb-true a b q in
    rw q (
      λ h. let low = leb→le (suc (b - suc a + (b - suc a))) n h.0.le in (omega arith, omega arith),
      λ h. (record { le = le→leb (suc (b - suc a + (b - suc a))) n (omega arith) }, record { lt = tt }),
    ))
    (λ q.
    let least = ltb-false a b q in
    rw q (
      λ h. let low = ltb→lt (a - b + (a - b)) (suc n) h.1.lt in (omega arith, omega arith),
      λ h. (record { le = tt }, record { lt = lt→ltb (a - b + (a - b)) (suc n) (omega arith) }),
    ))

-- two differences are one where what is added makes up for what is taken away
minus_same : (a b c d : ℕ) → a + d ≡ c + b → sub_ℕ a b ≡ sub_ℕ c d
minus_same a b c d e =
    cases (ltb a b)
    (λ q.
    let less = ltb-true a b q in
    let same : b - suc a ≡ d - suc c = omega arith in
    rw (q, lt-ltb c d (omega arith), same))
    (λ q.
    let least = ltb-false a b q in
    let same : a - b ≡ c - d = omega arith in
    rw (q, le-ltb c d (omega arith), same))

-- the remainder of an average v, and a difference that it is
remainder_by : (s n v : ℕ) → v ≡ average s n → remainder s n ≡ pos s -ℤ pos (v * n)
unfolding remainder
remainder_by s n v e = rw (← e)

pub remainder_is : (s n v a b : ℕ) → v ≡ average s n → a + v * n ≡ s + b → pos a -ℤ pos b ≡ remainder s n
remainder_is s n v a b value e = minus_is a b ∙ minus_same a b s (v * n) e ∙ sym (remainder_by s n v value ∙ minus_is s (v * n))

-- whole division with what is left, by which half of the count that is in
pub rounds_down : (s n : ℕ) → 0 < n → s % n < n - s % n → (s / n ≡ average s n) × (pos (s % n) ≡ remainder s n)
rounds_down s n some low =
    let whole = div-add-mod' s n in
    let value = (average_is s n (s / n) some).0 (omega arith) in
    (value, sym (+ℤ_idr (pos (s % n))) ∙ remainder_is s n (s / n) (s % n) 0 value (omega arith))

pub rounds_up : (s n : ℕ) → 0 < n → n - s % n ≤ s % n → (s / n + 1 ≡ average s n) × (pos 0 -ℤ pos (n - s % n) ≡ remainder s n)
rounds_up s n some high =
    let whole = div-add-mod' s n in
    let less = mod-lt s some in
    let value = (average_is s n (s / n + 1) some).0 (omega arith) in
    (value, remainder_is s n (s / n + 1) 0 (n - s % n) value (omega arith))

-- average and remainder are such a pair, and the only one
pub rounded_is : (s n value : ℕ) (dropped : ℤ) → 0 < n → Rounded s n value dropped ↔ ((value ≡ average s n) × (dropped ≡ remainder s n))
rounded_is s zero v r h = absurd (omega arith)
rounded_is s (suc n) v r h = (to, from)
  where
    doubled : ((neg_ℤ (pos (suc n)) ≤ℤ (sub_ℕ s (v * suc n) +ℤ sub_ℕ s (v * suc n))) × ((sub_ℕ s (v * suc n) +ℤ sub_ℕ s (v * suc n)) <ℤ pos (suc n)))
        ↔ (v ≡ average s (suc n))
    doubled =
        let bounds = minus_doubled s (v * suc n) n in
        let law = average_is s (suc n) v h in (
          λ x. let y = bounds.0 x in law.0 (omega arith, omega arith),
          λ x. let y = law.1 x in bounds.1 (omega arith, omega arith),
        )

    to : Rounded s (suc n) v r → (v ≡ average s (suc n)) × (r ≡ remainder s (suc n))
    to x =
        let is : r ≡ sub_ℕ s (v * suc n) = (minus_makes_up s (v * suc n) r).0 x.makes_up ∙ minus_is s (v * suc n) in
        let value : v ≡ average s (suc n) = doubled.0 (rw (← is) (x.at_least, x.below)) in
        (value, (minus_makes_up s (v * suc n) r).0 x.makes_up ∙ sym (remainder_by s (suc n) v value))

    from : (v ≡ average s (suc n)) × (r ≡ remainder s (suc n)) → Rounded s (suc n) v r
    from x =
        let minus : r ≡ pos s -ℤ pos (v * suc n) = x.1 ∙ remainder_by s (suc n) v x.0 in
        let is : r ≡ sub_ℕ s (v * suc n) = minus ∙ minus_is s (v * suc n) in
        let both = doubled.1 x.0 in
        record { makes_up = (minus_makes_up s (v * suc n) r).1 minus; at_least = rw is both.0; below = rw is both.1 }

-- so 10 bits hold the remainder over a count of up to 1,024 (`mag r` is n both for n and for −(n + 1))
pub remainder_small : (s n : ℕ) → 0 < n → 2 * mag (remainder s n) < n
unfolding remainder
remainder_small s n h =
    let b = (average_is s n (average s n) h).1 refl in
    rw (minus_is s (average s n * n))
    (cases (ltb s (average s n * n))
    (λ q. let less = ltb-true s (average s n * n) q in rw q (omega arith))
    (λ q. let least = ltb-false s (average s n * n) q in rw q (omega arith)))

-- the rule for 365 days is no exception: there the product divides out
pub annual_is : (s d : ℕ) → 0 < d → annual s d ≡ average (s * 365) d
unfolding annual
annual_is s d h =
    cases (eqb d 365)
    (λ e. rw e ((average_is (s * 365) d s h).0 (rw (eqb-true d 365 e) (omega arith))))
    (λ e. rw e)

-- MPAN

pub digit_le : (n i : ℕ) → digit n i ≤ 9
unfolding digit
digit_le n i = omega arith

pub digit_last : (n : ℕ) → digit n 12 ≡ n % 10
unfolding digit
digit_last n = rw div-one

-- as with twelve nines
pub weighted_sum_le : (n : ℕ) → weighted_sum n ≤ 2412
unfolding weighted_sum sum_below product weights
weighted_sum_le n =
    sum_below_le 12 (product n) (λ i. get_or weights i 0 * 9) (λ i l. mul-le-mul_left (get_or weights i 0) (digit_le n i))

pub mpan_valid_bounds : (n : ℕ) → mpan_valid n ≡ true → (0 < n) × (n ≤ 9999999999999)
unfolding mpan_valid
mpan_valid_bounds n e = (both_leb 1 n n 9999999999999).0 ((and-eq-true_iff _ _).0 e).0

-- periods

pub duration_is : (d : ℕ) → duration_known d ≡ true → (d ≡ 15) ⊎ (d ≡ 30)
unfolding duration_known
duration_is d e =
    cases (eqb d 15) (λ h. inl (eqb-true _ _ h)) (λ h. inr (eqb-true _ _ (rw h at e)))

pub duration_pos : (d : ℕ) → duration_known d ≡ true → 0 < d
duration_pos d e = ⊎_elim (λ h. omega arith) (λ h. omega arith) (duration_is d e)

pub periods_per_day_times : (d : ℕ) → duration_known d ≡ true → periods_per_day d * d ≡ 1440
unfolding periods_per_day
periods_per_day_times d e = ⊎_elim (λ h. rw h) (λ h. rw h) (duration_is d e)

pub periods_per_day_bounds : (d : ℕ) → duration_known d ≡ true → (0 < periods_per_day d) × (periods_per_day d ≤ 96)
unfolding periods_per_day
periods_per_day_bounds d e = ⊎_elim (λ h. rw h (omega arith)) (λ h. rw h (omega arith)) (duration_is d e)

pub period_ending_at : (d j : ℕ) → 0 < d → 1 ≤ j → j * d ≤ 1440 → period_ending d (j * d) ≡ j
unfolding period_ending
period_ending_at d j hd hj h = rw (mul-mod_left, le-leb _ _ h) (mul-div_cancel j hd)

pub period_ending_is : (d e j : ℕ) → 0 < d → period_ending d e ≡ j → j ≢ 0 → (e ≡ j * d) × (e ≤ 1440)
unfolding period_ending
period_ending_is d e j hd h ne =
    cases (eqb (e % d) 0 && leb e 1440)
    (λ b. let p = (and-eq-true_iff (eqb (e % d) 0) (leb e 1440)).0 b in
    (sym (rw (rw b at h, eqb-true (e % d) 0 p.0) at (div-add-mod' e d)) ∙ add-zero _, leb-true _ _ p.1))
    (λ b. absurd (ne (sym (rw b at h))))

pub period_ending_le : (d e : ℕ) → duration_known d ≡ true → period_ending d e ≤ periods_per_day d
unfolding period_ending periods_per_day
period_ending_le d e k =
    cases (eqb (e % d) 0 && leb e 1440)
    (λ b. let last : e ≤ 1440 = leb-true _ _ ((and-eq-true_iff (eqb (e % d) 0) (leb e 1440)).0 b).1 in
    rw b ((le-div_iff_mul-le (duration_pos d k)).1 (le_trans (div-mul-le_self e d) last)))
    (λ b. rw b (omega arith))

-- windows

pub lies_within_true : (d start end j : ℕ) → (lies_within d start end j ≡ true) ↔ ((start ≤ (j - 1) * d) × (j * d ≤ end))
unfolding lies_within
lies_within_true d start end j = both_leb start ((j - 1) * d) (j * d) end

-- a window of whole periods: it starts as period low ends and ends with period high
pub lies_within_periods : (d low high j : ℕ) → 0 < d → 1 ≤ j → (lies_within d (low * d) (high * d) j ≡ true) ↔ ((low + 1 ≤ j) × (j ≤ high))
lies_within_periods d low high j hd hj = (
  λ e. let p = (lies_within_true d (low * d) (high * d) j).0 e in
      let first : low ≤ j - 1 = le_of_mul-le-mul_right p.0 hd in
      (omega arith, le_of_mul-le-mul_right p.1 hd),
  λ h. let first : low ≤ j - 1 = omega arith in
      (lies_within_true d (low * d) (high * d) j).1 (mul-le-mul_right d first, mul-le-mul_right d h.1),
)

-- a window that may be asked for starts and ends with a period, so its periods are those from start / d + 1 to end / d
pub window_valid_is : (d start end : ℕ) → (window_valid d start end ≡ true) ↔ ((start % d ≡ 0) × (end % d ≡ 0) × (start < end) × (end ≤ 1440))
unfolding window_valid
window_valid_is d start end = (
  λ e. let p = (and-eq-true_iff _ _).0 e in
      let q = (and-eq-true_iff _ _).0 p.0 in
      let r = (and-eq-true_iff _ _).0 q.0 in
      (eqb-true _ _ r.0, eqb-true _ _ r.1, ltb-true _ _ q.1, leb-true _ _ p.1),
  λ h. rw (h.0, h.1, lt-ltb start end h.2, le-leb end 1440 h.3),
)

pub whole_periods : (d minute : ℕ) → minute % d ≡ 0 → minute / d * d ≡ minute
whole_periods d minute h = sym (add-zero _) ∙ rw h at (div-add-mod' minute d)

-- a minute that ends a period, and is not 0, ends one that counts from 1
pub period_counts : (d e : ℕ) → e % d ≡ 0 → 0 < e → 0 < e / d
period_counts d e h some = pos_of_ne-zero (λ none. let all = rw none at (whole_periods d e h) in omega arith)

pub window_periods : (d start end j : ℕ) → 0 < d → window_valid d start end ≡ true → 1 ≤ j →
    (lies_within d start end j ≡ true) ↔ ((start / d + 1 ≤ j) × (j ≤ end / d))
window_periods d start end j hd valid hj =
    let h = (window_valid_is d start end).0 valid in
    rw (whole_periods d start h.0, whole_periods d end h.1) at (lies_within_periods d (start / d) (end / d) j hd hj)

-- of two windows, one of which ends at or before the other's start, no period lies in both
pub windows_apart : (d start end later-start later-end j : ℕ) → 0 < d → 1 ≤ j → end ≤ later-start → lies_within d start end j ≡ true →
    lies_within d later-start later-end j ≡ false
windows_apart d start end later-start later-end j hd hj apart e =
    let first = (lies_within_true d start end j).0 e in
    let before : (j - 1) * d < j * d = mul-lt-mul_of_pos_right (omega arith) hd in
    unfold lies_within in rw (lt-leb later-start ((j - 1) * d) (omega arith))

-- no period ends at minute 0
pub empty_window : (d start j : ℕ) → 0 < d → 1 ≤ j → lies_within d start 0 j ≡ false
unfolding lies_within
empty_window d start j hd hj = rw (lt-leb (j * d) 0 (mul-pos hj hd)) (and-false (leb start ((j - 1) * d)))
