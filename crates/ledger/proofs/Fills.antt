-- Laws of filled values: the Wh left over, and who gets one.
use Rattle.std.proofs.Common.{◌≡◌, ℕ, zero, suc, ◌+◌, ◌-◌, ◌*◌, ◌<◌, ◌≤◌, Bool, true, false, cond, ◌&&◌, ◌||◌, eqb, ltb, leb, ◌≢◌, ◌⊎◌, sym, refl, ap, ◌∙◌, inl, inr, ⊎_elim, add-zero, mul-le-mul_right, mod-lt, mul_comm, add-mul, lt_of_mul-lt-mul_right, mul-zero, div-add-mod', zero-add, le_of_mul-le-mul_right, arith, ltb-false, ltb-true, le-ltb, lt-ltb, eq-eqb, ne_eqb, eqb-true, le-leb, leb-false, leb-true}
use mathlib.Core.Bool.{and-eq-true_iff, and-false}
use borrow.Table.Steps.{cases}
use borrow.Author.Tests.{eqb-false, lt-leb}
use Rattle.metering.specs.Sum.{sum_below, sum_below_le}
use Rattle.ledger.specs.Fill.{comes_before, count_before, whole_part, remainder_of, left_over, filled_value, filled_values}
use Rattle.ledger.specs.Threshold.{reaching, equal_to}
use Rattle.ledger.proofs.Choices.{neither}
use Rattle.ledger.proofs.Lists.{tabulate_ext, sum_below_cong, sum_below_none, sum_below_plus, sum_below_more, sum_below_ones, sum_below_most, part_le, term_le_sum, terms_lt, sum_so_far, sum_times}

-- ---- weights that are alike give values that are alike

pub before_cong : (n : ℕ) (f g : ℕ → ℕ) → ((k : ℕ) → k < n → f k ≡ g k) → (k : ℕ) → k < n → count_before n f k ≡ count_before n g k
unfolding count_before comes_before
before_cong n f g h k l = sum_below_cong n _ _ (λ i m. rw (h i m, h k l))

module _ (n : ℕ) (v w : ℕ → ℕ) (advance : ℕ) (same : (k : ℕ) → k < n → v k ≡ w k) where
  part_cong : (k : ℕ) → k < n → whole_part n v advance k ≡ whole_part n w advance k
  unfolding whole_part
  part_cong k l = rw (same k l, sum_below_cong n v w same)

  remainder_cong : (k : ℕ) → k < n → remainder_of n v advance k ≡ remainder_of n w advance k
  unfolding remainder_of
  remainder_cong k l = rw (same k l, sum_below_cong n v w same)

  over_cong : left_over n v advance ≡ left_over n w advance
  unfolding left_over
  over_cong = rw (sum_below_cong n _ _ part_cong)

  pub filled_cong : filled_values n v advance ≡ filled_values n w advance
  unfolding filled_values filled_value
  filled_cong = tabulate_ext n _ _ (λ k l. rw (part_cong k l, before_cong n _ _ remainder_cong k l, over_cong))

-- ---- counts

-- terms from k on count nothing
sum_cut : (n : ℕ) (f : ℕ → ℕ) (k : ℕ) → k ≤ n → sum_below n (λ i. cond (ltb i k) (f i) 0) ≡ sum_below k f
sum_cut n f k h =
    let all : k + (n - k) ≡ n = omega arith in
    let rest = sum_below_more k (n - k) (λ i. cond (ltb i k) (f i) 0) in
    let none : sum_below (n - k) (λ i. cond (ltb (k + i) k) (f (k + i)) 0) ≡ 0 = sum_below_none (n - k) _ (λ i l. rw (le-ltb (k + i) k (omega arith))) in
    let first : sum_below k (λ i. cond (ltb i k) (f i) 0) ≡ sum_below k f = sum_below_cong k _ _ (λ i l. rw (lt-ltb i k l)) in
    (rw all at rest) ∙ rw (none, first) (add-zero (sum_below k f))

-- a test that implies another counts no more
counted_le : (a b : Bool) → (a ≡ true → b ≡ true) → cond a 1 0 ≤ cond b 1 0
counted_le true b h = rw (h refl) (omega arith)
counted_le false b h = omega arith

-- ---- who gets one of the Wh left over

module _ (n : ℕ) (r : ℕ → ℕ) where
  pub reaching_zero : reaching n r 0 ≡ n
  unfolding reaching
  reaching_zero = sum_below_cong n _ _ (λ k l. rw (le-leb 0 (r k) (omega arith))) ∙ sum_below_ones n

  reaching_low : (t : ℕ) → reaching n r t ≤ n
  unfolding reaching
  reaching_low t = let most = sum_below_most n 1 _ (λ k l. part_le (leb t (r k)) 1) in omega arith

  -- those above t and those equal to it
  pub reaching_next : (t : ℕ) → reaching n r t ≡ reaching n r (suc t) + equal_to n r t
  unfolding reaching equal_to
  reaching_next t =
      sum_below_cong n _ (λ k. cond (leb (suc t) (r k)) 1 0 + cond (eqb (r k) t) 1 0) (λ k l. split k) ∙ sum_below_plus n _ _
    where
      split : (k : ℕ) → ◌≡◌ {A = ℕ} (cond (leb t (r k)) 1 0) (cond (leb (suc t) (r k)) 1 0 + cond (eqb (r k) t) 1 0)
      split k =
          cases (leb (suc t) (r k))
          (λ q. let above = leb-true (suc t) (r k) q in rw (q, le-leb t (r k) (omega arith), ne_eqb (r k) t (λ e. omega arith)))
          (λ q.
          let low = leb-false (suc t) (r k) q in
          cases (eqb (r k) t)
          (λ w. rw (q, w, le-leb t (r k) (let e = eqb-true (r k) t w in omega arith)))
          (λ w. rw (q, w, lt-leb t (r k) (let e = eqb-false (r k) t w in omega arith))))

  -- a number below t comes after all that reach it
  below_comes_after : (t k : ℕ) → r k < t → reaching n r t ≤ count_before n r k
  unfolding reaching count_before comes_before
  below_comes_after t k h =
      sum_below_le n _ _ (λ i l. counted_le (leb t (r i)) (comes_before r i k) (λ q. let high = leb-true t (r i) q in rw (lt-ltb (r k) (r i) (omega arith))))

  -- before one above t come only others above t
  above_comes_first : (t k : ℕ) → k < n → t < r k → count_before n r k < reaching n r (suc t)
  unfolding reaching count_before comes_before
  above_comes_first t k l h =
      terms_lt n _ _ k l
      (λ i m.
      counted_le (comes_before r i k) (leb (suc t) (r i))
      (λ q.
      le-leb (suc t) (r i)
      (cases (ltb (r k) (r i))
      (λ a. let more = ltb-true (r k) (r i) a in omega arith)
      (λ a. let same = eqb-true (r i) (r k) ((and-eq-true_iff _ _).0 (rw a at q)).0 in omega arith))))
      (rw (le-ltb (r k) (r k) (omega arith), le-ltb k k (omega arith), and-false, le-leb (suc t) (r k) h) (omega arith))

  -- and one equal to t after all above it and the equal ones that are earlier
  equal_comes_between : (t k : ℕ) → k < n → r k ≡ t → count_before n r k ≡ reaching n r (suc t) + equal_to k r t
  unfolding reaching equal_to count_before comes_before
  equal_comes_between t k l e =
      sum_below_cong n _ (λ i. cond (leb (suc t) (r i)) 1 0 + cond (ltb i k) (cond (eqb (r i) t) 1 0) 0) (λ i m. split i)
      ∙ sum_below_plus n _ _
      ∙ ap (λ x. sum_below n (λ i. cond (leb (suc t) (r i)) 1 0) + x) (sum_cut n (λ i. cond (eqb (r i) t) 1 0) k (omega arith))
    where
      split : (i : ℕ) →
          ◌≡◌ {A = ℕ} (cond (ltb (r k) (r i) || (eqb (r i) (r k) && ltb i k)) 1 0) (cond (leb (suc t) (r i)) 1 0 + cond (ltb i k) (cond (eqb (r i) t) 1 0) 0)
      split i =
          rw e
          (cases (ltb t (r i))
          (λ q. let above = ltb-true t (r i) q in rw (q, ne_eqb (r i) t (λ w. omega arith)) (cases (ltb i k) (λ a. rw a) (λ a. rw a)))
          (λ q. rw q (cases (eqb (r i) t) (λ w. rw w (cases (ltb i k) (λ a. rw a) (λ a. rw a))) (λ w. rw w (cases (ltb i k) (λ a. rw a) (λ a. rw a))))))

  -- so a threshold tells who gets one
  pub threshold_tells : (left t : ℕ) → reaching n r (suc t) ≤ left → left ≤ reaching n r t → (k : ℕ) → k < n →
      ltb (count_before n r k) left ≡ (ltb t (r k) || (eqb (r k) t && ltb (reaching n r (suc t) + equal_to k r t) left))
  threshold_tells left t low high k l =
      cases (ltb t (r k))
      (λ q. rw q (lt-ltb (count_before n r k) left (let first = above_comes_first t k l (ltb-true t (r k) q) in omega arith)))
      (λ q.
      cases (eqb (r k) t)
      (λ w. rw (q, w, equal_comes_between t k l (eqb-true (r k) t w)))
      (λ w.
      let more = ltb-false t (r k) q in
      let other = eqb-false (r k) t w in
      rw (q, w) (le-ltb (count_before n r k) left (let after = below_comes_after t k (omega arith) in omega arith))))

  threshold_there : (left h : ℕ) → left ≤ n → reaching n r (suc h) ≤ left → (t : ℕ) × (reaching n r (suc t) ≤ left) × (left ≤ reaching n r t)
  threshold_there left zero few top = (0, top, rw reaching_zero few)
  threshold_there left (suc h) few top =
      cases (leb left (reaching n r (suc h)))
      (λ q. (suc h, top, leb-true _ _ q))
      (λ q. threshold_there left h few (let low = leb-false left (reaching n r (suc h)) q in omega arith))

  -- ---- as many get one as there are Wh left over

  -- none is above what no number is above
  pub none_reaches : (t : ℕ) → ((k : ℕ) → k < n → r k ≤ t) → reaching n r (suc t) ≡ 0
  unfolding reaching
  none_reaches t h = sum_below_none n _ (λ k l. rw (lt-leb (suc t) (r k) (let low = h k l in omega arith)))

  -- of those equal to t, the earlier ones up to `left`
  earlier_ones : (a left t m : ℕ) → a ≤ left →
      let given = sum_below m (λ k. cond (eqb (r k) t && ltb (a + equal_to k r t) left) 1 0) in
      (a + equal_to m r t ≤ left → given ≡ equal_to m r t) × (left ≤ a + equal_to m r t → a + given ≡ left)
  unfolding equal_to sum_below
  earlier_ones a left t zero h = (λ _. refl, λ g. omega arith)
  earlier_ones a left t (suc m) h =
      let before = earlier_ones a left t m h in
      cases (eqb (r m) t)
      (λ q.
      cases (ltb (a + equal_to m r t) left)
      (λ w. let less = ltb-true (a + equal_to m r t) left w in let is = before.0 (omega arith) in rw (q, w) (λ g. omega arith, λ g. omega arith))
      (λ w. let full = ltb-false (a + equal_to m r t) left w in let is = before.1 full in rw (q, w) (λ g. omega arith, λ g. omega arith)))
      (λ q. rw q (λ g. let is = before.0 (omega arith) in omega arith, λ g. let is = before.1 (omega arith) in omega arith))

  handed_out : (left : ℕ) → left ≤ n → sum_below n (λ k. cond (ltb (count_before n r k) left) 1 0) ≡ left
  handed_out left few =
      let none = none_reaches (sum_below n r) (term_le_sum n r) in
      let found = threshold_there left (sum_below n r) few (omega arith) in
      let t = found.0 in
      let low = found.1 in
      let high = found.2 in
      let next = reaching_next t in
      let given = (earlier_ones (reaching n r (suc t)) left t n low).1 (omega arith) in
      sum_below_cong n _ (λ k. cond (ltb t (r k)) 1 0 + cond (eqb (r k) t && ltb (reaching n r (suc t) + equal_to k r t) left) 1 0)
      (λ k l. rw (threshold_tells left t low high k l) (either (r k) t _))
      ∙ sum_below_plus n _ _
      ∙ (unfold reaching in given)
    where
      either : (x t : ℕ) (b : Bool) → ◌≡◌ {A = ℕ} (cond (ltb t x || (eqb x t && b)) 1 0) (cond (ltb t x) 1 0 + cond (eqb x t && b) 1 0)
      either x t b =
          cases (ltb t x)
          (λ q. let above = ltb-true t x q in rw (q, ne_eqb x t (λ e. omega arith)))
          (λ q. rw (q, zero-add))

  -- ---- whoever gets one comes before whoever does not

  before_is : (i k : ℕ) → comes_before r i k ≡ true → (r k < r i) ⊎ ((r k ≡ r i) × (i < k))
  unfolding comes_before
  before_is i k e =
      cases (ltb (r k) (r i))
      (λ q. inl (ltb-true (r k) (r i) q))
      (λ q. let p = (and-eq-true_iff (eqb (r i) (r k)) (ltb i k)).0 (rw q at e) in inr (sym (eqb-true (r i) (r k) p.0), ltb-true i k p.1))

  before_is_not : (i k : ℕ) → comes_before r i k ≡ false → (r i ≤ r k) × (r i ≡ r k → k ≤ i)
  unfolding comes_before
  before_is_not i k e =
      let p = neither (ltb (r k) (r i)) _ e in
      (ltb-false (r k) (r i) p.0, λ same. ltb-false i k (rw (eq-eqb (r i) (r k) same) at p.1))

  fewer_before : (i k : ℕ) → comes_before r i k ≡ false → count_before n r k ≤ count_before n r i
  unfolding count_before
  fewer_before i k e = sum_below_le n _ _ (λ j l. counted_le (comes_before r j k) (comes_before r j i) (λ q. cases (comes_before r j i) (λ w. w) (λ w. absurd (out j q w))))
    where
      out : (j : ℕ) → comes_before r j k ≡ true → comes_before r j i ≡ false → ⊥
      out j q w =
          let a = before_is_not i k e in
          let b = before_is_not j i w in
          let low = a.0 in
          let high = b.0 in
          ⊎_elim
          (λ (more : r k < r j). omega arith)
          (λ (same : (r k ≡ r j) × (j < k)).
          let alike = same.0 in
          let earlier = same.1 in
          let first = b.1 (omega arith) in
          let second = a.1 (omega arith) in
          omega arith)
          (before_is j k q)

  pub gets_before : (left i k : ℕ) → ltb (count_before n r i) left ≡ true → ltb (count_before n r k) left ≡ false → (r k < r i) ⊎ ((r k ≡ r i) × (i < k))
  gets_before left i k gets not-gets =
      cases (comes_before r i k)
      (λ q. before_is i k q)
      (λ q.
      let few = ltb-true (count_before n r i) left gets in
      let many = ltb-false (count_before n r k) left not-gets in
      let fewer = fewer_before i k q in
      absurd (omega arith))

-- ---- whole parts, remainders and the Wh left over, where the weights are not all 0

module _ (n : ℕ) (weight : ℕ → ℕ) (advance : ℕ) (some : sum_below n weight ≢ 0) where
  abbrev W : ℕ
  W = sum_below n weight

  abbrev part : ℕ → ℕ
  part = whole_part n weight advance

  abbrev remainder : ℕ → ℕ
  remainder = remainder_of n weight advance

  abbrev left : ℕ
  left = left_over n weight advance

  pub part_and_remainder : (k : ℕ) → (whole_part n weight advance k * sum_below n weight + remainder_of n weight advance k ≡ advance * weight k) × (remainder_of n weight advance k < sum_below n weight)
  unfolding whole_part remainder_of
  part_and_remainder k = (div-add-mod' (advance * weight k) W, mod-lt (advance * weight k) (omega arith))

  -- all parts and remainders make up the advance, W times
  all_shares : sum_below n part * W + sum_below n remainder ≡ advance * W
  all_shares =
      ap (λ x. x + sum_below n remainder) (sym (sum_times n part W))
      ∙ sym (sum_below_plus n (λ k. part k * W) remainder)
      ∙ sum_below_cong n _ _ (λ k l. (part_and_remainder k).0 ∙ mul_comm advance (weight k))
      ∙ sum_times n weight advance
      ∙ mul_comm W advance

  parts_below : sum_below n part ≤ advance
  parts_below = le_of_mul-le-mul_right {k = W} (let all = all_shares in omega arith) (omega arith)

  parts_and_left : sum_below n part + left ≡ advance
  unfolding left_over
  parts_and_left = let below = parts_below in omega arith

  pub part_so_far : (k : ℕ) → k ≤ n → sum_below k (whole_part n weight advance) ≤ advance
  part_so_far k h = let so_far = sum_so_far n part k h in let below = parts_below in omega arith

  pub part_low : (k : ℕ) → k < n → whole_part n weight advance k ≤ advance
  part_low k h = let one = term_le_sum n part k h in let below = parts_below in omega arith

  remainders_sum : sum_below n remainder ≡ left * W
  remainders_sum =
      let all : sum_below n part * W + sum_below n remainder ≡ sum_below n part * W + left * W =
      all_shares ∙ ap (λ x. x * W) (sym parts_and_left) ∙ add-mul (sum_below n part) left W in
      omega arith

  -- each remainder is below W, so their sum falls short of W times the number of those above 0 by one at least for each of them
  remainders_low : sum_below n remainder + reaching n remainder 1 ≤ reaching n remainder 1 * W
  unfolding reaching
  remainders_low =
      rw (← (sum_below_plus n remainder (λ k. cond (leb 1 (remainder k)) 1 0)), ← (sum_times n (λ k. cond (leb 1 (remainder k)) 1 0) W))
      (sum_below_le n _ _ (λ k l. low k))
    where
      low : (k : ℕ) → remainder k + cond (leb 1 (remainder k)) 1 0 ≤ cond (leb 1 (remainder k)) 1 0 * W
      low k =
          cases (leb 1 (remainder k))
          (λ q. rw q (let small = (part_and_remainder k).1 in omega arith))
          (λ q. rw q (let none = leb-false 1 (remainder k) q in omega arith))

  pub left_over_few : (left_over n weight advance ≡ 0) ⊎ (left_over n weight advance < reaching n (remainder_of n weight advance) 1)
  left_over_few =
      cases (ltb left (reaching n remainder 1))
      (λ q. inr (ltb-true left (reaching n remainder 1) q))
      (λ q.
      let many = mul-le-mul_right W (ltb-false left (reaching n remainder 1) q) in
      let sum = remainders_sum in
      let low = remainders_low in
      let none : reaching n remainder 1 ≡ 0 = omega arith in
      let low-then = rw none at low in
      let nothing : left * W ≤ 0 * W = omega arith in
      let is : left ≤ 0 = le_of_mul-le-mul_right {k = W} nothing (omega arith) in
      inl (omega arith))

  pub left_over_low : left_over n weight advance ≤ n
  left_over_low = let most = reaching_low n remainder 1 in ⊎_elim (λ none. omega arith) (λ few. omega arith) left_over_few

  -- the filled values add up to the advance
  pub filled_sum : sum_below n (filled_value n weight advance) ≡ advance
  unfolding filled_value
  filled_sum = sum_below_plus n part _ ∙ ap (λ x. sum_below n part + x) (handed_out n remainder left left_over_low) ∙ parts_and_left

  -- one Wh more goes only where the division leaves something
  extra_has_remainder : (k : ℕ) → ltb (count_before n (remainder_of n weight advance) k) (left_over n weight advance) ≡ true → 1 ≤ remainder_of n weight advance k
  extra_has_remainder k e =
      let before = ltb-true (count_before n remainder k) left e in
      cases (leb 1 (remainder k))
      (λ q. leb-true 1 (remainder k) q)
      (λ q.
      let after = below_comes_after n remainder 1 k (leb-false 1 (remainder k) q) in
      absurd (⊎_elim (λ (none : left ≡ 0). omega arith) (λ (few : left < reaching n remainder 1). omega arith) left_over_few))

  -- less than one Wh from the exact share
  pub filled_near : (k : ℕ) → (filled_value n weight advance k * sum_below n weight < advance * weight k + sum_below n weight)
      × (advance * weight k < filled_value n weight advance k * sum_below n weight + sum_below n weight)
  unfolding filled_value
  filled_near k =
      let share = (part_and_remainder k).0 in
      let small = (part_and_remainder k).1 in
      cases (ltb (count_before n remainder k) left)
      (λ q. let one = extra_has_remainder k q in rw (q, add-mul (part k) 1 W) (omega arith, omega arith))
      (λ q. rw (q, add-zero (part k)) (omega arith, omega arith))

  pub filled_zero : (k : ℕ) → weight k ≡ 0 → filled_value n weight advance k ≡ 0
  filled_zero k none =
      let near = rw (none, mul-zero) at (filled_near k).0 in
      let nothing : filled_value n weight advance k * W < 1 * W = omega arith in
      let is = lt_of_mul-lt-mul_right W nothing in
      omega arith
