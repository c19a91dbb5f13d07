-- What is promised of fills.
use Rattle.std.proofs.Common.{◌≡◌, ℕ, zero, suc, ◌+◌, ◌*◌, ◌/◌, ◌%◌, ◌<◌, ◌≤◌, Bool, true, false, cond, not, eqb, ltb, ◌≢◌, ◌↔◌, List, length, get_or, sym, refl, ap, ◌∙◌, inl, inr, ⊎_elim, add-zero, mod-lt, div-add-mod', arith, ext_get_or, ltb-false, ltb-true, lt-ltb, eq-eqb, ne_eqb, eqb-true}
use mathlib.Core.Bool.{and-eq-true_iff}
use lib.Arith.{digits_div, digits_mod}
use borrow.Table.Steps.{cases}
use borrow.Author.Tests.{eqb-false, not-true}
use Rattle.metering.specs.Sum.{sum_below}
use Rattle.ledger.specs.Method.{Category, is_smart}
use Rattle.ledger.specs.Table.{tabulate, first_from}
use Rattle.ledger.specs.Net.{sum_over}
use Rattle.ledger.specs.Fill.{ShapeOf, of_category, of_opted_out, is_opted_out_shape, shape_category, FillCall, weight_by, may_fill, count_before, whole_part, remainder_of, left_over, filled_value, filled_values}
use Rattle.ledger.specs.Threshold.{reaching}
use Rattle.ledger.specs.Checks.{opening_check, totals_in_range, fill_check}
use Rattle.ledger.specs.Ledger.{Opening, categories, dates, periods, category, Ledger, filled_are, Lengths, shape_at, weight_at, ledger_fill_check, fill_at, ledger_answer, ledger_after}
use Rattle.ledger.specs.Engine.{leaves}
use Rattle.ledger.specs.Demands.{SameKey, OptedOutShape, HasShape, ShapeExact, IsMissing, missing_sum, shape_value, FillExact, Shared, FillUnique, Fills, FillShares, FillNear, FillAlone, LeftOverFew, FillLeavesAll}
use Rattle.ledger.proofs.Lists.{length_tabulate, get_d_tabulate, sum_below_cong, sum_below_one, terms_lt}
use Rattle.ledger.proofs.Chosen.{first_passes, first_low}
use Rattle.ledger.proofs.Nets.{sum_over_tabulate}
use Rattle.ledger.proofs.Fills.{gets_before, left_over_few, filled_sum, filled_near, filled_zero}
use Rattle.ledger.proofs.FirstFailed.{answered, finds_none, finds_row, goes_by}
use Rattle.ledger.proofs.CallDemands.{not_iff, date_iff, lists_iff, ran_iff, keys_differ}
use Rattle.ledger.proofs.NetDemands.{sum_chosen}
use Rattle.ledger.proofs.FigureDemands.{chosen_count}

-- ---- whose shape

opted_out_iff : (group quantity connection : ℕ) (a : Category) → (is_opted_out_shape group quantity connection a ≡ true) ↔ OptedOutShape group quantity connection a
unfolding is_opted_out_shape is_smart
opted_out_iff group quantity connection a = (
  λ e. let p = (and-eq-true_iff _ _).0 e in
      let q = (and-eq-true_iff _ _).0 p.0 in
      let r = (and-eq-true_iff _ _).0 q.0 in
      let t = (and-eq-true_iff _ _).0 r.0 in
      record {
        smart = eqb-true _ _ t.0;
        domestic = eqb-true _ _ t.1;
        same_group = eqb-true _ _ r.1;
        same_quantity = eqb-true _ _ q.1;
        same_connection = eqb-true _ _ p.1;
      },
  λ s. rw (
    eq-eqb _ _ s.smart,
    eq-eqb _ _ s.domestic,
    eq-eqb _ _ s.same_group,
    eq-eqb _ _ s.same_quantity,
    eq-eqb _ _ s.same_connection,
  ),
)

module _ (o : Opening) where
  abbrev taken : ShapeOf → ℕ
  taken s = shape_category (category o) (categories o) s

  taken_has : (s : ShapeOf) → taken s < categories o → HasShape o s (taken s)
  unfolding shape_category
  taken_has (of_category x) h = (h, refl)
  taken_has (of_opted_out group quantity connection) h =
      (h, (opted_out_iff group quantity connection _).0 (first_passes (λ c. is_opted_out_shape group quantity connection (category o c)) (categories o) 0 (omega arith)))

  taken_low : (s : ShapeOf) (c : ℕ) → HasShape o s c → (taken s ≤ c) × (c < categories o)
  unfolding shape_category
  taken_low (of_category x) c h = let is = h.1 in (omega arith, h.0)
  taken_low (of_opted_out group quantity connection) c h =
      let low = h.0 in
      (first_low (λ x. is_opted_out_shape group quantity connection (category o x)) (categories o) 0 c (omega arith) (omega arith) ((opted_out_iff group quantity connection _).1 h.1), h.0)

  -- 15
  shape_iff : (s : ShapeOf) → (ltb (taken s) (categories o) ≡ true) ↔ ((c : ℕ) × HasShape o s c)
  shape_iff s = (
    λ e. (taken s, taken_has s (ltb-true (taken s) (categories o) e)),
    λ h. let first = (taken_low s h.0 h.1).0 in
        let low = (taken_low s h.0 h.1).1 in
        lt-ltb (taken s) (categories o) (omega arith),
  )

  -- of an accepted opening two categories with the shape are one
  one_shape : (short : Bool) → (opening_check o short).number ≡ 0 → (s : ShapeOf) (x y : ℕ) → HasShape o s x → HasShape o s y → x ≡ y
  one_shape short ok (of_category c) x y a b = a.1 ∙ sym b.1
  one_shape short ok (of_opted_out group quantity connection) x y a b =
      let same : SameKey (category o x) (category o y) =
      record {
        segment = a.1.smart ∙ sym b.1.smart;
        group = a.1.same_group ∙ sym b.1.same_group;
        domestic = a.1.domestic ∙ sym b.1.domestic;
        quantity = a.1.same_quantity ∙ sym b.1.same_quantity;
        connection = a.1.same_connection ∙ sym b.1.same_connection;
      } in
      cases (eqb x y) (λ q. eqb-true x y q) (λ q. absurd (keys_differ o short ok x y a.0 b.0 (eqb-false x y q) same))

pub shape_exact : ShapeExact
unfolding shape_at
shape_exact l short a ok c =
    let o = l.opening in (
      λ h. let first = (taken_low o a.shape c h).0 in
          let low = (taken_low o a.shape c h).1 in
          (low, one_shape o short ok a.shape (taken o a.shape) c (taken_has o a.shape (omega arith)) h),
      λ h. let low = h.0 in
          let is = h.1 in
          rw is at (taken_has o a.shape (omega arith)),
    )

-- ---- the sum of the missing periods' values

module _ (P : ℕ) (marks : List ℕ) (value : ℕ → ℕ) where
  weight_missing : (k : ℕ) → IsMissing marks k → weight_by marks value k ≡ value k
  unfolding weight_by
  weight_missing k m = rw (ne_eqb (get_or marks k 0) 0 m)

  weight_other : (k : ℕ) → get_or marks k 0 ≡ 0 → weight_by marks value k ≡ 0
  unfolding weight_by
  weight_other k m = rw m

  sum_missing : sum_below P (weight_by marks value) ≡ missing_sum P marks value
  unfolding weight_by
  sum_missing =
      sum_below_cong P _ _ (λ k l. cases (eqb (get_or marks k 0) 0) (λ q. rw q) (λ q. rw q))
      ∙ sym (sum_chosen P (λ k. not (eqb (get_or marks k 0) 0)) value)

-- a sum that is not 0 has a term that is not
some_term : (n : ℕ) (f : ℕ → ℕ) → sum_below n f ≢ 0 → (k : ℕ) × (k < n) × (f k ≢ 0)
unfolding sum_below
some_term zero f h = absurd (h refl)
some_term (suc n) f h =
    cases (eqb (f n) 0)
    (λ q. let last = eqb-true (f n) 0 q in let found = some_term n f (λ none. h (omega arith)) in let low = found.1 in (found.0, omega arith, found.2))
    (λ q. (n, omega arith, eqb-false (f n) 0 q))

may_iff : (n : ℕ) (f : ℕ → ℕ) → (may_fill n f ≡ true) ↔ (sum_below n f ≢ 0)
unfolding may_fill
may_iff n f = (λ e. eqb-false (sum_below n f) 0 (not-true _ e), λ h. rw (ne_eqb (sum_below n f) 0 h))

-- 17
fill_iff : (l : Ledger) (a : FillCall) → (may_fill (periods l.opening) (weight_at l a) ≡ true)
    ↔ (((k : ℕ) × (k < periods l.opening) × IsMissing a.marks k) × (missing_sum (periods l.opening) a.marks (shape_value l a) ≢ 0))
unfolding weight_at
fill_iff l a =
    let P = periods l.opening in
    let weight = weight_by a.marks (shape_value l a) in
    let sum = sum_missing P a.marks (shape_value l a) in (
      λ e. let some = (may_iff P weight).0 e in
          let found = some_term P weight some in
          ((found.0, found.1, λ none. found.2 (weight_other P a.marks (shape_value l a) found.0 none)), rw sum at some),
      λ h. (may_iff P weight).1 (rw sum h.1),
    )

pub fill_exact : FillExact
unfolding ledger_answer ledger_fill_check fill_check totals_in_range shape_at
fill_exact l n a =
    goes_by (ledger_fill_check l n a) _ refl
    (finds_row refl (lists_iff l.opening n (length a.marks) a.room)
    (finds_row refl (date_iff (dates l.opening) a.date)
    (finds_row refl (not_iff _ (shape_iff l.opening a.shape))
    (finds_row refl (not_iff _ (ran_iff l a.date))
    (finds_row refl (not_iff _ (fill_iff l a))
    finds_none)))))

-- ---- sums of lists

sum_listed : (xs : List ℕ) → sum_over xs (λ v. v) ≡ sum_below (length xs) (λ k. get_or xs k 0)
sum_listed xs =
    let same : xs ≡ tabulate (length xs) (λ k. get_or xs k 0) =
    ext_get_or 0 xs _ (sym (length_tabulate (length xs) _)) (λ k l. sym (get_d_tabulate (length xs) _ k l)) in
    ap (λ ys. sum_over ys (λ v. v)) same ∙ sum_over_tabulate (length xs) _ (λ v. v)

-- where two sums are equal and a term of the first is less, another is more
more_elsewhere : (n : ℕ) (f g : ℕ → ℕ) (k : ℕ) → k < n → sum_below n f ≡ sum_below n g → f k < g k → (i : ℕ) × (i < n) × (g i < f i)
more_elsewhere n f g k h e less =
    let first = first_from (λ i. ltb (g i) (f i)) n 0 in
    cases (ltb first n)
    (λ q.
    let low = ltb-true first n q in
    (first, low, ltb-true (g first) (f first) (first_passes (λ i. ltb (g i) (f i)) n 0 (omega arith))))
    (λ q.
    let high = ltb-false first n q in
    let sums = terms_lt n f g k h (λ i l. none i l high) less in
    absurd (omega arith))
  where
    none : (i : ℕ) → i < n → n ≤ first_from (λ i. ltb (g i) (f i)) n 0 → f i ≤ g i
    none i l high =
        cases (ltb (g i) (f i))
        (λ q. absurd (let low = first_low (λ i. ltb (g i) (f i)) n 0 i (omega arith) (omega arith) q in omega arith))
        (λ q. ltb-false (g i) (f i) q)

-- ---- shares

module _ (P : ℕ) (marks : List ℕ) (value : ℕ → ℕ) (advance : ℕ) where
  -- two lists with the paper's properties are one

  same_division : (xs ys : List ℕ) (s : Shared P marks value advance xs) (t : Shared P marks value advance ys) (k : ℕ) →
      (s.part k ≡ t.part k) × (s.remainder k ≡ t.remainder k)
  same_division xs ys s t k =
      let sum = missing_sum P marks value in
      let both : s.part k * sum + s.remainder k ≡ t.part k * sum + t.remainder k = sym (s.divided k).0 ∙ (t.divided k).0 in (
        sym (digits_div (s.part k) (s.divided k).1) ∙ ap (λ x. x / sum) both ∙ digits_div (t.part k) (t.divided k).1,
        sym (digits_mod (s.part k) (s.divided k).1) ∙ ap (λ x. x % sum) both ∙ digits_mod (t.part k) (t.divided k).1,
      )

  -- where they differ the period is missing, and the greater has one more than the whole part
  differ_by_one : (xs ys : List ℕ) (s : Shared P marks value advance xs) (t : Shared P marks value advance ys) (k : ℕ) → k < P → get_or xs k 0 < get_or ys k 0 →
      IsMissing marks k × (get_or xs k 0 ≡ s.part k) × (get_or ys k 0 ≡ t.part k + 1)
  differ_by_one xs ys s t k h less =
      let missing : IsMissing marks k = λ none. (let x = s.not_missing k h none in let y = t.not_missing k h none in omega arith) in
      let same = (same_division xs ys s t k).0 in
      ⊎_elim
      (λ (y : get_or ys k 0 ≡ t.part k).
      ⊎_elim
      (λ (x : get_or xs k 0 ≡ s.part k). absurd (omega arith))
      (λ (x : get_or xs k 0 ≡ s.part k + 1). absurd (omega arith))
      (s.whole_part k h missing))
      (λ (y : get_or ys k 0 ≡ t.part k + 1).
      ⊎_elim
      (λ (x : get_or xs k 0 ≡ s.part k). (missing, x, y))
      (λ (x : get_or xs k 0 ≡ s.part k + 1). absurd (omega arith))
      (s.whole_part k h missing))
      (t.whole_part k h missing)

  sum_is : (xs : List ℕ) → Shared P marks value advance xs → sum_below P (λ k. get_or xs k 0) ≡ advance
  sum_is xs s = rw (← s.long) (sym (sum_listed xs) ∙ s.adds_up)

  never_less : (xs ys : List ℕ) → Shared P marks value advance xs → Shared P marks value advance ys → (k : ℕ) → k < P → get_or xs k 0 < get_or ys k 0 → ⊥
  never_less xs ys s t k h less =
      let found = more_elsewhere P (λ k. get_or xs k 0) (λ k. get_or ys k 0) k h (sum_is xs s ∙ sym (sum_is ys t)) less in
      let i = found.0 in
      let here = differ_by_one xs ys s t k h less in
      let there = differ_by_one ys xs t s i found.1 found.2 in
      let first = s.largest_first i k found.1 h there.0 here.0 there.2 here.1 in
      let second = t.largest_first k i h found.1 here.0 there.0 here.2 there.1 in
      let same-i = (same_division xs ys s t i).1 in
      let same-k = (same_division xs ys s t k).1 in
      ⊎_elim
      (λ (a : s.remainder k < s.remainder i).
      ⊎_elim
      (λ (b : t.remainder i < t.remainder k). omega arith)
      (λ (b : (t.remainder i ≡ t.remainder k) × (k < i)). let same = b.0 in omega arith)
      second)
      (λ (a : (s.remainder k ≡ s.remainder i) × (i < k)).
      let same = a.0 in
      let earlier = a.1 in
      ⊎_elim
      (λ (b : t.remainder i < t.remainder k). omega arith)
      (λ (b : (t.remainder i ≡ t.remainder k) × (k < i)). let later = b.1 in omega arith)
      second)
      first

  one_list : (xs ys : List ℕ) → Shared P marks value advance xs → Shared P marks value advance ys → xs ≡ ys
  one_list xs ys s t =
      ext_get_or 0 xs ys (s.long ∙ sym t.long)
      (λ k l.
      let h : k < P = rw s.long at l in
      cases (ltb (get_or xs k 0) (get_or ys k 0))
      (λ q. absurd (never_less xs ys s t k h (ltb-true (get_or xs k 0) (get_or ys k 0) q)))
      (λ q.
      cases (ltb (get_or ys k 0) (get_or xs k 0))
      (λ w. absurd (never_less ys xs t s k h (ltb-true (get_or ys k 0) (get_or xs k 0) w)))
      (λ w.
      let high = ltb-false (get_or xs k 0) (get_or ys k 0) q in
      let low = ltb-false (get_or ys k 0) (get_or xs k 0) w in
      omega arith)))

  -- and the filled values have them

  abbrev weight : ℕ → ℕ
  weight = weight_by marks value

  abbrev sum : ℕ
  sum = missing_sum P marks value

  part_is : (k : ℕ) → IsMissing marks k → whole_part P weight advance k ≡ advance * value k / sum
  unfolding whole_part
  part_is k m = rw (weight_missing P marks value k m, sum_missing P marks value)

  remainder_is : (k : ℕ) → IsMissing marks k → remainder_of P weight advance k ≡ advance * value k % sum
  unfolding remainder_of
  remainder_is k m = rw (weight_missing P marks value k m, sum_missing P marks value)

  -- whether a period gets one more
  abbrev gets : ℕ → Bool
  gets k = ltb (count_before P (remainder_of P weight advance) k) (left_over P weight advance)

  given_is : (k : ℕ) → k < P → IsMissing marks k → get_or (filled_values P weight advance) k 0 ≡ advance * value k / sum + cond (gets k) 1 0
  unfolding filled_values filled_value
  given_is k h m = get_d_tabulate P _ k h ∙ ap (λ x. x + cond (gets k) 1 0) (part_is k m)

  filled_shared : sum ≢ 0 → Shared P marks value advance (filled_values P weight advance)
  unfolding filled_values
  filled_shared some =
      record {
        long = length_tabulate P _;
        not_missing = λ k h none. get_d_tabulate P _ k h ∙ filled_zero P weight advance some_weight k (weight_other P marks value k none);
        part = λ k. advance * value k / sum;
        remainder = λ k. advance * value k % sum;
        divided = λ k. (sym (div-add-mod' (advance * value k) sum), mod-lt (advance * value k) (omega arith));
        whole_part = λ k h m. cases (gets k) (λ q. inr (given_is k h m ∙ rw q)) (λ q. inl (given_is k h m ∙ rw q (add-zero _)));
        largest_first = λ i k hi hk mi mk one none.
            let i_gets : gets i ≡ true = cases (gets i) (λ q. q) (λ q. absurd (let is = rw q at (given_is i hi mi) in omega arith)) in
            let k_not : gets k ≡ false = cases (gets k) (λ q. absurd (let is = rw q at (given_is k hk mk) in omega arith)) (λ q. q) in
            rw (remainder_is i mi, remainder_is k mk) at (gets_before P (remainder_of P weight advance) (left_over P weight advance) i k i_gets k_not);
        adds_up = sum_over_tabulate P _ (λ v. v) ∙ filled_sum P weight advance some_weight;
      }
    where
      some_weight : sum_below P weight ≢ 0
      some_weight = rw (sum_missing P marks value) some

pub fill_unique : FillUnique
fill_unique P marks value advance some given =
    let filled = filled_shared P marks value advance some in
    (λ e. rw e filled, λ s. one_list P marks value advance given _ s filled)

-- ---- what a call answers

-- the filled values, where 17 does not refuse
fill_given : (l : Ledger) (n : Lengths) (a : FillCall) (given : List ℕ) → Fills l n a given →
    (missing_sum (periods l.opening) a.marks (shape_value l a) ≢ 0) × (given ≡ fill_at l a)
unfolding ledger_answer
fill_given l n a given is =
    let same : filled_are (fill_at l a) ≡ filled_are given = (answered (ledger_fill_check l n a) _ (filled_are given) refl is).1 in
    (((fill_exact l n a).0.0 (is ∙ sym same)).1.1.1.1.0.1, cc)

pub fill_shares : FillShares
unfolding fill_at weight_at
fill_shares l n a given is =
    let facts = fill_given l n a given is in
    (fill_unique (periods l.opening) a.marks (shape_value l a) a.advance facts.0 given).0 facts.1

pub fill_near : FillNear
unfolding fill_at weight_at filled_values
fill_near l n a given is k h missing =
    let P = periods l.opening in
    let value = shape_value l a in
    let weight = weight_by a.marks value in
    let facts = fill_given l n a given is in
    let some : sum_below P weight ≢ 0 = rw (sum_missing P a.marks value) facts.0 in
    let near = rw (weight_missing P a.marks value k missing, sum_missing P a.marks value) at (filled_near P weight a.advance some k) in
    rw (facts.1, get_d_tabulate P (filled_value P weight a.advance) k h) (
      near.0,
      near.1,
      λ none. filled_zero P weight a.advance some k (weight_missing P a.marks value k missing ∙ none),
    )

pub fill_alone : FillAlone
fill_alone l n a given is i h alone =
    let P = periods l.opening in
    let s = fill_shares l n a given is in
    let none : (k : ℕ) → k < P → get_or given k 0 ≡ cond (eqb k i) (get_or given k 0) 0 =
    λ k low. cases (eqb k i) (λ q. rw q) (λ q. rw q (s.not_missing k low (unmarked k low (eqb-false k i q)))) in
    sym (sum_below_one P i (λ k. get_or given k 0) h) ∙ sym (sum_below_cong P _ _ none) ∙ sum_is P a.marks (shape_value l a) a.advance given s
  where
    unmarked : (k : ℕ) → k < periods l.opening → k ≢ i → get_or a.marks k 0 ≡ 0
    unmarked k low other = cases (eqb (get_or a.marks k 0) 0) (λ q. eqb-true _ 0 q) (λ q. absurd (other (alone k low (eqb-false _ 0 q))))

pub few_left_over : LeftOverFew
few_left_over P weight advance may =
    let few = left_over_few P weight advance ((may_iff P weight).0 may) in
    rw (chosen_count P (λ k. ltb 0 (remainder_of P weight advance k))) (unfold reaching in few)

-- ---- computed

pub fill_leaves_all : FillLeavesAll
unfolding ledger_after leaves
fill_leaves_all l n p a = (refl, refl)
