-- Checks in a row: what they find, number and place, is the first row that does not hold.
use Rattle.std.proofs.Common.{◌≡◌, ℕ, zero, suc, ◌+◌, ◌<◌, Bool, true, false, cond, eqb, ◌≢◌, ◌⊎◌, ◌↔◌, List, [], ◌∷◌, ◌++◌, sym, refl, ap, ◌∙◌, inl, inr, ⊎_elim, true≢false, add-zero, add-suc, suc-add, arith, eqb-true}
use borrow.Table.Steps.{cases}
use borrow.Author.Tests.{eqb-false}
use Rattle.ledger.specs.Checks.{Verdict, first_failed, or_else, first_number}
use Rattle.ledger.specs.Ledger.{Answer, refused, accepted, moved, totals_are, cell_is, net_is, band_is, filled_are, coverage_is, row_is, answer}
use Rattle.ledger.specs.Demands.{Row, row_of, each_below, AllHold, FirstFails, GoesBy, FirstBad}
use Rattle.ledger.proofs.Verdicts.{answer_none, answer_some}

-- ---- rows

pub all_append : (xs ys : List Row) → AllHold xs → AllHold ys → AllHold (xs ++ ys)
all_append [] ys a b = b
all_append (r ∷ xs) ys a b = (a.0, all_append xs ys a.1 b)

pub first_left : (xs ys : List Row) (n p : ℕ) → FirstFails xs n p → FirstFails (xs ++ ys) n p
first_left [] ys n p f = absurd f
first_left (r ∷ xs) ys n p f = ⊎_elim (λ here. inl here) (λ later. inr (later.0, first_left xs ys n p later.1)) f

pub first_right : (xs ys : List Row) (n p : ℕ) → AllHold xs → FirstFails ys n p → FirstFails (xs ++ ys) n p
first_right [] ys n p a f = f
first_right (r ∷ xs) ys n p a f = inr (a.0, first_right xs ys n p a.1 f)

all_or_first : (rows : List Row) (n p : ℕ) → AllHold rows → FirstFails rows n p → ⊥
all_or_first [] n p a f = f
all_or_first (r ∷ rows) n p a f = ⊎_elim (λ here. here.0 a.0) (λ later. all_or_first rows n p a.1 later.1) f

pub all_left : (xs ys : List Row) → AllHold (xs ++ ys) → AllHold xs
all_left [] ys all = tt
all_left (r ∷ xs) ys all = (all.0, all_left xs ys all.1)

pub all_right : (xs ys : List Row) → AllHold (xs ++ ys) → AllHold ys
all_right [] ys all = all
all_right (r ∷ xs) ys all = all_right xs ys all.1

pub of_each : (n : ℕ) (rows : ℕ → List Row) → AllHold (each_below n rows) → (k : ℕ) → k < n → AllHold (rows k)
unfolding each_below
of_each zero rows all k h = absurd (omega arith)
of_each (suc n) rows all zero h = all_left (rows 0) _ all
of_each (suc n) rows all (suc k) h = of_each n (λ i. rows (suc i)) (all_right (rows 0) _ all) k (omega arith)

pub each_all : (n : ℕ) (rows : ℕ → List Row) → ((k : ℕ) → k < n → AllHold (rows k)) → AllHold (each_below n rows)
unfolding each_below
each_all zero rows h = tt
each_all (suc n) rows h = all_append (rows 0) _ (h 0 (omega arith)) (each_all n (λ i. rows (suc i)) (λ k l. h (suc k) (omega arith)))

pub first_append : (xs ys : List Row) (n p : ℕ) → FirstFails (xs ++ ys) n p → FirstFails xs n p ⊎ (AllHold xs × FirstFails ys n p)
first_append [] ys n p f = inr (tt, f)
first_append (r ∷ xs) ys n p f =
    ⊎_elim
    (λ here. inl (inl here))
    (λ later. ⊎_elim (λ a. inl (inr (later.0, a))) (λ b. inr ((later.0, b.0), b.1)) (first_append xs ys n p later.1))
    f

-- of records the first bad one decides
pub first_each : (count : ℕ) (rows : ℕ → List Row) (n p : ℕ) → FirstFails (each_below count rows) n p →
    (k : ℕ) × (k < count) × ((i : ℕ) → i < k → AllHold (rows i)) × FirstFails (rows k) n p
unfolding each_below
first_each zero rows n p f = absurd f
first_each (suc count) rows n p f =
    ⊎_elim
    (λ here. (0, omega arith, λ i l. absurd (omega arith), here))
    (λ later.
    let found = first_each count (λ i. rows (suc i)) n p later.1 in
    let low = found.1 in
    (suc found.0, omega arith, before found.0 later.0 found.2, found.3))
    (first_append (rows 0) _ n p f)
  where
    before : (k : ℕ) → AllHold (rows 0) → ((i : ℕ) → i < k → AllHold (rows (suc i))) → (i : ℕ) → i < suc k → AllHold (rows i)
    before k here rest zero l = here
    before k here rest (suc i) l = rest i (omega arith)

pub each_first : (count : ℕ) (rows : ℕ → List Row) (n p k : ℕ) → k < count → ((i : ℕ) → i < k → AllHold (rows i)) → FirstFails (rows k) n p →
    FirstFails (each_below count rows) n p
unfolding each_below
each_first zero rows n p k low before here = absurd (omega arith)
each_first (suc count) rows n p zero low before here = first_left (rows 0) _ n p here
each_first (suc count) rows n p (suc k) low before here =
    first_right (rows 0) _ n p (before 0 (omega arith))
    (each_first count (λ i. rows (suc i)) n p k (omega arith) (λ i l. before (suc i) (omega arith)) here)

one_first : (rows : List Row) (n p m q : ℕ) → FirstFails rows n p → FirstFails rows m q → (n ≡ m) × (p ≡ q)
one_first [] n p m q f g = absurd f
one_first (r ∷ rows) n p m q f g =
    ⊎_elim
    (λ a. ⊎_elim (λ b. (a.1 ∙ sym b.1, a.2 ∙ sym b.2)) (λ b. absurd (a.0 b.0)) g)
    (λ a. ⊎_elim (λ b. absurd (b.0 a.0)) (λ b. one_first rows n p m q a.1 b.1) g)
    f

-- rows of one place
abbrev pub AtPlace : ℕ → List Row → Type 0
AtPlace q [] = Unit {0}
AtPlace q (r ∷ rows) = (r.place ≡ q) × AtPlace q rows

pub at_place : (q : ℕ) (rows : List Row) (n p : ℕ) → AtPlace q rows → FirstFails rows n p → p ≡ q
at_place q [] n p at f = absurd f
at_place q (r ∷ rows) n p at f = ⊎_elim (λ here. here.2 ∙ at.0) (λ later. at_place q rows n p at.1 later.1) f

-- a single row
pub only : (r : Row) (n p : ℕ) → FirstFails (r ∷ []) n p → (r.holds → ⊥) × (n ≡ r.number) × (p ≡ r.place)
only r n p f = ⊎_elim (λ here. here) (λ later. absurd later.1) f

-- records of one row each
pub first_bad : (count number : ℕ) (good : ℕ → Type 0) (n i : ℕ) →
    FirstFails (each_below count (λ k. row_of k number (good k) ∷ [])) n (suc i) ↔ ((n ≡ number) × FirstBad good count i)
first_bad count number good n i = (
  λ f. let found = first_each count (λ k. row_of k number (good k) ∷ []) n (suc i) f in
      let here = only (row_of found.0 number (good found.0)) n (suc i) found.3 in
      let place = here.2 in
      let is : found.0 ≡ i = omega arith in
      let bad : FirstBad good count found.0 = (found.1, λ k l. (found.2 k l).0, here.0) in
      (here.1, rw is at bad),
  λ h. each_first count (λ k. row_of k number (good k) ∷ []) n (suc i) i h.1.0 (λ k l. (h.1.1 k l, tt)) (inl (h.1.2, h.0, refl)),
)

-- ---- checks that go by rows

-- what the checks of some rows found: number 0 where all hold, else number and place of the first that does not
pub data Finds (n p : ℕ) (rows : List Row) : Type 0 where
  all_hold : n ≡ 0 → AllHold rows → Finds n p rows
  first_fails : n ≢ 0 → FirstFails rows n p → Finds n p rows

abbrev pub Decides : Verdict → List Row → Type 0
Decides v rows = Finds v.number v.place rows

pub finds_none : {p : ℕ} → Finds 0 p []
finds_none = all_hold refl tt

-- a row that holds
pub finds_skip : {n p : ℕ} {r : Row} {rows : List Row} → r.holds → Finds n p rows → Finds n p (r ∷ rows)
finds_skip holds (all_hold passed all) = all_hold passed (holds, all)
finds_skip holds (first_fails failed later) = first_fails failed (inr (holds, later))

-- a test in front of the others, false exactly when its row holds
pub finds_row : {t : Bool} {rest : ℕ} {r : Row} {rows : List Row} → eqb r.number 0 ≡ false → (t ≡ false) ↔ r.holds → Finds rest r.place rows →
    Finds (cond t r.number rest) r.place (r ∷ rows)
finds_row {t = true} numbered is later = first_fails (eqb-false _ _ numbered) (inl (λ holds. true≢false (is.1 holds), refl, refl))
finds_row {t = false} numbered is later = finds_skip (is.0 refl) later

pub decides_row : {t : Bool} (rest : Verdict) {r : Row} {rows : List Row} → eqb r.number 0 ≡ false → (t ≡ false) ↔ r.holds → Decides rest rows →
    Decides (cond t (record { number = r.number; place = r.place }) rest) (r ∷ rows)
decides_row {t = true} rest numbered is later = first_fails (eqb-false _ _ numbered) (inl (λ holds. true≢false (is.1 holds), refl, refl))
decides_row {t = false} rest numbered is later = finds_skip (is.0 refl) later

-- checks in two pieces
finds_later : {n p m q : ℕ} (xs ys : List Row) → n ≡ 0 → Finds n p xs → Finds m q ys → Finds m q (xs ++ ys)
finds_later xs ys passed (all_hold _ all) (all_hold both rest) = all_hold both (all_append xs ys all rest)
finds_later {m} {q} xs ys passed (all_hold _ all) (first_fails failed later) = first_fails failed (first_right xs ys m q all later)
finds_later xs ys passed (first_fails failed first) second = absurd (failed passed)

finds_first : {n p : ℕ} (xs ys : List Row) → n ≢ 0 → Finds n p xs → Finds n p (xs ++ ys)
finds_first xs ys failed (all_hold passed all) = absurd (failed passed)
finds_first {n} {p} xs ys failed (first_fails _ first) = first_fails failed (first_left xs ys n p first)

pub finds_both : {n m p : ℕ} {xs ys : List Row} → Finds n p xs → Finds m p ys → Finds (first_number n m) p (xs ++ ys)
unfolding first_number
finds_both {n} {xs} {ys} first second =
    cases (eqb n 0) (λ q. rw q (finds_later xs ys (eqb-true n 0 q) first second)) (λ q. rw q (finds_first xs ys (eqb-false n 0 q) first))

pub decides_else : (v w : Verdict) {xs ys : List Row} → Decides v xs → Decides w ys → Decides (or_else v w) (xs ++ ys)
unfolding or_else
decides_else v w {xs} {ys} first second =
    cases (eqb v.number 0) (λ q. rw q (finds_later xs ys (eqb-true _ 0 q) first second)) (λ q. rw q (finds_first xs ys (eqb-false _ 0 q) first))

-- the records one after the other
pub decides_each : (f : ℕ → ℕ) (n i : ℕ) (rows : ℕ → List Row) → ((k : ℕ) → Finds (f (i + k)) (suc (i + k)) (rows k)) → Decides (first_failed f n i) (each_below n rows)
unfolding first_failed each_below
decides_each f zero i rows h = finds_none
decides_each f (suc n) i rows h =
    let here : Finds (f i) (suc i) (rows 0) = rw (add-zero i) at (h 0) in
    let later = decides_each f n (suc i) (λ k. rows (suc k)) (λ k. rw (suc-add i k, ← (add-suc i k)) (h (suc k))) in
    cases (eqb (f i) 0)
    (λ q. rw q (finds_later (rows 0) _ (eqb-true _ 0 q) here later))
    (λ q. rw q (finds_first (rows 0) (each_below n (λ k. rows (suc k))) (eqb-false _ 0 q) here))

pub passed_all : {n p : ℕ} {rows : List Row} → Finds n p rows → n ≡ 0 → AllHold rows
passed_all (all_hold _ all) passed = all
passed_all (first_fails failed first) passed = absurd (failed passed)

abbrev pub is_refusal : Answer → Bool
is_refusal (refused n p) = true
is_refusal accepted = false
is_refusal (moved n) = false
is_refusal (totals_are t) = false
is_refusal (cell_is c) = false
is_refusal (net_is n) = false
is_refusal (band_is b) = false
is_refusal (filled_are v) = false
is_refusal (coverage_is c) = false
is_refusal (row_is r) = false

-- an answer that is no refusal is what was to be given
pub answered : (v : Verdict) (given heard : Answer) → is_refusal heard ≡ false → answer v given ≡ heard → (v.number ≡ 0) × (given ≡ heard)
answered v given heard given-one is =
    cases (eqb v.number 0)
    (λ q. let passed = eqb-true v.number 0 q in (passed, sym (answer_none v given passed) ∙ is))
    (λ q. absurd (true≢false (sym (ap is_refusal (sym is ∙ answer_some v given (eqb-false v.number 0 q))) ∙ given-one)))

-- the answer of a call whose check goes by rows
pub goes_by : (v : Verdict) {rows : List Row} (given : Answer) → is_refusal given ≡ false → Decides v rows → GoesBy rows given (answer v given)
goes_by v {rows} given is (all_hold passed all) =
    let e = answer_none v given passed in (
      (λ _. all, λ _. e),
      λ n p. (λ r. absurd (true≢false (ap is_refusal (sym r ∙ e) ∙ is)), λ first. absurd (all_or_first rows n p all first)),
    )
goes_by v {rows} given is (first_fails failed first) =
    let e = answer_some v given failed in (
      (λ g. absurd (true≢false (ap is_refusal (sym e ∙ g) ∙ is)), λ all. absurd (all_or_first rows v.number v.place all first)),
      λ n p. (
        λ r. let z : refused v.number v.place ≡ refused n p = sym e ∙ r in
            let x : v.number ≡ n = cc in
            let y : v.place ≡ p = cc in
            rw (← x, ← y) first,
        λ other. let same = one_first rows v.number v.place n p first other in rw (← same.0, ← same.1) e,
      ),
    )
