-- Laws of the numbers that pass a test: all of them (`chosen_below`), and the first (`first_from`).
use Rattle.std.proofs.Common.{◌≡◌, ℕ, zero, suc, ◌+◌, ◌-◌, ◌<◌, ◌≤◌, Bool, true, false, cond, ◌&&◌, ◌||◌, eqb, ltb, ◌≢◌, List, [], ◌∷◌, ◌++◌, length, get_or, take, sym, refl, ◌∙◌, true≢false, not-suc-le-zero, add-suc, suc-add, add-one, arith, length-append, ltb-false, ltb-true, le-ltb, lt-ltb, eq-eqb, ne_eqb, eqb-true}
use mathlib.Core.Bool.{or-false}
use borrow.Table.Steps.{cases}
use borrow.Author.Tests.{eqb-false}
use Rattle.ledger.specs.Table.{chosen_below, first_from}
use Rattle.ledger.specs.Net.{any_of}
use Rattle.ledger.specs.Engine.{Every}
use Rattle.ledger.specs.Demands.{Upward}

pub every_append : {I : Type 0} (P : I → Type 0) (cs ds : List I) → Every P cs → Every P ds → Every P (cs ++ ds)
every_append P [] ds a b = b
every_append P (c ∷ cs) ds a b = (a.0, every_append P cs ds a.1 b)

pub every_more : {I : Type 0} (P Q : I → Type 0) (cs : List I) → Every P cs → ((c : I) → P c → Q c) → Every Q cs
every_more P Q [] a h = tt
every_more P Q (c ∷ cs) a h = (h c a.0, every_more P Q cs a.1 h)

pub every_at : (P : ℕ → Type 0) (cs : List ℕ) (i : ℕ) → Every P cs → i < length cs → P (get_or cs i 0)
every_at P [] i all h = absurd (not-suc-le-zero h)
every_at P (c ∷ cs) zero all h = all.0
every_at P (c ∷ cs) (suc i) all h = every_at P cs i all.1 (omega arith)

-- each is below the limit and passes the test
pub chosen_pass : (n : ℕ) (test : ℕ → Bool) → Every (λ c. (c < n) × (test c ≡ true)) (chosen_below n test)
unfolding chosen_below
chosen_pass zero test = tt
chosen_pass (suc n) test =
    every_append (λ c. (c < suc n) × (test c ≡ true)) (chosen_below n test) (cond (test n) (n ∷ []) [])
    (every_more _ _ (chosen_below n test) (chosen_pass n test) (λ c p. (omega (arith, p.0), p.1)))
    (cases (test n) (λ q. rw q ((omega arith, q), tt)) (λ q. rw q tt))

pub chosen_below_lem : (n : ℕ) (test : ℕ → Bool) → Every (λ c. c < n) (chosen_below n test)
chosen_below_lem n test = every_more _ _ (chosen_below n test) (chosen_pass n test) (λ c p. p.0)

pub chosen_cong : (n : ℕ) (f g : ℕ → Bool) → ((c : ℕ) → c < n → f c ≡ g c) → chosen_below n f ≡ chosen_below n g
unfolding chosen_below
chosen_cong zero f g h = refl
chosen_cong (suc n) f g h = rw (chosen_cong n f g (λ c l. h c (omega arith)), h n (omega arith))

pub chosen_none : (n : ℕ) (test : ℕ → Bool) → ((x : ℕ) → x < n → test x ≡ false) → chosen_below n test ≡ []
unfolding chosen_below
chosen_none zero test h = refl
chosen_none (suc n) test h = rw (chosen_none n test (λ x l. h x (omega arith)), h n (omega arith))

pub chosen_one : (n c : ℕ) → c < n → chosen_below n (λ x. eqb x c) ≡ c ∷ []
unfolding chosen_below
chosen_one zero c low = absurd (not-suc-le-zero low)
chosen_one (suc n) c low =
    cases (eqb n c)
    (λ e. let is = eqb-true n c e in rw (chosen_none n (λ x. eqb x c) (λ x l. ne_eqb x c (λ q. omega arith)), e, is))
    (λ e. let other = eqb-false n c e in rw (chosen_one n c (omega arith), e))

pub chosen_few : (n : ℕ) (test : ℕ → Bool) → length (chosen_below n test) ≤ n
unfolding chosen_below
chosen_few zero test = omega arith
chosen_few (suc n) test =
    let h = chosen_few n test in
    rw (length-append (chosen_below n test)) (cases (test n) (λ q. rw q (omega arith)) (λ q. rw q (omega arith)))

pub any_of_append : (cs ds : List ℕ) (f : ℕ → Bool) → any_of (cs ++ ds) f ≡ (any_of cs f || any_of ds f)
unfolding any_of
any_of_append [] ds f = refl
any_of_append (c ∷ cs) ds f = cases (f c) (λ q. rw q) (λ q. rw q (any_of_append cs ds f))

-- ---- chosen numbers, one by one

pub chosen_has : (n : ℕ) (test : ℕ → Bool) (d : ℕ) → any_of (chosen_below n test) (eqb d) ≡ (ltb d n && test d)
unfolding chosen_below any_of
chosen_has zero test d = rw (le-ltb d 0 (omega arith))
chosen_has (suc n) test d =
    any_of_append (chosen_below n test) (cond (test n) (n ∷ []) []) (eqb d)
    ∙ rw (chosen_has n test d)
    (cases (eqb d n)
    (λ q. rw (eqb-true d n q, le-ltb n n (omega arith), lt-ltb n (suc n) (omega arith)) (cases (test n) (λ t. rw (t, eq-eqb n n refl)) (λ t. rw t)))
    (λ q.
    let other = eqb-false d n q in
    let none : any_of (cond (test n) (n ∷ []) []) (eqb d) ≡ false = cases (test n) (λ t. rw (t, q)) (λ t. rw t) in
    rw (none, or-false)
    (cases (ltb d n)
    (λ l. rw (l, lt-ltb d (suc n) (let h = ltb-true d n l in omega arith)))
    (λ l. rw (l, le-ltb d (suc n) (let h = ltb-false d n l in omega arith))))))

upward_last : (xs ys : List ℕ) → Upward xs → Upward ys → Every (λ x. Every (λ y. x < y) ys) xs → Upward (xs ++ ys)
upward_last [] ys a b h = b
upward_last (x ∷ xs) ys a b h = (every_append (λ y. x < y) xs ys a.0 h.0, upward_last xs ys a.1 b h.1)

pub chosen_upward : (n : ℕ) (test : ℕ → Bool) → Upward (chosen_below n test)
unfolding chosen_below
chosen_upward zero test = tt
chosen_upward (suc n) test =
    upward_last (chosen_below n test) (cond (test n) (n ∷ []) [])
    (chosen_upward n test)
    (cases (test n) (λ q. rw q (tt, tt)) (λ q. rw q tt))
    (every_more _ _ (chosen_below n test) (chosen_below_lem n test) (λ c l. cases (test n) (λ q. rw q (l, tt)) (λ q. rw q tt)))

-- a number of such a list is not among those before it
pub upward_apart : (xs : List ℕ) (i : ℕ) → Upward xs → i < length xs → any_of (take i xs) (eqb (get_or xs i 0)) ≡ false
unfolding any_of
upward_apart [] i up h = absurd (not-suc-le-zero h)
upward_apart (x ∷ xs) zero up h = refl
upward_apart (x ∷ xs) (suc i) up h =
    let low : x < get_or xs i 0 = every_at (λ y. x < y) xs i up.0 (omega arith) in
    rw (ne_eqb (get_or xs i 0) x (λ e. omega arith)) (upward_apart xs i up.1 (omega arith))

-- ---- the first; below, of n numbers those from i on are left

module _ (test : ℕ → Bool) (n i : ℕ) where
  pub first_here : i < n → test i ≡ true → first_from test (n - i) i ≡ i
  unfolding first_from
  first_here h e = let m : n - i ≡ suc (n - (i + 1)) = omega arith in rw (m, e)

  pub first_later : i < n → test i ≡ false → first_from test (n - i) i ≡ first_from test (n - (i + 1)) (i + 1)
  unfolding first_from
  first_later h e = let m : n - i ≡ suc (n - (i + 1)) = omega arith in rw (m, e, add-one)

  pub first_none : n ≤ i → first_from test (n - i) i ≡ i
  unfolding first_from
  first_none h = let m : n - i ≡ 0 = omega arith in rw m

pub first_cong : (f g : ℕ → Bool) (n i : ℕ) → ((c : ℕ) → c < i + n → f c ≡ g c) → first_from f n i ≡ first_from g n i
unfolding first_from
first_cong f g zero i h = refl
first_cong f g (suc n) i h = rw (h i (omega arith), first_cong f g n (suc i) (λ c l. h c (rw (add-suc, ← suc-add) l)))

-- the first that passes a test does, and none that passes comes before it
pub first_passes : (test : ℕ → Bool) (n i : ℕ) → first_from test n i < i + n → test (first_from test n i) ≡ true
unfolding first_from
first_passes test zero i h = absurd (omega arith)
first_passes test (suc n) i h =
    cases (test i)
    (λ q. rw q q)
    (λ q. let later = rw q at h in rw q (first_passes test n (suc i) (omega arith)))

pub first_low : (test : ℕ → Bool) (n i c : ℕ) → i ≤ c → c < i + n → test c ≡ true → first_from test n i ≤ c
unfolding first_from
first_low test zero i c low high e = absurd (omega arith)
first_low test (suc n) i c low high e =
    cases (test i)
    (λ q. rw q low)
    (λ q.
    let other : c ≢ i = λ is. true≢false (sym e ∙ rw is q) in
    rw q (first_low test n (suc i) c (omega arith) (omega arith) e))
