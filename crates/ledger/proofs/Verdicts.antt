-- What verdicts, answers and searches come to: one equation a branch.
use Rattle.std.proofs.Common.{◌≡◌, ℕ, zero, suc, ◌+◌, ◌-◌, ◌<◌, ◌≤◌, Bool, true, false, eqb, sym, refl, ◌∙◌, add-one, arith, eq-eqb, ne_eqb, eqb-true}
use mathlib.Core.Bool.{or-true, or-false}
use borrow.Table.Steps.{cases}
use borrow.Author.Tests.{eqb-false}
use Rattle.ledger.specs.Checks.{Verdict, verdict, first_failed, any_below, or_else}
use Rattle.ledger.specs.Ledger.{Answer, answer, accepted, refused, left}

-- the first failed of n, from i on

failed_end : (f : ℕ → ℕ) (n i : ℕ) → n ≤ i → first_failed f (n - i) i ≡ verdict 0
unfolding first_failed
failed_end f n i h = let e : n - i ≡ 0 = omega arith in rw e

failed_pass : (f : ℕ → ℕ) (n i : ℕ) → i < n → f i ≡ 0 → first_failed f (n - i) i ≡ first_failed f (n - (i + 1)) (i + 1)
unfolding first_failed
failed_pass f n i h e = let m : n - i ≡ suc (n - (i + 1)) = omega arith in rw (m, e, add-one)

failed_at : (f : ℕ → ℕ) (n i : ℕ) → i < n → (f i ≡ 0 → ⊥) → first_failed f (n - i) i ≡ record { number = f i; place = i + 1 }
unfolding first_failed
failed_at f n i h e = let m : n - i ≡ suc (n - (i + 1)) = omega arith in rw (m, ne_eqb _ _ e, add-one)

-- what is answered and left

pub answer_none : (v : Verdict) (given : Answer) → v.number ≡ 0 → answer v given ≡ given
unfolding answer
answer_none v given e = rw e

pub answer_some : (v : Verdict) (given : Answer) → (v.number ≡ 0 → ⊥) → answer v given ≡ refused v.number v.place
unfolding answer
answer_some v given e = rw (ne_eqb _ _ e)

pub left_none : {A : Type 0} (v : Verdict) (before after : A) → v.number ≡ 0 → left v before after ≡ after
unfolding left
left_none v before after e = rw e

pub left_some : {A : Type 0} (v : Verdict) (before after : A) → (v.number ≡ 0 → ⊥) → left v before after ≡ before
unfolding left
left_some v before after e = rw (ne_eqb _ _ e)

pub left_of : {A B : Type 0} (f : A → B) (v : Verdict) (before after : A) → f (left v before after) ≡ left v (f before) (f after)
unfolding left
left_of f v before after = cases (eqb v.number 0) (λ t. rw t) (λ t. rw t)

-- the same from a number that a call found, where the verdict has no place

module _ (v : Verdict) (n : ℕ) (is : n ≡ v.number) where
  pub refused_is : (given : Answer) → v.place ≡ 0 → (n ≡ 0 → ⊥) → refused n 0 ≡ answer v given
  unfolding answer
  refused_is given place fails = rw (place, ← is, ne_eqb n 0 fails)

  pub kept_is : {A : Type 0} (before after : A) → (n ≡ 0 → ⊥) → before ≡ left v before after
  unfolding left
  kept_is before after fails = rw (← is, ne_eqb n 0 fails)

  pub given_is : (given : Answer) → n ≡ 0 → given ≡ answer v given
  unfolding answer
  given_is given passes = rw (← is, eq-eqb n 0 passes)

  pub after_is : {A : Type 0} (before after : A) → n ≡ 0 → after ≡ left v before after
  unfolding left
  after_is before after passes = rw (← is, eq-eqb n 0 passes)

pub accepted_none : (v : Verdict) → accepted ≡ answer v accepted → v.number ≡ 0
unfolding answer
accepted_none v e =
    cases (eqb v.number 0) (λ t. eqb-true _ _ t) (λ t. let z : accepted ≡ refused v.number v.place = rw t at e in cc)

pub refused_some : (v : Verdict) (n p : ℕ) → refused n p ≡ answer v accepted → v.number ≡ 0 → ⊥
refused_some v n p e h =
    let z : refused n p ≡ accepted = e ∙ answer_none v accepted h in let no : ◌≡◌ {A = ℕ} 0 1 = cc in omega arith

pub refused_not : {A : Type 0} (n p : ℕ) → refused n p ≡ accepted → A
refused_not n p e = let no : ◌≡◌ {A = ℕ} 0 1 = cc in absurd (omega arith)

or_none : (a b : Verdict) → a.number ≡ 0 → or_else a b ≡ b
unfolding or_else
or_none a b e = rw e

or_some : (a b : Verdict) → (a.number ≡ 0 → ⊥) → or_else a b ≡ a
unfolding or_else
or_some a b e = rw (ne_eqb _ _ e)

-- the first of two checks decides where it refuses

pub or_refused : (a b : Verdict) (n p : ℕ) → refused n p ≡ answer a accepted → refused n p ≡ answer (or_else a b) accepted
or_refused a b n p e = rw (or_some a b (refused_some a n p e)) e

pub or_accepted : (a b : Verdict) → accepted ≡ answer a accepted → or_else a b ≡ b
or_accepted a b e = or_none a b (accepted_none a e)

pub passed_else : (a b : Verdict) → (or_else a b).number ≡ 0 → (a.number ≡ 0) × (b.number ≡ 0)
unfolding or_else
passed_else a b e =
    cases (eqb a.number 0)
    (λ q. (eqb-true a.number 0 q, rw q at e))
    (λ q. absurd (eqb-false a.number 0 q (rw q at e)))

-- the same of a number before a verdict

pub number_refused : (n : ℕ) (rest : Verdict) → (n ≡ 0 → ⊥) → refused n 0 ≡ answer (or_else (verdict n) rest) accepted
number_refused n rest ne = or_refused (verdict n) rest n 0 (sym (answer_some (verdict n) accepted ne))

-- a loop over n things, of which those below i passed: r is the number of thing i

pub failing : (f : ℕ → ℕ) (n i r : ℕ) (w : Verdict) → i < n → r ≡ f i → (r ≡ 0 → ⊥) → first_failed f (n - i) i ≡ w → refused r (i + 1) ≡ answer w accepted
failing f n i r w h e ne p =
    let no : f i ≡ 0 → ⊥ = λ z. ne (e ∙ z) in rw (← p, failed_at f n i h no, e) (sym (answer_some (record { number = f i; place = i + 1 }) accepted no))

pub passing : (f : ℕ → ℕ) (n i r : ℕ) (w : Verdict) → i < n → r ≡ f i → r ≡ 0 → first_failed f (n - i) i ≡ w → first_failed f (n - (i + 1)) (i + 1) ≡ w
passing f n i r w h e z p = sym (failed_pass f n i h (sym e ∙ z)) ∙ p

pub first_passed : (f : ℕ → ℕ) (n i : ℕ) (w : Verdict) → n ≤ i → first_failed f (n - i) i ≡ w → accepted ≡ answer w accepted
first_passed f n i w h p = rw (← p, failed_end f n i h) (sym (answer_none (verdict 0) accepted refl))

-- whether something holds below n

pub any_zero : (f : ℕ → Bool) → any_below 0 f ≡ false
unfolding any_below
any_zero f = refl

pub any_found : (n : ℕ) (f : ℕ → Bool) → 0 < n → f (n - 1) ≡ true → any_below n f ≡ true
unfolding any_below
any_found zero f h e = absurd (omega (arith, h))
any_found (suc n) f h e = let m : suc n - 1 ≡ n = omega arith in rw (rw m at e, or-true)

pub any_passed : (n : ℕ) (f : ℕ → Bool) → 0 < n → f (n - 1) ≡ false → any_below n f ≡ any_below (n - 1) f
unfolding any_below
any_passed zero f h e = absurd (omega (arith, h))
any_passed (suc n) f h e = let m : suc n - 1 ≡ n = omega arith in rw (rw m at e, or-false, m)
