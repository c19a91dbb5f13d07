-- Laws of the C calls: what a call returns, and leaves in its lists and parts.
use Prim.Native.Nat.{ℕ, ◌≤◌, ◌<◌}
use mathlib.Core.Path.{◌≡◌, ap, ◌∙◌}
use mathlib.Core.List.{List}
use lib.IntN.{ℤ}
use lib.ListN.{length, take}
use lib.Dec.{eqb}
use borrow.Table.Steps.{cases}
use borrow.Author.Tests.{lt-ltb, le-ltb, eqb-true, eqb-false}
use Rattle.ledger.specs.Method.{Cell}
use Rattle.ledger.specs.Checks.{Verdict}
use Rattle.ledger.specs.Ledger.{Answer, answer, refused, row_is}
use Rattle.ledger.specs.Calls.{overwritten}
use Rattle.fields.specs.declared.numbers.Numbers.{Numbers}
use Rattle.fields.specs.Fields.{number_of, fields_of, Returned, unless_short, AsNumbers}

module _ (list : List ℤ) where
  pub list_short_lem : (given : Answer) → length list < 11 → Returned list given 1 list
  list_short_lem given h = record { number_is = rw (lt-ltb (length list) 11 h); fields_are = rw (lt-ltb (length list) 11 h) }

  pub short_left : {A : Type 0} (before after : List A) → length list < 11 → before ≡ unless_short list before after
  short_left before after h = rw (lt-ltb (length list) 11 h)

  module _ (long : 11 ≤ length list) where
    pub handed : {given answered : Answer} {r : Numbers} {number : ℕ} {list' : List ℤ} → answered ≡ given → AsNumbers answered r →
        (number ≡ r.number) × (list' ≡ overwritten (take r.count r.fields) list) → Returned list given number list'
    handed e a put =
        record {
          number_is = put.0 ∙ a.number_is ∙ rw (le-ltb (length list) 11 long) (ap number_of e);
          fields_are = put.1 ∙ rw (le-ltb (length list) 11 long) (ap (λ fs. overwritten fs list) (a.fields_are ∙ ap fields_of e));
        }

    pub long_left : {A : Type 0} (before : List A) {after given : List A} → given ≡ after → given ≡ unless_short list before after
    long_left before e = rw (le-ltb (length list) 11 long) e

-- what the answer to a row says of its verdict
module _ (v : Verdict) (y : List Cell) where
  pub row_given : {x : List Cell} → row_is x ≡ answer v (row_is y) → v.number ≡ 0
  unfolding answer
  row_given {x} e =
      cases (eqb v.number 0) (λ t. eqb-true _ _ t) (λ t. let z : row_is x ≡ refused v.number v.place = rw t at e in cc)

  pub row_refused : {n p : ℕ} → refused n p ≡ answer v (row_is y) → (n ≡ v.number) × (v.number ≡ 0 → ⊥)
  unfolding answer
  row_refused {n} {p} e =
      cases (eqb v.number 0)
      (λ t. let z : refused n p ≡ row_is y = rw t at e in cc)
      (λ t. let z : refused n p ≡ refused v.number v.place = rw t at e in (cc, eqb-false _ _ t))
