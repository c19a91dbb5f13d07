-- A refusal by the check that failed first, and acceptance where none did, against a verdict.
use Rattle.std.proofs.Common.{◌≡◌, refl, arith}
use Rattle.std.specs.Prelude.{Result, IsErrAnd}
use Rattle.std.proofs.lemmas.Result.{err_from_is_err_and}
use Rattle.ledger.specs.Checks.{Verdict}
use Rattle.ledger.specs.Ledger.{Answer, answer, refused, left}
use Rattle.ledger.proofs.Verdicts.{refused_is, kept_is, given_is, after_is}
use Rattle.store.specs.declared.refusal.Check.{Check}
use Rattle.store.specs.declared.refusal.Check.TheVariants.{Unready, NoCategory, Sizes, CategoryRecord, DayType, Mpan, NotRegistered, NoSlot, Date, StartNotLater, SetHeld, NinthRegistration, Record, NotRun, Range, Fields, NoShape, DraftShort, Window, NoPartner, Sender, Quantity, Duration, EndMinute, SecondRecord, DeEnergised, Disconnected, ZeroEstimate, AboveLimit}
use Rattle.store.specs.declared.refusal.Refusal.{Refusal}
use Rattle.store.specs.Outcome.{number_of, answered}

-- no check has number 0
pub number_some : (check : Check) → number_of check ≡ 0 → ⊥
number_some Unready h = omega arith
number_some NoCategory h = omega arith
number_some Sizes h = omega arith
number_some CategoryRecord h = omega arith
number_some DayType h = omega arith
number_some Mpan h = omega arith
number_some NotRegistered h = omega arith
number_some NoSlot h = omega arith
number_some Date h = omega arith
number_some StartNotLater h = omega arith
number_some SetHeld h = omega arith
number_some NinthRegistration h = omega arith
number_some Record h = omega arith
number_some NotRun h = omega arith
number_some Range h = omega arith
number_some Fields h = omega arith
number_some NoShape h = omega arith
number_some DraftShort h = omega arith
number_some Window h = omega arith
number_some NoPartner h = omega arith
number_some Sender h = omega arith
number_some Quantity h = omega arith
number_some Duration h = omega arith
number_some EndMinute h = omega arith
number_some SecondRecord h = omega arith
number_some DeEnergised h = omega arith
number_some Disconnected h = omega arith
number_some ZeroEstimate h = omega arith
number_some AboveLimit h = omega arith

-- what a `?` answers where a check failed
pub refused_by : {A : Type 0} (given : A → Answer) (r : Result A Refusal) (check : Check) → IsErrAnd r (λ refusal. (refusal.check ≡ check) × (refusal.place ≡ 0)) →
    answered given r ≡ refused (number_of check) 0
refused_by given r check is = let p = err_from_is_err_and r is in rw (p.1, p.2.0, p.2.1)

-- what is answered and left where a check failed that has no place
module _ (v : Verdict) (check : Check) (is : number_of check ≡ v.number) where
  pub refused_at : (given : Answer) → v.place ≡ 0 → refused (number_of check) 0 ≡ answer v given
  refused_at given place = refused_is v (number_of check) is given place (number_some check)

  pub kept_at : {A : Type 0} (before after : A) → before ≡ left v before after
  kept_at before after = kept_is v (number_of check) is before after (number_some check)

-- and where all passed
module _ (v : Verdict) (is : 0 ≡ v.number) where
  pub given_at : (given : Answer) → given ≡ answer v given
  given_at given = given_is v 0 is given refl

  pub after_at : {A : Type 0} (before after : A) → after ≡ left v before after
  after_at before after = after_is v 0 is before after refl
