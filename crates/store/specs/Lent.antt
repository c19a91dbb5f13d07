-- What a call is lent, handed out unless a part is unready, and then refused as unready.
use Rattle.std.specs.Prelude.{◌≡◌, Bool, true, false, Result, MatchResult}
use Rattle.store.specs.declared.refusal.Check.{Check}
use Rattle.store.specs.declared.refusal.Check.TheVariants.{Unready}

abbrev pub LentUnless : {A : Type 0} → Bool → (A → Type 0) → Result A Check → Type 0
LentUnless unready Is r = MatchResult r (λ x. Is x × (unready ≡ false)) (λ check. (check ≡ Unready) × (unready ≡ true))
