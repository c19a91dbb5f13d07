-- What a check of many things says of each.
use Rattle.std.specs.Prelude.{ℕ, ◌<◌, ◌≡◌, Result}
use Rattle.store.specs.declared.refusal.Check.{Check}
use Rattle.store.specs.Outcome.{failed_number}

-- whatever the check of thing i may give, below count, has thing i's number
abbrev pub Numbers : (ℕ → Result Unit Check → Type 0) → ℕ → (ℕ → ℕ) → Type 0
Numbers may_give count number = (i : ℕ) (r : Result Unit Check) → i < count → may_give i r → failed_number r ≡ number i
