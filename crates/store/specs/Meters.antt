-- A registration as the ledger's, what a search found as the ledger has it, also by its place among a slot's eight, and what a search
-- for the latest goes by.
use Rattle.std.specs.Prelude.{ℕ, List, Option, Some, None}
use Rattle.std.proofs.Math.Option as math
use Rattle.ledger.specs.Checks as checks
use Rattle.ledger.specs.Store.{registration_at}
use Rattle.store.specs.declared.meters.Registration.{Registration}
use Rattle.store.specs.declared.meters.Key.{Key}
use Rattle.store.specs.declared.meters.Key.TheVariants.{Start, Moment}

abbrev pub registration_meant : Registration → checks.Registration
registration_meant r =
    record { moment = r.moment; category = r.category; sender = r.sender; status = r.status; limit = r.limit }

abbrev pub found_meant : Option Registration → math.Option checks.Registration
found_meant None = math.none
found_meant (Some r) = math.some (registration_meant r)

abbrev pub placed : ℕ → List ℕ → ℕ → Option ℕ → math.Option checks.Registration
placed M meters i None = math.none
placed M meters i (Some k) = math.some (registration_at M meters i k)

-- the start, or date and minute
abbrev pub key_by : Key → checks.Registration → ℕ
key_by Start = checks.starts
key_by Moment = λ r. r.moment
