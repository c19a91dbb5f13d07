-- A registration's arguments as the ledger takes them.
use Rattle.std.specs.Prelude.{ℕ}
use Rattle.ledger.specs.Checks.{RegistrationCall}

abbrev pub registration_call : ℕ → ℕ → ℕ → ℕ → ℕ → ℕ → ℕ → RegistrationCall
registration_call mpan date minute category sender status limit =
    record { mpan = mpan; date = date; minute = minute; category = category; sender = sender; status = status; limit = limit }
