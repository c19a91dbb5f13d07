-- What a net read is asked, as the ledger's call.
use Rattle.std.specs.Prelude.{ℕ, Bool, List, ℤ, length}
use Rattle.ledger.specs.Checks.{NetCall}

abbrev pub net_call : Bool → ℕ → ℕ → List ℤ → List ℕ → NetCall
net_call all_groups date category numbers marks =
    record { all_groups = all_groups; date = date; category = category; numbers = length numbers; marks = length marks }
