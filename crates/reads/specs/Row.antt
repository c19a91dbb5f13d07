-- The arguments of a row as the ledger's record; the draft is lent as it is.
use Rattle.std.specs.Prelude.{ℕ, List, length}
use Rattle.ledger.specs.Checks.{RowCall}

abbrev pub row_call : ℕ → ℕ → ℕ → List ℕ → RowCall
row_call date category switch draft = record { date = date; category = category; switch = switch; lent = length draft }
