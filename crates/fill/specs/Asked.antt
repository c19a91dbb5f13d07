-- What a fill is asked, as the ledger's call.
use Rattle.std.specs.Prelude.{ℕ, List, length}
use Rattle.ledger.specs.Fill.{ShapeOf, FillCall}

abbrev pub fill_call : ShapeOf → ℕ → ℕ → List ℕ → List ℕ → FillCall
fill_call shape date advance marks filled = record { shape = shape; date = date; advance = advance; marks = marks; room = length filled }
