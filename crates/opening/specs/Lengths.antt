-- The lengths of the five parts as the ledger's, and whether one is below its least.
use Rattle.std.specs.Prelude.{Bool, ◌||◌, ltb}
use Rattle.ledger.specs.Ledger as ledger
use Rattle.opening.specs.declared.sizes.Lengths.{Lengths}

abbrev pub lengths_meant : Lengths → ledger.Lengths
lengths_meant n = record { settings = n.settings; meters = n.meters; readings = n.readings; cells = n.cells; days = n.days }

unfoldable pub any_below_least : ledger.Lengths → ledger.Lengths → Bool
any_below_least n least =
    ltb n.settings least.settings || ltb n.meters least.meters || ltb n.readings least.readings || ltb n.cells least.cells
    || ltb n.days least.days
