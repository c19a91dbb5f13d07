-- `jihoweka_read_entry` meets its contract: a list that is too short, or the entry's cell as numbers.
use Rattle.std.proofs.Common.{arith}
use Rattle.jihoweka.proofs.Fit.{read_fits}
use Rattle.jihoweka.proofs.jihoweka_read_entry.Goals as goal

pub numbers-requires : goal.numbers-requires
numbers-requires c = read_fits _ _ c.cell_of_entry-cell.ensures (omega arith)
