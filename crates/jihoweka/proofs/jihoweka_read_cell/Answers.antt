-- `jihoweka_read_cell` meets its contract: a list that is too short, or the call and its answer as numbers.
use Rattle.std.proofs.Common.{arith}
use Rattle.jihoweka.proofs.Fit.{cell_fits}
use Rattle.jihoweka.proofs.jihoweka_read_cell.Goals as goal

pub numbers_of-requires : goal.numbers_of-requires
numbers_of-requires c =
    let a = c.args in
    rw c.read_cell-outcome.ensures (cell_fits a.settings.now a.cells.now (λ i. omega (arith, c.shared_slice_known-2-1.given i)) a.date a.category a.period)
