-- `jihoweka_read_coverage` meets its contract: a list that is too short, or the call and its answer as numbers.
use Rattle.jihoweka.proofs.Fit.{coverage_fits}
use Rattle.jihoweka.proofs.jihoweka_read_coverage.Goals as goal

pub numbers_of-requires : goal.numbers_of-requires
numbers_of-requires c =
    let a = c.args in
    rw c.read_coverage-outcome.ensures (coverage_fits a.settings.now a.days.now a.date a.category)
