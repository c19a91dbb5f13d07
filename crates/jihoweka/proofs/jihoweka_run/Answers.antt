-- `jihoweka_run` meets its contract: a list that is too short, or the call and its answer as numbers.
use Rattle.jihoweka.proofs.Fit.{run_fits}
use Rattle.jihoweka.proofs.jihoweka_run.Goals as goal

pub numbers_of-requires : goal.numbers_of-requires
numbers_of-requires c =
    let a = c.args in
    rw c.run-outcome.ensures.result_value (run_fits a.settings.now a.meters.now a.readings.now a.cells.now a.days.now a.date)
