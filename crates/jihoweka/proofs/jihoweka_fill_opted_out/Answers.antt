-- `jihoweka_fill_opted_out` meets its contract: a list that is too short, or the call and its answer as numbers.
use Rattle.ledger.specs.Fill.{of_opted_out}
use Rattle.ledger.specs.Store.{periods_of}
use Rattle.fill.specs.Asked.{fill_call}
use Rattle.jihoweka.proofs.Fit.{fill_fits, no_values}
use Rattle.jihoweka.proofs.jihoweka_fill_opted_out.Goals as goal

pub numbers_of-requires : goal.numbers_of-requires
numbers_of-requires c =
    let a = c.args in
    no_values c.fill_opted_out-outcome.result (periods_of a.settings.now) c.fill_opted_out-outcome.new.filled c.fill_opted_out-outcome.ensures.answers (fill_fits a.settings.now a.cells.now (fill_call (of_opted_out a.group a.quantity a.connection) a.date a.advance a.missing.now a.filled.now))
