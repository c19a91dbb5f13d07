-- `jihoweka_receive` meets its contract: a list that is too short, or the call and its answer as numbers.
use Rattle.reception.specs.Reception.{reception_call}
use Rattle.jihoweka.proofs.Fit.{reception_fits}
use Rattle.jihoweka.proofs.jihoweka_receive.Goals as goal

pub numbers_of-requires : goal.numbers_of-requires
numbers_of-requires c =
    let a = c.args in
    rw c.receive-outcome.ensures.answered (reception_fits a.settings.now a.meters.now a.readings.now (reception_call a.sender a.mpan a.date a.duration a.quantity a.body.now) c.well_formed.1.1.1.1.1.1.1.1.0.0)
