-- `jihoweka_register` meets its contract: a list that is too short, or the call and its answer as numbers.
use Rattle.registration.specs.Registration.{registration_call}
use Rattle.jihoweka.proofs.Fit.{registration_fits}
use Rattle.jihoweka.proofs.jihoweka_register.Goals as goal

pub numbers_of-requires : goal.numbers_of-requires
numbers_of-requires c =
    let a = c.args in
    rw c.register-outcome.ensures.answered (registration_fits a.settings.now a.meters.now a.readings.now (registration_call a.mpan a.date a.minute a.category a.sender a.status a.limit))
