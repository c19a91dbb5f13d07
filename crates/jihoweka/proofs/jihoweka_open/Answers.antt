-- `jihoweka_open` meets its contract: a list that is too short, or the call and its answer as numbers.
use Rattle.jihoweka.proofs.Fit.{opening_fits}
use Rattle.jihoweka.proofs.jihoweka_open.Goals as goal

pub numbers_of-requires : goal.numbers_of-requires
numbers_of-requires c =
    let a = c.args in
    rw c.open-outcome.ensures.answered (opening_fits a.settings.now a.meters.now a.readings.now a.cells.now a.days.now (record { duration = a.duration; meters = a.meter_count; window_minutes = a.windows.now; category_bytes = a.category_records.now; day_types = a.day_types.now }))
