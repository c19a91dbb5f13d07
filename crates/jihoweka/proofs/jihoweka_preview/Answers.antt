-- `jihoweka_preview` meets its contract: a list that is too short, or the call and its answer as numbers.
use Rattle.jihoweka.proofs.Fit.{preview_fits}
use Rattle.jihoweka.proofs.jihoweka_preview.Goals as goal

pub numbers_of-requires : goal.numbers_of-requires
numbers_of-requires c =
    let a = c.args in
    rw c.preview-outcome.ensures.result_value (preview_fits a.settings.now a.meters.now a.readings.now a.cells.now a.days.now a.draft.now a.date)
