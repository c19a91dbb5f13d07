-- `jihoweka_search_band` meets its contract: a list that is too short, or the call and its answer as numbers.
use Rattle.band.specs.Search.{band_call}
use Rattle.jihoweka.proofs.Fit.{band_fits, band_alone_fits}
use Rattle.jihoweka.proofs.jihoweka_search_band.Goals as goal

pub numbers_of-requires : goal.numbers_of-requires
numbers_of-requires c =
    let a = c.args in
    band_alone_fits c.search_band-outcome.result c.search_band-outcome.new.dates c.search_band-outcome.ensures.answers (band_fits a.settings.now a.days.now (band_call a.category a.day_type a.least a.most a.dates.now))
