use Rattle.band.specs.Search.{is_sought}
use Rattle.band.proofs.Laws.{Listing}
use Rattle.band.proofs.dates.list_dates.Given as goal

abbrev pub invariant-loop-date : goal.invariant-loop-date
invariant-loop-date l = Listing l.initial.dates (is_sought l.days.settings.bytes.now l.days.entries.now l.category l.sought) l.date l.found l.dates
