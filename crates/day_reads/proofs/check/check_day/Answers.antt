-- `check::check_day` meets its contract: the day's mark is in the part.
use Rattle.store.proofs.DayLaws.{mark_there}
use Rattle.day_reads.proofs.Laws.{fits}
use Rattle.day_reads.proofs.check.check_day.Goals as goal

pub is_run_day-requires : goal.is_run_day-requires
is_run_day-requires c =
    let days = c.in_ok-days.days in
    mark_there
    (fits _ _ _ _ days.settings.ready days.long (rw (← c.date_count-dates.ensures) c.if-dates-date.false, rw (← c.category_count.ensures) c.if-category_count-category.false)
    c.date_count-dates.ensures)
