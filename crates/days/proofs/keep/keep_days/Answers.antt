-- `keep::keep_days` meets its contract: a category's cells are its stretch of the row.
use Rattle.std.proofs.Common.{◌+◌, ◌-◌, arith}
use Rattle.store.proofs.DayLaws.{days_long, rows_fit}
use Rattle.days.proofs.Laws.{stretch_fits, kept_next}
use Rattle.days.proofs.keep.keep_days.Goals as goal

pub put_day-requires : goal.put_day-requires
put_day-requires c =
    let S = c.args.settings.bytes.now in
    rows_fit S _ _ _ c.args.settings.ready (rw c.loop-category.auto.days (days_long S c.args.days.now c.requires.0)) (omega arith) c.requires.1 c.date_count-dates.ensures

pub loop-category-preserved : goal.loop-category-preserved
loop-category-preserved c =
    let S = c.args.settings.bytes.now in
    let row = c.args.row.now in
    kept_next S _ _ c.category_start-at.result (c.category_start-at.result + c.period_count-periods.result - c.category_start-at.result) _ row _ _ _ (rw (← c.period_count-periods.ensures) c.category_start-at.ensures) (omega arith)
    (stretch_fits S row _ c.requires.2 (omega arith)) c.entries_for.ensures c.loop-category.invariant (rw (← c.date_count-dates.ensures) c.put_day.ensures)
