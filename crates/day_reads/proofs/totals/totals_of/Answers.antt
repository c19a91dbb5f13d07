-- `totals::totals_of` meets its contract: entries and sums are looked up where the definition has them.
use Rattle.std.proofs.Common.{◌∙◌, arith}
use Rattle.store.proofs.DayLaws.{row_known, row_there, sum_there}
use Rattle.day_reads.proofs.Laws.{fits, totalled}
use Rattle.day_reads.proofs.totals.totals_of.Goals as goal

pub day_index-tot_at-requires : goal.day_index-tot_at-requires
day_index-tot_at-requires c = row_known (fits _ _ _ _ c.args.days.settings.ready c.args.days.long c.requires c.date_count-dates.ensures)

pub day_index-off_at-requires : goal.day_index-off_at-requires
day_index-off_at-requires c = row_known (fits _ _ _ _ c.args.days.settings.ready c.args.days.long c.requires c.date_count-dates.ensures)

pub day_index-requires : goal.day_index-requires
day_index-requires c = row_known (fits _ _ _ _ c.args.days.settings.ready c.args.days.long c.requires c.date_count-dates.ensures)

pub entry_at-requires : goal.entry_at-requires
entry_at-requires c = row_there (fits _ _ _ _ c.args.days.settings.ready c.args.days.long c.requires c.date_count-dates.ensures) _ (omega arith) c.day_index.ensures

pub entry_at-requires-2 : goal.entry_at-requires-2
entry_at-requires-2 c = row_there (fits _ _ _ _ c.args.days.settings.ready c.args.days.long c.requires c.date_count-dates.ensures) _ (omega arith) c.day_index-tot_at.ensures

pub entry_at-requires-3 : goal.entry_at-requires-3
entry_at-requires-3 c = row_there (fits _ _ _ _ c.args.days.settings.ready c.args.days.long c.requires c.date_count-dates.ensures) _ (omega arith) c.day_index-off_at.ensures

pub dates_sum-week-requires : goal.dates_sum-week-requires
dates_sum-week-requires c = sum_there (fits _ _ _ _ c.args.days.settings.ready c.args.days.long c.requires c.date_count-dates.ensures) _ (omega arith) c.day_index-tot_at.ensures

pub dates_sum-off_week-requires : goal.dates_sum-off_week-requires
dates_sum-off_week-requires c = sum_there (fits _ _ _ _ c.args.days.settings.ready c.args.days.long c.requires c.date_count-dates.ensures) _ (omega arith) c.day_index-off_at.ensures

pub dates_sum-year-requires : goal.dates_sum-year-requires
dates_sum-year-requires c = sum_there (fits _ _ _ _ c.args.days.settings.ready c.args.days.long c.requires c.date_count-dates.ensures) _ (omega arith) c.day_index-tot_at.ensures

pub returns : goal.returns
returns c =
    c.totals_from.ensures
    ∙ totalled c.args.days.settings.bytes.now c.args.days.entries.now c.args.date c.args.category _ _ _ _ _ _ _ _
    (record { day = c.entry_at.result; tot = c.entry_at-2.result; off = c.entry_at-3.result })
    c.date_count-dates.ensures c.window.ensures c.day_index.ensures c.day_index-tot_at.ensures c.day_index-off_at.ensures c.entry_at.ensures c.entry_at-2.ensures
    c.entry_at-3.ensures c.dates_sum-week.ensures c.dates_sum-off_week.ensures c.dates_sum-year.ensures
