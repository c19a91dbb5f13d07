-- `coverage_on` meets its contract: both entries are looked up where the definition has them.
use Rattle.std.proofs.Common.{◌∙◌, arith}
use Rattle.store.proofs.DayLaws.{row_known, row_there}
use Rattle.day_reads.proofs.Laws.{fits, covered}
use Rattle.day_reads.proofs.coverage_on.Goals as goal

pub day_index-requires : goal.day_index-requires
day_index-requires c = row_known (fits _ _ _ _ c.args.days.settings.ready c.args.days.long c.requires c.date_count-dates.ensures)

pub entry_at-day-requires : goal.entry_at-day-requires
entry_at-day-requires c =
    row_there (fits _ _ _ _ c.args.days.settings.ready c.args.days.long c.requires c.date_count-dates.ensures) _ (omega arith) c.day_index.ensures

pub day_index-requires-2 : goal.day_index-requires-2
day_index-requires-2 c = row_known (fits _ _ _ _ c.args.days.settings.ready c.args.days.long c.requires c.date_count-dates.ensures)

pub entry_at-sum-requires : goal.entry_at-sum-requires
entry_at-sum-requires c =
    row_there (fits _ _ _ _ c.args.days.settings.ready c.args.days.long c.requires c.date_count-dates.ensures) _ (omega arith) c.day_index-2.ensures

pub returns : goal.returns
returns c =
    c.coverage_of.ensures ∙ covered _ _ _ _ _ _ _ _ _ c.date_count-dates.ensures c.day_index.ensures c.entry_at-day.ensures c.day_index-2.ensures c.entry_at-sum.ensures
