-- `net_of` meets its contract: what is written and summed is the net.
use Rattle.std.proofs.Common.{arith}
use Rattle.metering.proofs.SignedLaws.{difference_back}
use Rattle.net.proofs.NetLaws.{day_small, week_small, net_written}
use Rattle.net.proofs.net_of.Goals as goal

-- each side's sum of the date, and of the week, is far below 2 ^ 63
pub returns : goal.returns
returns c =
    let a = c.args in
    let pre = c.requires in
    let day = c.write_periods-day.ensures in
    let sums = c.write_periods-day.result in
    let periods = pre.reaches.periods.1 in
    net_written a.cells.now a.column a.date _ _ _ _ day c.week_sum-import_week.ensures.is c.week_sum-export_week.ensures.is
    (difference_back _ sums.import sums.export c.difference-tot.ensures (omega (arith, day_small day.imported periods)) (omega (arith, day_small day.exported periods)))
    (difference_back _ c.week_sum-import_week.result c.week_sum-export_week.result c.difference-tot7.ensures (omega (arith, week_small c.week_sum-import_week.ensures pre.imported.few)) (omega (arith, week_small c.week_sum-export_week.ensures pre.exported.few)))
