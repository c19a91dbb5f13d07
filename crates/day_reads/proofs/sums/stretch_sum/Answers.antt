-- `sums::stretch_sum` meets its contract: the part lent is the stretch.
use Rattle.std.proofs.Common.{◌+◌, ◌-◌, arith}
use Rattle.day_reads.proofs.Laws.{stretch_is}
use Rattle.day_reads.proofs.sums.stretch_sum.Goals as goal

pub returns : goal.returns
returns c =
    stretch_is c.args.days.now c.args.first c.args.count (c.args.first + c.args.count - c.args.first) _ c.requires (omega arith) c.sum_all.ensures
