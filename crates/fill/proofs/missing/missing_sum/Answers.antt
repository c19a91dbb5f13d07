-- What is summed so far is over the periods passed.
use Rattle.entries.proofs.SumLaws.{none_yet, one_more}
use Rattle.fill.proofs.SharingLaws.{weighed}
use Rattle.fill.proofs.missing.missing_sum.Goals as goal

pub loop-k-init : goal.loop-k-init
loop-k-init c = none_yet _ _

pub loop-k-preserved : goal.loop-k-preserved
loop-k-preserved c = let a = c.args in one_more c.loop-k.invariant (weighed a.column a.cells.now a.missing.now a.date _ c.weight-sum.ensures)
