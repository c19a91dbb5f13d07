-- `row::value_sum` meets its contract: the values so far are summed, 96 of 32 bits at most.
use Rattle.entries.proofs.SumLaws.{none_yet, one_more}
use Rattle.days.proofs.row.value_sum.Goals as goal

pub loop-entry-init : goal.loop-entry-init
loop-entry-init c = none_yet _ _

pub loop-entry-preserved : goal.loop-entry-preserved
loop-entry-preserved c = one_more c.loop-entry.invariant c.value_in-sum.ensures
