-- What is counted so far is among the parts passed.
use Rattle.std.proofs.Common.{rules}
use Rattle.entries.proofs.SumLaws.{none_yet, one_more}
use Rattle.fill.proofs.threshold.reaching.Goals as goal

pub loop-part-init : goal.loop-part-init
loop-part-init c = none_yet _ _

pub loop-part-preserved : goal.loop-part-preserved
loop-part-preserved c = one_more c.loop-part.invariant (search (rules, c.from-count.ensures))
