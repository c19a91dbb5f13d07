use Rattle.std.proofs.Common.{cond, leb}
use Rattle.entries.specs.Sums.{Summed}
use Rattle.fill.specs.Sharing.{remainder_in}
use Rattle.fill.proofs.threshold.reaching.Given as goal

abbrev pub invariant-loop-part : goal.invariant-loop-part
invariant-loop-part l = Summed l.part-index 1 (λ i. cond (leb l.least (remainder_in l.parts i)) 1 0) l.count
