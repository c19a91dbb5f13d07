use Rattle.std.proofs.Common.{◌-◌, length}
use Rattle.fill.proofs.SharingLaws.{Between}
use Rattle.fill.specs.Sharing.{remainder_in}
use Rattle.fill.proofs.threshold.threshold.Given as goal

abbrev pub invariant-loop-low : goal.invariant-loop-low
invariant-loop-low l = Between (length l.parts) (remainder_in l.parts) l.left l.most l.low l.high

abbrev pub decreases-loop-low : goal.decreases-loop-low
decreases-loop-low l = l.high - l.low
