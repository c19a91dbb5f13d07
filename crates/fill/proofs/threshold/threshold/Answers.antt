-- `threshold` meets its contract. The invariant is `Between`.
use Rattle.std.proofs.Common.{refl}
use Rattle.fill.proofs.SharingLaws.{all_between, exactly_left}
use Rattle.fill.proofs.threshold.threshold.Goals as goal

pub loop-low-init : goal.loop-low-init
loop-low-init c = all_between _ _ _ _ c.requires.none_above c.requires.enough

pub returns-then-above-left : goal.returns-then-above-left
returns-then-above-left c = exactly_left c.loop-low.invariant c.loop-low-test.true refl c.reaching-above.ensures.is c.if-above-left.true
