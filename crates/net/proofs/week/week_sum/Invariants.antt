use Rattle.std.proofs.Common.{take}
use Rattle.net.specs.Walk.{SummedOver, week_tot}
use Rattle.net.proofs.week.week_sum.Given as goal

abbrev pub invariant-loop-category : goal.invariant-loop-category
invariant-loop-category l = SummedOver (take l.category-index l.members) 281474976710655 (week_tot l.days l.dates l.date) l.sum
