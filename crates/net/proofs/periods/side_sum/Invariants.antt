use Rattle.std.proofs.Common.{take}
use Rattle.store.specs.Column.{beside, value_after, blank_after}
use Rattle.net.specs.Walk.{SummedOver}
use Rattle.net.proofs.periods.side_sum.Given as goal

abbrev pub invariant-loop-category : goal.invariant-loop-category
invariant-loop-category l =
    SummedOver (take l.category-index l.members) 4294967295 (λ c. value_after (beside l.column c) l.cells l.date l.k) l.value
    × SummedOver (take l.category-index l.members) 1 (λ c. blank_after (beside l.column c) l.cells l.date l.k) l.blanks
