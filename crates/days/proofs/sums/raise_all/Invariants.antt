use Rattle.std.proofs.Common.{◌≡◌, get_or}
use Rattle.ledger.specs.Table.{filling}
use Rattle.ledger.specs.Calls.{wrapping_sum}
use Rattle.days.proofs.sums.raise_all.Given as goal

abbrev pub invariant-loop-sum : goal.invariant-loop-sum
invariant-loop-sum l = l.sums ≡ filling l.sum-index (λ j. wrapping_sum (get_or l.initial.sums j 0) l.by) l.initial.sums
