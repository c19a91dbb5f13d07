-- `sums::raise_all` meets its contract: the first sums are raised.
use Rattle.std.proofs.Common.{◌+◌, ◌%◌, sym, refl, ap, arith}
use Rattle.ledger.specs.Calls.{wrapping_sum}
use Rattle.ledger.proofs.Lists.{filling_zero, fill}
use Rattle.entries.proofs.RowLaws.{unfilled, filled_whole}
use Rattle.days.proofs.sums.raise_all.Goals as goal

pub loop-sum-init : goal.loop-sum-init
loop-sum-init c = sym (filling_zero _ _)

pub loop-sum-preserved : goal.loop-sum-preserved
unfolding wrapping_sum
loop-sum-preserved c =
    let l = c.loop-sum in
    fill _ _ l.sums l.sum-index _ l.invariant (omega arith) (ap (λ x. (x + c.args.by) % 18446744073709551616) (unfilled _ _ l.sums l.sum-index l.invariant (omega arith)))

pub returns : goal.returns
returns c = filled_whole _ _ c.loop-sum.sums c.loop-sum.sum-index _ c.loop-sum.invariant (omega arith) refl
