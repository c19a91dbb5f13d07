-- `write_periods` meets its contract. The invariant: both lists are filled, and both sides summed, up to the period reached.
use Rattle.std.proofs.Common.{◌+◌, sym, ap₂, ◌∙◌, cond, arith, eqb, pos, ◌-ℤ◌}
use Rattle.ledger.proofs.Lists.{filling_zero, fill}
use Rattle.entries.proofs.SumLaws.{none_yet, one_more}
use Rattle.net.proofs.SideLaws.{as_figure}
use Rattle.net.proofs.periods.write_periods.Goals as goal

pub loop-k-init : goal.loop-k-init
loop-k-init c = (sym (filling_zero _ _), sym (filling_zero _ _), none_yet _ _, none_yet _ _)

pub loop-k-preserved : goal.loop-k-preserved
loop-k-preserved c =
    let loop = c.loop-k in
    let pre = c.requires in
    let taken = c.loop-k-test.true in
    let plus = c.side_sum-plus.ensures in
    let minus = c.side_sum-minus.ensures in (
      c.put_net.ensures
          ∙ fill _ _ loop.numbers loop.k _ loop.invariant.0 (omega (arith, taken, pre.3)) (ap₂ (λ x y. pos x -ℤ pos y) plus.values.is minus.values.is),
      c.put_mark.ensures
          ∙ fill _ _ loop.marks loop.k _ loop.invariant.1 (omega (arith, taken, pre.4)) (ap₂ (λ x y. cond (eqb (x + y) 0) 0 1) plus.blank.is minus.blank.is),
      one_more loop.invariant.2 (as_figure plus.values pre.1.few),
      one_more loop.invariant.3 (as_figure minus.values pre.2.few),
    )
