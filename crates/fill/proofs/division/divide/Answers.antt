-- The periods passed have their parts, and the whole parts are taken off the advance.
use Rattle.std.proofs.Common.{◌≡◌, ◌<◌, sym, arith}
use Rattle.ledger.proofs.Lists.{filling_zero, fill}
use Rattle.ledger.specs.Fill.{left_over}
use Rattle.fill.specs.Sharing.{weight_in}
use Rattle.fill.proofs.SharingLaws.{weighed, none_taken, next_part, part_within, next_taken, all_parts}
use Rattle.fill.proofs.division.divide.Goals as goal
use Rattle.fill.proofs.division.divide.Goals.{After-weight}

below : (c : After-weight) → c.loop-k.k < c.args.column.periods
below c = omega (arith, c.requires.long)

-- what the period counts for
counts : (c : After-weight) → let a = c.args in
    c.weight.result ≡ weight_in a.column a.cells.now a.date a.missing.now c.loop-k.k
counts c = let a = c.args in (weighed a.column a.cells.now a.missing.now a.date _ c.weight.ensures).is

pub loop-k-init : goal.loop-k-init
loop-k-init c = (sym (filling_zero _ _), none_taken _ _)

pub overflow_sub-left : goal.overflow_sub-left
overflow_sub-left c =
    let shares = c.requires.shares in
    part_within _ _ _ _ _ _ shares.summed (counts (goal.at.overflow_sub-left c).After-weight) shares.some (below (goal.at.overflow_sub-left c).After-weight) _ c.loop-k.invariant.1

pub loop-k-preserved : goal.loop-k-preserved
loop-k-preserved c =
    let pre = c.requires in
    let is = counts (goal.at.loop-k-preserved c).After-weight in (
      fill _ _ _ _ _ c.loop-k.invariant.0 c.loop-k-test.true (next_part _ _ _ _ _ _ pre.shares.summed is),
      next_taken _ _ _ _ _ _ pre.shares.summed is pre.shares.some (below (goal.at.loop-k-preserved c).After-weight) _ c.loop-k.invariant.1,
    )

pub returns : goal.returns
unfolding left_over
returns c =
    let long = c.requires.long in
    let k = c.loop-k.k in
    let end : k ≡ c.args.column.periods = omega arith in
    record {
      parts_are = all_parts _ _ _ _ _ c.loop-k.invariant.0 end (sym long);
      left_is = let taken = rw end at c.loop-k.invariant.1 in omega arith;
    }
