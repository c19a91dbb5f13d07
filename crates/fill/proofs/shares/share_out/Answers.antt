-- What is divided and handed out are the filled values.
use Rattle.std.proofs.Common.{◌≤◌, arith}
use Rattle.metering.specs.Sum.{sum_below}
use Rattle.fill.specs.Sharing.{weight_in}
use Rattle.fill.proofs.SharingLaws.{may_search, may_hand_out, shared_out}
use Rattle.fill.proofs.shares.share_out.Goals as goal
use Rattle.fill.proofs.shares.share_out.Goals.{After-divide-left}

some : (c : After-divide-left) → let a = c.args in
    1 ≤ sum_below a.column.periods (weight_in a.column a.cells.now a.date a.missing.now)
some c = omega (arith, c.requires.0.some, c.requires.0.summed)

pub threshold-limit-requires : goal.threshold-limit-requires
threshold-limit-requires c =
    let shares = c.requires.0 in
    may_search _ _ _ _ _ c.divide-left.ensures (some (goal.at.threshold-limit-requires c).After-divide-left) _ shares.reaches.periods.1 shares.summed shares.low

pub hand_out-requires : goal.hand_out-requires
hand_out-requires c =
    let pre = c.requires in
    may_hand_out _ _ _ _ _ c.divide-left.ensures (some (goal.at.hand_out-requires c).After-divide-left) _ pre.0.small pre.1

pub returns : goal.returns
returns c =
    shared_out _ _ _ _ _ c.divide-left.ensures _ _ _ _ _ c.threshold-limit.ensures c.reaching-above.ensures.is c.hand_out.ensures
