-- `later_dates::walk::walk` meets its contract: what is left of the walk gives what the whole gives.
use Rattle.std.proofs.Common.{◌∙◌, arith}
use Rattle.ledger.proofs.Ready.{ready}
use Rattle.later_dates.proofs.Laws.{walk_end, walk_pass, walk_stop, walk_on, walk_room}
use Rattle.later_dates.proofs.walk.walk.Goals as goal

pub loop-d-preserved-then-not-is_predecessor : goal.loop-d-preserved-then-not-is_predecessor
loop-d-preserved-then-not-is_predecessor g c =
    let l = c.loop-d in (
      l.invariant.0,
      l.invariant.1,
      walk_pass _ _ _ _ _ _ _ _ _ _ _ l.invariant.2 (omega arith) c.cells.ensures c.is_predecessor.ensures c.if-not-is_predecessor.true,
    )

pub returns-then-more-eq0-clause-value : goal.returns-then-more-eq0-clause-value
returns-then-more-eq0-clause-value g c =
    walk_stop _ _ _ _ _ _ _ _ _ _ _ c.loop-d.invariant.2 (omega arith) c.cells.ensures c.is_predecessor.ensures c.if-not-is_predecessor.false c.follow-more.ensures.followed (omega arith)

pub overflow_add-total : goal.overflow_add-total
overflow_add-total g c =
    omega (arith, walk_room _ _ _ _ _ _ _ _ _ _ _ c.loop-d.invariant.2 (omega arith) c.cells.ensures c.is_predecessor.ensures c.if-not-is_predecessor.false c.follow-more.ensures.followed (ready _ c.args.settings.ready))

pub loop-d-preserved : goal.loop-d-preserved
loop-d-preserved g c = (
  c.follow-more.ensures.still_fit,
  c.follow-more.ensures.same_parts ∙ c.loop-d.invariant.1,
  walk_on _ _ _ _ _ _ _ _ _ _ _ c.loop-d.invariant.2 (omega arith) c.cells.ensures c.is_predecessor.ensures c.if-not-is_predecessor.false c.follow-more.ensures.followed (ready _ c.args.settings.ready) c.if-more-eq0.false,
)

pub returns-clause-value : goal.returns-clause-value
returns-clause-value g c = walk_end _ _ _ _ _ _ _ _ _ _ _ c.loop-d.invariant.2 (omega arith)
