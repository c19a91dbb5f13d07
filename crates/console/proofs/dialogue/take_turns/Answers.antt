-- `take_turns` meets its contract: turn by turn, up to an end or to the last of the turns.
use Rattle.std.proofs.Common.{[], ◌∷◌, ◌++◌, arith, length-append}
use Rattle.session.proofs.Laws.{same_lent_then, same_setup}
use Rattle.console.proofs.Turning.{turns_more}
use Rattle.console.proofs.dialogue.take_turns.Goals as goal

pub turns-preserved : goal.turns-preserved
turns-preserved c =
    let so_far = c.turns.invariant in
    let same = so_far.same_lent in
    let next = c.turn-session.ensures in
    record {
      bounds = rw c.turns.auto.input at next.block_bounds_2.0;
      held = rw (c.turns.auto.output, same.category_room, same.day_type_room) at next.held_2;
      same_lent = same_lent_then same next.same_lent;
      turned = (
        so_far.turned.0 ++ (_ ∷ []),
        turns_more _ _ so_far.turned.0 _ _ so_far.turned.1 (rw (same_setup same) at next.turned),
        rw (length-append so_far.turned.0 (_ ∷ [])) (omega (arith, so_far.turned.2, next.block_bounds_2.1)),
      );
    }
