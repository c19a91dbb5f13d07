-- `obey_all` meets its contract: the program's progress so far, command by command.
use Rattle.std.proofs.Common.{sym, ◌∙◌, arith}
use Rattle.session.proofs.Laws.{going_only, obeyed_then, same_lent_then, same_setup}
use Rattle.session.proofs.block.obey_all.Goals as goal

pub commands-preserved : goal.commands-preserved
commands-preserved c =
    let so_far = c.commands.invariant in
    let same = so_far.same_lent in
    let next = c.obey_next-next.ensures in
    let moved = next.same_input.0 in
    record {
      held = rw (c.commands.auto.output, same.category_room, same.day_type_room) at next.held_2;
      bounds = next.same_input.1;
      same_input = (omega (arith, so_far.same_input, moved), moved.1 ∙ so_far.same_input.1, moved.2 ∙ so_far.same_input.2);
      same_lent = same_lent_then same next.same_lent;
      obeyed = obeyed_then _ (going_only _ (sym c.commands-test.ensures)) so_far.obeyed (rw (c.commands.auto.output, same_setup same) at next.obeyed);
    }
