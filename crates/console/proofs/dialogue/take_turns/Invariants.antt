use Rattle.std.proofs.Common.{◌+◌, ◌≡◌, List, length}
use Rattle.session.specs.Session.{HeldIn, BlockBounds, SameLent, setup_in, parts_in}
use Rattle.console.specs.Turn.{Dialogue, dialogue_in, begun, Turns, most_turns}
use Rattle.console.proofs.dialogue.take_turns.Given as goal

abbrev pub invariant-turns : goal.invariant-turns
invariant-turns l =
    record {
      bounds : BlockBounds l.session (length l.initial.input);
      held : HeldIn l.session (length l.initial.output) l.initial.lent;
      same_lent : SameLent l.initial.lent l.lent;
      turned : (ds : List Dialogue) × Turns (setup_in l.initial.lent) (begun (parts_in l.initial.lent)) ds (dialogue_in l.session l.input l.output l.lent) ×
          (length ds + l.session.turns ≡ most_turns);
    }

abbrev pub decreases-turns : goal.decreases-turns
decreases-turns l = l.session.turns
