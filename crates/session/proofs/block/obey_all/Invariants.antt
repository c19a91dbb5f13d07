use Rattle.std.proofs.Common.{◌+◌, ◌-◌, cond, length, take}
use Rattle.session.specs.Session.{HeldIn, BlockBounds, SameInput, SameLent, is_going, setup_in, state_in, untaken, Obeyed}
use Rattle.session.proofs.block.obey_all.Given as goal

abbrev pub invariant-commands : goal.invariant-commands
invariant-commands l =
    record {
      held : HeldIn l.next (length l.initial.output) l.initial.lent;
      bounds : BlockBounds l.next (length l.input);
      same_input : SameInput l.initial.next l.next;
      same_lent : SameLent l.initial.lent l.lent;
      obeyed : Obeyed (setup_in l.initial.lent) (state_in l.initial.next l.initial.lent) (untaken l.initial.next l.input) (take l.initial.next.waiting l.initial.output)
          (state_in l.next l.lent) (untaken l.next l.input) (take l.next.waiting l.output) (length l.initial.output) l.next.stage;
    }

abbrev pub decreases-commands : goal.decreases-commands
decreases-commands l = l.next.end - l.next.at + cond (is_going l.next.stage) 1 0
