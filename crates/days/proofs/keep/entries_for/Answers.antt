-- `keep::entries_for` meets its contract: OFF is over the category's own window.
use Rattle.std.proofs.Common.{get_or, ◌∙◌}
use Rattle.ledger.proofs.Ready.{ready}
use Rattle.ledger.specs.Store.{cell_of_entry}
use Rattle.settings.specs.Window.{window_meant}
use Rattle.days.proofs.Laws.{entries_are}
use Rattle.days.proofs.keep.entries_for.Goals as goal
use Rattle.days.proofs.keep.entries_for.Goals.{After-periods_within}

pub periods_within-requires : goal.periods_within-requires
periods_within-requires c = rw c.duration.ensures (ready _ c.args.settings.ready).duration

pub returns : goal.returns
returns c =
    c.entries_of_row.ensures
    ∙ rw c.requires.1
    (entries_are c.args.settings.bytes.now c.args.category _ _ (window_meant c.window_of-own.result) c.periods_within.result (λ k. cell_of_entry (get_or c.args.cells.now k 0)) c.duration.ensures
    c.window.ensures
    c.window_of-own.ensures
    c.periods_within.ensures)
