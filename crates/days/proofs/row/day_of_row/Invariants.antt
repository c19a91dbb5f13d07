use Rattle.std.proofs.Common.{get_or}
use Rattle.ledger.specs.Store.{cell_of_entry}
use Rattle.days.proofs.Laws.{CountedTo}
use Rattle.days.proofs.row.day_of_row.Given as goal

abbrev pub invariant-loop-entry : goal.invariant-loop-entry
invariant-loop-entry l = CountedTo (λ k. cell_of_entry (get_or l.row k 0)) l.entry-index l.fresh l.blanks l.oldest
