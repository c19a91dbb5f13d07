use Rattle.std.proofs.Common.{get_or}
use Rattle.ledger.specs.Store.{cell_of_entry}
use Rattle.entries.specs.Sums.{Summed}
use Rattle.days.proofs.row.value_sum.Given as goal

abbrev pub invariant-loop-entry : goal.invariant-loop-entry
invariant-loop-entry l = Summed l.entry-index 4294967295 (λ k. (cell_of_entry (get_or l.row k 0)).value) l.sum
