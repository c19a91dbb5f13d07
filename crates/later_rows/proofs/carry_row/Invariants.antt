use Rattle.std.proofs.Common.{◌≡◌, get_or}
use Rattle.ledger.specs.Calls.{carried_entry}
use Rattle.ledger.specs.Table.{filling}
use Rattle.later_rows.proofs.carry_row.Given as goal

abbrev pub invariant-loop-k : goal.invariant-loop-k
invariant-loop-k l = l.inherited ≡ filling l.k (λ j. carried_entry (get_or l.row j 0)) l.initial.inherited
