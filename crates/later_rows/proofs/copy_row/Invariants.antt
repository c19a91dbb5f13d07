use Rattle.std.proofs.Common.{◌≡◌, get_or}
use Rattle.ledger.specs.Table.{filling}
use Rattle.later_rows.proofs.copy_row.Given as goal

abbrev pub invariant-loop-k : goal.invariant-loop-k
invariant-loop-k l = l.copy ≡ filling l.k (λ j. get_or l.row j 0) l.initial.copy
