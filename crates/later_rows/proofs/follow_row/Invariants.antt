use Rattle.std.proofs.Common.{◌≡◌, get_or}
use Rattle.ledger.specs.Calls.{differing, followed_entry, inherited_beyond}
use Rattle.ledger.specs.Table.{filling}
use Rattle.later_rows.proofs.follow_row.Given as goal

abbrev pub invariant-loop-k : goal.invariant-loop-k
invariant-loop-k l =
    (l.row ≡ filling l.k (λ j. followed_entry (get_or l.initial.row j 0) (get_or l.initial.inherited j 0)) l.initial.row)
    × (l.inherited ≡ filling l.k (λ j. inherited_beyond (get_or l.initial.row j 0) (get_or l.initial.inherited j 0)) l.initial.inherited)
    × (l.moved ≡ differing l.k (λ j. get_or l.initial.row j 0) (λ j. followed_entry (get_or l.initial.row j 0) (get_or l.initial.inherited j 0)))
