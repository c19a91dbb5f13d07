use Rattle.std.proofs.Common.{◌≡◌, get_or}
use Rattle.ledger.specs.Calls.{differing, compared_entry}
use Rattle.run_rows.specs.Shape.{shape_at}
use Rattle.ledger.specs.Table.{filling}
use Rattle.run_rows.proofs.shape.shape_row.Given as goal

abbrev pub invariant-loop-p : goal.invariant-loop-p
invariant-loop-p l =
    (l.row ≡ filling l.p (shape_at l.smart l.de_minimis l.date l.sums l.counts l.inherited l.at l.family_sums l.family_counts) l.initial.row)
    × (l.moved ≡ differing l.p (λ q. compared_entry (get_or l.initial.row q 0)) (shape_at l.smart l.de_minimis l.date l.sums l.counts l.inherited l.at l.family_sums l.family_counts))
