use Rattle.std.proofs.Common.{◌*◌, ◌≡◌, get_or}
use Rattle.ledger.specs.Store.{periods_of}
use Rattle.ledger.specs.Calls.{compared_entry, differing}
use Rattle.ledger.specs.Table.{filling}
use Rattle.run_date.specs.Sums.{row_from}
use Rattle.run_date.proofs.write.write_row.Given as goal

abbrev pub invariant-loop-category : goal.invariant-loop-category
invariant-loop-category l =
    (l.row ≡ filling (l.category * periods_of l.settings.bytes.now) (row_from l.settings.bytes.now l.sums l.counts l.inherited l.date) l.initial.row)
    × (l.moved ≡ differing (l.category * periods_of l.settings.bytes.now) (λ k. compared_entry (get_or l.initial.row k 0)) (row_from l.settings.bytes.now l.sums l.counts l.inherited l.date))
