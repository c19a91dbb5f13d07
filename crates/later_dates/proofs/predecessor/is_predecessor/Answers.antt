-- `later_dates::predecessor::is_predecessor` meets its contract: the two tests are the definition's.
use Rattle.std.proofs.Common.{arith}
use Rattle.ledger.proofs.Ready.{ready, periods_bound, row_bounds}
use Rattle.store.proofs.RowLaws.{row_fits}
use Rattle.later_dates.proofs.predecessor.is_predecessor.Goals as goal

pub is_run-requires : goal.is_run-requires
is_run-requires c =
    let S = c.args.cells.settings.bytes.now in
    let known = ready S c.args.cells.settings.ready in
    rw c.row_length.ensures
    (omega (arith, row_fits S c.args.cells.entries.now c.args.date c.args.cells.long c.requires, row_bounds S known, periods_bound S known))
