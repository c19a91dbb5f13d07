-- `check_run` meets its contract: category 0 is there, and its column says whether the date is run.
use Rattle.std.proofs.Common.{arith}
use Rattle.ledger.proofs.Ready.{ready}
use Rattle.store.proofs.ColumnLaws.{column_reaches}
use Rattle.reads.proofs.checks.check_run.Goals as goal

pub ran_on-requires : goal.ran_on-requires
ran_on-requires c =
    let cells = c.args.cells in
    let k = ready _ cells.settings.ready in
    rw c.column_of.ensures (column_reaches _ _ _ 0 cells.settings.ready cells.long c.requires (omega (arith, k.categories.0)))
