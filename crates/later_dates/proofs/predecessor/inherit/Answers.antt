-- `later_dates::predecessor::inherit` meets its contract: what is carried from the part is carried from the row.
use Rattle.std.proofs.Common.{◌*◌, refl, arith}
use Rattle.ledger.specs.Store.{row_length}
use Rattle.later_rows.proofs.Laws.{carried_part}
use Rattle.later_dates.proofs.Laws.{row_there, taken_from}
use Rattle.later_dates.proofs.predecessor.inherit.Goals as goal

pub returns-in-Some : goal.returns-in-Some
returns-in-Some c =
    let S = c.args.cells.settings.bytes.now in
    let n = row_length S in
    let cells = c.args.cells.entries.now in
    let d = c.in-Some.last in
    rw (← c.day_type.ensures)
    (taken_from n d (d * n) n cells c.args.inherited.now _ _ c.in-Some.ensures.1 refl refl
    (carried_part cells c.args.inherited.now _ (d * n) n (row_there S cells d c.args.cells.settings.ready c.args.cells.long (omega (arith, c.requires.date_bound, c.in-Some.ensures.0))).0 (rw c.row_of.ensures at c.carry_row.ensures)))
