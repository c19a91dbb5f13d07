-- `run::settle` meets its contract: the walk over later dates starts from the row just written.
use Rattle.std.proofs.Common.{◌≤◌, ◌∙◌, arith}
use Rattle.ledger.proofs.Ready.{ready, row_bounds}
use Rattle.ledger.specs.Store.{row_length}
use Rattle.ledger.specs.Calls.{as_published, publish}
use Rattle.store.proofs.RowLaws.{row_fits}
use Rattle.run.proofs.Laws.{moved_by_le, carried_on, written_at, settles}
use Rattle.run.proofs.settle.Goals as goal

pub write_later-requires-clause-first_bound : goal.write_later-requires-clause-first_bound
write_later-requires-clause-first_bound c =
    let S = c.args.settings.bytes.now in
    let most : c.write_date-moved.result ≤ row_length S = moved_by_le _ _ _ _ _ c.write_date-moved.ensures.value in (
      omega (arith, c.requires.settings_value.2),
      omega (arith, row_bounds S (ready S c.args.settings.ready)),
      rw c.carry_row.auto.inherited c.requires.settings_in_bounds.2,
    )

pub returns : goal.returns
returns c =
    let a = c.args in
    let S = a.settings.bytes.now in
    let put = c.write_date-moved.ensures.days_after in
    let stands = written_at S _ a.cells.now a.days.now a.date (row_fits S a.cells.now a.date c.requires.settings_value.0 c.requires.settings_value.2) c.write_date-moved.new.cells c.write_date-moved.new.days _ put c.row_of.ensures in
    c.write_later.ensures
    ∙ settles publish S _ (as_published a.cells.now a.days.now) a.date _ c.carry_row.new.inherited _ c.write_date-moved.result c.day_type.ensures put c.write_date-moved.ensures.value
    (carried_on (row_length S) _ _ a.inherited.now c.carry_row.new.inherited stands c.carry_row.ensures)
