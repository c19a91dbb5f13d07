-- `run::preview::draw` meets its contract: the row is drawn over a copy of the published one, and the walk that counts starts from it.
use Rattle.std.proofs.Common.{◌≤◌, arith, ◌≡◌, refl, ap, ◌∙◌, []}
use Rattle.ledger.proofs.Ready.{ready, row_bounds}
use Rattle.ledger.specs.Store.{row_length}
use Rattle.ledger.specs.Calls.{as_published, count_only, Ran, moved_by_row}
use Rattle.run_date.specs.Sums.{row_from}
use Rattle.store.proofs.RowLaws.{row_fits}
use Rattle.run.proofs.Laws.{moved_by_le, carried_on, settles, drawn_moved}
use Rattle.run.proofs.preview.draw.Goals as goal
use Rattle.run.proofs.preview.draw.Goals.{After-write_row-moved}

-- its cells that moved are those that differ from the published ones
drawn-count : (c : After-write_row-moved) → let a = c.args in
    c.write_row-moved.result ≡ moved_by_row (row_length a.cells.settings.bytes.now) a.cells.entries.now a.date (row_from a.cells.settings.bytes.now a.sums.now a.counts.now a.inherited.now a.date)
drawn-count c =
    let a = c.args in
    drawn_moved (row_length a.cells.settings.bytes.now) a.date a.cells.entries.now _ a.row.now c.copy_row.new.copy _ c.write_row-moved.result
    (row_fits a.cells.settings.bytes.now a.cells.entries.now a.date a.cells.long c.requires.settings_value.0) c.row_of.ensures c.copy_row.ensures c.write_row-moved.ensures.value

pub count_later-requires : goal.count_later-requires
count_later-requires c =
    let S = c.args.cells.settings.bytes.now in
    let most : c.write_row-moved.result ≤ row_length S = moved_by_le _ _ _ _ _ (drawn-count (goal.at.count_later-requires c).After-write_row-moved) in (
      omega (arith, c.requires.settings_value.0),
      omega (arith, row_bounds S (ready S c.args.cells.settings.ready)),
      rw c.carry_row.auto.inherited c.requires.settings_in_bounds.2,
      omega (arith, c.requires.settings_in_bounds.0, c.requires.settings_value.1, c.copy_row.auto.copy, c.write_row-moved.auto.row),
    )

pub returns-clause-value : goal.returns-clause-value
returns-clause-value c =
    let a = c.args in
    let S = a.cells.settings.bytes.now in
    c.count_later.ensures
    ∙ ap (λ (x : Ran). x.moved)
    (settles count_only S _ (as_published a.cells.entries.now []) a.date _ c.carry_row.new.inherited _ c.write_row-moved.result c.day_type-day.ensures refl (drawn-count (goal.at.returns-clause-value c).After-write_row-moved)
    (carried_on (row_length S) _ _ a.inherited.now c.carry_row.new.inherited c.write_row-moved.ensures.row_after c.carry_row.ensures))
