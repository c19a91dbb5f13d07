-- `run::preview::preview_accepted` meets its contract: the rows made for the preview are long enough for any store, and empty, and the row that is drawn from them is the definition's.
use Rattle.std.proofs.Common.{◌∙◌}
use Rattle.ledger.specs.Store.{row_length}
use Rattle.ledger.proofs.Lists.{tabulate_ext}
use Rattle.run.proofs.Laws.{rows_there, moved_is}
use Rattle.run.proofs.preview.preview_accepted.Goals as goal

pub gather-requires-clause-by_index : goal.gather-requires-clause-by_index
gather-requires-clause-by_index c = (rows_there _ c.args.cells.settings.ready).1

pub returns-clause-row_after : goal.returns-clause-row_after
returns-clause-row_after c =
    let a = c.args in
    c.draw.ensures.row_after ∙ tabulate_ext (row_length a.cells.settings.bytes.now) _ _ c.gather.ensures.by_index_2

pub returns-clause-value : goal.returns-clause-value
returns-clause-value c =
    let a = c.args in
    c.draw.ensures.value ∙ moved_is a.cells.settings.bytes.now a.meters.now a.readings.now a.cells.entries.now _ a.date c.gather.ensures.by_index_2
