-- `run::run_accepted` meets its contract: the rows made for the run are long enough for any store, and empty, and the row that is written from them is the definition's.
use Rattle.std.proofs.Common.{◌∙◌}
use Rattle.run.proofs.Laws.{rows_there, ran_is}
use Rattle.run.proofs.run_accepted.Goals as goal

pub gather-requires-clause-by_index : goal.gather-requires-clause-by_index
gather-requires-clause-by_index c = (rows_there _ c.args.settings.ready).1

pub returns : goal.returns
returns c =
    let a = c.args in
    c.settle.ensures ∙ ran_is a.settings.bytes.now a.meters.now a.readings.now a.cells.now a.days.now _ a.date c.gather.ensures.by_index_2
