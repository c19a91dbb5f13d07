-- `run::sources::gather` meets its contract: both rows are tallied from empty ones, what is taken over stands on blank, and the row made from them is the definition's.
use Rattle.ledger.proofs.Ready.{ready}
use Rattle.ledger.specs.Method.{watt_hours, present}
use Rattle.run_date.proofs.Laws.{tallied_zero}
use Rattle.run.proofs.Laws.{tallied_bounded, new_is}
use Rattle.run.proofs.sources.gather.Goals as goal

pub tally_date-requires-clause-tallied : goal.tally_date-requires-clause-tallied
tally_date-requires-clause-tallied c =
    let a = c.args in (
      tallied_zero a.cells.settings.bytes.now a.meters.now a.readings.now a.date watt_hours a.sums.now (λ k l. (c.requires.by_index k l).0),
      tallied_zero a.cells.settings.bytes.now a.meters.now a.readings.now a.date present a.counts.now (λ k l. (c.requires.by_index k l).1),
    )

pub returns-clause-bounded : goal.returns-clause-bounded
returns-clause-bounded c =
    let a = c.args in
    let known = ready a.cells.settings.bytes.now a.cells.settings.ready in
    let sums = c.tally_date.ensures.0 in
    let counts = c.tally_date.ensures.1 in
    tallied_bounded a.cells.settings.bytes.now a.meters.now a.readings.now a.date known _ _ sums counts

pub returns-clause-by_index_2 : goal.returns-clause-by_index_2
returns-clause-by_index_2 c =
    let a = c.args in
    let known = ready a.cells.settings.bytes.now a.cells.settings.ready in
    let sums = c.tally_date.ensures.0 in
    let counts = c.tally_date.ensures.1 in
    new_is a.cells.settings.bytes.now a.meters.now a.readings.now a.date known _ _ sums counts a.cells.entries.now _ c.inherit.ensures
