-- `run::preview::preview` meets its contract: a refusal leaves the draft, an accepted preview has at its front what a run leaves of the date.
use Rattle.std.proofs.Common.{◌≤◌, sym, ap, ◌∙◌, length, length-take-le}
use Rattle.ledger.specs.Ledger.{moved}
use Rattle.ledger.specs.Store.{row_length}
use Rattle.ledger.proofs.Choices.{MayRun, accepted_preview}
use Rattle.store.proofs.Refusals.{given_at, after_at}
use Rattle.run.proofs.Laws.{foreseen, drawn_front}
use Rattle.run.proofs.preview.preview.Goals as goal
use Rattle.run.proofs.preview.preview.Goals.{In_ok-cells, After-row_length-length}

accepted : (c : In_ok-cells) → let a = c.args in
    MayRun a.settings.now a.meters.now a.readings.now a.cells.now a.days.now a.date × (row_length a.settings.now ≤ length a.draft.now)
accepted c =
    let a = c.args in
    accepted_preview a.settings.now a.meters.now a.readings.now a.cells.now a.days.now a.draft.now a.date (sym c.in_ok-cells.ensures.number)

front : (c : After-row_length-length) → c.row_length-length.result ≤ length c.args.draft.now
front c =
    let a = c.args in
    rw (c.row_length-length.ensures, c.in_ok-cells.ensures.lent.0) (accepted_preview a.settings.now a.meters.now a.readings.now a.cells.now a.days.now a.draft.now a.date (sym c.in_ok-cells.ensures.number)).1

pub slice_bounds-preview_accepted-end-2 : goal.slice_bounds-preview_accepted-end-2
slice_bounds-preview_accepted-end-2 c =
    sym (length-take-le c.row_length-length.result _ (front (goal.at.slice_bounds-preview_accepted-end-2 c).After-row_length-length))

pub preview_accepted-requires : goal.preview_accepted-requires
preview_accepted-requires c =
    let ok = (accepted (goal.at.preview_accepted-requires c).In_ok-cells).0 in
    let lent = c.in_ok-cells.ensures.lent.0 in
    (rw lent ok.1, rw lent ok.2, rw lent ok.5, length-take-le c.row_length-length.result _ (front (goal.at.preview_accepted-requires c).After-row_length-length) ∙ c.row_length-length.ensures)

pub returns-clause-result_value : goal.returns-clause-result_value
returns-clause-result_value c =
    let a = c.args in
    let ok = (accepted (goal.at.returns-clause-result_value c).In_ok-cells).0 in
    let lent = c.in_ok-cells.ensures.lent in
    ap moved (rw (lent.0, lent.1) at c.preview_accepted.ensures.value
    ∙ foreseen a.settings.now a.meters.now a.readings.now a.cells.now a.days.now a.date ok)
    ∙ given_at _ c.in_ok-cells.ensures.number _

pub returns-clause-draft_after : goal.returns-clause-draft_after
returns-clause-draft_after c =
    let a = c.args in
    let ok = (accepted (goal.at.returns-clause-draft_after c).In_ok-cells).0 in
    let lent = c.in_ok-cells.ensures.lent in
    drawn_front a.settings.now a.meters.now a.readings.now a.cells.now a.days.now a.date ok _ a.draft.now _
    (rw (lent.0, lent.1) at c.preview_accepted.ensures.row_after) (c.row_length-length.ensures ∙ ap row_length lent.0)
    ∙ after_at _ c.in_ok-cells.ensures.number _ _
