-- `run::own_row::write_date` meets its contract: the part lent is the date's row.
use Rattle.std.proofs.Common.{ℕ, ◌+◌, ◌-◌, ◌*◌, ◌≡◌, refl, ap, ◌∙◌, arith}
use Rattle.ledger.specs.Store.{row_length}
use Rattle.ledger.specs.Calls.{row_at, compared_entry, moved_by_row}
use Rattle.store.proofs.RowLaws.{row_fits}
use Rattle.entries.proofs.RowLaws.{differing_ext}
use Rattle.later_dates.proofs.Laws.{part_row, published_is}
use Rattle.run.proofs.own_row.write_date.Goals as goal
use Rattle.run.proofs.own_row.write_date.Goals.{After-row_start-at}

-- the row's start and width as the code has them
starts : (c : After-row_start-at) → c.row_start-at.result ≡ c.args.date * row_length c.args.settings.bytes.now
starts c = c.row_start-at.ensures ∙ ap (λ (n : ℕ). c.args.date * n) c.row_length-length.ensures

width : (c : After-row_start-at) → c.row_start-at.result + c.row_length-length.result - c.row_start-at.result ≡ row_length c.args.settings.bytes.now
width c = omega (arith, c.row_length-length.ensures)

pub returns-clause-days_after : goal.returns-clause-days_after
returns-clause-days_after c =
    let a = c.args in
    let S = a.settings.bytes.now in
    let c0 = (goal.at.returns-clause-days_after c).After-row_start-at in
    published_is S a.date _ _ _ a.cells.now a.days.now _ _ (starts c0) (width c0) (row_fits S a.cells.now a.date c.requires.settings_value.0 c.requires.settings_value.2) c.write_row-moved.ensures.row_after c.keep_days.ensures

pub returns-clause-value : goal.returns-clause-value
unfolding moved_by_row
returns-clause-value c =
    let a = c.args in
    let n : ℕ = row_length a.settings.bytes.now in
    let c0 = (goal.at.returns-clause-value c).After-row_start-at in
    c.write_row-moved.ensures.value
    ∙ differing_ext n _ (λ k. compared_entry (row_at n a.cells.now a.date k)) _ _
    (λ k l. ap compared_entry (part_row n a.date _ _ a.cells.now (starts c0) (width c0) k l)) (λ k l. refl)
