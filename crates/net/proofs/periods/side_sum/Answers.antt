-- `side_sum` meets its contract. The invariant: both sums are over the members passed.
use Rattle.std.proofs.Common.{suc, ◌≡◌, ap, ◌∙◌, get_or}
use Rattle.ledger.specs.Method.{is_blank}
use Rattle.entries.specs.Cell.{cell_meant}
use Rattle.store.specs.Column.{beside, cell_in}
use Rattle.net.proofs.SideLaws.{none_yet, one_further}
use Rattle.net.proofs.periods.side_sum.Goals as goal
use Rattle.net.proofs.periods.side_sum.Goals.{After-cell_at-cell}

-- the cell that is read is the member's
cell_is_lem : (c : After-cell_at-cell) → let a = c.args in
    cell_meant c.cell_at-cell.result ≡ cell_in (beside a.column (get_or a.members.now c.loop-category.category-index 0)) a.cells.now a.date (suc a.k)
cell_is_lem c =
    let a = c.args in
    c.cell_at-cell.ensures.is ∙ ap (λ m. cell_in m a.cells.now a.date (suc a.k)) c.beside.ensures

pub loop-category-init : goal.loop-category-init
loop-category-init c = (none_yet _ _, none_yet _ _)

pub loop-category-preserved : goal.loop-category-preserved
loop-category-preserved c =
    let inv = c.loop-category.invariant in
    let cell_is = cell_is_lem (goal.at.loop-category-preserved c).After-cell_at-cell in (
      one_further _ inv.0 c.loop-category-test.true (record { is = ap (λ a. a.value) cell_is; small = c.cell_at-cell.ensures.small }),
      one_further _ inv.1 c.loop-category-test.true
          (record { is = c.blank_number-blanks.ensures.is ∙ ap (λ a. is_blank a.flag) cell_is; small = c.blank_number-blanks.ensures.small }),
    )
