-- `fill` meets its contract: a refusal leaves the result as it was, or it has the filled values.
use Rattle.std.proofs.Common.{◌≡◌, ◌≤◌, ap, arith, length}
use Rattle.store.specs.Column.{column_of, Reaches}
use Rattle.reads.proofs.CheckLaws.{range_passed, range_reaches}
use Rattle.fill.proofs.SharingLaws.{may_share}
use Rattle.fill.proofs.ReadLaws.{some_sum}
use Rattle.fill.proofs.fill.Goals as goal
use Rattle.fill.proofs.fill.Goals.{After-column_of-column}

-- the column is of the settings lent
column_is : (c : After-column_of-column) → c.column_of-column.result ≡ column_of c.args.settings.now c.args.category
column_is c = rw c.in_ok-lent.ensures.lent.0 at c.column_of-column.ensures

reaches : (c : After-column_of-column) → let a = c.args in Reaches a.cells.now c.column_of-column.result a.date
reaches c = range_reaches _ _ _ _ _ _ (column_is c) c.in_ok-lent.ensures.number

-- the marks, and the result
long : (c : After-column_of-column) → let a = c.args in
    (c.column_of-column.result.periods ≤ length a.missing.now) × (c.column_of-column.result.periods ≤ length a.filled.now)
long c =
    let ok = (range_passed _ _ _ _ _ _ c.in_ok-lent.ensures.number).0 in
    let periods = ap (λ x. x.periods) (column_is c) in
    (omega (arith, periods, ok.first_long), omega (arith, periods, ok.second_long))

pub missing_sum-sum-requires : goal.missing_sum-sum-requires
missing_sum-sum-requires c =
    (reaches (goal.at.missing_sum-sum-requires c).After-column_of-column, (long (goal.at.missing_sum-sum-requires c).After-column_of-column).0)

pub share_out-requires : goal.share_out-requires
share_out-requires c =
    let fits = long (goal.at.share_out-requires c).After-column_of-column in
    (may_share _ (reaches (goal.at.share_out-requires c).After-column_of-column) fits.0 c.missing_sum-sum.ensures (some_sum _ c.in_ok-check_sum.ensures) c.ranges.advance.fits, fits.1)
