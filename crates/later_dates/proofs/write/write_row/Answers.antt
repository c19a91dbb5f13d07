-- `later_dates::write::write_row` meets its contract: the part lent is the row, and the days are kept from it as it was written.
use Rattle.std.proofs.Common.{◌≡◌, ◌+◌, ◌-◌, ◌*◌, arith}
use Rattle.ledger.specs.Store.{row_length}
use Rattle.later_dates.proofs.Laws.{row_there, followed_still, followed_written}
use Rattle.later_dates.proofs.write.write_row.Goals as goal
use Rattle.later_dates.proofs.write.write_row.Goals.{After-row_start-at}

-- the row's start and width, as the code has them
starts : (c : After-row_start-at) → c.row_start-at.result ≡ c.args.date * row_length c.args.settings.bytes.now
starts c = rw (← c.row_length-length.ensures) c.row_start-at.ensures

width : (c : After-row_start-at) → c.row_start-at.result + c.row_length-length.result - c.row_start-at.result ≡ row_length c.args.settings.bytes.now
width c = omega (arith, c.row_length-length.ensures)

pub returns-then-moved-eq0 : goal.returns-then-moved-eq0
returns-then-moved-eq0 c =
    let a = c.args in
    let S = a.settings.bytes.now in
    let at = (goal.at.returns-then-moved-eq0 c).After-row_start-at in
    followed_still S a.date a.inherited.now a.cells.now (row_there S a.cells.now a.date a.settings.ready c.requires.0 c.requires.2).0 _ _ (starts at) (width at) _ _
    c.follow_row-moved.ensures.inherited_after c.follow_row-moved.ensures.value a.days.now _ c.follow_row-moved.ensures.row_after c.if-moved-eq0.true

pub returns : goal.returns
returns c =
    let a = c.args in
    let S = a.settings.bytes.now in
    let at = (goal.at.returns c).After-row_start-at in
    followed_written S a.date a.inherited.now a.cells.now (row_there S a.cells.now a.date a.settings.ready c.requires.0 c.requires.2).0 _ _ (starts at) (width at) _ _
    c.follow_row-moved.ensures.inherited_after c.follow_row-moved.ensures.value a.days.now _ c.follow_row-moved.ensures.row_after c.if-moved-eq0.false _ c.keep_days.ensures
