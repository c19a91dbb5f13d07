-- `read_net` meets its contract: the first failed check, or the net.
use Rattle.std.proofs.Common.{◌∙◌}
use Rattle.net.specs.Asked.{net_call}
use Rattle.net.proofs.NetLaws.{net_asked}
use Rattle.net.proofs.ReadLaws.{may_write, by_pair, Accepted, accepts}
use Rattle.net.proofs.read_net.Goals as goal
use Rattle.net.proofs.read_net.Goals.{After-net_of}

pub net_of-requires : goal.net_of-requires
net_of-requires c =
    let a = c.args in
    let lent = c.in_ok-lent.ensures.lent in
    may_write a.settings.now a.cells.now a.days.now a.all_groups a.date a.category _ _
    (rw lent.0 at c.column_of-column.ensures) (rw lent.0 at c.date_count-dates.ensures) c.in_ok-days_lent.ensures.1 c.in_ok-lent.ensures.number
    (rw lent.0 at (c.as_slice-2.ensures.value ∙ c.side_members-imports.ensures.members)) c.as_slice-2.ensures.fits
    (rw lent.0 at (c.as_slice-3.ensures.value ∙ c.side_members-exports.ensures.members)) c.as_slice-3.ensures.fits

-- no check failed, and what was written is the net
met : (c : After-net_of) → let a = c.args in
    Accepted a.settings.now a.cells.now a.days.now (net_call a.all_groups a.date a.category a.numbers.now a.marks.now) c.net_of.result.tot c.net_of.result.tot7 a.numbers.now c.net_of.new.numbers a.marks.now c.net_of.new.marks
met c =
    let lent = c.in_ok-lent.ensures.lent in
    accepts _ _ _ _
    (by_pair _ _ _ _ _ _ c.in_ok-days_lent.ensures.1 c.in_ok-lent.ensures.number (rw lent.0 at (c.as_slice.ensures.value ∙ c.side_members-exports.ensures.members)) (rw (lent.0, lent.1) at c.in_ok-check_pair.ensures))
    (rw lent.0 at (c.as_slice-2.ensures.value ∙ c.side_members-imports.ensures.members))
    (rw lent.0 at (c.as_slice-3.ensures.value ∙ c.side_members-exports.ensures.members))
    (net_asked _ _ _ c.args.category _ _ _ (rw lent.0 at c.column_of-column.ensures) (rw lent.0 at c.date_count-dates.ensures) c.net_of.ensures)

pub returns-clause-answers : goal.returns-clause-answers
returns-clause-answers c = (met (goal.at.returns-clause-answers c).After-net_of).0

pub returns-clause-nets_are : goal.returns-clause-nets_are
returns-clause-nets_are c = (met (goal.at.returns-clause-nets_are c).After-net_of).1

pub returns-clause-marks_are : goal.returns-clause-marks_are
returns-clause-marks_are c = (met (goal.at.returns-clause-marks_are c).After-net_of).2
