-- `periods_within` meets its contract: what has begun before the start is left out, and so is what has not ended by the end.
use Rattle.metering.proofs.WindowLaws.{within_none, within_some}
use Rattle.metering.proofs.calendar.periods_within.Goals as goal

pub returns-then-last-first : goal.returns-then-last-first
returns-then-last-first c = within_none _ _ _ _ _ c.begun_before-first.ensures c.ended_by-last.ensures c.if-last-first.true

pub returns : goal.returns
returns c = within_some _ _ _ _ _ c.begun_before-first.ensures c.ended_by-last.ensures c.if-last-first.false
