use Rattle.std.proofs.Common.{◌≡◌}
use Rattle.ledger.specs.Calls.{last_run}
use Rattle.later_dates.proofs.predecessor.last_run.Given as goal

abbrev pub invariant-loop-d : goal.invariant-loop-d
invariant-loop-d l = last_run l.cells.settings.bytes.now l.cells.entries.now l.day l.d ≡ last_run l.cells.settings.bytes.now l.cells.entries.now l.day l.date
