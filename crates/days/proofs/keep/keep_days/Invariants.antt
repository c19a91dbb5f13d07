use Rattle.std.proofs.Common.{◌≡◌}
use Rattle.ledger.specs.Calls.{kept_days}
use Rattle.days.proofs.keep.keep_days.Given as goal

abbrev pub invariant-loop-category : goal.invariant-loop-category
invariant-loop-category l = l.days ≡ kept_days l.settings.bytes.now l.date l.row l.category l.initial.days
