use Rattle.std.proofs.Common.{◌≡◌}
use lib.Seq.{sets}
use Rattle.ledger.specs.Store.{minute_bytes}
use Rattle.settings.proofs.writing.write_windows.Given as goal

abbrev pub invariant-loop-k : goal.invariant-loop-k
invariant-loop-k l = l.settings ≡ sets l.initial.settings 8 (minute_bytes l.k l.windows)
