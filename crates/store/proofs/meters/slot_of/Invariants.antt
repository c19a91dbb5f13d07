use Rattle.std.proofs.Common.{◌-◌, ◌≡◌}
use Rattle.ledger.specs.Store.{slot_from, slot_of}
use Rattle.store.proofs.meters.slot_of.Given as goal

abbrev pub invariant-loop-i : goal.invariant-loop-i
invariant-loop-i l = slot_from l.mpan l.meters (l.slots - l.i) l.i ≡ slot_of l.slots l.mpan l.meters
