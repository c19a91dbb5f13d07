use Rattle.std.proofs.Common.{◌+◌, ◌-◌, ◌≡◌, length}
use Rattle.ledger.specs.Store.{used_from, registrations_at}
use Rattle.store.proofs.meters.Slot.used.Given as goal

abbrev pub invariant-loop-k : goal.invariant-loop-k
invariant-loop-k l =
    l.k + length (used_from l.self.slots l.self.meters.now l.self.slot (8 - l.k) l.k)
    ≡ length (registrations_at l.self.slots l.self.meters.now l.self.slot)
