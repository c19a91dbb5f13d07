use Rattle.std.proofs.Common.{◌-◌, ◌≡◌, false}
use Rattle.ledger.specs.Checks.{not_after_last}
use Rattle.ledger.specs.Store.{used_from, registrations_at}
use Rattle.store.proofs.meters.Slot.start_not_after_last.Given as goal

abbrev pub invariant-loop-k : goal.invariant-loop-k
invariant-loop-k l =
    not_after_last l.start l.answer (used_from l.self.slots l.self.meters.now l.self.slot (8 - l.k) l.k)
    ≡ not_after_last l.start false (registrations_at l.self.slots l.self.meters.now l.self.slot)
