use Rattle.std.proofs.Common.{◌-◌, ◌<◌, ◌≡◌}
use Rattle.std.specs.Prelude.{IfSome}
use mathlib.Core.Option.{none}
use Rattle.ledger.specs.Checks.{latest_from}
use Rattle.ledger.specs.Store.{used_from, registrations_at}
use Rattle.ledger.proofs.Latest.{best_key}
use Rattle.store.specs.Meters.{placed, key_by}
use Rattle.store.proofs.meters.Slot.latest_place.Given as goal

abbrev pub invariant-loop-k : goal.invariant-loop-k
invariant-loop-k l =
    IfSome l.best (λ k. k < 8)
    × (l.best_key ≡ best_key (key_by l.key) (placed l.self.slots l.self.meters.now l.self.slot l.best))
    × (latest_from (key_by l.key) l.bound (placed l.self.slots l.self.meters.now l.self.slot l.best) (used_from l.self.slots l.self.meters.now l.self.slot (8 - l.k) l.k)
    ≡ latest_from (key_by l.key) l.bound none (registrations_at l.self.slots l.self.meters.now l.self.slot))
