use Rattle.std.proofs.Common.{◌-◌, ◌≡◌}
use Rattle.ledger.specs.Table.{filling}
use Rattle.ledger.specs.Threshold.{equal_to}
use Rattle.fill.specs.Sharing.{remainder_in, handed_out}
use Rattle.fill.proofs.shares.hand_out.Given as goal

abbrev pub invariant-loop-k : goal.invariant-loop-k
invariant-loop-k l =
    (l.rest ≡ l.spare - equal_to l.k (remainder_in l.parts) l.threshold)
    × (l.filled ≡ filling l.k (handed_out l.parts l.threshold l.spare) l.initial.filled)
