use Rattle.std.specs.Prelude.{◌≡◌}
use Rattle.ledger.specs.Net.{on_side}
use Rattle.ledger.specs.Table.{chosen_below}
use Rattle.ledger.specs.Store.{category_of}
use Rattle.settings.proofs.opened.Settings.side_members.Given as goal

abbrev pub invariant-loop-b : goal.invariant-loop-b
invariant-loop-b l =
    l.members.items
    ≡ chosen_below l.b (λ x. on_side l.all_groups l.quantity (category_of l.self.bytes.now l.category) (category_of l.self.bytes.now x))
