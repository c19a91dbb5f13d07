-- `run_date::write::add_member` meets its contract: a category of the family adds its two stretches, another nothing.
use Rattle.std.proofs.Common.{ℕ, ◌*◌, ◌≡◌, ap, ◌∙◌, arith}
use Rattle.ledger.proofs.Ready.{ready}
use Rattle.ledger.specs.Store.{periods_of}
use Rattle.run_date.proofs.Laws.{start_asks, counts_small, member_asks}
use Rattle.run_date.proofs.write.DateTally.add_member.Goals as goal
use Rattle.run_date.proofs.write.DateTally.add_member.Goals.{After-category_start-at}

periods_are : (c : After-category_start-at) → c.period_count-periods.result ≡ periods_of c.args.self.now.settings.bytes.now
periods_are c = c.period_count-periods.ensures

at-is : (c : After-category_start-at) → c.category_start-at.result ≡ c.args.b * periods_of c.args.self.now.settings.bytes.now
at-is c = c.category_start-at.ensures ∙ ap (λ (n : ℕ). c.args.b * n) (periods_are c)

pub category_start-at-requires : goal.category_start-at-requires
category_start-at-requires c =
    let S = c.args.self.now.settings.bytes.now in
    start_asks S c.args.b _ (ready S c.args.self.now.settings.ready) c.requires.category_bound.1 c.period_count-periods.ensures

pub add_row-requires-2-clause-by_index : goal.add_row-requires-2-clause-by_index
add_row-requires-2-clause-by_index c =
    let a = c.args in
    let S = a.self.now.settings.bytes.now in
    (member_asks S a.self.now.counts.now a.category 1024 (omega arith) (counts_small S a.self.now.sums.now a.self.now.counts.now (ready S c.args.self.now.settings.ready) c.args.self.now.bounded) a.b _ _ (at-is (goal.at.add_row-requires-2-clause-by_index c).After-category_start-at) (periods_are (goal.at.add_row-requires-2-clause-by_index c).After-category_start-at) a.family_counts.now
    (ready S c.args.self.now.settings.ready) c.requires.category_bound.1 c.args.self.now.room.1 c.requires.settings_in_bounds.1 c.requires.pooled.1).1
