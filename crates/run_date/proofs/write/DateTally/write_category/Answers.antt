-- `run_date::write::write_category` meets its contract: the family's rows start empty, and the row's writer puts what the definition says.
use Rattle.std.proofs.Common.{ℕ, ◌*◌, ◌<◌, ◌≡◌, ap, ◌∙◌, arith, length, get_or, replicate}
use lib.ListN.{get_or-replicate}
use Rattle.ledger.proofs.Ready.{ready, periods_bound}
use Rattle.ledger.specs.Store.{periods_of}
use Rattle.run_date.proofs.Laws.{pooled_zero, averaged_family, category_gives}
use Rattle.run_date.proofs.write.DateTally.write_category.Goals as goal
use Rattle.run_date.proofs.write.DateTally.write_category.Goals.{After-category_start-at}

at-is : (c : After-category_start-at) → c.category_start-at.result ≡ c.args.category * periods_of c.args.self.now.settings.bytes.now
at-is c = c.category_start-at.ensures ∙ ap (λ (n : ℕ). c.args.category * n) c.period_count.ensures

pub pool_family-requires-clause-pooled : goal.pool_family-requires-clause-pooled
pool_family-requires-clause-pooled c =
    let S = c.args.self.now.settings.bytes.now in
    let most = (periods_bound S (ready S c.args.self.now.settings.ready)).1 in
    let none : (p : ℕ) → p < periods_of S → get_or {A = ℕ} (replicate 96 0) p 0 ≡ 0 = λ p l. get_or-replicate 96 p 0 0 (omega arith) in
    (pooled_zero S _ _ _ none, pooled_zero S _ _ _ none)

pub shape_row-requires-clause-by_index_2 : goal.shape_row-requires-clause-by_index_2
shape_row-requires-clause-by_index_2 c =
    let a = c.args in
    let S = a.self.now.settings.bytes.now in
    let known = ready S c.args.self.now.settings.ready in
    let len : length a.row.now ≡ periods_of S = c.requires.settings_in_bounds.3 in
    λ p l. averaged_family S _ _ _ known c.args.self.now.bounded _ _ c.pool_family.ensures.0 c.pool_family.ensures.1 p (rw len at l)

pub returns-clause-value : goal.returns-clause-value
returns-clause-value c =
    let a = c.args in
    let gives = category_gives a.self.now.settings.bytes.now a.self.now.sums.now a.self.now.counts.now a.inherited.now a.date a.category _ _ _ _ _ _
    c.is_smart.ensures c.de_minimis.ensures (at-is (goal.at.returns-clause-value c).After-category_start-at) c.requires.settings_in_bounds.3 c.pool_family.ensures.0 c.pool_family.ensures.1 in
    c.shape_row.ensures.value ∙ gives.1 _
