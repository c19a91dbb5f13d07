-- `run_date::write::write_row` meets its contract: after each turn the stretches of the categories passed are written and counted.
use Rattle.std.proofs.Common.{ℕ, ◌+◌, ◌-◌, ◌*◌, ◌<◌, ◌≤◌, ◌≡◌, sym, ap, ◌∙◌, arith, length}
use Rattle.ledger.proofs.Ready.{ready, row_bounds}
use Rattle.ledger.specs.Store.{categories_of, periods_of, row_length}
use Rattle.entries.proofs.RowLaws.{filled_whole}
use Rattle.run_date.proofs.Laws.{start_asks, stretch, row_step, count_step, row_end}
use Rattle.run_date.proofs.write.write_row.Goals as goal
use Rattle.run_date.proofs.write.write_row.Goals.{In-loop-category, After-category_start-at}

-- the numbers of a turn: the category's stretch, as the code has it, lies in the row
fit : (c : In-loop-category) →
    let S = c.args.settings.bytes.now in
    let l = c.loop-category in
    record {
      low : l.category < categories_of S;
      whole : l.category * periods_of S + periods_of S ≤ row_length S;
      bounded : row_length S ≤ 6144;
      long : length l.row ≡ row_length S;
    }
fit c =
    let S = c.args.settings.bytes.now in
    let l = c.loop-category in
    let low : l.category < categories_of S = rw (← c.category_count-categories.ensures) c.loop-category-test.true in
    record {
      low = low;
      whole = stretch S l.category low;
      bounded = (row_bounds S (ready S c.args.settings.ready)).1;
      long = l.auto.row ∙ c.requires.settings_in_bounds.2;
    }

at-is : (c : After-category_start-at) →
    c.category_start-at.result ≡ c.loop-category.category * periods_of c.args.settings.bytes.now
at-is c = let l = c.loop-category in c.category_start-at.ensures ∙ ap (λ (n : ℕ). l.category * n) c.period_count-periods.ensures

pub category_start-at-requires : goal.category_start-at-requires
category_start-at-requires c =
    let S = c.args.settings.bytes.now in
    start_asks S _ _ (ready S c.args.settings.ready) (fit (goal.at.category_start-at-requires c).In-loop-category).low c.period_count-periods.ensures

pub loop-category-preserved : goal.loop-category-preserved
loop-category-preserved c =
    let a = c.args in
    let S = a.settings.bytes.now in
    let l = c.loop-category in
    let f = fit (goal.at.loop-category-preserved c).In-loop-category in
    let known = ready S c.args.settings.ready in
    let n = c.period_count-periods.result in
    let at = c.category_start-at.result in
    let width : at + n - at ≡ periods_of S = rw (← c.period_count-periods.ensures) (omega arith) in
    let stepped = row_step S a.sums.now a.counts.now a.inherited.now a.date l.category _ _ known (at-is (goal.at.loop-category-preserved c).After-category_start-at) width
    l.row a.row.now l.invariant.0 _ c.write_category-moved.ensures.row_after in (
      stepped,
      count_step S a.sums.now a.counts.now a.inherited.now a.date l.category _ _ known (at-is (goal.at.loop-category-preserved c).After-category_start-at) width
          l.row a.row.now l.invariant.0 _ _ l.invariant.1 c.write_category-moved.ensures.value,
    )

pub returns-clause-row_after : goal.returns-clause-row_after
returns-clause-row_after c =
    let l = c.loop-category in
    let S = c.args.settings.bytes.now in
    let done : l.category ≡ categories_of S = omega (arith, c.category_count-categories.ensures, l.auto.category-end, c.loop-category-test.false) in
    let all = row_end S l.category done in
    filled_whole _ _ l.row _ _ l.invariant.0 all (sym c.requires.settings_in_bounds.2)
