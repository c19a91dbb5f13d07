-- `week_sum` meets its contract. The invariant: what is summed so far is over the members passed.
use Rattle.std.proofs.Common.{ap, ◌∙◌, arith}
use Rattle.ledger.specs.Store.{energy_of}
use Rattle.ledger.specs.Calls.{dates_sum}
use Rattle.store.proofs.DayLaws.{sum_there}
use Rattle.net.proofs.SideLaws.{none_yet, one_further}
use Rattle.net.proofs.week.week_sum.Goals as goal

pub loop-category-init : goal.loop-category-init
loop-category-init c = none_yet _ _

pub dates_sum-requires : goal.dates_sum-requires
dates_sum-requires c = sum_there (c.requires.each c.loop-category.category-index c.loop-category-test.true) _ (omega arith) c.day_index-at.ensures

pub loop-category-preserved : goal.loop-category-preserved
loop-category-preserved c =
    let a = c.args in
    one_further _ c.loop-category.invariant (omega (arith, c.loop-category-test.true))
    (record {
      is = c.energy_of-sum.ensures.is ∙ ap energy_of (c.dates_sum.ensures ∙ ap (λ at. dates_sum 7 a.date at a.days.now) c.day_index-at.ensures);
      small = c.energy_of-sum.ensures.small;
    })
