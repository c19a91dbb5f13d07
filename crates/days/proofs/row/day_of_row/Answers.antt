-- `row::day_of_row` meets its contract: the cells so far are counted.
use Rattle.std.proofs.Common.{arith}
use Rattle.days.proofs.Laws.{none_counted, few_counted, counted_next, counted_all}
use Rattle.days.proofs.row.day_of_row.Goals as goal

pub loop-entry-init : goal.loop-entry-init
loop-entry-init c = none_counted _

pub overflow_add-fresh : goal.overflow_add-fresh
overflow_add-fresh c = omega (arith, few_counted c.loop-entry.invariant)

pub overflow_add-blanks : goal.overflow_add-blanks
overflow_add-blanks c = omega (arith, few_counted c.loop-entry.invariant)

pub loop-entry-preserved : goal.loop-entry-preserved
loop-entry-preserved c = counted_next c.args.row.now c.loop-entry.invariant c.lower_half-half.ensures c.fresh_in-fresh.ensures.value c.blank_in-blanks.ensures.value c.origin_in.ensures (omega arith)

pub day_entry-requires : goal.day_entry-requires
day_entry-requires c = omega (arith, few_counted c.loop-entry.invariant)

pub returns : goal.returns
returns c = counted_all c.loop-entry.invariant (omega arith) c.day_entry.ensures
