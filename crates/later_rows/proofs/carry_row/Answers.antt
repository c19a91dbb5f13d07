-- `later_rows::carry_row` meets its contract: the first k places of `inherited` have what the row's first k entries leave.
use Rattle.std.proofs.Common.{sym, arith}
use Rattle.ledger.proofs.Lists.{filling_zero, fill}
use Rattle.later_rows.proofs.carry_row.Goals as goal

pub loop-k-init : goal.loop-k-init
loop-k-init c = sym (filling_zero _ _)

pub loop-k-preserved : goal.loop-k-preserved
loop-k-preserved c = fill _ _ _ c.loop-k.k _ c.loop-k.invariant (omega arith) c.carried_entry.ensures
