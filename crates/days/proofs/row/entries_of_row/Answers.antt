-- `row::entries_of_row` meets its contract: TOT over the row, OFF over the window's part of it.
use Rattle.std.proofs.Common.{◌+◌, ◌-◌, refl, arith}
use Rattle.days.proofs.Laws.{entries_summed}
use Rattle.days.proofs.row.entries_of_row.Goals as goal

pub returns : goal.returns
returns c =
    let w = c.args.window in
    entries_summed w c.args.row.now (w.first + w.count - w.first) w.first _ _ _ _ c.requires.1 refl (omega arith) c.day_of_row.ensures c.value_sum.ensures
    c.tot_entry.ensures c.value_sum-2.ensures
