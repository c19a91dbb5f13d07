use Rattle.std.proofs.Common.{◌≡◌}
use Rattle.ledger.specs.Table.{filling}
use Rattle.entries.specs.Sums.{Summed}
use Rattle.net.specs.Walk.{side_value, period_net, period_mark}
use Rattle.net.proofs.periods.write_periods.Given as goal

abbrev pub invariant-loop-k : goal.invariant-loop-k
invariant-loop-k l =
    (l.numbers ≡ filling l.k (period_net l.cells l.column l.date l.imports l.exports) l.initial.numbers)
    × (l.marks ≡ filling l.k (period_mark l.cells l.column l.date l.imports l.exports) l.initial.marks)
    × Summed l.k 274877906880 (side_value l.cells l.column l.date l.imports) l.import
    × Summed l.k 274877906880 (side_value l.cells l.column l.date l.exports) l.export
