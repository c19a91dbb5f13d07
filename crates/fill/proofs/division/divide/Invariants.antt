use Rattle.std.proofs.Common.{◌+◌, ◌≡◌}
use Rattle.metering.specs.Sum.{sum_below}
use Rattle.ledger.specs.Fill.{whole_part}
use Rattle.ledger.specs.Table.{filling}
use Rattle.fill.specs.Sharing.{weight_in, part_of}
use Rattle.fill.proofs.division.divide.Given as goal

abbrev pub invariant-loop-k : goal.invariant-loop-k
invariant-loop-k l =
    (l.parts ≡ filling l.k (part_of l.column.periods (weight_in l.column l.cells l.date l.missing) l.advance) l.initial.parts)
    × (l.left + sum_below l.k (whole_part l.column.periods (weight_in l.column l.cells l.date l.missing) l.advance) ≡ l.advance)
