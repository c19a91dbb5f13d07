use Rattle.entries.specs.Sums.{Summed}
use Rattle.fill.specs.Sharing.{weight_in}
use Rattle.fill.proofs.missing.missing_sum.Given as goal

abbrev pub invariant-loop-k : goal.invariant-loop-k
invariant-loop-k l = Summed l.k 4294967295 (weight_in l.column l.cells l.date l.missing) l.sum
