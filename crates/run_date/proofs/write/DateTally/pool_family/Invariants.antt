use Rattle.run_date.specs.Sums.{Pooled}
use Rattle.run_date.proofs.write.DateTally.pool_family.Given as goal

abbrev pub invariant-loop-b : goal.invariant-loop-b
invariant-loop-b l =
    (Pooled l.self.settings.bytes.now l.self.sums.now l.category l.b l.family_sums) × (Pooled l.self.settings.bytes.now l.self.counts.now l.category l.b l.family_counts)
