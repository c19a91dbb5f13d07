-- `writing::copy` meets its contract: the source's first k bytes are written.
use Rattle.std.proofs.Common.{arith, length-set}
use Rattle.ledger.proofs.Lists.{sets_more}
use Rattle.settings.proofs.writing.copy.Goals as goal

pub loop-k-preserved : goal.loop-k-preserved
loop-k-preserved c =
    let p = c.loop-k.invariant in
    let a = c.args in
    (rw p.0 (sets_more a.part.now a.source.now a.at c.loop-k.k (omega arith)), simp length-set p.1)
