-- At the end all places are written.
use Rattle.std.proofs.Common.{arith}
use Rattle.entries.proofs.RowLaws.{filled_whole}
use Rattle.run_rows.proofs.shape.shape_row.Goals as goal

pub returns-clause-row_after : goal.returns-clause-row_after
returns-clause-row_after c = filled_whole _ _ _ _ _ c.loop-p.invariant.0 (omega arith) (omega arith)
