-- `read_cell` meets its contract: the column reaches the cell.
use Rattle.std.proofs.Common.{refl, arith}
use Rattle.reads.proofs.CheckLaws.{cell_passed, passed_reaches}
use Rattle.reads.proofs.read_cell.Goals as goal

pub cell_at-requires : goal.cell_at-requires
cell_at-requires c =
    let ok = cell_passed _ _ _ _ _ c.in_ok-cells.ensures.number in
    let lent = c.in_ok-cells.ensures.lent in
    rw (c.column_of-column.ensures, lent.0, lent.1) (passed_reaches _ _ _ _ refl ok.0, omega (arith, ok.1, ok.2))
