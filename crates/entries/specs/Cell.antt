-- The cell that the code hands out, as the method's.
use Rattle.entries.specs.declared.cell.Flag.{Flag}
use Rattle.entries.specs.declared.cell.Flag.TheVariants.{A, D, E, N}
use Rattle.entries.specs.declared.cell.Cell.{Cell}
use Rattle.ledger.specs.Method as method

abbrev pub flag_meant : Flag → method.Flag
flag_meant A = method.A
flag_meant D = method.D
flag_meant E = method.E
flag_meant N = method.N

abbrev pub cell_meant : Cell → method.Cell
cell_meant a = record { flag = flag_meant a.flag; value = a.value; count = a.count; origin = a.origin; remainder = a.remainder }
