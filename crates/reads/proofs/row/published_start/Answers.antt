-- `reads::row::published_start` meets its contract: both terms are far below 2 ^ 64.
use Rattle.std.proofs.Common.{arith}
use Rattle.reads.proofs.RowLaws.{starts_small}
use Rattle.reads.proofs.row.published_start.Goals as goal

pub row_start-requires : goal.row_start-requires
row_start-requires c =
    rw c.row_length.ensures (omega (arith, starts_small c.args.settings.bytes.now c.args.date c.args.category c.args.settings.ready c.requires.0 c.requires.1))
