-- `append_decimal` meets its contract: the digits that the kit's decimal gives are those of the definition.
use Rattle.std.proofs.Common.{◌<◌, arith}
use Rattle.output.proofs.Laws.{decimal_appended}
use Rattle.output.proofs.append.append_decimal.Goals as goal

pub returns-clause-appended : goal.returns-clause-appended
returns-clause-appended c =
    let fits : c.args.number < 18446744073709551616 = omega (arith, c.ranges.number) in
    decimal_appended _ _ fits c.decimal-count.ensures.len c.decimal-count.ensures.digits c.append.ensures
