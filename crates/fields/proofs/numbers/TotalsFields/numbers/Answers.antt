-- `numbers` of totals meets its contract: eleven numbers, each below 2 ^ 63.
use Rattle.std.proofs.Common.{refl, arith, w64}
use Rattle.std.proofs.lemmas.Int.{to_z_pos}
use Rattle.fields.proofs.numbers.TotalsFields.numbers.Goals as goal

pub returns : goal.returns
returns c =
    let p = c.requires in
    record {
      number_is = refl;
      fields_are = rw (
        to_z_pos w64 _ p.0,
        to_z_pos w64 _ p.1.0,
        to_z_pos w64 _ p.1.1.0,
        to_z_pos w64 _ p.1.1.1.0,
        to_z_pos w64 _ p.1.1.1.1.0,
        to_z_pos w64 _ p.1.1.1.1.1.0,
        to_z_pos w64 _ p.1.1.1.1.1.1.0,
        to_z_pos w64 _ p.1.1.1.1.1.1.1.0,
        to_z_pos w64 _ p.1.1.1.1.1.1.1.1.0,
        to_z_pos w64 _ p.1.1.1.1.1.1.1.1.1.0,
        to_z_pos w64 _ p.1.1.1.1.1.1.1.1.1.1.0,
      );
      few = omega arith;
      long = refl;
    }
