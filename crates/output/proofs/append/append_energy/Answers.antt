-- `append_energy` meets its contract: three texts one behind the other, which read back as the Wh by the law on kWh.
use Rattle.std.proofs.Common.{◌<◌, ap, ◌∙◌, arith}
use Rattle.output.specs.Text.{energy_text, read_back}
use Rattle.output.proofs.Laws.{join, behind_blank, energy_reads_back}
use Rattle.output.proofs.append.append_energy.Goals as goal

pub returns-clause-out_after : goal.returns-clause-out_after
unfolding energy_text
returns-clause-out_after c =
    let a = c.args in
    let written = join c.append_number-whole.ensures.appended (join c.append_byte-point.ensures c.append_thousandths.ensures) in
    let fits : a.energy < 18446744073709551616 = omega (arith, c.ranges.energy) in
    ap read_back (behind_blank a.out.now _ a.at _ (energy_text a.energy) (omega arith) written) ∙ energy_reads_back a.energy fits
