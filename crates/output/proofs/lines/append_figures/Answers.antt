-- `append_figures` meets its contract: the eleven figures one behind the other.
use Rattle.output.proofs.Laws.{join}
use Rattle.output.proofs.lines.append_figures.Goals as goal

pub returns-clause-appended : goal.returns-clause-appended
returns-clause-appended c =
    join c.append_energies-next.ensures.appended (join c.append_energies-next-2.ensures.appended (join c.append_number-next.ensures.appended (join c.append_energy-next.ensures.appended (join c.append_number-next-2.ensures.appended (join c.append_number-next-3.ensures.appended c.append_number.ensures.appended)))))
