-- `jihoweka_read_net` meets its contract: a list that is too short, or the call and its answer as numbers.
use Rattle.std.proofs.Common.{not, eqb}
use Rattle.ledger.specs.Store.{periods_of}
use Rattle.net.specs.Asked.{net_call}
use Rattle.jihoweka.proofs.Fit.{net_fits, net_alone_fits}
use Rattle.jihoweka.proofs.jihoweka_read_net.Goals as goal

pub numbers_of-requires : goal.numbers_of-requires
numbers_of-requires c =
    let a = c.args in
    net_alone_fits c.read_net-outcome.result (periods_of a.settings.now) c.read_net-outcome.new.numbers c.read_net-outcome.new.marks c.read_net-outcome.ensures.answers (net_fits a.settings.now a.cells.now a.days.now (net_call (not (eqb a.all_groups 0)) a.date a.category a.numbers.now a.marks.now))
