-- `calls::ask` meets its contract: each code has its call, and what is left of the codes is a cell read.
use Rattle.std.proofs.Common.{◌≡◌, arith}
use Rattle.commands.specs.Commands.{code}
use Rattle.commands.proofs.Laws.{some_there, registration_there, reception_there, records_there, run_there, totals_there, cell_code, cell_there, registered, received, ran, totals_read, cell_read}
use Rattle.commands.proofs.calls.ask.Goals as goal
use Rattle.commands.proofs.calls.ask.Goals.{In_default}

-- what is left is a cell read
reads-cell : (c : In_default) → code c.args.command.now ≡ 24
reads-cell c =
    let other = c.requires.fact in
    let rest = c.in_default.in_default-own.rest in
    cell_code _ c.requires.command.0.known other.0 other.1 other.2 rest.0.0.0.1 rest.0.0.1 rest.0.1 rest.1

pub bounds-command-0 : goal.bounds-command-0
bounds-command-0 c = some_there _ c.requires.command.0

pub register-requires : goal.register-requires
register-requires c = (registration_there _ c.requires.command.0 c.in-19.is, omega (arith, c.requires.command.1))

pub receive-requires : goal.receive-requires
receive-requires c =
    let code = c.in-20.is in
    (reception_there _ c.requires.command.0 code, records_there _ c.requires.command.0 code, omega (arith, c.requires.command.1))

pub run-requires : goal.run-requires
run-requires c = (run_there _ c.requires.command.0 c.in-22.is, omega (arith, c.requires.command.1))

pub totals-requires : goal.totals-requires
totals-requires c = (totals_there _ c.requires.command.0 c.in-23.is, omega (arith, c.requires.command.1))

pub cell-requires : goal.cell-requires
cell-requires c =
    (cell_there _ c.requires.command.0 (reads-cell (goal.at.cell-requires c).In_default), omega (arith, c.requires.command.1))

pub returns-in-19-clause-appended : goal.returns-in-19-clause-appended
returns-in-19-clause-appended c =
    let a = c.args in
    let told = registered a.settings.now a.meters.now a.readings.now a.cells.now a.days.now a.command.now a.out.now _ a.at _ _ c.in-19.is c.register.ensures.appended c.register.ensures.meters_after in
    told.0

pub returns-in-19-clause-days_after : goal.returns-in-19-clause-days_after
returns-in-19-clause-days_after c =
    let a = c.args in
    let told = registered a.settings.now a.meters.now a.readings.now a.cells.now a.days.now a.command.now a.out.now _ a.at _ _ c.in-19.is c.register.ensures.appended c.register.ensures.meters_after in
    told.1

pub returns-in-20-clause-appended : goal.returns-in-20-clause-appended
returns-in-20-clause-appended c =
    let a = c.args in
    let told = received a.settings.now a.meters.now a.readings.now a.cells.now a.days.now a.command.now a.out.now _ a.at _ _ c.in-20.is c.receive.ensures.appended c.receive.ensures.readings_after in
    told.0

pub returns-in-20-clause-days_after : goal.returns-in-20-clause-days_after
returns-in-20-clause-days_after c =
    let a = c.args in
    let told = received a.settings.now a.meters.now a.readings.now a.cells.now a.days.now a.command.now a.out.now _ a.at _ _ c.in-20.is c.receive.ensures.appended c.receive.ensures.readings_after in
    told.1

pub returns-in-22-clause-appended : goal.returns-in-22-clause-appended
returns-in-22-clause-appended c =
    let a = c.args in
    let told = ran a.settings.now a.meters.now a.readings.now a.cells.now a.days.now a.command.now a.out.now _ a.at _ _ _ c.in-22.is c.run.ensures.appended c.run.ensures.cells_after c.run.ensures.days_after in
    told.0

pub returns-in-22-clause-days_after : goal.returns-in-22-clause-days_after
returns-in-22-clause-days_after c =
    let a = c.args in
    let told = ran a.settings.now a.meters.now a.readings.now a.cells.now a.days.now a.command.now a.out.now _ a.at _ _ _ c.in-22.is c.run.ensures.appended c.run.ensures.cells_after c.run.ensures.days_after in
    told.1

pub returns-in-23-clause-appended : goal.returns-in-23-clause-appended
returns-in-23-clause-appended c =
    let a = c.args in
    let told = totals_read a.settings.now a.meters.now a.readings.now a.cells.now a.days.now a.command.now a.out.now _ a.at _ c.in-23.is c.totals.ensures.appended in
    told.0

pub returns-in-23-clause-days_after : goal.returns-in-23-clause-days_after
returns-in-23-clause-days_after c =
    let a = c.args in
    let told = totals_read a.settings.now a.meters.now a.readings.now a.cells.now a.days.now a.command.now a.out.now _ a.at _ c.in-23.is c.totals.ensures.appended in
    told.1

pub returns-in_default-clause-appended : goal.returns-in_default-clause-appended
returns-in_default-clause-appended c =
    let a = c.args in
    let told = cell_read a.settings.now a.meters.now a.readings.now a.cells.now a.days.now a.command.now a.out.now _ a.at _ (reads-cell (goal.at.returns-in_default-clause-appended c).In_default) c.cell.ensures.appended in
    told.0

pub returns-in_default-clause-days_after : goal.returns-in_default-clause-days_after
returns-in_default-clause-days_after c =
    let a = c.args in
    let told = cell_read a.settings.now a.meters.now a.readings.now a.cells.now a.days.now a.command.now a.out.now _ a.at _ (reads-cell (goal.at.returns-in_default-clause-days_after c).In_default) c.cell.ensures.appended in
    told.1
