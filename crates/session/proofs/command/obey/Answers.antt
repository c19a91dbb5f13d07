-- `obey` meets its contract: an 11 or a 12 is collected, a 10 uses up what is collected, any other command asks the store; the line goes behind what waits.
use Rattle.std.proofs.Common.{rules, ◌≡◌, get_or}
use Rattle.commands.proofs.Laws.{collects_category, collects_day_type, uses_up, asks, opening_appended, asked_appended}
use Rattle.session.proofs.Laws.{category_printed, day_type_printed}
use Rattle.session.proofs.command.obey.Goals as goal
use Rattle.session.proofs.command.obey.Goals.{Start, In_default}

pub returns-in-17-clause-state_after : goal.returns-in-17-clause-state_after
returns-in-17-clause-state_after c = collects_category _ _ c.args.command.now _ c.in-17.is c.append.ensures.held

pub returns-in-17-clause-output_after : goal.returns-in-17-clause-output_after
returns-in-17-clause-output_after c = category_printed _ _ c.args.command.now _ c.in-17.is

pub returns-in-18-clause-state_after : goal.returns-in-18-clause-state_after
returns-in-18-clause-state_after c = collects_day_type _ _ c.args.command.now _ c.in-18.is c.append-in-18.ensures.held

pub returns-in-18-clause-output_after : goal.returns-in-18-clause-output_after
returns-in-18-clause-output_after c = day_type_printed _ _ c.args.command.now _ c.in-18.is

pub returns-in-16-clause-state_after : goal.returns-in-16-clause-state_after
returns-in-16-clause-state_after c = uses_up _ _ c.args.command.now _ c.in-16.is c.«open».ensures.days_after

pub returns-in-16-clause-output_after : goal.returns-in-16-clause-output_after
returns-in-16-clause-output_after c = (opening_appended _ _ c.args.command.now c.in-16.is c.«open».ensures.appended).held

-- no other command is a 10, an 11 or a 12
other : (c : In_default) → let code = get_or c.args.command.now 0 0 in (code ≡ 16 → ⊥) × (code ≡ 17 → ⊥) × (code ≡ 18 → ⊥)
other c = search rules

pub returns-in_default-clause-state_after : goal.returns-in_default-clause-state_after
returns-in_default-clause-state_after c =
    let no = other (goal.at.returns-in_default-clause-state_after c).In_default in
    asks _ _ c.args.command.now _ no.0 no.1 no.2 c.ask.ensures.days_after

pub returns-in_default-clause-output_after : goal.returns-in_default-clause-output_after
returns-in_default-clause-output_after c =
    let no = other (goal.at.returns-in_default-clause-output_after c).In_default in
    (asked_appended _ _ c.args.command.now no.0 no.1 no.2 c.ask.ensures.appended).held
