-- `calls::open` meets its contract: the program's parts are lent where they suffice, else empty ones, whose loan leaves the program's.
use Rattle.std.proofs.Common.{arith, ◌≡◌, refl, sym, ◌∙◌}
use Rattle.ledger.specs.Ledger.{Opening}
use Rattle.ledger.specs.Engine.{Parts}
use Rattle.commands.specs.Commands.{parts_of, opening_of, suffices_for}
use Rattle.commands.proofs.Laws.{lent_line, lent_parts, kept_line, kept_parts, none_before}
use Rattle.commands.proofs.calls.open.Goals as goal
use Rattle.commands.proofs.calls.open.Goals.{After-parts_suffice, After-open-outcome}

abbrev asked : After-parts_suffice → Opening
asked c = let a = c.args in opening_of a.command.now a.category_records.now a.day_types.now

abbrev parts : After-parts_suffice → Parts
parts c = let a = c.args in parts_of a.settings.now a.meters.now a.readings.now a.cells.now a.days.now

suffices : (c : After-parts_suffice) → c.parts_suffice.result ≡ suffices_for c.args.capacity (asked c)
suffices c = rw c.opening_operands-given.ensures at c.parts_suffice.ensures

pub returns-then-parts_suffice-clause-appended : goal.returns-then-parts_suffice-clause-appended
returns-then-parts_suffice-clause-appended c =
    let enough = sym (suffices (goal.at.returns-then-parts_suffice-clause-appended c).After-parts_suffice) ∙ c.if-parts_suffice.true in
    let opened = rw c.opening_operands-given.ensures at c.open-outcome.ensures in
    lent_line c.args.capacity (parts (goal.at.returns-then-parts_suffice-clause-appended c).After-parts_suffice) (asked (goal.at.returns-then-parts_suffice-clause-appended c).After-parts_suffice) enough opened c.append_answer_line.ensures.appended

pub returns-then-parts_suffice-clause-days_after : goal.returns-then-parts_suffice-clause-days_after
returns-then-parts_suffice-clause-days_after c =
    let enough = sym (suffices (goal.at.returns-then-parts_suffice-clause-days_after c).After-parts_suffice) ∙ c.if-parts_suffice.true in
    let opened = rw c.opening_operands-given.ensures at c.open-outcome.ensures in
    lent_parts c.args.capacity (parts (goal.at.returns-then-parts_suffice-clause-days_after c).After-parts_suffice) (asked (goal.at.returns-then-parts_suffice-clause-days_after c).After-parts_suffice) refl enough opened

pub returns-clause-appended : goal.returns-clause-appended
returns-clause-appended c =
    let short = sym (suffices (goal.at.returns-clause-appended c).After-parts_suffice) ∙ c.if-parts_suffice.false in
    let opened = rw c.opening_operands-given.ensures at c.open-outcome-2.ensures in
    kept_line c.args.capacity (parts (goal.at.returns-clause-appended c).After-parts_suffice) (asked (goal.at.returns-clause-appended c).After-parts_suffice) short opened c.append_answer_line-2.ensures.appended

pub returns-clause-days_after : goal.returns-clause-days_after
returns-clause-days_after c =
    let short = sym (suffices (goal.at.returns-clause-days_after c).After-parts_suffice) ∙ c.if-parts_suffice.false in
    let opened = rw c.opening_operands-given.ensures at c.open-outcome-2.ensures in
    let kept = kept_parts c.args.capacity (parts (goal.at.returns-clause-days_after c).After-parts_suffice) (asked (goal.at.returns-clause-days_after c).After-parts_suffice) refl short
    (none_before c.open-outcome-2.new.settings _ (omega (arith, c.open-outcome-2.auto)))
    (none_before c.open-outcome-2.new.meters _ (omega (arith, c.open-outcome-2.auto)))
    (none_before c.open-outcome-2.new.readings _ (omega (arith, c.open-outcome-2.auto)))
    (none_before c.open-outcome-2.new.cells _ (omega (arith, c.open-outcome-2.auto)))
    (none_before c.open-outcome-2.new.days _ (omega (arith, c.open-outcome-2.auto))) in
    kept
