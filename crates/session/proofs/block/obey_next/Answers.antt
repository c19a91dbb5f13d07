-- `obey_next` meets its contract: a line has no room, or the bytes at hand are a whole command, a cut one or none.
use Rattle.std.proofs.Common.{ℕ, ◌-◌, ◌≤◌, ◌≡◌, sym, ◌∙◌, ◌+◌, arith, length, take, drop, leb, ltb, leb-true, ltb-true}
use Rattle.ledger.proofs.Lists.{part_length}
use Rattle.input.proofs.Growth.{WholeCommand, whole_command}
use Rattle.session.specs.Session.{setup_in, state_in, untaken}
use Rattle.session.proofs.Laws.{category_room_lem, day_type_room_lem, same_extent, command_bytes, bytes_behind, obeyed_one}
use Rattle.session.proofs.block.obey_next.Goals as goal
use Rattle.session.proofs.block.obey_next.Goals.{In-Whole}

abbrev count : In-Whole → ℕ
count c = c.in-Whole.count

-- the command found
whole : (c : In-Whole) → let a = c.args in
    WholeCommand (untaken a.session a.input.now) (leb 8 (length a.lent.now.category_records.now - a.session.category_bytes)) (ltb a.session.day_types (length a.lent.now.day_types.now)) (count c)
whole c = whole_command _ _ _ (count c) (sym c.command_extent.ensures ∙ c.in-Whole.is)

within : (c : In-Whole) → count c ≤ c.args.session.end - c.args.session.at
within c =
    let a = c.args in
    let w = c.requires.block_bounds.0 in
    omega (arith, (whole c).there, part_length a.input.now a.session.at (a.session.end - a.session.at) (omega (arith, w.begun, w.block)))

-- the bytes found are the bytes passed
same : (c : In-Whole) → let a = c.args in
    take (count c) (untaken a.session a.input.now) ≡ take (a.session.at + count c - a.session.at) (drop a.session.at a.input.now)
same c = command_bytes c.args.session.at c.args.session.end (count c) c.args.input.now (within c)

pub overflow_add-behind : goal.overflow_add-behind
overflow_add-behind c = omega (arith, within (goal.at.overflow_add-behind c).In-Whole, c.requires.block_bounds.0)

pub slice_bounds-obey-end : goal.slice_bounds-obey-end
slice_bounds-obey-end c = omega (arith, within (goal.at.slice_bounds-obey-end c).In-Whole, c.requires.block_bounds.0)

pub obey-requires-clause-command : goal.obey-requires-clause-command
obey-requires-clause-command c =
    let found = (goal.at.obey-requires-clause-command c).In-Whole in
    rw (← same found) ((whole found).command, omega (arith, c.if-output-session-lt300.false, c.requires.held.waiting))

pub obey-requires-clause-room : goal.obey-requires-clause-room
obey-requires-clause-room c =
    let a = c.args in
    let found = (goal.at.obey-requires-clause-room c).In-Whole in
    let room = (whole found).room in
    rw (← same found) (record {
      category = λ e. omega (arith, leb-true 8 (length a.lent.now.category_records.now - a.session.category_bytes) (category_room_lem _ _ _ room e), c.requires.held.categories);
      day_type = λ e. omega (arith, ltb-true a.session.day_types (length a.lent.now.day_types.now) (day_type_room_lem _ _ _ room e));
    })

pub returns-in-Whole-clause-same_input : goal.returns-in-Whole-clause-same_input
returns-in-Whole-clause-same_input c =
    let bounds = c.requires.block_bounds.0 in
    let place = c.obey.ensures.same_place in
    let there = within (goal.at.returns-in-Whole-clause-same_input c).In-Whole in
    ((omega (arith, place), place.1, place.2), record { begun = omega (arith, place, there, bounds.begun); block = omega (arith, place, bounds.block) })

pub returns-in-Whole-clause-at_lt_at : goal.returns-in-Whole-clause-at_lt_at
returns-in-Whole-clause-at_lt_at c = λ e. omega (arith, c.obey.ensures.same_place, (whole (goal.at.returns-in-Whole-clause-at_lt_at c).In-Whole).some)

pub returns-in-Whole-clause-obeyed : goal.returns-in-Whole-clause-obeyed
returns-in-Whole-clause-obeyed c =
    let a = c.args in
    let place = c.obey.ensures.same_place in
    let found = (goal.at.returns-in-Whole-clause-obeyed c).In-Whole in
    let bytes = untaken a.session a.input.now in
    let extent = same_extent a.session (length a.output.now) a.lent.now bytes c.requires.held in
    rw (place.3, c.requires.block_bounds.1)
    (obeyed_one (setup_in a.lent.now)
    (state_in a.session a.lent.now) bytes _ _ _ _ (length a.output.now) (count found)
    (extent ∙ sym c.command_extent.ensures ∙ c.in-Whole.is)
    (rw (same found) c.obey.ensures.state_after)
    (bytes_behind a.session.at a.session.end (count found) a.input.now (within found) _ _ place.0 place.1)
    (rw (same found) c.obey.ensures.output_after))
