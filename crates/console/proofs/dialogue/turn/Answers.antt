-- `turn` meets its contract: commands are obeyed, and then the blocks are exchanged.
use Rattle.std.proofs.Common.{◌≡◌, ◌⊎◌, arith}
use Rattle.session.specs.declared.held.Stage.TheVariants.{Full, Short}
use Rattle.session.specs.Session.{setup_in, state_in}
use Rattle.console.proofs.Turning.{pauses, room_left}
use Rattle.console.proofs.dialogue.turn.Goals as goal
use Rattle.console.proofs.dialogue.turn.Goals.{In_default}

-- what stopped the commands, where it was not `bad`
pause : (c : In_default) → (c.obey_all-told.result.stage ≡ Full) ⊎ (c.obey_all-told.result.stage ≡ Short)
pause c =
    let a = c.args in
    let told = c.obey_all-told in
    pauses (setup_in a.lent.now)
    (state_in told.result told.new.lent) _ _ _ _ c.in_default.not-SaidBad c.obey_all-told.ensures.stage_value c.obey_all-told.ensures.obeyed.because

pub exchange-requires-clause-block_bounds : goal.exchange-requires-clause-block_bounds
exchange-requires-clause-block_bounds c =
    (c.obey_all-told.ensures.same_input.1, pause (goal.at.exchange-requires-clause-block_bounds c).In_default)

pub exchange-requires-clause-waiting_in_bounds : goal.exchange-requires-clause-waiting_in_bounds
exchange-requires-clause-waiting_in_bounds c =
    let a = c.args in
    let told = c.obey_all-told in (
      omega (arith, told.ensures.held_2.waiting, told.auto),
      omega (arith, c.requires.held.1, told.auto),
      room_left (setup_in a.lent.now)
          (state_in told.result told.new.lent)
          told.result c.args.input.now _ _ (λ i. omega (arith, c.slice_known-1.given i)) told.ensures.same_input.1 c.requires.held.2
          told.ensures.obeyed.because,
    )
