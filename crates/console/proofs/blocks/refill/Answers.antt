-- The bytes at hand go to the front, what is read behind them, and the read's answer says how it goes on.
use Rattle.std.proofs.Common.{rules, arith, ◌≡◌, refl, sym, ap, ◌∙◌, []}
use Rattle.session.specs.declared.held.Session.{Session}
use Rattle.session.specs.declared.held.Stage.{Stage}
use Rattle.session.specs.declared.held.Stage.TheVariants.{Going, Full, Short, InputEnd, SaidBad, ReadFailed, WriteFailed}
use Rattle.session.specs.Session.{last_line}
use Rattle.console.proofs.Laws.{refilled}
use Rattle.console.proofs.blocks.refill.Goals as goal

-- a stage that says nothing
silent : (stage : Stage) → (stage ≡ SaidBad → ⊥) → [] ≡ last_line stage
silent Going n = refl
silent Full n = refl
silent Short n = refl
silent InputEnd n = refl
silent SaidBad n = absurd (n refl)
silent ReadFailed n = refl
silent WriteFailed n = refl

pub returns-in-SaidBad-clause-exchanged : goal.returns-in-SaidBad-clause-exchanged
returns-in-SaidBad-clause-exchanged c =
    let p = c.say_bad.ensures in
    refilled c.args.session c.say_bad.result c.args.input.now c.shift.new.block c.read_some.new.block _ _ _
    c.requires.block_bounds.0
    c.requires.block_bounds.1
    c.requires.waiting_value.2
    c.shift.ensures
    (omega arith)
    (search rules)
    c.unwrap_or.ensures
    (ap (λ (x : Session). x.at) p.value)
    (ap (λ (x : Session). x.end) p.value)
    (ap (λ (x : Session). x.stage) p.value ∙ (sym c.in-SaidBad.is ∙ c.stage_after.ensures))
    (rw (ap (λ (x : Session). x.stage) p.value) (p.output_after ∙ rw c.requires.waiting_value.0 refl))

pub returns-in_default-clause-exchanged : goal.returns-in_default-clause-exchanged
returns-in_default-clause-exchanged c =
    let p = c.with_stage.ensures in
    refilled c.args.session c.with_stage.result c.args.input.now c.shift.new.block c.read_some.new.block _ _ _
    c.requires.block_bounds.0
    c.requires.block_bounds.1
    c.requires.waiting_value.2
    c.shift.ensures
    (omega arith)
    (search rules)
    c.unwrap_or.ensures
    (ap (λ (x : Session). x.at) p)
    (ap (λ (x : Session). x.end) p)
    (ap (λ (x : Session). x.stage) p ∙ c.stage_after.ensures)
    (rw p (rw c.requires.waiting_value.0 (silent c.stage_after.result c.in_default.not-SaidBad)))
