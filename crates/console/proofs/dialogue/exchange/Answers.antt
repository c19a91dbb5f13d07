-- What waits is written out, and behind a cut command is read on.
use Rattle.std.proofs.Common.{◌≡◌, ◌∙◌, ap, ◌⊎◌, ⊎_elim, ◌≤◌}
use Rattle.session.specs.declared.held.Session.{Session}
use Rattle.session.specs.declared.held.Stage.TheVariants.{Full, Short, WriteFailed}
use Rattle.session.specs.Session.{with_waiting, staged}
use Rattle.console.specs.Turn.{Flushed}
use Rattle.console.proofs.Laws.{full_exchanged, short_exchanged, all_written, failed_kept, failed_exchanged}
use Rattle.console.proofs.dialogue.exchange.Goals as goal

-- at any other stage a write failed
failed : (session sent : Session) → (session.stage ≡ Full) ⊎ (session.stage ≡ Short) → Flushed session sent → (sent.stage ≡ Full → ⊥) → (sent.stage ≡ Short → ⊥) →
    (sent ≡ staged session WriteFailed) × (1 ≤ session.waiting)
failed session sent stage flushed not_full not_short =
    ⊎_elim
    (λ (w : sent ≡ with_waiting session 0).
    let same = ap (λ (s : Session). s.stage) w in
    absurd (⊎_elim (λ (full : session.stage ≡ Full). not_full (same ∙ full)) (λ (short : session.stage ≡ Short). not_short (same ∙ short)) stage))
    (λ f. f)
    flushed

pub returns-in-Full-clause-exchanged : goal.returns-in-Full-clause-exchanged
returns-in-Full-clause-exchanged c =
    let session = c.args.session in
    let w = all_written session c.flush-sent.result c.flush-sent.ensures Full c.in-Full.is (λ e. cc) in
    rw c.with_stage.ensures (full_exchanged session c.flush-sent.result w c.args.input.now c.args.output.now c.in-Full.is)

pub returns-in-Short-clause-exchanged : goal.returns-in-Short-clause-exchanged
returns-in-Short-clause-exchanged c =
    let session = c.args.session in
    let w = all_written session c.flush-sent.result c.flush-sent.ensures Short c.in-Short.is (λ e. cc) in
    short_exchanged session c.flush-sent.result w c.args.input.now _ _ _ _ c.refill.ensures.exchanged

pub returns-in_default : goal.returns-in_default
returns-in_default c =
    let session = c.args.session in
    let sent = c.flush-sent.result in
    let lost = failed session sent c.requires.block_bounds.1 c.flush-sent.ensures c.in_default.not-Full c.in_default.not-Short in
    record {
      block_bounds_2 = failed_kept session sent lost _ _ c.requires.block_bounds.0 c.requires.waiting_in_bounds.0;
      exchanged = failed_exchanged session sent lost c.args.input.now c.args.output.now c.requires.waiting_in_bounds.0;
    }
