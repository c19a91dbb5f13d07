-- `calls::gather` meets its contract: one record's body a turn.
use Rattle.std.proofs.Common.{◌+◌, ◌*◌, ◌∙◌, sym, refl, arith}
use Rattle.commands.proofs.Laws.{no_bodies, record-length, body_step}
use Rattle.commands.proofs.calls.gather.Goals as goal

pub loop-k-init : goal.loop-k-init
loop-k-init c = (sym (no_bodies _), refl, refl)

pub loop-k-preserved : goal.loop-k-preserved
loop-k-preserved c =
    let l = c.loop-k in
    let command = c.args.command.now in
    let part = record-length command (17 + 8 * l.k) (omega (arith, c.requires, c.loop-k-test.true)) in (
      body_step command l.body _ l.to l.k _ l.invariant.0 c.append-to.ensures,
      omega (arith, l.invariant.1, part, c.append-to.ensures.end),
      c.append-to.auto.out ∙ l.invariant.2,
    )
