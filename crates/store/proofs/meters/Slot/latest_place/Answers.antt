-- `latest_place` meets its contract. The invariant: the best so far, taken on over the registrations still to come, is the latest.
use Rattle.std.proofs.Common.{sym, ◌∙◌, ap}
use Rattle.store.specs.Meters.{key_by}
use Rattle.store.proofs.Laws.{used_more, latest_taken, latest_left}
use Rattle.store.proofs.meters.Slot.latest_place.Goals as goal
use Rattle.store.proofs.meters.Slot.latest_place.Goals.{then-takes_over, else-takes_over}

pub loop-k-preserved : goal.loop-k-preserved
loop-k-preserved c =
    let l = c.loop-k in
    let s = c.args.self in
    let low = c.loop-k-test.true in
    let read = c.registration-next.ensures in
    let more = used_more s.slots s.meters.now s.slot l.k low (λ e. c.if-next-eq0.false (ap (λ r. r.status) read ∙ e)) in
    let whole = rw more at l.invariant.2 in
    let by = key_by c.args.key in
    let key = c.of-next_key.ensures ∙ ap by read in
    let test = c.takes_over.ensures in
    elim c.if-takes_over.branch [
      | then-takes_over w ↦ (
        rw w.best-is low,
        rw w.best-is (w.best_key-is ∙ key),
        rw w.best-is (sym (latest_taken by c.args.bound _ _ _ key l.invariant.1 test w.if-takes_over.true) ∙ whole),
      )
      | else-takes_over w ↦ (
        rw w.best-is l.invariant.0,
        rw w.best-is (w.best_key-is ∙ l.invariant.1),
        rw w.best-is (sym (latest_left by c.args.bound _ _ _ key l.invariant.1 test w.if-takes_over.false) ∙ whole),
      )
    ]
