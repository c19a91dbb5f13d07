-- `later_rows::copy_row` meets its contract: the first k entries are copied.
use Rattle.std.proofs.Common.{refl, sym, ap, ◌∙◌, List, arith, length}
use lib.Seq.{take-length}
use Rattle.ledger.specs.Calls.{overwritten}
use Rattle.ledger.proofs.Lists.{filling_zero, fill, front_filled}
use Rattle.later_rows.proofs.copy_row.Goals as goal

pub loop-k-init : goal.loop-k-init
loop-k-init c = sym (filling_zero _ _)

pub loop-k-preserved : goal.loop-k-preserved
loop-k-preserved c = fill _ _ _ c.loop-k.k _ c.loop-k.invariant (omega arith) refl

pub returns : goal.returns
returns c =
    let l = c.loop-k in
    let a = c.args in
    front_filled 0 (length a.row.now) l.k a.row.now a.copy.now l.copy l.invariant (omega arith) (omega arith)
    ∙ ap (λ (xs : List _). overwritten xs a.copy.now) (take-length a.row.now)
