-- `later_rows::follow_row` meets its contract: of both rows the first k places are done, and as many are counted.
use Rattle.std.proofs.Common.{◌≡◌, refl, sym, ap₂, ◌∙◌, arith, get_or}
use Rattle.ledger.specs.Calls.{followed_entry, inherited_beyond, moved_entry}
use Rattle.entries.proofs.RowLaws.{unfilled, filled_whole, differing_zero, differing_le, moved_entry_le, count_next}
use Rattle.ledger.proofs.Lists.{filling_zero, fill}
use Rattle.later_rows.proofs.follow_row.Goals as goal

pub loop-k-init : goal.loop-k-init
loop-k-init c = (sym (filling_zero _ _), sym (filling_zero _ _), sym (differing_zero _ _))

pub overflow_add-moved : goal.overflow_add-moved
overflow_add-moved c = omega (arith, differing_le, moved_entry_le)

pub loop-k-preserved : goal.loop-k-preserved
loop-k-preserved c =
    let l = c.loop-k in
    let a = c.args in
    let old : get_or l.row l.k 0 ≡ get_or a.row.now l.k 0 = unfilled _ _ l.row l.k l.invariant.0 (omega arith) in
    let before : get_or l.inherited l.k 0 ≡ get_or a.inherited.now l.k 0 = unfilled _ _ l.inherited l.k l.invariant.1 (omega arith) in
    let new : c.followed-new.result ≡ followed_entry (get_or a.row.now l.k 0) (get_or a.inherited.now l.k 0) =
    c.followed-new.ensures ∙ ap₂ followed_entry old before in (
      fill _ _ l.row l.k _ l.invariant.0 (omega arith) new,
      fill _ _ l.inherited l.k _ l.invariant.1 (omega arith) (c.inherited_beyond.ensures ∙ ap₂ inherited_beyond old before),
      count_next _ _ l.k l.moved _ l.invariant.2 (c.moved_entry-moved.ensures ∙ ap₂ moved_entry old new),
    )

pub returns-clause-row_after : goal.returns-clause-row_after
returns-clause-row_after c = filled_whole _ _ c.loop-k.row c.loop-k.k _ c.loop-k.invariant.0 (omega arith) refl
