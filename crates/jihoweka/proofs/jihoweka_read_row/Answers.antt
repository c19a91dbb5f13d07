-- `jihoweka_read_row` meets its contract: a row's length with number 0, or none with the number of the check that failed.
use Rattle.std.proofs.Common.{sym, ap, ◌∙◌, [], length}
use Rattle.ledger.proofs.Verdicts.{left_none, left_some}
use Rattle.jihoweka.proofs.Laws.{row_given, row_refused}
use Rattle.jihoweka.proofs.jihoweka_read_row.Goals as goal

pub returns-in-Ok-clause-value : goal.returns-in-Ok-clause-value
returns-in-Ok-clause-value c =
    ap length (c.in-Ok.ensures.row_is_stretch ∙ sym (left_none _ [] _ (row_given _ _ c.in-Ok.ensures.answers)))

pub returns-in-Ok-clause-number_after : goal.returns-in-Ok-clause-number_after
returns-in-Ok-clause-number_after c = sym (row_given _ _ c.in-Ok.ensures.answers)

pub returns-in-Err-clause-value : goal.returns-in-Err-clause-value
returns-in-Err-clause-value c = ap length (sym (left_some _ [] _ (row_refused _ _ c.in-Err.ensures.answers).1))

pub returns-in-Err-clause-number_after : goal.returns-in-Err-clause-number_after
returns-in-Err-clause-number_after c = c.number.ensures ∙ (row_refused _ _ c.in-Err.ensures.answers).0
