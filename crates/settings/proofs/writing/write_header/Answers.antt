-- `settings::writing::write_header` meets its contract: each number fits into two bytes, and the words stand side by side.
use Rattle.std.proofs.Common.{arith}
use Rattle.ledger.specs.Opening.{Opening}
use Rattle.settings.specs.Opening.{opening_call}
use Rattle.settings.proofs.WritingLaws.{words_fit, header_written}
use Rattle.settings.proofs.writing.write_header.Goals as goal
use Rattle.settings.proofs.writing.write_header.Goals.{Start}

abbrev call : Start → Opening
call s = let a = s.args in opening_call a.terms a.windows.now a.category_records.now a.day_types.now

pub put_word-requires : goal.put_word-requires
put_word-requires c = (omega arith, (words_fit (call (goal.at.put_word-requires c).Start) c.requires.day_types_value).0)

pub put_word-requires-2 : goal.put_word-requires-2
put_word-requires-2 c = (omega arith, (words_fit (call (goal.at.put_word-requires-2 c).Start) c.requires.day_types_value).1)

pub put_word-requires-3 : goal.put_word-requires-3
put_word-requires-3 c = (omega arith, (words_fit (call (goal.at.put_word-requires-3 c).Start) c.requires.day_types_value).2)

pub put_word-requires-4 : goal.put_word-requires-4
put_word-requires-4 c = (omega arith, (words_fit (call (goal.at.put_word-requires-4 c).Start) c.requires.day_types_value).3)

pub returns : goal.returns
returns c =
    header_written (call (goal.at.returns c).Start) c.args.settings.now c.put_word.ensures c.put_word-2.ensures c.put_word-3.ensures c.put_word-4.ensures c.write_windows.ensures
