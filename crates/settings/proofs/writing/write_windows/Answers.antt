-- `writing::write_windows` meets its contract: the first k minutes are written.
use Rattle.std.proofs.Common.{◌∙◌}
use Rattle.settings.proofs.WritingLaws.{minutes_more}
use Rattle.settings.proofs.writing.write_windows.Goals as goal

pub loop-k-preserved : goal.loop-k-preserved
loop-k-preserved c = c.put_word.ensures ∙ rw (c.minute_at.ensures, c.loop-k.invariant) (minutes_more c.args.settings.now c.args.windows.now c.loop-k.k)
