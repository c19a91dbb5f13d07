-- The entries are added one after the other, modulo 2 ^ 64.
use Rattle.std.proofs.Common.{◌≡◌, ◌+◌, ◌%◌, ◌∙◌, fold, rules}
use Rattle.day_reads.proofs.Laws.{folded}
use Rattle.day_reads.proofs.sums.sum_all.Goals as goal

pub returns : goal.returns
returns c =
    let is : c.fold.result ≡ fold (λ sum x. (sum + x) % 18446744073709551616) 0 c.args.entries.now = search rules in
    is ∙ folded c.args.entries.now
