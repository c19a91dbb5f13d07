-- `category_records::key_taken` meets its contract: `any` goes through the numbers below i.
use Rattle.std.proofs.Common.{◌∙◌, refl, rules, tests, arith}
use Rattle.std.proofs.lemmas.Iterator.{YieldsList-from_range}
use Rattle.std.proofs.lemmas.Iterator.Search.{any_from_yields_List}
use Rattle.ledger.specs.Checks.{same_key}
use Rattle.opening.proofs.Laws.{any_listed}
use Rattle.opening.proofs.category_records.key_taken.Goals as goal

pub returns : goal.returns
returns c =
    let a = c.args in
    any_from_yields_List (λ k. same_key a.records.now k a.i) _ _ c.any.result c.any.ensures.ran (YieldsList-from_range _ _ a.i refl (omega arith)) (λ x b q k. search (rules, tests))
    ∙ any_listed _ a.i
