use Rattle.std.proofs.Common.{◌-◌, ◌≡◌}
use Rattle.ledger.specs.Table.{first_from}
use Rattle.ledger.specs.Fill.{is_opted_out_shape}
use Rattle.ledger.specs.Store.{categories_of, category_of}
use Rattle.fill.proofs.opted_out.opted_out_category.Given as goal

abbrev pub invariant-loop-category : goal.invariant-loop-category
invariant-loop-category l =
    (first_from (λ c. is_opted_out_shape l.group l.quantity l.connection (category_of l.settings.bytes.now c)) (l.categories - l.category) l.category
    ≡ first_from (λ c. is_opted_out_shape l.group l.quantity l.connection (category_of l.settings.bytes.now c)) (categories_of l.settings.bytes.now) 0)
