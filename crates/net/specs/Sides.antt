-- Whether a category may be netted with so many export categories.
use Rattle.std.specs.Prelude.{ℕ, Bool, not, ◌&&◌, List, eqb}
use Rattle.ledger.specs.Method.{is_smart}
use Rattle.ledger.specs.Net.{active_import}
use Rattle.ledger.specs.Store.{category_of}

unfoldable pub paired_with : List ℕ → ℕ → ℕ → Bool
paired_with settings category exports =
    is_smart (category_of settings category) && eqb (category_of settings category).quantity active_import && not (eqb exports 0)
