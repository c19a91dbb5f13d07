-- A run date of the walk over later dates.
use Rattle.std.specs.Prelude.{ℕ, ◌<◌, ◌≡◌, ◌≢◌, List, get_or}
use Rattle.ledger.specs.Store.{row_length}
use Rattle.ledger.specs.Table.{tabulate}
use Rattle.ledger.specs.Calls.{Published, Placing, follow_row, inherited_after, moved_in_row}

-- the row of date d follows: `inherited` and what is published become inherited' and p', where anything moves the row is placed, and so many cells move
pub record Followed (place : Placing) (settings : List ℕ) (d : ℕ) (inherited : List ℕ) (p : Published) (inherited' : List ℕ) (p' : Published) (more : ℕ) : Type 0 where
  pub moves : more ≡ moved_in_row (row_length settings) p.cells d (λ k. get_or inherited k 0)
  pub stays : more ≡ 0 → p' ≡ p
  pub places : more ≢ 0 → p' ≡ place settings d (tabulate (row_length settings) (follow_row (row_length settings) p.cells d (λ k. get_or inherited k 0))) p
  pub inherits : (k : ℕ) → k < row_length settings → get_or inherited' k 0 ≡ inherited_after (row_length settings) p.cells d (λ j. get_or inherited j 0) k
