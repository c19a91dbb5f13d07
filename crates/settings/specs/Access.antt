-- A byte read from a part.
use Rattle.std.specs.Prelude.{ℕ, ◌<◌, ◌≡◌, List, get_or}

pub record Byte (part : List ℕ) (i r : ℕ) : Type 0 where
  pub is : r ≡ get_or part i 0
  pub small : r < 256
