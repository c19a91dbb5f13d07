-- A figure and a sum, each with the bound that keeps it within 64 bits.
use Rattle.std.specs.Prelude.{ℕ, ◌*◌, ◌≤◌, ◌≡◌}
use Rattle.metering.specs.Sum.{sum_below}

pub record Figure (bound x r : ℕ) : Type 0 where
  pub is : r ≡ x
  pub small : r ≤ bound

pub record Summed (n bound : ℕ) (f : ℕ → ℕ) (r : ℕ) : Type 0 where
  pub is : r ≡ sum_below n f
  pub small : r ≤ bound * n
