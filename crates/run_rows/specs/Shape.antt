-- A category's entry from sums and counts.
use Rattle.std.specs.Prelude.{ℕ, ◌+◌, ◌*◌, ◌≤◌, Bool, List, get_or}
use Rattle.ledger.specs.Method.{fresh_of}
use Rattle.ledger.specs.Calls.{row_entry}

-- the entry at place p of a category's row, whose stretch starts at `at`
abbrev pub shape_at : Bool → ℕ → ℕ → List ℕ → List ℕ → List ℕ → ℕ → List ℕ → List ℕ → ℕ → ℕ
shape_at smart m date sums counts inherited at familySums familyCounts p =
    row_entry date
    (fresh_of smart m (get_or sums (at + p) 0) (get_or counts (at + p) 0) (get_or familySums p 0) (get_or familyCounts p 0))
    (get_or inherited (at + p) 0)

-- a sum and count of readings, for whose average an entry has room
pub record Averaged (s n : ℕ) : Type 0 where
  pub sum : s ≤ n * 4294967295
  pub count : n ≤ 1024
