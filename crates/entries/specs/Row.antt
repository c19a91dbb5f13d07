-- A row put in place.
use Rattle.std.specs.Prelude.{ℕ, List, ◌++◌, take, drop}

-- ys in place of the n entries from `at` on
abbrev pub spliced : List ℕ → List ℕ → ℕ → ℕ → List ℕ
spliced xs ys at n = take at xs ++ (ys ++ drop n (drop at xs))
