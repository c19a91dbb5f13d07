-- Lists made from a function of the place, and the numbers that pass a test.
use Rattle.std.specs.Prelude.{ℕ, zero, suc, Bool, cond, List, [], ◌∷◌, ◌++◌, drop}

module _ {A : Type 0} where
  unfoldable pub tabulate : ℕ → (ℕ → A) → List A
  tabulate zero f = []
  tabulate (suc n) f = tabulate n f ++ (f n ∷ [])

  -- the first k places have f's values, the others stand
  unfoldable pub filling : ℕ → (ℕ → A) → List A → List A
  filling k f xs = tabulate k f ++ drop k xs

-- the numbers below n that pass a test, upward
unfoldable pub chosen_below : ℕ → (ℕ → Bool) → List ℕ
chosen_below zero test = []
chosen_below (suc n) test = chosen_below n test ++ cond (test n) (n ∷ []) []

-- the first of n numbers from i on that passes a test, else the one after them
unfoldable pub first_from : (ℕ → Bool) → ℕ → ℕ → ℕ
first_from test zero i = i
first_from test (suc n) i = let rest = first_from test n (suc i) in cond (test i) i rest
