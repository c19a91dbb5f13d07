-- Lists of bytes: as a test that computes, and their parts.
use Rattle.std.proofs.Common.{◌≡◌, ℕ, zero, suc, ◌+◌, Bool, true, ◌&&◌, ltb, List, [], ◌∷◌, ◌++◌, take, drop, arith, get_or-drop, ltb-true}
use Rattle.ledger.proofs.Ready.{both}
use Rattle.ledger.specs.Engine.{AreBytes}

abbrev pub all_bytes : List ℕ → Bool
all_bytes [] = true
all_bytes (x ∷ xs) = ltb x 256 && all_bytes xs

pub are_bytes : (xs : List ℕ) → all_bytes xs ≡ true → AreBytes xs
are_bytes [] e i = omega arith
are_bytes (x ∷ xs) e zero = ltb-true x 256 (both (ltb x 256) (all_bytes xs) e).0
are_bytes (x ∷ xs) e (suc i) = are_bytes xs (both (ltb x 256) (all_bytes xs) e).1 i

pub bytes_append : (xs ys : List ℕ) → AreBytes xs → AreBytes ys → AreBytes (xs ++ ys)
bytes_append [] ys h k i = k i
bytes_append (x ∷ xs) ys h k zero = h 0
bytes_append (x ∷ xs) ys h k (suc i) = bytes_append xs ys (λ j. h (suc j)) k i

pub bytes_take : (n : ℕ) (xs : List ℕ) → AreBytes xs → AreBytes (take n xs)
bytes_take zero xs h i = omega arith
bytes_take (suc n) [] h i = omega arith
bytes_take (suc n) (x ∷ xs) h zero = h 0
bytes_take (suc n) (x ∷ xs) h (suc i) = bytes_take n xs (λ j. h (suc j)) i

pub bytes_drop : (n : ℕ) (xs : List ℕ) → AreBytes xs → AreBytes (drop n xs)
bytes_drop n xs h i = rw (get_or-drop n xs i 0) (h (n + i))
