-- A difference of two natural numbers as a signed integer of 64 bits.
use Rattle.std.proofs.Common.{ℕ, ◌<◌, ◌≡◌, ℤ, pos, ◌-ℤ◌, arith}
use Rattle.std.proofs.lemmas.Int.{ints}
use mir.Syntax.{w64}
use mir.Val.{to_z, of_z}

-- the difference of two numbers below 2 ^ 63 has 64 bits, and is read back from them
pub difference_back : (r : ℤ) (a b : ℕ) → r ≡ pos a -ℤ pos b → a < 9223372036854775808 → b < 9223372036854775808 → to_z w64 (of_z w64 r) ≡ pos a -ℤ pos b
difference_back r a b e h k = omega (arith, ints)
