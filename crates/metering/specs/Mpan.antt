-- MPAN: the number of a metering point, with the industry check digit.
use Rattle.std.specs.Prelude.{ℕ, ◌*◌, ◌/◌, ◌%◌, ◌-◌, ◌^◌, Bool, ◌&&◌, List, [], ◌∷◌, leb, eqb, get_or}
use Rattle.metering.specs.Sum.{sum_below}

-- the weights of the first twelve digits
unfoldable pub weights : List ℕ
weights = 3 ∷ 5 ∷ 7 ∷ 13 ∷ 17 ∷ 19 ∷ 23 ∷ 29 ∷ 31 ∷ 37 ∷ 41 ∷ 43 ∷ []

-- digit i of a number that is read as 13 digits, counted from 0 at the left
unfoldable pub digit : ℕ → ℕ → ℕ
digit n i = n / 10 ^ (12 - i) % 10

-- digit i times its weight
unfoldable pub product : ℕ → ℕ → ℕ
product n i = get_or weights i 0 * digit n i

-- the sum of the first twelve digits, each times its weight
unfoldable pub weighted_sum : ℕ → ℕ
weighted_sum n = sum_below 12 (product n)

unfoldable pub check_digit : ℕ → ℕ
check_digit n = weighted_sum n % 11 % 10

-- 1 to 9999999999999, and the thirteenth digit is the check digit
unfoldable pub mpan_valid : ℕ → Bool
mpan_valid n = leb 1 n && leb n 9999999999999 && eqb (check_digit n) (digit n 12)
