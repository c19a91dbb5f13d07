-- Numbers and energies as text, and text behind what a buffer holds.
use Rattle.std.specs.Prelude.{ℕ, zero, suc, ◌+◌, ◌*◌, ◌-◌, ◌/◌, ◌%◌, ◌≡◌, cond, List, [], ◌∷◌, ◌++◌, ℤ, pos, negsuc, length, take, ltb, eqb}

-- the buffer's first r bytes are now its first `at` bytes and then the text
pub record Appended (before : List ℕ) (at : ℕ) (after : List ℕ) (r : ℕ) (text : List ℕ) : Type 0 where
  pub end : r ≡ at + length text
  pub held : take r after ≡ take at before ++ text

-- the decimal digits of n, in at most `most` places
unfoldable pub decimal_in : ℕ → ℕ → List ℕ
decimal_in zero n = []
decimal_in (suc most) n = cond (ltb n 10) ((48 + n) ∷ []) (decimal_in most (n / 10) ++ ((48 + n % 10) ∷ []))

-- a u64 has at most 20 digits
unfoldable pub decimal_text : ℕ → List ℕ
decimal_text n = decimal_in 20 n

-- the last three digits of n
abbrev pub thousandths : ℕ → List ℕ
thousandths n = (48 + n / 100 % 10) ∷ (48 + n / 10 % 10) ∷ (48 + n % 10) ∷ []

-- an energy in Wh as kWh with three decimals
unfoldable pub energy_text : ℕ → List ℕ
energy_text n = decimal_text (n / 1000) ++ (46 ∷ thousandths n)

-- a blank stands before each word but a line's first
abbrev pub number_word : ℕ → List ℕ
number_word n = 32 ∷ decimal_text n

abbrev pub energy_word : ℕ → List ℕ
energy_word n = 32 ∷ energy_text n

-- `-` stands before the digits of a number below 0
abbrev pub signed_word : ℤ → List ℕ
signed_word (pos n) = number_word n
signed_word (negsuc n) = 32 ∷ 45 ∷ decimal_text (suc n)

-- the digits read back as a number, a point passed over
unfoldable pub read_from : ℕ → List ℕ → ℕ
read_from sum [] = sum
read_from sum (c ∷ cs) = read_from (cond (eqb c 46) sum (sum * 10 + (c - 48))) cs

unfoldable pub read_back : List ℕ → ℕ
read_back text = read_from 0 text
