-- Averages in whole Wh, halves up, and what rounding drops.
use Rattle.std.specs.Prelude.{ℕ, ◌+◌, ◌*◌, ◌/◌, ◌≡◌, cond, eqb, ℤ, pos, neg_ℤ, ◌+ℤ◌, ◌-ℤ◌, ◌≤ℤ◌, ◌<ℤ◌}

-- s / n to the nearest whole number, halves up: s / n plus a half, rounded down
unfoldable pub average : ℕ → ℕ → ℕ
average s n = (2 * s + n) / (2 * n)

-- what it drops, with its sign: the sum less the average times the count
unfoldable pub remainder : ℕ → ℕ → ℤ
remainder s n = pos s -ℤ pos (average s n * n)

-- both once more: times the count the value makes up the sum with the remainder, whose double is at least minus the count and below the count
pub record Rounded (s n value : ℕ) (dropped : ℤ) : Type 0 where
  pub makes_up : pos (value * n) +ℤ dropped ≡ pos s
  pub at_least : neg_ℤ (pos n) ≤ℤ (dropped +ℤ dropped)
  pub below : (dropped +ℤ dropped) <ℤ pos n

-- the annual figure of a sum over some days: the sum for 365 of them, else sum times 365 / days
unfoldable pub annual : ℕ → ℕ → ℕ
annual sum days = cond (eqb days 365) sum (average (sum * 365) days)
