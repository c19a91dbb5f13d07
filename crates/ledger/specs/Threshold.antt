-- For the code's contracts, and no part of what is promised: who gets one of the Wh left over, found by a threshold. Of the remainders above it
-- each does, of those equal to it the earlier ones.
use Rattle.std.specs.Prelude.{ℕ, cond, ◌==◌, nat_le}
use Rattle.metering.specs.Sum.{sum_below}

-- how many of the first n numbers are at least t
unfoldable pub reaching : ℕ → (ℕ → ℕ) → ℕ → ℕ
reaching n remainder t = sum_below n (λ k. cond (nat_le t (remainder k)) 1 0)

-- and how many are t
unfoldable pub equal_to : ℕ → (ℕ → ℕ) → ℕ → ℕ
equal_to n remainder t = sum_below n (λ k. cond (remainder k == t) 1 0)
