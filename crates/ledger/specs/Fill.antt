-- Filling a hole from a register advance (change request 2026-01): the advance, in Wh, goes to a date's missing periods by a category's shape.
-- Below, k is how many periods come before one, so k is below P.
use Rattle.std.specs.Prelude.{ℕ, ◌+◌, ◌-◌, ◌*◌, ◌/◌, ◌%◌, Bool, cond, not, ◌&&◌, ◌||◌, List, ◌==◌, nat_lt, slice_index}
use Rattle.metering.specs.Sum.{sum_below}
use Rattle.ledger.specs.Method.{Category, is_smart}
use Rattle.ledger.specs.Table.{tabulate, first_from}

-- ---- whose shape

-- a category's; or that of a domestic Advanced meter opted out of half-hours, which its group, quantity and connection name
pub data ShapeOf : Type 0 where
  of_category : ℕ → ShapeOf
  of_opted_out : ℕ → ℕ → ℕ → ShapeOf

-- such a meter takes the Smart domestic category with these (003, opted out meters)
unfoldable pub is_opted_out_shape : ℕ → ℕ → ℕ → Category → Bool
is_opted_out_shape group quantity connection a =
    is_smart a && a.domestic == 1 && a.group == group && a.quantity == quantity && a.connection == connection

-- its number, which is no category's where there is none
unfoldable pub shape_category : (ℕ → Category) → ℕ → ShapeOf → ℕ
shape_category category categories (of_category c) = c
shape_category category categories (of_opted_out group quantity connection) =
    first_from (λ c. is_opted_out_shape group quantity connection (category c)) categories 0

-- ---- what a fill is asked: any mark but 0 says that the period is missing; `room` is how many numbers the list lent for the result holds

pub record FillCall : Type 0 where
  pub shape : ShapeOf
  pub date : ℕ
  pub advance : ℕ
  pub marks : List ℕ
  pub room : ℕ

-- ---- shares

-- what a period counts for: its value where it is missing, else nothing
unfoldable pub weight_by : List ℕ → (ℕ → ℕ) → ℕ → ℕ
weight_by marks value k = cond (slice_index marks k == 0) 0 (value k)

-- 17, where this is false: nothing is missing, or the values of the missing periods sum to 0
unfoldable pub may_fill : ℕ → (ℕ → ℕ) → Bool
may_fill periods weight = not (sum_below periods weight == 0)

-- period i comes before k: its remainder is larger, or equal and i is the earlier
unfoldable pub comes_before : (ℕ → ℕ) → ℕ → ℕ → Bool
comes_before remainder i k = nat_lt (remainder k) (remainder i) || (remainder i == remainder k && nat_lt i k)

-- how many of n periods come before k
unfoldable pub count_before : ℕ → (ℕ → ℕ) → ℕ → ℕ
count_before n remainder k = sum_below n (λ i. cond (comes_before remainder i k) 1 0)

module _ (periods : ℕ) (weight : ℕ → ℕ) (advance : ℕ) where
  -- the whole part of advance × value / sum, and what the division leaves
  unfoldable pub whole_part : ℕ → ℕ
  whole_part k = advance * weight k / sum_below periods weight

  unfoldable pub remainder_of : ℕ → ℕ
  remainder_of k = advance * weight k % sum_below periods weight

  -- the Wh that the whole parts leave over
  unfoldable pub left_over : ℕ
  left_over = advance - sum_below periods whole_part

  -- they go one each to the largest remainders, the earlier period first among equals
  unfoldable pub filled_value : ℕ → ℕ
  filled_value k = whole_part k + cond (nat_lt (count_before periods remainder_of k) left_over) 1 0

  unfoldable pub filled_values : List ℕ
  filled_values = tabulate periods filled_value
