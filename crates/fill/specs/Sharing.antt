-- The advance divided among the periods of a date, and the Wh left over handed out.
use Rattle.std.specs.Prelude.{ℕ, suc, ◌+◌, ◌-◌, ◌≤◌, ◌<◌, ◌≡◌, ◌&&◌, ◌||◌, cond, List, eqb, ltb, length, get_or}
use Rattle.metering.specs.Sum.{sum_below}
use Rattle.ledger.specs.Table.{tabulate}
use Rattle.ledger.specs.Fill.{weight_by, whole_part, remainder_of, left_over}
use Rattle.ledger.specs.Threshold.{reaching, equal_to}
use Rattle.fill.specs.declared.division.Part.{Part}
use Rattle.store.specs.declared.column.Column.{Column}
use Rattle.store.specs.Column.{Reaches}
use Rattle.store.specs.Column.{value_after}

-- what the period after k others counts for
abbrev pub weight_in : Column → List ℕ → ℕ → List ℕ → ℕ → ℕ
weight_in column cells d marks = weight_by marks (value_after column cells d)

-- ---- parts of an advance

-- past the end of a list
abbrev pub no_part : Part
no_part = record { whole = 0; remainder = 0 }

abbrev pub whole_in : List Part → ℕ → ℕ
whole_in parts k = (get_or parts k no_part).whole

abbrev pub remainder_in : List Part → ℕ → ℕ
remainder_in parts k = (get_or parts k no_part).remainder

-- what the division gives the period after k others
abbrev pub part_of : ℕ → (ℕ → ℕ) → ℕ → ℕ → Part
part_of periods weight advance k = record { whole = whole_part periods weight advance k; remainder = remainder_of periods weight advance k }

-- ---- before a division: `sum` is that of the weights, 96 of 32 bits at most, and an advance has 32 bits

pub record MayShare (cells : List ℕ) (column : Column) (d : ℕ) (marks : List ℕ) (sum advance : ℕ) : Type 0 where
  pub reaches : Reaches cells column d
  pub marked : column.periods ≤ length marks
  pub summed : sum ≡ sum_below column.periods (weight_in column cells d marks)
  pub some : 1 ≤ sum
  pub low : sum ≤ 412316860320
  pub small : advance ≤ 4294967295

pub record MayDivide (cells : List ℕ) (column : Column) (d : ℕ) (marks : List ℕ) (sum advance : ℕ) (parts : List Part) : Type 0 where
  pub shares : MayShare cells column d marks sum advance
  pub long : length parts ≡ column.periods

-- ---- after it

pub record Divided (periods : ℕ) (weight : ℕ → ℕ) (advance : ℕ) (parts : List Part) (left : ℕ) : Type 0 where
  pub parts_are : parts ≡ tabulate periods (part_of periods weight advance)
  pub left_is : left ≡ left_over periods weight advance

-- ---- the threshold

-- of the first n remainders at most `left` are above t, and at least `left` reach it
pub record Tells (n : ℕ) (remainder : ℕ → ℕ) (left most t : ℕ) : Type 0 where
  pub above : reaching n remainder (suc t) ≤ left
  pub within : left ≤ reaching n remainder t
  pub low : t ≤ most

pub record MaySearch (parts : List Part) (most left : ℕ) : Type 0 where
  pub few : length parts ≤ 96
  pub none_above : reaching (length parts) (remainder_in parts) (suc most) ≤ left
  pub enough : left ≤ length parts
  pub low : most ≤ 412316860320

-- ---- what the period after k others gets, where `spare` of the remainders equal to the threshold get one

abbrev pub handed_out : List Part → ℕ → ℕ → ℕ → ℕ
handed_out parts t spare k =
    whole_in parts k
    + cond (ltb t (remainder_in parts k) || (eqb (remainder_in parts k) t && ltb 0 (spare - equal_to k (remainder_in parts) t))) 1 0

pub record MayHandOut (parts : List Part) (filled : ℕ) : Type 0 where
  pub small : (k : ℕ) → k < length parts → whole_in parts k ≤ 4294967295
  pub room : length parts ≤ filled
