-- What is divided and handed out is what the ledger's definition gives.
use Prim.Native.Nat.{ℕ, suc, ◌+◌, ◌-◌, ◌*◌, ◌/◌, ◌%◌, ◌≤◌, ◌<◌}
use mathlib.Core.Path.{◌≡◌, sym, ap, ◌∙◌}
use mathlib.Core.Logic.{◌≢◌}
use mathlib.Core.Bool.{◌&&◌, ◌||◌, cond}
use mathlib.Core.List.{List}
use native.Mathlib.Omega.{arith}
use native.Mathlib.Nat.{pos_of_ne-zero}
use native.Mathlib.Numerals.{add-one}
use borrow.Table.Steps.{cases}
use borrow.Author.Tests.{lt-ltb, le-ltb, ltb-true, ltb-false}
use lib.Dec.{ltb, eqb}
use Rattle.std.proofs.Common.{append-nil}
use lib.Seq.{drop-length}
use lib.ListN.{length, get_or}
use Rattle.metering.specs.Sum.{sum_below, sum_below_suc, sum_below_zero}
use Rattle.ledger.specs.Table.{filling, tabulate}
use Rattle.ledger.specs.Fill.{weight_by, whole_part, remainder_of, filled_value, filled_values}
use Rattle.ledger.specs.Calls.{overwritten}
use Rattle.ledger.specs.Threshold.{reaching, equal_to}
use Rattle.ledger.proofs.Lists.{length_tabulate, tabulate_at, written_is}
use Rattle.ledger.proofs.Fills.{before_cong, reaching_zero, reaching_next, none_reaches, threshold_tells, part_and_remainder, part_so_far, part_low, left_over_low}
use Rattle.store.specs.declared.column.Column.{Column}
use Rattle.store.specs.Column.{Reaches}
use Rattle.entries.specs.Sums.{Figure, Summed}
use Rattle.store.specs.Column.{value_after}
use Rattle.fill.specs.declared.division.Part.{Part}
use Rattle.fill.specs.Sharing.{weight_in, MayShare, no_part, whole_in, remainder_in, part_of, Divided, Tells, MaySearch, handed_out, MayHandOut}

-- what a mark says of a period's value is what the period counts for
pub weighed : (column : Column) (cells marks : List ℕ) (d k : ℕ) {bound r : ℕ} → Figure bound (cond (eqb (get_or marks k 0) 0) 0 (value_after column cells d k)) r →
    Figure bound (weight_in column cells d marks k) r
unfolding weight_by
weighed column cells marks d k f = f

-- what is known where a sum of the missing periods' values is not 0
pub may_share : {cells : List ℕ} {column : Column} {d : ℕ} {marks : List ℕ} {sum : ℕ} (advance : ℕ) → Reaches cells column d → column.periods ≤ length marks →
    Summed column.periods 4294967295 (weight_in column cells d marks) sum → (sum ≡ 0 → ⊥) → advance < 4294967296 → MayShare cells column d marks sum advance
may_share advance reaches marked summed some small =
    record {
      reaches = reaches;
      marked = marked;
      summed = summed.is;
      some = pos_of_ne-zero some;
      low = let most = reaches.periods.1 in omega (arith, summed.small);
      small = omega arith;
    }

-- ---- parts, remainders and what they leave

pub none_taken : (f : ℕ → ℕ) (advance : ℕ) → advance + sum_below 0 f ≡ advance
none_taken f advance = rw sum_below_zero (omega arith)

module _ (n : ℕ) (weight : ℕ → ℕ) (advance sum w : ℕ) (k : ℕ) (summed : sum ≡ sum_below n weight) (is : w ≡ weight k) where
  next_whole : advance * w / sum ≡ whole_part n weight advance k
  unfolding whole_part
  next_whole = rw (summed, is)

  pub next_part : (let part : Part = record { whole = advance * w / sum; remainder = advance * w % sum } in part) ≡ part_of n weight advance k
  unfolding whole_part remainder_of
  next_part = rw (summed, is)

  -- the whole parts of all periods are no more than the advance
  module _ (some : 1 ≤ sum) (low : k < n) (left : ℕ) (so : left + sum_below k (whole_part n weight advance) ≡ advance) where
    pub part_within : advance * w / sum ≤ left
    part_within =
        let most = rw sum_below_suc at (part_so_far n weight advance (λ (z : sum_below n weight ≡ 0). omega arith) (suc k) low) in
        rw next_whole (omega arith)

    pub next_taken : left - advance * w / sum + sum_below (k + 1) (whole_part n weight advance) ≡ advance
    next_taken = let h = rw next_whole at part_within in rw (next_whole, add-one, sum_below_suc) (omega arith)

-- where all places are filled
pub all_parts : (f : ℕ → Part) (parts parts' : List Part) (k n : ℕ) → parts' ≡ filling k f parts → k ≡ n → n ≡ length parts → parts' ≡ tabulate n f
unfolding filling
all_parts f parts parts' k n so is whole = rw (so, is, whole, drop-length parts) (append-nil (tabulate (length parts) f))

-- ---- what is to spare

pub none_spared : (remainder : ℕ → ℕ) (t spare : ℕ) → spare ≡ spare - equal_to 0 remainder t
unfolding equal_to
none_spared remainder t spare = rw sum_below_zero (omega arith)

pub next_spared : (remainder : ℕ → ℕ) (t spare k : ℕ) {rest next : ℕ} → rest ≡ spare - equal_to k remainder t → next ≡ rest - cond (eqb (remainder k) t) 1 0 →
    next ≡ spare - equal_to (k + 1) remainder t
unfolding equal_to
next_spared remainder t spare k so is = rw (add-one, sum_below_suc) (omega arith)

-- what a turn writes
pub next_handed : (parts : List Part) (t spare k : ℕ) {rest r : ℕ} → rest ≡ spare - equal_to k (remainder_in parts) t →
    Figure 1 (cond (ltb t (remainder_in parts k) || (eqb (remainder_in parts k) t && ltb 0 rest)) 1 0) r →
    whole_in parts k + r ≡ handed_out parts t spare k
next_handed parts t spare k so f = rw (f.is, so)

-- ---- the threshold

-- while it is searched: at most `left` remainders are above the upper bound, and at least `left` reach the lower one
pub record Between (n : ℕ) (remainder : ℕ → ℕ) (left most low high : ℕ) : Type 0 where
  pub ordered : low ≤ high
  pub bounded : high ≤ most
  pub above : reaching n remainder (suc high) ≤ left
  pub within : left ≤ reaching n remainder low

pub all_between : (n : ℕ) (remainder : ℕ → ℕ) (left most : ℕ) → reaching n remainder (suc most) ≤ left → left ≤ n → Between n remainder left most 0 most
all_between n remainder left most none few =
    record { ordered = omega arith; bounded = omega arith; above = none; within = rw (reaching_zero n remainder) few }

-- the place halfway lies below the upper bound
pub halfway : (low high : ℕ) → low < high → (low ≤ low + (high - low) / 2) × (low + (high - low) / 2 < high)
halfway low high h = (omega arith, omega arith)

module _ {n : ℕ} {remainder : ℕ → ℕ} {left most low high : ℕ} (b : Between n remainder left most low high) where
  module _ (taken : low < high) {middle above : ℕ} (mid : middle ≡ low + (high - low) / 2) (is : above ≡ reaching n remainder (middle + 1)) where
    reached : reaching n remainder (suc middle) ≡ above
    reached = rw (← add-one middle) (sym is)

    pub exactly_left : above ≡ left → Tells n remainder left most middle
    exactly_left e =
        let at = halfway low high taken in
        let next = reaching_next n remainder middle in
        let here = reached in
        let top = b.bounded in
        record { above = omega arith; within = omega arith; low = omega arith }

-- what is to spare is what is left over less those above the threshold
spare_is : (left above equal : ℕ) → ltb 0 (left - above - equal) ≡ ltb (above + equal) left
spare_is left above equal =
    cases (ltb (above + equal) left)
    (λ q. let h = ltb-true (above + equal) left q in lt-ltb 0 (left - above - equal) (omega arith) ∙ sym q)
    (λ q. let h = ltb-false (above + equal) left q in le-ltb 0 (left - above - equal) (omega arith) ∙ sym q)

module _ (n : ℕ) (weight : ℕ → ℕ) (advance : ℕ) (parts : List Part) (left : ℕ) (divided : Divided n weight advance parts left) where
  long : length parts ≡ n
  long = rw divided.parts_are (length_tabulate n (part_of n weight advance))

  part_is : (k : ℕ) → k < n → get_or parts k no_part ≡ part_of n weight advance k
  part_is k h = rw divided.parts_are (tabulate_at n (part_of n weight advance) no_part k h)

  whole_is : (k : ℕ) → k < n → whole_in parts k ≡ whole_part n weight advance k
  whole_is k h = ap (λ (part : Part). part.whole) (part_is k h)

  remainder_is : (k : ℕ) → k < n → remainder_in parts k ≡ remainder_of n weight advance k
  remainder_is k h = ap (λ (part : Part). part.remainder) (part_is k h)

  -- each period gets what the definition gives it
  handed_is : (t above most : ℕ) → Tells n (remainder_in parts) left most t → above ≡ reaching n (remainder_in parts) (suc t) → (k : ℕ) → k < n →
      handed_out parts t (left - above) k ≡ filled_value n weight advance k
  unfolding filled_value
  handed_is t above most tells is k h =
      rw (whole_is k h, ← divided.left_is, ← before_cong n _ _ remainder_is k h, threshold_tells n _ left t tells.above tells.within k h, is, spare_is left (reaching n (remainder_in parts) (suc t)) (equal_to k (remainder_in parts) t))

  pub shared_out : (t above most : ℕ) (lent written : List ℕ) → Tells (length parts) (remainder_in parts) left most t → above ≡ reaching (length parts) (remainder_in parts) (t + 1) →
      written ≡ filling (length parts) (handed_out parts t (left - above)) lent → written ≡ overwritten (filled_values n weight advance) lent
  unfolding filled_values
  shared_out t above most lent written tells is e =
      written_is n _ _ lent written (rw long at e) (handed_is t above most (rw long at tells) ((rw long at is) ∙ rw (add-one t)))

  module _ (some : 1 ≤ sum_below n weight) where
    non_zero : sum_below n weight ≢ 0
    non_zero z = omega arith

    -- remainders are below the sum
    pub may_search : (sum : ℕ) → n ≤ 96 → sum ≡ sum_below n weight → sum ≤ 412316860320 → MaySearch parts sum left
    may_search sum few is low =
        record {
          few = rw long few;
          none_above = rw long (let none = none_reaches n (remainder_in parts) sum (λ k h. let low = (part_and_remainder n weight advance non_zero k).1 in rw (remainder_is k h, is) (omega arith)) in omega arith);
          enough = rw (long, divided.left_is) (left_over_low n weight advance non_zero);
          low = low;
        }

    pub may_hand_out : (room : ℕ) → advance ≤ 4294967295 → n ≤ room → MayHandOut parts room
    may_hand_out room small high =
        record {
          small = λ k h. let h' = rw long at h in let low = part_low n weight advance non_zero k h' in rw (whole_is k h') (omega arith);
          room = rw long high;
        }
