-- `weighted_sum` meets its contract: each turn takes the last weight off those still to come, and the last digit off the rest.
use Rattle.std.proofs.Common.{ℕ, suc, ◌≤◌, ◌<◌, ◌+◌, ◌*◌, ◌/◌, ◌%◌, ◌-◌, ◌^◌, ◌≡◌, ◌∷◌, ◌++◌, List, [], pow-suc, arith, get_or, length}
use native.Mathlib.Nat.{div-div-eq-div-mul}
use Rattle.std.proofs.lemmas.Grind.{common_steps}
use Rattle.metering.specs.Sum.{sum_below, sum_below_suc, sum_below_zero}
use Rattle.metering.specs.Mpan.{weights, digit, product}
use Rattle.metering.proofs.Laws.{weighted_sum_le}
use Rattle.metering.proofs.mpan.weighted_sum.Goals as goal
use Rattle.metering.proofs.mpan.weighted_sum.Goals.{In-Some}

-- the last of the weights still to come, and those before it
module _ (n rest weight : ℕ) (left before : List ℕ) (is : left ≡ before ++ weight ∷ []) (few : length left ≤ 12)
    (first : (k : ℕ) → k < length left → get_or left k 0 ≡ get_or weights k 0) (digits : rest ≡ n / 10 ^ (13 - length left)) where
  one-less : length left ≡ suc (length before)
  one-less = grind (arith, common_steps)

  first-before : (k : ℕ) → k < length before → get_or before k 0 ≡ get_or weights k 0
  first-before k h = grind (arith, common_steps, first k)

  rest-after : rest / 10 ≡ n / 10 ^ (13 - length before)
  rest-after = let e : 13 - length before ≡ suc (13 - length left) = omega (arith, one-less) in rw (digits, e, pow-suc, div-div-eq-div-mul)

  last-weight : weight ≡ get_or weights (length before) 0
  last-weight = grind (arith, common_steps, first (length before))

  sum-before : sum_below (length left) (product n) ≡ sum_below (length before) (product n) + weight * (rest % 10)
  unfolding product digit
  sum-before =
      let e : 12 - length before ≡ 13 - length left = omega (arith, one-less) in
      rw (one-less, sum_below_suc, last-weight, digits, e)

-- what one turn adds is the product that leaves the sum still to come
turn : (c : In-Some) → let l = c.loop-weight in
    sum_below (length l.weight-iterator.iter.rest.now) (product c.args.mpan)
    ≡ sum_below (length c.next.new.self.iter.rest.now) (product c.args.mpan) + c.in-Some.weight.now * (l.rest % 10)
turn c = let h = c.loop-weight.invariant in sum-before _ _ _ _ _ c.in-Some.ensures.steps h.few h.first h.digits

pub overflow_mul-sum : goal.overflow_mul-sum
overflow_mul-sum c = omega (arith, turn (goal.at.overflow_mul-sum c).In-Some, weighted_sum_le c.args.mpan)

pub overflow_add-sum : goal.overflow_add-sum
overflow_add-sum c = omega (arith, turn (goal.at.overflow_add-sum c).In-Some, weighted_sum_le c.args.mpan)

pub loop-weight-preserved : goal.loop-weight-preserved
loop-weight-preserved c =
    let h = c.loop-weight.invariant in
    let is = c.in-Some.ensures.steps in record {
      few = omega (arith, one-less _ _ _ _ _ is h.few h.first h.digits);
      first = first-before _ _ _ _ _ is h.few h.first h.digits;
      digits = rest-after _ _ _ _ _ is h.few h.first h.digits;
      sum_so_far = omega (arith, turn (goal.at.loop-weight-preserved c).In-Some);
    }

pub returns : goal.returns
returns c =
    let h = c.loop-weight.invariant in
    let none = c.in-None.ensures.steps.0 in
    omega (arith, rw none at h.sum_so_far, sum_below_zero (product c.args.mpan))
