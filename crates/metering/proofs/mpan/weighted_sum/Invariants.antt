use Rattle.std.proofs.Common.{ℕ, ◌≤◌, ◌<◌, ◌+◌, ◌/◌, ◌-◌, ◌^◌, ◌≡◌, length, get_or}
use Rattle.metering.specs.Sum.{sum_below}
use Rattle.metering.specs.Mpan.{weights, product, weighted_sum}
use Rattle.metering.proofs.mpan.weighted_sum.Given as goal

-- by the weights still to come: these are the first of the table, the rest of the number has as many digits, and their products make up the sum
abbrev pub invariant-loop-weight : goal.invariant-loop-weight
invariant-loop-weight l =
    let left = l.weight-iterator.iter.rest.now in record {
      few : length left ≤ 12;
      first : (k : ℕ) → k < length left → get_or left k 0 ≡ get_or weights k 0;
      digits : l.rest ≡ l.mpan / 10 ^ (13 - length left);
      sum_so_far : l.sum + sum_below (length left) (product l.mpan) ≡ weighted_sum l.mpan;
    }
