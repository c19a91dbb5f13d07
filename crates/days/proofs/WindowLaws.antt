-- The sum of what a stretch of periods covers.
use Rattle.std.proofs.Common.{◌≡◌, ℕ, ◌+◌, ◌-◌, ◌≤◌, cond, sym, arith}
use Rattle.metering.specs.Sum.{sum_below}
use Rattle.metering.specs.Calendar.{covers}
use Rattle.metering.specs.declared.calendar.Stretch.{Stretch}
use Rattle.ledger.proofs.Windows.{stretch_in}

pub sum_of_stretch : (w : Stretch) (n : ℕ) (f : ℕ → ℕ) → w.first + w.count ≤ n →
    sum_below w.count (λ i. f (w.first + i)) ≡ sum_below n (λ k. cond (covers w k) (f k) 0)
unfolding covers
sum_of_stretch w n f within =
    let all : w.first + w.count + (n - (w.first + w.count)) ≡ n = omega arith in
    sym (rw all at (stretch_in w.first w.count (n - (w.first + w.count)) f))
