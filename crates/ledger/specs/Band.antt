-- Dates within a band (change request 2026-14): the run dates of a day type whose TOT for a category lies from one end to the other.
use Rattle.std.specs.Prelude.{ℕ, min, Bool, cond, ◌&&◌, List, [], length, take, ◌==◌, nat_le}
use Rattle.metering.specs.Range.{day_type_valid}
use Rattle.ledger.specs.Table.{chosen_below}

-- what a search is asked: both ends belong to the band; `room` is how many dates the list lent for them holds
pub record BandCall : Type 0 where
  pub category : ℕ
  pub day_type : ℕ
  pub least : ℕ
  pub most : ℕ
  pub room : ℕ

-- what it gives: how many dates were written, how many there are, and those written
pub record Band : Type 0 where
  pub written : ℕ
  pub found : ℕ
  pub dates : List ℕ

-- T, which dates are run, the day type and TOT of a date
module _ (dates : ℕ) (is_run : ℕ → Bool) (day_type tot : ℕ → ℕ) (a : BandCall) where
  unfoldable pub in_band : ℕ → Bool
  in_band d = is_run d && day_type d == a.day_type && nat_le a.least (tot d) && nat_le (tot d) a.most

  -- upward; none where the first end is above the second, or the day type is not 1 to 16
  unfoldable pub band_dates : List ℕ
  band_dates = cond (nat_le a.least a.most && day_type_valid a.day_type) (chosen_below dates in_band) []

  -- the list gets as many as it holds
  unfoldable pub band_on : Band
  band_on = record { written = min a.room (length band_dates); found = length band_dates; dates = take a.room band_dates }
