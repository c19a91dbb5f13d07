-- Periods of a day, and windows of it given by their minutes.
use Rattle.std.specs.Prelude.{ℕ, suc, ◌+◌, ◌*◌, ◌/◌, ◌%◌, ◌-◌, ◌≤◌, ◌<◌, ◌≡◌, Bool, ◌&&◌, ◌||◌, cond, leb, ltb, eqb}
use Rattle.metering.specs.declared.calendar.Stretch.{Stretch}

-- the period durations that there are, in minutes
unfoldable pub duration_known : ℕ → Bool
duration_known d = eqb d 15 || eqb d 30

-- P: how many periods of d minutes a day has
unfoldable pub periods_per_day : ℕ → ℕ
periods_per_day d = 1440 / d

-- the period that the end minute e closes: the j from 1 to P with e = j times d, and 0 where there is none
unfoldable pub period_ending : ℕ → ℕ → ℕ
period_ending d e = cond (eqb (e % d) 0 && leb e 1440) (e / d) 0

-- period j, from minute (j − 1) times d to minute j times d, lies wholly between the minutes start and end
unfoldable pub lies_within : ℕ → ℕ → ℕ → ℕ → Bool
lies_within d start end j = leb start ((j - 1) * d) && leb (j * d) end

-- a window that may be asked for: both minutes on the grid of d, in order, and within the day
unfoldable pub window_valid : ℕ → ℕ → ℕ → Bool
window_valid d start end = eqb (start % d) 0 && eqb (end % d) 0 && ltb start end && leb end 1440

-- of periods of d minutes n begin before a minute, and of those of a day n end by it
abbrev pub BegunBefore : ℕ → ℕ → ℕ → Type 0
BegunBefore d minute n = (k : ℕ) → leb n k ≡ leb minute (k * d)

abbrev pub EndedBy : ℕ → ℕ → ℕ → Type 0
EndedBy d minute n = (n ≤ periods_per_day d) × ((k : ℕ) → k ≤ periods_per_day d → leb k n ≡ leb (k * d) minute)

-- whether the period after k others is one of a stretch
unfoldable pub covers : Stretch → ℕ → Bool
covers stretch k = leb stretch.first k && ltb k (stretch.first + stretch.count)

-- a stretch is the periods of the day that lie between two minutes, whatever minutes these are
pub record PeriodsWithin (d start end : ℕ) (stretch : Stretch) : Type 0 where
  pub lies : (k : ℕ) → k < periods_per_day d → covers stretch k ≡ lies_within d start end (suc k)
  pub within : stretch.first + stretch.count ≤ periods_per_day d
