-- The periods between two minutes: how many begin before the one, and how many end by the other.
use Prim.Native.Nat.{ℕ, suc, ◌-◌, ◌≤◌, ◌<◌}
use mathlib.Core.Path.{◌≡◌}
use mathlib.Core.Bool.{◌&&◌}
use native.Mathlib.Omega.{arith}
use lib.Dec.{leb}
use Rattle.metering.specs.Calendar.{periods_per_day, lies_within, BegunBefore, EndedBy, covers, PeriodsWithin}
use Rattle.std.proofs.lemmas.Grind.{common_steps}

-- the period after k others, by both
lies_by : (d start end first last k : ℕ) → BegunBefore d start first → EndedBy d end last → k < periods_per_day d →
    lies_within d start end (suc k) ≡ (leb first k && leb (suc k) last)
unfolding lies_within
lies_by d start end first last k begun ended h =
    grind (arith, common_steps, begun k, ended.1 (suc k) (omega arith))

pub within_none : (d start end first last : ℕ) → BegunBefore d start first → EndedBy d end last → last ≤ first →
    PeriodsWithin d start end (record { first = 0; count = 0 })
unfolding covers
within_none d start end first last begun ended h =
    record {
      lies = λ k l. grind (arith, common_steps, lies_by d start end first last k begun ended l);
      within = omega arith;
    }

pub within_some : (d start end first last : ℕ) → BegunBefore d start first → EndedBy d end last → first < last →
    PeriodsWithin d start end (record { first = first; count = last - first })
unfolding covers
within_some d start end first last begun ended h =
    record {
      lies = λ k l. grind (arith, common_steps, lies_by d start end first last k begun ended l);
      within = omega (arith, ended.0);
    }
