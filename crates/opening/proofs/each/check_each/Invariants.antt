use Rattle.std.proofs.Common.{◌≡◌, ℕ, ◌-◌}
use Rattle.ledger.specs.Checks.{first_failed}
use Rattle.opening.specs.Each.{Numbers}
use Rattle.opening.proofs.each.check_each.Given as goal

-- the first i things passed
abbrev pub invariant-loop-i : goal.invariant-loop-i
invariant-loop-i g l = (number : ℕ → ℕ) → Numbers (goal.F-post g l.check_at) l.count number → first_failed number (l.count - l.i) l.i ≡ first_failed number l.count 0
