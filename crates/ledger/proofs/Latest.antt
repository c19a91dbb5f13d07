-- One step of the search for the latest registration.
use Rattle.std.proofs.Common.{◌≡◌, ℕ, ◌<◌, ◌≤◌, Bool, cond, ◌&&◌, leb, ◌⊎◌, refl, inl, inr, arith, leb-false, leb-true}
use mathlib.Core.Bool.{and-true}
use mathlib.Core.Option.{Option, none, some}
use lib.Dec.{leb-zero}
use borrow.Table.Steps.{cases}
use Rattle.ledger.specs.Checks.{Registration, later}

module _ (key : Registration → ℕ) where
  -- where none is found yet, the key to reach is 0
  abbrev pub best_key : Option Registration → ℕ
  best_key none = 0
  best_key (some r) = key r

  unfoldable pub takes_over : ℕ → Option Registration → Registration → Bool
  takes_over bound best r = leb (key r) bound && leb (best_key best) (key r)

  pub later_is : (bound : ℕ) (best : Option Registration) (r : Registration) → later key bound best r ≡ cond (takes_over bound best r) (some r) best
  unfolding later takes_over
  later_is bound none r = rw (leb-zero, and-true)
  later_is bound (some b) r = refl

  -- r takes over, or what was best stays
  pub taken_or_left : (bound : ℕ) (best : Option Registration) (r : Registration) →
      ((later key bound best r ≡ some r) × (key r ≤ bound) × (best_key best ≤ key r)) ⊎ ((later key bound best r ≡ best) × (key r ≤ bound → key r < best_key best))
  unfolding takes_over
  taken_or_left bound best r =
      cases (leb (key r) bound)
      (λ q.
      cases (leb (best_key best) (key r))
      (λ w. inl (rw (later_is, q, w), leb-true _ _ q, leb-true _ _ w))
      (λ w. inr (rw (later_is, q, w), λ h. leb-false _ _ w)))
      (λ q. inr (rw (later_is, q), λ h. absurd (let w = leb-false (key r) bound q in omega arith)))
