-- The bounds of opened and of ready settings, and categories as they are chosen.
use Prim.Native.Nat.{ℕ, ◌+◌, ◌*◌, ◌≤◌, ◌<◌}
use mathlib.Core.Path.{◌≡◌, refl}
use mathlib.Core.Bool.{Bool, true, false, ◌&&◌, and-eq-true_iff, and-true, and-false}
use mathlib.Core.List.{List, [], ◌∷◌, ◌++◌, append-nil}
use native.Mathlib.Numerals.{add-one}
use mathlib.Core.Logic.{⊎_elim}
use native.Mathlib.Omega.{arith}
use lib.ListN.{length}
use borrow.Author.Tests.{lt-leb}
use Rattle.metering.specs.Range.{meters_in_range, categories_in_range, dates_in_range}
use Rattle.metering.specs.Calendar.{duration_known}
use Rattle.metering.proofs.Laws.{between_true}
use Rattle.ledger.proofs.Ready.{ready, periods_bound}
pub use Rattle.ledger.proofs.Ready.{header_there}
use Rattle.ledger.proofs.Chosen.{chosen_cong}
pub use Rattle.ledger.proofs.Chosen.{chosen_few}
use Rattle.ledger.specs.Calls.{side_for, family_for}
use Rattle.ledger.specs.Method.{same_family}
use Rattle.ledger.specs.Net.{on_side, side_of}
use Rattle.ledger.specs.Table.{chosen_below}
use Rattle.ledger.specs.Sizes.{header_length, settings_length}
use Rattle.ledger.specs.Store.{duration_of, meters_of, categories_of, dates_of, periods_of, category_of, is_opened, settings_ready}

pub opened_bounds : (s : List ℕ) → is_opened s ≡ true → (categories_of s ≤ 64) × (dates_of s ≤ 800)
unfolding is_opened categories_in_range dates_in_range
opened_bounds s h =
    let front = duration_known (duration_of s) && meters_in_range (meters_of s) in
    let p = (and-eq-true_iff (front && categories_in_range (categories_of s)) (dates_in_range (dates_of s))).0 h in
    let q = (and-eq-true_iff front (categories_in_range (categories_of s))).0 p.0 in
    (((between_true 1 64 (categories_of s)).0 q.1).1, ((between_true 1 800 (dates_of s)).0 p.1).1)

-- fewer bytes than the header's are fewer than any least length
pub short_unready : (s : List ℕ) → length s < header_length → settings_ready s ≡ false
unfolding settings_ready settings_length
short_unready s h = rw (lt-leb (header_length + 8 * categories_of s + dates_of s) (length s) (omega arith)) (and-false (is_opened s))

-- ---- bounds of ready settings

pub timed : (s : List ℕ) → settings_ready s ≡ true → 0 < duration_of s
timed s h = let k = ready s h in ⊎_elim (λ e. omega arith) (λ e. omega arith) k.duration

pub few_meters : (s : List ℕ) → settings_ready s ≡ true → meters_of s ≤ 1024
few_meters s h = (ready s h).meters.1

pub few_categories : (s : List ℕ) → settings_ready s ≡ true → categories_of s ≤ 64
few_categories s h = (ready s h).categories.1

pub few_dates : (s : List ℕ) → settings_ready s ≡ true → dates_of s ≤ 800
few_dates s h = (ready s h).dates.1

pub few_periods : (s : List ℕ) → settings_ready s ≡ true → periods_of s ≤ 96
few_periods s h = (periods_bound s (ready s h)).1

pub long_enough : (s : List ℕ) → settings_ready s ≡ true → header_length + 8 * categories_of s + dates_of s ≤ length s
long_enough s h = (ready s h).long

pub ruleset ready_bounds = (timed, few_meters, few_categories, few_dates, few_periods, header_there, long_enough)

-- ---- categories as they are chosen

pub none_chosen : (test : ℕ → Bool) → chosen_below 0 test ≡ []
unfolding chosen_below
none_chosen test = refl

pub one_chosen : (b : ℕ) (test : ℕ → Bool) → test b ≡ true → chosen_below (b + 1) test ≡ chosen_below b test ++ b ∷ []
unfolding chosen_below
one_chosen b test is = rw (add-one, is)

pub one_passed : (b : ℕ) (test : ℕ → Bool) → test b ≡ false → chosen_below (b + 1) test ≡ chosen_below b test
unfolding chosen_below
one_passed b test is = rw (add-one, is) (append-nil (chosen_below b test))

pub ruleset choosing = (none_chosen, one_chosen, one_passed, chosen_few)

-- the side of a category's own quantity, in all groups, is its family
pub own_side : (s : List ℕ) (c quantity : ℕ) → quantity ≡ (category_of s c).quantity → side_for s true quantity c ≡ family_for s c
unfolding side_for side_of on_side family_for
own_side s c quantity is = rw is (chosen_cong (categories_of s) _ _ (λ b l. and-true (same_family (category_of s c) (category_of s b))))
