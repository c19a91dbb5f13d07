-- Days that are long enough: the rows of each category lie in them.
use Prim.Native.Nat.{ℕ, ◌+◌, ◌*◌, ◌≤◌, ◌<◌}
use mathlib.Core.Path.{◌≡◌, refl, sym, ◌∙◌}
use mathlib.Core.Bool.{Bool, true, false, and-eq-true_iff}
use mathlib.Core.List.{List}
use native.Mathlib.Omega.{arith}
use native.Mathlib.Nat.{mul-le-mul_right}
use lib.ListN.{length}
use borrow.Author.Tests.{leb-true, not-false}
use Rattle.ledger.specs.Sizes.{days_length}
use Rattle.ledger.proofs.Ready.{ready}
use Rattle.ledger.specs.Store.{categories_of, dates_of, settings_ready, days_ready, day_row, day_index}
use Rattle.ledger.specs.Calls.{days_unready}
use Rattle.store.specs.DayRows.{RowsFit}

pub days_long : (s days : List ℕ) → days_ready s days ≡ true → days_length (categories_of s) (dates_of s) ≤ length days
unfolding days_ready
days_long s days h = leb-true _ _ h

-- parts that pass the first check
pub days_lent : (s days : List ℕ) {b : Bool} → b ≡ days_unready s days → b ≡ false → (settings_ready s ≡ true) × (days_length (categories_of s) (dates_of s) ≤ length days)
unfolding days_unready
days_lent s days is long =
    let both = (and-eq-true_iff (settings_ready s) (days_ready s days)).0 (not-false _ (sym is ∙ long)) in (both.0, days_long s days both.1)

pub rows_fit : (s : List ℕ) (category date L : ℕ) {dates : ℕ} → settings_ready s ≡ true → days_length (categories_of s) (dates_of s) ≤ L → category < categories_of s → date < dates_of s → dates ≡ dates_of s →
    RowsFit dates category date L
unfolding days_length
rows_fit s category date L opened room a_category a_date is =
    let known = ready s opened in
    rw is
    (record {
      few_dates = known.dates.1;
      few_categories = omega (arith, known.categories.1, a_category);
      a_date = a_date;
      room = omega (arith, room, mul-le-mul_right (4 * dates_of s) a_category);
    })

module _ {dates category date L : ℕ} (fit : RowsFit dates category date L) where
  -- what the place of an entry asks
  pub row_known : (dates ≤ 800) × (category < 64) × (date < dates)
  row_known = (fit.few_dates, fit.few_categories, fit.a_date)

  pub row_there : (row : ℕ) {at : ℕ} → row < 4 → at ≡ day_index dates category row date → at < L
  unfolding day_index
  row_there row low is =
      let room = fit.room in
      let h = fit.a_date in
      let below : (4 * category + row + 1) * dates ≤ (4 * category + 4) * dates = mul-le-mul_right dates (omega arith) in
      omega arith

  -- a look at the run mark
  pub mark_there : (dates ≤ 800) × (category < 64) × (date < dates) × (day_index dates category day_row date < L)
  mark_there = (fit.few_dates, fit.few_categories, fit.a_date, row_there day_row (omega arith) refl)

  -- a sum over dates up to one
  pub sum_there : (row : ℕ) {at : ℕ} → row < 4 → at ≡ day_index dates category row date → (date < 800) × (date ≤ at) × (at < L)
  unfolding day_index
  sum_there row low is = let few = fit.few_dates in let h = fit.a_date in (omega arith, omega arith, row_there row low (unfold day_index in is))

  -- in another list as long
  pub still_fit : {L' : ℕ} → L' ≡ L → RowsFit dates category date L'
  still_fit same = rw same fit
