-- What a band search answers and leaves, where a check fails, where nothing can be found, and else.
use Prim.Native.Nat.{ℕ, ◌≤◌, ◌<◌, min}
use mathlib.Core.Path.{◌≡◌, refl, sym, ap, ◌∙◌}
use mathlib.Core.Bool.{true, false}
use mathlib.Core.List.{List, []}
use native.Mathlib.Nat.{min-zero}
use lib.Dec.{leb}
use lib.ListN.{length, take, length-take}
use lib.Seq.{take_at, take-nil}
use borrow.Table.Steps.{cases}
use borrow.Author.Tests.{lt-leb, le-leb, ltb-true, not-false}
use Rattle.metering.specs.Range.{day_type_valid}
use Rattle.ledger.specs.Table.{chosen_below}
use Rattle.ledger.specs.Band.{Band, in_band, band_dates, band_on}
use Rattle.ledger.specs.Checks.{Verdict, band_check, totals_in_range}
use Rattle.ledger.specs.Ledger.{answer, band_is, left}
use Rattle.ledger.specs.Store.{categories_of, dates_of}
use Rattle.ledger.specs.Calls.{days_unready, band_verdict, band_for, overwritten}
use Rattle.ledger.proofs.Choices.{check_passed}
use Rattle.store.proofs.Refusals.{given_at, after_at}
use Rattle.band.specs.Search.{band_call, is_sought, listed}

-- what is known where the checks passed
pub category_there : (s days : List ℕ) (category : ℕ) → 0 ≡ band_check (days_unready s days) (totals_in_range (categories_of s) category) → category < categories_of s
unfolding band_check totals_in_range
category_there s days category h =
    let p1 = check_passed (days_unready s days) 0 _ (sym h) in
    let p15 = check_passed _ 14 0 p1.1 in
    ltb-true _ _ (not-false _ p15.0)

module _ (s days : List ℕ) (category day_type least most : ℕ) (lent : List ℕ) where
  abbrev v : Verdict
  v = band_verdict s days (band_call category day_type least most lent)

  abbrev gives : Band
  gives = band_for s days (band_call category day_type least most lent)

  abbrev none : Band
  none = record { written = 0; found = 0; dates = [] }

  -- no date can be in the band
  pub ends_exchanged : most < least → gives ≡ none
  unfolding band_for band_on band_dates
  ends_exchanged h = rw (lt-leb least most h, take-nil, min-zero)

  pub no_day_type : day_type_valid day_type ≡ false → gives ≡ none
  unfolding band_for band_on band_dates
  no_day_type h = rw h (cases (leb least most) (λ q. rw (q, take-nil, min-zero)) (λ q. rw (q, take-nil, min-zero)))

  module _ (is : 0 ≡ v.number) where
    pub none_answers : gives ≡ none → band_is (record { written = 0; found = 0; dates = take 0 lent }) ≡ answer v (band_is gives)
    none_answers e = ap band_is (sym e) ∙ given_at v is _

    pub none_listed : gives ≡ none → lent ≡ left v lent (overwritten gives.dates lent)
    none_listed e = rw e (unfold overwritten in refl) ∙ after_at v is lent (overwritten gives.dates lent)

    module _ (order : least ≤ most) (type : day_type_valid day_type ≡ true) where
      abbrev all : List ℕ
      all = chosen_below (dates_of s) (is_sought s days category (record { day_type = day_type; least = least; most = most }))

      -- the code's test of a date is the definition's
      all_are : gives ≡ record { written = min (length lent) (length all); found = length all; dates = take (length lent) all }
      unfolding band_for band_on band_dates in_band
      all_are = rw (le-leb least most order, type)

      module _ (found : ℕ) (dates : List ℕ) (counted : found ≡ length all) (are : dates ≡ listed all lent) where
        pub found_answers : (written : ℕ) → written ≡ min (length lent) found → band_is (record { written = written; found = found; dates = take written dates }) ≡ answer v (band_is gives)
        found_answers written shorter =
            let wrote : written ≡ length (take (length lent) all) = shorter ∙ rw counted (sym (length-take (length lent) all)) in
            let front : take written dates ≡ take (length lent) all = rw (are, wrote) (unfold listed overwritten in take_at (take (length lent) all) _ _ refl) in
            ap band_is ((λ i. record { written = (shorter ∙ ap (min (length lent)) counted) i; found = counted i; dates = front i }) ∙ sym all_are)
            ∙ given_at v is _

        pub found_listed : dates ≡ left v lent (overwritten gives.dates lent)
        found_listed = are ∙ rw all_are (unfold listed in refl) ∙ after_at v is lent (overwritten gives.dates lent)
