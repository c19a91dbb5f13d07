-- What is known once the checks of a read by the days have passed, and what is read then.
use Rattle.std.proofs.Common.{◌<◌, true, ◌≡◌, ℕ, zero, suc, take-suc, take_all, fold, ◌+◌, ◌%◌, ◌≤◌, not, ltb, leb, List, length, get_or, take, drop, sym, refl, ap, ◌∙◌, add-one, arith, ltb-true, leb-false}
use native.Mathlib.Nat.{div-zero}
use Rattle.std.proofs.lemmas.List.Sums.{fold-append}
use borrow.Author.Tests.{not-false}
use Rattle.metering.specs.Sum.{sum_below, sum_below_zero, sum_below_suc}
use Rattle.metering.specs.Average.{average, annual}
use Rattle.ledger.specs.Checks.{read_check, totals_in_range}
use Rattle.ledger.specs.Store.{settings_ready, days_ready, categories_of, dates_of, category_of, day_row, sum_row, tot_row, off_row, day_index, DayEntries, coverage_of, totals_of}
use Rattle.ledger.specs.Calls.{days_unready, day_verdict, stretch_sum, dates_sum, entries_at, totals_for, coverage_for}
use Rattle.ledger.proofs.Choices.{check_passed}
use Rattle.ledger.proofs.Lists.{part_length, part_at, sum_below_cong}
use Rattle.store.specs.DayRows.{RowsFit}
use Rattle.store.proofs.DayLaws.{days_long, rows_fit}

module _ (s days : List ℕ) (date category : ℕ) where
  pub place_is : (day_verdict s days date category).place ≡ 0
  unfolding day_verdict
  place_is = refl

  -- ---- what is known then

  pub passed : (day_verdict s days date category).number ≡ 0 → (date < dates_of s) × (category < categories_of s)
  unfolding day_verdict read_check totals_in_range
  passed e =
      let p1 = check_passed (days_unready s days) 0 _ e in
      let p9 = check_passed (leb (dates_of s) date) 8 _ p1.1 in
      let p15 = check_passed (not (ltb category (categories_of s))) 14 _ p9.1 in
      (leb-false (dates_of s) date p9.0, ltb-true category (categories_of s) (not-false _ p15.0))

  pub fits : {dates : ℕ} → settings_ready s ≡ true → days_ready s days ≡ true → (date < dates_of s) × (category < categories_of s) → dates ≡ dates_of s → RowsFit dates category date (length days)
  fits opened long there is = rows_fit s category date (length days) opened (days_long s days long) there.1 there.0 is

  -- ---- the answers

  pub covered : (dates at place day sum : ℕ) → dates ≡ dates_of s → at ≡ day_index dates category day_row date → day ≡ get_or days at 0 → place ≡ day_index dates category sum_row date →
      sum ≡ get_or days place 0 → coverage_of day sum ≡ coverage_for s days date category
  unfolding coverage_for
  covered dates at place day sum is a d p t = rw (d, t, a, p, is)

  pub totalled : (dates at tot-at Off-at number week off-week year : ℕ) (entries : DayEntries) → dates ≡ dates_of s → number ≡ (category_of s category).window →
      at ≡ day_index dates category day_row date → tot-at ≡ day_index dates category tot_row date → Off-at ≡ day_index dates category off_row date →
      entries.day ≡ get_or days at 0 → entries.tot ≡ get_or days tot-at 0 → entries.off ≡ get_or days Off-at 0 → week ≡ dates_sum 7 date tot-at days →
      off-week ≡ dates_sum 7 date Off-at days → year ≡ dates_sum 365 date tot-at days → totals_of number entries week off-week year ≡ totals_for s days date category
  unfolding totals_for entries_at
  totalled dates at tot-at Off-at number week off-week year entries is n a t o x y z w v u =
      let same : entries ≡ record { day = get_or days at 0; tot = get_or days tot-at 0; off = get_or days Off-at 0 } = λ i. record { day = x i; tot = y i; off = z i } in
      rw (n, same, w, v, u, a, t, o, is)

-- ---- sums

-- a turn: one entry more, modulo 2 ^ 64
pub sum_next : (k sum next : ℕ) (f : ℕ → ℕ) → sum ≡ sum_below k f % 18446744073709551616 → next ≡ (sum + f k) % 18446744073709551616 → next ≡ sum_below (k + 1) f % 18446744073709551616
sum_next k sum next f so is = let more = sum_below_suc k f in rw (add-one k) (omega arith)

folded_first : (xs : List ℕ) (k : ℕ) → k ≤ length xs → fold (λ sum x. (sum + x) % 18446744073709551616) 0 (take k xs) ≡ sum_below k (λ i. get_or xs i 0) % 18446744073709551616
folded_first xs zero low = rw (sum_below_zero (λ i. get_or xs i 0))
folded_first xs (suc k) low =
    let before = folded_first xs k (omega arith) in
    rw (take-suc xs k 0, fold-append) (rw add-one at (sum_next k _ _ (λ i. get_or xs i 0) before refl))

pub folded : (xs : List ℕ) → fold (λ sum x. (sum + x) % 18446744073709551616) 0 xs ≡ sum_below (length xs) (λ i. get_or xs i 0) % 18446744073709551616
folded xs = ap (fold (λ (sum x : ℕ). (sum + x) % 18446744073709551616) 0) (sym (take_all (length xs) xs (omega arith))) ∙ folded_first xs (length xs) (omega arith)

-- the stretch lent
pub stretch_is : (days : List ℕ) (first n w sum : ℕ) → first + n ≤ length days → w ≡ n →
    sum ≡ sum_below (length (take w (drop first days))) (λ k. get_or (take w (drop first days)) k 0) % 18446744073709551616 → sum ≡ stretch_sum n first days
unfolding stretch_sum
stretch_is days first n w sum fits width is =
    is ∙ rw (width, part_length days first n fits) (ap (λ (x : ℕ). x % 18446744073709551616) (sum_below_cong n _ _ (λ k l. part_at days first n k l)))

-- ---- what a store may hold that these calls did not make

-- no date is run: the definition divides by 0
pub annual_none : (sum days : ℕ) → days ≡ 0 → 0 ≡ annual sum days
unfolding annual average
annual_none sum days none = rw (none, div-zero)
