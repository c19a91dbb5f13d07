-- The totals, read off the days: sums over dates of what is kept are the method's figures.
use Rattle.std.proofs.Common.{◌≡◌, ℕ, zero, suc, ◌+◌, ◌-◌, ◌*◌, ◌%◌, ◌<◌, ◌≤◌, min, Bool, true, false, cond, ◌&&◌, eqb, leb, List, get_or, sym, refl, ap, ◌∙◌, add-zero, add_comm, arith, leb-false, leb-true}
use borrow.Table.Steps.{cases}
use Rattle.metering.specs.Sum.{sum_below, sum_below_zero, sum_below_suc, sum_below_le}
use Rattle.metering.specs.Average.{annual}
use Rattle.metering.specs.Calendar.{lies_within}
use Rattle.ledger.specs.Method.{Cell, Window, over_run_dates, fresh_among, blanks_among, tot_on, off_on, peak_on, totals_on}
use Rattle.ledger.specs.Store.{day_index, DayEntries, not_run_entries, day_entry, day_entry_of, tot_entry, tot_among, off_among, day_entries_of, day_fresh, day_blanks, energy_of, run_dates_of, peak_of, totals_of}
use Rattle.ledger.specs.Calls.{stretch_sum, dates_sum}
use Rattle.ledger.proofs.Lists.{sum_below_cong, sum_below_none, sum_below_front, sum_below_most, part_le}
use Rattle.ledger.proofs.Days.{over, over_cong, over_is, run_most, fresh_most, blanks_most}

-- ---- a stretch of dates, the earliest first, is the dates before a date, the latest first

stretch_is : (n d : ℕ) (v : ℕ → ℕ) → sum_below (min n (suc d)) (λ k. v (suc d - min n (suc d) + k)) ≡ over n v d
unfolding over
stretch_is zero d v = let none : min 0 (suc d) ≡ 0 = omega arith in rw none (sum_below_zero _ ∙ sym (sum_below_zero _))
stretch_is (suc n) d v =
    cases (leb n d)
    (λ q.
    let low = leb-true n d q in
    let width : min (suc n) (suc d) ≡ suc n = omega arith in
    let shorter : min n (suc d) ≡ n = omega arith in
    let first : suc d - suc n + 0 ≡ d - n = omega arith in
    let rest = rw shorter at (stretch_is n d v) in
    let last = sum_below_suc n (λ k. cond (leb k d) (v (d - k)) 0) in
    rw width
    (sum_below_front n (λ k. v (suc d - suc n + k))
    ∙ rw (first, sum_below_cong n (λ k. v (suc d - suc n + suc k)) (λ k. v (suc d - n + k)) (λ k l. ap v (let same : suc d - suc n + suc k ≡ suc d - n + k = omega arith in same)), rest)
    (sym (last ∙ rw q (add_comm _ _)))))
    (λ q.
    let high = leb-false n d q in
    let width : min (suc n) (suc d) ≡ suc d = omega arith in
    let shorter : min n (suc d) ≡ suc d = omega arith in
    rw width (rw shorter at (stretch_is n d v) ∙ sym (sum_below_suc n _ ∙ rw (q, add-zero))))

-- the entries of a row, one for a date
pub dates_sum_lem : (T c r n d : ℕ) (days : List ℕ) (v : ℕ → ℕ) → ((y : ℕ) → y ≤ d → get_or days (day_index T c r y) 0 ≡ v y) →
    dates_sum n d (day_index T c r d) days ≡ over n v d % 18446744073709551616
unfolding dates_sum stretch_sum day_index
dates_sum_lem T c r n d days v are =
    let m = min n (suc d) in
    let place : (k : ℕ) → suc ((4 * c + r) * T + d) - m + k ≡ (4 * c + r) * T + (suc d - m + k) = λ k. omega arith in
    ap (λ (x : ℕ). x % 18446744073709551616)
    (sum_below_cong m _ (λ k. get_or days ((4 * c + r) * T + (suc d - m + k)) 0) (λ k l. ap (λ (i : ℕ). get_or days i 0) (place k))
    ∙ stretch_is n d (λ y. get_or days ((4 * c + r) * T + y) 0)
    ∙ over_cong n _ v d are)

-- ---- the peaks of dates sum up to the peak of their sums

sum_minus : (n : ℕ) (f g : ℕ → ℕ) → ((k : ℕ) → g k ≤ f k) → sum_below n (λ k. f k - g k) ≡ sum_below n f - sum_below n g
sum_minus zero f g less = rw (sum_below_zero (λ k. f k - g k), sum_below_zero f, sum_below_zero g)
sum_minus (suc n) f g less =
    let l = sum_below_le n g f (λ k l. less k) in
    let h = less n in
    rw (sum_below_suc n (λ k. f k - g k), sum_below_suc n f, sum_below_suc n g, sum_minus n f g less) (omega arith)

module _ (run : ℕ → Bool) (n d : ℕ) (f g : ℕ → ℕ) (less : (x : ℕ) → g x ≤ f x) where
  abbrev term : (ℕ → ℕ) → ℕ → ℕ
  term h k = cond (leb k d && run (d - k)) (h (d - k)) 0

  term_below : (k : ℕ) → term g k ≤ term f k
  term_below k = cases (leb k d && run (d - k)) (λ q. rw q (less (d - k))) (λ q. rw q (omega arith))

  term_minus : (k : ℕ) → term (λ x. f x - g x) k ≡ term f k - term g k
  term_minus k = cases (leb k d && run (d - k)) (λ q. rw q) (λ q. rw q)

  peaks : (none : Bool) → over_run_dates run n (λ x. cond none 0 (f x - g x)) d ≡ cond none 0 (over_run_dates run n f d - over_run_dates run n g d)
  unfolding over_run_dates
  peaks true = sum_below_none n _ (λ k l. cases (leb k d && run (d - k)) (λ q. rw q) (λ q. rw q))
  peaks false = sum_below_cong n _ _ (λ k l. term_minus k) ∙ sum_minus n (term f) (term g) term_below

-- ---- two numbers in one

energy_of_lem : (a b : ℕ) → a < 281474976710656 → b < 65536 → energy_of ((a + b * 281474976710656) % 18446744073709551616) ≡ a
unfolding energy_of
energy_of_lem a b ha hb = omega arith

dates_of_lem : (a b : ℕ) → a < 281474976710656 → b < 65536 → run_dates_of ((a + b * 281474976710656) % 18446744073709551616) ≡ b
unfolding run_dates_of
dates_of_lem a b ha hb = omega arith

day_counted : (P : ℕ) → P ≤ 96 → (cells : ℕ → Cell) → (day_fresh (day_entry_of P cells) ≡ fresh_among P cells) × (day_blanks (day_entry_of P cells) ≡ blanks_among P cells)
unfolding day_entry_of day_entry day_fresh day_blanks
day_counted P h cells = let fresh = fresh_most P cells in let blanks = blanks_most P cells in (omega arith, omega arith)

-- ---- what is kept of the dates up to d gives the method's totals of d

module _ (duration P w : ℕ) (window : Window) (h : P ≤ 96) (run : ℕ → Bool) (cell : ℕ → ℕ → Cell) (e : ℕ → DayEntries) (d : ℕ)
    (are : (y : ℕ) → y ≤ d → e y ≡ cond (run y) (day_entries_of duration window P (λ k. cell y (suc k))) not_run_entries)
    (small : (y k : ℕ) → y ≤ d → k < P → (cell y (suc k)).value < 4294967296) where
  abbrev tot : ℕ → ℕ
  tot y = tot_on duration P w window run cell y

  abbrev off : ℕ → ℕ
  off y = off_on duration P w window run cell y

  -- 96 values of 32 bits
  tot_most : (y : ℕ) → y ≤ d → tot y ≤ 412316860320
  unfolding tot_on
  tot_most y l =
      let most = sum_below_most P 4294967295 (λ k. (cell y (suc k)).value) (λ k m. let v = small y k l m in omega arith) in omega arith

  off_le : (y : ℕ) → off y ≤ tot y
  unfolding tot_on off_on
  off_le y = sum_below_le P _ _ (λ k l. part_le (lies_within duration window.start window.end (suc k)) (cell y (suc k)).value)

  peak_is : (y : ℕ) → peak_on duration P w window run cell y ≡ cond (eqb w 0) 0 (tot y - off y)
  unfolding peak_on
  peak_is y = refl

  peaks_are : (n : ℕ) → over_run_dates run n (peak_on duration P w window run cell) d ≡ cond (eqb w 0) 0 (over_run_dates run n tot d - over_run_dates run n off d)
  unfolding peak_on
  peaks_are n = peaks run n d tot off off_le (eqb w 0)

  tot_fits : (n : ℕ) → n ≤ 365 → over_run_dates run n tot d < 281474976710656
  tot_fits n l = let most = run_most run n 412316860320 tot d (λ y m r. tot_most y m) in omega arith

  off_fits : (n : ℕ) → n ≤ 365 → over_run_dates run n off d < 281474976710656
  off_fits n l = let most = run_most run n 412316860320 off d (λ y m r. let a = off_le y in let b = tot_most y m in omega arith) in omega arith

  days_fit : (n : ℕ) → n ≤ 365 → over_run_dates run n (λ _. 1) d < 65536
  days_fit n l = let most = run_most run n 1 (λ _. 1) d (λ y m r. omega arith) in omega arith

  tot_kept : (y : ℕ) → y ≤ d → (e y).tot ≡ cond (run y) (tot y + 1 * 281474976710656) 0
  unfolding day_entries_of tot_entry tot_among tot_on
  tot_kept y l = rw (are y l) (cases (run y) (λ r. rw r) (λ r. rw r))

  off_kept : (y : ℕ) → y ≤ d → (e y).off ≡ cond (run y) (off y + 0 * 281474976710656) 0
  unfolding day_entries_of off_among off_on
  off_kept y l = rw (are y l) (cases (run y) (λ r. rw r (sym (add-zero _))) (λ r. rw r))

  abbrev tots : ℕ → ℕ
  tots n = over n (λ y. (e y).tot) d % 18446744073709551616

  abbrev offs : ℕ → ℕ
  offs n = over n (λ y. (e y).off) d % 18446744073709551616

  tots_are : (n : ℕ) → n ≤ 365 → (energy_of (tots n) ≡ over_run_dates run n tot d) × (run_dates_of (tots n) ≡ over_run_dates run n (λ _. 1) d)
  tots_are n l =
      let sum = over_is run (λ y. (e y).tot) tot (λ _. 1) 281474976710656 d tot_kept n in
      (rw sum (energy_of_lem _ _ (tot_fits n l) (days_fit n l)), rw sum (dates_of_lem _ _ (tot_fits n l) (days_fit n l)))

  offs_are : (n : ℕ) → n ≤ 365 → energy_of (offs n) ≡ over_run_dates run n off d
  unfolding energy_of
  offs_are n l =
      let sum = over_is run (λ y. (e y).off) off (λ _. 0) 281474976710656 d off_kept n in
      let fits = off_fits n l in
      let nothing = run_most run n 0 (λ _. 0) d (λ y m r. omega arith) in
      let none : over_run_dates run n (λ _. 0) d ≡ 0 = omega arith in
      rw (sum, none) (omega arith)

  pub totals_kept : run d ≡ true → totals_of w (e d) (tots 7) (offs 7) (tots 365) ≡ totals_on duration P w window run cell d
  unfolding totals_of totals_on peak_of
  totals_kept r =
      let week = tots_are 7 (omega arith) in
      let offWeek = offs_are 7 (omega arith) in
      let year = tots_are 365 (omega arith) in
      let here : e d ≡ day_entries_of duration window P (λ k. cell d (suc k)) = are d (omega arith) ∙ rw r in
      let tot_here : energy_of (e d).tot ≡ tot d = unfold energy_of in rw (tot_kept d (omega arith), r) (let m = tot_most d (omega arith) in omega arith) in
      let off_here : energy_of (e d).off ≡ off d = unfold energy_of in rw (off_kept d (omega arith), r) (let m = tot_most d (omega arith) in let l = off_le d in omega arith) in
      let day_here : (e d).day ≡ day_entry_of P (λ k. cell d (suc k)) = ap (λ (a : DayEntries). a.day) here ∙ (unfold day_entries_of in refl) in
      let counts = day_counted P h (λ k. cell d (suc k)) in
      let fresh_here : day_fresh (e d).day ≡ fresh_among P (λ k. cell d (suc k)) = rw day_here counts.0 in
      let blanks_here : day_blanks (e d).day ≡ blanks_among P (λ k. cell d (suc k)) = rw day_here counts.1 in
      let peak_here : cond (eqb w 0) 0 (energy_of (e d).tot - energy_of (e d).off) ≡ peak_on duration P w window run cell d = rw (tot_here, off_here) (sym (peak_is d)) in
      let peak_week : cond (eqb w 0) 0 (energy_of (tots 7) - energy_of (offs 7)) ≡ over_run_dates run 7 (peak_on duration P w window run cell) d =
      rw (week.0, offWeek) (sym (peaks_are 7)) in
      λ i.
      record {
        tot = tot_here i;
        off = off_here i;
        peak = peak_here i;
        tot7 = week.0 i;
        off7 = offWeek i;
        peak7 = peak_week i;
        days7 = week.1 i;
        ann = annual (year.0 i) (year.1 i);
        days = year.1 i;
        fresh = fresh_here i;
        blanks = blanks_here i;
      }
