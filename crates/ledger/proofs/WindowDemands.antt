-- What is promised of windows: which periods OFF and PEAK are of, and METH005's two windows among them.
use Rattle.std.proofs.Common.{◌≡◌, ℕ, suc, ◌+◌, ◌-◌, ◌*◌, ◌/◌, ◌%◌, ◌<◌, ◌≤◌, Bool, true, false, cond, ◌&&◌, eqb, ltb, leb, ◌↔◌, [], ◌++◌, sym, refl, ap, ◌∙◌, ⊎_elim, add-suc, le-div_iff_mul-le, zero-add, arith, ltb-true, lt-ltb, eqb-true, le-leb, leb-true}
use native.Mathlib.Nat.{mul-mod_left}
use borrow.Table.Steps.{cases}
use borrow.Author.Tests.{eqb-false}
use Rattle.metering.specs.Sum.{sum_below}
use Rattle.metering.specs.Calendar.{duration_known, periods_per_day, lies_within, window_valid}
use Rattle.metering.proofs.Laws.{duration_is, duration_pos, lies_within_true, window_valid_is, window_periods, whole_periods}
use Rattle.ledger.specs.Method.{window_at, tot_on, off_on, totals_on}
use Rattle.ledger.specs.Table.{tabulate}
use Rattle.ledger.specs.Net.{sum_over}
use Rattle.ledger.specs.Ledger.{window, category, Ledger, cell_at, totals_at}
use Rattle.ledger.specs.Demands.{run_dates_among, periods_from, values_over, OffAndPeakOver, WindowPeriods, MethodTotals, WholeDay}
use Rattle.ledger.proofs.Lists.{sum_below_cong, sum_below_more}
use Rattle.ledger.proofs.Nets.{sum_over_alike, sum_over_none, sum_over_tabulate, sum_over_append}
use Rattle.ledger.proofs.Windows.{stretch_in}
use Rattle.ledger.proofs.FigureDemands.{week_exact, off_and_peak_lem}

-- ---- the periods of a window, side by side

same_test : (s t : Bool) → (s ≡ true) ↔ (t ≡ true) → s ≡ t
same_test true t h = sym (h.0 refl)
same_test false true h = h.1 refl
same_test false false h = refl

module _ (d start end : ℕ) (known : duration_known d ≡ true) (valid : window_valid d start end ≡ true) (v : ℕ → ℕ) where
  abbrev a : ℕ
  a = start / d

  abbrev b : ℕ
  b = end / d

  ends_in : b ≤ periods_per_day d
  unfolding periods_per_day
  ends_in =
      let w = (window_valid_is d start end).0 valid in
      (le-div_iff_mul-le (duration_pos d known)).1 (rw (whole_periods d end w.1) w.3)

  in_order : a ≤ b
  in_order =
      let w = (window_valid_is d start end).0 valid in
      let l = w.2 in
      (le-div_iff_mul-le (duration_pos d known)).1 (rw (whole_periods d start w.0) (omega arith))

  lies_in : (k : ℕ) → lies_within d start end (suc k) ≡ (leb a k && ltb k (a + (b - a)))
  lies_in k =
      let o = in_order in
      same_test _ _ (
        λ e. let p = (window_periods d start end (suc k) (duration_pos d known) valid (omega arith)).0 e in
            let low = p.0 in
            let high = p.1 in
            rw (le-leb a k (omega arith), lt-ltb k (a + (b - a)) (omega arith)),
        λ e. (window_periods d start end (suc k) (duration_pos d known) valid (omega arith)).1 (both e),
      )
    where
      both : (leb a k && ltb k (a + (b - a))) ≡ true → (a + 1 ≤ suc k) × (suc k ≤ b)
      both e =
          let o = in_order in
          cases (leb a k)
          (λ q. let low = leb-true a k q in let high = ltb-true k (a + (b - a)) (rw q at e) in (omega arith, omega arith))
          (λ q. absurd (let z : false ≡ true = rw q at e in let y : ◌≡◌ {A = ℕ} 0 1 = cc in omega arith))

  later : (x m : ℕ) → sum_over (tabulate m (λ k. x + suc k)) v ≡ sum_below m (λ i. v (suc (x + i)))
  later x m = sum_over_tabulate m (λ k. x + suc k) v ∙ sum_below_cong m _ _ (λ k l. ap v (add-suc x k))

  off_over : sum_below (periods_per_day d) (λ k. cond (lies_within d start end (suc k)) (v (suc k)) 0) ≡ sum_over (periods_from d start end) v
  off_over =
      let i = ends_in in
      let o = in_order in
      let all : a + (b - a) + (periods_per_day d - b) ≡ periods_per_day d = omega arith in
      sum_below_cong (periods_per_day d) _ (λ k. cond (leb a k && ltb k (a + (b - a))) (v (suc k)) 0) (λ k l. rw (lies_in k))
      ∙ rw all at (stretch_in a (b - a) (periods_per_day d - b) (λ k. v (suc k)))
      ∙ sym (later a (b - a))

  first_is : sum_over (periods_from d 0 start) v ≡ sum_below a (λ k. v (suc k))
  first_is =
      let nothing : 0 / d ≡ 0 = ⊎_elim (λ e. rw e) (λ e. rw e) (duration_is d known) in
      let all : a - 0 ≡ a = omega arith in
      rw (nothing, all) (later 0 a ∙ sum_below_cong a _ _ (λ k l. ap (λ x. v (suc x)) (zero-add k)))

  -- before it, in it and after it
  tot_over : sum_below (periods_per_day d) (λ k. v (suc k)) ≡ sum_over (periods_from d start end) v + sum_over (periods_from d 0 start ++ periods_from d end 1440) v
  unfolding periods_per_day
  tot_over =
      let i = ends_in in
      let o = in_order in
      let last : a + (b - a) ≡ b = omega arith in
      let all : b + (1440 / d - b) ≡ 1440 / d = omega arith in
      let parts : sum_below (1440 / d) (λ k. v (suc k)) ≡ sum_below a (λ k. v (suc k)) + sum_below (b - a) (λ k. v (suc (a + k))) + sum_below (1440 / d - b) (λ k. v (suc (b + k))) =
      rw all at (sum_below_more b (1440 / d - b) (λ k. v (suc k))) ∙ ap (λ x. x + sum_below (1440 / d - b) (λ k. v (suc (b + k)))) (rw last at (sum_below_more a (b - a) (λ k. v (suc k)))) in
      parts ∙ rw (sum_over_append (periods_from d 0 start) (periods_from d end 1440) v, first_is, later a (b - a), later b (1440 / d - b)) (omega arith)

-- ---- totals

module _ (l : Ledger) (c i : ℕ) (known : duration_known l.opening.duration ≡ true) (names : (category l.opening c).window ≡ suc i)
    (valid : window_valid l.opening.duration (window l.opening (suc i)).start (window l.opening (suc i)).end ≡ true) where
  abbrev D : ℕ
  D = l.opening.duration

  abbrev own_start : ℕ
  own_start = (window l.opening (suc i)).start

  abbrev own_end : ℕ
  own_end = (window l.opening (suc i)).end

  off_is : (x : ℕ) → (totals_at l x c).off ≡ values_over l c (periods_from D own_start own_end) x
  unfolding totals_at totals_on off_on
  off_is x = rw names (off_over D own_start own_end known valid (λ j. (cell_at l x c j).value))

  tot_is : (x : ℕ) → (totals_at l x c).tot
      ≡ values_over l c (periods_from D own_start own_end) x + values_over l c (periods_from D 0 own_start ++ periods_from D own_end 1440) x
  unfolding totals_at totals_on tot_on
  tot_is x = tot_over D own_start own_end known valid (λ j. (cell_at l x c j).value)

  peak_is : (x : ℕ) → (totals_at l x c).peak ≡ values_over l c (periods_from D 0 own_start ++ periods_from D own_end 1440) x
  peak_is x =
      let made_up = ((off_and_peak_lem l x c known).0 (λ (e : (category l.opening c).window ≡ 0). let z : 0 ≡ suc i = sym e ∙ names in omega arith)).0 in
      omega (arith, off_is x, tot_is x, made_up)

  over_window : (d : ℕ) → OffAndPeakOver l d c (periods_from D own_start own_end) (periods_from D 0 own_start ++ periods_from D own_end 1440)
  over_window d =
      let week = week_exact l d c in
      record {
        off = off_is d;
        peak_is = peak_is d;
        off7 = week.1 ∙ sum_over_alike (run_dates_among l 7 d) off_is;
        peak7 = week.2 ∙ sum_over_alike (run_dates_among l 7 d) peak_is;
      }

pub window_periods_exact : WindowPeriods
window_periods_exact l d c i known names good =
    over_window l c i known names
    ((window_valid_is l.opening.duration _ _).1 (
      ap (λ x. x % l.opening.duration) good.starts ∙ mul-mod_left good.before l.opening.duration,
      ap (λ x. x % l.opening.duration) good.ends ∙ mul-mod_left good.until l.opening.duration,
      good.order,
      good.in_the_day,
    ))
    d

-- METH005's: a window from 0 has no period before it
empty_from : (d : ℕ) → periods_from d 0 0 ≡ []
unfolding tabulate
empty_from d = let none : 0 / d - 0 / d ≡ 0 = omega arith in rw none

known_valid : (d a b : ℕ) → duration_known d ≡ true → a < b → b ≤ 48 → window_valid d (30 * a) (30 * b) ≡ true
known_valid d a b known order low =
    ⊎_elim
    (λ e. rw e ((window_valid_is 15 _ _).1 (omega arith, omega arith, omega arith, omega arith)))
    (λ e. rw e ((window_valid_is 30 _ _).1 (omega arith, omega arith, omega arith, omega arith)))
    (duration_is d known)

over_minutes : (l : Ledger) (d c i start end : ℕ) → duration_known l.opening.duration ≡ true → (category l.opening c).window ≡ suc i →
    (window l.opening (suc i)).start ≡ start → (window l.opening (suc i)).end ≡ end → window_valid l.opening.duration start end ≡ true →
    OffAndPeakOver l d c (periods_from l.opening.duration start end) (periods_from l.opening.duration 0 start ++ periods_from l.opening.duration end 1440)
over_minutes l d c i start end known names from to valid = rw (← from, ← to) (over_window l c i known names (rw (from, to) valid) d)

pub method_totals : MethodTotals
unfolding window_at
method_totals l d c known is = (
  λ names. rw (empty_from l.opening.duration) at
      (over_minutes l d c 0 0 420 known names (ap (λ m. (window_at m 1).start) is) (ap (λ m. (window_at m 1).end) is) (known_valid l.opening.duration 0 14 known (omega arith) (omega arith))),
  λ names.
      over_minutes l d c 1 30 450 known names (ap (λ m. (window_at m 2).start) is) (ap (λ m. (window_at m 2).end) is) (known_valid l.opening.duration 1 15 known (omega arith) (omega arith)),
)

-- the whole day
module _ (l : Ledger) (c : ℕ) (known : duration_known l.opening.duration ≡ true)
    (from : (window l.opening (category l.opening c).window).start ≡ 0)
    (to : (window l.opening (category l.opening c).window).end ≡ 1440) where
  off_all : (x : ℕ) → (totals_at l x c).off ≡ (totals_at l x c).tot
  unfolding totals_at totals_on off_on tot_on periods_per_day
  off_all x =
      rw (from, to)
      (sum_below_cong (1440 / l.opening.duration) _ _
      (λ k h. rw ((lies_within_true l.opening.duration 0 1440 (suc k)).1 (omega arith, (le-div_iff_mul-le (duration_pos _ known)).0 h))))

  peak_nothing : (x : ℕ) → (totals_at l x c).peak ≡ 0
  peak_nothing x =
      cases (eqb (category l.opening c).window 0)
      (λ q. ((off_and_peak_lem l x c known).1 (eqb-true _ _ q)).1)
      (λ q. let made_up = ((off_and_peak_lem l x c known).0 (eqb-false _ _ q)).0 in omega (arith, off_all x, made_up))

pub whole_day : WholeDay
whole_day l d c known from to =
    let week = week_exact l d c in
    let dates = run_dates_among l 7 d in (
      off_all l c known from to d,
      peak_nothing l c known from to d,
      week.1 ∙ sum_over_alike dates (off_all l c known from to) ∙ sym week.0,
      week.2 ∙ sum_over_alike dates (peak_nothing l c known from to) ∙ sum_over_none dates,
    )
