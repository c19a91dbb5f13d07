-- What is promised of figures: which cell a date takes over, and the totals.
use Rattle.std.proofs.Common.{◌≡◌, ℕ, zero, suc, ◌+◌, ◌-◌, ◌<◌, ◌≤◌, Bool, true, false, cond, ◌&&◌, eqb, ltb, leb, ◌≢◌, ◌⊎◌, List, [], ◌∷◌, length, sym, refl, ap, ◌∙◌, inl, inr, ⊎_elim, add-zero, eq-or-lt_of_le, zero-add, arith, length-append, ltb-false, ltb-true, le-ltb, lt-ltb, eq-eqb, ne_eqb, eqb-true, leb-false, leb-true}
use mathlib.Core.Option.{Option, none, some}
use borrow.Table.Steps.{cases}
use borrow.Author.Tests.{eqb-false}
use Rattle.metering.specs.Sum.{sum_below, sum_below_zero, sum_below_suc, sum_below_le}
use Rattle.metering.specs.Average.{annual}
use Rattle.metering.specs.Calendar.{lies_within}
use Rattle.metering.proofs.Laws.{average_is, annual_is, duration_pos, empty_window}
use Rattle.ledger.specs.Method.{Category, window_at, Picture, Fresh, absent, fresh_in, Flag, A, D, E, N, flag_number, is_fresh, is_blank, blank, carried, cell_from, Day, not_run, ran, latest, over_run_dates, fresh_among, blanks_among, tot_on, off_on, peak_on, totals_on}
use Rattle.ledger.specs.Table.{chosen_below}
use Rattle.ledger.specs.Net.{sum_over}
use Rattle.ledger.specs.Ledger.{periods, window, category, day_type, Ledger, day_of, is_picture, is_run, cell_by, cell_at, totals_at}
use Rattle.ledger.specs.Demands.{Earlier, Nearest, taken_over, CopyOf, NoShape, NearestEarlier, CarriedExact, CarriesNearest, run_dates_among, WeekExact, YearExact, TotIsSum, OffAndPeak, flagged_on, FlagsCounted}
use Rattle.ledger.proofs.Lists.{sum_below_cong, sum_below_none, sum_below_plus, sum_below_one, sum_below_ones, part_le}
use Rattle.ledger.proofs.Columns.{latest_other_type, latest_not_run, latest_run, cell_run}
use Rattle.ledger.proofs.Nets.{sum_over_none, sum_over_plus, sum_over_alike, sum_over_tabulate}
use Rattle.ledger.proofs.NetDemands.{sum_chosen}

-- ---- the nearest earlier run date

-- dates of another type, or not run, are passed over
passed_over : (dt : ℕ → ℕ) (day : ℕ → Day) (t e d : ℕ) → e ≤ d → ((x : ℕ) → e ≤ x → x < d → (eqb (dt x) t ≡ false) ⊎ (day x ≡ not_run)) →
    latest dt day t d ≡ latest dt day t e
passed_over dt day t e zero h all = let is : e ≡ 0 = omega arith in rw is
passed_over dt day t e (suc d) h all =
    ⊎_elim
    (λ (is : e ≡ suc d). rw is)
    (λ (l : e < suc d).
    let low : e ≤ d = omega arith in
    ⊎_elim (λ o. latest_other_type dt day t d o) (λ n. latest_not_run dt day t d n) (all d low (omega arith))
    ∙ passed_over dt day t e d low (λ x a b. all x a (omega arith)))
    (eq-or-lt_of_le h)

day_not_run : (cat : ℕ → Category) (c j : ℕ) (p : Option Picture) → is_picture p ≡ false → day_of cat c j p ≡ not_run
day_not_run cat c j none e = refl
day_not_run cat c j (some p) e = absurd (let z : ◌≡◌ {A = ℕ} 0 1 = cc in omega arith)

day_run : (cat : ℕ → Category) (c j : ℕ) (p : Option Picture) → is_picture p ≡ true → (f : Fresh) × (day_of cat c j p ≡ ran f)
day_run cat c j none e = absurd (let z : ◌≡◌ {A = ℕ} 0 1 = cc in omega arith)
day_run cat c j (some p) e = (fresh_in cat p c j, refl)

module _ (l : Ledger) (d c j : ℕ) where
  abbrev dt : ℕ → ℕ
  dt = day_type l.opening

  abbrev day : ℕ → Day
  day x = day_of (category l.opening) c j (l.pictures x)

  none_from : (e : ℕ) → ((x : ℕ) → e ≤ x → Earlier l x d → ⊥) → (x : ℕ) → e ≤ x → x < d → (eqb (dt x) (dt d) ≡ false) ⊎ (day x ≡ not_run)
  none_from e nothing x low h =
      cases (is_run l x)
      (λ r. cases (eqb (dt x) (dt d)) (λ t. absurd (nothing x low (record { before = h; is_run = r; same_type = eqb-true _ _ t }))) (λ t. inl t))
      (λ r. inr (day_not_run (category l.opening) c j (l.pictures x) (unfold is_run in r)))

  is_nearest : (e : ℕ) → Nearest l e d → taken_over l d c j ≡ cell_at l e c j
  unfolding is_run cell_at cell_by
  is_nearest e n =
      let shape = day_run (category l.opening) c j (l.pictures e) n.earlier.is_run in
      passed_over dt day (dt d) (suc e) d n.earlier.before (none_from (suc e) n.none_between)
      ∙ latest_run dt day (dt d) e shape.0 shape.1 (eq-eqb _ _ n.earlier.same_type)
      ∙ rw (← n.earlier.same_type) (sym (cell_run dt day (dt e) e shape.0 shape.1))

  is_none : ((e : ℕ) → Earlier l e d → ⊥) → taken_over l d c j ≡ blank
  is_none nothing = passed_over dt day (dt d) 0 d (omega arith) (none_from 0 (λ x low. nothing x)) ∙ (unfold latest in refl)

blank_is : NoShape blank
unfolding blank
blank_is = record { flagged = refl; no_value = refl; no_count = refl; no_origin = refl; no_remainder = refl }

pub nearest_earlier : NearestEarlier
nearest_earlier l d c j = (is_nearest l d c j, λ nothing. rw (is_none l d c j nothing) blank_is)

pub carried_exact : CarriedExact
unfolding carried
carried_exact a = (
  λ n.
      (elim a.flag as (λ f. a.flag ≡ f → CopyOf a (carried a)) [
        | A ↦ λ q. rw q (record { flagged = refl; same_value = refl; same_count = refl; same_origin = refl; same_remainder = refl })
        | D ↦ λ q. rw q (record { flagged = refl; same_value = refl; same_count = refl; same_origin = refl; same_remainder = refl })
        | E ↦ λ q. rw q (record { flagged = refl; same_value = refl; same_count = refl; same_origin = refl; same_remainder = refl })
        | N ↦ λ q. absurd (n q)
      ]) refl,
  λ q. rw q blank_is,
)

carried_blank : carried blank ≡ blank
unfolding carried blank
carried_blank = refl

own_absent : (l : Ledger) (d c j : ℕ) (p : Picture) → l.pictures d ≡ some p → fresh_in (category l.opening) p c j ≡ absent →
    cell_at l d c j ≡ carried (taken_over l d c j)
unfolding cell_at cell_by
own_absent l d c j p is own = cell_run (dt l d c j) (day l d c j) 0 d absent (rw (is, own)) ∙ (unfold cell_from in refl)

pub carries_nearest : CarriesNearest
carries_nearest l d c j p is own =
    let here = own_absent l d c j p is own in
    (λ e n. here ∙ ap carried (is_nearest l d c j e n), λ nothing. rw (here, is_none l d c j nothing, carried_blank) blank_is)

-- ---- sums over run dates

sum_ones : (ds : List ℕ) → sum_over ds (λ _. 1) ≡ length ds
unfolding sum_over
sum_ones [] = refl
sum_ones (x ∷ xs) = let h = sum_ones xs in omega arith

module _ (run : ℕ → Bool) (f : ℕ → ℕ) (d : ℕ) where
  abbrev term : ℕ → ℕ → ℕ
  term n x = cond (ltb d (x + n) && run x) (f x) 0

  -- one date more
  term_more : (n x : ℕ) → n ≤ d → term (suc n) x ≡ term n x + cond (eqb x (d - n)) (cond (run x) (f x) 0) 0
  term_more n x h =
      cases (eqb x (d - n))
      (λ q. let is = eqb-true x (d - n) q in rw (q, lt-ltb d (x + suc n) (omega arith), le-ltb d (x + n) (omega arith), zero-add))
      (λ q.
      let other = eqb-false x (d - n) q in
      rw (q, add-zero)
      (cases (ltb d (x + n))
      (λ t. let low = ltb-true d (x + n) t in rw (t, lt-ltb d (x + suc n) (omega arith)))
      (λ t. let high = ltb-false d (x + n) t in rw (t, le-ltb d (x + suc n) (omega arith)))))

  -- no date is more than d before d
  term_same : (n x : ℕ) → d < n → term (suc n) x ≡ term n x
  term_same n x h = rw (lt-ltb d (x + suc n) (omega arith), lt-ltb d (x + n) (omega arith))

  by_dates : (n : ℕ) → over_run_dates run n f d ≡ sum_below (suc d) (term n)
  unfolding over_run_dates
  by_dates zero = sum_below_zero _ ∙ sym (sum_below_none (suc d) (term 0) (λ x l. rw (le-ltb d (x + 0) (omega arith))))
  by_dates (suc n) =
      cases (leb n d)
      (λ q.
      let low = leb-true n d q in
      sym
      (sum_below_cong (suc d) _ _ (λ x l. term_more n x low)
      ∙ sum_below_plus (suc d) (term n) _
      ∙ rw (← by_dates n, sum_below_one (suc d) (d - n) (λ x. cond (run x) (f x) 0) (omega arith)) (sym (sum_below_suc n _ ∙ rw q))))
      (λ q.
      let high = leb-false n d q in
      sym (sum_below_cong (suc d) _ _ (λ x l. term_same n x high) ∙ rw (← by_dates n) (sym (sum_below_suc n _ ∙ rw (q, add-zero)))))

pub over_dates : (l : Ledger) (n : ℕ) (f : ℕ → ℕ) (d : ℕ) → over_run_dates (is_run l) n f d ≡ sum_over (run_dates_among l n d) f
over_dates l n f d = by_dates (is_run l) f d n ∙ sym (sum_chosen (suc d) _ f)

days_are : (l : Ledger) (n d : ℕ) → over_run_dates (is_run l) n (λ _. 1) d ≡ length (run_dates_among l n d)
days_are l n d = over_dates l n (λ _. 1) d ∙ sum_ones (run_dates_among l n d)

pub week_exact : WeekExact
unfolding totals_at totals_on
week_exact l d c = (over_dates l 7 _ d, over_dates l 7 _ d, over_dates l 7 _ d, days_are l 7 d)

-- a run date is one of its own
itself : (l : Ledger) (n d : ℕ) → 0 < n → is_run l d ≡ true → 0 < length (run_dates_among l n d)
unfolding chosen_below
itself l n d h r = rw (length-append, r, lt-ltb d (d + n) (omega arith)) (omega arith)

pub year_exact : YearExact
unfolding totals_at totals_on
year_exact l d c =
    rw (days_are l 365 d, over_dates l 365 _ d) (
      refl,
      λ e. (unfold annual in rw e),
      λ r. let some = itself l 365 d (omega arith) r in (average_is _ _ _ some).1 (annual_is _ _ some),
    )

pub tot_is_sum : TotIsSum
unfolding totals_at totals_on tot_on
tot_is_sum l d c = sym (sum_over_tabulate (periods l.opening) suc _)

module _ (l : Ledger) (c : ℕ) where
  off_le : (d : ℕ) → (totals_at l d c).off ≤ (totals_at l d c).tot
  unfolding totals_at totals_on tot_on off_on
  off_le d =
      let own = window l.opening (category l.opening c).window in
      sum_below_le (periods l.opening) _ _
      (λ k h. part_le (lies_within l.opening.duration own.start own.end (suc k)) (cell_at l d c (suc k)).value)

  with_window : (d : ℕ) → (category l.opening c).window ≢ 0 → (totals_at l d c).peak + (totals_at l d c).off ≡ (totals_at l d c).tot
  unfolding totals_at totals_on peak_on
  with_window d w = rw (ne_eqb _ _ w) (let h = off_le d in omega arith)

  off_none : (d : ℕ) → 0 < l.opening.duration → (category l.opening c).window ≡ 0 → (totals_at l d c).off ≡ 0
  unfolding totals_at totals_on off_on window_at
  off_none d h w = sum_below_none (periods l.opening) _ (λ k b. rw (w, empty_window l.opening.duration 0 (suc k) h (omega arith)))

  peak_none : (d : ℕ) → (category l.opening c).window ≡ 0 → (totals_at l d c).peak ≡ 0
  unfolding totals_at totals_on peak_on
  peak_none d w = rw w

pub off_and_peak_lem : OffAndPeak
off_and_peak_lem l d c known =
    let week = week_exact l d c in
    let ds = run_dates_among l 7 d in
    let h = duration_pos l.opening.duration known in (
      λ w. (
        with_window l c d w,
        rw (week.0, week.1, week.2) (sym (sum_over_plus ds _ _) ∙ sum_over_alike ds (λ x. with_window l c x w)),
      ),
      λ w. (
        off_none l c d h w,
        peak_none l c d w,
        week.1 ∙ sum_over_alike ds (λ x. off_none l c x h w) ∙ sum_over_none ds,
        week.2 ∙ sum_over_alike ds (λ x. peak_none l c x w) ∙ sum_over_none ds,
      ),
    )

-- ---- flags

pub chosen_count : (n : ℕ) (test : ℕ → Bool) → length (chosen_below n test) ≡ sum_below n (λ k. cond (test k) 1 0)
chosen_count n test = sym (sum_ones (chosen_below n test)) ∙ sum_chosen n test (λ _. 1)

-- 1 where a flag is f
abbrev one : Flag → Flag → ℕ
one f g = cond (eqb (flag_number g) (flag_number f)) 1 0

fresh_flags : (g : Flag) → is_fresh g ≡ one A g + one D g
fresh_flags A = refl
fresh_flags D = refl
fresh_flags E = refl
fresh_flags N = refl

blank_flags : (g : Flag) → is_blank g ≡ one N g
blank_flags A = refl
blank_flags D = refl
blank_flags E = refl
blank_flags N = refl

every_flag : (g : Flag) → is_fresh g + is_blank g + one E g ≡ 1
every_flag A = refl
every_flag D = refl
every_flag E = refl
every_flag N = refl

pub flags_counted : FlagsCounted
unfolding totals_at totals_on fresh_among blanks_among
flags_counted l d c =
    rw (flagged A, flagged D, flagged E, flagged N) (
      sum_below_cong P _ _ (λ k h. fresh_flags (flag k)) ∙ sum_below_plus P _ _,
      sum_below_cong P _ _ (λ k h. blank_flags (flag k)),
      ap (λ n. n + sum_below P (λ k. one E (flag k))) (sym (sum_below_plus P _ _)) ∙ sym (sum_below_plus P _ _)
          ∙ sum_below_cong P _ _ (λ k h. every_flag (flag k))
          ∙ sum_below_ones P,
    )
  where
    P : ℕ
    P = periods l.opening

    flag : ℕ → Flag
    flag k = (cell_at l d c (suc k)).flag

    flagged : (f : Flag) → flagged_on l d c f ≡ sum_below P (λ k. one f (flag k))
    flagged f = chosen_count P _
