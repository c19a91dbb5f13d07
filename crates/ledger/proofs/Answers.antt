-- The reads answer alike.
use Rattle.std.proofs.Common.{◌≡◌, ℕ, suc, ◌+◌, ◌-◌, ◌*◌, ◌%◌, ◌<◌, ◌≤◌, Bool, true, cond, List, length, get_or, pos, ◌-ℤ◌, sym, refl, ap, ◌∙◌, add_assoc, mul-le-mul_right, suc-mul, arith, ne_eqb}
use borrow.Table.Steps.{cases}
use Rattle.ledger.specs.Table.{tabulate}
use Rattle.ledger.specs.Sizes.{cells_length}
use Rattle.ledger.specs.Net.{active_import, active_export, on_side, side_of, sum_over, net_on}
use Rattle.ledger.specs.Band.{BandCall, in_band, band_dates, band_on}
use Rattle.ledger.specs.Fill.{ShapeOf, of_category, of_opted_out, is_opted_out_shape, shape_category, FillCall, weight_by, may_fill}
use Rattle.ledger.specs.Checks.{NetCall, may_net}
use Rattle.ledger.specs.Ledger.{window, categories, dates, periods, category, day_type, Ledger, cell_by, cell_at, is_picture, is_run, totals_at, side_at, net_at, band_at, shape_at, weight_at, fill_at, coverage_at}
use Rattle.ledger.specs.Store.{dates_of, periods_of, row_length, category_of, day_type_of, cell_of_entry, cell_index, is_run_at, tot_row, off_row, day_index, day_entry_of, day_entries_of, is_run_day}
use Rattle.ledger.specs.Calls.{row_at, cell_for, dates_sum, entries_at, totals_for, side_for, week_for, net_of_sides, net_for, band_for, shape_for, weight_for, fill_for, coverage_for, stretch}
use Rattle.ledger.specs.Engine.{cells_of, Every}
use Rattle.ledger.proofs.Lists.{sum_below_cong, tabulate_ext}
use Rattle.ledger.proofs.Days.{over, day_not_zero, recounted}
use Rattle.ledger.proofs.Totals.{dates_sum_lem, totals_kept}
use Rattle.ledger.proofs.Chosen.{chosen_cong, chosen_below_lem, first_cong}
use Rattle.ledger.proofs.Nets.{sum_over_cong, period_cong, tot_cong, mark_cong}
use Rattle.ledger.proofs.NetDemands.{net_of_totals}
use Rattle.ledger.proofs.Fills.{filled_cong}
use Rattle.ledger.proofs.Relation.{SettingsAgree, CellsAgree, day_by, DaysAgree, Sound}
use Rattle.ledger.proofs.Drafts.{cells_of_lem}
use Rattle.ledger.proofs.Runs.{valid_periods, ran_is, value_small, entry_is}

-- ---- the store's cells are the ledger's

module _ (l : Ledger) (s cells : List ℕ) (agree : SettingsAgree l.opening s) (cellsAgree : CellsAgree l.opening cells l.pictures) (sound : Sound l) where
  pub run_is : (d : ℕ) → d < dates l.opening → is_run_at (row_length s) cells d ≡ is_run l d
  unfolding is_run
  run_is d h = ran_is l.opening s cells agree l.pictures sound.valid sound.pictures_are cellsAgree d h

  pub cell_is_lem : (d c k : ℕ) → d < dates l.opening → c < categories l.opening → k < periods l.opening → is_run l d ≡ true → cell_for s cells d c (suc k) ≡ cell_at l d c (suc k)
  unfolding cell_for cell_index is_run cell_at periods_of row_at
  cell_is_lem d c k hd hc hk r =
      rw (agree.categories_are, agree.duration, pred_suc k)
      (unfold row_at in entry_is l.opening s cells agree l.pictures sound.valid sound.pictures_are cellsAgree d c k hd hc hk r)
    where
      pred_suc : (k : ℕ) → suc k - 1 ≡ k
      pred_suc k = omega arith

  -- a category's row of a run date
  pub published_row : (d c : ℕ) → d < dates l.opening → c < categories l.opening → is_run l d ≡ true →
      cells_of (stretch (periods l.opening) (d * row_length s + c * periods l.opening) cells) ≡ tabulate (periods l.opening) (λ k. cell_at l d c (suc k))
  unfolding row_at is_run cell_at
  published_row d c hd hc r =
      let P = periods l.opening in
      let n = categories l.opening * P in
      let is : row_length s ≡ n = (unfold row_length periods_of in rw (agree.categories_are, agree.duration)) in
      rw is
      (cells_of_lem P (d * n + c * P) cells _
      (let long : dates l.opening * n ≤ length cells = (unfold cells_length in cellsAgree.long) in
      omega (arith, suc-mul c P, mul-le-mul_right P hc, suc-mul d n, mul-le-mul_right n hd))
      (λ k m. ap (λ (i : ℕ). cell_of_entry (get_or cells i 0)) (add_assoc (d * n) (c * P) k) ∙ entry_is l.opening s cells agree l.pictures sound.valid sound.pictures_are cellsAgree d c k hd hc m r))

  -- the settings have the opening's categories, so the same ones stand on each side of a net
  side_same : (all_groups : Bool) (quantity c : ℕ) → c < categories l.opening →
      side_of (category_of s) (categories l.opening) all_groups quantity c ≡ side_of (category l.opening) (categories l.opening) all_groups quantity c
  unfolding side_of
  side_same all_groups quantity c hc =
      rw (agree.records c hc)
      (chosen_cong (categories l.opening) _ _ (λ b h. ap (on_side all_groups quantity (category l.opening c)) (agree.records b h)))

  side_is : (all_groups : Bool) (quantity c : ℕ) → c < categories l.opening → side_for s all_groups quantity c ≡ side_at l all_groups quantity c
  unfolding side_for side_at
  side_is all_groups quantity c hc = rw agree.categories_are (side_same all_groups quantity c hc)

  pub may_net_is : (all_groups : Bool) (c : ℕ) → c < categories l.opening →
      may_net (category_of s) (categories l.opening) all_groups c ≡ may_net (category l.opening) (categories l.opening) all_groups c
  unfolding may_net
  may_net_is all_groups c hc = rw (side_same all_groups active_export c hc, agree.records c hc)

  side_low : (all_groups : Bool) (quantity c : ℕ) → Every (λ b. b < categories l.opening) (side_at l all_groups quantity c)
  unfolding side_at side_of
  side_low all_groups quantity c = chosen_below_lem (categories l.opening) _

-- the settings have the opening's categories, so an opted-out meter takes the same one
pub shape_is : (l : Ledger) (s : List ℕ) → SettingsAgree l.opening s → (a : FillCall) → shape_for s a ≡ shape_at l a
unfolding shape_for shape_at shape_category
shape_is l s agree a = rw agree.categories_are (same a.shape)
  where
    same : (x : ShapeOf) → shape_category (category_of s) (categories l.opening) x ≡ shape_category (category l.opening) (categories l.opening) x
    same (of_category c) = refl
    same (of_opted_out g q n) = first_cong _ _ (categories l.opening) 0 (λ c h. ap (is_opted_out_shape g q n) (agree.records c (omega (arith, h))))

module _ (l : Ledger) (s cells : List ℕ) (agree : SettingsAgree l.opening s) (cellsAgree : CellsAgree l.opening cells l.pictures) (sound : Sound l) (a : FillCall)
    (date : a.date < dates l.opening) (shape : shape_at l a < categories l.opening) (ran : is_run l a.date ≡ true) where
  weight_is : (k : ℕ) → k < periods l.opening → weight_for s cells a k ≡ weight_at l a k
  unfolding weight_for weight_at weight_by
  weight_is k h = rw (shape_is l s agree a, cell_is_lem l s cells agree cellsAgree sound a.date (shape_at l a) k date shape h ran)

  pub may_fill_is : may_fill (periods_of s) (weight_for s cells a) ≡ may_fill (periods l.opening) (weight_at l a)
  unfolding may_fill periods_of
  may_fill_is = rw (agree.duration, sum_below_cong (periods l.opening) _ _ weight_is)

  pub fill_is : fill_for s cells a ≡ fill_at l a
  unfolding fill_for fill_at periods_of
  fill_is = rw agree.duration (filled_cong (periods l.opening) (weight_for s cells a) (weight_at l a) a.advance weight_is)

-- ---- totals, coverage and bands

module _ (l : Ledger) (s days : List ℕ) (agree : SettingsAgree l.opening s) (daysAgree : DaysAgree l.opening days l.pictures) (sound : Sound l) where
  -- a date is run in the days where it is run
  pub run_day_is : (d c : ℕ) → d < dates l.opening → c < categories l.opening → is_run_day (dates_of s) c days d ≡ is_run l d
  unfolding is_run_day is_run day_by day_entries_of
  run_day_is d c hd hc =
      rw (agree.dates_are, (daysAgree.are c d hc hd).0)
      (cases (is_picture (l.pictures d))
      (λ r. rw (r, ne_eqb _ 0 (day_not_zero (periods l.opening) (λ k. cell_by l.opening l.pictures d c (suc k)))))
      (λ r. rw r))

  day_is : (d c : ℕ) →
      (day_by l.opening l.pictures c d).day
      ≡ cond (is_picture (l.pictures d)) (day_entry_of (periods l.opening) (λ k. cell_by l.opening l.pictures d c (suc k))) 0
  unfolding day_by day_entries_of
  day_is d c = cases (is_picture (l.pictures d)) (λ q. rw q) (λ q. rw q)

  pub coverage_is_lem : (d c : ℕ) → d < dates l.opening → c < categories l.opening → is_run l d ≡ true → coverage_for s days d c ≡ coverage_at l d c
  unfolding coverage_for coverage_at is_run cell_at
  coverage_is_lem d c hd hc r =
      rw (agree.dates_are, (daysAgree.are c d hc hd).0, (daysAgree.are c d hc hd).1)
      (recounted (periods l.opening) (valid_periods l.opening sound.valid).1 (λ x. is_picture (l.pictures x)) (λ x j. cell_by l.opening l.pictures x c j)
      (λ y. (day_by l.opening l.pictures c y).day) d (λ y m. day_is y c) r)

  -- what is read off the days of the dates up to d
  entries_are : (d c : ℕ) → d < dates l.opening → c < categories l.opening → entries_at s days d c ≡ day_by l.opening l.pictures c d
  unfolding entries_at
  entries_are d c hd hc =
      rw agree.dates_are
      (λ i. record { day = (daysAgree.are c d hc hd).0 i; tot = (daysAgree.are c d hc hd).2 i; off = (daysAgree.are c d hc hd).3 i })

  -- the sum of a row's entries, v of each date
  row_sum : (r n d c : ℕ) (v : ℕ → ℕ) → d < dates l.opening →
      ((y : ℕ) → y < dates l.opening → get_or days (day_index (dates l.opening) c r y) 0 ≡ v y) →
      dates_sum n d (day_index (dates_of s) c r d) days ≡ over n v d % 18446744073709551616
  row_sum r n d c v hd are = rw agree.dates_are (dates_sum_lem (dates l.opening) c r n d days v (λ y m. are y (omega arith)))

  pub totals_are_lem : (d c : ℕ) → d < dates l.opening → c < categories l.opening → is_run l d ≡ true → totals_for s days d c ≡ totals_at l d c
  unfolding totals_for totals_at is_run cell_at
  totals_are_lem d c hd hc r =
      let tots : (n : ℕ) → _ = λ n. row_sum tot_row n d c (λ y. (day_by l.opening l.pictures c y).tot) hd (λ y m. (daysAgree.are c y hc m).2) in
      let offs : (n : ℕ) → _ = λ n. row_sum off_row n d c (λ y. (day_by l.opening l.pictures c y).off) hd (λ y m. (daysAgree.are c y hc m).3) in
      rw (agree.records c hc, entries_are d c hd hc, tots 7, offs 7, tots 365)
      (totals_kept l.opening.duration (periods l.opening) (category l.opening c).window (window l.opening (category l.opening c).window) (valid_periods l.opening sound.valid).1 (λ x. is_picture (l.pictures x))
      (λ x j. cell_by l.opening l.pictures x c j) (day_by l.opening l.pictures c) d
      (λ y m. unfold day_by in refl)
      (λ y k m n. value_small l.opening l.pictures sound.valid sound.pictures_are y c k (omega arith) n)
      r)

  -- a date that is not run is in no band, and on a run one TOT is the same
  band_test : (a : BandCall) → a.category < categories l.opening → (d : ℕ) → d < dates l.opening →
      in_band (dates l.opening) (is_run_day (dates_of s) a.category days) (day_type_of s) (λ x. (totals_for s days x a.category).tot) a d
      ≡ in_band (dates l.opening) (is_run l) (day_type l.opening) (λ x. (totals_at l x a.category).tot) a d
  unfolding in_band
  band_test a hc d hd =
      rw (agree.types d hd, run_day_is d a.category hd hc) (cases (is_run l d) (λ q. rw (q, totals_are_lem d a.category hd hc q)) (λ q. rw q))

  pub band_is_lem : (a : BandCall) → a.category < categories l.opening → band_for s days a ≡ band_at l a
  unfolding band_for band_at band_on band_dates
  band_is_lem a hc = rw (agree.dates_are, chosen_cong (dates l.opening) _ _ (rw agree.dates_are at (band_test a hc)))

-- ---- nets: periods from the cells, TOT7 from the days

module _ (l : Ledger) (s cells days : List ℕ) (agree : SettingsAgree l.opening s) (cellsAgree : CellsAgree l.opening cells l.pictures)
    (daysAgree : DaysAgree l.opening days l.pictures) (sound : Sound l) where
  week_is : (side : List ℕ) (d : ℕ) → Every (λ b. b < categories l.opening) side → d < dates l.opening → is_run l d ≡ true →
      week_for s days side d ≡ sum_over side (λ c. (totals_at l d c).tot7)
  unfolding week_for
  week_is side d low hd r = sum_over_cong side _ _ (λ c. c < categories l.opening) low (λ c h. ap (λ t. t.tot7) (totals_are_lem l s days agree daysAgree sound d c hd h r))

  module _ (a : NetCall) (hd : a.date < dates l.opening) (hc : a.category < categories l.opening) (r : is_run l a.date ≡ true) where
    abbrev imports : List ℕ
    imports = side_at l a.all_groups active_import a.category

    abbrev exports : List ℕ
    exports = side_at l a.all_groups active_export a.category

    import_low : Every (λ b. b < categories l.opening) imports
    import_low = side_low l s cells agree cellsAgree sound a.all_groups active_import a.category

    export_low : Every (λ b. b < categories l.opening) exports
    export_low = side_low l s cells agree cellsAgree sound a.all_groups active_export a.category

    alike : (c k : ℕ) → c < categories l.opening → k < periods l.opening → cell_for s cells a.date c (suc k) ≡ cell_at l a.date c (suc k)
    alike c k m n = cell_is_lem l s cells agree cellsAgree sound a.date c k hd m n r

    abbrev ran : ℕ → Bool
    ran = is_run_at (row_length s) cells

    week : pos (week_for s days imports a.date) -ℤ pos (week_for s days exports a.date) ≡ (net_at l a).tot7
    week = rw (week_is imports a.date import_low hd r, week_is exports a.date export_low hd r) (sym (net_of_totals l a).1)

    pub net_is_lem : net_for s cells days a ≡ net_at l a
    unfolding net_for net_of_sides net_at net_on periods_of
    net_is_lem =
        rw (agree.duration, side_is l s cells agree cellsAgree sound a.all_groups active_import a.category hc, side_is l s cells agree cellsAgree sound a.all_groups active_export a.category hc)
        (λ i.
        record {
          tot = tot_cong (periods l.opening) ran (is_run l) (cell_for s cells) (cell_at l) (categories l.opening) imports exports import_low export_low a.date alike i;
          tot7 = week i;
          periods = tabulate_ext (periods l.opening) _ _ (period_cong (periods l.opening) ran (is_run l) (cell_for s cells) (cell_at l) (categories l.opening) imports exports import_low export_low a.date alike) i;
          marks = tabulate_ext (periods l.opening) _ _ (mark_cong (periods l.opening) ran (is_run l) (cell_for s cells) (cell_at l) (categories l.opening) imports exports import_low export_low a.date alike) i;
        })
