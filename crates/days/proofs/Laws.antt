-- A row counted and summed cell by cell, sums by wrapping differences, and days put category by category.
use Rattle.std.proofs.Common.{◌≡◌, ℕ, suc, ◌+◌, ◌*◌, ◌%◌, ◌<◌, ◌≤◌, min, Bool, true, cond, List, length, get_or, take, drop, sym, refl, ap, ◌∙◌, append_assoc, mul-le-mul_right, add-one, arith, drop-drop}
use lib.Seq.{sets-eq}
use Rattle.metering.specs.Sum.{sum_below, sum_below_zero, sum_below_suc}
use Rattle.metering.specs.Calendar.{periods_per_day, lies_within, covers, PeriodsWithin}
use Rattle.ledger.specs.Method.{Window, Cell, is_fresh, is_blank, fresh_among, blanks_among, origin_of, oldest_among}
use Rattle.ledger.specs.Table.{tabulate}
use Rattle.ledger.specs.Store.{duration_of, categories_of, dates_of, periods_of, window_of, row_length, category_of, cell_of_entry, DayEntries, day_entry, day_entry_of, tot_entry, tot_among, off_among, day_entries_of}
use Rattle.ledger.specs.Calls.{wrapping_sum, raised, put_day, entries_for, kept_days}
use Rattle.entries.specs.Row.{spliced}
use Rattle.ledger.specs.Store.{settings_ready}
use Rattle.ledger.proofs.Ready.{ready, periods_bound}
use Rattle.entries.specs.Sums.{Summed}
use Rattle.ledger.proofs.Lists.{length_tabulate, tabulate_ext, part_length, part_at, sum_below_cong}
use Rattle.ledger.proofs.Days.{fresh_most, blanks_most, oldest_most}
use Rattle.ledger.proofs.Kept.{for_cong}
use Rattle.entries.proofs.DayLaws.{half_flag, half_counted}
use Rattle.metering.specs.declared.calendar.Stretch.{Stretch}
use Rattle.days.specs.Window.{entries_in}
use Rattle.days.proofs.WindowLaws.{sum_of_stretch}

-- ---- a row so far

-- the counts of the first p cells, and the oldest origin among them
pub record CountedTo (cells : ℕ → Cell) (p fresh blanks oldest : ℕ) : Type 0 where
  pub fresh_is : fresh ≡ fresh_among p cells
  pub blanks_are : blanks ≡ blanks_among p cells
  pub oldest_is : oldest ≡ oldest_among p cells

pub none_counted : (cells : ℕ → Cell) → CountedTo cells 0 0 0 65535
unfolding fresh_among blanks_among oldest_among
none_counted cells = record { fresh_is = sym (sum_below_zero _); blanks_are = sym (sum_below_zero _); oldest_is = refl }

-- so few that there is room
pub few_counted : {cells : ℕ → Cell} {p fresh blanks oldest : ℕ} → CountedTo cells p fresh blanks oldest → (fresh ≤ p) × (blanks ≤ p) × (oldest ≤ 65535)
few_counted {cells = cells} {p = p} so = (rw so.fresh_is (fresh_most p cells), rw so.blanks_are (blanks_most p cells), rw so.oldest_is (oldest_most p cells))

-- a turn: one cell more, read in the lower half of its entry
pub counted_next : (xs : List ℕ) {p fresh blanks oldest f b o half least : ℕ} → CountedTo (λ k. cell_of_entry (get_or xs k 0)) p fresh blanks oldest →
    half ≡ get_or xs p 0 % 4294967296 → f ≡ is_fresh (cell_of_entry half).flag → b ≡ is_blank (cell_of_entry half).flag → o ≡ origin_of (cell_of_entry half) →
    least ≡ min oldest o → CountedTo (λ k. cell_of_entry (get_or xs k 0)) (p + 1) (fresh + f) (blanks + b) least
unfolding fresh_among blanks_among oldest_among
counted_next xs {p = p} {oldest = oldest} so lower fs bs os is =
    record {
      fresh_is = rw (so.fresh_is, fs ∙ ap is_fresh (half_flag _ _ lower), add-one p) (sym (sum_below_suc p (λ k. is_fresh (cell_of_entry (get_or xs k 0)).flag)));
      blanks_are = rw (so.blanks_are, bs ∙ ap is_blank (half_flag _ _ lower), add-one p) (sym (sum_below_suc p (λ k. is_blank (cell_of_entry (get_or xs k 0)).flag)));
      oldest_is = is ∙ ap (min oldest) (os ∙ half_counted _ _ lower) ∙ rw (so.oldest_is, add-one p);
    }

pub counted_all : {cells : ℕ → Cell} {p n fresh blanks oldest r : ℕ} → CountedTo cells p fresh blanks oldest → p ≡ n → r ≡ day_entry fresh blanks oldest → r ≡ day_entry_of n cells
unfolding day_entry_of
counted_all so e is = is ∙ rw (so.fresh_is, so.blanks_are, so.oldest_is, e)

-- ---- sums raised

-- the stretch lent, raised and put back
pub raised_is : (by n first w : ℕ) (xs ys : List ℕ) → first + n ≤ length xs → w ≡ n →
    ys ≡ tabulate (length (take w (drop first xs))) (λ k. wrapping_sum (get_or (take w (drop first xs)) k 0) by) → spliced xs ys first w ≡ raised by n first xs
unfolding raised
raised_is by n first w xs ys fits width is =
    let new = tabulate n (λ k. wrapping_sum (get_or xs (first + k) 0) by) in
    let long : length new ≡ n = length_tabulate n (λ k. wrapping_sum (get_or xs (first + k) 0) by) in
    let same : ys ≡ new =
    is ∙ rw (width, part_length xs first n fits) (tabulate_ext n _ (λ k. wrapping_sum (get_or xs (first + k) 0) by) (λ k l. ap (λ (x : ℕ). wrapping_sum x by) (part_at xs first n k l))) in
    rw (width, same, drop-drop n first xs) (sym (sets-eq new xs first (rw long fits) ∙ rw long (append_assoc (take first xs) new (drop (first + n) xs))))

-- ---- a date's days, category by category

-- what there is of each
pub sizes : (s : List ℕ) → settings_ready s ≡ true → (categories_of s ≤ 64) × (dates_of s ≤ 800) × (periods_of s ≤ 96)
sizes s opened = let known = ready s opened in (known.categories.1, known.dates.1, (periods_bound s known).1)

-- a category's stretch lies in the row
pub stretch_fits : (s row : List ℕ) (category : ℕ) → length row ≡ row_length s → category < categories_of s → category * periods_of s + periods_of s ≤ length row
unfolding row_length
stretch_fits s row category long h = omega (arith, long, mul-le-mul_right (periods_of s) h)

-- a turn: the days of one category more
pub kept_next : (s : List ℕ) (date c at w : ℕ) (e : DayEntries) (row days₀ days days' : List ℕ) → at ≡ c * periods_of s → w ≡ periods_of s → c * periods_of s + periods_of s ≤ length row →
    e ≡ entries_for s c (λ p. cell_of_entry (get_or (take w (drop at row)) p 0)) →
    days ≡ kept_days s date row c days₀ → days' ≡ put_day (dates_of s) c date e days → days' ≡ kept_days s date row (c + 1) days₀
unfolding kept_days
kept_next s date c at w e row days₀ days days' start width fits entry so put =
    put
    ∙ rw (so, entry, start, width, add-one c)
    (ap (λ (x : DayEntries). put_day (dates_of s) c date x (kept_days s date row c days₀))
    (for_cong s c _ (λ p. cell_of_entry (get_or row (c * periods_of s + p) 0)) (λ k l. ap cell_of_entry (part_at row (c * periods_of s) (periods_of s) k l))))

-- ---- a category's entries

-- the window's periods are those that the definition sums for OFF
pub entries_are : (s : List ℕ) (c duration number : ℕ) (own : Window) (stretch : Stretch) (cells : ℕ → Cell) → duration ≡ duration_of s → number ≡ (category_of s c).window →
    own ≡ window_of s number → PeriodsWithin duration own.start own.end stretch → entries_in stretch (periods_of s) cells ≡ entries_for s c cells
unfolding entries_for day_entries_of off_among periods_of
entries_are s c duration number own stretch cells d n w periods =
    rw (← n, ← w, ← d)
    (λ i.
    record {
      day = day_entry_of (periods_per_day duration) cells;
      tot = tot_entry (tot_among (periods_per_day duration) cells);
      off = sum_below_cong (periods_per_day duration) (λ k. cond (covers stretch k) (cells k).value 0) (λ k. cond (lies_within duration own.start own.end (suc k)) (cells k).value 0)
          (λ k l. ap (λ (t : Bool). cond t (cells k).value 0) (periods.lies k l)) i;
    })

-- TOT and OFF of a row
pub entries_summed : (window : Stretch) (row : List ℕ) (w first day tot off value : ℕ) → window.first + window.count ≤ length row → first ≡ window.first → w ≡ window.count →
    day ≡ day_entry_of (length row) (λ p. cell_of_entry (get_or row p 0)) →
    Summed (length row) 4294967295 (λ p. (cell_of_entry (get_or row p 0)).value) value → tot ≡ tot_entry value →
    Summed (length (take w (drop first row))) 4294967295 (λ p. (cell_of_entry (get_or (take w (drop first row)) p 0)).value) off →
    record { day = day; tot = tot; off = off } ≡ entries_in window (length row) (λ p. cell_of_entry (get_or row p 0))
unfolding tot_among
entries_summed window row w first day tot off value within start width d v t o =
    let f : ℕ → ℕ = λ p. (cell_of_entry (get_or row p 0)).value in
    let summed : off ≡ sum_below window.count (λ i. f (window.first + i)) =
    o.is ∙ rw (start, width, part_length row window.first window.count within)
    (sum_below_cong window.count _ (λ i. f (window.first + i)) (λ k l. ap (λ (x : ℕ). (cell_of_entry x).value) (part_at row window.first window.count k l))) in
    let tots : tot ≡ tot_entry (sum_below (length row) f) = t ∙ ap tot_entry v.is in
    let offs = summed ∙ sum_of_stretch window (length row) f within in
    λ i. record { day = d i; tot = tots i; off = offs i }
