-- The days beside the cells: what changing one day does to the sums over dates, a date's days put, and what is read off them.
use Rattle.std.proofs.Common.{◌≡◌, ℕ, zero, suc, ◌+◌, ◌-◌, ◌*◌, ◌/◌, ◌%◌, ◌<◌, ◌≤◌, min, Bool, true, cond, ◌&&◌, eqb, ltb, leb, ◌≢◌, ◌⊎◌, List, length, get_or, set, sym, refl, ap, ◌∙◌, ap₂, inl, inr, ⊎_elim, zero-mul, arith, length-set, get_or-set_other, get_or-set_same, ltb-false, ltb-true, le-ltb, lt-ltb, eqb-true, le-leb, leb-true}
use mathlib.Core.Path.{fun_ext}
use lib.Arith.{lt_of_le-ne}
use lib.Seq.{length-sets}
use borrow.Table.Steps.{cases}
use borrow.Author.Tests.{eqb-false}
use Rattle.metering.specs.Sum.{sum_below}
use Rattle.ledger.specs.Method.{Flag, A, D, E, N, Cell, is_fresh, is_blank, over_run_dates, fresh_among, blanks_among, oldest_among, coverage_on}
use Rattle.ledger.specs.Sizes.{days_length}
use Rattle.ledger.specs.Table.{tabulate}
use Rattle.ledger.specs.Store.{dates_of, periods_of, cell_of_entry, day_row, sum_row, tot_row, off_row, day_index, DayEntries, not_run_entries, day_entry, day_entry_of, day_entries_of, counts_of, coverage_of}
use Rattle.ledger.specs.Calls.{wrapping_sum, wrapping_difference, raised, raised_sums, placed, put_day, entries_for, kept_days}
use Rattle.ledger.proofs.Lists.{get_d_sets_below, get_d_sets_above, get_d_sets_at, length_tabulate, get_d_tabulate, sum_below_cong, sum_below_none, sum_below_plus, sum_times, sum_below_most, part_le, sum_below_changed, block_other, block_below}

-- ---- sums over dates

-- the sum of v over the dates among d and the n − 1 before it
unfoldable pub over : ℕ → (ℕ → ℕ) → ℕ → ℕ
over n v d = sum_below n (λ k. cond (leb k d) (v (d - k)) 0)

-- a day that is changed is a term of the sums of the n dates from it on, and of no other
module _ (n : ℕ) (v v' : ℕ → ℕ) (d x : ℕ) (alike : (y : ℕ) → y ≢ d → v' y ≡ v y) where
  term_kept : (k : ℕ) → (k ≤ x → x - k ≢ d) → cond (leb k x) (v' (x - k)) 0 ≡ cond (leb k x) (v (x - k)) 0
  term_kept k other = cases (leb k x) (λ q. rw q (alike (x - k) (other (leb-true k x q)))) (λ q. rw q)

  pub over_changed : d ≤ x → x < d + n → over n v' x + v d ≡ over n v x + v' d
  unfolding over
  over_changed low high =
      let at : x - (x - d) ≡ d = omega arith in
      rw (le-leb (x - d) x (omega arith), at) at
      (sum_below_changed n (x - d) (λ k. cond (leb k x) (v' (x - k)) 0) (λ k. cond (leb k x) (v (x - k)) 0) (omega arith)
      (λ k l other. term_kept k (λ h (q : x - k ≡ d). other (omega arith))))

  pub over_kept : (x < d) ⊎ (d + n ≤ x) → over n v' x ≡ over n v x
  unfolding over
  over_kept far = sum_below_cong n _ _ (λ k l. term_kept k (λ h (q : x - k ≡ d). ⊎_elim (λ (m : x < d). omega arith) (λ (m : d + n ≤ x). omega arith) far))

-- ---- counts: a day has at most 96 of each, so the sums over a week and over a year stand side by side in an entry

abbrev pub Few : ℕ → Type 0
Few z = (z % 65536 ≤ 96) × (z / 65536 ≤ 96)

few_small : (z : ℕ) → Few z → z ≤ 6291552
few_small z few = omega arith

over_most : (n : ℕ) (v : ℕ → ℕ) (x : ℕ) → ((y : ℕ) → Few (v y)) → over n v x ≤ n * 6291552
unfolding over
over_most n v x few =
    sum_below_most n 6291552 (λ k. cond (leb k x) (v (x - k)) 0)
    (λ k l. let part = part_le (leb k x) (v (x - k)) in let small = few_small (v (x - k)) (few (x - k)) in omega arith)

over_small : (n : ℕ) (v : ℕ → ℕ) (x : ℕ) → n ≤ 365 → ((y : ℕ) → Few (v y)) → over n v x < 4294967296
over_small n v x h few = let most = over_most n v x few in omega arith

sums_small : (u v : ℕ → ℕ) (x : ℕ) → ((y : ℕ) → Few (u y)) → ((y : ℕ) → Few (v y)) → over 7 u x + 4294967296 * over 365 v x < 18446744073709551616
sums_small u v x few-u few-v = let week = over_small 7 u x (omega arith) few-u in let year = over_small 365 v x (omega arith) few-v in omega arith

-- what a date's sum should be, from the counts of the dates
unfoldable pub sums_of : (ℕ → ℕ) → ℕ → ℕ
sums_of v x = over 7 v x + 4294967296 * over 365 v x

-- days as they should be: e c x is what category c and date x should have
abbrev pub DaysAre : ℕ → ℕ → (ℕ → ℕ → DayEntries) → List ℕ → Type 0
DaysAre T C e days =
    (c x : ℕ) → c < C → x < T →
    (get_or days (day_index T c day_row x) 0 ≡ (e c x).day) × (get_or days (day_index T c sum_row x) 0 ≡ sums_of (λ y. counts_of (e c y).day) x)
    × (get_or days (day_index T c tot_row x) 0 ≡ (e c x).tot)
    × (get_or days (day_index T c off_row x) 0 ≡ (e c x).off)

pub over_cong : (n : ℕ) (v w : ℕ → ℕ) (x : ℕ) → ((y : ℕ) → y ≤ x → v y ≡ w y) → over n v x ≡ over n w x
unfolding over
over_cong n v w x h = sum_below_cong n _ _ (λ k l. ap (λ (a : ℕ). cond (leb k x) a 0) (h (x - k) (omega arith)))

-- only the entries of the categories and dates that there are count
pub days_cong : (T C : ℕ) (e f : ℕ → ℕ → DayEntries) (days : List ℕ) → ((c y : ℕ) → c < C → y < T → e c y ≡ f c y) → DaysAre T C e days → DaysAre T C f days
unfolding sums_of
days_cong T C e f days h are c x hc hx =
    let alike : (y : ℕ) → y ≤ x → counts_of (e c y).day ≡ counts_of (f c y).day = λ y l. ap (λ (a : DayEntries). counts_of a.day) (h c y hc (omega arith)) in
    let same = h c x hc hx in (
      (are c x hc hx).0 ∙ ap (λ (a : DayEntries). a.day) same,
      (are c x hc hx).1 ∙ ap₂ (λ (a b : ℕ). a + 4294967296 * b) (over_cong 7 _ _ x alike) (over_cong 365 _ _ x alike),
      (are c x hc hx).2 ∙ ap (λ (a : DayEntries). a.tot) same,
      (are c x hc hx).3 ∙ ap (λ (a : DayEntries). a.off) same,
    )

-- ---- places

-- each entry stands in the part
pub day_below : (T C c r x : ℕ) → c < C → r < 4 → x < T → day_index T c r x < days_length C T
unfolding day_index days_length
day_below T C c r x hc hr hx = block_below T (4 * C) (4 * c + r) x (omega arith) hx

-- two places differ where the blocks do or the places in them do
block_apart : (s q j r k : ℕ) → (q ≢ r) ⊎ (j ≢ k) → j < s → k < s → q * s + j ≢ r * s + k
block_apart s q j r k other hj hk e =
    cases (eqb q r)
    (λ p.
    let same = eqb-true q r p in
    ⊎_elim (λ l. l same) (λ l. l (let here = ap (λ (x : ℕ). x * s) same in omega arith)) other)
    (λ p. block_other s q j r k (eqb-false q r p) hj hk e)

rows_apart : (T b r x c q y : ℕ) → r < 4 → q < 4 → r ≢ q → x < T → y < T → day_index T b r x ≢ day_index T c q y
unfolding day_index
rows_apart T b r x c q y hr hq other hx hy = block_other T (4 * b + r) x (4 * c + q) y (λ (e : 4 * b + r ≡ 4 * c + q). other (omega arith)) hx hy

days_apart : (T b r x c y : ℕ) → (b ≢ c) ⊎ (x ≢ y) → x < T → y < T → day_index T b r x ≢ day_index T c r y
unfolding day_index
days_apart T b r x c y other hx hy =
    block_apart T (4 * b + r) x (4 * c + r) y (⊎_elim (λ o. inl (λ (e : 4 * b + r ≡ 4 * c + r). o (omega arith))) (λ o. inr o) other) hx hy

-- ---- entries raised

-- raised by a difference, a sum has the new in place of the old: it may wrap on the way, and not in the end
wrapped : (w w' old new : ℕ) → w' + old ≡ w + new → old ≤ 18446744073709551616 → w' < 18446744073709551616 → wrapping_sum w (wrapping_difference new old) ≡ w'
unfolding wrapping_sum wrapping_difference
wrapped w w' old new e h l = omega arith

module _ (by n first : ℕ) (xs : List ℕ) where
  abbrev news : List ℕ
  news = tabulate n (λ k. wrapping_sum (get_or xs (first + k) 0) by)

  long : length news ≡ n
  long = length_tabulate n (λ k. wrapping_sum (get_or xs (first + k) 0) by)

  raised_length : length (raised by n first xs) ≡ length xs
  unfolding raised
  raised_length = length-sets xs first news

  raised_at : (k : ℕ) → k < n → first + n ≤ length xs → get_or (raised by n first xs) (first + k) 0 ≡ wrapping_sum (get_or xs (first + k) 0) by
  unfolding raised
  raised_at k h fits = get_d_sets_at news xs first k (rw long h) (rw long fits) ∙ get_d_tabulate n _ k h

  raised_other : (j : ℕ) → ((k : ℕ) → k < n → j ≢ first + k) → get_or (raised by n first xs) j 0 ≡ get_or xs j 0
  unfolding raised
  raised_other j other =
      cases (ltb j first)
      (λ q. get_d_sets_below news xs first j (ltb-true j first q))
      (λ q.
      let low = ltb-false j first q in
      cases (ltb j (first + n))
      (λ p. let high = ltb-true j (first + n) p in absurd (other (j - first) (omega arith) (omega arith)))
      (λ p. get_d_sets_above news xs first j (rw long (ltb-false j (first + n) p))))

-- the sums of category c and of up to n dates from d on are raised, and nothing else
module _ (T c d n by : ℕ) (xs : List ℕ) (hd : d < T) where
  abbrev up : List ℕ
  up = raised by (min n (T - d)) (day_index T c sum_row d) xs

  next_index : (k : ℕ) → day_index T c sum_row d + k ≡ day_index T c sum_row (d + k)
  unfolding day_index
  next_index k = omega arith

  raised_row : (b r x : ℕ) → r < 4 → r ≢ sum_row → x < T → get_or up (day_index T b r x) 0 ≡ get_or xs (day_index T b r x) 0
  raised_row b r x hr other h =
      raised_other by (min n (T - d)) (day_index T c sum_row d) xs (day_index T b r x)
      (λ k l q. rows_apart T b r x c sum_row (d + k) hr (omega arith) other h (omega arith) (q ∙ next_index k))

  raised_far : (b x : ℕ) → x < T → (b ≢ c) ⊎ ((x < d) ⊎ (d + n ≤ x)) → get_or up (day_index T b sum_row x) 0 ≡ get_or xs (day_index T b sum_row x) 0
  raised_far b x h far =
      raised_other by (min n (T - d)) (day_index T c sum_row d) xs (day_index T b sum_row x)
      (λ k l q.
      days_apart T b sum_row x c (d + k)
      (⊎_elim inl (λ f. inr (λ (p : x ≡ d + k). ⊎_elim (λ (m : x < d). omega arith) (λ (m : d + n ≤ x). omega arith) f)) far)
      h (omega arith) (q ∙ next_index k))

  raised_near : (C x : ℕ) → c < C → days_length C T ≤ length xs → x < T → d ≤ x → x < d + n →
      get_or up (day_index T c sum_row x) 0 ≡ wrapping_sum (get_or xs (day_index T c sum_row x) 0) by
  raised_near C x hc fits h low high =
      let at : day_index T c sum_row d + (x - d) ≡ day_index T c sum_row x = next_index (x - d) ∙ ap (day_index T c sum_row) (let same : d + (x - d) ≡ x = omega arith in same) in
      let last = next_index (T - d - 1) in
      let room = day_below T C c sum_row (d + (T - d - 1)) hc (omega arith) (omega arith) in
      rw at at (raised_at by (min n (T - d)) (day_index T c sum_row d) xs (x - d) (omega arith) (omega arith))

-- so the sums become w' where a change from old to new moves those that are raised from w to w' and no others
module _ (T C c d n old new : ℕ) (xs : List ℕ) (hc : c < C) (hd : d < T) (fits : days_length C T ≤ length xs) (w w' : ℕ → ℕ → ℕ)
    (are : (b x : ℕ) → b < C → x < T → get_or xs (day_index T b sum_row x) 0 ≡ w b x) (few : old ≤ 18446744073709551616) (small : (b x : ℕ) → w' b x < 18446744073709551616)
    (stand : (b x : ℕ) → (b ≢ c) ⊎ ((x < d) ⊎ (d + n ≤ x)) → w' b x ≡ w b x) (move : (x : ℕ) → d ≤ x → x < d + n → w' c x + old ≡ w c x + new) where
  abbrev shifted : List ℕ
  shifted = raised (wrapping_difference new old) (min n (T - d)) (day_index T c sum_row d) xs

  shifted_far : (b x : ℕ) → b < C → x < T → (b ≢ c) ⊎ ((x < d) ⊎ (d + n ≤ x)) → get_or shifted (day_index T b sum_row x) 0 ≡ w' b x
  shifted_far b x hb hx far = raised_far T c d n (wrapping_difference new old) xs hd b x hx far ∙ are b x hb hx ∙ sym (stand b x far)

  shifted_near : (x : ℕ) → x < T → d ≤ x → x < d + n → get_or shifted (day_index T c sum_row x) 0 ≡ w' c x
  shifted_near x hx low high =
      raised_near T c d n (wrapping_difference new old) xs hd C x hc fits hx low high
      ∙ rw (are c x hc hx) (wrapped (w c x) (w' c x) old new (move x low high) few (small c x))

  shifted_sums : (b x : ℕ) → b < C → x < T → get_or shifted (day_index T b sum_row x) 0 ≡ w' b x
  shifted_sums b x hb hx =
      cases (eqb b c)
      (λ q.
      cases (ltb x d)
      (λ p. shifted_far b x hb hx (inr (inl (ltb-true x d p))))
      (λ p.
      cases (ltb x (d + n))
      (λ r. rw (eqb-true b c q) (shifted_near x hx (ltb-false x d p) (ltb-true x (d + n) r)))
      (λ r. shifted_far b x hb hx (inr (inr (ltb-false x (d + n) r))))))
      (λ q. shifted_far b x hb hx (inl (eqb-false b c q)))

-- ---- a date's entries put: three places change, and the sums in which its counts are

sums_length : (T c d old new : ℕ) (xs : List ℕ) → length (raised_sums T c d old new xs) ≡ length xs
unfolding raised_sums
sums_length T c d old new xs = raised_length _ _ _ (raised _ _ _ xs) ∙ raised_length _ _ _ xs

-- three entries put one after the other
module _ (xs : List ℕ) (i a j b k c : ℕ) where
  abbrev three : List ℕ
  three = set (set (set xs i a) j b) k c

  length_three : length three ≡ length xs
  length_three = length-set (set (set xs i a) j b) k c ∙ length-set (set xs i a) j b ∙ length-set xs i a

  first_three : i < length xs → i ≢ j → i ≢ k → get_or three i 0 ≡ a
  first_three l p q = get_or-set_other (set (set xs i a) j b) k i c 0 q ∙ get_or-set_other (set xs i a) j i b 0 p ∙ get_or-set_same xs i a 0 l

  second_three : j < length xs → j ≢ k → get_or three j 0 ≡ b
  second_three l q = get_or-set_other (set (set xs i a) j b) k j c 0 q ∙ get_or-set_same (set xs i a) j b 0 (rw (length-set xs i a) l)

  third_three : k < length xs → get_or three k 0 ≡ c
  third_three l = get_or-set_same (set (set xs i a) j b) k c 0 (rw (length-set (set xs i a) j b, length-set xs i a) l)

  other_three : (n : ℕ) → n ≢ i → n ≢ j → n ≢ k → get_or three n 0 ≡ get_or xs n 0
  other_three n p q r = get_or-set_other (set (set xs i a) j b) k n c 0 r ∙ get_or-set_other (set xs i a) j n b 0 q ∙ get_or-set_other xs i n a 0 p

placed_length : (T c d : ℕ) (entries : DayEntries) (days : List ℕ) → length (placed T c d entries days) ≡ length days
unfolding placed
placed_length T c d entries days = length_three days _ _ _ _ _ _

put_length : (T c d : ℕ) (entries : DayEntries) (days : List ℕ) → length (put_day T c d entries days) ≡ length days
unfolding put_day
put_length T c d entries days =
    cases (eqb (counts_of (get_or days (day_index T c day_row d) 0)) (counts_of entries.day))
    (λ q. rw q (placed_length T c d _ days))
    (λ q. rw q (sums_length T c d _ _ _ ∙ placed_length T c d _ days))

this_or_other : (b y c d : ℕ) → ((b ≡ c) × (y ≡ d)) ⊎ ((b ≢ c) ⊎ (y ≢ d))
this_or_other b y c d =
    cases (eqb b c)
    (λ q. cases (eqb y d) (λ p. inl (eqb-true b c q, eqb-true y d p)) (λ p. inr (inr (eqb-false y d p))))
    (λ q. inr (inl (eqb-false b c q)))

-- the three entries alone: each is in its place, and every other place stands
module _ (T C c d : ℕ) (entries : DayEntries) (days : List ℕ) (hc : c < C) (hd : d < T) (room : days_length C T ≤ length days) where
  place_below : (r : ℕ) → r < 4 → day_index T c r d < length days
  place_below r hr = let l = day_below T C c r d hc hr hd in omega arith

  row_other : (r q : ℕ) → r < 4 → q < 4 → r ≢ q → day_index T c r d ≢ day_index T c q d
  row_other r q hr hq other = rows_apart T c r d c q d hr hq other hd hd

  placed_day : get_or (placed T c d entries days) (day_index T c day_row d) 0 ≡ entries.day
  unfolding placed
  placed_day =
      first_three days _ _ _ _ _ _ (place_below day_row (omega arith)) (row_other day_row tot_row (omega arith) (omega arith) (λ e. omega arith)) (row_other day_row off_row (omega arith) (omega arith) (λ e. omega arith))

  placed_tot : get_or (placed T c d entries days) (day_index T c tot_row d) 0 ≡ entries.tot
  unfolding placed
  placed_tot = second_three days _ _ _ _ _ _ (place_below tot_row (omega arith)) (row_other tot_row off_row (omega arith) (omega arith) (λ e. omega arith))

  placed_off : get_or (placed T c d entries days) (day_index T c off_row d) 0 ≡ entries.off
  unfolding placed
  placed_off = third_three days _ _ _ _ _ _ (place_below off_row (omega arith))

  placed_other : (i : ℕ) → i ≢ day_index T c day_row d → i ≢ day_index T c tot_row d → i ≢ day_index T c off_row d → get_or (placed T c d entries days) i 0 ≡ get_or days i 0
  unfolding placed
  placed_other i a b o = other_three days _ _ _ _ _ _ i a b o

  -- another category's or date's
  placed_elsewhere : (b r x : ℕ) → r < 4 → x < T → (b ≢ c) ⊎ (x ≢ d) → get_or (placed T c d entries days) (day_index T b r x) 0 ≡ get_or days (day_index T b r x) 0
  placed_elsewhere b r x hr hx other = placed_other (day_index T b r x) (apart day_row (omega arith)) (apart tot_row (omega arith)) (apart off_row (omega arith))
    where
      apart : (q : ℕ) → q < 4 → day_index T b r x ≢ day_index T c q d
      apart q hq = cases (eqb r q) (λ p. rw (eqb-true r q p) (days_apart T b q x c d other hx hd)) (λ p. rows_apart T b r x c q d hr hq (eqb-false r q p) hx hd)

  placed_sum : (b x : ℕ) → x < T → get_or (placed T c d entries days) (day_index T b sum_row x) 0 ≡ get_or days (day_index T b sum_row x) 0
  placed_sum b x hx = placed_other (day_index T b sum_row x) (apart day_row (omega arith) (λ e. omega arith)) (apart tot_row (omega arith) (λ e. omega arith)) (apart off_row (omega arith) (λ e. omega arith))
    where
      apart : (q : ℕ) → q < 4 → sum_row ≢ q → day_index T b sum_row x ≢ day_index T c q d
      apart q hq other = rows_apart T b sum_row x c q d (omega arith) hq other hx hd

module _ (T C : ℕ) (e e' : ℕ → ℕ → DayEntries) (days : List ℕ) (are : DaysAre T C e days) (room : days_length C T ≤ length days)
    (few : (b y : ℕ) → Few (counts_of (e b y).day)) (c d : ℕ) (entries : DayEntries) (hc : c < C) (hd : d < T) (few-new : Few (counts_of entries.day))
    (here : e' c d ≡ entries) (there : (b y : ℕ) → (b ≢ c) ⊎ (y ≢ d) → e' b y ≡ e b y) where
  -- the counts before and after
  abbrev v : ℕ → ℕ → ℕ
  v b y = counts_of (e b y).day

  abbrev v' : ℕ → ℕ → ℕ
  v' b y = counts_of (e' b y).day

  abbrev new : ℕ
  new = counts_of entries.day

  few' : (b y : ℕ) → Few (v' b y)
  few' b y = ⊎_elim (λ at. rw (at.0, at.1, here) few-new) (λ other. rw (there b y other) (few b y)) (this_or_other b y c d)

  counts_there : (b y : ℕ) → (b ≢ c) ⊎ (y ≢ d) → v' b y ≡ v b y
  counts_there b y other = ap (λ (a : DayEntries). counts_of a.day) (there b y other)

  over_other : (n b x : ℕ) → (b ≢ c) ⊎ ((x < d) ⊎ (d + n ≤ x)) → over n (v' b) x ≡ over n (v b) x
  over_other n b x far =
      ⊎_elim
      (λ other. ap (λ u. over n u x) (fun_ext (λ y. counts_there b y (inl other))))
      (λ f. over_kept n (v b) (v' b) d x (λ y other. counts_there b y (inr other)) f)
      far

  over_shifted : (n x : ℕ) → d ≤ x → x < d + n → over n (v' c) x + v c d ≡ over n (v c) x + new
  over_shifted n x low high = rw here at (over_changed n (v c) (v' c) d x (λ y other. counts_there c y (inr other)) low high)

  abbrev put : List ℕ
  put = placed T c d entries days

  sum_stands : (b x : ℕ) → b < C → x < T → get_or put (day_index T b sum_row x) 0 ≡ sums_of (v b) x
  sum_stands b x hb hx = placed_sum T C c d entries days hc hd room b x hx ∙ (are b x hb hx).1

  -- what category b and date x have beside their sums
  record Has (xs : List ℕ) (b x : ℕ) : Type 0 where
    day : get_or xs (day_index T b day_row x) 0 ≡ (e' b x).day
    tot : get_or xs (day_index T b tot_row x) 0 ≡ (e' b x).tot
    off : get_or xs (day_index T b off_row x) 0 ≡ (e' b x).off

  put_has : (b x : ℕ) → b < C → x < T → Has put b x
  put_has b x hb hx =
      ⊎_elim
      (λ at.
      rw (at.0, at.1)
      (record {
        day = rw here (placed_day T C c d entries days hc hd room);
        tot = rw here (placed_tot T C c d entries days hc hd room);
        off = rw here (placed_off T C c d entries days hc hd room);
      }))
      (λ other.
      let same = sym (there b x other) in
      record {
        day = placed_elsewhere T C c d entries days hc hd room b day_row x (omega arith) hx other ∙ (are b x hb hx).0 ∙ ap (λ (a : DayEntries). a.day) same;
        tot = placed_elsewhere T C c d entries days hc hd room b tot_row x (omega arith) hx other ∙ (are b x hb hx).2 ∙ ap (λ (a : DayEntries). a.tot) same;
        off = placed_elsewhere T C c d entries days hc hd room b off_row x (omega arith) hx other ∙ (are b x hb hx).3 ∙ ap (λ (a : DayEntries). a.off) same;
      })
      (this_or_other b x c d)

  -- then the week's part of the sums, and the year's last
  abbrev weekly : List ℕ
  weekly = raised (wrapping_difference new (v c d)) (min 7 (T - d)) (day_index T c sum_row d) put

  abbrev yearly : List ℕ
  yearly = raised (wrapping_difference (4294967296 * new) (4294967296 * v c d)) (min 365 (T - d)) (day_index T c sum_row d) weekly

  weekly_length : length weekly ≡ length days
  weekly_length =
      raised_length (wrapping_difference new (v c d)) (min 7 (T - d)) (day_index T c sum_row d) put ∙ placed_length T c d entries days

  weekly_sum : (b x : ℕ) → b < C → x < T → get_or weekly (day_index T b sum_row x) 0 ≡ over 7 (v' b) x + 4294967296 * over 365 (v b) x
  unfolding sums_of
  weekly_sum =
      shifted_sums T C c d 7 (v c d) new put hc hd (rw (placed_length T c d entries days) room)
      (λ b x. sums_of (v b) x)
      (λ b x. over 7 (v' b) x + 4294967296 * over 365 (v b) x)
      sum_stands
      (let small = few_small (v c d) (few c d) in omega arith)
      (λ b x. sums_small (v' b) (v b) x (few' b) (few b))
      (λ b x far. rw (over_other 7 b x far))
      (λ x low high. let week = over_shifted 7 x low high in omega arith)

  yearly_sum : (b x : ℕ) → b < C → x < T → get_or yearly (day_index T b sum_row x) 0 ≡ sums_of (v' b) x
  unfolding sums_of
  yearly_sum =
      shifted_sums T C c d 365 (4294967296 * v c d) (4294967296 * new) weekly hc hd (rw weekly_length room)
      (λ b x. over 7 (v' b) x + 4294967296 * over 365 (v b) x)
      (λ b x. sums_of (v' b) x)
      weekly_sum
      (let small = few_small (v c d) (few c d) in omega arith)
      (λ b x. sums_small (v' b) (v' b) x (few' b) (few' b))
      (λ b x far. rw (over_other 365 b x far))
      (λ x low high. let year = over_shifted 365 x low high in omega arith)

  yearly_row : (b r x : ℕ) → r < 4 → r ≢ sum_row → x < T → get_or yearly (day_index T b r x) 0 ≡ get_or put (day_index T b r x) 0
  yearly_row b r x hr other hx =
      raised_row T c d 365 (wrapping_difference (4294967296 * new) (4294967296 * v c d)) weekly hd b r x hr other hx
      ∙ raised_row T c d 7 (wrapping_difference new (v c d)) put hd b r x hr other hx

  yearly_has : (b x : ℕ) → b < C → x < T → Has yearly b x
  yearly_has b x hb hx =
      let has = put_has b x hb hx in
      record {
        day = yearly_row b day_row x (omega arith) (λ e. omega arith) hx ∙ has.day;
        tot = yearly_row b tot_row x (omega arith) (λ e. omega arith) hx ∙ has.tot;
        off = yearly_row b off_row x (omega arith) (λ e. omega arith) hx ∙ has.off;
      }

  -- where the counts stay, all sums do
  same_sum : v c d ≡ new → (b x : ℕ) → sums_of (v b) x ≡ sums_of (v' b) x
  same_sum same b x =
      ap (λ u. sums_of u x)
      (fun_ext (λ y. ⊎_elim (λ at. rw (at.0, at.1, here) same) (λ other. sym (counts_there b y other)) (this_or_other b y c d)))

  put_day_lem : DaysAre T C e' (put_day T c d entries days)
  unfolding put_day raised_sums
  put_day_lem b x hb hx =
      rw (are c d hc hd).0
      (cases (eqb (v c d) new)
      (λ q. let has = put_has b x hb hx in rw q (has.day, sum_stands b x hb hx ∙ same_sum (eqb-true (v c d) new q) b x, has.tot, has.off))
      (λ q. let has = yearly_has b x hb hx in rw q (has.day, yearly_sum b x hb hx, has.tot, has.off)))

-- ---- a row's entry: each count has room in it, and it is not 0

fresh_one : (f : Flag) → is_fresh f ≤ 1
fresh_one A = omega arith
fresh_one D = omega arith
fresh_one E = omega arith
fresh_one N = omega arith

blank_one : (f : Flag) → is_blank f ≤ 1
blank_one A = omega arith
blank_one D = omega arith
blank_one E = omega arith
blank_one N = omega arith

pub fresh_most : (P : ℕ) (cells : ℕ → Cell) → fresh_among P cells ≤ P
unfolding fresh_among
fresh_most P cells = let most = sum_below_most P 1 (λ k. is_fresh (cells k).flag) (λ k l. fresh_one (cells k).flag) in omega arith

pub blanks_most : (P : ℕ) (cells : ℕ → Cell) → blanks_among P cells ≤ P
unfolding blanks_among
blanks_most P cells = let most = sum_below_most P 1 (λ k. is_blank (cells k).flag) (λ k l. blank_one (cells k).flag) in omega arith

pub oldest_most : (P : ℕ) (cells : ℕ → Cell) → oldest_among P cells ≤ 65535
unfolding oldest_among
oldest_most zero cells = omega arith
oldest_most (suc n) cells = let most = oldest_most n cells in omega arith

module _ (P : ℕ) (h : P ≤ 96) (cells : ℕ → Cell) where
  day_counts : counts_of (day_entry_of P cells) ≡ fresh_among P cells + 65536 * blanks_among P cells
  unfolding counts_of day_entry_of day_entry
  day_counts = let f = fresh_most P cells in let b = blanks_most P cells in omega arith

  day_few : Few (counts_of (day_entry_of P cells))
  day_few = rw day_counts (let f = fresh_most P cells in let b = blanks_most P cells in omega arith)

  day_oldest : day_entry_of P cells / 4294967296 % 65536 ≡ oldest_among P cells
  unfolding day_entry_of day_entry
  day_oldest = let f = fresh_most P cells in let b = blanks_most P cells in let o = oldest_most P cells in omega arith

pub day_not_zero : (P : ℕ) (cells : ℕ → Cell) → day_entry_of P cells ≢ 0
unfolding day_entry_of day_entry
day_not_zero P cells e = omega arith

-- ---- all of a date's days, put category by category

pub kept_length : (s : List ℕ) (d : ℕ) (row : List ℕ) (n : ℕ) (days : List ℕ) → length (kept_days s d row n days) ≡ length days
unfolding kept_days
kept_length s d row zero days = refl
kept_length s d row (suc c) days = put_length (dates_of s) c d _ (kept_days s d row c days) ∙ kept_length s d row c days

pub entries_few : (s : List ℕ) → periods_of s ≤ 96 → (c : ℕ) (cells : ℕ → Cell) → Few (counts_of (entries_for s c cells).day)
unfolding entries_for day_entries_of
entries_few s h c cells = day_few (periods_of s) h cells

module _ (s : List ℕ) (C : ℕ) (h : periods_of s ≤ 96) (e e' : ℕ → ℕ → DayEntries) (d : ℕ) (row days : List ℕ) (are : DaysAre (dates_of s) C e days)
    (room : days_length C (dates_of s) ≤ length days) (hd : d < dates_of s) (few : (b y : ℕ) → Few (counts_of (e b y).day))
    (here : (c : ℕ) → c < C → e' c d ≡ entries_for s c (λ p. cell_of_entry (get_or row (c * periods_of s + p) 0))) (there : (b y : ℕ) → y ≢ d → e' b y ≡ e b y) where
  -- the entries after the first n categories: new for those, old for the others
  after : ℕ → ℕ → ℕ → DayEntries
  after n b y = cond (ltb b n) (e' b y) (e b y)

  after_new : (n b y : ℕ) → b < n → after n b y ≡ e' b y
  unfolding after
  after_new n b y l = rw (lt-ltb b n l)

  after_old : (n b y : ℕ) → n ≤ b → after n b y ≡ e b y
  unfolding after
  after_old n b y l = rw (le-ltb b n l)

  after_next : (n b y : ℕ) → (b ≢ n) ⊎ (y ≢ d) → after (suc n) b y ≡ after n b y
  after_next n b y other =
      cases (ltb b n)
      (λ q. let l = ltb-true b n q in after_new (suc n) b y (omega arith) ∙ sym (after_new n b y l))
      (λ q.
      let l = ltb-false b n q in
      cases (eqb b n)
      (λ p.
      let this = eqb-true b n p in
      after_new (suc n) b y (omega arith) ∙ there b y (⊎_elim (λ o. absurd (o this)) (λ o. o) other) ∙ sym (after_old n b y l))
      (λ p. after_old (suc n) b y (lt_of_le-ne l (λ (q : n ≡ b). eqb-false b n p (sym q))) ∙ sym (after_old n b y l)))

  after_few : (n : ℕ) → n ≤ C → (b y : ℕ) → Few (counts_of (after n b y).day)
  after_few n l b y =
      cases (ltb b n)
      (λ q.
      let m = ltb-true b n q in
      rw (after_new n b y m)
      (cases (eqb y d)
      (λ p. rw (eqb-true y d p, here b (omega arith)) (entries_few s h b (λ p. cell_of_entry (get_or row (b * periods_of s + p) 0))))
      (λ p. rw (there b y (eqb-false y d p)) (few b y))))
      (λ q. rw (after_old n b y (ltb-false b n q)) (few b y))

  kept_some : (n : ℕ) → n ≤ C → DaysAre (dates_of s) C (after n) (kept_days s d row n days)
  unfolding kept_days
  kept_some zero l = days_cong (dates_of s) C e (after 0) days (λ c y m k. sym (after_old 0 c y (omega arith))) are
  kept_some (suc n) l =
      put_day_lem (dates_of s) C (after n) (after (suc n)) (kept_days s d row n days) (kept_some n (omega arith))
      (rw (kept_length s d row n days) room) (after_few n (omega arith)) n d (entries_for s n (λ p. cell_of_entry (get_or row (n * periods_of s + p) 0))) l hd
      (entries_few s h n (λ p. cell_of_entry (get_or row (n * periods_of s + p) 0)))
      (after_new (suc n) n d (omega arith) ∙ here n l)
      (after_next n)

  pub kept_days_lem : DaysAre (dates_of s) C e' (kept_days s d row C days)
  kept_days_lem = days_cong (dates_of s) C (after C) e' (kept_days s d row C days) (λ c y m k. after_new C c y m) (kept_some C (omega arith))

-- ---- what is read off the days is the coverage, recounted from the cells

pub run_most : (run : ℕ → Bool) (n b : ℕ) (f : ℕ → ℕ) (d : ℕ) → ((y : ℕ) → y ≤ d → run y ≡ true → f y ≤ b) → over_run_dates run n f d ≤ n * b
unfolding over_run_dates
run_most run n b f d most =
    sum_below_most n b (λ k. cond (leb k d && run (d - k)) (f (d - k)) 0)
    (λ k l.
    cases (leb k d)
    (λ q. cases (run (d - k)) (λ r. rw (q, r) (most (d - k) (omega arith) r)) (λ r. rw (q, r) (omega arith)))
    (λ q. rw q (omega arith)))

-- a sum over dates of two numbers in one is the two sums in one
module _ (run : ℕ → Bool) (v f g : ℕ → ℕ) (m d : ℕ) (is : (y : ℕ) → y ≤ d → v y ≡ cond (run y) (f y + g y * m) 0) where
  term_is : (k : ℕ) → cond (leb k d) (v (d - k)) 0 ≡ cond (leb k d && run (d - k)) (f (d - k)) 0 + cond (leb k d && run (d - k)) (g (d - k)) 0 * m
  term_is k =
      cases (leb k d)
      (λ q. rw (q, is (d - k) (omega arith)) (cases (run (d - k)) (λ r. rw r) (λ r. rw (r, zero-mul m))))
      (λ q. rw (q, zero-mul m))

  pub over_is : (n : ℕ) → over n v d ≡ over_run_dates run n f d + over_run_dates run n g d * m
  unfolding over over_run_dates
  over_is n =
      sum_below_cong n _ _ (λ k l. term_is k)
      ∙ sum_below_plus n (λ k. cond (leb k d && run (d - k)) (f (d - k)) 0) (λ k. cond (leb k d && run (d - k)) (g (d - k)) 0 * m)
      ∙ rw (sum_times n (λ k. cond (leb k d && run (d - k)) (g (d - k)) 0) m)

-- four numbers of 16 bits in one of 64
unpacked : (s a b c d : ℕ) → s ≡ a + b * 65536 + 4294967296 * (c + d * 65536) → a < 65536 → b < 65536 → c < 65536 → d < 65536 →
    (s % 65536 ≡ a) × (s / 65536 % 65536 ≡ b) × (s / 4294967296 % 65536 ≡ c) × (s / 281474976710656 % 65536 ≡ d)
unpacked s a b c d is ha hb hc hd =
    let q : s / 65536 ≡ b + 65536 * (c + 65536 * d) = omega arith in
    let r : s / 4294967296 ≡ c + 65536 * d = omega arith in
    let t : s / 281474976710656 ≡ d = omega arith in
    (omega arith, rw q (omega arith), rw r (omega arith), rw t (omega arith))

module _ (P : ℕ) (h : P ≤ 96) (run : ℕ → Bool) (cell : ℕ → ℕ → Cell) (e : ℕ → ℕ) (d : ℕ)
    (are : (y : ℕ) → y ≤ d → e y ≡ cond (run y) (day_entry_of P (λ k. cell y (suc k))) 0) where
  abbrev fresh : ℕ → ℕ
  fresh y = fresh_among P (λ k. cell y (suc k))

  abbrev blanks : ℕ → ℕ
  blanks y = blanks_among P (λ k. cell y (suc k))

  sum_fits : (n : ℕ) (f : ℕ → ℕ) → n ≤ 365 → ((y : ℕ) → f y ≤ P) → over_run_dates run n f d < 65536
  sum_fits n f l low = let most = run_most run n 96 f d (λ y k r. let few = low y in omega arith) in omega arith

  fresh_fits : (n : ℕ) → n ≤ 365 → over_run_dates run n fresh d < 65536
  fresh_fits n l = sum_fits n fresh l (λ y. fresh_most P (λ k. cell y (suc k)))

  blanks_fit : (n : ℕ) → n ≤ 365 → over_run_dates run n blanks d < 65536
  blanks_fit n l = sum_fits n blanks l (λ y. blanks_most P (λ k. cell y (suc k)))

  counts_are : (y : ℕ) → y ≤ d → counts_of (e y) ≡ cond (run y) (fresh y + blanks y * 65536) 0
  unfolding counts_of
  counts_are y l =
      rw (are y l) (cases (run y) (λ r. rw r (let counts = day_counts P h (λ i. cell y (suc i)) in omega arith)) (λ r. rw r))

  pub recounted : run d ≡ true → coverage_of (e d) (sums_of (λ y. counts_of (e y)) d) ≡ coverage_on P run cell d
  unfolding coverage_of coverage_on sums_of
  recounted r =
      let counts = over_is run (λ y. counts_of (e y)) fresh blanks 65536 d counts_are in
      let sums = unpacked (sums_of (λ y. counts_of (e y)) d) _ _ _ _ (rw (counts 7, counts 365)) (fresh_fits 7 (omega arith)) (blanks_fit 7 (omega arith)) (fresh_fits 365 (omega arith)) (blanks_fit 365 (omega arith)) in
      let here : e d ≡ day_entry_of P (λ k. cell d (suc k)) = are d (omega arith) ∙ rw r in
      λ i.
      record {
        fresh7 = sums.0 i;
        blanks7 = sums.1 i;
        fresh365 = sums.2 i;
        blanks365 = sums.3 i;
        oldest = (ap (λ (x : ℕ). x / 4294967296 % 65536) here ∙ day_oldest P h (λ k. cell d (suc k))) i;
      }

-- ---- days that are all 0: no date is run

over_none : (n x : ℕ) → over n (λ y. counts_of 0) x ≡ 0
unfolding over counts_of
over_none n x = sum_below_none n _ (λ k l. cases (leb k x) (λ q. rw q) (λ q. rw q))

pub none_are : (T C : ℕ) (days : List ℕ) → ((i : ℕ) → i < days_length C T → get_or days i 0 ≡ 0) → DaysAre T C (λ c x. not_run_entries) days
unfolding sums_of
none_are T C days none c x hc hx =
    let at : (r : ℕ) → r < 4 → get_or days (day_index T c r x) 0 ≡ 0 = λ r l. none (day_index T c r x) (day_below T C c r x hc l hx) in
    (at day_row (omega arith), at sum_row (omega arith) ∙ sym (rw (over_none 7 x, over_none 365 x)), at tot_row (omega arith), at off_row (omega arith))
