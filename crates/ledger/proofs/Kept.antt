-- A run keeps the days: after it every entry and every sum is what a recount of the cells gives, as before it.
use Rattle.std.proofs.Common.{◌≡◌, ℕ, zero, suc, ◌+◌, ◌-◌, ◌*◌, ◌/◌, ◌%◌, ◌<◌, ◌≤◌, true, false, cond, not, eqb, ◌≢◌, List, length, get_or, sym, refl, ap, ◌∙◌, true≢false, add-zero, add-suc, mul-le-mul_right, suc-add, arith, eq-eqb, ne_eqb, eqb-true}
use mathlib.Core.Option.{Option, none, some}
use borrow.Table.Steps.{cases}
use borrow.Author.Tests.{eqb-false}
use Rattle.metering.specs.Sum.{sum_below}
use Rattle.metering.specs.Calendar.{lies_within}
use Rattle.ledger.specs.Method.{Window, Fresh, absent, own, pooled, N, Cell, blank, own_cell, pooled_cell, is_own_cell, carried, fresh_among, blanks_among, oldest_among, is_fresh, is_blank}
use Rattle.ledger.specs.Table.{tabulate}
use Rattle.ledger.specs.Sizes.{days_length}
use Rattle.ledger.specs.Store.{categories_of, dates_of, periods_of, row_length, day_type_of, entry_of, NothingElse, flag_number_of, cell_of_entry, is_run_at, DayEntries, not_run_entries, day_entry_of, tot_entry, tot_among, off_among, day_entries_of, counts_of}
use Rattle.ledger.specs.Calls.{fresh_at, carried_entry, row_entry, row_at, put_row, entries_for, kept_days, Published, as_published, publish, follows, last_run, inherited_from, is_own, followed_entry, inherited_beyond, follow_row, inherited_after, moved_in_row, carry_on, settled, new_row, ran_from}
use Rattle.ledger.proofs.Lists.{sum_below_cong, length_tabulate, get_d_tabulate, block_below}
use Rattle.ledger.proofs.Entries.{entry_some, blank_fits, carried_none}
use Rattle.ledger.proofs.Walks.{length_put_row, row_put, row_kept, carry_on_end, carry_on_pass, carry_on_stop, carry_on_go}
use Rattle.ledger.proofs.Days.{Few, DaysAre, days_cong, kept_length, kept_days_lem, entries_few}

-- ---- what is alike has one day

oldest_cong : (n : ℕ) (f g : ℕ → Cell) → ((k : ℕ) → k < n → f k ≡ g k) → oldest_among n f ≡ oldest_among n g
unfolding oldest_among
oldest_cong zero f g h = refl
oldest_cong (suc n) f g h = rw (oldest_cong n f g (λ k l. h k (omega arith)), h n (omega arith))

day_cong : (P : ℕ) (f g : ℕ → Cell) → ((k : ℕ) → k < P → f k ≡ g k) → day_entry_of P f ≡ day_entry_of P g
unfolding day_entry_of fresh_among blanks_among
day_cong P f g h =
    rw (
      sum_below_cong P (λ k. is_fresh (f k).flag) (λ k. is_fresh (g k).flag) (λ k l. ap (λ (a : Cell). is_fresh a.flag) (h k l)),
      sum_below_cong P (λ k. is_blank (f k).flag) (λ k. is_blank (g k).flag) (λ k l. ap (λ (a : Cell). is_blank a.flag) (h k l)),
      oldest_cong P f g h,
    )

pub entries_cong : (duration : ℕ) (window : Window) (P : ℕ) (f g : ℕ → Cell) → ((k : ℕ) → k < P → f k ≡ g k) → day_entries_of duration window P f ≡ day_entries_of duration window P g
unfolding day_entries_of tot_among off_among
entries_cong duration window P f g h =
    let tots : sum_below P (λ k. (f k).value) ≡ sum_below P (λ k. (g k).value) = sum_below_cong P _ _ (λ k l. ap (λ (a : Cell). a.value) (h k l)) in
    λ i.
    record {
      day = day_cong P f g h i;
      tot = tot_entry (tots i);
      off = sum_below_cong P (λ k. cond (lies_within duration window.start window.end (suc k)) (f k).value 0) (λ k. cond (lies_within duration window.start window.end (suc k)) (g k).value 0) (λ k l. ap (λ (a : Cell). cond (lies_within duration window.start window.end (suc k)) a.value 0) (h k l)) i;
    }

pub for_cong : (s : List ℕ) (c : ℕ) (f g : ℕ → Cell) → ((k : ℕ) → k < periods_of s → f k ≡ g k) → entries_for s c f ≡ entries_for s c g
unfolding entries_for
for_cong s c f g h = entries_cong _ _ _ f g h

-- ---- a recount of the cells

-- the entries of category c and date x, where rows have n places
unfoldable pub day_at : List ℕ → ℕ → List ℕ → ℕ → ℕ → DayEntries
day_at s n cells c x = cond (is_run_at n cells x) (entries_for s c (λ p. cell_of_entry (row_at n cells x (c * periods_of s + p)))) not_run_entries

day_at_few : (s : List ℕ) (n : ℕ) (cells : List ℕ) → periods_of s ≤ 96 → (c x : ℕ) → Few (counts_of (day_at s n cells c x).day)
unfolding day_at
day_at_few s n cells h c x =
    cases (is_run_at n cells x)
    (λ r. rw r (entries_few s h c (λ p. cell_of_entry (row_at n cells x (c * periods_of s + p)))))
    (λ r. rw r (unfold counts_of in (omega arith, omega arith)))

-- ---- entries that say that a date is run

-- one that a put left, or what is read as A or D
abbrev Flagged : ℕ → Type 0
Flagged e = eqb e 0 ≡ false

put_flagged : (a : Cell) → (a.flag ≡ N → NothingElse a) → Flagged (entry_of a)
put_flagged a nothing = ne_eqb (entry_of a) 0 (entry_some a nothing)

carried_flagged : (e : ℕ) → Flagged (carried_entry e)
unfolding carried_entry
carried_flagged e = put_flagged (carried (cell_of_entry e)) (carried_none (cell_of_entry e))

own_flagged : (e : ℕ) → is_own e ≡ true → Flagged e
unfolding is_own is_own_cell cell_of_entry flag_number_of
own_flagged e h = ne_eqb e 0 (λ z. let q : false ≡ true = rw z at h in absurd (true≢false (sym q)))

row_flagged : (d : ℕ) (f : Fresh) (e : ℕ) → Flagged e → Flagged (row_entry d f e)
row_flagged d absent e h = h
row_flagged d (own v n r) e h = put_flagged (own_cell d v n r) (λ none. absurd (let z : ◌≡◌ {A = ℕ} 0 1 = cc in omega arith))
row_flagged d (pooled v n r) e h = put_flagged (pooled_cell d v n r) (λ none. absurd (let z : ◌≡◌ {A = ℕ} 0 1 = cc in omega arith))

inherited_flagged : (n : ℕ) (cells : List ℕ) (from : Option ℕ) (k : ℕ) → Flagged (inherited_from n cells from k)
inherited_flagged n cells none k = put_flagged blank blank_fits.no_shape
inherited_flagged n cells (some d) k = carried_flagged (row_at n cells d k)

module _ (n : ℕ) (cells : List ℕ) (d : ℕ) (inherited : ℕ → ℕ) (k : ℕ) (h : Flagged (inherited k)) where
  follow_flagged : Flagged (follow_row n cells d inherited k)
  unfolding follow_row followed_entry
  follow_flagged = cases (is_own (row_at n cells d k)) (λ q. rw q (own_flagged (row_at n cells d k) q)) (λ q. rw q h)

  after_flagged : Flagged (inherited_after n cells d inherited k)
  unfolding inherited_after inherited_beyond
  after_flagged = cases (is_own (row_at n cells d k)) (λ q. rw q (carried_flagged (row_at n cells d k))) (λ q. rw q h)

-- ---- one row

module _ (s : List ℕ) (C : ℕ) (few : periods_of s ≤ 96) (d : ℕ) (h : d < dates_of s) (row cells days : List ℕ) (long : length row ≡ C * periods_of s)
    (places : 0 < C * periods_of s) (flagged : Flagged (get_or row 0 0)) (room : dates_of s * (C * periods_of s) ≤ length cells) where
  abbrev P : ℕ
  P = periods_of s

  fits : d * (C * P) + C * P ≤ length cells
  fits = omega (arith, room, mul-le-mul_right (C * P) h)

  put : List ℕ
  put = put_row (C * P) d row cells

  first_is : (xs : List ℕ) (x : ℕ) → is_run_at (C * P) xs x ≡ not (eqb (row_at (C * P) xs x 0) 0)
  unfolding is_run_at row_at
  first_is xs x = rw (add-zero (x * (C * P)))

  run_put : is_run_at (C * P) put d ≡ true
  unfolding put
  run_put = first_is put d ∙ rw (row_put (C * P) d row cells long fits 0 places, flagged)

  run_kept : (x : ℕ) → x ≢ d → is_run_at (C * P) put x ≡ is_run_at (C * P) cells x
  unfolding put
  run_kept x other = first_is put x ∙ rw (row_kept (C * P) d row cells long fits x 0 other places) (sym (first_is cells x))

  -- what a recount gives of the date that is put, and of another
  entries : ℕ → ℕ → DayEntries
  entries c x = cond (eqb x d) (entries_for s c (λ p. cell_of_entry (get_or row (c * P + p) 0))) (day_at s (C * P) cells c x)

  entry_put : (c : ℕ) → entries c d ≡ entries_for s c (λ p. cell_of_entry (get_or row (c * P + p) 0))
  unfolding entries
  entry_put c = rw (eq-eqb d d refl)

  entry_kept : (c x : ℕ) → x ≢ d → entries c x ≡ day_at s (C * P) cells c x
  unfolding entries
  entry_kept c x other = rw (ne_eqb x d other)

  recount_is : (c x : ℕ) → c < C → x < dates_of s → entries c x ≡ day_at s (C * P) put c x
  unfolding put day_at
  recount_is c x hc hx =
      cases (eqb x d)
      (λ q.
      rw (eqb-true x d q)
      (entry_put c
      ∙ for_cong s c _ (λ k. cell_of_entry (row_at (C * P) put d (c * P + k))) (λ k l. ap cell_of_entry (sym (row_put (C * P) d row cells long fits (c * P + k) (block_below P C c k hc l))))
      ∙ sym (rw run_put)))
      (λ q.
      let other : x ≢ d = eqb-false x d q in
      entry_kept c x other
      ∙ ap (λ (a : DayEntries). cond (is_run_at (C * P) cells x) a not_run_entries)
      (for_cong s c _ (λ k. cell_of_entry (row_at (C * P) put x (c * P + k))) (λ k l. ap cell_of_entry (sym (row_kept (C * P) d row cells long fits x (c * P + k) other (block_below P C c k hc l)))))
      ∙ sym (rw (run_kept x other)))

  row_keeps : DaysAre (dates_of s) C (day_at s (C * P) cells) days → days_length C (dates_of s) ≤ length days →
      DaysAre (dates_of s) C (day_at s (C * P) (put_row (C * P) d row cells)) (kept_days s d row C days)
  unfolding put
  row_keeps are enough =
      days_cong (dates_of s) C entries (day_at s (C * P) put) (kept_days s d row C days) recount_is
      (kept_days_lem s C few (day_at s (C * P) cells) entries d row days are enough h (day_at_few s (C * P) cells few) (λ c l. entry_put c) entry_kept)

-- ---- a run

-- days of length L that are what a recount of the cells gives
pub record KeptIn (s : List ℕ) (L : ℕ) (p : Published) : Type 0 where
  pub are : DaysAre (dates_of s) (categories_of s) (day_at s (row_length s) p.cells) p.days
  pub as_long : length p.days ≡ L
  pub room : dates_of s * row_length s ≤ length p.cells

module _ (s : List ℕ) (few : periods_of s ≤ 96) (places : 0 < row_length s) (L : ℕ) (enough : days_length (categories_of s) (dates_of s) ≤ L) where
  publish_keeps : (d : ℕ) (row : List ℕ) (p : Published) → d < dates_of s → length row ≡ row_length s → Flagged (get_or row 0 0) → KeptIn s L p → KeptIn s L (publish s d row p)
  unfolding row_length
  publish_keeps d row p h long flagged k =
      let here = fits s (categories_of s) few d h row p.cells p.days long places flagged k.room in
      record {
        are = row_keeps s (categories_of s) few d h row p.cells p.days long (unfold row_length in places) flagged k.room k.are (rw k.as_long enough);
        as_long = kept_length s d row (categories_of s) p.days ∙ k.as_long;
        room = rw (length_put_row (row_length s) d row p.cells long here) k.room;
      }

  walk_keeps : (t m : ℕ) (inherited : ℕ → ℕ) (d : ℕ) (p : Published) (moved : ℕ) → d + m ≡ dates_of s → Flagged (inherited 0) → KeptIn s L p →
      KeptIn s L (carry_on publish s t m inherited d p moved).published
  walk_keeps t zero inherited d p moved e f k = rw (carry_on_end publish s t 0 inherited d p moved) k
  walk_keeps t (suc m) inherited d p moved e f k =
      let n : ℕ = row_length s in
      let h : d < dates_of s = omega (arith, e) in
      let e' : suc d + m ≡ dates_of s = suc-add d m ∙ sym (add-suc d m) ∙ e in
      let row = tabulate n (follow_row n p.cells d inherited) in
      cases (follows s t p.cells d)
      (λ b.
      cases (eqb (moved_in_row n p.cells d inherited) 0)
      (λ z. rw (carry_on_stop publish s t m inherited d p moved b z) k)
      (λ z.
      rw (carry_on_go publish s t m inherited d p moved b z)
      (walk_keeps t m (inherited_after n p.cells d inherited) (suc d) (publish s d row p) _ e' (after_flagged n p.cells d inherited 0 f)
      (publish_keeps d row p h (length_tabulate n (follow_row n p.cells d inherited))
      (rw (get_d_tabulate n (follow_row n p.cells d inherited) 0 places) (follow_flagged n p.cells d inherited 0 f))
      k))))
      (λ b. rw (carry_on_pass publish s t m inherited d p moved b) (walk_keeps t m inherited (suc d) p moved e' f k))

  settled_keeps : (new : ℕ → ℕ) (p : Published) (date : ℕ) → date < dates_of s → Flagged (new 0) → KeptIn s L p → KeptIn s L (settled publish s new p date).published
  unfolding settled
  settled_keeps new p date h f k =
      walk_keeps (day_type_of s date) (dates_of s - suc date) (λ x. carried_entry (new x)) (suc date) (publish s date (tabulate (row_length s) new) p) _ (omega arith) (carried_flagged (new 0))
      (publish_keeps date (tabulate (row_length s) new) p h (length_tabulate (row_length s) new) (rw (get_d_tabulate (row_length s) new 0 places) f) k)

  new_flagged : (meters readings cells : List ℕ) (date : ℕ) → Flagged (new_row s meters readings cells date 0)
  unfolding new_row
  new_flagged meters readings cells date =
      row_flagged date (fresh_at s meters readings date (0 / periods_of s) (suc (0 % periods_of s))) _ (inherited_flagged (row_length s) cells (last_run s cells (day_type_of s date) date) 0)

  pub ran_keeps : (meters readings cells days : List ℕ) (date : ℕ) → date < dates_of s → KeptIn s L (as_published cells days) →
      KeptIn s L (ran_from s meters readings cells days date).published
  unfolding ran_from
  ran_keeps meters readings cells days date h k =
      settled_keeps (new_row s meters readings cells date) (as_published cells days) date h (new_flagged meters readings cells date) k
