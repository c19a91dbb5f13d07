-- The new row made from sums and counts, and what a run leaves or a preview finds: each thing that the code has is brought to the definition's.
use Prim.Native.Nat.{ℕ, suc, ◌+◌, ◌*◌, ◌-◌, ◌/◌, ◌%◌, ◌≤◌, ◌<◌, zero-le}
use mathlib.Core.Path.{◌≡◌, refl, sym, ap, ap₂, ◌∙◌}
use mathlib.Core.Bool.{true, cond}
use mathlib.Core.List.{List, [], ◌++◌}
use mathlib.Core.Option.{Option}
use native.Mathlib.Nat.{le_trans}
use native.Mathlib.Numerals.{add-one}
use native.Mathlib.Omega.{arith}
use lib.Arith.{digits_div, digits_mod}
use lib.ListN.{length, get_or, take, drop, replicate, get_or-replicate, get_or-append}
use borrow.Table.Steps.{cases}
use Rattle.ledger.specs.Method.{watt_hours, present, same_family, blank}
use Rattle.ledger.proofs.Ready.{Ready, ready, row_bounds, cells_long}
use Rattle.ledger.specs.Store.{meters_of, categories_of, dates_of, periods_of, row_length, category_of, day_type_of, settings_ready, reading_at, count_and_origin, entry_of}
use Rattle.ledger.specs.Table.{tabulate, filling}
use Rattle.ledger.specs.Calls.{counts_for, tally, family_tally, fresh_at, row_at, Published, as_published, Placing, publish, count_only, last_run, inherited_from, compared_entry, differing, carried_entry, Ran, carry_on, moved_by_row, settled, new_row, ran_from, moved_from, run_verdict, preview_verdict, previewed, overwritten}
use Rattle.entries.specs.Reading.{reading_bound}
use Rattle.ledger.proofs.Walks.{carry_on_same, settled_same, counted_first, previewed_is}
use Rattle.ledger.proofs.Choices.{MayRun}
use Rattle.ledger.proofs.Lists.{part_length, length_tabulate, get_d_tabulate, sum_below_cong, sum_below_times}
use Rattle.entries.proofs.RowLaws.{filling_below, differing_le, differing_ext}
use Rattle.run_date.specs.Sums.{tally_below, Tallied, Bounded, pooled_below, entry_from, row_from}
use Rattle.run_date.proofs.Laws.{place_below, category_below, period_below, place_is, counts_together}
use Rattle.later_dates.proofs.Laws.{part_row, part_spliced, put_is}

-- ---- the new row, from sums and counts

module _ (s m r : List ℕ) (date : ℕ) (known : Ready s) where
  -- place p of category c
  tallied_below : (measure : Option ℕ → ℕ) (xs : List ℕ) → Tallied s m r date measure (meters_of s) xs → (c p : ℕ) → c < categories_of s → p < periods_of s →
      get_or xs (c * periods_of s + p) 0 ≡ tally_below s m r date measure (meters_of s) c (suc p)
  tallied_below measure xs so c p in_range l =
      so.at (c * periods_of s + p) (place_below s c in_range p l) ∙ rw (digits_div c l, digits_mod c l)

  tallied_at : (measure : Option ℕ → ℕ) (xs : List ℕ) → Tallied s m r date measure (meters_of s) xs → (c p : ℕ) → c < categories_of s → p < periods_of s →
      get_or xs (c * periods_of s + p) 0 ≡ tally s m r date measure c (suc p)
  unfolding tally tally_below
  tallied_at measure xs so c p in_range l = tallied_below measure xs so c p in_range l

  pooled_is : (measure : Option ℕ → ℕ) (xs : List ℕ) → Tallied s m r date measure (meters_of s) xs → (c p : ℕ) → p < periods_of s →
      pooled_below s xs c (categories_of s) p ≡ family_tally s m r date measure c (suc p)
  unfolding pooled_below family_tally
  pooled_is measure xs so c p l =
      sum_below_cong (categories_of s) _ _
      (λ b low. ap (λ (x : ℕ). cond (same_family (category_of s c) (category_of s b)) x 0) (tallied_at measure xs so b p low l))

  module _ (sums counts : List ℕ) (so-sums : Tallied s m r date watt_hours (meters_of s) sums) (so-counts : Tallied s m r date present (meters_of s) counts) where
    times : (c j : ℕ) → tally_below s m r date watt_hours (meters_of s) c j ≤ tally_below s m r date present (meters_of s) c j * 4294967295
    unfolding tally_below reading_at
    times c j =
        sum_below_times (meters_of s) 4294967295 _ _
        (λ x l. cases (counts_for s m r date c x) (λ e. rw e (reading_bound _).0) (λ e. rw e zero-le))

    pub tallied_bounded : Bounded s sums counts
    tallied_bounded =
        record {
          sum = λ k l. rw (so-sums.at k l, so-counts.at k l) (times _ _);
          count =
              λ p l.
              rw (sum_below_cong (categories_of s) _ _ (λ c low. tallied_below present counts so-counts c p low l))
              (le_trans (counts_together s m r date (suc p) (meters_of s)) known.meters.1);
        }

    -- the row that is written is the definition's new row
    pub new_is : (cells inherited : List ℕ) →
        ((k : ℕ) → k < row_length s → get_or inherited k 0 ≡ inherited_from (row_length s) cells (last_run s cells (day_type_of s date) date) k) →
        (k : ℕ) → k < row_length s → row_from s sums counts inherited date k ≡ new_row s m r cells date k
    unfolding entry_from new_row fresh_at
    new_is cells inherited taken k l =
        let c : ℕ = k / periods_of s in
        let p : ℕ = k % periods_of s in
        let in_range = category_below s known k l in
        let low = period_below s known k in
        rw (
          tallied_at watt_hours sums so-sums c p in_range low,
          tallied_at present counts so-counts c p in_range low,
          pooled_is watt_hours sums so-sums c p low,
          pooled_is present counts so-counts c p low,
          place_is s known k,
          taken k l,
        )

-- ---- the rows lent

blank_is : ◌≡◌ {A = ℕ} 2147483648 (entry_of blank)
unfolding entry_of count_and_origin blank
blank_is = refl

-- rows of 6,144 places are long enough for any store, two of them empty, one blank
abbrev empty_row : List ℕ
empty_row = replicate 6144 0

abbrev blank_row : List ℕ
blank_row = replicate 6144 2147483648

pub rows_there : (s : List ℕ) → settings_ready s ≡ true →
    ((row_length s ≤ 6144) × (row_length s ≤ 6144) × (row_length s ≤ 6144))
    × ((k : ℕ) → k < row_length s → (get_or empty_row k 0 ≡ 0) × (get_or empty_row k 0 ≡ 0) × (get_or blank_row k 0 ≡ entry_of blank))
rows_there s opened =
    let small = (row_bounds s (ready s opened)).1 in (
      (small, small, small),
      λ k l. (get_or-replicate 6144 k 0 0 (le_trans l small), get_or-replicate 6144 k 0 0 (le_trans l small), get_or-replicate 6144 k 2147483648 0 (le_trans l small) ∙ blank_is),
    )

-- ---- refusals have no place

pub run_place : (s m r cells days : List ℕ) (date : ℕ) → (run_verdict s m r cells days date).place ≡ 0
unfolding run_verdict
run_place s m r cells days date = refl

pub preview_place : (s m r cells days draft : List ℕ) (date : ℕ) → (preview_verdict s m r cells days draft date).place ≡ 0
unfolding preview_verdict
preview_place s m r cells days draft date = refl

-- ---- what a run leaves, and what a preview finds

pub moved_by_le : (n : ℕ) (cells : List ℕ) (d : ℕ) (new : ℕ → ℕ) (moved : ℕ) → moved ≡ moved_by_row n cells d new → moved ≤ n
unfolding moved_by_row
moved_by_le n cells d new moved is = rw is (differing_le n _ new)

-- what the next date takes over from the new row
pub carried_on : (n : ℕ) (new : ℕ → ℕ) (row inherited inherited' : List ℕ) → row ≡ tabulate n new →
    inherited' ≡ filling (length row) (λ k. carried_entry (get_or row k 0)) inherited →
    (k : ℕ) → k < n → get_or inherited' k 0 ≡ carried_entry (new k)
carried_on n new row inherited inherited' stands is k l =
    rw (is, stands, length_tabulate n new)
    (filling_below (λ j. carried_entry (get_or (tabulate n new) j 0)) inherited n k l ∙ ap carried_entry (get_d_tabulate n new k l))

-- the row that a run wrote stands among the cells
pub written_at : (s : List ℕ) (new : ℕ → ℕ) (cells days : List ℕ) (date : ℕ) → date * row_length s + row_length s ≤ length cells →
    (cells' days' row : List ℕ) → as_published cells' days' ≡ publish s date (tabulate (row_length s) new) (as_published cells days) →
    row ≡ take (row_length s) (drop (date * row_length s) cells') → row ≡ tabulate (row_length s) new
written_at s new cells days date fit cells' days' row put is =
    let n : ℕ = row_length s in
    let part : List ℕ → List ℕ = λ xs. take n (drop (date * n) xs) in
    is
    ∙ ap (λ (p : Published). part p.cells) put
    ∙ ap part (sym (put_is n date (date * n) n cells refl refl (tabulate n new)))
    ∙ part_spliced cells (tabulate n new) (date * n) n (omega (arith, fit)) (length_tabulate n new)

-- the walk over later dates starts from the row just written, or drawn
pub settles : (place : Placing) (s : List ℕ) (new : ℕ → ℕ) (p : Published) (date t : ℕ) (inherited' : List ℕ) (p' : Published) (moved : ℕ) → t ≡ day_type_of s date →
    p' ≡ place s date (tabulate (row_length s) new) p → moved ≡ moved_by_row (row_length s) p.cells date new →
    ((k : ℕ) → k < row_length s → get_or inherited' k 0 ≡ carried_entry (new k)) →
    carry_on place s t (dates_of s - (date + 1)) (λ k. get_or inherited' k 0) (date + 1) p' moved ≡ settled place s new p date
unfolding settled
settles place s new p date t inherited' p' moved day put is carried =
    rw (day, add-one date)
    (carry_on_same place s (day_type_of s date) (dates_of s - suc date) (λ k. get_or inherited' k 0) (λ k. carried_entry (new k)) (suc date) p' moved carried
    ∙ ap₂ (carry_on place s (day_type_of s date) (dates_of s - suc date) (λ k. carried_entry (new k)) (suc date)) put is)

-- a row drawn over a copy of the published one is counted against that
pub drawn_moved : (n d : ℕ) (cells published row row' : List ℕ) (new : ℕ → ℕ) (moved : ℕ) → d * n + n ≤ length cells →
    published ≡ take n (drop (d * n) cells) → row' ≡ overwritten published row → moved ≡ differing n (λ k. compared_entry (get_or row' k 0)) new → moved ≡ moved_by_row n cells d new
unfolding moved_by_row overwritten
drawn_moved n d cells published row row' new moved fit stands copied is =
    is
    ∙ differing_ext n _ (λ k. compared_entry (row_at n cells d k)) new new
    (λ k l.
    ap compared_entry
    (ap (λ (xs : List ℕ). get_or xs k 0) (copied ∙ ap (λ (xs : List ℕ). overwritten xs row) stands)
    ∙ get_or-append (take n (drop (d * n) cells)) _ 0 k (rw (part_length cells (d * n) n fit) l)
    ∙ part_row n d (d * n) n cells refl refl k l))
    (λ k l. refl)

pub ran_is : (s m r cells days : List ℕ) (new : ℕ → ℕ) (date : ℕ) → ((k : ℕ) → k < row_length s → new k ≡ new_row s m r cells date k) →
    settled publish s new (as_published cells days) date ≡ ran_from s m r cells days date
unfolding ran_from
ran_is s m r cells days new date same = settled_same publish s new (new_row s m r cells date) (as_published cells days) date same

pub moved_is : (s m r cells : List ℕ) (new : ℕ → ℕ) (date : ℕ) → ((k : ℕ) → k < row_length s → new k ≡ new_row s m r cells date k) →
    (settled count_only s new (as_published cells []) date).moved ≡ moved_from s m r cells date
unfolding moved_from
moved_is s m r cells new date same =
    ap (λ (x : Ran). x.moved) (settled_same count_only s new (new_row s m r cells date) (as_published cells []) date same)

-- ---- a preview and the run, on any store that may be run

module _ (s m r cells days : List ℕ) (date : ℕ) (ok : MayRun s m r cells days date) where
  pub foreseen : moved_from s m r cells date ≡ (ran_from s m r cells days date).moved
  foreseen = counted_first s m r cells days date ok.5 (cells_long s cells ok.3)

  -- what was drawn, before the rest of the draft
  pub drawn_front : (row draft : List ℕ) (n : ℕ) → row ≡ tabulate (row_length s) (new_row s m r cells date) → n ≡ row_length s →
      row ++ drop n draft ≡ overwritten (previewed s m r cells days date) draft
  unfolding overwritten
  drawn_front row draft n is wide =
      let same : row ≡ previewed s m r cells days date = is ∙ sym (previewed_is s m r cells days date ok.5 (cells_long s cells ok.3)) in
      let long : n ≡ length (previewed s m r cells days date) = wide ∙ sym (length_tabulate (row_length s) (new_row s m r cells date)) ∙ ap length (sym is ∙ same) in
      rw (same, long)
