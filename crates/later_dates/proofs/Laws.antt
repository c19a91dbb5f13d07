-- A date's row among the cells, the walk over later dates turn by turn, and the run date before a date: each thing that the code has is brought to the definition's.
use Prim.Native.Nat.{ℕ, suc, ◌+◌, ◌*◌, ◌-◌, ◌≤◌, ◌<◌}
use mathlib.Core.Path.{◌≡◌, refl, sym, ap, ap₂, ◌∙◌}
use mathlib.Core.Logic.{◌≢◌}
use mathlib.Core.Bool.{Bool, true, false}
use mathlib.Core.List.{List, [], ◌++◌, append_assoc}
use mathlib.Core.Option.{Option, some}
use native.Mathlib.Numerals.{add-one}
use native.Mathlib.Omega.{arith}
use lib.ListN.{length, get_or, take, drop}
use lib.Seq.{drop-drop, drop_at, take_at, length-take-le}
use borrow.Author.Tests.{eq-eqb, ne_eqb}
use Rattle.ledger.proofs.Ready.{Ready, ready, row_bounds}
use Rattle.ledger.specs.Store.{settings_ready, cells_ready, categories_of, dates_of, row_length}
use Rattle.ledger.specs.Table.{tabulate, filling}
use Rattle.ledger.specs.Calls.{row_at, put_row, inherited_from, differing, carried_entry, kept_days, Published, as_published, Placing, publish, count_only, follows, followed_entry, inherited_beyond, follow_row, inherited_after, moved_in_row, carry_on}
use Rattle.ledger.proofs.Walks.{put_same, carry_on_end, carry_on_pass, carry_on_stop, carry_on_go, carry_on_same}
use Rattle.ledger.proofs.Lists.{length_tabulate, get_d_tabulate, tabulate_ext, part_length, part_at}
use Rattle.entries.proofs.RowLaws.{filling_below, differing_le, differing_ext, differing_none}
use Rattle.entries.specs.Row.{spliced}
use Rattle.store.proofs.RowLaws.{row_fits}
use Rattle.later_dates.specs.Walk.{Followed}

-- ---- a date's row among the cells

put_eq : (n d : ℕ) (row cells : List ℕ) → put_row n d row cells ≡ take (d * n) cells ++ (row ++ drop (d * n + n) cells)
unfolding put_row
put_eq n d row cells = append_assoc (take (d * n) cells) row (drop (d * n + n) cells)

-- the row's start and width as the code has them
module _ (n d at w : ℕ) (cells : List ℕ) (start : at ≡ d * n) (width : w ≡ n) where
  pub part_row : (k : ℕ) → k < n → get_or (take w (drop at cells)) k 0 ≡ row_at n cells d k
  unfolding row_at
  part_row k l = rw (start, width) (part_at cells (d * n) n k l)

  pub put_is : (ys : List ℕ) → spliced cells ys at w ≡ put_row n d ys cells
  put_is ys = rw (start, width, drop-drop n (d * n) cells) (sym (put_eq n d ys cells))

  pub part_is : d * n + n ≤ length cells → length (take w (drop at cells)) ≡ n
  part_is fit = rw (start, width) (part_length cells (d * n) n fit)

-- what was put in a part is read back
pub part_spliced : (xs ys : List ℕ) (at w : ℕ) → at ≤ length xs → length ys ≡ w → take w (drop at (spliced xs ys at w)) ≡ ys
part_spliced xs ys at w h long =
    ap (take w) (drop_at (take at xs) (ys ++ drop w (drop at xs)) at (length-take-le at xs h)) ∙ take_at ys (drop w (drop at xs)) w long

-- the row put in its stretch, and the days kept from it
pub published_is : (s : List ℕ) (date at w : ℕ) (new : ℕ → ℕ) (cells days ys days' : List ℕ) → at ≡ date * row_length s → w ≡ row_length s →
    date * row_length s + row_length s ≤ length cells → ys ≡ tabulate (row_length s) new →
    days' ≡ kept_days s date (take w (drop at (spliced cells ys at w))) (categories_of s) days →
    as_published (spliced cells ys at w) days' ≡ publish s date (tabulate (row_length s) new) (as_published cells days)
published_is s date at w new cells days ys days' start width fit row kept =
    let back : take w (drop at (spliced cells ys at w)) ≡ tabulate (row_length s) new =
    part_spliced cells ys at w (rw start (omega (arith, fit))) (ap length row ∙ length_tabulate (row_length s) new ∙ sym width) ∙ row in
    ap₂ as_published
    (put_is (row_length s) date at w cells start width ys ∙ ap (λ (xs : List ℕ). put_row (row_length s) date xs cells) row)
    (kept ∙ ap (λ (xs : List ℕ). kept_days s date xs (categories_of s) days) back)

-- a date's row lies among the cells
pub row_there : (s cells : List ℕ) (d : ℕ) → settings_ready s ≡ true → cells_ready s cells ≡ true → d < dates_of s →
    (d * row_length s + row_length s ≤ length cells) × (row_length s ≤ 6144) × (d < 800)
row_there s cells d opened long in_range =
    let known = ready s opened in (row_fits s cells d long in_range, (row_bounds s known).1, omega (arith, in_range, known.dates))

-- ---- a later date's row

-- what following a part gives of the whole; `at` and w are the row's start and width as the code has them
module _ (n d at w : ℕ) (cells inherited : List ℕ) (start : at ≡ d * n) (width : w ≡ n) (fit : d * n + n ≤ length cells) where
  followed_at : (k : ℕ) → k < n →
      followed_entry (get_or (take w (drop at cells)) k 0) (get_or inherited k 0) ≡ follow_row n cells d (λ j. get_or inherited j 0) k
  unfolding follow_row
  followed_at k l = ap (λ (e : ℕ). followed_entry e (get_or inherited k 0)) (part_row n d at w cells start width k l)

  module _ (ys : List ℕ) (is : ys ≡ tabulate (length (take w (drop at cells))) (λ k. followed_entry (get_or (take w (drop at cells)) k 0) (get_or inherited k 0))) where
    follow_row_lem : ys ≡ tabulate n (follow_row n cells d (λ k. get_or inherited k 0))
    follow_row_lem =
        is ∙ ap (λ (m : ℕ). tabulate m (λ k. followed_entry (get_or (take w (drop at cells)) k 0) (get_or inherited k 0))) (part_is n d at w cells start width fit)
        ∙ tabulate_ext n _ _ followed_at

    follow_gives : spliced cells ys at w ≡ put_row n d (tabulate n (follow_row n cells d (λ k. get_or inherited k 0))) cells
    follow_gives = put_is n d at w cells start width ys ∙ ap (λ (zs : List ℕ). put_row n d zs cells) follow_row_lem

  follow_inherited : (inherited' : List ℕ) →
      inherited' ≡ filling (length (take w (drop at cells))) (λ k. inherited_beyond (get_or (take w (drop at cells)) k 0) (get_or inherited k 0)) inherited →
      (k : ℕ) → k < n → get_or inherited' k 0 ≡ inherited_after n cells d (λ j. get_or inherited j 0) k
  unfolding inherited_after
  follow_inherited inherited' is k l =
      ap (λ (xs : List ℕ). get_or xs k 0) is
      ∙ filling_below _ inherited (length (take w (drop at cells))) k (rw (part_is n d at w cells start width fit) l)
      ∙ ap (λ (e : ℕ). inherited_beyond e (get_or inherited k 0)) (part_row n d at w cells start width k l)

  follow_moved : (m : ℕ) →
      m ≡ differing (length (take w (drop at cells))) (λ k. get_or (take w (drop at cells)) k 0)
      (λ k. followed_entry (get_or (take w (drop at cells)) k 0) (get_or inherited k 0)) →
      m ≡ moved_in_row n cells d (λ k. get_or inherited k 0)
  unfolding moved_in_row
  follow_moved m is =
      is
      ∙ ap (λ (x : ℕ).
      differing x (λ k. get_or (take w (drop at cells)) k 0) (λ k. followed_entry (get_or (take w (drop at cells)) k 0) (get_or inherited k 0)))
      (part_is n d at w cells start width fit)
      ∙ differing_ext n _ (row_at n cells d) _ (follow_row n cells d (λ j. get_or inherited j 0)) (part_row n d at w cells start width) followed_at

-- a row where nothing moved is put in its own place, or left
module _ (n d : ℕ) (cells : List ℕ) (inherited : ℕ → ℕ) (none_moved : moved_in_row n cells d inherited ≡ 0) where
  put_unmoved : d * n + n ≤ length cells → put_row n d (tabulate n (follow_row n cells d inherited)) cells ≡ cells
  put_unmoved fit =
      put_same n d (tabulate n (follow_row n cells d inherited)) cells (length_tabulate n (follow_row n cells d inherited)) fit
      (λ k l.
      get_d_tabulate n (follow_row n cells d inherited) k l
      ∙ sym (differing_none n (row_at n cells d) (follow_row n cells d inherited) (unfold moved_in_row in none_moved) k l))

moved_le : (n d : ℕ) (cells : List ℕ) (inherited : ℕ → ℕ) → moved_in_row n cells d inherited ≤ n
unfolding moved_in_row
moved_le n d cells inherited = differing_le n (row_at n cells d) (follow_row n cells d inherited)

-- a date's row followed, by the start and width that the code has: written, or only counted
module _ (s : List ℕ) (d : ℕ) (inherited cells : List ℕ) (fit : d * row_length s + row_length s ≤ length cells) (at w : ℕ) (start : at ≡ d * row_length s) (width : w ≡ row_length s)
    (inherited' : List ℕ) (more : ℕ)
    (after : inherited' ≡ filling (length (take w (drop at cells))) (λ k. inherited_beyond (get_or (take w (drop at cells)) k 0) (get_or inherited k 0)) inherited)
    (is : more ≡ differing (length (take w (drop at cells))) (λ k. get_or (take w (drop at cells)) k 0) (λ k. followed_entry (get_or (take w (drop at cells)) k 0) (get_or inherited k 0))) where
  inherits : (k : ℕ) → k < row_length s → get_or inherited' k 0 ≡ inherited_after (row_length s) cells d (λ j. get_or inherited j 0) k
  inherits = follow_inherited (row_length s) d at w cells inherited start width fit inherited' after

  moves : more ≡ moved_in_row (row_length s) cells d (λ k. get_or inherited k 0)
  moves = follow_moved (row_length s) d at w cells inherited start width fit more is

  module _ (days ys : List ℕ) (row : ys ≡ tabulate (length (take w (drop at cells))) (λ k. followed_entry (get_or (take w (drop at cells)) k 0) (get_or inherited k 0))) where
    written : spliced cells ys at w ≡ put_row (row_length s) d (tabulate (row_length s) (follow_row (row_length s) cells d (λ k. get_or inherited k 0))) cells
    written = follow_gives (row_length s) d at w cells inherited start width fit ys row

    -- nothing moved: the row is as it was, and the days stay
    pub followed_still : more ≡ 0 → Followed publish s d inherited (as_published cells days) inherited' (as_published (spliced cells ys at w) days) more
    followed_still none_moved =
        record {
          moves = moves;
          stays = λ z. ap (λ (xs : List ℕ). as_published xs days) (written ∙ put_unmoved (row_length s) d cells (λ k. get_or inherited k 0) (sym moves ∙ none_moved) fit);
          places = λ z. absurd (z none_moved);
          inherits = inherits;
        }

    -- else the days are kept from the row that was written
    pub followed_written : more ≢ 0 → (days' : List ℕ) → days' ≡ kept_days s d (take w (drop at (spliced cells ys at w))) (categories_of s) days →
        Followed publish s d inherited (as_published cells days) inherited' (as_published (spliced cells ys at w) days') more
    followed_written some_moved days' kept =
        record {
          moves = moves;
          stays = λ z. absurd (some_moved z);
          places = λ z. published_is s d at w (follow_row (row_length s) cells d (λ k. get_or inherited k 0)) cells days ys days' start width fit (follow_row_lem (row_length s) d at w cells inherited start width fit ys row) kept;
          inherits = inherits;
        }

  followed_counted : Followed count_only s d inherited (as_published cells []) inherited' (as_published cells []) more
  followed_counted = record { moves = moves; stays = λ z. refl; places = λ z. refl; inherits = inherits }

-- counted in a copy of the row
pub followed_copy : (s : List ℕ) (d : ℕ) (inherited cells : List ℕ) → d * row_length s + row_length s ≤ length cells →
    (copy : List ℕ) → copy ≡ take (row_length s) (drop (d * row_length s) cells) → (inherited' : List ℕ) (more : ℕ) →
    inherited' ≡ filling (length copy) (λ k. inherited_beyond (get_or copy k 0) (get_or inherited k 0)) inherited →
    more ≡ differing (length copy) (λ k. get_or copy k 0) (λ k. followed_entry (get_or copy k 0) (get_or inherited k 0)) →
    Followed count_only s d inherited (as_published cells []) inherited' (as_published cells []) more
followed_copy s d inherited cells fit copy is inherited' more after counts =
    followed_counted s d inherited cells fit (d * row_length s) (row_length s) refl refl inherited' more (rw is at after) (rw is at counts)

-- ---- the walk over later dates, for a run and for a count

-- the walk has come to date d: what is left of it gives what the whole gives
pub record Walked (place : Placing) (s : List ℕ) (t first moved : ℕ) (inherited₀ : List ℕ) (p₀ : Published) (inherited : List ℕ) (p : Published) (total d : ℕ) : Type 0 where
  pub reached : d ≤ dates_of s
  pub few : total ≤ 6144 + 6144 * d
  pub same :
      carry_on place s t (dates_of s - d) (λ k. get_or inherited k 0) d p total
      ≡ carry_on place s t (dates_of s - first) (λ k. get_or inherited₀ k 0) first p₀ moved

module _ (place : Placing) (s : List ℕ) (t first moved : ℕ) (inherited₀ : List ℕ) (p₀ : Published) (inherited : List ℕ) (p : Published) (total d : ℕ)
    (so_far : Walked place s t first moved inherited₀ p₀ inherited p total d) where
  pub walk_end : dates_of s ≤ d → record { published = p; moved = total } ≡ carry_on place s t (dates_of s - first) (λ k. get_or inherited₀ k 0) first p₀ moved
  walk_end h =
      let none_left : dates_of s - d ≡ 0 = omega arith in
      sym (carry_on_end place s t 0 (λ k. get_or inherited k 0) d p total) ∙ rw none_left at so_far.same

  module _ (in_range : d < dates_of s) where
    one : dates_of s - d ≡ suc (dates_of s - suc d)
    one = omega arith

    -- a date that does not follow is passed over
    pub walk_pass : {cells : List ℕ} {test : Bool} → cells ≡ p.cells → test ≡ follows s t cells d → test ≡ false → Walked place s t first moved inherited₀ p₀ inherited p total (d + 1)
    walk_pass same is over =
        let test : follows s t p.cells d ≡ false = rw (← same) (sym is ∙ over) in
        record {
          reached = omega arith;
          few = omega (arith, so_far.few);
          same = rw (add-one d) (sym (carry_on_pass place s t (dates_of s - suc d) (λ k. get_or inherited k 0) d p total test) ∙ rw one at so_far.same);
        }

    -- at one that does, the walk ends where nothing moves, else it goes on
    module _ {cells : List ℕ} {runs : Bool} (same : cells ≡ p.cells) (is : runs ≡ follows s t cells d) (yes : runs ≡ true) {inherited' : List ℕ} {p' : Published} {more : ℕ} (turn : Followed place s d inherited p inherited' p' more) where
      test : follows s t p.cells d ≡ true
      test = rw (← same) (sym is ∙ yes)

      pub walk_stop : more ≡ 0 → record { published = p'; moved = total } ≡ carry_on place s t (dates_of s - first) (λ k. get_or inherited₀ k 0) first p₀ moved
      walk_stop none_moved =
          ap (λ (x : Published). record { published = x; moved = total }) (turn.stays none_moved)
          ∙ sym (carry_on_stop place s t (dates_of s - suc d) (λ k. get_or inherited k 0) d p total test (eq-eqb _ _ (sym turn.moves ∙ none_moved)))
          ∙ rw one at so_far.same

      few_more : Ready s → more ≤ 6144
      few_more known = rw turn.moves (omega (arith, moved_le (row_length s) d p.cells (λ k. get_or inherited k 0), row_bounds s known))

      pub walk_on : Ready s → more ≢ 0 → Walked place s t first moved inherited₀ p₀ inherited' p' (total + more) (d + 1)
      walk_on known some_moved =
          record {
            reached = omega arith;
            few = omega (arith, so_far.few, few_more known);
            same =
                sym
                (rw (add-one d)
                (carry_on_go place s t (dates_of s - suc d) (λ k. get_or inherited k 0) d p total test (ne_eqb _ _ (λ z. some_moved (turn.moves ∙ z)))
                ∙ carry_on_same place s t (dates_of s - suc d) (inherited_after (row_length s) p.cells d (λ k. get_or inherited k 0)) (λ k. get_or inherited' k 0) (suc d) _ _ (λ j l. sym (turn.inherits j l))
                ∙ ap₂ (λ (x : Published) (n : ℕ). carry_on place s t (dates_of s - suc d) (λ k. get_or inherited' k 0) (suc d) x (total + n)) (sym (turn.places some_moved)) (sym turn.moves)))
                ∙ rw one at so_far.same;
          }

      pub walk_room : Ready s → total + more < 18446744073709551616
      walk_room known = omega (arith, so_far.few, few_more known, known.dates.1)

-- ---- the run date before

-- what a date takes over, from the run date before it or where there is none
pub taken_from : (n d at w : ℕ) (cells inherited inherited' : List ℕ) (last : Option ℕ) → last ≡ some d → at ≡ d * n → w ≡ n →
    inherited' ≡ filling w (λ k. carried_entry (get_or cells (at + k) 0)) inherited → (k : ℕ) → k < n → get_or inherited' k 0 ≡ inherited_from n cells last k
unfolding row_at
taken_from n d at w cells inherited inherited' last found start width is k l =
    rw (found, is, start, width) (filling_below (λ j. carried_entry (get_or cells (d * n + j) 0)) inherited n k l)
