-- The rows of cells that a run writes, the date's own and then those of later dates, are the columns' cells: the walk keeps new rows before it and old ones from it on.
use Rattle.std.proofs.Common.{◌≡◌, ℕ, zero, suc, ◌+◌, ◌-◌, ◌*◌, ◌<◌, ◌≤◌, Bool, true, false, ◌&&◌, eqb, leb, ◌≢◌, List, length, sym, refl, ap, ◌∙◌, true≢false, add-zero, add-suc, mul-le-mul_right, suc-add, zero-add, arith, eq-eqb, ne_eqb, eqb-true, leb-false, leb-true}
use mathlib.Core.Bool.{and-eq-true_iff}
use mathlib.Core.Option.{some}
use lib.Arith.{lt_of_le-ne}
use borrow.Table.Steps.{cases}
use borrow.Author.Tests.{eqb-false}
use Rattle.metering.specs.Sum.{sum_below, sum_below_suc}
use Rattle.ledger.specs.Method.{Fresh, Cell, blank, carried, cell_from, moved_cell, Day, latest, cell_on}
use Rattle.ledger.specs.Table.{tabulate}
use Rattle.ledger.specs.Store.{categories_of, dates_of, row_length, day_type_of, entry_of, FitsEntry, is_run_at}
use Rattle.ledger.specs.Calls.{carried_entry, row_entry, row_at, put_row, Published, as_published, publish, kept_days, follows, last_run, inherited_from, compared_entry, differing, Ran, followed_entry, inherited_beyond, follow_row, inherited_after, moved_in_row, carry_on, moved_by_row, settled}
use Rattle.ledger.proofs.Lists.{below_suc, length_tabulate, get_d_tabulate, sum_below_cong, sum_below_none, none_of_sum, sum_below_more}
use Rattle.ledger.proofs.Entries.{FreshFits, entry_some, moved_entry_lem, unmoved, moved_same, carry_entry, row_entry_lem, follow_entry, over_entry}
use Rattle.ledger.proofs.Walks.{length_put_row, row_put, row_kept, carry_on_end, carry_on_pass, carry_on_stop, carry_on_go}
use Rattle.ledger.proofs.Columns.{day_if, latest_other_type, latest_not_run, latest_run, cell_run, cell_not_run, latest_fits, cell_fits, latest_before, latest_other, latest_after, cell_alike}

-- ---- what a column's cells are in the store

-- a run date's cell by its entry; a date not run has entry 0
abbrev pub code_if : Bool → Cell → ℕ
code_if true c = entry_of c
code_if false c = 0

-- column k: which dates are run, and their own shapes in that column
abbrev pub column_day : (ℕ → Bool) → (ℕ → ℕ → Fresh) → ℕ → ℕ → Day
column_day run fresh k x = day_if (run x) (fresh k x)

abbrev pub column_cell : (ℕ → ℕ) → (ℕ → Bool) → (ℕ → ℕ → Fresh) → ℕ → ℕ → Cell
column_cell dt run fresh k d = cell_on dt (column_day run fresh k) d

-- the first T rows of n places hold the columns' cells
abbrev pub CellsAre : ℕ → ℕ → (ℕ → ℕ) → (ℕ → Bool) → (ℕ → ℕ → Fresh) → List ℕ → Type 0
CellsAre n T dt run fresh cells = (x k : ℕ) → x < T → k < n → row_at n cells x k ≡ code_if (run x) (column_cell dt run fresh k x)

-- a date is run in the store where it is run
pub run_at : (n : ℕ) (cells : List ℕ) (d : ℕ) (run : Bool) (a : Cell) → FitsEntry a → row_at n cells d 0 ≡ code_if run a → is_run_at n cells d ≡ run
unfolding is_run_at row_at
run_at n cells d true a fit e = rw (← (add-zero (d * n)), e, ne_eqb (entry_of a) 0 (entry_some a fit.no_shape))
run_at n cells d false a fit e = rw (← (add-zero (d * n)), e)

-- what a run leaves: the new columns' cells, and how many of them all differ
pub record RunLeaves (n T : ℕ) (dt : ℕ → ℕ) (runO runN : ℕ → Bool) (freshO freshN : ℕ → ℕ → Fresh) (L : ℕ) (r : Ran) : Type 0 where
  pub cells_are : CellsAre n T dt runN freshN r.published.cells
  pub moved_is : r.moved ≡ sum_below T (λ d. sum_below n (λ k. moved_cell (column_cell dt runO freshO k d) (column_cell dt runN freshN k d)))
  pub as_long : length r.published.cells ≡ L

-- ---- a run at a date: the pictures before and after are alike but there

module _ (s : List ℕ) (n T : ℕ) (dt : ℕ → ℕ) (places : 0 < n) (few : T ≤ 1024) (row_is : row_length s ≡ n)
    (types : (d : ℕ) → d < T → day_type_of s d ≡ dt d)
    (runO runN : ℕ → Bool) (freshO freshN : ℕ → ℕ → Fresh)
    (fitsO : (k x : ℕ) → FreshFits (freshO k x)) (fitsN : (k x : ℕ) → FreshFits (freshN k x))
    (date : ℕ) (runAlike : (x : ℕ) → x ≢ date → runO x ≡ runN x) (freshAlike : (k x : ℕ) → x ≢ date → freshO k x ≡ freshN k x) where
  cell_o : ℕ → ℕ → Cell
  cell_o k d = column_cell dt runO freshO k d

  cell_n : ℕ → ℕ → Cell
  cell_n k d = column_cell dt runN freshN k d

  latest_o : ℕ → ℕ → ℕ → Cell
  latest_o k t d = latest dt (column_day runO freshO k) t d

  latest_n : ℕ → ℕ → ℕ → Cell
  latest_n k t d = latest dt (column_day runN freshN k) t d

  alike : (k x : ℕ) → x ≢ date → column_day runO freshO k x ≡ column_day runN freshN k x
  alike k x h = rw (runAlike x h, freshAlike k x h)

  cell_o_fits : (k d : ℕ) → d < T → FitsEntry (cell_o k d)
  unfolding cell_o
  cell_o_fits k d h = cell_fits dt runO (freshO k) (fitsO k) d (omega arith)

  cell_n_fits : (k d : ℕ) → d < T → FitsEntry (cell_n k d)
  unfolding cell_n
  cell_n_fits k d h = cell_fits dt runN (freshN k) (fitsN k) d (omega arith)

  latest_o_fits : (k t d : ℕ) → d < T → FitsEntry (latest_o k t d)
  unfolding latest_o
  latest_o_fits k t d h = latest_fits dt runO (freshO k) (fitsO k) t d (omega arith)

  latest_n_fits : (k t d : ℕ) → d < T → FitsEntry (latest_n k t d)
  unfolding latest_n
  latest_n_fits k t d h = latest_fits dt runN (freshN k) (fitsN k) t d (omega arith)

  -- the cells of row d that moved
  moved_on : ℕ → ℕ
  moved_on d = sum_below n (λ k. moved_cell (cell_o k d) (cell_n k d))

  moved_none : (d : ℕ) → ((k : ℕ) → k < n → cell_o k d ≡ cell_n k d) → moved_on d ≡ 0
  unfolding moved_on
  moved_none d h = sum_below_none n _ (λ k l. rw (h k l) (moved_same (cell_n k d)))

  -- what a walk leaves
  record Good (L : ℕ) (r : Ran) : Type 0 where
    cells_are : (x k : ℕ) → x < T → k < n → row_at n r.published.cells x k ≡ code_if (runN x) (cell_n k x)
    moved_is : r.moved ≡ sum_below T moved_on
    as_long : length r.published.cells ≡ L

  -- the walk has come to date d: rows before it are new, those from it on are old
  record Come (L : ℕ) (inherited : ℕ → ℕ) (d : ℕ) (cells : List ℕ) (moved : ℕ) : Type 0 where
    past : date < d
    new_rows : (x k : ℕ) → x < d → k < n → row_at n cells x k ≡ code_if (runN x) (cell_n k x)
    old_rows : (x k : ℕ) → d ≤ x → x < T → k < n → row_at n cells x k ≡ code_if (runO x) (cell_o k x)
    inherited_beyond : (k : ℕ) → k < n → inherited k ≡ entry_of (carried (latest_n k (dt date) d))
    so_far : moved ≡ sum_below d moved_on
    as_long : length cells ≡ L

  -- a date past the changed one is alike where its type is another or it is not run
  passed_alike : (k d : ℕ) → date < d → (eqb (dt d) (dt date) && runO d) ≡ false → cell_o k d ≡ cell_n k d
  unfolding cell_o cell_n
  passed_alike k d h e =
      cases (runO d)
      (λ r.
      cell_alike dt (column_day runO freshO k) (column_day runN freshN k) date (alike k) d (λ (q : d ≡ date). omega arith)
      (latest_other dt (column_day runO freshO k) (column_day runN freshN k) date (alike k) (dt d) (other r) d))
      (λ r.
      cell_not_run dt (column_day runO freshO k) 0 d (rw r)
      ∙ sym (cell_not_run dt (column_day runN freshN k) 0 d (rw (← (runAlike d (λ (q : d ≡ date). omega arith)), r))))
    where
      other : runO d ≡ true → eqb (dt date) (dt d) ≡ false
      other r =
          ne_eqb (dt date) (dt d)
          (λ q. let z : (true && true) ≡ false = rw (eq-eqb (dt d) (dt date) (sym q), r) at e in true≢false z)

  module _ (L : ℕ) (inherited : ℕ → ℕ) (d : ℕ) (cells : List ℕ) (moved : ℕ) (c : Come L inherited d cells moved) (h : d < T) where
    not_date : d ≢ date
    not_date e = let p = c.past in omega arith

    test_is : follows s (dt date) cells d ≡ (eqb (dt d) (dt date) && runO d)
    test_is = rw (row_is, types d h, run_at n cells d (runO d) (cell_o 0 d) (cell_o_fits 0 d h) (c.old_rows d 0 (omega arith) h places))

    -- a date that is passed over
    pass_come : (eqb (dt d) (dt date) && runO d) ≡ false → Come L inherited (suc d) cells moved
    unfolding latest_n
    pass_come e =
        let same : (k : ℕ) → cell_o k d ≡ cell_n k d = λ k. passed_alike k d c.past e in
        record {
          past = let p = c.past in omega arith;
          new_rows = λ x k l m. below_suc (λ y. row_at n cells y k ≡ code_if (runN y) (cell_n k y)) d (λ y q. c.new_rows y k q m) (c.old_rows d k (omega arith) h m ∙ rw (runAlike d not_date, same k)) x l;
          old_rows = λ x k l m o. c.old_rows x k (omega arith) m o;
          inherited_beyond = λ k l. c.inherited_beyond k l ∙ ap (λ a. entry_of (carried a)) (sym (still k));
          so_far = c.so_far ∙ sym (sum_below_suc d moved_on ∙ rw (moved_none d (λ k l. same k)) (add-zero (sum_below d moved_on)));
          as_long = c.as_long;
        }
      where
        still : (k : ℕ) → latest dt (column_day runN freshN k) (dt date) (suc d) ≡ latest dt (column_day runN freshN k) (dt date) d
        still k =
            cases (eqb (dt d) (dt date))
            (λ q. latest_not_run dt (column_day runN freshN k) (dt date) d (rw (← (runAlike d not_date)) (let z : runO d ≡ false = rw q at e in rw z)))
            (λ q. latest_other_type dt (column_day runN freshN k) (dt date) d q)

    -- a run date of the type
    module _ (q : eqb (dt d) (dt date) ≡ true) (r : runO d ≡ true) where
      r_n : runN d ≡ true
      r_n = sym (runAlike d not_date) ∙ r

      old_is : (k : ℕ) → cell_o k d ≡ cell_from d (freshO k d) (latest_o k (dt date) d)
      unfolding cell_o latest_o
      old_is k = cell_run dt (column_day runO freshO k) 0 d (freshO k d) (rw r) ∙ rw (eqb-true (dt d) (dt date) q)

      new_is : (k : ℕ) → cell_n k d ≡ cell_from d (freshO k d) (latest_n k (dt date) d)
      unfolding cell_n latest_n
      new_is k = cell_run dt (column_day runN freshN k) 0 d (freshO k d) (rw (r_n, freshAlike k d not_date)) ∙ rw (eqb-true (dt d) (dt date) q)

      entry_old : (k : ℕ) → k < n → row_at n cells d k ≡ entry_of (cell_from d (freshO k d) (latest_o k (dt date) d))
      entry_old k l = c.old_rows d k (omega arith) h l ∙ rw (r, old_is k)

      follow_is : (k : ℕ) → k < n → follow_row n cells d inherited k ≡ entry_of (cell_n k d)
      unfolding follow_row followed_entry
      follow_is k l =
          rw (entry_old k l, c.inherited_beyond k l, new_is k)
          (follow_entry d (latest_o k (dt date) d) (latest_n k (dt date) d) (omega arith) (latest_o_fits k (dt date) d h) (latest_n_fits k (dt date) d h) (freshO k d) (fitsO k d))

      over_is : (k : ℕ) → k < n → inherited_after n cells d inherited k ≡ entry_of (carried (latest_n k (dt date) (suc d)))
      unfolding inherited_after inherited_beyond
      over_is k l =
          rw (entry_old k l, c.inherited_beyond k l)
          (over_entry d (latest_o k (dt date) d) (latest_n k (dt date) d) (omega arith) (latest_o_fits k (dt date) d h) (latest_n_fits k (dt date) d h) (freshO k d) (fitsO k d)
          ∙ ap (λ a. entry_of (carried a)) (sym (next k)))
        where
          next : (k : ℕ) → latest_n k (dt date) (suc d) ≡ cell_from d (freshO k d) (latest_n k (dt date) d)
          next k = unfold latest_n in latest_run dt (column_day runN freshN k) (dt date) d (freshO k d) (rw (r_n, freshAlike k d not_date)) q

      row_moved : moved_in_row n cells d inherited ≡ moved_on d
      unfolding moved_in_row differing moved_on
      row_moved =
          sum_below_cong n _ _
          (λ k l. rw (c.old_rows d k (omega arith) h l, follow_is k l, r) (moved_entry_lem (cell_o k d) (cell_n k d) (cell_o_fits k d h) (cell_n_fits k d h)))

      fits : T * n ≤ L → d * n + n ≤ length cells
      fits room = rw c.as_long (omega (arith, mul-le-mul_right n h))

      go_come : T * n ≤ L → Come L (inherited_after n cells d inherited) (suc d) (put_row n d (tabulate n (follow_row n cells d inherited)) cells) (moved + moved_in_row n cells d inherited)
      go_come room =
          let row = tabulate n (follow_row n cells d inherited) in
          let long = length_tabulate n (follow_row n cells d inherited) in
          record {
            past = let p = c.past in omega arith;
            new_rows = λ x k l m.
                below_suc (λ y. row_at n (put_row n d row cells) y k ≡ code_if (runN y) (cell_n k y)) d
                (λ y w. row_kept n d row cells long (fits room) y k (λ (e : y ≡ d). omega arith) m ∙ c.new_rows y k w m)
                (row_put n d row cells long (fits room) k m ∙ get_d_tabulate n (follow_row n cells d inherited) k m ∙ follow_is k m ∙ rw r_n)
                x l;
            old_rows = λ x k l m o. row_kept n d row cells long (fits room) x k (λ (e : x ≡ d). omega arith) o ∙ c.old_rows x k (omega arith) m o;
            inherited_beyond = λ k l. over_is k l;
            so_far = rw (c.so_far, row_moved) (sym (sum_below_suc d moved_on));
            as_long = length_put_row n d row cells long (fits room) ∙ c.as_long;
          }

      -- where nothing moved in the row, nothing moves after it
      still_same : moved_in_row n cells d inherited ≡ 0 → (k : ℕ) → k < n → cell_o k d ≡ cell_n k d
      still_same z k l =
          unmoved (cell_o k d) (cell_n k d)
          (none_of_sum n (λ y. moved_cell (cell_o y d) (cell_n y d)) (unfold moved_on in (sym row_moved ∙ z)) k l)

      met : (k : ℕ) → cell_o k d ≡ cell_n k d → latest_o k (dt date) (suc d) ≡ latest_n k (dt date) (suc d)
      unfolding latest_o latest_n
      met k e =
          latest_run dt (column_day runO freshO k) (dt date) d (freshO k d) (rw r) q
          ∙ sym (unfold latest_o in old_is k) ∙ e ∙ (unfold latest_n in new_is k)
          ∙ sym (latest_run dt (column_day runN freshN k) (dt date) d (freshO k d) (rw (r_n, freshAlike k d not_date)) q)

      later_same : moved_in_row n cells d inherited ≡ 0 → (x k : ℕ) → d ≤ x → k < n → cell_o k x ≡ cell_n k x
      unfolding cell_o cell_n latest_o latest_n
      later_same z x k l m =
          cases (eqb x d)
          (λ e. rw (eqb-true x d e) (still_same z k m))
          (λ e.
          cell_alike dt (column_day runO freshO k) (column_day runN freshN k) date (alike k) x
          (λ (w : x ≡ date). let p = c.past in omega arith)
          (cases (eqb (dt date) (dt x))
          (λ w.
          rw (← (eqb-true (dt date) (dt x) w), ← (gap x (lt_of_le-ne l (λ (v : d ≡ x). eqb-false x d e (sym v)))))
          (latest_after dt (column_day runO freshO k) (column_day runN freshN k) date (alike k) (dt date) (suc d) (let p = c.past in omega arith) (met k (still_same z k m)) (x - suc d)))
          (λ w. latest_other dt (column_day runO freshO k) (column_day runN freshN k) date (alike k) (dt x) w x)))
        where
          gap : (y : ℕ) → d < y → suc d + (y - suc d) ≡ y
          gap y w = omega arith

      stop_good : moved_in_row n cells d inherited ≡ 0 → (days : List ℕ) → Good L (record { published = record { cells = cells; days = days }; moved = moved })
      stop_good z days =
          record {
            cells_are = λ x k l m.
                cases (leb (suc x) d)
                (λ e. c.new_rows x k (leb-true (suc x) d e) m)
                (λ e.
                let g : d ≤ x = (let w = leb-false (suc x) d e in omega arith) in
                c.old_rows x k g l m ∙ rw (runAlike x (λ (v : x ≡ date). let p = c.past in omega arith), later_same z x k g m));
            moved_is = c.so_far ∙ sym (rest_none (T - d));
            as_long = c.as_long;
          }
        where
          rest_none : (m : ℕ) → sum_below T moved_on ≡ sum_below d moved_on
          rest_none m =
              ap (λ x. sum_below x moved_on) (sym gap) ∙ sum_below_more d (T - d) moved_on
              ∙ rw (sum_below_none (T - d) (λ x. moved_on (d + x)) (λ x w. moved_none (d + x) (λ k v. later_same z (d + x) k (omega arith) v))) (add-zero (sum_below d moved_on))
            where
              gap : d + (T - d) ≡ T
              gap = omega arith

  -- the walk from date d to the last
  walk : (L : ℕ) → T * n ≤ L → (m : ℕ) (inherited : ℕ → ℕ) (d : ℕ) (p : Published) (moved : ℕ) → d + m ≡ T → Come L inherited d p.cells moved →
      Good L (carry_on publish s (dt date) m inherited d p moved)
  walk L room zero inherited d p moved e c =
      let at_end : d ≡ T = sym (add-zero d) ∙ e in
      rw (carry_on_end publish s (dt date) 0 inherited d p moved)
      (record {
        cells_are = λ x k l m. c.new_rows x k (omega arith) m;
        moved_is = c.so_far ∙ ap (λ x. sum_below x moved_on) at_end;
        as_long = c.as_long;
      })
  walk L room (suc m) inherited d p moved e c =
      let h : d < T = omega (arith, e) in
      let e' : suc d + m ≡ T = suc-add d m ∙ sym (add-suc d m) ∙ e in
      let test : follows s (dt date) p.cells d ≡ (eqb (dt d) (dt date) && runO d) = test_is L inherited d p.cells moved c h in
      cases (eqb (dt d) (dt date) && runO d)
      (λ b.
      let q = (and-eq-true_iff (eqb (dt d) (dt date)) (runO d)).0 b in
      cases (eqb (moved_in_row n p.cells d inherited) 0)
      (λ z.
      rw (carry_on_stop publish s (dt date) m inherited d p moved (test ∙ b) (rw row_is z))
      (stop_good L inherited d p.cells moved c h q.0 q.1 (eqb-true _ _ z) p.days))
      (λ z.
      rw (carry_on_go publish s (dt date) m inherited d p moved (test ∙ b) (rw row_is z), row_is)
      (walk L room m _ (suc d) _ _ e' (go_come L inherited d p.cells moved c h q.0 q.1 room))))
      (λ b.
      rw (carry_on_pass publish s (dt date) m inherited d p moved (test ∙ b))
      (walk L room m inherited (suc d) p moved e' (pass_come L inherited d p.cells moved c h b)))

  -- ---- the date's own row

  module _ (L : ℕ) (room : T * n ≤ L) (cells : List ℕ) (long : length cells ≡ L) (are : CellsAre n T dt runO freshO cells) where
    run_is : (d : ℕ) → d < T → is_run_at n cells d ≡ runO d
    unfolding cell_o
    run_is d h = run_at n cells d (runO d) (cell_o 0 d) (cell_o_fits 0 d h) (are d 0 h places)

    old_entry : (d k : ℕ) → d < T → k < n → row_at n cells d k ≡ code_if (runO d) (cell_o k d)
    unfolding cell_o
    old_entry d k h l = are d k h l

    -- what a date takes over is what is latest before it, carried forward
    over_from : (t d : ℕ) → d ≤ T → (k : ℕ) → k < n → inherited_from n cells (last_run s cells t d) k ≡ entry_of (carried (latest_o k t d))
    over_from t zero h k l = unfold last_run latest_o latest carried blank in refl
    over_from t (suc d) h k l =
        cases (eqb (dt d) t && runO d)
        (λ b.
        let p = (and-eq-true_iff (eqb (dt d) t) (runO d)).0 b in
        rw (last_here t d h b)
        (ap carried_entry (old_entry d k h l ∙ rw p.1) ∙ carry_entry (cell_o k d) (cell_o_fits k d h)
        ∙ ap (λ a. entry_of (carried a)) (here t d k p.0 p.1)))
        (λ b. rw (last_before t d h b) (over_from t d (omega arith) k l ∙ ap (λ a. entry_of (carried a)) (sym (before t d k b))))
      where
        test : (t d : ℕ) → d < T → follows s t cells d ≡ (eqb (dt d) t && runO d)
        test t d h = rw (row_is, types d h, run_is d h)

        last_here : (t d : ℕ) → d < T → (eqb (dt d) t && runO d) ≡ true → last_run s cells t (suc d) ≡ some d
        last_here t d h b = unfold last_run in rw (test t d h, b)

        last_before : (t d : ℕ) → d < T → (eqb (dt d) t && runO d) ≡ false → last_run s cells t (suc d) ≡ last_run s cells t d
        last_before t d h b = unfold last_run in rw (test t d h, b)

        here : (t d k : ℕ) → eqb (dt d) t ≡ true → runO d ≡ true → cell_o k d ≡ latest_o k t (suc d)
        here t d k q r =
            unfold cell_o latest_o in
            (cell_run dt (column_day runO freshO k) 0 d (freshO k d) (rw r) ∙ rw (eqb-true (dt d) t q)
            (sym (latest_run dt (column_day runO freshO k) t d (freshO k d) (rw r) q)))

        before : (t d k : ℕ) → (eqb (dt d) t && runO d) ≡ false → latest_o k t (suc d) ≡ latest_o k t d
        before t d k e =
            unfold latest_o in
            cases (eqb (dt d) t)
            (λ q. latest_not_run dt (column_day runO freshO k) t d (let z : runO d ≡ false = rw q at e in rw z))
            (λ q. latest_other_type dt (column_day runO freshO k) t d q)

    -- the date is run, with its new row
    module _ (datesAre : dates_of s ≡ T) (h : date < T) (ranN : runN date ≡ true) (new : ℕ → ℕ)
        (newIs : (k : ℕ) → k < n → new k ≡ row_entry date (freshN k date) (inherited_from n cells (last_run s cells (dt date) date) k)) where
      new_entry : (k : ℕ) → k < n → new k ≡ entry_of (cell_n k date)
      unfolding cell_n
      new_entry k l =
          newIs k l
          ∙ row_entry_lem date (freshN k date) (latest_n k (dt date) date) _
          (over_from (dt date) date (omega arith) k l ∙ ap (λ a. entry_of (carried a)) (unfold latest_o latest_n in latest_before dt (column_day runO freshO k) (column_day runN freshN k) date (alike k) (dt date) date (omega arith)))
          ∙ ap entry_of (sym (unfold latest_n in cell_run dt (column_day runN freshN k) 0 date (freshN k date) (rw ranN)))

      -- a date not run counts as blank
      seen_is : (k : ℕ) → k < n → compared_entry (row_at n cells date k) ≡ entry_of (cell_o k date)
      unfolding compared_entry
      seen_is k l =
          cases (runO date)
          (λ r. rw (old_entry date k h l, r, ne_eqb (entry_of (cell_o k date)) 0 (entry_some (cell_o k date) (cell_o_fits k date h).no_shape)))
          (λ r. rw (old_entry date k h l, r) (ap entry_of (sym (unfold cell_o in cell_not_run dt (column_day runO freshO k) 0 date (rw r)))))

      row_differs : differing n (λ k. compared_entry (row_at n cells date k)) new ≡ moved_on date
      unfolding differing moved_on
      row_differs =
          sum_below_cong n _ _
          (λ k l. rw (seen_is k l, new_entry k l) (moved_entry_lem (cell_o k date) (cell_n k date) (cell_o_fits k date h) (cell_n_fits k date h)))

      earlier_same : (x k : ℕ) → x < date → cell_o k x ≡ cell_n k x
      unfolding cell_o cell_n
      earlier_same x k l =
          cell_alike dt (column_day runO freshO k) (column_day runN freshN k) date (alike k) x (λ (e : x ≡ date). omega arith)
          (latest_before dt (column_day runO freshO k) (column_day runN freshN k) date (alike k) (dt x) x (omega arith))

      row_come : Come L (λ k. carried_entry (new k)) (suc date) (put_row n date (tabulate n new) cells) (differing n (λ k. compared_entry (row_at n cells date k)) new)
      row_come =
          let row = tabulate n new in
          let size = length_tabulate n new in
          let fits : date * n + n ≤ length cells = rw long (omega (arith, mul-le-mul_right n h)) in
          record {
            past = omega arith;
            new_rows = λ x k l m.
                below_suc (λ y. row_at n (put_row n date row cells) y k ≡ code_if (runN y) (cell_n k y)) date
                (λ y w.
                row_kept n date row cells size fits y k (λ (e : y ≡ date). omega arith) m ∙ old_entry y k (omega arith) m
                ∙ rw (runAlike y (λ (e : y ≡ date). omega arith), earlier_same y k w))
                (row_put n date row cells size fits k m ∙ get_d_tabulate n new k m ∙ new_entry k m ∙ rw ranN)
                x l;
            old_rows = λ x k l m o. row_kept n date row cells size fits x k (λ (e : x ≡ date). omega arith) o ∙ old_entry x k m o;
            inherited_beyond = λ k l.
                ap carried_entry (new_entry k l) ∙ carry_entry (cell_n k date) (cell_n_fits k date h) ∙ ap (λ a. entry_of (carried a)) (latest_is k);
            so_far =
                row_differs
                ∙ sym (sum_below_suc date moved_on ∙ rw (sum_below_none date moved_on (λ x l. moved_none x (λ k m. earlier_same x k l))) (zero-add (moved_on date)));
            as_long = length_put_row n date row cells size fits ∙ long;
          }
        where
          latest_is : (k : ℕ) → cell_n k date ≡ latest_n k (dt date) (suc date)
          latest_is k =
              unfold cell_n latest_n in
              (cell_run dt (column_day runN freshN k) 0 date (freshN k date) (rw ranN)
              ∙ sym (latest_run dt (column_day runN freshN k) (dt date) date (freshN k date) (rw ranN) (eq-eqb (dt date) (dt date) refl)))

      ran_good : (days : List ℕ) → Good L (carry_on publish s (dt date) (T - suc date) (λ k. carried_entry (new k)) (suc date) (record { cells = put_row n date (tabulate n new) cells; days = days }) (differing n (λ k. compared_entry (row_at n cells date k)) new))
      ran_good days = walk L room (T - suc date) _ (suc date) _ _ (omega arith) row_come

      pub run_good : (days : List ℕ) → RunLeaves n T dt runO runN freshO freshN L (settled publish s new (as_published cells days) date)
      unfolding moved_on cell_o cell_n settled moved_by_row
      run_good days =
          let good = ran_good (kept_days s date (tabulate n new) (categories_of s) days) in
          rw (row_is, types date h, datesAre) (record { cells_are = good.cells_are; moved_is = good.moved_is; as_long = good.as_long })
