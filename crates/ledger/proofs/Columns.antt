-- One column of cells, a category and period over the dates: what a changed date changes after it.
use Rattle.std.proofs.Common.{◌≡◌, ℕ, zero, suc, ◌+◌, ◌<◌, ◌≤◌, Bool, true, false, eqb, ◌≢◌, sym, refl, ◌∙◌, add-zero, add-suc, arith, eqb-true}
use borrow.Table.Steps.{cases}
use borrow.Author.Tests.{eqb-false}
use Rattle.ledger.specs.Method.{Fresh, Cell, blank, cell_from, Day, not_run, ran, after_date, latest, cell_of, cell_on}
use Rattle.ledger.specs.Store.{FitsEntry}
use Rattle.ledger.proofs.Entries.{FreshFits, blank_fits, cell_from_fits}

-- a date that is run or not, with its own shape if it is
abbrev pub day_if : Bool → Fresh → Day
day_if true f = ran f
day_if false f = not_run

module _ (day_type : ℕ → ℕ) (day : ℕ → Day) (t d : ℕ) where
  latest_suc : latest day_type day t (suc d) ≡ after_date d (day d) (eqb (day_type d) t) (latest day_type day t d)
  unfolding latest
  latest_suc = refl

  -- past a date of another type, or one not run
  pub latest_other_type : eqb (day_type d) t ≡ false → latest day_type day t (suc d) ≡ latest day_type day t d
  unfolding latest after_date
  latest_other_type e = (elim (day d) as (λ x. after_date d x (eqb (day_type d) t) (latest day_type day t d) ≡ latest day_type day t d) [ not_run ↦ refl | ran f ↦ rw e ])

  pub latest_not_run : day d ≡ not_run → latest day_type day t (suc d) ≡ latest day_type day t d
  unfolding latest after_date
  latest_not_run e = rw e

  pub latest_run : (f : Fresh) → day d ≡ ran f → eqb (day_type d) t ≡ true → latest day_type day t (suc d) ≡ cell_from d f (latest day_type day t d)
  unfolding latest after_date
  latest_run f e q = rw (e, q)

  -- a run date's own cell is what is latest right after it
  pub cell_run : (f : Fresh) → day d ≡ ran f → cell_on day_type day d ≡ cell_from d f (latest day_type day (day_type d) d)
  unfolding cell_on cell_of
  cell_run f e = rw e

  pub cell_not_run : day d ≡ not_run → cell_on day_type day d ≡ blank
  unfolding cell_on cell_of
  cell_not_run e = rw e

pass_fits : (d : ℕ) (f : Fresh) (r q : Bool) (before : Cell) → d < 1024 → FreshFits f → FitsEntry before → FitsEntry (after_date d (day_if r f) q before)
unfolding after_date
pass_fits d f true true before h s t = cell_from_fits d f before h s t
pass_fits d f true false before h s t = t
pass_fits d f false q before h s t = t

-- every cell of a column whose own shapes have room
module _ (day_type : ℕ → ℕ) (run : ℕ → Bool) (fresh : ℕ → Fresh) (small : (x : ℕ) → FreshFits (fresh x)) where
  pub latest_fits : (t d : ℕ) → d ≤ 1024 → FitsEntry (latest day_type (λ x. day_if (run x) (fresh x)) t d)
  unfolding latest
  latest_fits t zero h = blank_fits
  latest_fits t (suc d) h =
      pass_fits d (fresh d) (run d) (eqb (day_type d) t) (latest day_type (λ x. day_if (run x) (fresh x)) t d) (omega arith) (small d)
      (latest_fits t d (omega arith))

  pub cell_fits : (d : ℕ) → d < 1024 → FitsEntry (cell_on day_type (λ x. day_if (run x) (fresh x)) d)
  unfolding cell_on cell_of
  cell_fits d h =
      (elim (run d) as (λ b. FitsEntry (cell_of d (day_if b (fresh d)) (latest day_type (λ x. day_if (run x) (fresh x)) (day_type d) d))) [
        | true ↦ cell_from_fits d (fresh d) _ h (small d) (latest_fits (day_type d) d (omega arith))
        | false ↦ blank_fits
      ])

-- two columns that are alike but at one date
module _ (day_type : ℕ → ℕ) (old new : ℕ → Day) (date : ℕ) (alike : (x : ℕ) → x ≢ date → old x ≡ new x) where
  -- alike up to the date
  pub latest_before : (t d : ℕ) → d ≤ date → latest day_type old t d ≡ latest day_type new t d
  unfolding latest
  latest_before t zero h = refl
  latest_before t (suc d) h = rw (alike d (λ (e : d ≡ date). omega arith), latest_before t d (omega arith))

  -- alike for another day type
  pub latest_other : (t : ℕ) → eqb (day_type date) t ≡ false → (d : ℕ) → latest day_type old t d ≡ latest day_type new t d
  latest_other t other zero = unfold latest in refl
  latest_other t other (suc d) =
      cases (eqb d date)
      (λ q.
      let e = eqb-true d date q in
      let p : eqb (day_type d) t ≡ false = rw e other in
      latest_other_type day_type old t d p ∙ latest_other t other d ∙ sym (latest_other_type day_type new t d p))
      (λ q.
      latest_suc day_type old t d
      ∙ rw (alike d (eqb-false d date q), latest_other t other d) (sym (latest_suc day_type new t d)))

  -- alike from a date on where they meet again
  pub latest_after : (t d : ℕ) → date < d → latest day_type old t d ≡ latest day_type new t d → (k : ℕ) →
      latest day_type old t (d + k) ≡ latest day_type new t (d + k)
  latest_after t d h e zero = rw (add-zero d) e
  latest_after t d h e (suc k) =
      rw (add-suc d k)
      (latest_suc day_type old t (d + k)
      ∙ rw (alike (d + k) (λ (q : d + k ≡ date). omega arith), latest_after t d h e k) (sym (latest_suc day_type new t (d + k))))

  -- a date is alike where it is not the changed one and what is latest before it is alike
  pub cell_alike : (d : ℕ) → d ≢ date → latest day_type old (day_type d) d ≡ latest day_type new (day_type d) d → cell_on day_type old d ≡ cell_on day_type new d
  unfolding cell_on
  cell_alike d h e = rw (alike d h, e)
