-- Which check decides a fill, and what its answer is.
use Prim.Native.Nat.{ℕ}
use mathlib.Core.Path.{◌≡◌, refl, sym, ap, ◌∙◌}
use mathlib.Core.Bool.{Bool, true, false, not, cond}
use mathlib.Core.List.{List}
use mathlib.Core.Logic.{◌≢◌}
use native.Mathlib.Omega.{arith}
use borrow.Author.Tests.{eqb-false}
use lib.Dec.{eqb}
use lib.ListN.{length, take}
use Rattle.metering.specs.Sum.{sum_below}
use Rattle.ledger.specs.Fill.{ShapeOf, of_category, of_opted_out, shape_category, may_fill, filled_values}
use Rattle.ledger.specs.Checks.{Verdict, fill_check}
use Rattle.ledger.specs.Ledger.{answer, left, filled_are}
use Rattle.ledger.specs.Store.{categories_of, periods_of, row_length, category_of, is_run_at}
use Rattle.ledger.specs.Calls.{cells_unready, cell_for, shape_for, weight_for, fill_verdict, fill_for, overwritten}
use Rattle.ledger.proofs.Choices.{check_passed}
use Rattle.ledger.proofs.Lists.{length_tabulate, front_is}
use Rattle.store.specs.declared.refusal.Check.{Check}
use Rattle.store.specs.Outcome.{number_of}
use Rattle.store.proofs.Refusals.{number_some, given_at, after_at}
use Rattle.store.specs.declared.column.Column.{Column}
use Rattle.store.specs.Column.{column_of}
use Rattle.reads.proofs.CheckLaws.{range_number, range_decides, range_leaves}
use Rattle.fill.specs.Asked.{fill_call}
use Rattle.fill.specs.Sharing.{weight_in}

not_not : (b : Bool) → not (not b) ≡ b
not_not true = refl
not_not false = refl

run_decides : (n rest : ℕ) (b : Bool) → n ≡ cond b 14 0 → (n ≡ 0 → ⊥) → n ≡ cond b 14 rest
run_decides n rest true e some = e
run_decides n rest false e some = absurd (some e)

run_leaves : (n rest : ℕ) (b : Bool) → ◌≡◌ {A = ℕ} 0 (cond b 14 0) → n ≡ rest → n ≡ cond b 14 rest
run_leaves n rest true z e = absurd (omega arith)
run_leaves n rest false z e = e

pub some_sum : (sum : ℕ) → ◌≡◌ {A = ℕ} 0 (cond (eqb sum 0) 17 0) → sum ≢ 0
some_sum sum z = eqb-false sum 0 (check_passed _ 16 0 (sym z)).0

-- ---- the answer

module _ (s cells : List ℕ) (shape : ShapeOf) (date advance : ℕ) (marks lent : List ℕ) where
  pub place_is : (fill_verdict s cells (fill_call shape date advance marks lent)).place ≡ 0
  unfolding fill_verdict
  place_is = refl

  pub by_unready : cells_unready s cells ≡ true → 1 ≡ (fill_verdict s cells (fill_call shape date advance marks lent)).number
  unfolding fill_verdict fill_check
  by_unready unready = rw unready

module _ (s cells : List ℕ) (category date advance : ℕ) (marks lent : List ℕ) where
  abbrev v : Verdict
  v = fill_verdict s cells (fill_call (of_category category) date advance marks lent)

  abbrev values : List ℕ
  values = fill_for s cells (fill_call (of_category category) date advance marks lent)

  -- 17, and 14 before it
  abbrev last : ℕ
  last = cond (not (may_fill (periods_of s) (weight_for s cells (fill_call (of_category category) date advance marks lent)))) 17 0

  abbrev rest : ℕ
  rest = cond (not (is_run_at (row_length s) cells date)) 14 last

  pub by_range : (check : Check) → number_of check ≡ range_number s cells (length marks) (length lent) date category → number_of check ≡ v.number
  unfolding fill_verdict fill_check shape_for shape_category
  by_range = range_decides s cells (length marks) (length lent) date category rest

  module _ (known : 0 ≡ range_number s cells (length marks) (length lent) date category) where
    -- the rest is the verdict's
    rest_is : (n : ℕ) → n ≡ rest → n ≡ v.number
    unfolding fill_verdict fill_check shape_for shape_category
    rest_is n is = is ∙ range_leaves s cells (length marks) (length lent) date category rest known

    pub by_run : (check : Check) → number_of check ≡ cond (not (is_run_at (row_length s) cells date)) 14 0 → number_of check ≡ v.number
    by_run check is = rest_is (number_of check) (run_decides (number_of check) last (not (is_run_at (row_length s) cells date)) is (number_some check))

    module _ (ran : ◌≡◌ {A = ℕ} 0 (cond (not (is_run_at (row_length s) cells date)) 14 0)) {column : Column} {sum : ℕ} (is : column ≡ column_of s category)
        (summed : sum ≡ sum_below column.periods (weight_in column cells date marks)) where
      weight_is : weight_in column cells date marks ≡ weight_for s cells (fill_call (of_category category) date advance marks lent)
      unfolding weight_for cell_for shape_for shape_category
      weight_is = rw is

      -- the code's 17 is the definition's
      last_is : cond (eqb sum 0) 17 0 ≡ last
      unfolding may_fill
      last_is = rw (not_not, ← weight_is, summed, is)

      pub by_sum : (n : ℕ) → n ≡ cond (eqb sum 0) 17 0 → n ≡ v.number
      by_sum n found = rest_is n (run_leaves n last (not (is_run_at (row_length s) cells date)) ran (found ∙ last_is))

      module _ (some : ◌≡◌ {A = ℕ} 0 (cond (eqb sum 0) 17 0)) (written : List ℕ) (w : written ≡ overwritten (filled_values column.periods (weight_in column cells date marks) advance) lent) where
        written_is : written ≡ overwritten values lent
        unfolding fill_for
        written_is = rw (weight_is, is) at w

        long : length values ≡ periods_of s
        unfolding fill_for filled_values
        long = length_tabulate (periods_of s) _

        pub filled_answers : filled_are (take (periods_of s) written) ≡ answer v (filled_are values)
        filled_answers = ap filled_are (front_is _ lent written (periods_of s) long written_is) ∙ given_at v (by_sum 0 some) _

        pub filled_written : written ≡ left v lent (overwritten values lent)
        filled_written = written_is ∙ after_at v (by_sum 0 some) lent (overwritten values lent)

-- ---- an opted-out meter's fill is that of the category found

module _ (s cells : List ℕ) (group quantity connection date advance : ℕ) (marks lent : List ℕ) where
  abbrev found : ShapeOf
  found = of_category (shape_category (category_of s) (categories_of s) (of_opted_out group quantity connection))

  pub same_verdict : fill_verdict s cells (fill_call (of_opted_out group quantity connection) date advance marks lent) ≡ fill_verdict s cells (fill_call found date advance marks lent)
  unfolding fill_verdict weight_for shape_for shape_category
  same_verdict = refl

  pub same_values : fill_for s cells (fill_call (of_opted_out group quantity connection) date advance marks lent) ≡ fill_for s cells (fill_call found date advance marks lent)
  unfolding fill_for weight_for shape_for shape_category
  same_values = refl
