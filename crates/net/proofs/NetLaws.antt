-- The sums that the code takes are those of the net.
use Prim.Native.Nat.{ℕ, suc, ◌+◌, ◌≤◌}
use mathlib.Core.Path.{◌≡◌, refl, sym, ◌∙◌}
use mathlib.Core.Bool.{cond}
use mathlib.Core.List.{List, [], ◌∷◌, ◌++◌}
use lib.ListN.{length}
use native.Mathlib.Omega.{arith}
use native.Mathlib.Nat.{zero-add}
use borrow.Table.Steps.{cases}
use borrow.Author.Tests.{ne_eqb}
use lib.Dec.{eqb}
use lib.IntN.{ℤ, pos, ◌-ℤ◌}
use Rattle.metering.specs.Sum.{sum_below}
use Rattle.ledger.specs.Method.{Flag, A, D, E, N, Cell, is_blank}
use Rattle.ledger.specs.Net.{sum_over, any_of, is_n, net_period, mark_of, net_tot}
use Rattle.ledger.specs.Store.{dates_of, row_length, totals_of}
use Rattle.ledger.specs.Calls.{totals_for, week_for, cell_for, net_of_sides}
use Rattle.ledger.proofs.Lists.{written_is}
use Rattle.ledger.proofs.Nets.{signed_minus, sum_over_append}
use Rattle.store.specs.declared.column.Column.{Column}
use Rattle.store.specs.Column.{column_of, beside, cell_in, run_in}
use Rattle.entries.specs.Sums.{Summed}
use Rattle.net.specs.Walk.{SummedOver, DayWritten, NetWritten, side_value, period_net, period_mark, week_tot, net_in}

-- ---- marks

blank_is : (f : Flag) → is_blank f ≡ cond (is_n f) 1 0
blank_is A = refl
blank_is D = refl
blank_is E = refl
blank_is N = refl

-- no cell is N where the number of those that are is 0
any_blank : (cs : List ℕ) (f : ℕ → Flag) → ◌≡◌ {A = ℕ} (cond (eqb (sum_over cs (λ c. is_blank (f c))) 0) 0 1) (cond (any_of cs (λ c. is_n (f c))) 1 0)
unfolding sum_over any_of
any_blank [] f = refl
any_blank (c ∷ cs) f =
    rw (blank_is (f c))
    (cases (is_n (f c))
    (λ q. rw (q, ne_eqb (1 + sum_over cs (λ x. is_blank (f x))) 0 (λ (z : 1 + sum_over cs (λ x. is_blank (f x)) ≡ 0). omega arith)))
    (λ q. rw (q, zero-add (sum_over cs (λ x. is_blank (f x)))) (any_blank cs f)))

-- ---- sums far below 2 ^ 63

pub day_small : {n r : ℕ} {f : ℕ → ℕ} → Summed n 274877906880 f r → n ≤ 96 → r ≤ 26388279060480
day_small s low = omega (arith, s.small)

pub week_small : {members : List ℕ} {r : ℕ} {f : ℕ → ℕ} → SummedOver members 281474976710655 f r → length members ≤ 64 → r ≤ 18014398509481920
week_small s low = omega (arith, s.small)

-- ---- the net of a date

module _ (cells : List ℕ) (column : Column) (d : ℕ) (imports exports : List ℕ) where
  abbrev cell : ℕ → ℕ → ℕ → Cell
  cell x c j = cell_in (beside column c) cells x j

  mark_is : (k : ℕ) → period_mark cells column d imports exports k ≡ mark_of column.periods (run_in column cells) cell imports exports d (suc k)
  unfolding mark_of
  mark_is k =
      rw (← (sum_over_append imports exports (λ c. is_blank (cell d c (suc k)).flag)))
      (any_blank (imports ++ exports) (λ c. (cell d c (suc k)).flag))

  net_is_lem : (k : ℕ) → period_net cells column d imports exports k ≡ net_period column.periods (run_in column cells) cell imports exports d (suc k)
  unfolding net_period
  net_is_lem k = refl

  day_is : (import export : ℕ) →
      import ≡ sum_below column.periods (side_value cells column d imports) →
      export ≡ sum_below column.periods (side_value cells column d exports) →
      pos import -ℤ pos export ≡ net_tot column.periods (run_in column cells) cell imports exports d
  unfolding net_tot net_period
  day_is import export i e = rw (i, e) (sym (signed_minus column.periods (side_value cells column d imports) (side_value cells column d exports)))

  -- so what was written and summed is the net
  pub net_written : (days : List ℕ) (dates : ℕ) {numbers numbers' : List ℤ} {marks marks' : List ℕ} {import export import-week export-week : ℕ} {tot tot7 : ℤ} →
      DayWritten cells column d imports exports numbers numbers' marks marks' import export →
      import-week ≡ sum_over imports (week_tot days dates d) →
      export-week ≡ sum_over exports (week_tot days dates d) →
      tot ≡ pos import -ℤ pos export →
      tot7 ≡ pos import-week -ℤ pos export-week →
      NetWritten (net_in column cells days dates imports exports d) tot tot7 numbers numbers' marks marks'
  net_written days dates day i e t t7 =
      record {
        day = t ∙ day_is _ _ day.imported.is day.exported.is;
        week = t7 ∙ rw (i, e);
        nets_are = written_is column.periods _ _ _ _ day.nets_are (λ k l. net_is_lem k);
        marks_are = written_is column.periods _ _ _ _ day.marks_are (λ k l. mark_is k);
      }

-- ---- the column that the settings name

pub net_asked : (s cells days : List ℕ) (c d : ℕ) {column : Column} {dates : ℕ} (imports exports : List ℕ) {tot tot7 : ℤ} {numbers numbers' : List ℤ} {marks marks' : List ℕ} →
    column ≡ column_of s c → dates ≡ dates_of s → NetWritten (net_in column cells days dates imports exports d) tot tot7 numbers numbers' marks marks' →
    NetWritten (net_of_sides s cells days imports exports d) tot tot7 numbers numbers' marks marks'
unfolding net_of_sides week_for totals_for totals_of row_length cell_for
net_asked s cells days c d imports exports e t w = rw (e, t) at w
