-- The checks of a read: what holds where they pass, and which decides.
use Prim.Native.Nat.{ℕ, ◌≤◌, ◌<◌}
use mathlib.Core.Path.{◌≡◌, refl, sym}
use mathlib.Core.Bool.{Bool, true, false, not, ◌&&◌, ◌||◌, cond, and-eq-true_iff}
use mathlib.Core.List.{List}
use native.Mathlib.Omega.{arith}
use borrow.Author.Tests.{leb-true, leb-false, ltb-true, ltb-false, not-false}
use lib.Dec.{leb}
use Rattle.metering.specs.Range.{between}
use Rattle.ledger.specs.Checks.{run_check, range_check, read_check, totals_in_range, cell_in_range, lists_short}
use Rattle.ledger.specs.Store.{categories_of, dates_of, periods_of, settings_ready, cells_ready}
use Rattle.ledger.specs.Calls.{cells_unready, cell_verdict}
use Rattle.ledger.proofs.Choices.{check_passed, neither}
use Rattle.store.specs.declared.column.Column.{Column}
use Rattle.store.specs.Column.{column_of, Reaches}
use Rattle.store.specs.declared.refusal.Check.{Check}
use Rattle.store.specs.Outcome.{number_of}
use Rattle.store.proofs.Refusals.{number_some}
use Rattle.store.proofs.ColumnLaws.{column_reaches}

-- ---- what holds where the checks pass

pub record ReadAccepted (settings cells : List ℕ) (d c : ℕ) : Type 0 where
  pub opened : settings_ready settings ≡ true
  pub complete : cells_ready settings cells ≡ true
  pub date : d < dates_of settings
  pub category : c < categories_of settings

passed_both : (a b : Bool) → not (a && b) ≡ false → (a ≡ true) × (b ≡ true)
passed_both a b h = (and-eq-true_iff a b).0 (not-false (a && b) h)

module _ (settings cells : List ℕ) (d : ℕ) where
  pub date_passed :
      0 ≡ run_check (cells_unready settings cells) (dates_of settings) d →
      (settings_ready settings ≡ true) × (cells_ready settings cells ≡ true) × (d < dates_of settings)
  unfolding run_check cells_unready
  date_passed h =
      let p = check_passed _ 0 _ (sym h) in
      let q = check_passed _ 8 0 p.1 in
      let r = passed_both _ _ p.0 in
      (r.0, r.1, leb-false _ _ q.0)

  pub cell_passed :
      (c j : ℕ) → 0 ≡ (cell_verdict settings cells d c j).number → ReadAccepted settings cells d c × (1 ≤ j) × (j ≤ periods_of settings)
  unfolding cell_verdict read_check cells_unready cell_in_range between
  cell_passed c j h =
      let p = check_passed _ 0 _ (sym h) in
      let q = check_passed _ 8 _ p.1 in
      let t = check_passed _ 14 _ q.1 in
      let r = passed_both _ _ p.0 in
      let v = passed_both _ _ t.0 in
      let w = (and-eq-true_iff _ _).0 v.1 in (
        record {
          opened = r.0;
          complete = r.1;
          date = leb-false _ _ q.0;
          category = ltb-true _ _ v.0;
        },
        leb-true _ _ w.0,
        leb-true _ _ w.1,
      )

  pub passed_reaches : (c : ℕ) {column : Column} → column ≡ column_of settings c → ReadAccepted settings cells d c → Reaches cells column d
  passed_reaches c e p = rw e (column_reaches settings cells d c p.opened p.complete p.date p.category)

-- what holds of the parts and of the two lists where 1 is not given
pub record Long (settings cells : List ℕ) (first second : ℕ) : Type 0 where
  pub opened : settings_ready settings ≡ true
  pub complete : cells_ready settings cells ≡ true
  pub first_long : periods_of settings ≤ first
  pub second_long : periods_of settings ≤ second

module _ (settings cells : List ℕ) (first second : ℕ) where
  long : (cells_unready settings cells || lists_short (periods_of settings) first second) ≡ false → Long settings cells first second
  unfolding cells_unready lists_short
  long e =
      let both = neither _ _ e in
      let parts = passed_both _ _ both.0 in
      let lists = neither _ _ both.1 in
      record { opened = parts.0; complete = parts.1; first_long = ltb-false _ _ lists.0; second_long = ltb-false _ _ lists.1 }

  abbrev pub range_number : ℕ → ℕ → ℕ
  range_number date category =
      range_check (cells_unready settings cells || lists_short (periods_of settings) first second) (dates_of settings) date (totals_in_range (categories_of settings) category) 0

  pub range_passed : (date category : ℕ) → 0 ≡ range_number date category →
      Long settings cells first second × (date < dates_of settings) × (category < categories_of settings)
  unfolding totals_in_range
  range_passed date category e =
      let p1 = check_passed (cells_unready settings cells || lists_short (periods_of settings) first second) 0 _ (sym e) in
      let p9 = check_passed (leb (dates_of settings) date) 8 _ p1.1 in
      let p15 = check_passed _ 14 0 p9.1 in
      (long p1.0, leb-false _ _ p9.0, ltb-true _ _ (not-false _ p15.0))

  -- so the category's column reaches past the date's cells
  pub range_reaches : (date category : ℕ) {column : Column} → column ≡ column_of settings category → 0 ≡ range_number date category → Reaches cells column date
  range_reaches date category e z =
      let ok = range_passed date category z in
      rw e (column_reaches settings cells date category ok.0.opened ok.0.complete ok.1 ok.2)

-- ---- 1, 9 and 15 before other checks

decides : (n rest : ℕ) (a b c : Bool) → n ≡ cond a 1 (cond b 9 (cond c 15 0)) → (n ≡ 0 → ⊥) → n ≡ cond a 1 (cond b 9 (cond c 15 rest))
decides n rest true b c e some = e
decides n rest false true c e some = e
decides n rest false false true e some = e
decides n rest false false false e some = absurd (some e)

leaves : (rest : ℕ) (a b c : Bool) → ◌≡◌ {A = ℕ} 0 (cond a 1 (cond b 9 (cond c 15 0))) → rest ≡ cond a 1 (cond b 9 (cond c 15 rest))
leaves rest true b c z = absurd (omega arith)
leaves rest false true c z = absurd (omega arith)
leaves rest false false true z = absurd (omega arith)
leaves rest false false false z = refl

module _ (settings cells : List ℕ) (first second date category rest : ℕ) where
  abbrev pub range_then : ℕ
  range_then =
      range_check (cells_unready settings cells || lists_short (periods_of settings) first second) (dates_of settings) date (totals_in_range (categories_of settings) category) rest

  -- one of them decides where it fails
  pub range_decides : (check : Check) → number_of check ≡ range_number settings cells first second date category → number_of check ≡ range_then
  range_decides check is =
      decides (number_of check) rest (cells_unready settings cells || lists_short (periods_of settings) first second) (leb (dates_of settings) date) (not (totals_in_range (categories_of settings) category)) is (number_some check)

  -- and else the rest does
  pub range_leaves : 0 ≡ range_number settings cells first second date category → rest ≡ range_then
  range_leaves none =
      leaves rest (cells_unready settings cells || lists_short (periods_of settings) first second) (leb (dates_of settings) date) (not (totals_in_range (categories_of settings) category)) none
