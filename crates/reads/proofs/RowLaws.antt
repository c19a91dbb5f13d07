-- A row: what holds where its checks pass, and that the stretch handed back is the definition's.
use Prim.Native.Nat.{ℕ, ◌+◌, ◌*◌, ◌≤◌, ◌<◌}
use mathlib.Core.Path.{◌≡◌, refl, sym}
use mathlib.Core.Logic.{◌≢◌}
use mathlib.Core.Bool.{true}
use mathlib.Core.List.{List}
use native.Mathlib.Omega.{arith}
use native.Mathlib.Nat.{suc-mul, mul-le-mul_left, mul-le-mul_right}
use borrow.Author.Tests.{leb-false, ltb-true, ltb-false, eq-eqb, ne_eqb, not-false}
use lib.ListN.{length, take, drop}
use Rattle.ledger.proofs.Ready.{ready, periods_bound, row_bounds}
use Rattle.ledger.specs.Checks.{read_check, totals_in_range, row_check}
use Rattle.ledger.specs.Store.{categories_of, dates_of, periods_of, row_length, settings_ready}
use Rattle.ledger.specs.Calls.{stretch, cells_unready, draft_unready, draft_start, published_start, row_verdict, row_for}
use Rattle.ledger.proofs.Choices.{check_passed}
use Rattle.store.proofs.ColumnLaws.{cells_lent}
use Rattle.store.proofs.RowLaws.{row_fits}
use Rattle.reads.specs.Row.{row_call}
use Rattle.reads.proofs.CheckLaws.{ReadAccepted}

-- where a row starts is far below 2 ^ 64
pub starts_small : (s : List ℕ) (d c : ℕ) → settings_ready s ≡ true → d < dates_of s → c < categories_of s → d * row_length s + draft_start s c < 18446744073709551616
unfolding draft_start
starts_small s d c opened hd hc =
    let known = ready s opened in
    let n = (row_bounds s known).1 in
    let p = (periods_bound s known).1 in
    let t = known.dates.1 in
    let q = known.categories.1 in
    omega (arith, mul-le-mul_right (row_length s) hd, mul-le-mul_left (dates_of s) n, mul-le-mul_right 6144 t, suc-mul d (row_length s), mul-le-mul_right (periods_of s) hc, suc-mul c (periods_of s), mul-le-mul_right (periods_of s) q)

module _ (s cells draft : List ℕ) (d c switch : ℕ) where
  pub place_is : (row_verdict s cells draft (row_call d c switch draft)).place ≡ 0
  unfolding row_verdict
  place_is = refl

  module _ (none : 0 ≡ (row_verdict s cells draft (row_call d c switch draft)).number) where
    passed : ReadAccepted s cells d c × (row_length s ≤ length draft)
    unfolding row_verdict row_check read_check totals_in_range draft_unready
    passed =
        let p1 = check_passed (cells_unready s cells) 0 _ (sym none) in
        let p18 = check_passed _ 17 _ p1.1 in
        let p9 = check_passed _ 8 _ p18.1 in
        let p15 = check_passed _ 14 _ p9.1 in
        let parts = cells_lent s cells refl p1.0 in
        (record { opened = parts.0; complete = parts.1; date = leb-false _ _ p9.0; category = ltb-true _ _ (not-false _ p15.0) }, ltb-false _ _ p18.0)

    pub row_accepted : ReadAccepted s cells d c
    row_accepted = passed.0

    -- a category's stretch lies within a date's
    within_row : draft_start s c + periods_of s ≤ row_length s
    unfolding draft_start row_length
    within_row = omega (arith, suc-mul c (periods_of s), mul-le-mul_right (periods_of s) row_accepted.category)

    pub within_cells : published_start s d c + periods_of s ≤ length cells
    unfolding published_start
    within_cells = omega (arith, within_row, row_fits s cells d row_accepted.complete row_accepted.date)

    pub within_draft : draft_start s c + periods_of s ≤ length draft
    within_draft = omega (arith, within_row, passed.1)

  pub published_row : (at w : ℕ) → at ≡ published_start s d c → w ≡ periods_of s → switch ≡ 0 → take w (drop at cells) ≡ row_for s cells draft (row_call d c switch draft)
  unfolding row_for stretch
  published_row at w start width published = rw (start, width, eq-eqb switch 0 published)

  pub draft_row : (at w : ℕ) → at ≡ draft_start s c → w ≡ periods_of s → switch ≢ 0 → take w (drop at draft) ≡ row_for s cells draft (row_call d c switch draft)
  unfolding row_for stretch
  draft_row at w start width drafted = rw (start, width, ne_eqb switch 0 drafted)
