-- What is promised of coverage reads.
use Rattle.std.proofs.Common.{◌≡◌, ℕ, zero, suc, ◌<◌, ◌≤◌, eqb, leb, ◌≢◌, ◌⊎◌, sym, refl, ◌∙◌, inl, inr, ⊎_elim, arith, eqb-true, leb-false, leb-true}
use borrow.Table.Steps.{cases}
use borrow.Author.Tests.{eqb-false}
use Rattle.ledger.specs.Method.{absent, own, pooled, Flag, A, D, E, N, Cell, blank, cell_from, Day, not_run, ran, cell_of, cell_on, totals_on, Coverage, origin_of, oldest_among, coverage_on}
use Rattle.ledger.specs.Ledger.{dates, periods, category, Ledger, read_coverage, coverage_is, Lengths, day_of, cell_by, cell_at, totals_at, ledger_coverage_check, coverage_at, ledger_answer, ledger_after}
use Rattle.ledger.specs.Engine.{leaves}
use Rattle.ledger.specs.Demands.{Shaped, Covered, CoverageCounts, CoverageLeavesAll}
use Rattle.ledger.proofs.FirstFailed.{answered}
use Rattle.ledger.proofs.Entries.{origin_shaped, origin_blank}
use Rattle.ledger.proofs.Demands.{copies_have_origins}
use Rattle.ledger.proofs.CallDemands.{coverage_exact}
use Rattle.ledger.proofs.FigureDemands.{over_dates, carried_exact}

-- ---- origins

is_N : (f : Flag) → (f ≡ N) ⊎ (f ≢ N)
is_N A = inr (λ e. let z : ◌≡◌ {A = ℕ} 0 1 = cc in omega arith)
is_N D = inr (λ e. let z : ◌≡◌ {A = ℕ} 0 1 = cc in omega arith)
is_N E = inr (λ e. let z : ◌≡◌ {A = ℕ} 0 1 = cc in omega arith)
is_N N = inl refl

-- a cell that is not N is a copy, or its origin is the date
copied_or_own : (d : ℕ) (x : Day) (before : Cell) → (cell_of d x before).flag ≢ N → ((cell_of d x before).flag ≡ E) ⊎ ((cell_of d x before).origin ≡ d)
unfolding cell_of cell_from blank
copied_or_own d not_run before n = absurd (n refl)
copied_or_own d (ran absent) before n =
    ⊎_elim (λ q. absurd (n ((carried_exact before).1 q).flagged)) (λ q. inl ((carried_exact before).0 q).flagged) (is_N before.flag)
copied_or_own d (ran (own v k r)) before n = inr refl
copied_or_own d (ran (pooled v k r)) before n = inr refl

-- a copy's origin is before the date, so no origin is after it
origin_le : (l : Ledger) (d c j : ℕ) → (cell_at l d c j).flag ≢ N → (cell_at l d c j).origin ≤ d
unfolding cell_at cell_by cell_on
origin_le l d c j n =
    ⊎_elim
    (λ e. let low = (copies_have_origins l d c j e).5 in omega arith)
    (λ (e : (cell_at l d c j).origin ≡ d). omega arith)
    (copied_or_own d (day_of (category l.opening) c j (l.pictures d)) _ n)

-- ---- the oldest

module _ (cells : ℕ → Cell) where
  oldest_le : (n k : ℕ) → k < n → oldest_among n cells ≤ origin_of (cells k)
  unfolding oldest_among
  oldest_le zero k h = absurd (omega arith)
  oldest_le (suc n) k h =
      cases (eqb k n)
      (λ q. rw (eqb-true k n q) (omega arith))
      (λ q. let other = eqb-false k n q in let low = oldest_le n k (omega arith) in omega arith)

  -- a cell that is not N has it, or it is what an N cell counts for
  oldest_of : (n : ℕ) → ((k : ℕ) × (k < n) × ((cells k).flag ≢ N) × (origin_of (cells k) ≡ oldest_among n cells)) ⊎ (oldest_among n cells ≡ 65535)
  unfolding oldest_among
  oldest_of zero = inr refl
  oldest_of (suc n) =
      cases (leb (oldest_among n cells) (origin_of (cells n)))
      (λ q.
      let first = leb-true (oldest_among n cells) (origin_of (cells n)) q in
      ⊎_elim
      (λ found. let low = found.1 in let is = found.3 in inl (found.0, omega arith, found.2, omega arith))
      (λ (none : oldest_among n cells ≡ 65535). inr (omega arith))
      (oldest_of n))
      (λ q.
      let last = leb-false (oldest_among n cells) (origin_of (cells n)) q in
      ⊎_elim
      (λ f. let none = origin_blank (cells n) f in inr (omega arith))
      (λ f. inl (n, omega arith, f, omega arith))
      (is_N (cells n).flag))

module _ (l : Ledger) (d c : ℕ) where
  -- periods count from 1
  abbrev row : ℕ → Cell
  row k = cell_at l d c (suc k)

  abbrev oldest : ℕ
  oldest = oldest_among (periods l.opening) row

  none_before : (j : ℕ) → Shaped l d c j → oldest ≤ (cell_at l d c j).origin
  none_before zero s = absurd (let low = s.a_period.0 in omega arith)
  none_before (suc k) s =
      rw (← origin_shaped (row k) s.not_blank) (oldest_le row (periods l.opening) k s.a_period.1)

  -- no origin is as late as 65535, so that is the oldest only of cells that are all N
  one_has : d < 65535 → ((j : ℕ) × Shaped l d c j × ((cell_at l d c j).origin ≡ oldest)) ⊎ (((j : ℕ) → Shaped l d c j → ⊥) × (oldest ≡ 65535))
  one_has h =
      ⊎_elim
      (λ found.
      let k = found.0 in
      inl (suc k, record { a_period = (omega arith, found.1); not_blank = found.2 }, sym (origin_shaped (row k) found.2) ∙ found.3))
      (λ (none : oldest ≡ 65535).
      inr (λ j s. (let old = none_before j s in let low = origin_le l d c j s.not_blank in omega arith), none))
      (oldest_of row (periods l.opening))

pub coverage_counts : CoverageCounts
unfolding coverage_at coverage_on totals_at totals_on
coverage_counts l d c h =
    record {
      fresh_week = over_dates l 7 _ d;
      blank_week = over_dates l 7 _ d;
      fresh_year = over_dates l 365 _ d;
      blank_year = over_dates l 365 _ d;
      none_older = none_before l d c;
      one_as_old = one_has l d c h;
    }

-- ---- what a call answers

-- the coverage, where 9 does not refuse
coverage_given_lem : (l : Ledger) (n : Lengths) (d c : ℕ) (given : Coverage) → ledger_answer l n (read_coverage d c) ≡ coverage_is given →
    (d < dates l.opening) × (given ≡ coverage_at l d c)
unfolding ledger_answer
coverage_given_lem l n d c given is =
    let same : coverage_is (coverage_at l d c) ≡ coverage_is given = (answered (ledger_coverage_check l n d c) _ (coverage_is given) refl is).1 in
    (((coverage_exact l n d c).0.0 (is ∙ sym same)).1.0, cc)

-- dates that are few enough make d < 65535
pub coverage_covers : (l : Ledger) (n : Lengths) (d c : ℕ) (given : Coverage) → dates l.opening ≤ 65535 →
    ledger_answer l n (read_coverage d c) ≡ coverage_is given → Covered l d c given
coverage_covers l n d c given few is =
    let facts = coverage_given_lem l n d c given is in
    let date = facts.0 in
    rw facts.1 (coverage_counts l d c (omega arith))

-- ---- computed

pub coverage_leaves_all : CoverageLeavesAll
unfolding ledger_after leaves
coverage_leaves_all l n p d c = (refl, refl)
