-- Demand 2 and the consequences of agreement.
use Rattle.std.proofs.Common.{◌≡◌, ℕ, zero, suc, ◌<◌, ◌≤◌, Bool, true, false, cond, not, ◌&&◌, eqb, leb, ◌≢◌, ◌⊎◌, ℤ, sym, refl, ap, ◌∙◌, subst, inl, inr, ⊎_elim, true≢false, arith, eq-eqb, ne_eqb, eqb-true}
use mathlib.Core.Path.{fun_ext}
use mathlib.Core.Bool.{and-eq-true_iff}
use mathlib.Core.Option.{Option, none, some}
use borrow.Table.Steps.{cases}
use borrow.Author.Tests.{lt-leb}
use Rattle.metering.specs.Average.{Rounded}
use Rattle.metering.proofs.Laws.{rounded_is}
use Rattle.ledger.specs.Method.{Category, Picture, watt_hours, present, total, is_enough, fresh_of, fresh_in, Fresh, absent, own, pooled, Cell, Flag, A, D, E, N, blank, own_cell, pooled_cell, is_own_cell, carried, cell_from, Day, not_run, ran, after_date, latest, cell_of, cell_on, same_cell, moved_cell}
use Rattle.ledger.specs.Checks.{verdict, run_check, read_check, totals_in_range, cell_in_range}
use Rattle.ledger.specs.Ledger.{categories, dates, periods, category, day_type, Ledger, read_cell, Answer, refused, moved, totals_are, coverage_is, cell_is, answer, Lengths, cells_short, days_short, any_short, at, cell_by, cell_at, day_of, is_picture, is_run, ledger_run_check, ledger_totals_check, ledger_coverage_check, coverage_at, ledger_cell_check, picture_of, after_run, moved_between, totals_at, ledger_answer}
use Rattle.ledger.specs.Demands.{RunIsMethod, NeverNotRun, SecondRunMovesNothing, SamePicturesSameCells, CopiesHaveOrigins, Averages, family_of, ShowsSum, SumsShown, MovedExact}
use Rattle.ledger.proofs.Lists.{sum_below_none}
use Rattle.ledger.proofs.Entries.{moved_same, unmoved, carried_not_own}
use Rattle.ledger.proofs.Columns.{latest_other_type}
use Rattle.ledger.proofs.Tallies.{enough_some}
use Rattle.ledger.proofs.FirstFailed.{answered}

-- ---- runs and reads

pub at_same : {A : Type 0} (d : ℕ) (v : A) (f : ℕ → A) → at d v f d ≡ v
unfolding at
at_same d v f = rw (eq-eqb d d refl)

pub at_other : {A : Type 0} (d : ℕ) (v : A) (f : ℕ → A) (x : ℕ) → x ≢ d → at d v f x ≡ f x
unfolding at
at_other d v f x n = rw (ne_eqb x d n)

-- dates of the day type looked for that are alike
pub latest_alike : (dt : ℕ → ℕ) (f g : ℕ → Day) (t d : ℕ) → ((x : ℕ) → x < d → dt x ≡ t → f x ≡ g x) → latest dt f t d ≡ latest dt g t d
unfolding latest
latest_alike dt f g t zero h = refl
latest_alike dt f g t (suc d) h =
    let before = latest_alike dt f g t d (λ x l. h x (omega arith)) in
    cases (eqb (dt d) t)
    (λ q. rw (h d (omega arith) (eqb-true (dt d) t q), before))
    (λ q. latest_other_type dt f t d q ∙ before ∙ sym (latest_other_type dt g t d q))

pub run_is_method : RunIsMethod
unfolding cell_at cell_by cell_on cell_of after_run
run_is_method l d c j =
    rw (at_same d (some (picture_of d l.known)) l.pictures)
    (ap (cell_from d (fresh_in (category l.opening) (picture_of d l.known) c j))
    (latest_alike (day_type l.opening) _ _ (day_type l.opening d) d
    (λ x h t. ap (day_of (category l.opening) c j) (at_other d (some (picture_of d l.known)) l.pictures x (λ (e : x ≡ d). omega arith)))))

no_14 : (s q r : Bool) (y : Answer) → y ≢ refused 14 0 → answer (verdict (cond s 1 (cond q 9 (cond (not r) 15 (cond (not true) 14 0))))) y ≢ refused 14 0
unfolding answer
no_14 true q r y n e = let z : ◌≡◌ {A = ℕ} 1 14 = cc in omega arith
no_14 false true r y n e = let z : ◌≡◌ {A = ℕ} 9 14 = cc in omega arith
no_14 false false false y n e = let z : ◌≡◌ {A = ℕ} 15 14 = cc in omega arith
no_14 false false true y n e = n e

pub never_not_run : NeverNotRun
unfolding ledger_answer ledger_cell_check ledger_totals_check ledger_coverage_check read_check
never_not_run l n d c j r = (
  rw r (no_14 (cells_short l.opening n) (leb (dates l.opening) d) (cell_in_range (categories l.opening) (periods l.opening) c j) (cell_is (cell_at l d c j)) (λ e. let z : ◌≡◌ {A = ℕ} 0 1 = cc in omega arith)),
  rw r (no_14 (days_short l.opening n) (leb (dates l.opening) d) (totals_in_range (categories l.opening) c) (totals_are (totals_at l d c)) (λ e. let z : ◌≡◌ {A = ℕ} 0 1 = cc in omega arith)),
  rw r (no_14 (days_short l.opening n) (leb (dates l.opening) d) (totals_in_range (categories l.opening) c) (coverage_is (coverage_at l d c)) (λ e. let z : ◌≡◌ {A = ℕ} 0 1 = cc in omega arith)),
)

-- ---- consequences

pub same_pictures_same_cells : SamePicturesSameCells
unfolding cell_at
same_pictures_same_cells l m o h d c j = rw (o, fun_ext h)

same_picture : (l : Ledger) (d x : ℕ) → (after_run l d).pictures x ≡ (after_run (after_run l d) d).pictures x
unfolding after_run at
same_picture l d x = cases (eqb x d) (λ q. rw q) (λ q. rw q)

still : (l : Ledger) (d : ℕ) → moved_between (after_run l d).opening (cell_at (after_run l d)) (cell_at (after_run (after_run l d) d)) ≡ 0
unfolding moved_between
still l d =
    sum_below_none (dates (after_run l d).opening) _
    (λ x a.
    sum_below_none (categories (after_run l d).opening) _
    (λ c b.
    sum_below_none (periods (after_run l d).opening) _
    (λ k e. rw (same_pictures_same_cells (after_run l d) (after_run (after_run l d) d) again (same_picture l d) x c (suc k)) (moved_same (cell_at (after_run (after_run l d) d) x c (suc k))))))
  where
    again : (after_run l d).opening ≡ (after_run (after_run l d) d).opening
    again = unfold after_run in refl

run_passes : (l : Ledger) (n : Lengths) (d : ℕ) → any_short l.opening n ≡ false → d < dates l.opening → (ledger_run_check (after_run l d) n d).number ≡ 0
unfolding ledger_run_check run_check after_run
run_passes l n d long h = rw (long, lt-leb (dates l.opening) d h)

pub second_run_moves_nothing : SecondRunMovesNothing
unfolding ledger_answer answer
second_run_moves_nothing l n d long h = rw (run_passes l n d long h) (ap moved (still l d))

-- where a cell that is not blank comes from: a run date before d, with its own shape
abbrev FromDate : (ℕ → Day) → ℕ → Cell → Type 0
FromDate day d a =
    (a.origin < d)
    × ((day a.origin ≡ ran (own a.value a.count a.remainder)) ⊎ (day a.origin ≡ ran (pooled a.value a.count a.remainder)))

abbrev From : (ℕ → Day) → ℕ → Cell → Flag → Type 0
From day d a A = FromDate day d a
From day d a D = FromDate day d a
From day d a E = FromDate day d a
From day d a N = Unit {0}

from_later : (day : ℕ → Day) (d : ℕ) (a : Cell) (f : Flag) → From day d a f → From day (suc d) a f
from_later day d a A h = (let p = h.0 in omega arith, h.1)
from_later day d a D h = (let p = h.0 in omega arith, h.1)
from_later day d a E h = (let p = h.0 in omega arith, h.1)
from_later day d a N h = tt

from_carried : (day : ℕ → Day) (d : ℕ) (a : Cell) → From day d a a.flag → From day d (carried a) (carried a).flag
unfolding carried blank
from_carried day d a h =
    (elim a.flag as (λ f. a.flag ≡ f → From day d a f → From day d (carried a) (carried a).flag) [
      | A ↦ λ e g. rw e g
      | D ↦ λ e g. rw e g
      | E ↦ λ e g. rw e g
      | N ↦ λ e g. rw e tt
    ]) refl h

from_cell : (day : ℕ → Day) (d : ℕ) (f : Fresh) (b : Cell) → day d ≡ ran f → From day d b b.flag → From day (suc d) (cell_from d f b) (cell_from d f b).flag
unfolding cell_from
from_cell day d absent b e h = from_later day d (carried b) (carried b).flag (from_carried day d b h)
from_cell day d (own v n r) b e h = (omega arith, inl e)
from_cell day d (pooled v n r) b e h = (omega arith, inr e)

from_latest : (dt : ℕ → ℕ) (day : ℕ → Day) (t d : ℕ) → From day d (latest dt day t d) (latest dt day t d).flag
unfolding latest blank after_date
from_latest dt day t zero = tt
from_latest dt day t (suc d) = past (day d) refl (from_latest dt day t d)
  where
    past : (x : Day) → day d ≡ x → From day d (latest dt day t d) (latest dt day t d).flag →
        From day (suc d) (after_date d x (eqb (dt d) t) (latest dt day t d)) (after_date d x (eqb (dt d) t) (latest dt day t d)).flag
    past not_run e h = from_later day d (latest dt day t d) (latest dt day t d).flag h
    past (ran f) e h =
        (elim (eqb (dt d) t) as (λ b. From day (suc d) (cond b (cell_from d f (latest dt day t d)) (latest dt day t d)) (cond b (cell_from d f (latest dt day t d)) (latest dt day t d)).flag) [
          | true ↦ from_cell day d f (latest dt day t d) e h
          | false ↦ from_later day d (latest dt day t d) (latest dt day t d).flag h
        ])

-- a column's copied cell
copied : (dt : ℕ → ℕ) (day : ℕ → Day) (d : ℕ) → (cell_on dt day d).flag ≡ E → FromDate day d (cell_on dt day d)
unfolding cell_on cell_of blank cell_from
copied dt day d e = go (day d) e
  where
    go : (x : Day) → (cell_of d x (latest dt day (dt d) d)).flag ≡ E → FromDate day d (cell_of d x (latest dt day (dt d) d))
    go not_run e = absurd (let z : ◌≡◌ {A = ℕ} 0 1 = cc in omega arith)
    go (ran absent) e = rw e at (from_carried day d (latest dt day (dt d) d) (from_latest dt day (dt d) d))
    go (ran (own v n r)) e = absurd (let z : ◌≡◌ {A = ℕ} 0 1 = cc in omega arith)
    go (ran (pooled v n r)) e = absurd (let z : ◌≡◌ {A = ℕ} 0 1 = cc in omega arith)

module _ (dt : ℕ → ℕ) (day : ℕ → Day) (x v n : ℕ) (r : ℤ) where
  own_on : day x ≡ ran (own v n r) → cell_on dt day x ≡ own_cell x v n r
  unfolding cell_on cell_of cell_from
  own_on q = rw q

  pooled_on : day x ≡ ran (pooled v n r) → cell_on dt day x ≡ pooled_cell x v n r
  unfolding cell_on cell_of cell_from
  pooled_on q = rw q

ran_run : (category_of : ℕ → Category) (c j : ℕ) (p : Option Picture) (f : Fresh) → day_of category_of c j p ≡ ran f → is_picture p ≡ true
ran_run category_of c j none f e = absurd (let z : ◌≡◌ {A = ℕ} 0 1 = cc in omega arith)
ran_run category_of c j (some p) f e = refl

pub copies_have_origins : CopiesHaveOrigins
unfolding cell_at cell_by is_run
copies_have_origins l d c j e =
    ⊎_elim
    (λ q.
    let a = own_on dt day _ _ _ _ q in
    (ran_run (category l.opening) c j (l.pictures (cell_on dt day d).origin) _ q, inl (ap (λ x. x.flag) a), ap (λ x. x.value) a, ap (λ x. x.count) a, ap (λ x. x.remainder) a, here.0))
    (λ q.
    let a = pooled_on dt day _ _ _ _ q in
    (ran_run (category l.opening) c j (l.pictures (cell_on dt day d).origin) _ q, inr (ap (λ x. x.flag) a), ap (λ x. x.value) a, ap (λ x. x.count) a, ap (λ x. x.remainder) a, here.0))
    here.1
  where
    dt : ℕ → ℕ
    dt = day_type l.opening

    day : ℕ → Day
    day x = day_of (category l.opening) c j (l.pictures x)

    here : FromDate day d (cell_on dt day d)
    here = copied dt day d e

-- ---- what rounding dropped

-- an own shape that a date's sums and counts give
abbrev Rounds : ℕ → ℕ → ℕ → ℕ → Fresh → Type 0
Rounds s n S K absent = Unit {0}
Rounds s n S K (own v k r) = (k ≡ n) × Rounded s k v r
Rounds s n S K (pooled v k r) = (k ≡ K) × Rounded S k v r

fresh_rounds : (smart : Bool) (m s n S K : ℕ) → Rounds s n S K (fresh_of smart m s n S K)
unfolding fresh_of
fresh_rounds smart m s n S K =
    cases (is_enough n m)
    (λ e. rw e (refl, (rounded_is s n _ _ (enough_some n m e)).1 (refl, refl)))
    (λ e.
    rw e
    (cases (smart && is_enough K m)
    (λ q. rw q (refl, (rounded_is S K _ _ (enough_some K m ((and-eq-true_iff smart (is_enough K m)).0 q).1)).1 (refl, refl)))
    (λ q. rw q tt)))

module _ (l : Ledger) (c j : ℕ) where
  abbrev day_in : Option Picture → Day
  day_in = day_of (category l.opening) c j

  abbrev DayRounds : Picture → Day → Type 0
  DayRounds p not_run = Unit {0}
  DayRounds p (ran f) =
      Rounds (total watt_hours (eqb c) p j) (total present (eqb c) p j) (total watt_hours (family_of l c) p j) (total present (family_of l c) p j) f

  day_rounds : (p : Picture) → DayRounds p (day_in (some p))
  unfolding fresh_in
  day_rounds p = fresh_rounds _ _ _ _ _ _

  module _ (d : ℕ) (a : Cell) where
    of_own : (q : Option Picture) → l.pictures d ≡ q → day_in q ≡ ran (own a.value a.count a.remainder) → Averages l d (eqb c) j a
    of_own none is e = absurd (let z : ◌≡◌ {A = ℕ} 0 1 = cc in omega arith)
    of_own (some p) is e =
        let x = subst (DayRounds p) e (day_rounds p) in
        record { picture = p; is_picture = is; counts = x.0; rounds = x.1 }

    of_pooled : (q : Option Picture) → l.pictures d ≡ q → day_in q ≡ ran (pooled a.value a.count a.remainder) → Averages l d (family_of l c) j a
    of_pooled none is e = absurd (let z : ◌≡◌ {A = ℕ} 0 1 = cc in omega arith)
    of_pooled (some p) is e =
        let x = subst (DayRounds p) e (day_rounds p) in
        record { picture = p; is_picture = is; counts = x.0; rounds = x.1 }

not_own : (a : Cell) → is_own_cell a ≡ false → (a.flag ≢ A) × (a.flag ≢ D)
unfolding is_own_cell
not_own a h = (λ e. true≢false (rw e at h), λ e. true≢false (rw e at h))

-- a cell that is A or D is its date's own shape
own_flagged : (d : ℕ) (x : Day) (before : Cell) → let a = cell_of d x before in
    (a.flag ≡ A → x ≡ ran (own a.value a.count a.remainder)) × (a.flag ≡ D → x ≡ ran (pooled a.value a.count a.remainder))
unfolding cell_of cell_from blank
own_flagged d not_run before = (λ e. absurd (let z : ◌≡◌ {A = ℕ} 0 1 = cc in omega arith), λ e. absurd (let z : ◌≡◌ {A = ℕ} 0 1 = cc in omega arith))
own_flagged d (ran absent) before = let n = not_own (carried before) (carried_not_own before) in (λ e. absurd (n.0 e), λ e. absurd (n.1 e))
own_flagged d (ran (own v n r)) before = (λ e. refl, λ e. absurd (let z : ◌≡◌ {A = ℕ} 0 1 = cc in omega arith))
own_flagged d (ran (pooled v n r)) before = (λ e. absurd (let z : ◌≡◌ {A = ℕ} 0 1 = cc in omega arith), λ e. refl)

-- the cell that a read is answered with
cell_given : (l : Ledger) (n : Lengths) (d c j : ℕ) (given : Cell) → ledger_answer l n (read_cell d c j) ≡ cell_is given → given ≡ cell_at l d c j
unfolding ledger_answer
cell_given l n d c j given is =
    let same : cell_is (cell_at l d c j) ≡ cell_is given = (answered (ledger_cell_check l n d c j) _ (cell_is given) refl is).1 in cc

pub sums_shown : SumsShown
unfolding cell_at cell_by
sums_shown l d c j = (
  λ e. of_own l c j d a (l.pictures d) refl (here.0 e),
  λ e. of_pooled l c j d a (l.pictures d) refl (here.1 e),
  λ e.
      ⊎_elim
      (λ q. inl (ap (λ x. x.flag) (own_on dt day _ _ _ _ q), of_own l c j a.origin a (l.pictures a.origin) refl q))
      (λ q. inr (ap (λ x. x.flag) (pooled_on dt day _ _ _ _ q), of_pooled l c j a.origin a (l.pictures a.origin) refl q))
      (copied dt day d e).1,
)
  where
    dt : ℕ → ℕ
    dt = day_type l.opening

    day : ℕ → Day
    day x = day_in l c j (l.pictures x)

    a : Cell
    a = cell_on dt day d

    here : (a.flag ≡ A → day d ≡ ran (own a.value a.count a.remainder)) × (a.flag ≡ D → day d ≡ ran (pooled a.value a.count a.remainder))
    here = unfold cell_on in own_flagged d (day d) _

pub read_shows : (l : Ledger) (n : Lengths) (d c j : ℕ) (given : Cell) → ledger_answer l n (read_cell d c j) ≡ cell_is given → ShowsSum l d c j given
read_shows l n d c j given is = rw (cell_given l n d c j given is) (sums_shown l d c j)

-- ---- moved cells

moved_le : (a b : Cell) → moved_cell a b ≤ 1
unfolding moved_cell
moved_le a b = cases (same_cell a b) (λ q. rw q (omega arith)) (λ q. rw q (omega arith))

pub moved_exact : MovedExact
moved_exact a b = (
  (
    λ e. let same = unmoved a b e in rw same (refl, refl, refl, refl, refl),
    λ h.
        let same : a ≡ b =
        λ i. record { flag = h.0 i; value = h.1 i; count = h.2 i; origin = h.3 i; remainder = h.4 i } in
        rw same (moved_same b),
  ),
  moved_le a b,
)
