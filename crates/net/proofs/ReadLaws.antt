-- What a net read answers and leaves, where a check fails and where none does.
use Prim.Native.Nat.{ℕ, ◌≤◌, ◌<◌}
use Rattle.std.proofs.Common.{arith}
use mathlib.Core.Path.{◌≡◌, refl, sym, ap, ◌∙◌}
use mathlib.Core.Bool.{Bool, true, false, not, cond}
use mathlib.Core.List.{List}
use lib.IntN.{ℤ}
use lib.ListN.{length, take}
use Rattle.ledger.specs.Net.{active_import, active_export, side_of, Net}
use Rattle.ledger.specs.Checks.{Verdict, NetCall, may_net, net_check}
use Rattle.ledger.specs.Ledger.{answer, left, net_is}
use Rattle.ledger.specs.Sizes.{days_length}
use Rattle.ledger.specs.Store.{categories_of, dates_of, periods_of, row_length, settings_ready, is_run_at}
use Rattle.ledger.specs.Calls.{side_for, days_unready, net_verdict, net_of_sides, net_for, overwritten}
use Rattle.ledger.specs.Engine.{Every}
use Rattle.ledger.proofs.Lists.{length_tabulate, front_is}
use Rattle.ledger.proofs.Chosen.{every_at, chosen_below_lem}
use Rattle.store.specs.declared.column.Column.{Column}
use Rattle.store.specs.Column.{column_of}
use Rattle.store.specs.declared.refusal.Check.{Check}
use Rattle.store.specs.Outcome.{number_of}
use Rattle.store.proofs.DayLaws.{days_lent, rows_fit}
use Rattle.store.proofs.Refusals.{number_some, given_at, after_at}
use Rattle.reads.proofs.CheckLaws.{range_passed, range_reaches, range_number}
use Rattle.net.specs.Sides.{paired_with}
use Rattle.net.specs.Walk.{Among, InDays, MayWrite, NetWritten}

-- ---- members

side_low : (s : List ℕ) (all_groups : Bool) (quantity c : ℕ) → Every (λ b. b < categories_of s) (side_for s all_groups quantity c)
unfolding side_for side_of
side_low s all_groups quantity c = chosen_below_lem (categories_of s) _

-- those found are among the categories that there are
found_among : (s : List ℕ) (all_groups : Bool) (quantity c : ℕ) (found : List ℕ) → found ≡ side_for s all_groups quantity c → length found ≤ 64 → Among (categories_of s) found
found_among s all_groups quantity c found are few =
    record { few = few; each = λ i h. every_at (λ b. b < categories_of s) found i (rw are (side_low s all_groups quantity c)) h }

-- and their rows lie in days that are long enough
found_in_days : (s : List ℕ) (L date : ℕ) {found : List ℕ} → settings_ready s ≡ true → days_length (categories_of s) (dates_of s) ≤ L → date < dates_of s → Among (categories_of s) found →
    InDays L (dates_of s) date found
found_in_days s L date opened room a_date among =
    record { few = among.few; each = λ i h. rows_fit s _ date L opened room (among.each i h) a_date refl }

-- what is known where 1, 9 and 15 do not fail
pub in_range : (s cells : List ℕ) (numbers marks date category : ℕ) → 0 ≡ range_number s cells numbers marks date category →
    (date < dates_of s) × (category < categories_of s)
in_range s cells numbers marks date category passes =
    let ok = range_passed s cells numbers marks date category passes in (ok.1, ok.2)

-- all that is known where no check fails
pub may_write :
    (s cells days : List ℕ) (all_groups : Bool) (date category numbers marks : ℕ) {column : Column} {dates : ℕ} {imports exports : List ℕ} →
    column ≡ column_of s category → dates ≡ dates_of s → days_unready s days ≡ false → 0 ≡ range_number s cells numbers marks date category →
    imports ≡ side_for s all_groups active_import category → length imports ≤ 64 → exports ≡ side_for s all_groups active_export category → length exports ≤ 64 →
    MayWrite cells column (length days) dates date imports exports numbers marks
may_write s cells days all_groups date category numbers marks e t long z i few_i x few_x =
    let ok = range_passed s cells numbers marks date category z in
    let import-found = found_among s all_groups active_import category _ i few_i in
    let export-found = found_among s all_groups active_export category _ x few_x in
    let room = (days_lent s days refl long).1 in
    rw (e, t) (record {
      reaches = range_reaches s cells numbers marks date category refl z;
      import_days = found_in_days s (length days) date ok.0.opened room ok.1 import-found;
      export_days = found_in_days s (length days) date ok.0.opened room ok.1 export-found;
      imported = import-found;
      exported = export-found;
      numbers_long = ok.0.first_long;
      marks_long = ok.0.second_long;
    })

-- ---- the answer

-- a check that failed before the rest
before_rest : (n rest : ℕ) (short late out : Bool) → n ≡ cond short 1 (cond late 9 (cond out 15 0)) → (n ≡ 0 → ⊥) → n ≡ cond short 1 (cond late 9 (cond out 15 rest))
before_rest n rest true late out is fails = is
before_rest n rest false true out is fails = is
before_rest n rest false false true is fails = is
before_rest n rest false false false is fails = absurd (fails is)

the_rest : (rest : ℕ) (short late out : Bool) → cond {A = ℕ} short 1 (cond late 9 (cond out 15 0)) ≡ 0 → rest ≡ cond short 1 (cond late 9 (cond out 15 rest))
the_rest rest true late out is = absurd (omega arith)
the_rest rest false true out is = absurd (omega arith)
the_rest rest false false true is = absurd (omega arith)
the_rest rest false false false is = refl

module _ (s cells days : List ℕ) (a : NetCall) where
  abbrev v : Verdict
  v = net_verdict s cells days a

  abbrev net : Net
  net = net_for s cells days a

  -- 1, 9 and 15
  abbrev range : ℕ
  range = range_number s cells a.numbers a.marks a.date a.category

  pub place_is : v.place ≡ 0
  unfolding net_verdict
  place_is = refl

  pub by_days : days_unready s days ≡ true → 1 ≡ v.number
  unfolding net_verdict net_check
  by_days short = rw short

  pub by_range : (check : Check) → days_unready s days ≡ false → number_of check ≡ range → number_of check ≡ v.number
  unfolding net_verdict net_check
  by_range check long is = rw long (before_rest _ _ _ _ _ is (number_some check))

  -- 26 and 14
  pub by_pair : (n : ℕ) (exports : List ℕ) → days_unready s days ≡ false → 0 ≡ range → exports ≡ side_for s a.all_groups active_export a.category →
      n ≡ cond (not (paired_with s a.category (length exports))) 26 (cond (not (is_run_at (row_length s) cells a.date)) 14 0) → n ≡ v.number
  unfolding net_verdict net_check may_net side_for paired_with
  by_pair n exports long passes are is = is ∙ rw (long, are) (the_rest _ _ _ _ (sym passes))

  -- the lists and numbers of the net, at the front of the lists lent
  periods_long : length net.periods ≡ periods_of s
  unfolding net_for net_of_sides
  periods_long = length_tabulate (periods_of s) _

  marks_long : length net.marks ≡ periods_of s
  unfolding net_for net_of_sides
  marks_long = length_tabulate (periods_of s) _

  -- what the contract asks where no check fails
  abbrev pub Accepted : ℤ → ℤ → List ℤ → List ℤ → List ℕ → List ℕ → Type 0
  Accepted tot tot7 numbers numbers' marks marks' =
      (net_is (record { tot = tot; tot7 = tot7; periods = take (periods_of s) numbers'; marks = take (periods_of s) marks' }) ≡ answer v (net_is net))
      × (numbers' ≡ left v numbers (overwritten net.periods numbers))
      × (marks' ≡ left v marks (overwritten net.marks marks))

  pub accepts : {tot tot7 : ℤ} {numbers numbers' : List ℤ} {marks marks' : List ℕ} {imports exports : List ℕ} →
      0 ≡ v.number →
      imports ≡ side_for s a.all_groups active_import a.category →
      exports ≡ side_for s a.all_groups active_export a.category →
      NetWritten (net_of_sides s cells days imports exports a.date) tot tot7 numbers numbers' marks marks' →
      Accepted tot tot7 numbers numbers' marks marks'
  accepts {tot} {tot7} {numbers} {numbers'} {marks} {marks'} passes i e w =
      let written : NetWritten net tot tot7 numbers numbers' marks marks' = (unfold net_for in rw (i, e) at w) in
      let same : ◌≡◌ {A = Net} (record { tot = tot; tot7 = tot7; periods = take (periods_of s) numbers'; marks = take (periods_of s) marks' }) net =
      λ x.
      record {
        tot = written.day x;
        tot7 = written.week x;
        periods = front_is net.periods numbers numbers' (periods_of s) periods_long written.nets_are x;
        marks = front_is net.marks marks marks' (periods_of s) marks_long written.marks_are x;
      } in (
        ap net_is same ∙ given_at v passes _,
        written.nets_are ∙ after_at v passes _ _,
        written.marks_are ∙ after_at v passes _ _,
      )
