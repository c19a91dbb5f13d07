-- The sums over slots that a run makes are the sums over the picture's entries, by induction on the meters; and what bounds them and their averages.
use Rattle.std.proofs.Common.{◌≡◌, ℕ, zero, suc, ◌+◌, ◌*◌, ◌<◌, ◌≤◌, Bool, true, false, cond, ◌&&◌, eqb, leb, List, [], ◌∷◌, ◌++◌, length, sym, refl, ap, ◌∙◌, zero-le, add-zero, add-suc, suc-add, zero-add, arith, leb-true}
use mathlib.Core.Bool.{and-eq-true_iff}
use mathlib.Core.Option.{Option, none, some}
use lib.Signed.{mag}
use Rattle.metering.specs.Sum.{sum_below}
use Rattle.metering.specs.Average.{average, remainder}
use Rattle.metering.proofs.Laws.{average_le, remainder_small}
use Rattle.ledger.specs.Method.{ReadingSet, Picture, watt_hours, present, total, is_enough}
use Rattle.ledger.proofs.Lists.{sum_below_cong, sum_below_none, sum_below_plus, sum_below_front, sum_below_one}
use Rattle.ledger.specs.Checks.{Registration, in_force}
use Rattle.ledger.specs.Ledger.{Opening, dates, periods, Meter, is_held, held_sets_of, picture_of}
use Rattle.ledger.specs.Store.{meters_of, periods_of, is_held_at, reading_at, registrations_at}
use Rattle.ledger.specs.Calls.{names, counts_for, tally}
use Rattle.ledger.proofs.Relation.{SoundPicture, SettingsAgree, MeterAt, MetersFrom, MetersAgree, HeldAt, HeldFrom, ReadingsAgree}

total_append : (measure : Option ℕ → ℕ) (chosen : ℕ → Bool) (a b : Picture) (j : ℕ) → total measure chosen (a ++ b) j ≡ total measure chosen a j + total measure chosen b j
unfolding total
total_append measure chosen [] b j = sym (zero-add (total measure chosen b j))
total_append measure chosen (e ∷ es) b j = let h = total_append measure chosen es b j in omega arith

present_le : (x : Option ℕ) → present x ≤ 1
present_le none = zero-le
present_le (some w) = omega arith

pub count_le : (chosen : ℕ → Bool) (p : Picture) (j : ℕ) → total present chosen p j ≤ length p
unfolding total
count_le chosen [] j = zero-le
count_le chosen (e ∷ es) j =
    let h = count_le chosen es j in
    let l = present_le (e.readings j) in
    (elim (chosen e.category) as (λ b. cond b (present (e.readings j)) 0 + total present chosen es j ≤ suc (length es)) [ true ↦ omega arith | false ↦ omega arith ])

wh_le : (x : Option ℕ) → watt_hours x < 4294967296 → watt_hours x ≤ present x * 4294967295
wh_le none h = zero-le
wh_le (some w) h = omega arith

pub sum_le : (C : ℕ) (chosen : ℕ → Bool) (p : Picture) (j : ℕ) → SoundPicture C p → total watt_hours chosen p j ≤ total present chosen p j * 4294967295
unfolding total
sum_le C chosen [] j s = zero-le
sum_le C chosen (e ∷ es) j s =
    let h = sum_le C chosen es j s.2 in
    let l = wh_le (e.readings j) (s.1 j) in
    (elim (chosen e.category) as (λ b. cond b (watt_hours (e.readings j)) 0 + total watt_hours chosen es j ≤ (cond b (present (e.readings j)) 0 + total present chosen es j) * 4294967295) [ true ↦ omega arith | false ↦ omega arith ])

-- a count that is enough is not 0, and an average of readings has 32 bits
pub enough_some : (n m : ℕ) → is_enough n m ≡ true → 1 ≤ n
unfolding is_enough
enough_some n m e = leb-true 1 n ((and-eq-true_iff (leb 1 n) (leb m n)).0 e).0

average_small : (s n : ℕ) → 1 ≤ n → s ≤ n * 4294967295 → average s n < 4294967296
average_small s n h l = omega (arith, average_le s n 4294967295 h l)

-- so an entry has room for an average over up to 1,024 readings
pub average_fits : (s n m : ℕ) → is_enough n m ≡ true → s ≤ n * 4294967295 → n ≤ 1024 →
    (average s n < 4294967296) × (1 ≤ n) × (n ≤ 1024) × (mag (remainder s n) < 512)
average_fits s n m e l few =
    let some = enough_some n m e in (average_small s n some l, some, few, omega (arith, remainder_small s n some))

-- over a family: the sum of its categories' sums
module _ (measure : Option ℕ → ℕ) (chosen : ℕ → Bool) (C j : ℕ) where
  split : (x y : ℕ) (q : Bool) → cond q (x + y) 0 ≡ cond q x 0 + cond q y 0
  split x y true = refl
  split x y false = refl

  nothing : (q : Bool) → ◌≡◌ {A = ℕ} (cond q 0 0) 0
  nothing true = refl
  nothing false = refl

  swap : (p q : Bool) (x : ℕ) → cond p (cond q x 0) 0 ≡ cond q (cond p x 0) 0
  swap true true x = refl
  swap true false x = refl
  swap false true x = refl
  swap false false x = refl

  pub family_total : (p : Picture) → SoundPicture C p → total measure chosen p j ≡ sum_below C (λ b. cond (chosen b) (total measure (eqb b) p j) 0)
  unfolding total
  family_total [] s = sym (sum_below_none C _ (λ b l. nothing (chosen b)))
  family_total (e ∷ es) s =
      sym
      (sum_below_cong C _ (λ b. cond (chosen b) (cond (eqb b e.category) (measure (e.readings j)) 0) 0 + cond (chosen b) (total measure (eqb b) es j) 0)
      (λ b l. split _ _ (chosen b))
      ∙ sum_below_plus C _ _
      ∙ rw (← (family_total es s.2))
      (ap (λ x. x + total measure chosen es j)
      (sum_below_cong C _ (λ b. cond (eqb b e.category) (cond (chosen b) (measure (e.readings j)) 0) 0) (λ b l. swap (chosen b) (eqb b e.category) (measure (e.readings j)))
      ∙ sum_below_one C e.category (λ b. cond (chosen b) (measure (e.readings j)) 0) s.0)))

-- ---- slots

module _ (o : Opening) (s meters readings : List ℕ) (agree : SettingsAgree o s) (date c j : ℕ) (h : date < dates o) (low : 1 ≤ j) (high : j ≤ periods o)
    (measure : Option ℕ → ℕ) where
  -- what slot i adds
  adds : ℕ → ℕ
  adds i = cond (counts_for s meters readings date c i) (measure (reading_at (meters_of s) (periods_of s) readings date i j)) 0

  adds_is : (i : ℕ) → adds i
      ≡ cond (is_held_at o.meters (periods o) readings date i && names c (in_force date (registrations_at o.meters meters i)))
      (measure (reading_at o.meters (periods o) readings date i j)) 0
  unfolding adds counts_for periods_of
  adds_is i = rw (agree.meters, agree.duration)

  free_adds : (i : ℕ) → is_held_at o.meters (periods o) readings date i ≡ false → adds i ≡ 0
  free_adds i e = adds_is i ∙ rw e

  meter_adds : (i : ℕ) (m : Meter) → MeterAt o.meters meters i m → HeldAt o readings i m →
      adds i ≡ total measure (eqb c) (held_sets_of (m.held date) (in_force date m.registrations)) j
  unfolding total
  meter_adds i m a b =
      adds_is i
      ∙ rw (b.marks date h, a.are)
      ((elim (m.held date) as (λ x. m.held date ≡ x →
      cond (is_held x && names c (in_force date m.registrations)) (measure (reading_at o.meters (periods o) readings date i j)) 0
      ≡ total measure (eqb c) (held_sets_of x (in_force date m.registrations)) j) [
        | none ↦ λ e. refl
        | some x ↦ λ e. rw (b.sets date x h e j low high) (of_set x (in_force date m.registrations))
      ]) refl)
    where
      of_set : (x : ReadingSet) (r : Option Registration) →
          cond (is_held (some x) && names c r) (measure (x j)) 0 ≡ total measure (eqb c) (held_sets_of (some x) r) j
      of_set x none = refl
      of_set x (some r) = sym (add-zero _)

  slots_add : (ms : List Meter) (i n : ℕ) → i + n ≡ o.meters → MetersFrom o.meters meters i ms → HeldFrom o readings i ms →
      sum_below n (λ k. adds (i + k)) ≡ total measure (eqb c) (picture_of date ms) j
  slots_add [] i n e a b =
      sum_below_none n _ (λ k l. free_adds (i + k) (b.1 (i + k) (omega arith) (omega arith) date h)) ∙ (unfold total picture_of in refl)
  slots_add (m ∷ ms) i zero e a b = absurd (let l = a.0 in omega arith)
  slots_add (m ∷ ms) i (suc n) e a b =
      sum_below_front n (λ k. adds (i + k))
      ∙ rw (add-zero i, meter_adds i m a.1 b.1)
      (ap (λ x. total measure (eqb c) (held_sets_of (m.held date) (in_force date m.registrations)) j + x)
      (sum_below_cong n _ (λ k. adds (suc i + k)) (λ k l. ap adds (add-suc i k ∙ sym (suc-add i k)))
      ∙ slots_add ms (suc i) n (suc-add i n ∙ sym (add-suc i n) ∙ e) a.2 b.2)
      ∙ sym (total_append measure (eqb c) (held_sets_of (m.held date) (in_force date m.registrations)) (picture_of date ms) j)
      ∙ (unfold picture_of in refl))

  -- s and n of a category
  pub tally_is : (known : List Meter) → MetersAgree o meters known → ReadingsAgree o readings known →
      tally s meters readings date measure c j ≡ total measure (eqb c) (picture_of date known) j
  unfolding tally adds
  tally_is known a b =
      rw agree.meters
      (sum_below_cong o.meters _ (λ k. adds (0 + k)) (λ k l. rw (zero-add k, ← agree.meters))
      ∙ slots_add known 0 o.meters (zero-add o.meters) a.slots b.slots)
