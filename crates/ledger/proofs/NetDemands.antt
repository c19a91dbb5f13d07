-- What is promised of net reads.
use Rattle.std.proofs.Common.{◌≡◌, ℕ, zero, suc, ◌<◌, ◌≤◌, Bool, true, false, cond, not, ◌||◌, eqb, ◌≢◌, ◌↔◌, List, [], ◌∷◌, ◌++◌, length, ℤ, pos, ◌+ℤ◌, ◌-ℤ◌, neg_ℤ, sym, refl, ap, ◌∙◌, ap₂, true≢false, add-zero, arith, length-append, eq-eqb, ne_eqb, eqb-true}
use mathlib.Core.Bool.{and-eq-true_iff, or-true}
use lib.IntN.{+ℤ_assoc, +ℤ_idl, +ℤ_idr}
use borrow.Table.Steps.{cases}
use borrow.Author.Tests.{eqb-false}
use Rattle.metering.specs.Sum.{sum_below}
use Rattle.ledger.specs.Method.{Category, is_smart, Flag, A, D, E, N, Cell, Fresh, absent, own, pooled, blank, carried, cell_from, Day, not_run, ran, cell_of, cell_on, tot_on, totals_on}
use Rattle.ledger.specs.Table.{tabulate, chosen_below}
use Rattle.ledger.specs.Net.{active_import, active_export, with_quantity, on_side, side_of, sum_over, any_of, signed_sum, is_n, net_period, mark_of, net_tot, net_on}
use Rattle.ledger.specs.Checks.{opening_check, may_net, net_check, totals_in_range}
use Rattle.ledger.specs.Ledger.{Opening, categories, dates, periods, category, Ledger, cell_by, cell_at, is_run, day_of, totals_at, ledger_net_check, side_at, net_at, ledger_answer}
use Rattle.ledger.specs.Engine.{Every}
use Rattle.ledger.specs.Demands.{SameKey, SameFamily, OnSide, SideExact, Paired, NetExact, OwnGroupPair, signed_total, NetTotIsSum, NetOfTotals, OwnGroupNetOfTotals, MarkExact, NothingNetsToZero, SidesExchanged}
use Rattle.ledger.proofs.FirstFailed.{finds_none, finds_row, goes_by}
use Rattle.ledger.proofs.CallDemands.{not_iff, date_iff, below_iff, net_lists_iff, ran_iff, keys_differ, family_iff}
use Rattle.ledger.proofs.Lists.{tabulate_at, get_d_tabulate, tabulate_ext, map_tabulate}
use Rattle.ledger.proofs.Chosen.{chosen_pass, chosen_none, any_of_append}
use Rattle.ledger.proofs.Nets.{sum_over_append, sum_over_one, tot_minus, tot7_minus, period_swapped, tot_swapped, tot7_swapped, mark_swapped}

-- ---- sides

pub sum_chosen : (n : ℕ) (test : ℕ → Bool) (f : ℕ → ℕ) → sum_over (chosen_below n test) f ≡ sum_below n (λ b. cond (test b) (f b) 0)
unfolding chosen_below sum_below
sum_chosen zero test f = (unfold sum_over in refl)
sum_chosen (suc n) test f =
    sum_over_append (chosen_below n test) (cond (test n) (n ∷ []) []) f
    ∙ rw (sum_chosen n test f) (cases (test n) (λ q. rw q (unfold sum_over in rw add-zero)) (λ q. rw q (unfold sum_over in refl)))

-- both halves of a test
module _ (all_groups : Bool) (quantity : ℕ) (a b : Category) where
  to_side : on_side all_groups quantity a b ≡ true → OnSide all_groups quantity a b
  unfolding on_side
  to_side e =
      let p = (and-eq-true_iff _ (all_groups || eqb a.group b.group)).0 e in
      let family = (family_iff (with_quantity quantity a) b).0 p.0 in
      record {
        smart = family.smart;
        same_quantity = sym family.same_quantity;
        same_domestic = sym family.same_domestic;
        same_connection = sym family.same_connection;
        same_group = λ own-group. sym (eqb-true _ _ (rw own-group at p.1));
      }

  from_side : OnSide all_groups quantity a b → on_side all_groups quantity a b ≡ true
  unfolding on_side
  from_side s =
      let family : SameFamily (with_quantity quantity a) b =
      record { smart = s.smart; same_domestic = sym s.same_domestic; same_quantity = sym s.same_quantity; same_connection = sym s.same_connection } in
      rw ((family_iff (with_quantity quantity a) b).1 family)
      (cases all_groups (λ q. rw q) (λ q. rw (q, eq-eqb a.group b.group (sym (s.same_group q)))))

pub side_exact : SideExact
unfolding side_at side_of
side_exact l all_groups quantity c = (λ f. sum_chosen (categories l.opening) _ f, λ a b. (to_side all_groups quantity a b, from_side all_groups quantity a b))

-- ---- sums

total_append : (xs ys : List ℤ) → signed_total (xs ++ ys) ≡ signed_total xs +ℤ signed_total ys
unfolding signed_total
total_append [] ys = sym (+ℤ_idl (signed_total ys))
total_append (x ∷ xs) ys = ap (λ t. x +ℤ t) (total_append xs ys) ∙ sym (+ℤ_assoc x (signed_total xs) (signed_total ys))

total_one : (x : ℤ) → signed_total (x ∷ []) ≡ x
unfolding signed_total
total_one x = +ℤ_idr x

total_tabulated : (n : ℕ) (f : ℕ → ℤ) → signed_sum n f ≡ signed_total (tabulate n f)
unfolding signed_sum tabulate
total_tabulated zero f = (unfold signed_total in refl)
total_tabulated (suc n) f =
    ap (λ t. t +ℤ f n) (total_tabulated n f)
    ∙ ap (λ t. signed_total (tabulate n f) +ℤ t) (sym (total_one (f n)))
    ∙ sym (total_append (tabulate n f) (f n ∷ []))

pub net_tot_is_sum : NetTotIsSum
unfolding net_at net_on net_tot
net_tot_is_sum l a = total_tabulated (periods l.opening) _

pub net_of_totals : NetOfTotals
unfolding net_at net_on totals_at totals_on tot_on
net_of_totals l a = (
  tot_minus (periods l.opening) (is_run l) (cell_at l) (side_at l a.all_groups active_import a.category) (side_at l a.all_groups active_export a.category) a.date,
  tot7_minus (periods l.opening) (is_run l) (cell_at l) (side_at l a.all_groups active_import a.category) (side_at l a.all_groups active_export a.category) a.date,
)

-- ---- the two lists exchanged

pub sides_exchanged : SidesExchanged
unfolding net_on
sides_exchanged periods is_run cell imports exports d = (
  tot_swapped periods is_run cell imports exports d,
  tot7_swapped periods is_run cell imports exports d,
  tabulate_ext periods _ _ (λ k l. period_swapped periods is_run cell imports exports d (suc k)) ∙ map_tabulate periods neg_ℤ _,
  tabulate_ext periods _ _ (λ k l. mark_swapped periods is_run cell imports exports d (suc k)),
  refl,
)

-- ---- marks

flag_n : (f : Flag) → is_n f ≡ true → f ≡ N
flag_n A e = absurd (true≢false (sym e))
flag_n D e = absurd (true≢false (sym e))
flag_n E e = absurd (true≢false (sym e))
flag_n N e = refl

n_flag : (f : Flag) → f ≡ N → is_n f ≡ true
n_flag f e = rw e

none_of : (cs : List ℕ) (f : ℕ → Flag) → any_of cs (λ c. is_n (f c)) ≡ false → Every (λ c. f c ≢ N) cs
unfolding any_of
none_of [] f e = tt
none_of (c ∷ cs) f e =
    cases (is_n (f c))
    (λ q. absurd (true≢false (rw q at e)))
    (λ q. (λ n. true≢false (sym (n_flag (f c) n) ∙ q), none_of cs f (rw q at e)))

of_none : (cs : List ℕ) (f : ℕ → Flag) → Every (λ c. f c ≢ N) cs → any_of cs (λ c. is_n (f c)) ≡ false
unfolding any_of
of_none [] f all = refl
of_none (c ∷ cs) f all =
    cases (is_n (f c))
    (λ q. absurd (all.0 (flag_n (f c) q)))
    (λ q. rw q (of_none cs f all.1))

mark_zero : (b : Bool) → ◌≡◌ {A = ℕ} (cond b 1 0) 0 → b ≡ false
mark_zero true e = absurd (omega arith)
mark_zero false e = refl

mark_low : (b : Bool) → cond b 1 0 ≤ 1
mark_low true = omega arith
mark_low false = omega arith

pub mark_exact : MarkExact
unfolding net_at net_on mark_of
mark_exact l a k h =
    let summed = side_at l a.all_groups active_import a.category ++ side_at l a.all_groups active_export a.category in
    let flag : ℕ → Flag = λ c. (cell_at l a.date c (suc k)).flag in
    rw (get_d_tabulate (periods l.opening) _ k h) (
      (λ e. none_of summed flag (mark_zero (any_of summed (λ c. is_n (flag c))) e), λ all. rw (of_none summed flag all)),
      mark_low (any_of summed (λ c. is_n (flag c))),
    )

-- ---- nothing nets to zero

-- on the ledger a blank cell has value 0
carried_blank : (a : Cell) → (carried a).flag ≡ N → (carried a).value ≡ 0
unfolding carried blank
carried_blank a e =
    (elim a.flag as (λ f. a.flag ≡ f → (carried a).value ≡ 0) [
      | A ↦ λ q. absurd (let w : E ≡ N = rw q at e in let z : ◌≡◌ {A = ℕ} 0 1 = cc in omega arith)
      | D ↦ λ q. absurd (let w : E ≡ N = rw q at e in let z : ◌≡◌ {A = ℕ} 0 1 = cc in omega arith)
      | E ↦ λ q. absurd (let w : E ≡ N = rw q at e in let z : ◌≡◌ {A = ℕ} 0 1 = cc in omega arith)
      | N ↦ λ q. rw q
    ]) refl

from_blank : (d : ℕ) (f : Fresh) (before : Cell) → (cell_from d f before).flag ≡ N → (cell_from d f before).value ≡ 0
unfolding cell_from
from_blank d absent before e = carried_blank before e
from_blank d (own v n r) before e = absurd (let z : ◌≡◌ {A = ℕ} 0 1 = cc in omega arith)
from_blank d (pooled v n r) before e = absurd (let z : ◌≡◌ {A = ℕ} 0 1 = cc in omega arith)

of_blank : (d : ℕ) (x : Day) (before : Cell) → (cell_of d x before).flag ≡ N → (cell_of d x before).value ≡ 0
unfolding cell_of
of_blank d not_run before e = (unfold blank in refl)
of_blank d (ran f) before e = from_blank d f before e

blank_value : (l : Ledger) (d c j : ℕ) → (cell_at l d c j).flag ≡ N → (cell_at l d c j).value ≡ 0
unfolding cell_at cell_by cell_on
blank_value l d c j e = of_blank d (day_of (category l.opening) c j (l.pictures d)) _ e

sum_blank : (cs : List ℕ) (f : ℕ → Cell) → ((c : ℕ) → (f c).flag ≡ N → (f c).value ≡ 0) → Every (λ c. (f c).flag ≡ N) cs → sum_over cs (λ c. (f c).value) ≡ 0
unfolding sum_over
sum_blank [] f value all = refl
sum_blank (c ∷ cs) f value all = rw (value c all.0, sum_blank cs f value all.1)

every_left : (P : ℕ → Type 0) (cs ds : List ℕ) → Every P (cs ++ ds) → Every P cs
every_left P [] ds all = tt
every_left P (c ∷ cs) ds all = (all.0, every_left P cs ds all.1)

every_right : (P : ℕ → Type 0) (cs ds : List ℕ) → Every P (cs ++ ds) → Every P ds
every_right P [] ds all = all
every_right P (c ∷ cs) ds all = every_right P cs ds all.1

-- one of some is enough
some_blank : (cs : List ℕ) (f : ℕ → Flag) → length cs ≢ 0 → Every (λ c. f c ≡ N) cs → any_of cs (λ c. is_n (f c)) ≡ true
unfolding any_of
some_blank [] f some all = absurd (some refl)
some_blank (c ∷ cs) f some all = rw (n_flag (f c) all.0)

may_net_some : (cat : ℕ → Category) (C : ℕ) (all_groups : Bool) (c : ℕ) → may_net cat C all_groups c ≡ true →
    (is_smart (cat c) ≡ true) × ((cat c).quantity ≡ active_import) × (length (side_of cat C all_groups active_export c) ≢ 0)
unfolding may_net
may_net_some cat C all_groups c e =
    let p = (and-eq-true_iff _ (not (eqb (length (side_of cat C all_groups active_export c)) 0))).0 e in
    let q = (and-eq-true_iff (is_smart (cat c)) (eqb (cat c).quantity active_import)).0 p.0 in
    (q.0, eqb-true _ _ q.1, λ z. true≢false (sym p.1 ∙ rw (eq-eqb _ _ z)))

pub nothing_nets_to_zero : NothingNetsToZero
unfolding net_at net_on net_period mark_of
nothing_nets_to_zero l a k h may all =
    let imports = side_at l a.all_groups active_import a.category in
    let exports = side_at l a.all_groups active_export a.category in
    let cell : ℕ → Cell = λ c. cell_at l a.date c (suc k) in
    let blank_cell : (c : ℕ) → (cell c).flag ≡ N → (cell c).value ≡ 0 = λ c. blank_value l a.date c (suc k) in
    let left = sum_blank imports cell blank_cell (every_left _ imports exports all) in
    let right = sum_blank exports cell blank_cell (every_right _ imports exports all) in
    let some : length exports ≢ 0 = (unfold side_at in (may_net_some (category l.opening) (categories l.opening) a.all_groups a.category may).2) in
    let one : any_of (imports ++ exports) (λ c. is_n (cell c).flag) ≡ true =
    any_of_append imports exports (λ c. is_n (cell c).flag) ∙ rw (some_blank exports (λ c. (cell c).flag) some (every_right _ imports exports all), or-true) in (
      tabulate_at (periods l.opening) _ (pos 1) k h ∙ rw (left, right),
      get_d_tabulate (periods l.opening) _ k h ∙ rw one,
    )

-- ---- the first form: one category on each side

chosen_one : (n p : ℕ) (test : ℕ → Bool) → p < n → test p ≡ true → ((x : ℕ) → x < n → test x ≡ true → x ≡ p) → chosen_below n test ≡ p ∷ []
unfolding chosen_below
chosen_one zero p test h e alone = absurd (omega arith)
chosen_one (suc n) p test h e alone =
    cases (eqb p n)
    (λ q.
    let is = eqb-true p n q in
    rw (
      chosen_none n test (λ x l. cases (test x) (λ t. absurd (let w = alone x (omega arith) t in omega arith)) (λ t. t)),
      ← is,
      e,
    ))
    (λ q.
    let low : p < n = (let ne = eqb-false p n q in omega arith) in
    let out : test n ≡ false = cases (test n) (λ t. absurd (let w = alone n (omega arith) t in omega arith)) (λ t. t) in
    rw (chosen_one n p test low e (λ x l t. alone x (omega arith) t), out))

-- one of a list that is not empty
first_of : (P : ℕ → Type 0) (cs : List ℕ) → length cs ≢ 0 → Every P cs → (c : ℕ) × P c
first_of P [] some all = absurd (some refl)
first_of P (c ∷ cs) some all = (c, all.0)

module _ (o : Opening) (short : Bool) (ok : (opening_check o short).number ≡ 0) where
  -- two on one side of an own-group net are one
  one_on_side : (quantity c x y : ℕ) → x < categories o → y < categories o →
      OnSide false quantity (category o c) (category o x) → OnSide false quantity (category o c) (category o y) → x ≡ y
  one_on_side quantity c x y hx hy a b =
      let same : SameKey (category o x) (category o y) =
      record {
        segment = a.smart.1 ∙ sym b.smart.1;
        group = a.same_group refl ∙ sym (b.same_group refl);
        domestic = a.same_domestic ∙ sym b.same_domestic;
        quantity = a.same_quantity ∙ sym b.same_quantity;
        connection = a.same_connection ∙ sym b.same_connection;
      } in
      cases (eqb x y) (λ q. eqb-true x y q) (λ q. absurd (keys_differ o short ok x y hx hy (eqb-false x y q) same))

  side_of_one : (quantity c p : ℕ) → p < categories o → OnSide false quantity (category o c) (category o p) → side_of (category o) (categories o) false quantity c ≡ p ∷ []
  unfolding side_of
  side_of_one quantity c p h a =
      chosen_one (categories o) p _ h (from_side false quantity (category o c) (category o p) a)
      (λ x l t. one_on_side quantity c x p l h (to_side false quantity (category o c) (category o x) t) a)

pub own_group_pair : OwnGroupPair
unfolding side_at side_of is_smart
own_group_pair l short c ok h may =
    let o = l.opening in
    let facts = may_net_some (category o) (categories o) false c may in
    let smart : (category o c).segment ≡ 1 = eqb-true _ _ facts.0 in
    let found = first_of _ (side_of (category o) (categories o) false active_export c) facts.2 (chosen_pass (categories o) _) in
    let partner = to_side false active_export (category o c) (category o found.0) found.1.1 in
    let itself : OnSide false active_import (category o c) (category o c) =
    record { smart = (smart, smart); same_quantity = facts.1; same_domestic = refl; same_connection = refl; same_group = λ _. refl } in
    (found.0, found.1.0, partner, side_of_one o short ok active_import c c h itself, side_of_one o short ok active_export c found.0 found.1.0 partner)

pub own_group_net_of_totals : OwnGroupNetOfTotals
own_group_net_of_totals l short a ok form h may =
    let pair = own_group_pair l short a.category ok h may in
    let imports : side_at l a.all_groups active_import a.category ≡ a.category ∷ [] = rw form pair.3 in
    let exports : side_at l a.all_groups active_export a.category ≡ pair.0 ∷ [] = rw form pair.4 in
    let net = rw (imports, exports) at (net_of_totals l a) in (
      pair.0,
      pair.2,
      net.0 ∙ ap₂ (λ x y. pos x -ℤ pos y) (sum_over_one a.category _) (sum_over_one pair.0 _),
      net.1 ∙ ap₂ (λ x y. pos x -ℤ pos y) (sum_over_one a.category _) (sum_over_one pair.0 _),
    )

-- ---- which check fails first

chosen_some : (n : ℕ) (test : ℕ → Bool) (p : ℕ) → p < n → test p ≡ true → 0 < length (chosen_below n test)
unfolding chosen_below
chosen_some zero test p h e = absurd (omega arith)
chosen_some (suc n) test p h e =
    rw (length-append (chosen_below n test))
    (cases (test n)
    (λ q. rw q (omega arith))
    (λ q.
    let other : p ≢ n = λ is. true≢false (sym e ∙ rw is q) in
    let before = chosen_some n test p (omega arith) e in
    omega arith))

-- 26
net_iff : (o : Opening) (all_groups : Bool) (c : ℕ) → (may_net (category o) (categories o) all_groups c ≡ true) ↔ Paired o all_groups c
unfolding may_net side_of is_smart
net_iff o all_groups c = (
  λ e. let facts = may_net_some (category o) (categories o) all_groups c e in
      let found = first_of _ (side_of (category o) (categories o) all_groups active_export c) facts.2 (chosen_pass (categories o) _) in
      record {
        smart = eqb-true _ _ facts.0;
        imports = facts.1;
        partner = (found.0, found.1.0, to_side all_groups active_export (category o c) (category o found.0) found.1.1);
      },
  λ h. let p = h.partner in
      let one = chosen_some (categories o) (λ b. on_side all_groups active_export (category o c) (category o b)) p.0 p.1 (from_side all_groups active_export (category o c) (category o p.0) p.2) in
      rw (eq-eqb _ _ h.smart, eq-eqb _ _ h.imports, ne_eqb (length (side_of (category o) (categories o) all_groups active_export c)) 0 (λ z. omega arith)),
)

pub net_exact : NetExact
unfolding ledger_answer ledger_net_check net_check totals_in_range
net_exact l n a =
    goes_by (ledger_net_check l n a) _ refl
    (finds_row refl (net_lists_iff l.opening n a.numbers a.marks)
    (finds_row refl (date_iff (dates l.opening) a.date)
    (finds_row refl (not_iff _ (below_iff (categories l.opening) a.category))
    (finds_row refl (not_iff _ (net_iff l.opening a.all_groups a.category))
    (finds_row refl (not_iff _ (ran_iff l a.date))
    finds_none)))))
