-- What holds of a command's extent by its definition alone: its length, and that more bytes behind it change nothing.
use Prim.Native.Nat.{ℕ, zero, suc, ◌+◌, ◌-◌, ◌*◌, ◌≤◌, ◌<◌}
use mathlib.Core.Path.{◌≡◌, refl, sym, ◌∙◌}
use mathlib.Core.Bool.{Bool, true, false, cond}
use mathlib.Core.List.{List, ◌++◌}
use native.Mathlib.Omega.{arith}
use native.Mathlib.Nat.{pos_of_ne-zero}
use lib.ListN.{length, get_or, take, length-append, get_or-append}
use lib.Seq.{length-take-le, get_or-take}
use lib.Dec.{ltb, leb, eqb}
use borrow.Author.Tests.{ltb-true, ltb-false, leb-true, leb-false, eqb-true, eqb-false}
use borrow.Table.Steps.{cases}
use Rattle.input.specs.Form.{head_length, records_extent, command_extent, extent_of, command_length, is_overfull, Command}
use Rattle.input.specs.declared.extent.Extent.{Extent}
use Rattle.input.specs.declared.extent.Extent.TheVariants.{Whole, Cut, Bad}
use Rattle.input.proofs.Laws.{records_none, records_cut_last, records_next, records_bad, records_cut, differ, differ_bad, records_whole, extent_unknown, extent_cut, extent_records, extent_plain, extent_empty, extent_overfull, extent_room, head_of_reception, head_length_plain, head_length_records}

-- ---- a whole command

-- its length, and that all of it is there
abbrev Delimited : List ℕ → ℕ → Type 0
Delimited b k = (k ≡ command_length b) × (1 ≤ head_length (get_or b 0 0)) × (k ≤ length b)

delimited : (b : List ℕ) (k : ℕ) → command_extent (get_or b 0 0) b ≡ Whole k → Delimited b k
delimited b k e =
    let code = get_or b 0 0 in
    cases (eqb (head_length code) 0)
    (λ t. differ_bad (extent_unknown code b (eqb-true _ _ t)) e)
    (λ f.
    let known = eqb-false _ _ f in
    let some = pos_of_ne-zero known in
    cases (ltb (length b) (head_length code))
    (λ t. differ (extent_cut code b known (ltb-true _ _ t)) e)
    (λ g.
    let long = ltb-false _ _ g in
    cases (eqb code 20)
    (λ t.
    let reception = eqb-true _ _ t in
    let records = records_whole (get_or b 15 0) b 16 k (sym (extent_records code b known long reception) ∙ e) in
    (records.0 ∙ sym (head_length_records b reception), some, records.1))
    (λ h.
    let same : Whole (head_length code) ≡ Whole k = sym (extent_plain code b known long (eqb-false _ _ h)) ∙ e in
    let head : head_length code ≡ k = cc in
    (sym head ∙ sym (head_length_plain b (eqb-false _ _ h)), some, rw head at long))))

pub record WholeCommand (b : List ℕ) (x y : Bool) (k : ℕ) : Type 0 where
  pub some : 1 ≤ k
  pub there : k ≤ length b
  pub command : Command (take k b)
  pub room : is_overfull (get_or (take k b) 0 0) x y ≡ false

same_length : (b : List ℕ) (k : ℕ) → Delimited b k → command_length (take k b) ≡ k
unfolding command_length
same_length b k d =
    let some : 1 ≤ k = omega (arith, d.0, d.1) in
    cases (eqb (get_or b 0 0) 20)
    (λ t.
    let sixteen = head_of_reception (get_or b 0 0) (eqb-true _ _ t) in
    let fifteen : 15 < k = omega (arith, d.0, sixteen) in
    rw (get_or-take k b 0 0 some, get_or-take k b 15 0 fifteen) (sym d.0))
    (λ f. rw (get_or-take k b 0 0 some, f) (rw f at (sym d.0)))

whole_delimited : (b : List ℕ) (x y : Bool) (k : ℕ) → is_overfull (get_or b 0 0) x y ≡ false → Delimited b k → WholeCommand b x y k
unfolding command_length
whole_delimited b x y k room d =
    let some : 1 ≤ k = omega (arith, d.0, d.1) in
    let first = get_or-take k b 0 0 some in
    record {
      some = some;
      there = d.2;
      command = record { known = rw first d.1; whole = rw (same_length b k d, length-take-le k b d.2) (omega arith) };
      room = rw first room;
    }

pub whole_command : (b : List ℕ) (x y : Bool) (k : ℕ) → extent_of b x y ≡ Whole k → WholeCommand b x y k
whole_command b x y k e =
    cases (eqb (length b) 0)
    (λ t. differ (extent_empty b x y (eqb-true _ _ t)) e)
    (λ f.
    let some = eqb-false _ _ f in
    cases (is_overfull (get_or b 0 0) x y)
    (λ t. differ_bad (extent_overfull b x y some t) e)
    (λ g. whole_delimited b x y k g (delimited b k (sym (extent_room b x y some g) ∙ e))))

-- ---- more bytes behind it

-- a whole command stays, and so do bytes that are none
abbrev pub Stable : Extent → Extent → Type 0
Stable (Whole k) later = later ≡ Whole k
Stable Cut later = Unit {0}
Stable Bad later = later ≡ Bad

module _ (xs ys : List ℕ) where
  longer : length xs ≤ length (xs ++ ys)
  longer = rw (length-append xs ys) (omega arith)

  records_stable : (n at : ℕ) → Stable (records_extent n xs at) (records_extent n (xs ++ ys) at)
  records_stable zero at =
      cases (leb at (length xs))
      (λ t. rw (records_none xs at (leb-true _ _ t), records_none (xs ++ ys) at (omega (arith, leb-true at (length xs) t, longer))) refl)
      (λ f. rw (records_cut_last xs at 0 (omega arith) (leb-false _ _ f)) tt)
  records_stable (suc n) at =
      cases (ltb at (length xs))
      (λ t.
      let there = ltb-true at (length xs) t in
      let there' : at < length (xs ++ ys) = omega (arith, there, longer) in
      let same = get_or-append xs ys 0 at there in
      let less : suc n - 1 ≡ n = omega arith in
      cases (eqb (get_or xs at 0) 21)
      (λ m. rw (records_next xs at (suc n) (omega arith) there (eqb-true (get_or xs at 0) 21 m), records_next (xs ++ ys) at (suc n) (omega arith) there' (same ∙ eqb-true (get_or xs at 0) 21 m), less) (records_stable n (at + 8)))
      (λ m. rw (records_bad xs at (suc n) (omega arith) there (eqb-false (get_or xs at 0) 21 m), records_bad (xs ++ ys) at (suc n) (omega arith) there' (λ e. eqb-false (get_or xs at 0) 21 m (sym same ∙ e))) refl))
      (λ f. rw (records_cut xs at (suc n) (omega arith) (ltb-false at (length xs) f)) tt)

  command_stable : (code : ℕ) → Stable (command_extent code xs) (command_extent code (xs ++ ys))
  command_stable code =
      cases (eqb (head_length code) 0)
      (λ t. rw (extent_unknown code xs (eqb-true _ _ t), extent_unknown code (xs ++ ys) (eqb-true _ _ t)) refl)
      (λ f.
      let known = eqb-false _ _ f in
      cases (ltb (length xs) (head_length code))
      (λ t. rw (extent_cut code xs known (ltb-true _ _ t)) tt)
      (λ g.
      let long = ltb-false _ _ g in
      let long' : head_length code ≤ length (xs ++ ys) = omega (arith, long, longer) in
      cases (eqb code 20)
      (λ t.
      let reception = eqb-true _ _ t in
      let same = get_or-append xs ys 0 15 (omega (arith, long, head_of_reception _ reception)) in
      rw (extent_records code xs known long reception, extent_records code (xs ++ ys) known long' reception, same) (records_stable (get_or xs 15 0) 16))
      (λ h. rw (extent_plain code xs known long (eqb-false _ _ h), extent_plain code (xs ++ ys) known long' (eqb-false _ _ h)) refl)))

  pub extent_stable : (x y : Bool) → Stable (extent_of xs x y) (extent_of (xs ++ ys) x y)
  extent_stable x y =
      cases (eqb (length xs) 0)
      (λ t. rw (extent_empty xs x y (eqb-true _ _ t)) tt)
      (λ f.
      let some = eqb-false _ _ f in
      let some' : length (xs ++ ys) ≡ 0 → ⊥ = λ e. some (omega (arith, e, longer)) in
      let same = get_or-append xs ys 0 0 (pos_of_ne-zero some) in
      cases (is_overfull (get_or xs 0 0) x y)
      (λ t. rw (extent_overfull xs x y some t, extent_overfull (xs ++ ys) x y some' (rw same t)) refl)
      (λ g. rw (extent_room xs x y some g, extent_room (xs ++ ys) x y some' (rw same g), same) (command_stable (get_or xs 0 0))))

-- ---- a cut command is shorter than 2,056 bytes, which the longest has

no_cut : {P : Type 0} {k : ℕ} → Whole k ≡ Cut → P
no_cut e = cc

pub bad_no_cut : {P : Type 0} → Bad ≡ Cut → P
bad_no_cut e = cc

records_short : (n : ℕ) (b : List ℕ) (at : ℕ) → records_extent n b at ≡ Cut → length b < at + 8 * n
records_short zero b at e =
    cases (leb at (length b))
    (λ t. no_cut (sym (records_none b at (leb-true at (length b) t)) ∙ e))
    (λ f. let less = leb-false at (length b) f in omega arith)
records_short (suc n) b at e =
    cases (ltb at (length b))
    (λ t.
    let there = ltb-true at (length b) t in
    cases (eqb (get_or b at 0) 21)
    (λ m.
    let less : suc n - 1 ≡ n = omega arith in
    let next = rw less at (records_next b at (suc n) (omega arith) there (eqb-true (get_or b at 0) 21 m)) in
    let more = records_short n b (at + 8) (sym next ∙ e) in
    omega arith)
    (λ m. bad_no_cut (sym (records_bad b at (suc n) (omega arith) there (eqb-false (get_or b at 0) 21 m)) ∙ e)))
    (λ f. let less = ltb-false at (length b) f in omega arith)

either_most : (b : Bool) {x y : ℕ} → x ≤ 21 → y ≤ 21 → cond b x y ≤ 21
either_most true h k = h
either_most false h k = k

head_most : (code : ℕ) → head_length code ≤ 21
unfolding head_length
head_most code =
    either_most (eqb code 16) (omega arith)
    (either_most (eqb code 17) (omega arith)
    (either_most (eqb code 18) (omega arith)
    (either_most (eqb code 19) (omega arith)
    (either_most (eqb code 20) (omega arith)
    (either_most (eqb code 22) (omega arith)
    (either_most (eqb code 23) (omega arith)
    (either_most (eqb code 24) (omega arith) (omega arith))))))))

pub cut_short : (b : List ℕ) (x y : Bool) → get_or b 15 0 < 256 → extent_of b x y ≡ Cut → length b < 2056
cut_short b x y byte e =
    let code = get_or b 0 0 in
    cases (eqb (length b) 0)
    (λ t. let none = eqb-true (length b) 0 t in omega arith)
    (λ f.
    let some = eqb-false _ _ f in
    cases (is_overfull code x y)
    (λ t. bad_no_cut (sym (extent_overfull b x y some t) ∙ e))
    (λ g.
    let found = sym (extent_room b x y some g) ∙ e in
    cases (eqb (head_length code) 0)
    (λ t. bad_no_cut (sym (extent_unknown code b (eqb-true _ _ t)) ∙ found))
    (λ u.
    let known = eqb-false _ _ u in
    cases (ltb (length b) (head_length code))
    (λ t. let less = ltb-true (length b) (head_length code) t in omega (arith, head_most code))
    (λ l.
    let long = ltb-false (length b) (head_length code) l in
    cases (eqb code 20)
    (λ t. let short = records_short (get_or b 15 0) b 16 (sym (extent_records code b known long (eqb-true _ _ t)) ∙ found) in omega arith)
    (λ p. no_cut (sym (extent_plain code b known long (eqb-false _ _ p)) ∙ found))))))
