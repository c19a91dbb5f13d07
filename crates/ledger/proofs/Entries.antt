-- A cell's entry: read what was put, tell two apart, carry forward. The encoding shows in the laws of the two leaves alone; all else goes through them.
use Rattle.std.proofs.Common.{◌≡◌, ℕ, suc, ◌+◌, ◌-◌, ◌*◌, ◌/◌, ◌%◌, ◌<◌, ◌≤◌, true, false, cond, eqb, ltb, ◌≢◌, ℤ, pos, negsuc, ◌-ℤ◌, sym, refl, ap, ◌∙◌, true≢false, arith, le-ltb, lt-ltb, eq-eqb, ne_eqb, eqb-true}
use lib.Arith.{digits_div, digits_mod}
use lib.Signed.{mag}
use borrow.Table.Steps.{cases}
use borrow.Author.Tests.{eqb-false}
use Rattle.ledger.specs.Method.{Flag, A, D, E, N, flag_number, Cell, is_blank, origin_of, blank, own_cell, pooled_cell, is_own_cell, carried, same_integer, same_cell, moved_cell, Fresh, absent, own, pooled, cell_from}
use Rattle.ledger.specs.Store.{remainder_bits, count_and_origin, entry_of, NothingElse, FitsEntry, flag_of, flag_number_of, cell_of_entry}
use Rattle.ledger.specs.Calls.{carried_entry, is_own, row_entry, moved_entry}
use Rattle.ledger.proofs.Ready.{both}

-- ---- the two leaves: read and put

flag_back : (f : Flag) → flag_of (flag_number f) ≡ f
flag_back A = refl
flag_back D = refl
flag_back E = refl
flag_back N = refl

number_back : (n : ℕ) → n < 4 → flag_number (flag_of n) ≡ n
number_back n h =
    cases (eqb n 1) (λ e. rw e (sym (eqb-true n 1 e)))
    (λ e.
    rw e
    (cases (eqb n 2) (λ f. rw f (sym (eqb-true n 2 f)))
    (λ f.
    rw f
    (cases (eqb n 3) (λ g. rw g (sym (eqb-true n 3 g)))
    (λ g. rw g (let a = eqb-false n 1 e in let b = eqb-false n 2 f in let c = eqb-false n 3 g in omega (arith, a, b, c)))))))

-- flag 0 is N, and no other is
pub flag_none : (e : ℕ) → flag_number_of e ≡ 0 → (cell_of_entry e).flag ≡ N
unfolding cell_of_entry
flag_none e z = rw z

pub flag_zero : (e : ℕ) → (cell_of_entry e).flag ≡ N → flag_number_of e ≡ 0
unfolding cell_of_entry flag_number_of
flag_zero e n = sym (number_back (e % 4) (omega arith)) ∙ ap flag_number n

-- the same of a flag
pub number_none : (f : Flag) → flag_number f ≡ 0 → f ≡ N
number_none f z = sym (flag_back f) ∙ ap flag_of z

pub number_some : (f : Flag) → flag_number f ≢ 0 → f ≢ N
number_some f some is = some (ap flag_number is)

-- a cell with a shape or without
shape_or_none : {P : Type 0} (a : Cell) → (a.flag ≢ N → P) → (a.flag ≡ N → P) → P
shape_or_none a shape none =
    cases (eqb (flag_number a.flag) 0)
    (λ e. none (number_none a.flag (eqb-true (flag_number a.flag) 0 e)))
    (λ e. shape (number_some a.flag (eqb-false (flag_number a.flag) 0 e)))

-- the entry of a shape with flag number k
abbrev shape_entry : ℕ → Cell → ℕ
shape_entry k a = k + (4 * (a.count - 1) + 4096 * a.origin) + 4194304 * remainder_bits a.remainder + 4294967296 * a.value

pub with_shape : (a : Cell) → a.flag ≢ N → (1 ≤ flag_number a.flag) × (flag_number a.flag ≤ 3) × (entry_of a ≡ shape_entry (flag_number a.flag) a)
unfolding entry_of count_and_origin
with_shape a shape =
    (elim a.flag as (λ f. a.flag ≡ f →
    (1 ≤ flag_number a.flag) × (flag_number a.flag ≤ 3) × (entry_of a ≡ shape_entry (flag_number a.flag) a)) [
      | A ↦ λ e. rw e (omega arith, omega arith, refl)
      | D ↦ λ e. rw e (omega arith, omega arith, refl)
      | E ↦ λ e. rw e (omega arith, omega arith, refl)
      | N ↦ λ e. absurd (shape e)
    ]) refl

pub without_shape : (a : Cell) → a.flag ≡ N → entry_of a ≡ 4194304 * remainder_bits a.remainder + 4294967296 * a.value
unfolding entry_of count_and_origin
without_shape a none = rw none (omega arith)

nothing_bits : (a : Cell) → NothingElse a → remainder_bits a.remainder ≡ 512
nothing_bits a nothing = rw nothing.2 (omega arith)

pub remainder_back : (r : ℤ) → mag r < 512 → (remainder_bits r < 1024) × (pos (remainder_bits r) -ℤ pos 512 ≡ r)
remainder_back (pos n) h = let same : 512 + n - 512 ≡ n = omega arith in (omega arith, rw (le-ltb (512 + n) 512 (omega arith), same))
remainder_back (negsuc n) h =
    let same : 512 - suc (511 - n) ≡ n = omega arith in (omega arith, rw (lt-ltb (511 - n) 512 (omega arith), same))

bits_small : (n : ℕ) → n < 1024 → mag (pos n -ℤ pos 512) < 512
bits_small n h = cases (ltb n 512) (λ q. rw q (omega arith)) (λ q. rw q (omega arith))

-- a field of 10 bits above a number that is below its unit
field_is : (unit low n above e : ℕ) → low < unit → n < 1024 → e ≡ (above * 1024 + n) * unit + low → e / unit % 1024 ≡ n
field_is unit low n above e h l is = rw (is, digits_div (above * 1024 + n) h) (digits_mod above l)

-- read what was put
pub cell_entry : (a : Cell) → FitsEntry a → cell_of_entry (entry_of a) ≡ a
unfolding cell_of_entry flag_number_of
cell_entry a fit = shape_or_none a shape none
  where
    shape : a.flag ≢ N → cell_of_entry (entry_of a) ≡ a
    shape some =
        let s = fit.shape some in
        let v = fit.value in
        let f = with_shape a some in
        let b = remainder_back a.remainder s.3 in
        let e = f.2 in
        let number : entry_of a % 4 ≡ flag_number a.flag = omega arith in
        let value : entry_of a / 4294967296 ≡ a.value = omega arith in
        let k = flag_number a.flag in
        let n = a.count - 1 in
        let bits = remainder_bits a.remainder in
        let count_bits : entry_of a / 4 % 1024 ≡ n = field_is 4 k n (a.origin + 1024 * bits + 1048576 * a.value) (entry_of a) (omega arith) (omega arith) (omega arith) in
        let count : entry_of a / 4 % 1024 + 1 ≡ a.count = omega arith in
        let origin : entry_of a / 4096 % 1024 ≡ a.origin = field_is 4096 (k + 4 * n) a.origin (bits + 1024 * a.value) (entry_of a) (omega arith) (omega arith) (omega arith) in
        let dropped : entry_of a / 4194304 % 1024 ≡ bits = field_is 4194304 (k + 4 * n + 4096 * a.origin) bits a.value (entry_of a) (omega arith) (omega arith) (omega arith) in
        rw (ne_eqb (entry_of a % 4) 0 (λ z. omega arith))
        (λ i.
        record {
          flag = (ap flag_of number ∙ flag_back a.flag) i;
          value = value i;
          count = count i;
          origin = origin i;
          remainder = (ap (λ (x : ℕ). pos x -ℤ pos 512) dropped ∙ b.1) i;
        })

    none : a.flag ≡ N → cell_of_entry (entry_of a) ≡ a
    none is =
        let n = fit.no_shape is in
        let v = fit.value in
        let e = without_shape a is in
        let b = nothing_bits a n in
        let number : entry_of a % 4 ≡ 0 = omega arith in
        let value : entry_of a / 4294967296 ≡ a.value = omega arith in
        rw number
        (λ i. record { flag = sym is i; value = value i; count = sym n.0 i; origin = sym n.1 i; remainder = sym n.2 i })

-- put what was read, of an entry that a put gave
pub entry_cell : (a : Cell) → FitsEntry a → entry_of (cell_of_entry (entry_of a)) ≡ entry_of a
entry_cell a fit = ap entry_of (cell_entry a fit)

pub remainder_fits : (a : Cell) → FitsEntry a → mag a.remainder < 512
remainder_fits a fit = shape_or_none a (λ some. (fit.shape some).3) (λ none. rw (fit.no_shape none).2 (omega arith))

-- every entry of 64 bits reads as a cell that it has room for, and that cell's entry has 64 bits
pub read_fits : (e : ℕ) → e < 18446744073709551616 → FitsEntry (cell_of_entry e)
unfolding cell_of_entry flag_number_of
read_fits e h =
    record {
      value = omega arith;
      shape =
          λ some.
          let b = bits_small (e / 4194304 % 1024) (omega arith) in
          rw (ne_eqb (e % 4) 0 (λ z. some (flag_none e z))) (omega arith, omega arith, omega arith, b);
      no_shape = λ none. rw (flag_zero e none) (refl, refl, refl);
    }

pub entry_bound : (a : Cell) → FitsEntry a → entry_of a < 18446744073709551616
entry_bound a fit =
    let v = fit.value in
    shape_or_none a
    (λ some.
    let s = fit.shape some in
    let f = with_shape a some in
    let b = remainder_back a.remainder s.3 in
    omega arith)
    (λ none. let e = without_shape a none in let b = nothing_bits a (fit.no_shape none) in omega arith)

-- no put gives 0, which says that a date is not run
pub entry_some : (a : Cell) → (a.flag ≡ N → NothingElse a) → entry_of a ≢ 0
entry_some a nothing z =
    shape_or_none a
    (λ some. let f = with_shape a some in omega arith)
    (λ none. let e = without_shape a none in let b = nothing_bits a (nothing none) in omega arith)

-- ---- telling two apart

entry_same : (a b : Cell) → FitsEntry a → FitsEntry b → entry_of a ≡ entry_of b → a ≡ b
entry_same a b s t e = sym (cell_entry a s) ∙ ap cell_of_entry e ∙ cell_entry b t

same_integer_refl : (r : ℤ) → same_integer r r ≡ true
same_integer_refl (pos n) = eq-eqb n n refl
same_integer_refl (negsuc n) = eq-eqb n n refl

same_integer_lem : (q r : ℤ) → same_integer q r ≡ true → q ≡ r
same_integer_lem (pos a) (pos b) h = ap pos (eqb-true a b h)
same_integer_lem (pos a) (negsuc b) h = absurd (true≢false (sym h))
same_integer_lem (negsuc a) (pos b) h = absurd (true≢false (sym h))
same_integer_lem (negsuc a) (negsuc b) h = ap negsuc (eqb-true a b h)

same_cell_refl : (a : Cell) → same_cell a a ≡ true
unfolding same_cell
same_cell_refl a =
    rw (eq-eqb (flag_number a.flag) (flag_number a.flag) refl, eq-eqb a.value a.value refl, eq-eqb a.count a.count refl, eq-eqb a.origin a.origin refl, same_integer_refl a.remainder)

same_equal : (a b : Cell) → same_cell a b ≡ true → a ≡ b
unfolding same_cell
same_equal a b h =
    let o = both _ _ h in
    let p = both _ _ o.0 in
    let q = both _ _ p.0 in
    let r = both _ _ q.0 in
    λ i.
    record {
      flag = (sym (flag_back a.flag) ∙ ap flag_of (eqb-true (flag_number a.flag) (flag_number b.flag) r.0) ∙ flag_back b.flag) i;
      value = eqb-true a.value b.value r.1 i;
      count = eqb-true a.count b.count q.1 i;
      origin = eqb-true a.origin b.origin p.1 i;
      remainder = same_integer_lem a.remainder b.remainder o.1 i;
    }

-- what tells two entries apart tells their cells apart
pub moved_entry_lem : (a b : Cell) → FitsEntry a → FitsEntry b → moved_entry (entry_of a) (entry_of b) ≡ moved_cell a b
unfolding moved_entry moved_cell
moved_entry_lem a b s t =
    cases (eqb (entry_of a) (entry_of b))
    (λ e. rw e (rw (entry_same a b s t (eqb-true _ _ e), same_cell_refl b)))
    (λ e. rw e (cases (same_cell a b) (λ q. absurd (eqb-false _ _ e (ap entry_of (same_equal a b q)))) (λ q. rw q)))

pub unmoved : (a b : Cell) → moved_cell a b ≡ 0 → a ≡ b
unfolding moved_cell
unmoved a b h =
    cases (same_cell a b) (λ q. same_equal a b q) (λ q. let z : ◌≡◌ {A = ℕ} 1 0 = rw q at h in absurd (omega arith))

pub moved_same : (a : Cell) → moved_cell a a ≡ 0
unfolding moved_cell
moved_same a = rw (same_cell_refl a)

-- ---- carrying forward

pub blank_fits : FitsEntry blank
unfolding blank
blank_fits = record { value = omega arith; shape = λ some. absurd (some refl); no_shape = λ none. (refl, refl, refl) }

pub carried_none : (a : Cell) → (carried a).flag ≡ N → NothingElse (carried a)
unfolding carried
carried_none a =
    (elim a.flag as (λ f. a.flag ≡ f → (carried a).flag ≡ N → NothingElse (carried a)) [
      | A ↦ λ e. rw e (λ none. absurd (let z = ap flag_number none in omega arith))
      | D ↦ λ e. rw e (λ none. absurd (let z = ap flag_number none in omega arith))
      | E ↦ λ e. rw e (λ none. absurd (let z = ap flag_number none in omega arith))
      | N ↦ λ e. rw e blank_fits.no_shape
    ]) refl

-- a cell under a flag that is not N
pub shape_fits : (f : Flag) (v n d : ℕ) (r : ℤ) → 1 ≤ flag_number f → v < 4294967296 → (1 ≤ n) × (n ≤ 1024) × (d < 1024) × (mag r < 512) →
    FitsEntry (record { flag = f; value = v; count = n; origin = d; remainder = r })
shape_fits f v n d r some value s =
    record { value = value; shape = λ x. s; no_shape = λ none. absurd (let z = ap flag_number none in omega arith) }

pub carried_fits : (a : Cell) → FitsEntry a → FitsEntry (carried a)
unfolding carried
carried_fits a s =
    (elim a.flag as (λ f. a.flag ≡ f → FitsEntry (carried a)) [
      | A ↦ λ e. rw e (copy (λ n. let z = ap flag_number (sym e ∙ n) in omega arith))
      | D ↦ λ e. rw e (copy (λ n. let z = ap flag_number (sym e ∙ n) in omega arith))
      | E ↦ λ e. rw e (copy (λ n. let z = ap flag_number (sym e ∙ n) in omega arith))
      | N ↦ λ e. rw e blank_fits
    ]) refl
  where
    copy : a.flag ≢ N → FitsEntry (record { flag = E; value = a.value; count = a.count; origin = a.origin; remainder = a.remainder })
    copy some = shape_fits E a.value a.count a.origin a.remainder (omega arith) s.value (s.shape some)

carried_carried : (a : Cell) → carried (carried a) ≡ carried a
unfolding carried blank
carried_carried a =
    (elim a.flag as (λ f. a.flag ≡ f → carried (carried a) ≡ carried a) [ A ↦ λ e. rw e | D ↦ λ e. rw e | E ↦ λ e. rw e | N ↦ λ e. rw e ]) refl

-- an entry carried forward is the entry of the cell carried forward
pub carry_entry : (a : Cell) → FitsEntry a → carried_entry (entry_of a) ≡ entry_of (carried a)
unfolding carried_entry
carry_entry a s = ap (λ x. entry_of (carried x)) (cell_entry a s)

-- ---- origins

pub origin_shaped : (a : Cell) → a.flag ≢ N → origin_of a ≡ a.origin
unfolding origin_of
origin_shaped a n =
    (elim a.flag as (λ f. a.flag ≡ f → origin_of a ≡ a.origin) [ A ↦ λ q. rw q | D ↦ λ q. rw q | E ↦ λ q. rw q | N ↦ λ q. absurd (n q) ]) refl

pub origin_blank : (a : Cell) → a.flag ≡ N → origin_of a ≡ 65535
unfolding origin_of
origin_blank a q = rw q

-- the flag by what it counts for
pub blank_is_N : (f : Flag) → is_blank f ≡ 1 → f ≡ N
blank_is_N A e = absurd (omega arith)
blank_is_N D e = absurd (omega arith)
blank_is_N E e = absurd (omega arith)
blank_is_N N e = refl

pub shape_not_blank : (f : Flag) → f ≢ N → is_blank f ≡ 0
shape_not_blank A n = refl
shape_not_blank D n = refl
shape_not_blank E n = refl
shape_not_blank N n = absurd (n refl)

-- ---- own shapes

-- what an entry has room for, of a date's own shape
abbrev pub FreshFits : Fresh → Type 0
FreshFits absent = Unit {0}
FreshFits (own v n r) = (v < 4294967296) × (1 ≤ n) × (n ≤ 1024) × (mag r < 512)
FreshFits (pooled v n r) = (v < 4294967296) × (1 ≤ n) × (n ≤ 1024) × (mag r < 512)

pub cell_from_fits : (d : ℕ) (f : Fresh) (b : Cell) → d < 1024 → FreshFits f → FitsEntry b → FitsEntry (cell_from d f b)
unfolding cell_from
cell_from_fits d absent b h s t = carried_fits b t
cell_from_fits d (own v n r) b h s t = shape_fits A v n d r (omega arith) s.0 (s.1, s.2, h, s.3)
cell_from_fits d (pooled v n r) b h s t = shape_fits D v n d r (omega arith) s.0 (s.1, s.2, h, s.3)

-- the date's row: its own shape, or what it takes over
pub row_entry_lem : (d : ℕ) (f : Fresh) (b : Cell) (inherited : ℕ) → inherited ≡ entry_of (carried b) → row_entry d f inherited ≡ entry_of (cell_from d f b)
unfolding cell_from
row_entry_lem d absent b inherited e = e
row_entry_lem d (own v n r) b inherited e = refl
row_entry_lem d (pooled v n r) b inherited e = refl

-- an entry is a date's own where its cell is
own_entry : (a : Cell) → FitsEntry a → is_own (entry_of a) ≡ is_own_cell a
unfolding is_own
own_entry a s = ap is_own_cell (cell_entry a s)

pub carried_not_own : (a : Cell) → is_own_cell (carried a) ≡ false
unfolding is_own_cell carried blank
carried_not_own a =
    (elim a.flag as (λ f. a.flag ≡ f → is_own_cell (carried a) ≡ false) [ A ↦ λ e. rw e | D ↦ λ e. rw e | E ↦ λ e. rw e | N ↦ λ e. rw e ]) refl

-- a later run date: its own shape stands, its other cells follow the new predecessor
module _ (d : ℕ) (before after : Cell) (h : d < 1024) (s : FitsEntry before) (t : FitsEntry after) where
  own_is : (f : Fresh) → FreshFits f → is_own (entry_of (cell_from d f before)) ≡ is_own_cell (cell_from d f before)
  own_is f g = own_entry (cell_from d f before) (cell_from_fits d f before h g s)

  pub follow_entry : (f : Fresh) → FreshFits f →
      cond (is_own (entry_of (cell_from d f before))) (entry_of (cell_from d f before)) (entry_of (carried after)) ≡ entry_of (cell_from d f after)
  unfolding cell_from is_own_cell
  follow_entry absent g = rw (own_is absent g, carried_not_own before)
  follow_entry (own v n r) g = rw (own_is (own v n r) g)
  follow_entry (pooled v n r) g = rw (own_is (pooled v n r) g)

  pub over_entry : (f : Fresh) → FreshFits f →
      cond (is_own (entry_of (cell_from d f before))) (carried_entry (entry_of (cell_from d f before))) (entry_of (carried after))
      ≡ entry_of (carried (cell_from d f after))
  unfolding cell_from is_own_cell
  over_entry absent g = rw (own_is absent g, carried_not_own before) (ap entry_of (sym (carried_carried after)))
  over_entry (own v n r) g = rw (own_is (own v n r) g) (carry_entry (own_cell d v n r) (cell_from_fits d (own v n r) before h g s))
  over_entry (pooled v n r) g = rw (own_is (pooled v n r) g) (carry_entry (pooled_cell d v n r) (cell_from_fits d (pooled v n r) before h g s))
