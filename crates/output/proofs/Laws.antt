-- Laws of texts: one appended behind another, the digits of a number, and what they read back as.
use Prim.Native.Nat.{ℕ, zero, suc, ◌+◌, ◌-◌, ◌*◌, ◌/◌, ◌%◌, ◌^◌, ◌≤◌, ◌<◌}
use mathlib.Core.Path.{◌≡◌, refl, ◌∙◌}
use mathlib.Core.Bool.{cond}
use mathlib.Core.List.{List, [], ◌∷◌, ◌++◌, append_assoc}
use native.Mathlib.Omega.{arith}
use native.Mathlib.Numerals.{add-one}
use native.Mathlib.Nat.{pow-suc, pow-le-pow_right, div-lt_iff_lt-mul, le-div_iff_mul-le, not-suc-le-zero}
use lib.ListN.{length, take, drop, set, length-append}
use lib.Seq.{take-length, take_at, drop_at, take-suc-set, length-take-le, append_snoc}
use lib.Dec.{ltb, leb, eqb}
use borrow.Table.Steps.{cases}
use borrow.Author.Tests.{lt-ltb, le-ltb, ne_eqb, leb-true, leb-false}
use Rattle.io.specs.Digits.{last_digits, IsDigitCount}
use Rattle.output.specs.Text.{Appended, decimal_in, decimal_text, energy_text, read_from, read_back}

-- ---- appending

pub part_appended : (out text part left : List ℕ) (at n : ℕ) → at ≤ length out → n ≡ length text → part ≡ take (length text) text ++ left → (rest : List ℕ) → Appended out at (take at out ++ (part ++ rest)) (at + n) text
part_appended out text part left at n h e q rest =
    let long : length (take at out ++ text) ≡ at + n = length-append (take at out) text ∙ rw (length-take-le at out h, e) refl in
    record {
      end = rw e;
      held = rw (q, take-length text, append_assoc text left rest, ← append_assoc (take at out) text (left ++ rest))
          (take_at (take at out ++ text) (left ++ rest) (at + n) long);
    }

pub byte_appended : (out : List ℕ) (at b : ℕ) → at < length out → Appended out at (set out at b) (at + 1) (b ∷ [])
byte_appended out at b h = record { end = refl; held = rw add-one (take-suc-set out at b h) }

pub join : {before middle after : List ℕ} {at r s : ℕ} {one two : List ℕ} → Appended before at middle r one → Appended middle r after s two → Appended before at after s (one ++ two)
join {before} {middle} {after} {at} {r} {s} {one} {two} a b =
    record {
      end = omega (arith, a.end, b.end, length-append one two);
      held = b.held ∙ rw a.held (append_assoc (take at before) one two);
    }

-- what stands behind the blank
pub behind_blank : (before after : List ℕ) (at r : ℕ) (text : List ℕ) → at ≤ length before → Appended before at after r (32 ∷ text) → drop (at + 1) (take r after) ≡ text
behind_blank before after at r text h a =
    rw (a.held, ← append_snoc (take at before) 32 text)
    (drop_at (take at before ++ (32 ∷ [])) text (at + 1) (length-append (take at before) (32 ∷ []) ∙ rw (length-take-le at before h) refl))

-- ---- the digits

-- a u64 has at most twenty
pub digits_bound : (n k : ℕ) → n < 18446744073709551616 → IsDigitCount 10 1 n k → k ≤ 20
digits_bound n k h f =
    cases (leb k 20) (λ t. leb-true k 20 t) (λ e.
    let big : 20 < k = leb-false k 20 e in
    let power : 10 ^ 20 ≤ 10 ^ (k - 1) = pow-le-pow_right {n = 10} (omega arith) {i = 20} {j = k - 1} (omega arith) in
    let low : 10 ^ (k - 1) ≤ n = f.2 (omega arith) in
    omega arith)

fewest_tenth : (n k : ℕ) → IsDigitCount 10 1 n (suc (suc k)) → IsDigitCount 10 1 (n / 10) (suc k)
fewest_tenth n k f =
    let high : n < 10 ^ suc k * 10 = rw (pow-suc 10 (suc k)) at f.1 in
    let less : suc (suc k) - 1 ≡ suc k = omega arith in
    let less' : suc k - 1 ≡ k = omega arith in
    let low : 10 ^ k * 10 ≤ n = rw (less, pow-suc 10 k) at (f.2 (omega arith)) in (
      omega arith,
      (div-lt_iff_lt-mul {k = 10} {x = n} {y = 10 ^ suc k} (omega arith)).1 high,
      λ _. rw less' ((le-div_iff_mul-le {k = 10} {x = 10 ^ k} {y = n} (omega arith)).1 low),
    )

digits_decimal : (most k n : ℕ) → k ≤ most → IsDigitCount 10 1 n k → last_digits 10 k n ≡ decimal_in most n
unfolding decimal_in
digits_decimal most zero n h f = absurd (not-suc-le-zero f.0)
digits_decimal zero (suc k) n h f = absurd (not-suc-le-zero h)
digits_decimal (suc most) (suc zero) n h f =
    let small : n < 10 = f.1 in
    let same : n % 10 ≡ n = omega arith in
    simp (same, lt-ltb n 10 small)
digits_decimal (suc most) (suc (suc k)) n h f =
    let less : suc (suc k) - 1 ≡ suc k = omega arith in
    let power : 10 ^ 1 ≤ 10 ^ suc k = pow-le-pow_right {n = 10} (omega arith) {i = 1} {j = suc k} (omega arith) in
    let low : 10 ^ suc k ≤ n = rw less at (f.2 (omega arith)) in
    let large : 10 ≤ n = omega arith in
    let digit : n % 10 < 10 = omega arith in
    simp (digits_decimal most (suc k) (n / 10) (omega arith) (fewest_tenth n k f), le-ltb n 10 large, lt-ltb (n % 10) 10 digit)

pub decimal_appended : {before after text : List ℕ} {at r : ℕ} (n k : ℕ) → n < 18446744073709551616 → IsDigitCount 10 1 n k → text ≡ last_digits 10 k n → Appended before at after r text → Appended before at after r (decimal_text n)
unfolding decimal_text
decimal_appended n k h f e a = rw (e, digits_decimal 20 k n (digits_bound n k h f) f) at a

-- ---- reading back

read_append : (sum : ℕ) (xs ys : List ℕ) → read_from sum (xs ++ ys) ≡ read_from (read_from sum xs) ys
unfolding read_from
read_append sum [] ys = refl
read_append sum (x ∷ xs) ys = read_append (cond (eqb x 46) sum (sum * 10 + (x - 48))) xs ys

read_digit : (sum d : ℕ) (cs : List ℕ) → read_from sum ((48 + d) ∷ cs) ≡ read_from (sum * 10 + d) cs
unfolding read_from
read_digit sum d cs =
    let digit : 48 + d - 48 ≡ d = omega arith in
    simp (ne_eqb (48 + d) 46 (λ (e : 48 + d ≡ 46). omega arith), digit)

read_none : (sum : ℕ) → read_from sum [] ≡ sum
unfolding read_from
read_none sum = refl

read_point : (sum : ℕ) (cs : List ℕ) → read_from sum (46 ∷ cs) ≡ read_from sum cs
unfolding read_from
read_point sum cs = refl

read_decimal : (most n : ℕ) → n < 10 ^ most → read_from 0 (decimal_in most n) ≡ n
unfolding decimal_in
read_decimal zero n h = let none : n ≡ 0 = omega arith in rw (read_none, none)
read_decimal (suc most) n h =
    cases (ltb n 10)
    (λ t. simp (t, read_digit, read_none) (omega arith))
    (λ f.
    let high : n / 10 < 10 ^ most = (div-lt_iff_lt-mul {k = 10} {x = n} {y = 10 ^ most} (omega arith)).1 (rw (pow-suc 10 most) at h) in
    simp (f, read_append, read_decimal most (n / 10) high, read_digit, read_none) (omega arith))

-- an energy reads back as its Wh
pub energy_reads_back : (n : ℕ) → n < 18446744073709551616 → read_back (energy_text n) ≡ n
unfolding read_back energy_text decimal_text
energy_reads_back n h =
    simp (read_append, read_decimal 20 (n / 1000) (omega arith), read_point, read_digit, read_none) (omega arith)
