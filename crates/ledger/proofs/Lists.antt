-- Laws of lists and sums that the proof of agreement and the code's proofs cite.
use Rattle.std.proofs.Common.{◌≡◌, ℕ, zero, suc, ◌+◌, ◌-◌, ◌*◌, ◌/◌, ◌<◌, ◌≤◌, Bool, true, false, cond, eqb, ◌≢◌, List, [], ◌∷◌, ◌++◌, map, length, get_or, take, drop, set, sym, refl, ap, ◌∙◌, ⊎_elim, append_assoc, le_of_suc-le-suc, not-suc-le-zero, add-zero, add-suc, mul-le-mul_right, suc-mul, add-mul, suc-add, eq-or-lt_of_le, zero-add, zero-mul, add-one, arith, length-append, length-drop, length-set, length-take-le, get_or-drop, drop-cons, get_or-set_other, get_or-take, take-suc, get_or-set_same, take_at, ext_get_or, eq-eqb, ne_eqb}
use mathlib.Core.List.{map-append}
use lib.ListN.{get_or-append}
use lib.Seq.{sets, set_at, get_or_at}
use lib.Arith.{digits_div}
use Rattle.metering.specs.Sum.{sum_below, sum_below_suc, sum_below_le}
use Rattle.ledger.specs.Calls.{stretch, overwritten}
use Rattle.ledger.specs.Table.{tabulate, filling}

-- what holds below n and at n holds below suc n
pub below_suc : (P : ℕ → Type 0) (n : ℕ) → ((k : ℕ) → k < n → P k) → P n → (k : ℕ) → k < suc n → P k
below_suc P n all here k h = ⊎_elim (λ e. rw e here) (λ l. all k l) (eq-or-lt_of_le (le_of_suc-le-suc h))

-- ---- a run of stores

pub sets_append : (l xs ys : List ℕ) (i : ℕ) → sets (sets l i xs) (i + length xs) ys ≡ sets l i (xs ++ ys)
sets_append l [] ys i = rw add-zero
sets_append l (x ∷ xs) ys i = let e : i + suc (length xs) ≡ suc i + length xs = omega arith in rw e (sets_append (set l i x) xs ys (suc i))

pub sets_more : (l s : List ℕ) (i j : ℕ) → j < length s → set (sets l i (take j s)) (i + j) (get_or s j 0) ≡ sets l i (take (j + 1) s)
sets_more l s i j h =
    let e = sets_append l (take j s) (get_or s j 0 ∷ []) i in
    let n : length (take j s) ≡ j = length-take-le j s (omega arith) in
    rw (add-one, take-suc s j 0) (rw n at e)

pub get_d_sets_below : (vs l : List ℕ) (at j : ℕ) → j < at → get_or (sets l at vs) j 0 ≡ get_or l j 0
get_d_sets_below [] l at j h = refl
get_d_sets_below (v ∷ vs) l at j h =
    get_d_sets_below vs (set l at v) (suc at) j (omega arith) ∙ get_or-set_other l at j v 0 (λ (e : j ≡ at). omega arith)

pub get_d_sets_above : (vs l : List ℕ) (at j : ℕ) → at + length vs ≤ j → get_or (sets l at vs) j 0 ≡ get_or l j 0
get_d_sets_above [] l at j h = refl
get_d_sets_above (v ∷ vs) l at j h =
    get_d_sets_above vs (set l at v) (suc at) j (omega arith) ∙ get_or-set_other l at j v 0 (λ (e : j ≡ at). omega arith)

pub get_d_sets_at : (vs l : List ℕ) (at j : ℕ) → j < length vs → at + length vs ≤ length l → get_or (sets l at vs) (at + j) 0 ≡ get_or vs j 0
get_d_sets_at [] l at j h k = absurd (not-suc-le-zero h)
get_d_sets_at (v ∷ vs) l at zero h k =
    rw (add-zero) (get_d_sets_below vs (set l at v) (suc at) at (omega arith) ∙ get_or-set_same l at v 0 (omega arith))
get_d_sets_at (v ∷ vs) l at (suc j) h k =
    rw (add-suc at j, ← suc-add at j) (get_d_sets_at vs (set l at v) (suc at) j (omega arith) (rw length-set (omega arith)))

-- ---- a list made from a function

module _ {A : Type 0} where
  pub length_tabulate : (n : ℕ) (f : ℕ → A) → length (tabulate n f) ≡ n
  unfolding tabulate
  length_tabulate zero f = refl
  length_tabulate (suc n) f = length-append (tabulate n f) (f n ∷ []) ∙ rw (length_tabulate n f) (add-one n)

  tabulate_suc : (n : ℕ) (f : ℕ → A) → tabulate (suc n) f ≡ tabulate n f ++ (f n ∷ [])
  unfolding tabulate
  tabulate_suc n f = refl

  pub tabulate_ext : (n : ℕ) (f g : ℕ → A) → ((k : ℕ) → k < n → f k ≡ g k) → tabulate n f ≡ tabulate n g
  unfolding tabulate
  tabulate_ext zero f g h = refl
  tabulate_ext (suc n) f g h = rw (tabulate_ext n f g (λ k l. h k (omega arith)), h n (omega arith))

  -- while a list is filled

  pub filling_zero : (f : ℕ → A) (xs : List A) → filling 0 f xs ≡ xs
  unfolding filling tabulate
  filling_zero f xs = refl

  pub filling_length : (f : ℕ → A) (xs : List A) (k : ℕ) → k ≤ length xs → length (filling k f xs) ≡ length xs
  unfolding filling
  filling_length f xs k h = rw (length-append, length_tabulate, length-drop) (omega arith)

  filling_next : (f : ℕ → A) (xs : List A) (k : ℕ) → k < length xs → set (filling k f xs) k (f k) ≡ filling (suc k) f xs
  unfolding filling
  filling_next f xs k h =
      rw (drop-cons xs k (f k) h, tabulate_suc k f)
      (set_at (tabulate k f) (get_or xs k (f k)) (drop (suc k) xs) (f k) k (length_tabulate k f)
      ∙ sym (append_assoc (tabulate k f) (f k ∷ []) (drop (suc k) xs)))

  -- a loop's turn: the next place is set to f's value
  pub fill : (f : ℕ → A) (xs ys : List A) (k : ℕ) (v : A) → ys ≡ filling k f xs → k < length xs → v ≡ f k → set ys k v ≡ filling (k + 1) f xs
  fill f xs ys k v so low is = rw (so, is, add-one k) (filling_next f xs k low)

  pub filled_long : (f : ℕ → A) (xs ys : List A) (k : ℕ) → ys ≡ filling k f xs → k ≤ length xs → length ys ≡ length xs
  filled_long f xs ys k so low = ap length so ∙ filling_length f xs k low

  pub filled : (f : ℕ → A) (xs ys : List A) (k n : ℕ) → ys ≡ filling k f xs → k ≡ n → ys ≡ filling n f xs
  filled f xs ys k n so is = so ∙ ap (λ (m : ℕ). filling m f xs) is

-- a list that is filled from f has g's values at its front where the two are alike
pub written_is : {A : Type 0} (n : ℕ) (f g : ℕ → A) (xs ys : List A) → ys ≡ filling n f xs → ((k : ℕ) → k < n → f k ≡ g k) → ys ≡ overwritten (tabulate n g) xs
unfolding filling overwritten
written_is n f g xs ys e same = e ∙ rw (length_tabulate n g, tabulate_ext n f g same)

-- results written to the front of a list are read off it
pub front_is : {A : Type 0} (results lent list : List A) (n : ℕ) → length results ≡ n → list ≡ overwritten results lent → take n list ≡ results
unfolding overwritten
front_is results lent list n long e = rw e (take_at results (drop (length results) lent) n long)

pub tabulate_at : {A : Type 0} (n : ℕ) (f : ℕ → A) (d : A) (k : ℕ) → k < n → get_or (tabulate n f) k d ≡ f k
unfolding tabulate
tabulate_at zero f d k h = absurd (not-suc-le-zero h)
tabulate_at (suc n) f d k h =
    ⊎_elim
    (λ (e : k ≡ n). rw e (get_or_at (tabulate n f) (f n) [] d n (length_tabulate n f)))
    (λ (l : k < n). get_or-append (tabulate n f) (f n ∷ []) d k (rw length_tabulate l) ∙ tabulate_at n f d k l)
    (eq-or-lt_of_le (le_of_suc-le-suc h))

pub get_d_tabulate : (n : ℕ) (f : ℕ → ℕ) (k : ℕ) → k < n → get_or (tabulate n f) k 0 ≡ f k
get_d_tabulate n f k h = tabulate_at n f 0 k h

pub map_tabulate : {A B : Type 0} (n : ℕ) (f : A → B) (g : ℕ → A) → tabulate n (λ k. f (g k)) ≡ map f (tabulate n g)
unfolding tabulate
map_tabulate zero f g = refl
map_tabulate (suc n) f g = rw (map_tabulate n f g) (sym (map-append f (tabulate n g) (g n ∷ [])))

-- ---- sums

pub sum_below_cong : (n : ℕ) (f g : ℕ → ℕ) → ((k : ℕ) → k < n → f k ≡ g k) → sum_below n f ≡ sum_below n g
unfolding sum_below
sum_below_cong zero f g h = refl
sum_below_cong (suc n) f g h = rw (sum_below_cong n f g (λ k l. h k (omega arith)), h n (omega arith))

pub sum_below_none : (n : ℕ) (f : ℕ → ℕ) → ((k : ℕ) → k < n → f k ≡ 0) → sum_below n f ≡ 0
unfolding sum_below
sum_below_none zero f h = refl
sum_below_none (suc n) f h = rw (sum_below_none n f (λ k l. h k (omega arith)), h n (omega arith))

pub none_of_sum : (n : ℕ) (f : ℕ → ℕ) → sum_below n f ≡ 0 → (k : ℕ) → k < n → f k ≡ 0
unfolding sum_below
none_of_sum zero f h k l = absurd (not-suc-le-zero l)
none_of_sum (suc n) f h k l = below_suc (λ x. f x ≡ 0) n (none_of_sum n f (omega arith)) (omega arith) k l

pub sum_below_plus : (n : ℕ) (f g : ℕ → ℕ) → sum_below n (λ k. f k + g k) ≡ sum_below n f + sum_below n g
unfolding sum_below
sum_below_plus zero f g = refl
sum_below_plus (suc n) f g = let h = sum_below_plus n f g in omega arith

pub sum_below_more : (m n : ℕ) (f : ℕ → ℕ) → sum_below (m + n) f ≡ sum_below m f + sum_below n (λ k. f (m + k))
unfolding sum_below
sum_below_more m zero f = rw (add-zero m) (sym (add-zero (sum_below m f)))
sum_below_more m (suc n) f =
    rw (add-suc m n, sum_below_suc (m + n) f) (let h = sum_below_more m n f in omega arith)

-- the first term apart
pub sum_below_front : (n : ℕ) (f : ℕ → ℕ) → sum_below (suc n) f ≡ f 0 + sum_below n (λ k. f (suc k))
unfolding sum_below
sum_below_front zero f = omega arith
sum_below_front (suc n) f = let h = sum_below_front n f in omega arith

-- n ones
pub sum_below_ones : (n : ℕ) → sum_below n (λ k. 1) ≡ n
unfolding sum_below
sum_below_ones zero = refl
sum_below_ones (suc n) = rw (sum_below_ones n) (omega arith)

-- term by term

pub term_le_sum : (n : ℕ) (f : ℕ → ℕ) (k : ℕ) → k < n → f k ≤ sum_below n f
unfolding sum_below
term_le_sum zero f k l = absurd (omega arith)
term_le_sum (suc n) f k l = below_suc (λ x. f x ≤ sum_below n f + f n) n (λ x m. let before = term_le_sum n f x m in omega arith) (omega arith) k l

-- one term is less
pub terms_lt : (n : ℕ) (f g : ℕ → ℕ) (k : ℕ) → k < n → ((i : ℕ) → i < n → f i ≤ g i) → f k < g k → sum_below n f < sum_below n g
unfolding sum_below
terms_lt zero f g k l h less = absurd (omega arith)
terms_lt (suc n) f g k l h less =
    below_suc (λ x. f x < g x → sum_below n f + f n < sum_below n g + g n) n
    (λ x m here. let before = terms_lt n f g x m (λ i a. h i (omega arith)) here in let last = h n (omega arith) in omega arith)
    (λ here. let before = sum_below_le n f g (λ i a. h i (omega arith)) in omega arith)
    k l less

pub sum_so_far : (n : ℕ) (f : ℕ → ℕ) (k : ℕ) → k ≤ n → sum_below k f ≤ sum_below n f
sum_so_far n f k h = let rest = sum_below_more k (n - k) f in let all : k + (n - k) ≡ n = omega arith in omega (arith, rw all at rest)

pub sum_times : (n : ℕ) (f : ℕ → ℕ) (c : ℕ) → sum_below n (λ k. f k * c) ≡ sum_below n f * c
unfolding sum_below
sum_times zero f c = sym (zero-mul c)
sum_times (suc n) f c = rw (sum_times n f c) (sym (add-mul (sum_below n f) (f n) c))

-- a sum of terms that are each at most w times another's
pub sum_below_times : (n w : ℕ) (f g : ℕ → ℕ) → ((k : ℕ) → k < n → f k ≤ g k * w) → sum_below n f ≤ sum_below n g * w
sum_below_times n w f g h = rw (← sum_times n g w) (sum_below_le n f (λ k. g k * w) h)

pub sum_below_most : (n b : ℕ) (f : ℕ → ℕ) → ((k : ℕ) → k < n → f k ≤ b) → sum_below n f ≤ n * b
sum_below_most n b f h = rw (sum_below_ones n) at (sum_below_times n b f (λ k. 1) (λ k l. let low = h k l in omega arith))

-- a term that may be left out
pub part_le : (b : Bool) (x : ℕ) → cond b x 0 ≤ x
part_le true x = omega arith
part_le false x = omega arith

-- all but one of the terms are nothing
pub sum_below_one : (n c : ℕ) (f : ℕ → ℕ) → c < n → sum_below n (λ k. cond (eqb k c) (f k) 0) ≡ f c
unfolding sum_below
sum_below_one zero c f h = absurd (not-suc-le-zero h)
sum_below_one (suc n) c f h =
    ⊎_elim
    (λ (e : c ≡ n).
    rw (sum_below_none n (λ k. cond (eqb k c) (f k) 0) (λ k l. rw (ne_eqb k c (λ (q : k ≡ c). omega arith))), eq-eqb n c (sym e), zero-add)
    (ap f (sym e)))
    (λ (l : c < n). rw (sum_below_one n c f l, ne_eqb n c (λ (q : n ≡ c). omega arith)) (add-zero (f c)))
    (eq-or-lt_of_le (le_of_suc-le-suc h))

-- rows of P side by side
pub sum_below_rows : (C P : ℕ) (f : ℕ → ℕ) → sum_below C (λ c. sum_below P (λ p. f (c * P + p))) ≡ sum_below (C * P) f
unfolding sum_below
sum_below_rows zero P f = rw zero-mul
sum_below_rows (suc C) P f = rw (suc-mul C P, sum_below_more (C * P) P f, sum_below_rows C P f)

-- ---- places in blocks of s

pub block_other : (s q j r k : ℕ) → q ≢ r → j < s → k < s → q * s + j ≢ r * s + k
block_other s q j r k other hj hk e = other (sym (digits_div q hj) ∙ ap (λ (x : ℕ). x / s) e ∙ digits_div r hk)

pub block_below : (s T q j : ℕ) → q < T → j < s → q * s + j < T * s
block_below s T q j hq hj = omega (arith, mul-le-mul_right s hq)

-- ---- the front of a list filled from another

module _ {A : Type 0} (d : A) where
  tabulate_front : (n : ℕ) (xs : List A) → n ≤ length xs → tabulate n (λ k. get_or xs k d) ≡ take n xs
  unfolding tabulate
  tabulate_front zero xs h = refl
  tabulate_front (suc n) xs h = rw (tabulate_front n xs (omega arith), take-suc xs n d h)

  pub front_filled : (n k : ℕ) (xs lent list : List A) → list ≡ filling k (λ i. get_or xs i d) lent → k ≡ n → n ≤ length xs → list ≡ overwritten (take n xs) lent
  unfolding filling overwritten
  front_filled n k xs lent list so is h = so ∙ rw (is, tabulate_front n xs h, length-take-le n xs h)

-- ---- cut and put back

pub get_d_cut : (n : ℕ) (xs : List ℕ) (i : ℕ) → i < n → get_or (take n xs) i 0 ≡ get_or xs i 0
get_d_cut n xs i h = get_or-take n xs i 0 h

-- the first entries of a list of the length of the cut part, put back
pub get_d_back : (n : ℕ) (xs ys : List ℕ) (i : ℕ) → i < length ys → get_or (ys ++ drop n xs) i 0 ≡ get_or ys i 0
get_d_back n xs ys i h = get_or-append ys (drop n xs) 0 i h

-- ---- a part of a list

pub part_length : {A : Type 0} (xs : List A) (at n : ℕ) → at + n ≤ length xs → length (take n (drop at xs)) ≡ n
part_length xs at n h = length-take-le n (drop at xs) (rw length-drop (omega arith))

pub part_at : (xs : List ℕ) (at n p : ℕ) → p < n → get_or (take n (drop at xs)) p 0 ≡ get_or xs (at + p) 0
part_at xs at n p l = get_or-take n (drop at xs) p 0 l ∙ get_or-drop at xs p 0

pub stretch_is : (n first : ℕ) (xs : List ℕ) (f : ℕ → ℕ) → first + n ≤ length xs → ((k : ℕ) → k < n → get_or xs (first + k) 0 ≡ f k) →
    stretch n first xs ≡ tabulate n f
unfolding stretch
stretch_is n first xs f fits same =
    let long = part_length xs first n fits in
    ext_get_or 0 (take n (drop first xs)) (tabulate n f) (long ∙ sym (length_tabulate n f))
    (λ k l. let h : k < n = rw long at l in part_at xs first n k h ∙ same k h ∙ sym (get_d_tabulate n f k h))

-- ---- sums that are alike but for one term

pub sum_below_changed : (n c : ℕ) (f g : ℕ → ℕ) → c < n → ((k : ℕ) → k < n → k ≢ c → f k ≡ g k) → sum_below n f + g c ≡ sum_below n g + f c
unfolding sum_below
sum_below_changed zero c f g h same = absurd (not-suc-le-zero h)
sum_below_changed (suc n) c f g h same =
    ⊎_elim
    (λ (e : c ≡ n).
    rw (e, sum_below_cong n f g (λ k l. same k (omega arith) (λ (q : k ≡ c). omega arith)))
    (omega arith))
    (λ (l : c < n).
    let before = sum_below_changed n c f g l (λ k m other. same k (omega arith) other) in
    let last = same n (omega arith) (λ (q : n ≡ c). omega arith) in
    omega arith)
    (eq-or-lt_of_le (le_of_suc-le-suc h))
