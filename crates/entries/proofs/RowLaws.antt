-- Laws of rows of entries: made from a function, while they are filled, and counts of moved entries.
use Prim.Native.Nat.{ℕ, zero, suc, ◌+◌, ◌≤◌, ◌<◌, zero-le}
use mathlib.Core.Path.{◌≡◌, sym, ap, ◌∙◌}
use mathlib.Core.List.{List, [], ◌∷◌, ◌++◌, append_assoc, append-nil}
use native.Mathlib.Nat.{add-zero, add-suc}
use native.Mathlib.Numerals.{add-one}
use native.Mathlib.Omega.{arith}
use lib.Dec.{eqb}
use lib.ListN.{length, get_or, take, drop, get_or-append}
use lib.Seq.{drop-cons, get_or_at, drop-length, get_or-append-add, get_or-drop, take_at, drop_at, drop-drop}
use borrow.Table.Steps.{cases}
use borrow.Author.Tests.{eqb-true, eqb-false}
use Rattle.metering.specs.Sum.{sum_below_suc, sum_below_zero}
use Rattle.ledger.proofs.Lists.{length_tabulate, get_d_tabulate, tabulate_ext, filled, sum_below_cong, sum_below_more}
use Rattle.ledger.specs.Table.{tabulate, filling}
use Rattle.ledger.specs.Calls.{differing, moved_entry}

-- ---- lists made from a function

tabulate_add : (m n : ℕ) (f : ℕ → ℕ) → tabulate (m + n) f ≡ tabulate m f ++ tabulate n (λ k. f (m + k))
unfolding tabulate
tabulate_add m zero f = rw add-zero (sym (append-nil (tabulate m f)))
tabulate_add m (suc n) f = rw (add-suc m n, tabulate_add m n f) (append_assoc (tabulate m f) (tabulate n (λ k. f (m + k))) (f (m + n) ∷ []))

-- ---- rows while they are filled

module _ (f : ℕ → ℕ) (xs : List ℕ) where
  -- the next place is as it was
  filling_at : (k : ℕ) → k < length xs → get_or (filling k f xs) k 0 ≡ get_or xs k 0
  unfolding filling
  filling_at k h = rw (drop-cons xs k 0 h) (get_or_at (tabulate k f) (get_or xs k 0) (drop (suc k) xs) 0 k (length_tabulate k f))

  pub filling_below : (n k : ℕ) → k < n → get_or (filling n f xs) k 0 ≡ f k
  unfolding filling
  filling_below n k h = get_or-append (tabulate n f) (drop n xs) 0 k (rw (length_tabulate n f) h) ∙ get_d_tabulate n f k h

  filling_all : filling (length xs) f xs ≡ tabulate (length xs) f
  unfolding filling
  filling_all = rw (drop-length xs) (append-nil (tabulate (length xs) f))

-- past the filled places the row is as it was
pub filling_beyond : (f : ℕ → ℕ) (xs : List ℕ) (k p : ℕ) → get_or (filling k f xs) (k + p) 0 ≡ get_or xs (k + p) 0
unfolding filling
filling_beyond f xs k p =
    ap (λ (a : ℕ). get_or (tabulate k f ++ drop k xs) (a + p) 0) (sym (length_tabulate k f))
    ∙ get_or-append-add (tabulate k f) (drop k xs) p 0 ∙ get_or-drop k xs p 0

-- n places more at once
pub filling_stretch : (f g : ℕ → ℕ) (xs : List ℕ) (k n : ℕ) → ((p : ℕ) → p < n → g p ≡ f (k + p)) →
    take k (filling k f xs) ++ (tabulate n g ++ drop n (drop k (filling k f xs))) ≡ filling (k + n) f xs
unfolding filling
filling_stretch f g xs k n h =
    rw (
      take_at (tabulate k f) (drop k xs) k (length_tabulate k f),
      drop_at (tabulate k f) (drop k xs) k (length_tabulate k f),
      drop-drop n k xs,
      tabulate_ext n g (λ p. f (k + p)) h,
      tabulate_add k n f,
    )
    (sym (append_assoc (tabulate k f) (tabulate n (λ p. f (k + p))) (drop (k + n) xs)))

pub unfilled : (f : ℕ → ℕ) (xs ys : List ℕ) (k : ℕ) → ys ≡ filling k f xs → k < length xs → get_or ys k 0 ≡ get_or xs k 0
unfilled f xs ys k so low = rw so (filling_at f xs k low)

pub filled_whole : (f : ℕ → ℕ) (xs ys : List ℕ) (k n : ℕ) → ys ≡ filling k f xs → k ≡ n → n ≡ length xs → ys ≡ tabulate n f
filled_whole f xs ys k n so is whole =
    filled f xs ys k (length xs) so (is ∙ whole) ∙ filling_all f xs ∙ ap (λ (m : ℕ). tabulate m f) (sym whole)

-- ---- differences

pub moved_entry_le : (a b : ℕ) → moved_entry a b ≤ 1
unfolding moved_entry
moved_entry_le a b = cases (eqb a b) (λ e. rw e (omega arith)) (λ e. rw e (omega arith))

pub differing_zero : (f g : ℕ → ℕ) → differing 0 f g ≡ 0
unfolding differing
differing_zero f g = sum_below_zero _

differing_suc : (n : ℕ) (f g : ℕ → ℕ) → differing (suc n) f g ≡ differing n f g + moved_entry (f n) (g n)
unfolding differing moved_entry
differing_suc n f g = sum_below_suc n _

pub differing_le : (n : ℕ) (f g : ℕ → ℕ) → differing n f g ≤ n
differing_le zero f g = rw (differing_zero f g) zero-le
differing_le (suc n) f g = rw (differing_suc n f g) (omega (arith, differing_le n f g, moved_entry_le (f n) (g n)))

-- a loop's turn: one more place is compared
pub count_next : (f g : ℕ → ℕ) (k moved d : ℕ) → moved ≡ differing k f g → d ≡ moved_entry (f k) (g k) → moved + d ≡ differing (k + 1) f g
count_next f g k moved d so is = rw (so, is, add-one k) (sym (differing_suc k f g))

pub counted : (f g : ℕ → ℕ) (k n moved : ℕ) → moved ≡ differing k f g → k ≡ n → moved ≡ differing n f g
counted f g k n moved so is = so ∙ ap (λ (m : ℕ). differing m f g) is

pub differing_ext : (n : ℕ) (f f' g g' : ℕ → ℕ) → ((k : ℕ) → k < n → f k ≡ f' k) → ((k : ℕ) → k < n → g k ≡ g' k) → differing n f g ≡ differing n f' g'
unfolding differing
differing_ext n f f' g g' p q = sum_below_cong n _ _ (λ k l. rw (p k l, q k l))

pub differing_add : (m n : ℕ) (f g : ℕ → ℕ) → differing (m + n) f g ≡ differing m f g + differing n (λ k. f (m + k)) (λ k. g (m + k))
unfolding differing
differing_add m n f g = sum_below_more m n _

moved_entry_zero : (a b : ℕ) → moved_entry a b ≡ 0 → a ≡ b
unfolding moved_entry
moved_entry_zero a b z = cases (eqb a b) (λ e. eqb-true a b e) (λ e. let one : 1 ≡ 0 = rw e at z in absurd (omega arith))

-- where nothing differs, all is equal
pub differing_none : (n : ℕ) (f g : ℕ → ℕ) → differing n f g ≡ 0 → (k : ℕ) → k < n → f k ≡ g k
differing_none zero f g h k l = absurd (omega arith)
differing_none (suc n) f g h k l =
    let s = rw (differing_suc n f g) at h in
    cases (eqb k n)
    (λ e. let is = eqb-true k n e in rw is (moved_entry_zero (f n) (g n) (omega arith)))
    (λ e. let no : k ≡ n → ⊥ = eqb-false k n e in differing_none n f g (omega arith) k (omega arith))
