-- Laws of nets (change request 2026-13): sums over lists of categories, differences of sums, and what two readers of the same cells find.
use Rattle.std.proofs.Common.{◌≡◌, ℕ, zero, suc, ◌+◌, ◌-◌, ◌<◌, Bool, true, false, cond, ◌&&◌, ◌||◌, leb, List, [], ◌∷◌, ◌++◌, ℤ, pos, ◌+ℤ◌, ◌-ℤ◌, neg_ℤ, sym, refl, ap, ◌∙◌, ap₂, add-zero, zero-add, arith}
use lib.IntN.{+ℤ_assoc, +ℤ_comm, neg_ℤ-+ℤ, neg_ℤ-neg_ℤ}
use Rattle.metering.specs.Sum.{sum_below}
use Rattle.ledger.specs.Method.{Cell, over_run_dates}
use Rattle.ledger.specs.Table.{tabulate}
use Rattle.ledger.specs.Net.{sum_over, any_of, signed_sum, is_n, net_period, mark_of, net_tot, net_tot7}
use Rattle.ledger.specs.Engine.{Every}
use Rattle.ledger.proofs.Lists.{sum_below_cong, sum_below_none, sum_below_plus}
use Rattle.ledger.proofs.Chosen.{every_append, any_of_append}

-- ---- differences

cross : (a b c d : ℤ) → (a +ℤ b) +ℤ (c +ℤ d) ≡ (a +ℤ c) +ℤ (b +ℤ d)
cross a b c d =
    +ℤ_assoc a b (c +ℤ d)
    ∙ ap (λ x. a +ℤ x) (sym (+ℤ_assoc b c d) ∙ ap (λ x. x +ℤ d) (+ℤ_comm b c) ∙ +ℤ_assoc c b d)
    ∙ sym (+ℤ_assoc a c (b +ℤ d))

-- the sum of differences is the difference of sums
minus_plus : (a b c d : ℕ) → (pos a -ℤ pos b) +ℤ (pos c -ℤ pos d) ≡ pos (a + c) -ℤ pos (b + d)
minus_plus a b c d =
    cross (pos a) (neg_ℤ (pos b)) (pos c) (neg_ℤ (pos d)) ∙ ap (λ x. pos (a + c) +ℤ x) (sym (neg_ℤ-+ℤ (pos b) (pos d)))

minus_swapped : (a b : ℕ) → pos b -ℤ pos a ≡ neg_ℤ (pos a -ℤ pos b)
minus_swapped a b =
    sym (neg_ℤ-+ℤ (pos a) (neg_ℤ (pos b)) ∙ ap (λ x. neg_ℤ (pos a) +ℤ x) (neg_ℤ-neg_ℤ (pos b)) ∙ +ℤ_comm (neg_ℤ (pos a)) (pos b))

signed_cong : (n : ℕ) (f g : ℕ → ℤ) → ((k : ℕ) → k < n → f k ≡ g k) → signed_sum n f ≡ signed_sum n g
unfolding signed_sum
signed_cong zero f g h = refl
signed_cong (suc n) f g h = ap₂ (λ x y. x +ℤ y) (signed_cong n f g (λ k l. h k (omega arith))) (h n (omega arith))

pub signed_minus : (n : ℕ) (f g : ℕ → ℕ) → signed_sum n (λ k. pos (f k) -ℤ pos (g k)) ≡ pos (sum_below n f) -ℤ pos (sum_below n g)
unfolding signed_sum sum_below
signed_minus zero f g = refl
signed_minus (suc n) f g =
    ap (λ x. x +ℤ (pos (f n) -ℤ pos (g n))) (signed_minus n f g) ∙ minus_plus (sum_below n f) (sum_below n g) (f n) (g n)

signed_neg : (n : ℕ) (f : ℕ → ℤ) → signed_sum n (λ k. neg_ℤ (f k)) ≡ neg_ℤ (signed_sum n f)
unfolding signed_sum
signed_neg zero f = refl
signed_neg (suc n) f = ap (λ x. x +ℤ neg_ℤ (f n)) (signed_neg n f) ∙ sym (neg_ℤ-+ℤ (signed_sum n f) (f n))

-- ---- sums over lists of categories

pub sum_over_append : (cs ds : List ℕ) (f : ℕ → ℕ) → sum_over (cs ++ ds) f ≡ sum_over cs f + sum_over ds f
unfolding sum_over
sum_over_append [] ds f = sym (zero-add (sum_over ds f))
sum_over_append (c ∷ cs) ds f = let h = sum_over_append cs ds f in omega arith

pub sum_over_cong : (cs : List ℕ) (f g : ℕ → ℕ) (P : ℕ → Type 0) → Every P cs → ((c : ℕ) → P c → f c ≡ g c) → sum_over cs f ≡ sum_over cs g
unfolding sum_over
sum_over_cong [] f g P all h = refl
sum_over_cong (c ∷ cs) f g P all h = rw (h c all.0, sum_over_cong cs f g P all.1 h)

pub sum_over_none : (cs : List ℕ) → sum_over cs (λ c. 0) ≡ 0
unfolding sum_over
sum_over_none [] = refl
sum_over_none (c ∷ cs) = rw (sum_over_none cs)

pub sum_over_one : (c : ℕ) (f : ℕ → ℕ) → sum_over (c ∷ []) f ≡ f c
unfolding sum_over
sum_over_one c f = add-zero (f c)

-- over a list that is made from a function
pub sum_over_tabulate : (n : ℕ) (g f : ℕ → ℕ) → sum_over (tabulate n g) f ≡ sum_below n (λ k. f (g k))
unfolding tabulate sum_below
sum_over_tabulate zero g f = (unfold sum_over in refl)
sum_over_tabulate (suc n) g f = sum_over_append (tabulate n g) (g n ∷ []) f ∙ rw (sum_over_one, sum_over_tabulate n g f)

pub sum_over_plus : (cs : List ℕ) (f g : ℕ → ℕ) → sum_over cs (λ c. f c + g c) ≡ sum_over cs f + sum_over cs g
unfolding sum_over
sum_over_plus [] f g = refl
sum_over_plus (c ∷ cs) f g = let h = sum_over_plus cs f g in omega arith

pub sum_over_alike : (cs : List ℕ) {f g : ℕ → ℕ} → ((c : ℕ) → f c ≡ g c) → sum_over cs f ≡ sum_over cs g
unfolding sum_over
sum_over_alike [] h = refl
sum_over_alike (c ∷ cs) {f} {g} h = rw (h c, sum_over_alike cs h)

sum_over_cond : (b : Bool) (cs : List ℕ) (f : ℕ → ℕ) → sum_over cs (λ c. cond b (f c) 0) ≡ cond b (sum_over cs f) 0
sum_over_cond true cs f = refl
sum_over_cond false cs f = sum_over_none cs

-- summed by category or by the other number first
pub sum_exchange : (n : ℕ) (cs : List ℕ) (f : ℕ → ℕ → ℕ) → sum_below n (λ k. sum_over cs (λ c. f k c)) ≡ sum_over cs (λ c. sum_below n (λ k. f k c))
unfolding sum_over
sum_exchange n [] f = sum_below_none n (λ k. 0) (λ k l. refl)
sum_exchange n (c ∷ cs) f = sum_below_plus n (λ k. f k c) (λ k. sum_over cs (λ x. f k x)) ∙ ap (λ s. sum_below n (λ k. f k c) + s) (sum_exchange n cs f)

any_of_cong : (cs : List ℕ) (f g : ℕ → Bool) (P : ℕ → Type 0) → Every P cs → ((c : ℕ) → P c → f c ≡ g c) → any_of cs f ≡ any_of cs g
unfolding any_of
any_of_cong [] f g P all h = refl
any_of_cong (c ∷ cs) f g P all h = rw (h c all.0, any_of_cong cs f g P all.1 h)

-- ---- a net over two lists of categories

-- TOT of a date and category, and its sum over run dates, as the totals have them
abbrev pub tot_of : ℕ → (ℕ → ℕ → ℕ → Cell) → ℕ → ℕ → ℕ
tot_of periods cell c d = sum_below periods (λ k. (cell d c (suc k)).value)

module _ (periods : ℕ) (is_run : ℕ → Bool) (cell : ℕ → ℕ → ℕ → Cell) (imports exports : List ℕ) where
  -- net TOT is TOT of the one side less TOT of the other
  pub tot_minus : (d : ℕ) →
      net_tot periods is_run cell imports exports d
      ≡ pos (sum_over imports (λ c. tot_of periods cell c d)) -ℤ pos (sum_over exports (λ c. tot_of periods cell c d))
  unfolding net_tot net_period
  tot_minus d =
      signed_minus periods (λ k. sum_over imports (λ c. (cell d c (suc k)).value)) (λ k. sum_over exports (λ c. (cell d c (suc k)).value))
      ∙ ap₂ (λ x y. pos x -ℤ pos y)
      (sum_exchange periods imports (λ k c. (cell d c (suc k)).value))
      (sum_exchange periods exports (λ k c. (cell d c (suc k)).value))

  cond_minus : (b : Bool) (x y : ℕ) → cond b (pos x -ℤ pos y) (pos 0) ≡ pos (cond b x 0) -ℤ pos (cond b y 0)
  cond_minus true x y = refl
  cond_minus false x y = refl

  side_week : (side : List ℕ) (n d : ℕ) →
      sum_below n (λ k. cond (leb k d && is_run (d - k)) (sum_over side (λ c. tot_of periods cell c (d - k))) 0)
      ≡ sum_over side (λ c. over_run_dates is_run n (tot_of periods cell c) d)
  unfolding over_run_dates
  side_week side n d =
      sum_below_cong n _ _ (λ k l. sym (sum_over_cond (leb k d && is_run (d - k)) side (λ c. tot_of periods cell c (d - k))))
      ∙ sum_exchange n side (λ k c. cond (leb k d && is_run (d - k)) (tot_of periods cell c (d - k)) 0)

  -- and net TOT7 is TOT7 of the one side less TOT7 of the other
  pub tot7_minus : (d : ℕ) →
      net_tot7 periods is_run cell imports exports d
      ≡ pos (sum_over imports (λ c. over_run_dates is_run 7 (tot_of periods cell c) d)) -ℤ pos (sum_over exports (λ c. over_run_dates is_run 7 (tot_of periods cell c) d))
  unfolding net_tot7
  tot7_minus d =
      signed_cong 7 _ _
      (λ k l.
      ap (λ x. cond (leb k d && is_run (d - k)) x (pos 0)) (tot_minus (d - k))
      ∙ cond_minus (leb k d && is_run (d - k)) (sum_over imports (λ c. tot_of periods cell c (d - k))) (sum_over exports (λ c. tot_of periods cell c (d - k))))
      ∙ signed_minus 7 _ _
      ∙ ap₂ (λ x y. pos x -ℤ pos y) (side_week imports 7 d) (side_week exports 7 d)

  -- ---- with the two lists exchanged every sign changes

  pub period_swapped : (d j : ℕ) → net_period periods is_run cell exports imports d j ≡ neg_ℤ (net_period periods is_run cell imports exports d j)
  unfolding net_period
  period_swapped d j = minus_swapped (sum_over imports (λ c. (cell d c j).value)) (sum_over exports (λ c. (cell d c j).value))

  pub tot_swapped : (d : ℕ) → net_tot periods is_run cell exports imports d ≡ neg_ℤ (net_tot periods is_run cell imports exports d)
  unfolding net_tot
  tot_swapped d =
      signed_cong periods _ _ (λ k l. period_swapped d (suc k)) ∙ signed_neg periods (λ k. net_period periods is_run cell imports exports d (suc k))

  cond_neg : (b : Bool) (x : ℤ) → cond b (neg_ℤ x) (pos 0) ≡ neg_ℤ (cond b x (pos 0))
  cond_neg true x = refl
  cond_neg false x = refl

  pub tot7_swapped : (d : ℕ) → net_tot7 periods is_run cell exports imports d ≡ neg_ℤ (net_tot7 periods is_run cell imports exports d)
  unfolding net_tot7
  tot7_swapped d =
      signed_cong 7 _ _
      (λ k l. ap (λ x. cond (leb k d && is_run (d - k)) x (pos 0)) (tot_swapped (d - k)) ∙ cond_neg (leb k d && is_run (d - k)) (net_tot periods is_run cell imports exports (d - k)))
      ∙ signed_neg 7 (λ k. cond (leb k d && is_run (d - k)) (net_tot periods is_run cell imports exports (d - k)) (pos 0))

  or_swapped : (a b : Bool) → (a || b) ≡ (b || a)
  or_swapped true true = refl
  or_swapped true false = refl
  or_swapped false true = refl
  or_swapped false false = refl

  pub mark_swapped : (d j : ℕ) → mark_of periods is_run cell exports imports d j ≡ mark_of periods is_run cell imports exports d j
  unfolding mark_of
  mark_swapped d j =
      ap (λ b. cond b 1 0)
      (any_of_append exports imports (λ c. is_n (cell d c j).flag)
      ∙ or_swapped (any_of exports (λ c. is_n (cell d c j).flag)) (any_of imports (λ c. is_n (cell d c j).flag))
      ∙ sym (any_of_append imports exports (λ c. is_n (cell d c j).flag)))

-- ---- nets of a date whose cells are alike

module _ (periods : ℕ) (run run' : ℕ → Bool) (cell cell' : ℕ → ℕ → ℕ → Cell) (C : ℕ) (imports exports : List ℕ) (low : Every (λ c. c < C) imports) (high : Every (λ c. c < C) exports)
    (d : ℕ) (alike : (c k : ℕ) → c < C → k < periods → cell d c (suc k) ≡ cell' d c (suc k)) where
  side_cong : (side : List ℕ) → Every (λ c. c < C) side → (k : ℕ) → k < periods →
      sum_over side (λ c. (cell d c (suc k)).value) ≡ sum_over side (λ c. (cell' d c (suc k)).value)
  side_cong side all k l = sum_over_cong side _ _ (λ c. c < C) all (λ c m. ap (λ a. a.value) (alike c k m l))

  pub period_cong : (k : ℕ) → k < periods → net_period periods run cell imports exports d (suc k) ≡ net_period periods run' cell' imports exports d (suc k)
  unfolding net_period
  period_cong k l = ap₂ (λ a b. pos a -ℤ pos b) (side_cong imports low k l) (side_cong exports high k l)

  pub tot_cong : net_tot periods run cell imports exports d ≡ net_tot periods run' cell' imports exports d
  unfolding net_tot
  tot_cong = signed_cong periods _ _ period_cong

  pub mark_cong : (k : ℕ) → k < periods → mark_of periods run cell imports exports d (suc k) ≡ mark_of periods run' cell' imports exports d (suc k)
  unfolding mark_of
  mark_cong k l =
      ap (λ b. cond b 1 0)
      (any_of_cong (imports ++ exports) _ _ (λ c. c < C) (every_append (λ c. c < C) imports exports low high) (λ c m. ap (λ a. is_n a.flag) (alike c k m l)))
