-- A row put among the cells, and the walk over later dates: equations for each turn, by cases on its two tests, that a count finds what a run
-- moves, and that the date's own row stands.
use Rattle.std.proofs.Common.{◌≡◌, ℕ, zero, suc, ◌+◌, ◌-◌, ◌*◌, ◌<◌, ◌≤◌, true, false, eqb, leb, ◌≢◌, List, [], length, get_or, sym, refl, ap, ◌∙◌, ap₂, add-suc, mul-le-mul_right, suc-mul, suc-add, arith, ext_get_or, leb-false, leb-true}
use mathlib.Core.Path.{fun_ext}
use lib.Arith.{lt_of_le-ne}
use lib.Seq.{sets, sets-eq, length-sets}
use borrow.Table.Steps.{cases}
use Rattle.ledger.specs.Table.{tabulate}
use Rattle.ledger.specs.Store.{dates_of, row_length, day_type_of, is_run_at}
use Rattle.ledger.specs.Calls.{carried_entry, row_at, put_row, Published, as_published, Placing, publish, count_only, follows, compared_entry, differing, follow_row, inherited_after, moved_in_row, carry_on, moved_by_row, settled, new_row, ran_from, moved_from, moved_entry, previewed}
use Rattle.ledger.proofs.Lists.{get_d_sets_below, get_d_sets_above, get_d_sets_at, length_tabulate, get_d_tabulate, tabulate_ext, stretch_is, sum_below_cong}

-- ---- a row put in place

module _ (n d : ℕ) (row cells : List ℕ) (long : length row ≡ n) (fits : d * n + n ≤ length cells) where
  put_sets : put_row n d row cells ≡ sets cells (d * n) row
  unfolding put_row
  put_sets = rw (sets-eq row cells (d * n) (rw long fits), long)

  pub length_put_row : length (put_row n d row cells) ≡ length cells
  length_put_row = rw put_sets (length-sets cells (d * n) row)

  pub row_put : (k : ℕ) → k < n → row_at n (put_row n d row cells) d k ≡ get_or row k 0
  unfolding row_at
  row_put k h = rw put_sets (get_d_sets_at row cells (d * n) k (rw long h) (rw long fits))

  -- entries before the row and past it
  put_below : (j : ℕ) → j < d * n → get_or (put_row n d row cells) j 0 ≡ get_or cells j 0
  put_below j h = rw put_sets (get_d_sets_below row cells (d * n) j h)

  put_above : (j : ℕ) → d * n + n ≤ j → get_or (put_row n d row cells) j 0 ≡ get_or cells j 0
  put_above j h = rw put_sets (get_d_sets_above row cells (d * n) j (rw long h))

  pub row_kept : (x k : ℕ) → x ≢ d → k < n → row_at n (put_row n d row cells) x k ≡ row_at n cells x k
  unfolding row_at
  row_kept x k other h =
      cases (leb (suc x) d)
      (λ q. put_below (x * n + k) (let l = leb-true (suc x) d q in omega (arith, mul-le-mul_right n l)))
      (λ q. put_above (x * n + k) (let l = leb-false (suc x) d q in above (lt_of_le-ne (omega arith) (λ (e : d ≡ x). other (sym e)))))
    where
      above : d < x → d * n + n ≤ x * n + k
      above l = omega (arith, mul-le-mul_right n l)

  -- a row put in its own place
  pub put_same : ((k : ℕ) → k < n → get_or row k 0 ≡ row_at n cells d k) → put_row n d row cells ≡ cells
  unfolding row_at
  put_same same =
      ext_get_or 0 (put_row n d row cells) cells length_put_row
      (λ j l.
      cases (leb (suc j) (d * n))
      (λ q. put_below j (leb-true (suc j) (d * n) q))
      (λ q.
      let low : d * n ≤ j = (let p = leb-false (suc j) (d * n) q in omega arith) in
      cases (leb (d * n + n) j)
      (λ p. put_above j (leb-true (d * n + n) j p))
      (λ p.
      let high : j - d * n < n = (let r = leb-false (d * n + n) j p in omega arith) in
      let at : d * n + (j - d * n) ≡ j = omega arith in
      rw at at (row_put (j - d * n) high ∙ same (j - d * n) high))))

-- ---- a turn of the walk

module _ (place : Placing) (s : List ℕ) (t m : ℕ) (inherited : ℕ → ℕ) (d : ℕ) (p : Published) (moved : ℕ) where
  pub carry_on_end : carry_on place s t 0 inherited d p moved ≡ record { published = p; moved = moved }
  unfolding carry_on
  carry_on_end = refl

  pub carry_on_pass : follows s t p.cells d ≡ false → carry_on place s t (suc m) inherited d p moved ≡ carry_on place s t m inherited (suc d) p moved
  unfolding carry_on
  carry_on_pass e = rw e

  pub carry_on_stop : follows s t p.cells d ≡ true → eqb (moved_in_row (row_length s) p.cells d inherited) 0 ≡ true →
      carry_on place s t (suc m) inherited d p moved ≡ record { published = p; moved = moved }
  unfolding carry_on
  carry_on_stop e q = rw (e, q)

  pub carry_on_go : follows s t p.cells d ≡ true → eqb (moved_in_row (row_length s) p.cells d inherited) 0 ≡ false →
      carry_on place s t (suc m) inherited d p moved
      ≡ carry_on place s t m (inherited_after (row_length s) p.cells d inherited) (suc d) (place s d (tabulate (row_length s) (follow_row (row_length s) p.cells d inherited)) p) (moved + moved_in_row (row_length s) p.cells d inherited)
  unfolding carry_on
  carry_on_go e q = rw (e, q)

-- ---- only what stands at the row's places counts

module _ (n d : ℕ) (cells : List ℕ) (f g : ℕ → ℕ) (same : (k : ℕ) → k < n → f k ≡ g k) where
  follow_same : (k : ℕ) → k < n → follow_row n cells d f k ≡ follow_row n cells d g k
  unfolding follow_row
  follow_same k l = rw (same k l)

  after_same : (k : ℕ) → k < n → inherited_after n cells d f k ≡ inherited_after n cells d g k
  unfolding inherited_after
  after_same k l = rw (same k l)

  moved_same : moved_in_row n cells d f ≡ moved_in_row n cells d g
  unfolding moved_in_row differing
  moved_same = sum_below_cong n _ _ (λ k l. rw (follow_same k l))

module _ (place : Placing) (s : List ℕ) where
  pub carry_on_same : (t m : ℕ) (f g : ℕ → ℕ) (d : ℕ) (p : Published) (moved : ℕ) → ((k : ℕ) → k < row_length s → f k ≡ g k) →
      carry_on place s t m f d p moved ≡ carry_on place s t m g d p moved
  carry_on_same t zero f g d p moved same = carry_on_end place s t 0 f d p moved ∙ sym (carry_on_end place s t 0 g d p moved)
  carry_on_same t (suc m) f g d p moved same =
      let n : ℕ = row_length s in
      let e = moved_same n d p.cells f g same in
      cases (follows s t p.cells d)
      (λ b.
      cases (eqb (moved_in_row n p.cells d g) 0)
      (λ z. carry_on_stop place s t m f d p moved b (rw e z) ∙ sym (carry_on_stop place s t m g d p moved b z))
      (λ z.
      carry_on_go place s t m f d p moved b (rw e z)
      ∙ carry_on_same t m _ (inherited_after n p.cells d g) (suc d) _ _ (after_same n d p.cells f g same)
      ∙ ap₂ (λ (row : List ℕ) (x : ℕ). carry_on place s t m (inherited_after n p.cells d g) (suc d) (place s d row p) (moved + x))
      (tabulate_ext n _ _ (follow_same n d p.cells f g same)) e
      ∙ sym (carry_on_go place s t m g d p moved b z)))
      (λ b. carry_on_pass place s t m f d p moved b ∙ carry_on_same t m f g (suc d) p moved same ∙ sym (carry_on_pass place s t m g d p moved b))

  pub settled_same : (f g : ℕ → ℕ) (p : Published) (date : ℕ) → ((k : ℕ) → k < row_length s → f k ≡ g k) →
      settled place s f p date ≡ settled place s g p date
  unfolding settled moved_by_row differing
  settled_same f g p date same =
      rw (
        tabulate_ext (row_length s) f g same,
        sum_below_cong (row_length s) (λ k. moved_entry (compared_entry (row_at (row_length s) p.cells date k)) (f k)) (λ k. moved_entry (compared_entry (row_at (row_length s) p.cells date k)) (g k)) (λ k l. rw (same k l)),
      )
      (carry_on_same (day_type_of s date) (dates_of s - suc date) _ _ (suc date) _ _ (λ k l. ap carried_entry (same k l)))

-- ---- a count finds what a run moves: a row is read before it is written, and rows written earlier do not touch it

-- cells that are alike from date d on
abbrev AlikeFrom : ℕ → ℕ → List ℕ → List ℕ → Type 0
AlikeFrom n d written cells = (j : ℕ) → d * n ≤ j → get_or written j 0 ≡ get_or cells j 0

module _ (n d : ℕ) (written cells : List ℕ) (alike : AlikeFrom n d written cells) where
  row_alike : row_at n written d ≡ row_at n cells d
  row_alike = fun_ext (λ k. unfold row_at in alike (d * n + k) (omega arith))

  run_alike : is_run_at n written d ≡ is_run_at n cells d
  unfolding is_run_at
  run_alike = rw (alike (d * n) (omega arith))

  next_alike : AlikeFrom n (suc d) written cells
  next_alike j l = alike j (omega (arith, suc-mul d n))

  follow_alike : (inherited : ℕ → ℕ) → follow_row n written d inherited ≡ follow_row n cells d inherited
  follow_alike inherited = fun_ext (λ k. unfold follow_row in rw row_alike)

  after_alike : (inherited : ℕ → ℕ) → inherited_after n written d inherited ≡ inherited_after n cells d inherited
  after_alike inherited = fun_ext (λ k. unfold inherited_after in rw row_alike)

  moved_alike : (inherited : ℕ → ℕ) → moved_in_row n written d inherited ≡ moved_in_row n cells d inherited
  unfolding moved_in_row
  moved_alike inherited = rw (row_alike, follow_alike inherited)

  put_alike : (row : List ℕ) → length row ≡ n → d * n + n ≤ length written → AlikeFrom n (suc d) (put_row n d row written) cells
  put_alike row long fits j l = put_above n d row written long fits j (omega (arith, suc-mul d n)) ∙ next_alike j l

module _ (s : List ℕ) (t : ℕ) where
  count_finds : (m : ℕ) (inherited : ℕ → ℕ) (d : ℕ) (q p : Published) (moved : ℕ) → (d + m) * row_length s ≤ length q.cells → AlikeFrom (row_length s) d q.cells p.cells →
      (carry_on count_only s t m inherited d p moved).moved ≡ (carry_on publish s t m inherited d q moved).moved
  count_finds zero inherited d q p moved fits alike = rw (carry_on_end count_only s t 0 inherited d p moved, carry_on_end publish s t 0 inherited d q moved)
  count_finds (suc m) inherited d q p moved fits alike =
      let n : ℕ = row_length s in
      let written = q.cells in
      let cells = p.cells in
      let test : follows s t written d ≡ follows s t cells d = rw (run_alike n d written cells alike) in
      let e : moved_in_row n written d inherited ≡ moved_in_row n cells d inherited = moved_alike n d written cells alike inherited in
      let rest : (suc d + m) * n ≤ length written = rw (suc-add d m, ← (add-suc d m)) fits in
      let here : d * n + n ≤ length written = omega (arith, suc-mul d n, rest, mul-le-mul_right n (more d m)) in
      cases (follows s t cells d)
      (λ b.
      cases (eqb (moved_in_row n cells d inherited) 0)
      (λ z. rw (carry_on_stop count_only s t m inherited d p moved b z, carry_on_stop publish s t m inherited d q moved (test ∙ b) (rw e z)))
      (λ z.
      let row = tabulate n (follow_row n written d inherited) in
      let long : length row ≡ n = length_tabulate n (follow_row n written d inherited) in
      rw (carry_on_go count_only s t m inherited d p moved b z, carry_on_go publish s t m inherited d q moved (test ∙ b) (rw e z), e, after_alike n d written cells alike inherited)
      (count_finds m (inherited_after n cells d inherited) (suc d) (publish s d row q) p _ (rw (length_put_row n d row written long here) rest) (put_alike n d written cells alike row long here))))
      (λ b.
      rw (carry_on_pass count_only s t m inherited d p moved b, carry_on_pass publish s t m inherited d q moved (test ∙ b))
      (count_finds m inherited (suc d) q p moved rest (next_alike n d written cells alike)))
    where
      more : (d m : ℕ) → suc d ≤ suc d + m
      more d m = omega arith

-- what a run reports can be counted before it, without the days
pub counted_first : (s meters readings cells days : List ℕ) (date : ℕ) → date < dates_of s → dates_of s * row_length s ≤ length cells →
    moved_from s meters readings cells date ≡ (ran_from s meters readings cells days date).moved
unfolding moved_from ran_from settled
counted_first s meters readings cells days date h room =
    let n : ℕ = row_length s in
    let new = new_row s meters readings cells date in
    let long : length (tabulate n new) ≡ n = length_tabulate n new in
    let here : date * n + n ≤ length cells = omega (arith, suc-mul date n, room, mul-le-mul_right n h) in
    let all : suc date + (dates_of s - suc date) ≡ dates_of s = omega arith in
    count_finds s (day_type_of s date) (dates_of s - suc date) (λ k. carried_entry (new k)) (suc date)
    (publish s date (tabulate n new) (as_published cells days))
    (as_published cells [])
    (moved_by_row n cells date new)
    (rw (all, length_put_row n date (tabulate n new) cells long here) room)
    (put_alike n date cells cells (λ j l. refl) (tabulate n new) long here)

-- ---- the date's own row stands while later rows are written, so a run leaves the new one in its place

module _ (s : List ℕ) (t : ℕ) where
  -- entries before the walk's first date
  walk_keeps : (m : ℕ) (inherited : ℕ → ℕ) (d : ℕ) (p : Published) (moved : ℕ) → (d + m) * row_length s ≤ length p.cells →
      let left = (carry_on publish s t m inherited d p moved).published.cells in
      (length left ≡ length p.cells) × ((j : ℕ) → j < d * row_length s → get_or left j 0 ≡ get_or p.cells j 0)
  walk_keeps zero inherited d p moved fits = rw (carry_on_end publish s t 0 inherited d p moved) (refl, λ j l. refl)
  walk_keeps (suc m) inherited d p moved fits =
      let n : ℕ = row_length s in
      let rest : (suc d + m) * n ≤ length p.cells = rw (suc-add d m, ← (add-suc d m)) fits in
      let here : d * n + n ≤ length p.cells = omega (arith, suc-mul d n, rest, mul-le-mul_right n (more d m)) in
      cases (follows s t p.cells d)
      (λ b.
      cases (eqb (moved_in_row n p.cells d inherited) 0)
      (λ z. rw (carry_on_stop publish s t m inherited d p moved b z) (refl, λ j l. refl))
      (λ z.
      let row = tabulate n (follow_row n p.cells d inherited) in
      let long : length row ≡ n = length_tabulate n (follow_row n p.cells d inherited) in
      let on = walk_keeps m (inherited_after n p.cells d inherited) (suc d) (publish s d row p) _ (rw (length_put_row n d row p.cells long here) rest) in
      rw (carry_on_go publish s t m inherited d p moved b z)
      (on.0 ∙ length_put_row n d row p.cells long here, λ j l. on.1 j (omega (arith, suc-mul d n)) ∙ put_below n d row p.cells long here j l)))
      (λ b.
      let on = walk_keeps m inherited (suc d) p moved rest in
      rw (carry_on_pass publish s t m inherited d p moved b) (on.0, λ j l. on.1 j (omega (arith, suc-mul d n))))
    where
      more : (d m : ℕ) → suc d ≤ suc d + m
      more d m = omega arith

pub previewed_is : (s meters readings cells days : List ℕ) (date : ℕ) → date < dates_of s → dates_of s * row_length s ≤ length cells →
    previewed s meters readings cells days date ≡ tabulate (row_length s) (new_row s meters readings cells date)
unfolding previewed ran_from settled row_at
previewed_is s meters readings cells days date h room =
    let n : ℕ = row_length s in
    let new = new_row s meters readings cells date in
    let long : length (tabulate n new) ≡ n = length_tabulate n new in
    let here : date * n + n ≤ length cells = omega (arith, suc-mul date n, room, mul-le-mul_right n h) in
    let all : suc date + (dates_of s - suc date) ≡ dates_of s = omega arith in
    let as_long = length_put_row n date (tabulate n new) cells long here in
    let keeps =
    walk_keeps s (day_type_of s date) (dates_of s - suc date) (λ k. carried_entry (new k)) (suc date)
    (publish s date (tabulate n new) (as_published cells days))
    (moved_by_row n cells date new)
    (rw (all, as_long) room) in
    stretch_is n (date * n) _ new (rw (keeps.0, as_long) here)
    (λ k l.
    keeps.1 (date * n + k) (omega (arith, suc-mul date n))
    ∙ row_put n date (tabulate n new) cells long here k l
    ∙ get_d_tabulate n new k l)
