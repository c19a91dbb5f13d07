-- Known meters in their slots: found, changed, added.
use Rattle.std.proofs.Common.{◌≡◌, ℕ, zero, suc, ◌+◌, ◌<◌, ◌≤◌, Bool, true, false, cond, ◌||◌, eqb, ◌≢◌, List, [], ◌∷◌, ◌++◌, length, sym, refl, ◌∙◌, add-zero, add-suc, suc-add, arith, ne_eqb, eqb-true}
use mathlib.Core.Option.{none, some}
use borrow.Table.Steps.{cases}
use Rattle.ledger.specs.Ledger.{Meter, meter_with, changed}
use Rattle.ledger.specs.Table.{first_from}
use Rattle.ledger.specs.Store.{mpan_at, slot_from}
use Rattle.ledger.proofs.Relation.{SoundMeters, SlotsFrom, MetersFrom}

-- the slot of the first meter with an MPAN, counted from i; past the last where there is none
unfoldable pub position_of : ℕ → ℕ → List Meter → ℕ
position_of mpan i [] = i
position_of mpan i (m ∷ ms) = let rest = position_of mpan (suc i) ms in cond (eqb m.mpan mpan) i rest

position_ge : (mpan i : ℕ) (ms : List Meter) → i ≤ position_of mpan i ms
unfolding position_of
position_ge mpan i [] = omega arith
position_ge mpan i (m ∷ ms) =
    let h = position_ge mpan (suc i) ms in
    (elim (eqb m.mpan mpan) as (λ b. i ≤ cond b i (position_of mpan (suc i) ms)) [ true ↦ omega arith | false ↦ omega arith ])

module _ (mpan : ℕ) (m : Meter) (ms : List Meter) where
  found_here : eqb m.mpan mpan ≡ true → meter_with mpan (m ∷ ms) ≡ some m
  unfolding meter_with
  found_here e = rw e

  found_later : eqb m.mpan mpan ≡ false → meter_with mpan (m ∷ ms) ≡ meter_with mpan ms
  unfolding meter_with
  found_later e = rw e

  position_here : (i : ℕ) → eqb m.mpan mpan ≡ true → position_of mpan i (m ∷ ms) ≡ i
  unfolding position_of
  position_here i e = rw e

  position_later : (i : ℕ) → eqb m.mpan mpan ≡ false → position_of mpan i (m ∷ ms) ≡ position_of mpan (suc i) ms
  unfolding position_of
  position_later i e = rw e

  changed_here : (f : Meter → Meter) → eqb m.mpan mpan ≡ true → changed mpan f (m ∷ ms) ≡ f m ∷ ms
  unfolding changed
  changed_here f e = rw e

  changed_later : (f : Meter → Meter) → eqb m.mpan mpan ≡ false → changed mpan f (m ∷ ms) ≡ m ∷ changed mpan f ms
  unfolding changed
  changed_later f e = rw e

-- an unknown MPAN's place is past the last
pub position_new : (mpan i : ℕ) (ms : List Meter) → meter_with mpan ms ≡ none → position_of mpan i ms ≡ i + length ms
position_new mpan i [] e = unfold position_of in sym (add-zero i)
position_new mpan i (m ∷ ms) e =
    cases (eqb m.mpan mpan)
    (λ q. absurd (let z : ◌≡◌ {A = ℕ} 0 1 = cc (found_here mpan m ms q) in omega arith))
    (λ q. position_later mpan m ms i q ∙ position_new mpan (suc i) ms (sym (found_later mpan m ms q) ∙ e) ∙ suc-add i (length ms) ∙ sym (add-suc i (length ms)))

module _ (M : ℕ) (At : ℕ → Meter → Type 0) (Free : ℕ → Type 0) where
  -- a known MPAN's meter stands at its place
  pub at_position : (mpan i : ℕ) (ms : List Meter) (m : Meter) → SlotsFrom M At Free i ms → meter_with mpan ms ≡ some m →
      (position_of mpan i ms < M) × At (position_of mpan i ms) m × (m.mpan ≡ mpan)
  at_position mpan i [] m a e = absurd (let z : ◌≡◌ {A = ℕ} 0 1 = (unfold meter_with in cc) in omega arith)
  at_position mpan i (x ∷ ms) m a e =
      cases (eqb x.mpan mpan)
      (λ q.
      let same : x ≡ m = cc (found_here mpan x ms q) in
      rw (position_here mpan x ms i q, ← same) (a.0, a.1, eqb-true x.mpan mpan q))
      (λ q. rw (position_later mpan x ms i q) (at_position mpan (suc i) ms m a.2 (sym (found_later mpan x ms q) ∙ e)))

  -- the slots past the known meters are free
  pub free_past : (i : ℕ) (ms : List Meter) → SlotsFrom M At Free i ms → (i + length ms ≤ M) × ((x : ℕ) → i + length ms ≤ x → x < M → Free x)
  free_past i [] a = rw (add-zero i) a
  free_past i (m ∷ ms) a = rw (add-suc i (length ms), ← (suc-add i (length ms))) (free_past (suc i) ms a.2)

  module _ (At' : ℕ → Meter → Type 0) (Free' : ℕ → Type 0) where
    -- all slots stand
    pub slots_kept : (i : ℕ) (ms : List Meter) → SlotsFrom M At Free i ms → ((x : ℕ) (m : Meter) → i ≤ x → x < M → At x m → At' x m) → ((x : ℕ) → i ≤ x → x < M → Free x → Free' x) →
        SlotsFrom M At' Free' i ms
    slots_kept i [] a f g = (a.0, λ x l h. g x l h (a.1 x l h))
    slots_kept i (m ∷ ms) a f g =
        (a.0, f i m (omega arith) a.0 a.1, slots_kept (suc i) ms a.2 (λ x y l. f x y (omega arith)) (λ x l. g x (omega arith)))

    -- one known meter is changed in its slot, the others stand
    pub slots_changed : (mpan : ℕ) (change : Meter → Meter) (i : ℕ) (ms : List Meter) (m : Meter) → SlotsFrom M At Free i ms → meter_with mpan ms ≡ some m →
        ((x : ℕ) (y : Meter) → x ≢ position_of mpan i ms → x < M → At x y → At' x y) →
        (At (position_of mpan i ms) m → At' (position_of mpan i ms) (change m)) →
        ((x : ℕ) → x ≢ position_of mpan i ms → x < M → Free x → Free' x) →
        SlotsFrom M At' Free' i (changed mpan change ms)
    slots_changed mpan change i [] m a e f here g = absurd (let z : ◌≡◌ {A = ℕ} 0 1 = (unfold meter_with in cc) in omega arith)
    slots_changed mpan change i (x ∷ ms) m a e f here g =
        cases (eqb x.mpan mpan)
        (λ q.
        let same : x ≡ m = cc (found_here mpan x ms q) in
        let p = position_here mpan x ms i q in
        rw (changed_here mpan x ms change q) (
          a.0,
          rw same (rw p at here (rw same at a.1)),
          slots_kept (suc i) ms a.2
              (λ y z l h. f y z (rw p (λ (w : y ≡ i). omega arith)) h)
              (λ y l h. g y (rw p (λ (w : y ≡ i). omega arith)) h),
        ))
        (λ q.
        let p = position_later mpan x ms i q in
        let past = position_ge mpan (suc i) ms in
        rw (changed_later mpan x ms change q) (
          a.0,
          f i x (rw p (λ (w : i ≡ position_of mpan (suc i) ms). omega arith)) a.0 a.1,
          slots_changed mpan change (suc i) ms m a.2 (sym (found_later mpan x ms q) ∙ e) (rw p at f) (rw p at here) (rw p at g),
        ))

    -- a new meter takes the first free slot
    pub slots_added : (new : Meter) (i : ℕ) (ms : List Meter) → SlotsFrom M At Free i ms → i + length ms < M →
        ((x : ℕ) (y : Meter) → x ≢ i + length ms → x < M → At x y → At' x y) →
        (Free (i + length ms) → At' (i + length ms) new) →
        ((x : ℕ) → x ≢ i + length ms → x < M → Free x → Free' x) →
        SlotsFrom M At' Free' i (ms ++ (new ∷ []))
    slots_added new i [] a h f here g =
        let z = add-zero i in
        let l : i < M = rw z at h in
        (l, rw z at here (a.1 i (omega arith) l), (l, λ x w v. g x (rw z (λ (q : x ≡ i). omega arith)) v (a.1 x (omega arith) v)))
    slots_added new i (m ∷ ms) a h f here g =
        let z : i + suc (length ms) ≡ suc i + length ms = add-suc i (length ms) ∙ sym (suc-add i (length ms)) in (
          a.0,
          f i m (λ (w : i ≡ i + suc (length ms)). omega arith) a.0 a.1,
          slots_added new (suc i) ms a.2 (rw z at h) (rw z at f) (rw z at here) (rw z at g),
        )

-- ---- the store's search finds the place

module _ (mpan M : ℕ) (meters : List ℕ) (some-mpan : mpan ≢ 0) where
  slot_stops : (n i : ℕ) → (eqb (mpan_at meters i) mpan || eqb (mpan_at meters i) 0) ≡ true → slot_from mpan meters (suc n) i ≡ i
  unfolding slot_from first_from
  slot_stops n i e = rw e

  slot_goes_on : (n i : ℕ) → (eqb (mpan_at meters i) mpan || eqb (mpan_at meters i) 0) ≡ false → slot_from mpan meters (suc n) i ≡ slot_from mpan meters n (suc i)
  unfolding slot_from first_from
  slot_goes_on n i e = rw e

  either : (a : Bool) → (a || true) ≡ true
  either true = refl
  either false = refl

  pub slot_is : (C n i : ℕ) (ms : List Meter) → i + n ≡ M → SoundMeters C ms → MetersFrom M meters i ms → slot_from mpan meters n i ≡ position_of mpan i ms
  slot_is C zero i [] e s a = unfold slot_from first_from position_of in refl
  slot_is C (suc n) i [] e s a =
      slot_stops n i (rw (a.1 i (omega arith) (omega (arith, e))).no_mpan (either (eqb 0 mpan))) ∙ (unfold position_of in refl)
  slot_is C zero i (m ∷ ms) e s a = absurd (let l = a.0 in omega arith)
  slot_is C (suc n) i (m ∷ ms) e s a =
      cases (eqb m.mpan mpan)
      (λ q. slot_stops n i (rw (a.1.mpan_is, q)) ∙ sym (position_here mpan m ms i q))
      (λ q.
      slot_goes_on n i (rw (a.1.mpan_is, q, ne_eqb m.mpan 0 s.0.numbered))
      ∙ slot_is C n (suc i) ms (suc-add i n ∙ sym (add-suc i n) ∙ e) s.1 a.2
      ∙ sym (position_later mpan m ms i q))
