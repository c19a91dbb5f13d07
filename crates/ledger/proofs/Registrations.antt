-- The meters part: what a stored registration changes, and what it does not.
use Rattle.std.proofs.Common.{◌≡◌, ℕ, zero, suc, ◌+◌, ◌*◌, ◌<◌, ◌≤◌, true, false, eqb, leb, ◌≢◌, List, [], ◌∷◌, ◌++◌, length, get_or, set, sym, refl, ap, ◌∙◌, add-zero, add-suc, suc-add, arith, length-set, get_or-set_other, get_or-set_same, eq-eqb, ne_eqb, leb-false, leb-true}
use lib.Arith.{lt_of_le-ne}
use lib.Seq.{sets, length-sets}
use borrow.Table.Steps.{cases}
use Rattle.ledger.specs.Checks.{Registration}
use Rattle.ledger.specs.Sizes.{meters_length}
use Rattle.ledger.specs.Ledger.{Meter}
use Rattle.ledger.specs.Store.{mpan_at, registration_index, registration_at, used_from, registrations_at, put_registration}
use Rattle.ledger.proofs.Lists.{get_d_sets_below, get_d_sets_above, get_d_sets_at}
use Rattle.ledger.proofs.Relation.{MeterAt, FreeAt}

-- ---- slots that stand

-- slot x is the same in both lists
pub record SlotSame (M : ℕ) (m m' : List ℕ) (x : ℕ) : Type 0 where
  pub mpan : mpan_at m' x ≡ mpan_at m x
  pub registrations : (k : ℕ) → k < 8 → registration_at M m' x k ≡ registration_at M m x k

module _ (M : ℕ) (m : List ℕ) (x : ℕ) where
  used_none : (n k : ℕ) → eqb (registration_at M m x k).status 0 ≡ true → used_from M m x (suc n) k ≡ []
  unfolding used_from
  used_none n k e = rw e

  used_one : (n k : ℕ) → eqb (registration_at M m x k).status 0 ≡ false → used_from M m x (suc n) k ≡ registration_at M m x k ∷ used_from M m x n (suc k)
  unfolding used_from
  used_one n k e = rw e

  used_end : (k : ℕ) → used_from M m x 0 k ≡ []
  unfolding used_from
  used_end k = refl

used_same : (M : ℕ) (m m' : List ℕ) (x : ℕ) → ((k : ℕ) → k < 8 → registration_at M m' x k ≡ registration_at M m x k) →
    (n k : ℕ) → k + n ≤ 8 → used_from M m' x n k ≡ used_from M m x n k
used_same M m m' x same zero k h = used_end M m' x k ∙ sym (used_end M m x k)
used_same M m m' x same (suc n) k h =
    let e = same k (omega arith) in
    cases (eqb (registration_at M m x k).status 0)
    (λ q. used_none M m' x n k (rw e q) ∙ sym (used_none M m x n k q))
    (λ q.
    used_one M m' x n k (rw e q)
    ∙ rw (e, used_same M m m' x same n (suc k) (omega arith)) (sym (used_one M m x n k q)))

pub meter_stands : (M : ℕ) (m m' : List ℕ) (x : ℕ) (y : Meter) → SlotSame M m m' x → MeterAt M m x y → MeterAt M m' x y
unfolding registrations_at
meter_stands M m m' x y s a =
    record {
      mpan_is = s.mpan ∙ a.mpan_is;
      are = used_same M m m' x s.registrations 8 0 (omega arith) ∙ a.are;
      unused = λ k l h. ap (λ r. r.status) (s.registrations k h) ∙ a.unused k l h;
    }

pub free_stands : (M : ℕ) (m m' : List ℕ) (x : ℕ) → SlotSame M m m' x → FreeAt M m x → FreeAt M m' x
free_stands M m m' x s a =
    record { no_mpan = s.mpan ∙ a.no_mpan; unused = λ k h. ap (λ r. r.status) (s.registrations k h) ∙ a.unused k h }

-- where five entries are the same, so is the registration
five_same : (M : ℕ) (m m' : List ℕ) (x k : ℕ) → ((f : ℕ) → f < 5 → get_or m' (registration_index M x k + f) 0 ≡ get_or m (registration_index M x k + f) 0) →
    registration_at M m' x k ≡ registration_at M m x k
unfolding registration_at
five_same M m m' x k same =
    let zeroth : get_or m' (registration_index M x k) 0 ≡ get_or m (registration_index M x k) 0 = rw (add-zero (registration_index M x k)) at (same 0 (omega arith)) in
    λ i.
    record {
      moment = zeroth i;
      category = same 1 (omega arith) i;
      sender = same 2 (omega arith) i;
      status = same 3 (omega arith) i;
      limit = same 4 (omega arith) i;
    }

-- lists alike below the least length have the same slots
pub slots_alike : (M : ℕ) (m m' : List ℕ) → ((i : ℕ) → i < meters_length M → get_or m' i 0 ≡ get_or m i 0) → (x : ℕ) → x < M → SlotSame M m m' x
unfolding meters_length mpan_at registration_index
slots_alike M m m' same x h =
    record { mpan = same x (omega arith); registrations = λ k l. five_same M m m' x k (λ f g. same (M + 40 * x + 5 * k + f) (omega arith)) }

-- ---- a registration put into a slot

abbrev fields : Registration → List ℕ
fields r = r.moment ∷ r.category ∷ r.sender ∷ r.status ∷ r.limit ∷ []

module _ (M mpan slot k : ℕ) (r : Registration) (m : List ℕ) (hs : slot < M) (hk : k < 8) (long : meters_length M ≤ length m) where
  pub length_put : length (put_registration M mpan slot k r m) ≡ length m
  unfolding put_registration
  length_put = length-sets (set m slot mpan) (registration_index M slot k) (fields r) ∙ length-set m slot mpan

  -- entries elsewhere stand
  put_below : (i : ℕ) → i ≢ slot → i < registration_index M slot k → get_or (put_registration M mpan slot k r m) i 0 ≡ get_or m i 0
  unfolding put_registration
  put_below i a b = get_d_sets_below (fields r) (set m slot mpan) (registration_index M slot k) i b ∙ get_or-set_other m slot i mpan 0 a

  put_above : (i : ℕ) → i ≢ slot → registration_index M slot k + 5 ≤ i → get_or (put_registration M mpan slot k r m) i 0 ≡ get_or m i 0
  unfolding put_registration
  put_above i a b = get_d_sets_above (fields r) (set m slot mpan) (registration_index M slot k) i b ∙ get_or-set_other m slot i mpan 0 a

  pub put_mpan : mpan_at (put_registration M mpan slot k r m) slot ≡ mpan
  unfolding put_registration mpan_at registration_index meters_length
  put_mpan = get_d_sets_below (fields r) (set m slot mpan) (registration_index M slot k) slot (omega arith) ∙ get_or-set_same m slot mpan 0 (omega arith)

  pub put_registration_lem : registration_at M (put_registration M mpan slot k r m) slot k ≡ r
  unfolding put_registration registration_at registration_index meters_length
  put_registration_lem =
      let vs = fields r in
      let l = set m slot mpan in
      let at = M + 40 * slot + 5 * k in
      let room : at + 5 ≤ length l = rw length-set (omega arith) in
      λ i.
      record {
        moment = (ap (λ x. get_or (sets l at vs) x 0) (sym (add-zero at)) ∙ get_d_sets_at vs l at 0 (omega arith) room) i;
        category = get_d_sets_at vs l at 1 (omega arith) room i;
        sender = get_d_sets_at vs l at 2 (omega arith) room i;
        status = get_d_sets_at vs l at 3 (omega arith) room i;
        limit = get_d_sets_at vs l at 4 (omega arith) room i;
      }

  -- the other registrations of the slot stand
  pub put_others : (j : ℕ) → j < 8 → j ≢ k → registration_at M (put_registration M mpan slot k r m) slot j ≡ registration_at M m slot j
  unfolding registration_index
  put_others j h n =
      five_same M m (put_registration M mpan slot k r m) slot j
      (λ f g.
      cases (leb (suc j) k)
      (λ q. put_below _ (λ (e : M + 40 * slot + 5 * j + f ≡ slot). omega arith) (let l = leb-true (suc j) k q in omega arith))
      (λ q. put_above _ (λ (e : M + 40 * slot + 5 * j + f ≡ slot). omega arith) (let l = leb-false (suc j) k q in let p = lt_of_le-ne {i = k} {k = j} (omega arith) (λ (e : k ≡ j). n (sym e)) in omega arith)))

  -- the other slots stand
  pub put_slots : (x : ℕ) → x < M → x ≢ slot → SlotSame M m (put_registration M mpan slot k r m) x
  unfolding registration_index mpan_at
  put_slots x h n =
      record {
        mpan = put_below x n (omega arith);
        registrations = λ j l.
            five_same M m (put_registration M mpan slot k r m) x j
            (λ f g.
            cases (leb (suc x) slot)
            (λ q. put_below _ (λ (e : M + 40 * x + 5 * j + f ≡ slot). omega arith) (let p = leb-true (suc x) slot q in omega arith))
            (λ q. put_above _ (λ (e : M + 40 * x + 5 * j + f ≡ slot). omega arith) (let p = leb-false (suc x) slot q in let w = lt_of_le-ne {i = slot} {k = x} (omega arith) (λ (e : slot ≡ x). n (sym e)) in omega arith)));
      }

-- ---- one registration more

-- the next registration of a slot: those before it stand, those after it are unused
module _ (M : ℕ) (m m' : List ℕ) (x : ℕ) (r : Registration) (used : r.status ≢ 0) where
  pub used_more : (rs : List Registration) (n k : ℕ) → used_from M m x n k ≡ rs → length rs < n →
      ((j : ℕ) → k ≤ j → j < k + n → j ≢ k + length rs → registration_at M m' x j ≡ registration_at M m x j) →
      registration_at M m' x (k + length rs) ≡ r →
      ((j : ℕ) → k + length rs < j → j < k + n → (registration_at M m' x j).status ≡ 0) →
      used_from M m' x n k ≡ rs ++ (r ∷ [])
  used_more rs zero k e h same here past = absurd (omega arith)
  used_more [] (suc n) k e h same here past =
      let at : registration_at M m' x k ≡ r = rw (add-zero k) at here in
      used_one M m' x n k (ne_eqb (registration_at M m' x k).status 0 (rw at used)) ∙ rw at (ap (λ ys. r ∷ ys) (none n (λ j l w. past j (omega arith) (omega arith))))
    where
      none : (n : ℕ) → ((j : ℕ) → k < j → j < k + suc n → (registration_at M m' x j).status ≡ 0) → used_from M m' x n (suc k) ≡ []
      none zero p = used_end M m' x (suc k)
      none (suc n) p = used_none M m' x n (suc k) (eq-eqb _ 0 (p (suc k) (omega arith) (omega arith)))
  used_more (y ∷ rs) (suc n) k e h same here past =
      cases (eqb (registration_at M m x k).status 0)
      (λ q. absurd (let z : ◌≡◌ {A = ℕ} 0 1 = cc (used_none M m x n k q) in omega arith))
      (λ q.
      let first = used_one M m x n k q in
      let is_y : registration_at M m x k ≡ y = cc in
      let are : used_from M m x n (suc k) ≡ rs = cc in
      let stands = same k (omega arith) (omega arith) (λ (w : k ≡ k + suc (length rs)). omega arith) in
      let z : k + suc (length rs) ≡ suc k + length rs = add-suc k (length rs) ∙ sym (suc-add k (length rs)) in
      used_one M m' x n k (rw stands q)
      ∙ rw (stands, is_y)
      (ap (λ ys. y ∷ ys)
      (used_more rs n (suc k) are (omega arith)
      (λ j l w v. same j (omega arith) (omega arith) (rw z v))
      (rw z at here)
      (λ j l w. past j (rw z l) (omega arith)))))
