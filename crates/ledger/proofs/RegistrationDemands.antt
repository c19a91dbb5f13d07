-- Registrations: the one in force and the one appointed, said once more in words; and a sender wherever one is in force.
use Rattle.std.proofs.Common.{◌≡◌, ℕ, ◌+◌, ◌*◌, ◌/◌, ◌%◌, ◌<◌, ◌≤◌, eqb, ◌⊎◌, ◌↔◌, List, [], ◌∷◌, ◌++◌, sym, refl, ap, ◌∙◌, inl, inr, ⊎_elim, arith, eq-eqb, ne_eqb, eqb-true}
use mathlib.Core.Option.{Option, none, some, none-ne-some, some-injective}
use borrow.Table.Steps.{cases}
use borrow.Author.Tests.{eqb-false}
use Rattle.ledger.specs.Checks.{Registration, moment_of, start_of, starts, later, latest_from, in_force, appointed}
use Rattle.ledger.specs.Engine.{Every}
use Rattle.ledger.specs.Demands.{date_of, minute_of, RegisteredAsGiven, StartsOn, StartedBy, StartsNoLater, ByMidday, IsLatest, InForceExact, AppointedExact, SenderWhereInForce}
use Rattle.ledger.proofs.Chosen.{every_more}
use Rattle.ledger.proofs.Latest.{best_key, taken_or_left}

-- ---- date, minute, start

pub registered_as_given : RegisteredAsGiven
unfolding moment_of
registered_as_given a h = (omega arith, omega arith)

pub starts_on : (date minute start : ℕ) → StartsOn date minute start → start_of date minute ≡ start
unfolding start_of
starts_on date minute start s = ⊎_elim (λ h. rw (eq-eqb minute 0 h.0, h.1)) (λ h. rw (ne_eqb minute 0 h.0, h.1)) s

pub starts_is : (r : Registration) (start : ℕ) → StartsOn (date_of r) (minute_of r) start → starts r ≡ start
unfolding starts
starts_is r start s = starts_on (date_of r) (minute_of r) start s

pub starts_there : (r : Registration) → StartsOn (date_of r) (minute_of r) (starts r)
unfolding starts start_of
starts_there r = cases (eqb (minute_of r) 0) (λ q. rw q (inl (eqb-true _ 0 q, refl))) (λ q. rw q (inr (eqb-false _ 0 q, refl)))

-- ---- the search, by any key and bound

module _ (key : Registration → ℕ) (bound : ℕ) where
  abbrev LatestByKey : List Registration → Registration → Type 0
  LatestByKey rs r = IsLatest (λ x. key x ≤ bound) (λ x y. key x ≤ key y) rs r

  before : (x : Registration) (rs : List Registration) (r : Registration) → (key x ≤ bound → key x ≤ key r) → LatestByKey rs r → LatestByKey (x ∷ rs) r
  before x rs r h l =
      record {
        earlier = x ∷ l.earlier;
        following = l.following;
        among = rw l.among;
        in_time = l.in_time;
        none_later = (h, l.none_later);
        none_as_late = l.none_as_late;
      }

  -- the one found was the best already, or it is the latest of the list
  found : (best : Option Registration) (rs : List Registration) (r : Registration) → latest_from key bound best rs ≡ some r →
      ((best ≡ some r) × Every (λ x. key x ≤ bound → key r ≤ key x → ⊥) rs) ⊎ ((best_key key best ≤ key r) × LatestByKey rs r)
  unfolding latest_from
  found best [] r e = inl (e, tt)
  found best (x ∷ rs) r e =
      let rest = found (later key bound best x) rs r e in
      ⊎_elim
      (λ t.
      ⊎_elim
      (λ s.
      let same : x ≡ r = some-injective x r (sym t.0 ∙ s.0) in
      inr (
        rw same at t.2,
        record { earlier = []; following = rs; among = rw same; in_time = rw same at t.1; none_later = tt; none_as_late = s.1 },
      ))
      (λ s. let below : key x ≤ key r = rw t.0 at s.0 in inr (omega (arith, t.2, below), before x rs r (λ h. below) s.1))
      rest)
      (λ t.
      ⊎_elim
      (λ s. let is : best ≡ some r = sym t.0 ∙ s.0 in inl (is, ((λ h w. let z : key x < key r = rw is at (t.1 h) in omega arith), s.1)))
      (λ s. let p : best_key key best ≤ key r = rw t.0 at s.0 in inr (p, before x rs r (λ h. let z = t.1 h in omega arith) s.1))
      rest)
      (taken_or_left key bound best x)

  stays : (r : Registration) (rs : List Registration) → Every (λ x. key x ≤ bound → key r ≤ key x → ⊥) rs → latest_from key bound (some r) rs ≡ some r
  unfolding latest_from
  stays r [] h = refl
  stays r (x ∷ rs) h = ⊎_elim (λ t. absurd (h.0 t.1 t.2)) (λ t. rw t.0 (stays r rs h.1)) (taken_or_left key bound (some r) x)

  comes : (best : Option Registration) (xs : List Registration) (r : Registration) (ys : List Registration) → best_key key best ≤ key r → Every (λ x. key x ≤ bound → key x ≤ key r) xs →
      key r ≤ bound → Every (λ x. key x ≤ bound → key r ≤ key x → ⊥) ys → latest_from key bound best (xs ++ (r ∷ ys)) ≡ some r
  unfolding latest_from
  comes best [] r ys p h in_time h' = ⊎_elim (λ t. ap (λ b. latest_from key bound b ys) t.0 ∙ stays r ys h') (λ t. absurd (let z = t.1 in_time in omega arith)) (taken_or_left key bound best r)
  comes best (x ∷ xs) r ys p h in_time h' =
      ⊎_elim
      (λ t. ap (λ b. latest_from key bound b (xs ++ (r ∷ ys))) t.0 ∙ comes (some x) xs r ys (h.0 t.1) h.1 in_time h')
      (λ t. ap (λ b. latest_from key bound b (xs ++ (r ∷ ys))) t.0 ∙ comes best xs r ys p h.1 in_time h')
      (taken_or_left key bound best x)

  latest_exact : (rs : List Registration) (r : Registration) → (latest_from key bound none rs ≡ some r) ↔ LatestByKey rs r
  latest_exact rs r = (
    λ e. ⊎_elim (λ s. absurd (none-ne-some r s.0)) (λ s. s.1) (found none rs r e),
    λ l. rw l.among (comes none l.earlier r l.following (omega arith) l.none_later l.in_time l.none_as_late),
  )

-- ---- in words

-- being the latest says the same in other words for "in time" and "no later"
reworded : {P Q : Registration → Type 0} {L K : Registration → Registration → Type 0} → ((x : Registration) → P x ↔ Q x) → ((x y : Registration) → L x y ↔ K x y) →
    (rs : List Registration) (r : Registration) → IsLatest P L rs r → IsLatest Q K rs r
reworded time order rs r l =
    record {
      earlier = l.earlier;
      following = l.following;
      among = l.among;
      in_time = (time r).0 l.in_time;
      none_later = every_more _ _ l.earlier l.none_later (λ x h t. (order x r).0 (h ((time x).1 t)));
      none_as_late = every_more _ _ l.following l.none_as_late (λ x h t w. h ((time x).1 t) ((order r x).1 w));
    }

in_words : (key : Registration → ℕ) (bound : ℕ) {P : Registration → Type 0} {L : Registration → Registration → Type 0} →
    ((x : Registration) → (key x ≤ bound) ↔ P x) → ((x y : Registration) → (key x ≤ key y) ↔ L x y) →
    (rs : List Registration) (r : Registration) → (latest_from key bound none rs ≡ some r) ↔ IsLatest P L rs r
in_words key bound time order rs r =
    let exact = latest_exact key bound rs r in (
      λ e. reworded time order rs r (exact.0 e),
      λ l. exact.1 (reworded (λ x. ((time x).1, (time x).0)) (λ x y. ((order x y).1, (order x y).0)) rs r l),
    )

started_iff : (date : ℕ) (r : Registration) → (starts r ≤ date) ↔ StartedBy date r
started_iff date r = (λ h start on. rw (starts_is r start on) at h, λ h. h (starts r) (starts_there r))

no_later_iff : (x r : Registration) → (starts x ≤ starts r) ↔ StartsNoLater x r
no_later_iff x r = (
  λ h start on. (started_iff start x).0 (rw (starts_is r start on) at h),
  λ h. (started_iff (starts r) x).1 (h (starts r) (starts_there r)),
)

pub in_force_exact : InForceExact
unfolding in_force
in_force_exact date rs r = in_words _ _ (started_iff date) no_later_iff rs r

-- moments, by date and minute
moment_iff : (m n : ℕ) → (m ≤ n) ↔ ((m / 1440 < n / 1440) ⊎ ((m / 1440 ≡ n / 1440) × (m % 1440 ≤ n % 1440)))
moment_iff m n = (
  λ h. cases (eqb (m / 1440) (n / 1440))
      (λ q. let e = eqb-true (m / 1440) (n / 1440) q in inr (e, omega arith))
      (λ q. let e = eqb-false (m / 1440) (n / 1440) q in inl (omega arith)),
  λ h. ⊎_elim (λ l. omega arith) (λ l. let e = l.0 in let w = l.1 in omega arith) h,
)

midday_iff : (date : ℕ) (r : Registration) → (r.moment ≤ moment_of date 720) ↔ ByMidday date r
unfolding moment_of
midday_iff date r =
    let at : (1440 * date + 720) / 1440 ≡ date = omega arith in
    let minute : (1440 * date + 720) % 1440 ≡ 720 = omega arith in
    rw (at, minute) at (moment_iff r.moment (1440 * date + 720))

pub appointed_exact : AppointedExact
unfolding appointed
appointed_exact date rs r = in_words _ _ (midday_iff date) (λ x y. moment_iff x.moment y.moment) rs r

-- ---- a date with one in force has a sender

abbrev Some : Option Registration → Type 0
Some none = ⊥
Some (some r) = Unit {0}

-- where each that is in time by one key and bound is so by the other, the second search finds one if the first does
module _ (key key' : Registration → ℕ) (bound bound' : ℕ) (in_time : (r : Registration) → key r ≤ bound → key' r ≤ bound') where
  some_step : (best best' : Option Registration) (x : Registration) → (Some best → Some best') → Some (later key bound best x) → Some (later key' bound' best' x)
  some_step best best' x both s =
      ⊎_elim
      (λ t. rw t.0 tt)
      (λ t. rw t.0 (⊎_elim (λ w. beaten_some best' (key' x) (t.1 (in_time x w.1))) (λ w. both (rw w.0 at s)) (taken_or_left key bound best x)))
      (taken_or_left key' bound' best' x)
    where
      beaten_some : (best : Option Registration) (n : ℕ) → n < best_key key' best → Some best
      beaten_some none n h = omega arith
      beaten_some (some b) n h = tt

  some_too : (best best' : Option Registration) (rs : List Registration) → (Some best → Some best') →
      Some (latest_from key bound best rs) → Some (latest_from key' bound' best' rs)
  unfolding latest_from
  some_too best best' [] both s = both s
  some_too best best' (x ∷ rs) both s = some_too (later key bound best x) (later key' bound' best' x) rs (some_step best best' x both) s

-- what has started by a date was registered by its midday
started_by_midday : (date : ℕ) (r : Registration) → starts r ≤ date → r.moment ≤ moment_of date 720
unfolding starts start_of moment_of
started_by_midday date r h =
    cases (eqb (r.moment % 1440) 0)
    (λ q. let z = eqb-true (r.moment % 1440) 0 q in let w : r.moment / 1440 ≤ date = rw q at h in omega arith)
    (λ q. let w : r.moment / 1440 + 1 ≤ date = rw q at h in omega arith)

pub sender_where_in_force : SenderWhereInForce
unfolding in_force appointed
sender_where_in_force date rs r e =
    there (latest_from (λ x. x.moment) (moment_of date 720) none rs) refl
    (some_too starts (λ x. x.moment) date (moment_of date 720) (started_by_midday date) none none rs (λ s. s) (rw e tt))
  where
    there : (x : Option Registration) → latest_from (λ x. x.moment) (moment_of date 720) none rs ≡ x → Some x → (s : Registration) × (latest_from (λ x. x.moment) (moment_of date 720) none rs ≡ some s)
    there none e s = absurd s
    there (some s) e _ = (s, e)
