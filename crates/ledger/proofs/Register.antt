-- A registration: the store's checks are the ledger's, since it finds the same meter; and what an accepted one writes keeps the relation.
use Rattle.std.proofs.Common.{◌≡◌, ℕ, zero, suc, ◌+◌, ◌<◌, ◌≤◌, Bool, true, false, cond, ◌&&◌, eqb, ltb, leb, ◌≢◌, List, [], ◌∷◌, ◌++◌, length, sym, refl, ap, ◌∙◌, zero-add, add-one, arith, length-append, ltb-true, lt-ltb, eq-eqb, ne_eqb, eqb-true, leb-false}
use mathlib.Core.Option.{Option, none, some}
use borrow.Table.Steps.{cases}
use Rattle.metering.specs.Mpan.{mpan_valid}
use Rattle.metering.proofs.Laws.{mpan_valid_bounds}
use Rattle.ledger.specs.Checks.{Registration, RegistrationCall, first_number, call_number, registered, start_of, any_below, meter_number, registration_check}
use Rattle.ledger.specs.Ledger.{Opening, categories, dates, Meter, Ledger, meter_with, changed, registrations_of, held_from, with_registration, register_in}
use Rattle.ledger.specs.Store.{used_from, meters_of, dates_of, categories_of, periods_of, mpan_at, slot_of, registration_at, registrations_at, known_at, put_registration}
use Rattle.ledger.specs.Calls.{used_of, slot_for, registrations_for, held_from_at, registered_meters}
use Rattle.ledger.proofs.Choices.{check_passed, both_passed, call_passed, fields_passed, known_passed}
use Rattle.ledger.proofs.Relation.{SoundRegistrations, SoundMeter, SoundMeters, SettingsAgree, MeterAt, FreeAt, MetersAgree, HeldAt, NotHeldAt, ReadingsAgree, Sound}
use Rattle.ledger.proofs.Slots.{position_of, position_new, at_position, free_past, slots_changed, slots_added, slot_is}
use Rattle.ledger.proofs.Registrations.{SlotSame, meter_stands, free_stands, length_put, put_mpan, put_registration_lem, put_others, put_slots, used_more}

any_cong : (n : ℕ) (f g : ℕ → Bool) → ((k : ℕ) → k < n → f k ≡ g k) → any_below n f ≡ any_below n g
unfolding any_below
any_cong zero f g h = refl
any_cong (suc n) f g h = rw (any_cong n f g (λ k l. h k (omega arith)), h n (omega arith))

-- ---- what the store finds of an MPAN is what the ledger finds

module _ (o : Opening) (s m r : List ℕ) (known : List Meter) (agree : SettingsAgree o s) (metersAgree : MetersAgree o m known)
    (readingsAgree : ReadingsAgree o r known) (C : ℕ) (sound : SoundMeters C known) (mpan : ℕ) (numbered : mpan ≢ 0) where
  slot_there : slot_of o.meters mpan m ≡ position_of mpan 0 known
  unfolding slot_of
  slot_there = slot_is mpan o.meters m numbered C o.meters 0 known (zero-add o.meters) sound metersAgree.slots

  pub slot_found : slot_for s m r mpan ≡ position_of mpan 0 known
  unfolding slot_for
  slot_found = rw agree.meters slot_there

  found_as : (x : Option Meter) → meter_with mpan known ≡ x →
      cond (ltb (position_of mpan 0 known) o.meters && eqb (mpan_at m (position_of mpan 0 known)) mpan) (some (registrations_at o.meters m (position_of mpan 0 known))) none
      ≡ registrations_of x
  found_as none e =
      let p = position_new mpan 0 known e ∙ zero-add (length known) in
      cases (ltb (position_of mpan 0 known) o.meters)
      (λ q.
      let l = ltb-true (position_of mpan 0 known) o.meters q in
      let f = (free_past o.meters (MeterAt o.meters m) (FreeAt o.meters m) 0 known metersAgree.slots).1 (position_of mpan 0 known) (omega (arith, p, zero-add (length known))) l in
      rw (q, f.no_mpan, ne_eqb 0 mpan (λ w. numbered (sym w))))
      (λ q. rw q)
  found_as (some x) e =
      let a = at_position o.meters (MeterAt o.meters m) (FreeAt o.meters m) mpan 0 known x metersAgree.slots e in
      rw (lt-ltb (position_of mpan 0 known) o.meters a.0, a.1.mpan_is, a.2, eq-eqb mpan mpan refl, a.1.are)

  pub registrations_found : registrations_for s m r mpan ≡ registrations_of (meter_with mpan known)
  unfolding registrations_for known_at slot_for
  registrations_found = rw (agree.meters, slot_there) (found_as (meter_with mpan known) refl)

  -- whether sets are held on or after a start
  held_found : (from : ℕ) (x : Meter) → meter_with mpan known ≡ some x → held_from_at s m r from (slot_for s m r mpan) ≡ held_from (dates o) from (some x)
  unfolding held_from_at held_from periods_of
  held_found from x e =
      let a = at_position o.meters (HeldAt o r) (NotHeldAt o r) mpan 0 known x readingsAgree.slots e in
      rw (slot_found, agree.dates_are) (any_cong (dates o) _ _ (λ d l. rw (agree.meters, agree.duration, a.1.marks d l)))

  -- the checks that look at what is known
  meter_number_lem : (from : ℕ) →
      meter_number (leb (meters_of s) (slot_for s m r mpan)) from (held_from_at s m r from (slot_for s m r mpan)) (registrations_for s m r mpan)
      ≡ meter_number (leb o.meters (length known)) from (held_from (dates o) from (meter_with mpan known)) (registrations_of (meter_with mpan known))
  meter_number_lem from = rw registrations_found (go (meter_with mpan known) refl)
    where
      go : (x : Option Meter) → meter_with mpan known ≡ x →
          meter_number (leb (meters_of s) (slot_for s m r mpan)) from (held_from_at s m r from (slot_for s m r mpan)) (registrations_of x)
          ≡ meter_number (leb o.meters (length known)) from (held_from (dates o) from x) (registrations_of x)
      go none e = unfold meter_number in rw (agree.meters, slot_found, position_new mpan 0 known e, zero-add (length known))
      go (some x) e = unfold meter_number in rw (held_found from x e)

-- ---- the whole check

pub registration_check_lem : (l : Ledger) (s m r : List ℕ) → SettingsAgree l.opening s → MetersAgree l.opening m l.known → ReadingsAgree l.opening r l.known → Sound l →
    (a : RegistrationCall) →
    registration_check false (dates_of s) (categories_of s) (leb (meters_of s) (slot_for s m r a.mpan)) (held_from_at s m r (start_of a.date a.minute) (slot_for s m r a.mpan)) (registrations_for s m r a.mpan) a
    ≡ registration_check false (dates l.opening) (categories l.opening) (leb l.opening.meters (length l.known))
    (held_from (dates l.opening) (start_of a.date a.minute) (meter_with a.mpan l.known))
    (registrations_of (meter_with a.mpan l.known)) a
unfolding registration_check first_number
registration_check_lem l s m r agree metersAgree readingsAgree sound a =
    cases (eqb (call_number false (dates l.opening) a.mpan a.date) 0)
    (λ q.
    let passed = call_passed false (dates l.opening) a.mpan a.date (eqb-true _ 0 q) in
    let numbered : a.mpan ≢ 0 = λ (w : a.mpan ≡ 0). let b = mpan_valid_bounds a.mpan passed.valid in omega arith in
    rw (
      agree.dates_are,
      agree.categories_are,
      meter_number_lem l.opening s m r l.known agree metersAgree readingsAgree (categories l.opening) sound.meters a.mpan numbered (start_of a.date a.minute),
    ))
    (λ q. rw (agree.dates_are, q))

-- ---- what an accepted one tells

pub record RegistrationAccepted (o : Opening) (known : List Meter) (a : RegistrationCall) : Type 0 where
  pub valid : mpan_valid a.mpan ≡ true
  pub category_is : a.category < categories o
  pub status_is : a.status ≢ 0
  pub meter_ok :
      meter_number (leb o.meters (length known)) (start_of a.date a.minute)
      (held_from (dates o) (start_of a.date a.minute) (meter_with a.mpan known))
      (registrations_of (meter_with a.mpan known))
      ≡ 0

pub registration_accepted : (o : Opening) (known : List Meter) (short : Bool) (a : RegistrationCall) →
    registration_check short (dates o) (categories o) (leb o.meters (length known))
    (held_from (dates o) (start_of a.date a.minute) (meter_with a.mpan known))
    (registrations_of (meter_with a.mpan known)) a ≡ 0 →
    RegistrationAccepted o known a
unfolding registration_check
registration_accepted o known short a e =
    let p = both_passed _ _ e in
    let f = both_passed _ _ p.1 in
    let fields = fields_passed _ _ _ _ _ _ f.0 in
    record {
      valid = (call_passed _ _ _ _ p.0).valid;
      category_is = fields.category_is;
      status_is = λ (z : a.status ≡ 0). let b = fields.status_is in omega arith;
      meter_ok = f.1;
    }

-- ---- the relation after it

sound_more : (C : ℕ) (rs : List Registration) (r : Registration) → SoundRegistrations C rs → r.category < C → r.status ≢ 0 → SoundRegistrations C (rs ++ (r ∷ []))
sound_more C [] r s c t = (c, t, tt)
sound_more C (x ∷ rs) r s c t = (s.0, s.1, sound_more C rs r s.2 c t)

pub sound_changed : (C mpan : ℕ) (f : Meter → Meter) (ms : List Meter) (m : Meter) → meter_with mpan ms ≡ some m → SoundMeters C ms → (SoundMeter C m → SoundMeter C (f m)) →
    SoundMeters C (changed mpan f ms) × (length (changed mpan f ms) ≡ length ms)
unfolding meter_with changed
sound_changed C mpan f [] m e s g = (tt, refl)
sound_changed C mpan f (x ∷ ms) m e s g =
    cases (eqb x.mpan mpan)
    (λ q.
    let same : x ≡ m = (let z : some x ≡ some m = rw q at e in cc) in
    rw q ((rw same (g (rw same at s.0)), s.1), refl))
    (λ q.
    let z : meter_with mpan ms ≡ some m = rw q at e in
    let rest = sound_changed C mpan f ms m z s.1 g in
    rw q ((s.0, rest.0), ap suc rest.1))

sound_added : (C : ℕ) (ms : List Meter) (m : Meter) → SoundMeters C ms → SoundMeter C m → SoundMeters C (ms ++ (m ∷ []))
sound_added C [] m s t = (t, tt)
sound_added C (x ∷ ms) m s t = (s.0, sound_added C ms m s.1 t)

module _ (l : Ledger) (s m r : List ℕ) (agree : SettingsAgree l.opening s) (metersAgree : MetersAgree l.opening m l.known)
    (readingsAgree : ReadingsAgree l.opening r l.known) (sound : Sound l) (a : RegistrationCall) (ok : RegistrationAccepted l.opening l.known a) where
  numbered : a.mpan ≢ 0
  numbered w = let b = mpan_valid_bounds a.mpan ok.valid in omega arith

  -- registration k of the slot is written
  writes : ℕ → List ℕ
  writes k = put_registration l.opening.meters a.mpan (position_of a.mpan 0 l.known) k (registered a) m

  written : registered_meters s m r a ≡ writes (used_of (registrations_of (meter_with a.mpan l.known)))
  unfolding registered_meters writes
  written =
      rw (
        agree.meters,
        slot_found l.opening s m r l.known agree metersAgree readingsAgree (categories l.opening) sound.meters a.mpan numbered,
        registrations_found l.opening s m r l.known agree metersAgree readingsAgree (categories l.opening) sound.meters a.mpan numbered,
      )

  -- a new MPAN
  module _ (e : meter_with a.mpan l.known ≡ none) where
    place_new : position_of a.mpan 0 l.known ≡ length l.known
    place_new = position_new a.mpan 0 l.known e ∙ zero-add (length l.known)

    room_new : length l.known < l.opening.meters
    unfolding meter_number
    room_new =
        let z : meter_number (leb l.opening.meters (length l.known)) (start_of a.date a.minute) (held_from (dates l.opening) (start_of a.date a.minute) none) none ≡ 0 = rw e at ok.meter_ok in
        leb-false l.opening.meters (length l.known) (check_passed (leb l.opening.meters (length l.known)) 7 0 z).0

    new_meter : Meter
    new_meter = record { mpan = a.mpan; registrations = registered a ∷ []; held = λ d. none }

    new_slot : FreeAt l.opening.meters m (length l.known) → MeterAt l.opening.meters (writes 0) (length l.known) new_meter
    unfolding writes registrations_at new_meter
    new_slot f =
        rw place_new
        (record {
          mpan_is = put_mpan l.opening.meters a.mpan (length l.known) 0 (registered a) m room_new (omega arith) metersAgree.long;
          are =
              used_more l.opening.meters m _ (length l.known) (registered a) ok.status_is [] 8 0
              (unfold used_from in rw (f.unused 0 (omega arith)))
              (omega arith)
              (λ j p q n. others j (omega arith) (λ (w : j ≡ 0). n (w ∙ refl)))
              (put_registration_lem l.opening.meters a.mpan (length l.known) 0 (registered a) m room_new (omega arith) metersAgree.long)
              (λ j p q. unused j (omega arith) (omega arith));
          unused = λ k p q. unused k (omega arith) q;
        })
      where
        others : (j : ℕ) → j < 8 → j ≢ 0 →
            registration_at l.opening.meters (put_registration l.opening.meters a.mpan (length l.known) 0 (registered a) m) (length l.known) j
            ≡ registration_at l.opening.meters m (length l.known) j
        others j h n = put_others l.opening.meters a.mpan (length l.known) 0 (registered a) m room_new (omega arith) metersAgree.long j h n

        unused : (j : ℕ) → 0 < j → j < 8 →
            (registration_at l.opening.meters (put_registration l.opening.meters a.mpan (length l.known) 0 (registered a) m) (length l.known) j).status ≡ 0
        unused j p h = ap (λ x. x.status) (others j h (λ (w : j ≡ 0). omega arith)) ∙ f.unused j h

    new_meters : MetersAgree l.opening (writes 0) (l.known ++ (new_meter ∷ []))
    unfolding writes
    new_meters =
        record {
          slots =
              slots_added l.opening.meters (MeterAt l.opening.meters m) (FreeAt l.opening.meters m)
              (MeterAt l.opening.meters (writes 0)) (FreeAt l.opening.meters (writes 0)) new_meter 0 l.known metersAgree.slots
              (rw (zero-add (length l.known)) room_new)
              (λ x y n h. meter_stands l.opening.meters m (writes 0) x y (stands x h n))
              (rw (zero-add (length l.known)) new_slot)
              (λ x n h. free_stands l.opening.meters m (writes 0) x (stands x h n));
          long = rw (length_put l.opening.meters a.mpan (position_of a.mpan 0 l.known) 0 (registered a) m here (omega arith) metersAgree.long) metersAgree.long;
        }
      where
        here : position_of a.mpan 0 l.known < l.opening.meters
        here = rw place_new room_new

        stands : (x : ℕ) → x < l.opening.meters → x ≢ 0 + length l.known → SlotSame l.opening.meters m (writes 0) x
        stands x h n =
            put_slots l.opening.meters a.mpan (position_of a.mpan 0 l.known) 0 (registered a) m here (omega arith) metersAgree.long x h
            (rw place_new (rw (zero-add (length l.known)) at n))

    new_readings : ReadingsAgree l.opening r (l.known ++ (new_meter ∷ []))
    unfolding new_meter
    new_readings =
        record {
          slots =
              slots_added l.opening.meters (HeldAt l.opening r) (NotHeldAt l.opening r) (HeldAt l.opening r) (NotHeldAt l.opening r) new_meter 0 l.known
              readingsAgree.slots
              (rw (zero-add (length l.known)) room_new)
              (λ x y n h p. p)
              (λ f. record { marks = f; sets = λ d x h e. absurd (let z : ◌≡◌ {A = ℕ} 0 1 = cc in omega arith) })
              (λ x n h p. p);
          long = readingsAgree.long;
        }

    new_sound : SoundMeters (categories l.opening) (l.known ++ (new_meter ∷ []))
    unfolding new_meter
    new_sound =
        sound_added (categories l.opening) l.known new_meter sound.meters
        (record {
          numbered = numbered;
          at_most_8 = omega arith;
          registered = (ok.category_is, ok.status_is, tt);
          small = λ d x e. absurd (let z : ◌≡◌ {A = ℕ} 0 1 = cc in omega arith);
        })

  -- a known one
  module _ (x : Meter) (e : meter_with a.mpan l.known ≡ some x) where
    room_known : length x.registrations < 8
    unfolding meter_number
    room_known =
        let z : meter_number (leb l.opening.meters (length l.known)) (start_of a.date a.minute) (held_from (dates l.opening) (start_of a.date a.minute) (some x)) (some x.registrations) ≡ 0 = rw e at ok.meter_ok in
        known_passed _ _ x.registrations z

    here_known : position_of a.mpan 0 l.known < l.opening.meters
    here_known = (at_position l.opening.meters (MeterAt l.opening.meters m) (FreeAt l.opening.meters m) a.mpan 0 l.known x metersAgree.slots e).0

    known_slot : MeterAt l.opening.meters m (position_of a.mpan 0 l.known) x →
        MeterAt l.opening.meters (writes (length x.registrations)) (position_of a.mpan 0 l.known) (with_registration (registered a) x)
    unfolding writes registrations_at
    known_slot f =
        record {
          mpan_is = put_mpan M a.mpan pos k (registered a) m here_known room_known metersAgree.long ∙ sym (at_position M (MeterAt M m) (FreeAt M m) a.mpan 0 l.known x metersAgree.slots e).2;
          are =
              used_more M m _ pos (registered a) ok.status_is x.registrations 8 0 f.are room_known
              (λ j p q n. others j (omega arith) (rw (zero-add k) at n))
              (rw (zero-add k) (put_registration_lem M a.mpan pos k (registered a) m here_known room_known metersAgree.long))
              (λ j p q. unused j (rw (zero-add k) at p) (omega arith));
          unused = λ j p q. unused j (let z = length-append x.registrations (registered a ∷ []) in omega arith) q;
        }
      where
        M : ℕ
        M = l.opening.meters

        pos : ℕ
        pos = position_of a.mpan 0 l.known

        k : ℕ
        k = length x.registrations

        others : (j : ℕ) → j < 8 → j ≢ k → registration_at M (put_registration M a.mpan pos k (registered a) m) pos j ≡ registration_at M m pos j
        others j h n = put_others M a.mpan pos k (registered a) m here_known room_known metersAgree.long j h n

        unused : (j : ℕ) → k < j → j < 8 → (registration_at M (put_registration M a.mpan pos k (registered a) m) pos j).status ≡ 0
        unused j p h = ap (λ y. y.status) (others j h (λ (w : j ≡ k). omega arith)) ∙ f.unused j (omega arith) h

    known_meters : MetersAgree l.opening (writes (length x.registrations)) (changed a.mpan (with_registration (registered a)) l.known)
    unfolding writes
    known_meters =
        record {
          slots =
              slots_changed l.opening.meters (MeterAt l.opening.meters m) (FreeAt l.opening.meters m)
              (MeterAt l.opening.meters (writes (length x.registrations))) (FreeAt l.opening.meters (writes (length x.registrations)))
              a.mpan (with_registration (registered a)) 0 l.known x metersAgree.slots e
              (λ y z n h. meter_stands l.opening.meters m (writes (length x.registrations)) y z (stands y h n))
              known_slot
              (λ y n h. free_stands l.opening.meters m (writes (length x.registrations)) y (stands y h n));
          long = rw (length_put l.opening.meters a.mpan (position_of a.mpan 0 l.known) (length x.registrations) (registered a) m here_known room_known metersAgree.long) metersAgree.long;
        }
      where
        stands : (y : ℕ) → y < l.opening.meters → y ≢ position_of a.mpan 0 l.known → SlotSame l.opening.meters m (writes (length x.registrations)) y
        stands y h n = put_slots l.opening.meters a.mpan (position_of a.mpan 0 l.known) (length x.registrations) (registered a) m here_known room_known metersAgree.long y h n

    known_readings : ReadingsAgree l.opening r (changed a.mpan (with_registration (registered a)) l.known)
    known_readings =
        record {
          slots =
              slots_changed l.opening.meters (HeldAt l.opening r) (NotHeldAt l.opening r) (HeldAt l.opening r) (NotHeldAt l.opening r)
              a.mpan (with_registration (registered a)) 0 l.known x readingsAgree.slots e
              (λ y z n h p. p)
              (λ p. record { marks = p.marks; sets = p.sets })
              (λ y n h p. p);
          long = readingsAgree.long;
        }

    known_sound : SoundMeters (categories l.opening) (changed a.mpan (with_registration (registered a)) l.known) × (length (changed a.mpan (with_registration (registered a)) l.known) ≡ length l.known)
    known_sound =
        sound_changed (categories l.opening) a.mpan (with_registration (registered a)) l.known x e sound.meters
        (λ p.
        record {
          numbered = p.numbered;
          at_most_8 = let z = length-append x.registrations (registered a ∷ []) in omega (arith, room_known);
          registered = sound_more (categories l.opening) x.registrations (registered a) p.registered ok.category_is ok.status_is;
          small = p.small;
        })

  -- what an accepted registration leaves
  pub record RegistrationLeft : Type 0 where
    pub meters_agree : MetersAgree l.opening (registered_meters s m r a) (register_in a (meter_with a.mpan l.known) l.known)
    pub readings_agree : ReadingsAgree l.opening r (register_in a (meter_with a.mpan l.known) l.known)
    pub sound_meters : SoundMeters (categories l.opening) (register_in a (meter_with a.mpan l.known) l.known)
    pub few : length (register_in a (meter_with a.mpan l.known) l.known) ≤ l.opening.meters
    pub as_long : length (registered_meters s m r a) ≡ length m

  pub registration_agrees : RegistrationLeft
  registration_agrees = go (meter_with a.mpan l.known) refl
    where
      go : (x : Option Meter) → meter_with a.mpan l.known ≡ x → RegistrationLeft
      go none e =
          let w : registered_meters s m r a ≡ writes 0 = written ∙ rw e in
          let k : register_in a (meter_with a.mpan l.known) l.known ≡ l.known ++ (new_meter e ∷ []) = (unfold register_in new_meter in rw e) in
          record {
            meters_agree = rw (w, k) (new_meters e);
            readings_agree = rw k (new_readings e);
            sound_meters = rw k (new_sound e);
            few = rw (k, length-append l.known (new_meter e ∷ []), add-one (length l.known)) (room_new e);
            as_long = rw w (unfold writes in length_put l.opening.meters a.mpan (position_of a.mpan 0 l.known) 0 (registered a) m (rw (place_new e) (room_new e)) (omega arith) metersAgree.long);
          }
      go (some x) e =
          let w : registered_meters s m r a ≡ writes (length x.registrations) = written ∙ rw e in
          let k : register_in a (meter_with a.mpan l.known) l.known ≡ changed a.mpan (with_registration (registered a)) l.known = (unfold register_in in rw e) in
          record {
            meters_agree = rw (w, k) (known_meters x e);
            readings_agree = rw k (known_readings x e);
            sound_meters = rw k (known_sound x e).0;
            few = rw (k, (known_sound x e).1) sound.few;
            as_long = rw w (unfold writes in length_put l.opening.meters a.mpan (position_of a.mpan 0 l.known) (length x.registrations) (registered a) m (here_known x e) (room_known x e) metersAgree.long);
          }
