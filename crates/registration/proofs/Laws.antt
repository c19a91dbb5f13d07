-- Registration: what the slot of an MPAN holds, and the verdict from the pieces of the checks: the first of them that fails.
use Rattle.std.proofs.Common.{◌≡◌, ℕ, ◌<◌, ◌≤◌, Bool, true, false, ◌&&◌, cond, List, length, refl, sym, ◌∙◌, eqb, leb, true≢false, arith, ne_eqb, le-leb, leb-true, leb-false}
use borrow.Table.Steps.{cases}
use borrow.Author.Tests.{lt-leb}
use Rattle.ledger.specs.Sizes.{meters_length, readings_length}
use Rattle.ledger.specs.Checks.{RegistrationCall, first_number, call_number, moment_of, start_of, fields_number, known_number, meter_number, any_below, registration_check}
use Rattle.ledger.specs.Store.{meters_of, dates_of, categories_of, periods_of, mpan_at, slot_of, known_at, registrations_at, is_held_at, put_registration}
use Rattle.ledger.specs.Ledger.{left}
use Rattle.ledger.specs.Calls.{meters_unready, slot_for, registrations_for, held_from_at, used_of, registration_verdict, registered_meters}
use Rattle.ledger.proofs.Choices.{check_passed, known_passed, call_passed, fields_passed}
use Rattle.store.specs.declared.refusal.Check.{Check}
use Rattle.store.specs.Outcome.{number_of}
use Rattle.store.proofs.LentLaws.{Lent, lent, known_slot, unknown_slot, registrations_are}
use Rattle.store.proofs.Refusals.{number_some, after_at}

-- ---- the parts lent

module _ (s m r : List ℕ) (ready : meters_unready s m r ≡ false) where
  parts : Lent s m r
  parts = lent s m r refl ready

  pub few_slots : meters_of s ≤ 1024
  few_slots = parts.known.meters.1

  pub few_dates : dates_of s ≤ 800
  few_dates = parts.known.dates.1

  pub few_periods : periods_of s ≤ 96
  few_periods = parts.periods

  pub meters_there : meters_length (meters_of s) ≤ length m
  meters_there = parts.meters

  pub readings_there : readings_length (meters_of s) (dates_of s) (periods_of s) ≤ length r
  readings_there = parts.readings

pub ruleset lent_known = (few_slots, few_dates, few_periods, meters_there, readings_there)

module _ (s m r : List ℕ) (mpan date : ℕ) (passed : 0 ≡ call_number (meters_unready s m r) (dates_of s) mpan date) where
  pub ready : meters_unready s m r ≡ false
  ready = (call_passed _ _ _ _ (sym passed)).long

  pub date_low : date < 800
  date_low = let dated = (call_passed _ _ _ _ (sym passed)).dated in let few = few_dates s m r ready in omega arith

pub minute_low : (dates categories start minute category status : ℕ) → 0 ≡ fields_number dates categories start minute category status → minute < 1440
minute_low dates categories start minute category status passed = let low = (fields_passed _ _ _ _ _ _ (sym passed)).minute_is in omega arith

-- ---- the slot of an MPAN

pub slot_is : (s m r : List ℕ) (mpan slots slot : ℕ) → slots ≡ meters_of s → slot ≡ slot_of slots mpan m → slot ≡ slot_for s m r mpan
unfolding slot_for
slot_is s m r mpan slots slot e h = rw e at h

module _ (s m r : List ℕ) (mpan slot : ℕ) (e : slot ≡ slot_for s m r mpan) where
  found : slot ≡ slot_of (meters_of s) mpan m
  unfolding slot_for
  found = e

  used_is : used_of (registrations_for s m r mpan) ≡ cond (known_at (meters_of s) mpan m) (length (registrations_at (meters_of s) m slot)) 0
  used_is = rw (registrations_are s m r mpan slot found) (cases (known_at (meters_of s) mpan m) (λ k. rw k) (λ k. rw k))

  -- its number, from a start on: no slot is left, a free one, or the number of a known meter
  module _ (start : ℕ) where
    pub number_full : (held : Bool) → meters_of s ≤ slot → 8 ≡ meter_number (leb (meters_of s) slot) start held (registrations_for s m r mpan)
    unfolding meter_number
    number_full held h = rw (registrations_are s m r mpan slot found, unknown_slot (meters_of s) mpan m slot found h, le-leb (meters_of s) slot h)

    pub number_new : (held : Bool) → slot < meters_of s → eqb (mpan_at m slot) mpan ≡ false →
        0 ≡ meter_number (leb (meters_of s) slot) start held (registrations_for s m r mpan)
    unfolding meter_number
    number_new held h f = rw (registrations_are s m r mpan slot found, known_slot (meters_of s) mpan m slot found h ∙ f, lt-leb (meters_of s) slot h)

    pub number_known : (slots dates periods : ℕ) {n : ℕ} → slots ≡ meters_of s → dates ≡ dates_of s → periods ≡ periods_of s →
        slot < slots → eqb (mpan_at m slot) mpan ≡ true →
        n ≡ known_number start (any_below dates (λ d. leb start d && is_held_at slots periods r d slot)) (registrations_at slots m slot) →
        n ≡ meter_number (leb (meters_of s) slot) start (held_from_at s m r start slot) (registrations_for s m r mpan)
    unfolding meter_number held_from_at
    number_known slots dates periods e1 e2 e3 h t n =
        rw (registrations_are s m r mpan slot found, known_slot (meters_of s) mpan m slot found (omega arith) ∙ t, ← e1, ← e2, ← e3) n

    -- where it is 0 there is a slot, with room for one more
    module _ (passed : 0 ≡ meter_number (leb (meters_of s) slot) start (held_from_at s m r start slot) (registrations_for s m r mpan)) where
      meter_passed : (slot < meters_of s) × (used_of (registrations_for s m r mpan) < 8)
      unfolding meter_number
      meter_passed =
          cases (known_at (meters_of s) mpan m)
          (λ k. (
            leb-false _ _ (cases (leb (meters_of s) slot) (λ b. absurd (true≢false (sym k ∙ unknown_slot (meters_of s) mpan m slot found (leb-true _ _ b)))) (λ b. b)),
            rw (registrations_are s m r mpan slot found, k) (known_passed _ _ _ (rw (registrations_are s m r mpan slot found, k) at (sym passed))),
          ))
          (λ k. (leb-false _ _ (check_passed (leb (meters_of s) slot) 7 0 (rw (registrations_are s m r mpan slot found, k) at (sym passed))).0, rw (registrations_are s m r mpan slot found, k) (omega arith)))

      pub slot_left : slot < meters_of s
      slot_left = meter_passed.0

      pub used_below : (slots used : ℕ) → slots ≡ meters_of s → used ≡ cond (known_at slots mpan m) (length (registrations_at slots m slot)) 0 → used < 8
      used_below slots used e1 e2 = rw (e2, e1, ← used_is) meter_passed.1

pub ruleset numbers = (number_full, number_new, number_known)

-- how many are used: whether the MPAN is known is whether its slot has it
pub used_known : (slots mpan slot used : ℕ) (m : List ℕ) → slot ≡ slot_of slots mpan m → slot < slots → eqb (mpan_at m slot) mpan ≡ true →
    used ≡ length (registrations_at slots m slot) → used ≡ cond (known_at slots mpan m) (length (registrations_at slots m slot)) 0
used_known slots mpan slot used m e h t is = rw (known_slot slots mpan m slot e h, t) is

pub used_new : (slots mpan slot : ℕ) (m : List ℕ) → slot ≡ slot_of slots mpan m → slot < slots → eqb (mpan_at m slot) mpan ≡ false →
    0 ≡ cond (known_at slots mpan m) (length (registrations_at slots m slot)) 0
used_new slots mpan slot m e h f = rw (known_slot slots mpan m slot e h, f)

-- ---- the whole call

module _ (s m r : List ℕ) (a : RegistrationCall) where
  pub call_failed : (check : Check) → number_of check ≡ call_number (meters_unready s m r) (dates_of s) a.mpan a.date → number_of check ≡ (registration_verdict s m r a).number
  unfolding registration_verdict registration_check first_number
  call_failed check is = rw (← is, ne_eqb _ 0 (number_some check))

  module _ (passed : 0 ≡ call_number (meters_unready s m r) (dates_of s) a.mpan a.date) where
    pub fields_failed : (check : Check) → number_of check ≡ fields_number (dates_of s) (categories_of s) (start_of a.date a.minute) a.minute a.category a.status → number_of check ≡ (registration_verdict s m r a).number
    unfolding registration_verdict registration_check first_number
    fields_failed check is = rw (← passed, ← is, ne_eqb _ 0 (number_some check))

    pub meter_told : (start slot : ℕ) {n : ℕ} → start ≡ start_of a.date a.minute → 0 ≡ fields_number (dates_of s) (categories_of s) start a.minute a.category a.status → slot ≡ slot_for s m r a.mpan →
        n ≡ meter_number (leb (meters_of s) slot) start (held_from_at s m r start slot) (registrations_for s m r a.mpan) → n ≡ (registration_verdict s m r a).number
    unfolding registration_verdict registration_check first_number
    meter_told start slot e fields at is = rw (← passed, ← e, ← fields, ← at, is)

  pub place_is : (registration_verdict s m r a).place ≡ 0
  unfolding registration_verdict
  place_is = refl

  -- an accepted call has written the registration
  pub written : (slots slot used moment sender limit : ℕ) {after : List ℕ} → 0 ≡ (registration_verdict s m r a).number → slots ≡ meters_of s → slot ≡ slot_for s m r a.mpan →
      used ≡ cond (known_at slots a.mpan m) (length (registrations_at slots m slot)) 0 → moment ≡ moment_of a.date a.minute → sender ≡ a.sender → limit ≡ a.limit →
      after ≡ put_registration slots a.mpan slot used (record { moment = moment; category = a.category; sender = sender; status = a.status; limit = limit }) m →
      after ≡ left (registration_verdict s m r a) m (registered_meters s m r a)
  unfolding registered_meters
  written slots slot used moment sender limit passed e1 e2 e3 e4 e5 e6 put =
      put ∙ rw (e3, e1, e2, e4, e5, e6, used_is s m r a.mpan (slot_for s m r a.mpan) refl) (after_at _ passed _ _)

-- what the pieces tell, in the order of the checks
pub ruleset pieces = (ready, date_low, call_failed, minute_low, fields_failed, slot_is, meter_told, slot_left, used_below, place_is, written)
