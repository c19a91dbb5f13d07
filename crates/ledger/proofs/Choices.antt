-- What a passed check tells: the tests in front of a 0 did not hold, found one after the other.
use Rattle.std.proofs.Common.{◌≡◌, ℕ, suc, ◌%◌, ◌<◌, ◌≤◌, Bool, true, false, cond, not, ◌&&◌, ◌||◌, eqb, ltb, leb, List, length, refl, true≢false, arith, ltb-false, ltb-true, eqb-true, leb-false, leb-true}
use mathlib.Core.Bool.{and-eq-true_iff}
use mathlib.Core.Option.{Option}
use borrow.Table.Steps.{cases}
use borrow.Author.Tests.{eqb-false, not-false}
use Rattle.metering.specs.Mpan.{mpan_valid}
use Rattle.metering.specs.Range.{between}
use Rattle.metering.proofs.Laws.{between_true}
use Rattle.metering.specs.Calendar.{period_ending}
use Rattle.ledger.specs.Method.{Category}
use Rattle.ledger.specs.Checks.{Verdict, verdict, first_number, Registration, ReceptionCall, call_number, fields_number, not_after_last, known_number, end_minute, quality, watt_hours_at, content_number, record_number_if, is_sender_of, header_number, run_check, preview_check}
use Rattle.ledger.proofs.Ready.{both}
use Rattle.ledger.specs.Store.{dates_of, row_length, settings_ready, meters_ready, readings_ready, cells_ready, days_ready}
use Rattle.ledger.specs.Calls.{run_unready, run_verdict, draft_unready, preview_verdict}

pub neither : (a b : Bool) → (a || b) ≡ false → (a ≡ false) × (b ≡ false)
neither true b e = absurd (true≢false e)
neither false b e = (refl, e)

-- ---- one test, and two pieces

pub check_passed : (b : Bool) (n rest : ℕ) → cond b (suc n) rest ≡ 0 → (b ≡ false) × (rest ≡ 0)
check_passed true n rest e = absurd (omega arith)
check_passed false n rest e = (refl, e)

pub verdict_passed : (b : Bool) (n : ℕ) (rest : Verdict) → (cond b (verdict (suc n)) rest).number ≡ 0 → (b ≡ false) × (rest.number ≡ 0)
verdict_passed true n rest e = absurd (omega arith)
verdict_passed false n rest e = (refl, e)

pub both_passed : (a b : ℕ) → first_number a b ≡ 0 → (a ≡ 0) × (b ≡ 0)
unfolding first_number
both_passed a b e = cases (eqb a 0) (λ q. (eqb-true a 0 q, rw q at e)) (λ q. absurd (eqb-false a 0 q (rw q at e)))

-- ---- the pieces

pub record CallPassed (short : Bool) (dates mpan date : ℕ) : Type 0 where
  pub long : short ≡ false
  pub dated : date < dates
  pub valid : mpan_valid mpan ≡ true

pub call_passed : (short : Bool) (dates mpan date : ℕ) → call_number short dates mpan date ≡ 0 → CallPassed short dates mpan date
unfolding call_number
call_passed short dates mpan date e =
    let p1 = check_passed short 0 _ e in
    let p9 = check_passed (leb dates date) 8 _ p1.1 in
    let p6 = check_passed (not (mpan_valid mpan)) 5 0 p9.1 in
    record { long = p1.0; dated = leb-false dates date p9.0; valid = not-false (mpan_valid mpan) p6.0 }

pub record FieldsPassed (dates categories start minute category status : ℕ) : Type 0 where
  pub minute_is : minute ≤ 1439
  pub category_is : category < categories
  pub status_is : (1 ≤ status) × (status ≤ 3)
  pub starts_is : start < dates

pub fields_hold : (dates categories start minute category status : ℕ) →
    (leb minute 1439 && ltb category categories && between 1 3 status && ltb start dates) ≡ true → FieldsPassed dates categories start minute category status
fields_hold dates categories start minute category status all =
    let both = (and-eq-true_iff (leb minute 1439 && ltb category categories && between 1 3 status) (ltb start dates)).0 all in
    let two = (and-eq-true_iff (leb minute 1439 && ltb category categories) (between 1 3 status)).0 both.0 in
    let each = (and-eq-true_iff (leb minute 1439) (ltb category categories)).0 two.0 in
    record {
      minute_is = leb-true minute 1439 each.0;
      category_is = ltb-true category categories each.1;
      status_is = (between_true 1 3 status).0 two.1;
      starts_is = ltb-true start dates both.1;
    }

pub fields_passed : (dates categories start minute category status : ℕ) → fields_number dates categories start minute category status ≡ 0 →
    FieldsPassed dates categories start minute category status
unfolding fields_number
fields_passed dates categories start minute category status e =
    fields_hold dates categories start minute category status
    (not-false _ (check_passed (not (leb minute 1439 && ltb category categories && between 1 3 status && ltb start dates)) 15 0 e).0)

-- a known meter has room for one more registration
pub known_passed : (start : ℕ) (held_from : Bool) (registrations : List Registration) → known_number start held_from registrations ≡ 0 → length registrations < 8
unfolding known_number
known_passed start held_from registrations e =
    let p10 = check_passed (not_after_last start false registrations) 9 _ e in
    let p11 = check_passed held_from 10 _ p10.1 in
    leb-false 8 (length registrations) (check_passed (leb 8 (length registrations)) 11 0 p11.1).0

pub record HeaderPassed (duration categories : ℕ) (category : ℕ → Category) (a : ReceptionCall) (appointment : Option Registration) (r : Registration) : Type 0 where
  pub category_is : r.category < categories
  pub sender_is : is_sender_of a.sender appointment ≡ true
  pub quantity_is : a.quantity ≡ (category r.category).quantity
  pub duration_is : a.duration ≡ duration
  pub whole : length a.body % 7 ≡ 0

pub header_passed : (duration categories : ℕ) (category : ℕ → Category) (a : ReceptionCall) (appointment : Option Registration) (r : Registration) →
    header_number duration categories category a appointment r ≡ 0 → HeaderPassed duration categories category a appointment r
unfolding header_number
header_passed duration categories category a appointment r e =
    let p2 = check_passed (leb categories r.category) 1 _ e in
    let p1001 = check_passed (not (is_sender_of a.sender appointment)) 1000 _ p2.1 in
    let p1002 = check_passed (not (eqb a.quantity (category r.category).quantity)) 1001 _ p1001.1 in
    let p1004 = check_passed (not (eqb a.duration duration)) 1003 _ p1002.1 in
    let p13 = check_passed (not (eqb (length a.body % 7) 0)) 12 0 p1004.1 in
    record {
      category_is = leb-false categories r.category p2.0;
      sender_is = not-false (is_sender_of a.sender appointment) p1001.0;
      quantity_is = eqb-true a.quantity (category r.category).quantity (not-false _ p1002.0);
      duration_is = eqb-true a.duration duration (not-false _ p1004.0);
      whole = eqb-true (length a.body % 7) 0 (not-false _ p13.0);
    }

pub record RecordPassed (again : Bool) (duration status limit : ℕ) (body : List ℕ) (i : ℕ) : Type 0 where
  pub known : between 1 14 (quality body i) ≡ true
  pub closes : period_ending duration (end_minute body i) ≡ 0 → ⊥
  pub once : again ≡ false
  pub content : content_number status limit (quality body i) (watt_hours_at body i) ≡ 0

pub record-passed : (again : Bool) (duration status limit : ℕ) (body : List ℕ) (i : ℕ) →
    record_number_if again duration status limit body i ≡ 0 → RecordPassed again duration status limit body i
unfolding record_number_if
record-passed again duration status limit body i e =
    let p13 = check_passed (not (between 1 14 (quality body i))) 12 _ e in
    let p1005 = check_passed (eqb (period_ending duration (end_minute body i)) 0) 1004 _ p13.1 in
    let p1006 = check_passed again 1005 _ p1005.1 in
    record {
      known = not-false (between 1 14 (quality body i)) p13.0;
      closes = eqb-false (period_ending duration (end_minute body i)) 0 p1005.0;
      once = p1006.0;
      content = p1006.1;
    }

-- ---- run and preview

pub parts_ready : (s m r cells days : List ℕ) → run_unready s m r cells days ≡ false →
    (settings_ready s ≡ true) × (meters_ready s m ≡ true) × (readings_ready s r ≡ true) × (cells_ready s cells ≡ true) × (days_ready s days ≡ true)
unfolding run_unready
parts_ready s m r cells days h =
    let t = both (settings_ready s && meters_ready s m && readings_ready s r && cells_ready s cells) (days_ready s days) (not-false _ h) in
    let p = both (settings_ready s && meters_ready s m && readings_ready s r) (cells_ready s cells) t.0 in
    let q = both (settings_ready s && meters_ready s m) (readings_ready s r) p.0 in
    let o = both (settings_ready s) (meters_ready s m) q.0 in
    (o.0, o.1, q.1, p.1, t.1)

-- all parts are ready, and the date is one
abbrev pub MayRun : List ℕ → List ℕ → List ℕ → List ℕ → List ℕ → ℕ → Type 0
MayRun s m r cells days date =
    (settings_ready s ≡ true) × (meters_ready s m ≡ true) × (readings_ready s r ≡ true) × (cells_ready s cells ≡ true) × (days_ready s days ≡ true) × (date < dates_of s)

pub accepted_run : (s m r cells days : List ℕ) (date : ℕ) → (run_verdict s m r cells days date).number ≡ 0 → MayRun s m r cells days date
unfolding run_verdict run_check
accepted_run s m r cells days date h =
    let p1 = check_passed (run_unready s m r cells days) 0 _ h in
    let parts = parts_ready s m r cells days p1.0 in
    (parts.0, parts.1, parts.2, parts.3, parts.4, leb-false _ _ (check_passed (leb (dates_of s) date) 8 0 p1.1).0)

-- a draft that is long enough is no other check, so an accepted preview is that of a run that would be
pub accepted_preview : (s m r cells days draft : List ℕ) (date : ℕ) → (preview_verdict s m r cells days draft date).number ≡ 0 →
    MayRun s m r cells days date × (row_length s ≤ length draft)
unfolding preview_verdict preview_check run_check draft_unready
accepted_preview s m r cells days draft date h =
    let p1 = check_passed (run_unready s m r cells days) 0 _ h in
    let p18 = check_passed (ltb (length draft) (row_length s)) 17 _ p1.1 in
    let parts = parts_ready s m r cells days p1.0 in
    ((parts.0, parts.1, parts.2, parts.3, parts.4, leb-false _ _ (check_passed (leb (dates_of s) date) 8 0 p18.1).0), ltb-false _ _ p18.0)
