-- Agreement with the plain ledger: every call keeps the relation and answers alike, so every list of calls does.
use Rattle.std.proofs.Common.{◌≡◌, ℕ, zero, suc, ◌+◌, ◌-◌, ◌*◌, ◌<◌, ◌≤◌, min, Bool, true, false, cond, not, ◌||◌, eqb, ltb, leb, List, [], ◌∷◌, length, take, sym, refl, ap, ◌∙◌, ap₂, mul-le-mul_right, suc-mul, arith, take-append-drop, length-take, ltb-false, ltb-true, eqb-true, leb-false}
use mathlib.Core.Bool.{and-eq-true_iff}
use borrow.Table.Steps.{cases}
use borrow.Author.Tests.{not-false}
use Rattle.metering.proofs.Laws.{between_true}
use Rattle.metering.specs.Range.{between}
use Rattle.ledger.specs.Checks.{RegistrationCall, ReceptionCall, Verdict, verdict, or_else, first_number, call_number, registration_check, reception_check, run_check, range_check, read_check, totals_in_range, cell_in_range, NetCall, lists_short, may_net, net_check, band_check, fill_check, PreviewCall, RowCall, is_published, preview_check, row_check}
use Rattle.ledger.specs.Band.{BandCall}
use Rattle.ledger.specs.Fill.{FillCall, may_fill}
use Rattle.ledger.specs.Sizes.{meters_length, cells_length, days_length, draft_length}
use Rattle.ledger.specs.Ledger.{Opening, categories, dates, periods, Meter, category, Ledger, start, Call, register, receive, run, read_totals, read_cell, read_net, search_band, fill_hole, read_coverage, preview, read_row, Answer, moved, totals_are, cell_is, net_is, band_is, filled_are, coverage_is, row_is, answer, left, Lengths, settings_short, meters_short, cells_short, days_short, any_short, ledger_registration_check, after_registration, ledger_reception_check, after_reception, cell_at, is_run, ledger_run_check, after_run, moved_by_run, ledger_totals_check, ledger_cell_check, totals_at, ledger_net_check, net_at, ledger_band_check, band_at, shape_at, weight_at, ledger_fill_check, fill_at, ledger_coverage_check, coverage_at, draft_short, ledger_preview_check, after_preview, ledger_row_check, row_shown, ledger_answer, ledger_after}
use Rattle.ledger.specs.Store.{row_length, dates_of, categories_of, periods_of, cell_of_entry, is_run_at, category_of, is_run_day}
use Rattle.ledger.specs.Calls.{meters_unready, cells_unready, days_unready, opening_verdict, opened_meters, opened_readings, opened_cells, opened_days, registration_verdict, registered_meters, reception_verdict, received_readings, run_verdict, ran_from, day_verdict, totals_for, cell_verdict, cell_for, net_verdict, net_for, band_verdict, band_for, shape_for, weight_for, fill_verdict, fill_for, coverage_for, preview_verdict, previewed, draft_start, published_start, row_verdict, row_for}
use Rattle.ledger.specs.Engine.{Parts, cells_of, call_answer, with_meters, with_readings, with_published, with_draft, drafted, leaves, opened_parts, Item, cut, restored, parts_after, answers_from, store_answers, cut_lengths, ledger_answers, Every, lengths_of, AreBytes, BodyOfBytes, BodiesOfBytes, draft_of, Agreement}
use Rattle.ledger.proofs.Choices.{check_passed, neither, both_passed, call_passed}
use Rattle.ledger.proofs.Verdicts.{left_of, passed_else}
use Rattle.ledger.proofs.Relation.{SettingsAgree, MetersAgree, ReadingsAgree, CellsAgree, DaysAgree, DraftAgree, SoundMeters, Sound}
use Rattle.ledger.proofs.Settings.{settings_cut, meters_unready_lem, cells_unready_lem, days_unready_lem, run_unready_lem}
use Rattle.ledger.proofs.Parts.{cut_agrees, back_agrees, meters_rest, readings_rest, cells_rest, days_rest, cut_lengths_lem, restored_cut, restored_lengths}
use Rattle.ledger.proofs.Runs.{after_sound, run_agrees, run_length, run_shows, previewed_long, run_moved, run_days, run_days_length}
use Rattle.ledger.proofs.Register.{registration_check_lem, registration_accepted, registration_agrees}
use Rattle.ledger.proofs.Receive.{reception_check_lem, reception_accepted, reception_agrees}
use Rattle.ledger.proofs.Windows.{windows_few}
use Rattle.ledger.proofs.Open as open_step
use Rattle.ledger.proofs.Answers.{run_is, cell_is_lem, totals_are_lem, may_net_is, net_is_lem, band_is_lem, shape_is, may_fill_is, fill_is, run_day_is, coverage_is_lem, published_row}
use Rattle.ledger.proofs.Drafts.{draft_short_lem, draft_taken, cells_of_lem}
use Rattle.ledger.proofs.Lists.{get_d_cut}

-- ---- the relation

pub record Agrees (whole : Lengths) (p : Parts) (l : Ledger) : Type 0 where
  sound : Sound l
  settings : SettingsAgree l.opening p.settings
  meters : MetersAgree l.opening p.meters l.known
  readings : ReadingsAgree l.opening p.readings l.known
  cells : CellsAgree l.opening p.cells l.pictures
  days : DaysAgree l.opening p.days l.pictures
  draft : DraftAgree l.opening p.draft l.draft
  pub lengths : lengths_of p ≡ whole

-- answers whose values are equal where the call is accepted
same_answer : (v : Verdict) (x y : Answer) → (v.number ≡ 0 → x ≡ y) → answer v x ≡ answer v y
unfolding answer
same_answer v x y h = cases (eqb v.number 0) (λ q. rw (q, h (eqb-true v.number 0 q))) (λ q. rw q)

-- a refused call changes nothing
left_agrees : {whole : Lengths} {p p' : Parts} {l l' : Ledger} (v : Verdict) → Agrees whole p l → (v.number ≡ 0 → Agrees whole p' l') → Agrees whole (left v p p') (left v l l')
unfolding left
left_agrees v refused taken = cases (eqb v.number 0) (λ t. rw t (taken (eqb-true _ _ t))) (λ t. rw t refused)

-- ---- one call, lent parts cut to n

module _ (whole : Lengths) (p : Parts) (l : Ledger) (agrees : Agrees whole p l) (n : Lengths) where
  abbrev o : Opening
  o = l.opening

  abbrev S : List ℕ
  S = take n.settings p.settings

  abbrev M : List ℕ
  M = take n.meters p.meters

  abbrev R : List ℕ
  R = take n.readings p.readings

  abbrev C : List ℕ
  C = take n.cells p.cells

  abbrev D : List ℕ
  D = take n.days p.days

  abbrev lent : Lengths
  lent = lengths_of (cut n p)

  -- ---- parts that are long enough agree

  abbrev MetersEnough : Type 0
  MetersEnough = SettingsAgree o S × MetersAgree o M l.known × ReadingsAgree o R l.known

  abbrev CellsEnough : Type 0
  CellsEnough = SettingsAgree o S × CellsAgree o C l.pictures

  abbrev DaysEnough : Type 0
  DaysEnough = SettingsAgree o S × DaysAgree o D l.pictures

  settings_enough : settings_short o lent ≡ false → SettingsAgree o S
  unfolding settings_short
  settings_enough e = settings_cut o p.settings n.settings agrees.settings (ltb-false _ _ e)

  cells_long : ltb (length C) (cells_length (categories o) (dates o) (periods o)) ≡ false → CellsAgree o C l.pictures
  cells_long e = cut_agrees (cells_rest o l.pictures) n.cells p.cells agrees.cells (ltb-false _ _ e)

  days_long : ltb (length D) (days_length (categories o) (dates o)) ≡ false → DaysAgree o D l.pictures
  days_long e = cut_agrees (days_rest o l.pictures) n.days p.days agrees.days (ltb-false _ _ e)

  enough_meters : meters_short o lent ≡ false → MetersEnough
  unfolding meters_short
  enough_meters e =
      let q = neither _ _ e in
      let w = neither _ _ q.0 in (
        settings_enough w.0,
        cut_agrees (meters_rest o l.known) n.meters p.meters agrees.meters (ltb-false _ _ w.1),
        cut_agrees (readings_rest o l.known) n.readings p.readings agrees.readings (ltb-false _ _ q.1),
      )

  enough_cells : cells_short o lent ≡ false → CellsEnough
  unfolding cells_short
  enough_cells e = let q = neither _ _ e in (settings_enough q.0, cells_long q.1)

  enough_days : days_short o lent ≡ false → DaysEnough
  unfolding days_short
  enough_days e = let q = neither _ _ e in (settings_enough q.0, days_long q.1)

  enough_all : any_short o lent ≡ false → MetersEnough × CellsAgree o C l.pictures × DaysAgree o D l.pictures
  unfolding any_short
  enough_all e =
      let q = neither _ _ e in
      let w = neither _ _ q.0 in
      (enough_meters w.0, cells_long w.1, days_long q.1)

  -- ---- a call that answers alike and leaves what agrees

  record Step (c : Call) : Type 0 where
    answers : call_answer (cut n p) c ≡ ledger_answer l lent c
    after : Agrees whole (restored n p (leaves (cut n p) c)) (ledger_after l lent c)

  left_restored : (v : Verdict) (q : Parts) (l' : Ledger) → (v.number ≡ 0 → Agrees whole (restored n p q) l') → Agrees whole (restored n p (left v (cut n p) q)) (left v l l')
  left_restored v q l' taken = rw (left_of (restored n p) v (cut n p) q, restored_cut n p) (left_agrees v agrees taken)

  -- a read changes nothing
  read_agrees : Agrees whole (restored n p (cut n p)) l
  read_agrees = rw (restored_cut n p) agrees

  -- ---- registration and reception

  meters_short_lem : meters_unready S M R ≡ meters_short o lent
  meters_short_lem = meters_unready_lem o p.settings n.settings agrees.sound.valid agrees.settings M R (length C) (length D)

  -- both write what is known of the meters
  known_agrees : (known : List Meter) (m r : List ℕ) → MetersAgree o m known → ReadingsAgree o r known → SoundMeters (categories o) known → length known ≤ o.meters → length m ≡ length M → length r ≡ length R →
      Agrees whole (restored n p (record { settings = S; meters = m; readings = r; cells = C; days = D; draft = p.draft })) (record { opening = o; known = known; pictures = l.pictures; draft = l.draft })
  unfolding restored
  known_agrees known m r meters readings sound few m-long r-long =
      record {
        sound = record { valid = agrees.sound.valid; meters = sound; few = few; pictures_are = agrees.sound.pictures_are };
        settings = rw (take-append-drop n.settings p.settings) agrees.settings;
        meters = back_agrees (meters_rest o known) n.meters p.meters m meters;
        readings = back_agrees (readings_rest o known) n.readings p.readings r readings;
        cells = rw (take-append-drop n.cells p.cells) agrees.cells;
        days = rw (take-append-drop n.days p.days) agrees.days;
        draft = agrees.draft;
        lengths = restored_lengths n p (record { settings = S; meters = m; readings = r; cells = C; days = D; draft = p.draft }) (rw (m-long, r-long)) ∙ agrees.lengths;
      }

  registration_verdict_lem : (a : RegistrationCall) → registration_verdict S M R a ≡ ledger_registration_check l lent a
  unfolding registration_verdict ledger_registration_check
  registration_verdict_lem a =
      rw meters_short_lem
      (cases (meters_short o lent)
      (λ q. rw q (unfold registration_check call_number first_number in refl))
      (λ q. let e = enough_meters q in rw q (ap verdict (registration_check_lem l S M R e.0 e.1 e.2 agrees.sound a))))

  registration_taken : (a : RegistrationCall) → (ledger_registration_check l lent a).number ≡ 0 → Agrees whole (restored n p (with_meters (registered_meters S M R a) (cut n p))) (after_registration l a)
  unfolding ledger_registration_check registration_check after_registration
  registration_taken a e =
      let ok = registration_accepted o l.known (meters_short o lent) a (unfold registration_check in e) in
      let enough = enough_meters (call_passed _ _ _ _ (both_passed _ _ e).0).long in
      let done = registration_agrees l S M R enough.0 enough.1 enough.2 agrees.sound a ok in
      known_agrees _ (registered_meters S M R a) R done.meters_agree done.readings_agree done.sound_meters done.few done.as_long refl

  registration_step : (a : RegistrationCall) → Step (register a)
  unfolding call_answer leaves ledger_answer ledger_after
  registration_step a = record { answers = rw (registration_verdict_lem a); after = rw (registration_verdict_lem a) (left_restored _ _ _ (registration_taken a)) }

  reception_verdict_lem : (a : ReceptionCall) → reception_verdict S M R a ≡ ledger_reception_check l lent a
  unfolding reception_verdict ledger_reception_check
  reception_verdict_lem a =
      rw meters_short_lem
      (cases (meters_short o lent)
      (λ q. rw q (unfold reception_check call_number or_else in refl))
      (λ q. let e = enough_meters q in rw q (reception_check_lem l S M R e.0 e.1 e.2 agrees.sound a)))

  reception_taken : (a : ReceptionCall) → AreBytes a.body → (ledger_reception_check l lent a).number ≡ 0 → Agrees whole (restored n p (with_readings (received_readings S M R a) (cut n p))) (after_reception l a)
  unfolding ledger_reception_check reception_check after_reception
  reception_taken a bytes e =
      let ok = reception_accepted o l.known (meters_short o lent) a (unfold reception_check in e) in
      let enough = enough_meters (call_passed _ _ _ _ (passed_else _ _ e).0).long in
      let done = reception_agrees l S M R enough.0 enough.1 enough.2 agrees.sound a bytes ok in
      known_agrees _ M (received_readings S M R a) done.meters_agree done.readings_agree done.sound_meters done.few refl done.as_long

  reception_step : (a : ReceptionCall) → AreBytes a.body → Step (receive a)
  unfolding call_answer leaves ledger_answer ledger_after
  reception_step a bytes = record { answers = rw (reception_verdict_lem a); after = rw (reception_verdict_lem a) (left_restored _ _ _ (reception_taken a bytes)) }

  -- ---- run

  run_verdict_lem : (d : ℕ) → run_verdict S M R C D d ≡ ledger_run_check l lent d
  unfolding run_verdict ledger_run_check
  run_verdict_lem d =
      rw (run_unready_lem o p.settings n.settings agrees.sound.valid agrees.settings M R C D)
      (cases (any_short o lent)
      (λ q. rw q (unfold run_check in refl))
      (λ q. rw (q, (enough_all q).0.0.dates_are)))

  -- all parts are long enough, and the date is one
  abbrev RunOk : ℕ → Type 0
  RunOk d = (MetersEnough × CellsAgree o C l.pictures × DaysAgree o D l.pictures) × (d < dates o)

  run_ok : (d : ℕ) → (ledger_run_check l lent d).number ≡ 0 → RunOk d
  unfolding ledger_run_check run_check
  run_ok d passed =
      let a = check_passed (any_short o lent) 0 _ passed in
      (enough_all a.0, leb-false (dates o) d (check_passed (leb (dates o) d) 8 0 a.1).0)

  module _ (d : ℕ) (ok : RunOk d) where
    run_taken : Agrees whole (restored n p (with_published (ran_from S M R C D d).published (cut n p))) (after_run l d)
    unfolding after_run restored
    run_taken =
        let (((s, m, r), c, k), h) = ok in
        record {
          sound = record { valid = agrees.sound.valid; meters = agrees.sound.meters; few = agrees.sound.few; pictures_are = after_sound l S M R C D agrees.sound s m r c k d h };
          settings = rw (take-append-drop n.settings p.settings) agrees.settings;
          meters = rw (take-append-drop n.meters p.meters) agrees.meters;
          readings = rw (take-append-drop n.readings p.readings) agrees.readings;
          cells = back_agrees (cells_rest o _) n.cells p.cells _ (run_agrees l S M R C D agrees.sound s m r c k d h);
          days = back_agrees (days_rest o _) n.days p.days _ (run_days l S M R C D agrees.sound s m r c k d h);
          draft = agrees.draft;
          lengths = restored_lengths n p (with_published (ran_from S M R C D d).published (cut n p)) (rw (run_length l S M R C D agrees.sound s m r c k d h, run_days_length l S M R C D agrees.sound s m r c k d h)) ∙ agrees.lengths;
        }

    -- the number it reports
    run_reports : (ran_from S M R C D d).moved ≡ moved_by_run l d
    unfolding after_run cell_at
    run_reports = let (((s, m, r), c, k), h) = ok in run_moved l S M R C D agrees.sound s m r c k d h

  run_step : (d : ℕ) → Step (run d)
  unfolding call_answer leaves ledger_answer ledger_after
  run_step d =
      record {
        answers = rw (run_verdict_lem d) (same_answer _ _ _ (λ e. ap moved (run_reports d (run_ok d e))));
        after = rw (run_verdict_lem d) (left_restored _ _ _ (λ e. run_taken d (run_ok d e)));
      }

  -- ---- preview

  preview_verdict_lem : (a : PreviewCall) → preview_verdict S M R C D (take a.lent p.draft) a.date ≡ ledger_preview_check l lent a
  unfolding preview_verdict ledger_preview_check preview_check
  preview_verdict_lem a =
      rw (run_unready_lem o p.settings n.settings agrees.sound.valid agrees.settings M R C D)
      (cases (any_short o lent)
      (λ q. rw q)
      (λ q. let s = (enough_all q).0.0 in rw (q, draft_short_lem l S p.draft s agrees.draft a.lent, s.dates_are)))

  preview_ok : (a : PreviewCall) → (ledger_preview_check l lent a).number ≡ 0 → RunOk a.date × (draft_short l a.lent ≡ false)
  unfolding ledger_preview_check preview_check run_check
  preview_ok a passed =
      let p1 = check_passed (any_short o lent) 0 _ passed in
      let p18 = check_passed (draft_short l a.lent) 17 _ p1.1 in
      ((enough_all p1.0, leb-false (dates o) a.date (check_passed (leb (dates o) a.date) 8 0 p18.1).0), p18.0)

  -- the store stands, and the draft shows what a run would leave
  preview_taken : (a : PreviewCall) → (ledger_preview_check l lent a).number ≡ 0 →
      Agrees whole (restored n p (with_draft (drafted a.lent (previewed S M R C D a.date) p.draft) (cut n p))) (after_preview l a)
  unfolding after_preview restored after_run cell_at draft_short draft_length
  preview_taken a passed =
      let ((((s, m, r), c, k), h), long) = preview_ok a passed in
      record {
        sound = record { valid = agrees.sound.valid; meters = agrees.sound.meters; few = agrees.sound.few; pictures_are = agrees.sound.pictures_are };
        settings = rw (take-append-drop n.settings p.settings) agrees.settings;
        meters = rw (take-append-drop n.meters p.meters) agrees.meters;
        readings = rw (take-append-drop n.readings p.readings) agrees.readings;
        cells = rw (take-append-drop n.cells p.cells) agrees.cells;
        days = rw (take-append-drop n.days p.days) agrees.days;
        draft =
            draft_taken o a.lent (previewed S M R C D a.date) p.draft l.draft _ agrees.draft (previewed_long l S M R C D agrees.sound s m r c k a.date h) (ltb-false _ _ long)
            (run_shows l S M R C D agrees.sound s m r c k a.date h);
        lengths = restored_lengths n p (with_draft (drafted a.lent (previewed S M R C D a.date) p.draft) (cut n p)) refl ∙ agrees.lengths;
      }

  preview_step : (a : PreviewCall) → Step (preview a)
  unfolding call_answer leaves ledger_answer ledger_after
  preview_step a =
      record {
        answers = rw (preview_verdict_lem a) (same_answer _ _ _ (λ e. ap moved (run_reports a.date (preview_ok a e).0)));
        after = rw (preview_verdict_lem a) (left_restored _ _ _ (preview_taken a));
      }

  -- ---- reads

  cells_short_lem : cells_unready S C ≡ cells_short o lent
  cells_short_lem = cells_unready_lem o p.settings n.settings agrees.sound.valid agrees.settings C (length M) (length R) (length D)

  days_short_lem : days_unready S D ≡ days_short o lent
  days_short_lem = days_unready_lem o p.settings n.settings agrees.sound.valid agrees.settings D (length M) (length R) (length C)

  ran_ok : (d x : ℕ) → cond (not (is_run l d)) 14 x ≡ 0 → (is_run l d ≡ true) × (x ≡ 0)
  ran_ok d x e = let p = check_passed (not (is_run l d)) 13 x e in (not-false (is_run l d) p.0, p.1)

  -- 1, 9 and 15, where settings and another part are long enough; what follows looks at a date that there is, and at a category or period in range
  module _ {Other : Type 0} (short : Bool) (enough : short ≡ false → SettingsAgree o S × Other) where
    range_check_lem : (d : ℕ) (in-store in-ledger : Bool) → (SettingsAgree o S → in-store ≡ in-ledger) → (x y : ℕ) → (SettingsAgree o S × Other → d < dates o → in-ledger ≡ true → x ≡ y) →
        range_check short (dates_of S) d in-store x ≡ range_check short (dates o) d in-ledger y
    range_check_lem d a b h x y same =
        cases short
        (λ q. rw q)
        (λ q.
        let e = enough q in
        rw (q, e.0.dates_are, h e.0)
        (cases (leb (dates o) d)
        (λ w. rw w)
        (λ w. cases b (λ v. rw (w, v, same e (leb-false (dates o) d w) v)) (λ v. rw (w, v)))))

    range_ok : (d : ℕ) (in_range : Bool) (x : ℕ) → range_check short (dates o) d in_range x ≡ 0 → (SettingsAgree o S × Other) × (d < dates o) × (in_range ≡ true) × (x ≡ 0)
    range_ok d b x e =
        let p1 = check_passed short 0 _ e in
        let p9 = check_passed (leb (dates o) d) 8 _ p1.1 in
        let p15 = check_passed (not b) 14 _ p9.1 in
        (enough p1.0, leb-false (dates o) d p9.0, not-false b p15.0, p15.1)

    -- 14
    read_check_lem : (d : ℕ) (in-store in-ledger ran : Bool) → (SettingsAgree o S → in-store ≡ in-ledger) → (SettingsAgree o S × Other → d < dates o → in-ledger ≡ true → ran ≡ is_run l d) →
        read_check short (dates_of S) d in-store ran ≡ read_check short (dates o) d in-ledger (is_run l d)
    unfolding read_check
    read_check_lem d a b ran h same = range_check_lem d a b h _ _ (λ e date range. rw (same e date range))

    read_ok : (d : ℕ) (in_range : Bool) → read_check short (dates o) d in_range (is_run l d) ≡ 0 → (SettingsAgree o S × Other) × (d < dates o) × (in_range ≡ true) × (is_run l d ≡ true)
    unfolding read_check
    read_ok d b e =
        let (lent-enough, date, range, rest) = range_ok d b _ e in
        (lent-enough, date, range, (ran_ok d 0 rest).0)

  -- whether a date is run, read off the cells
  ran_alike : {Range : Type 0} (d : ℕ) → CellsEnough → d < dates o → Range → is_run_at (row_length S) C d ≡ is_run l d
  ran_alike d e date range = run_is l S C e.0 e.1 agrees.sound d date

  -- the reads that go by the days have one check
  day_check : (d c : ℕ) →
      day_verdict S D d c ≡ verdict (read_check (days_short o lent) (dates o) d (totals_in_range (categories o) c) (is_run l d))
  unfolding day_verdict
  day_check d c =
      rw days_short_lem
      (ap verdict
      (read_check_lem (days_short o lent) enough_days d (totals_in_range (categories_of S) c) (totals_in_range (categories o) c) (is_run_day (dates_of S) c D d) (λ s. rw s.categories_are)
      (λ e date range. run_day_is l S D e.0 e.1 agrees.sound d c date (ltb-true c (categories o) (unfold totals_in_range in range)))))

  totals_verdict : (d c : ℕ) → day_verdict S D d c ≡ ledger_totals_check l lent d c
  unfolding ledger_totals_check
  totals_verdict d c = day_check d c

  totals_value : (d c : ℕ) → (ledger_totals_check l lent d c).number ≡ 0 → totals_for S D d c ≡ totals_at l d c
  unfolding ledger_totals_check totals_in_range
  totals_value d c e =
      let (enough, date, range, ran) = read_ok (days_short o lent) enough_days d (totals_in_range (categories o) c) e in
      totals_are_lem l S D enough.0 enough.1 agrees.sound d c date (ltb-true c (categories o) range) ran

  totals_step : (d c : ℕ) → Step (read_totals d c)
  unfolding call_answer leaves ledger_answer ledger_after
  totals_step d c = record { answers = rw (totals_verdict d c) (same_answer _ _ _ (λ e. ap totals_are (totals_value d c e))); after = read_agrees }

  cell_verdict_lem : (d c j : ℕ) → cell_verdict S C d c j ≡ ledger_cell_check l lent d c j
  unfolding cell_verdict ledger_cell_check
  cell_verdict_lem d c j =
      rw cells_short_lem
      (ap verdict
      (read_check_lem (cells_short o lent) enough_cells d (cell_in_range (categories_of S) (periods_of S) c j) (cell_in_range (categories o) (periods o) c j) (is_run_at (row_length S) C d) (λ s. unfold periods_of in rw (s.categories_are, s.duration))
      (ran_alike d)))

  cell_value : (d c j : ℕ) → (ledger_cell_check l lent d c j).number ≡ 0 → cell_for S C d c j ≡ cell_at l d c j
  unfolding ledger_cell_check cell_in_range
  cell_value d c j e =
      let (enough, date, range, ran) = read_ok (cells_short o lent) enough_cells d (cell_in_range (categories o) (periods o) c j) e in
      let q = (and-eq-true_iff (ltb c (categories o)) (between 1 (periods o) j)).0 range in
      let w = (between_true 1 (periods o) j).0 q.1 in
      numbered j w.0 (λ k h. cell_is_lem l S C enough.0 enough.1 agrees.sound d c k date (ltb-true c (categories o) q.0) h ran) w.1
    where
      -- periods count from 1
      numbered : (j : ℕ) → 1 ≤ j → ((k : ℕ) → k < periods o → cell_for S C d c (suc k) ≡ cell_at l d c (suc k)) → j ≤ periods o → cell_for S C d c j ≡ cell_at l d c j
      numbered zero low h high = absurd (omega arith)
      numbered (suc k) low h high = h k high

  cell_step : (d c j : ℕ) → Step (read_cell d c j)
  unfolding call_answer leaves ledger_answer ledger_after
  cell_step d c j = record { answers = rw (cell_verdict_lem d c j) (same_answer _ _ _ (λ e. ap cell_is (cell_value d c j e))); after = read_agrees }

  -- P is that of the opening, so 1 is the same of two lists that take P entries each
  lists_short_lem : (x y : ℕ) → (cells_unready S C || lists_short (periods_of S) x y) ≡ (cells_short o lent || lists_short (periods o) x y)
  lists_short_lem x y = rw cells_short_lem (cases (cells_short o lent) (λ q. rw q) (λ q. unfold periods_of in rw (q, (enough_cells q).0.duration)))

  -- a net read is lent cells and days
  abbrev net_short : NetCall → Bool
  net_short a = days_short o lent || (cells_short o lent || lists_short (periods o) a.numbers a.marks)

  enough_net : (a : NetCall) → net_short a ≡ false → SettingsAgree o S × (CellsAgree o C l.pictures × DaysAgree o D l.pictures)
  enough_net a q =
      let e = neither _ _ q in
      let cells = enough_cells (neither _ _ e.1).0 in
      (cells.0, (cells.1, (enough_days e.0).1))

  -- 26 looks at a category that there is
  net_verdict_lem : (a : NetCall) → net_verdict S C D a ≡ ledger_net_check l lent a
  unfolding net_verdict ledger_net_check net_check
  net_verdict_lem a =
      rw (days_short_lem, lists_short_lem a.numbers a.marks)
      (ap verdict
      (range_check_lem (net_short a) (enough_net a) a.date (totals_in_range (categories_of S) a.category) (totals_in_range (categories o) a.category) (λ s. rw s.categories_are)
      (cond (not (may_net (category_of S) (categories_of S) a.all_groups a.category)) 26 (cond (not (is_run_at (row_length S) C a.date)) 14 0))
      (cond (not (may_net (category o) (categories o) a.all_groups a.category)) 26 (cond (not (is_run l a.date)) 14 0))
      (λ e date range.
      rw (
        e.0.categories_are,
        run_is l S C e.0 e.1.0 agrees.sound a.date date,
        may_net_is l S C e.0 e.1.0 agrees.sound a.all_groups a.category (ltb-true a.category (categories o) (unfold totals_in_range in range)),
      ))))

  net_value : (a : NetCall) → (ledger_net_check l lent a).number ≡ 0 → net_for S C D a ≡ net_at l a
  unfolding ledger_net_check net_check totals_in_range
  net_value a e =
      let (enough, date, range, rest) = range_ok (net_short a) (enough_net a) a.date (totals_in_range (categories o) a.category) _ e in
      let p26 = check_passed (not (may_net (category o) (categories o) a.all_groups a.category)) 25 _ rest in
      net_is_lem l S C D enough.0 enough.1.0 enough.1.1 agrees.sound a date (ltb-true a.category (categories o) range) (ran_ok a.date 0 p26.1).0

  net_step : (a : NetCall) → Step (read_net a)
  unfolding call_answer leaves ledger_answer ledger_after
  net_step a = record { answers = rw (net_verdict_lem a) (same_answer _ _ _ (λ e. ap net_is (net_value a e))); after = read_agrees }

  band_verdict_lem : (a : BandCall) → band_verdict S D a ≡ ledger_band_check l lent a
  unfolding band_verdict ledger_band_check band_check
  band_verdict_lem a = rw days_short_lem (cases (days_short o lent) (λ q. rw q) (λ q. rw (q, (enough_days q).0.categories_are)))

  band_value : (a : BandCall) → (ledger_band_check l lent a).number ≡ 0 → band_for S D a ≡ band_at l a
  unfolding ledger_band_check band_check totals_in_range
  band_value a e =
      let p1 = check_passed (days_short o lent) 0 _ e in
      let p15 = check_passed (not (ltb a.category (categories o))) 14 0 p1.1 in
      let enough = enough_days p1.0 in
      band_is_lem l S D enough.0 enough.1 agrees.sound a (ltb-true a.category (categories o) (not-false _ p15.0))

  band_step : (a : BandCall) → Step (search_band a)
  unfolding call_answer leaves ledger_answer ledger_after
  band_step a = record { answers = rw (band_verdict_lem a) (same_answer _ _ _ (λ e. ap band_is (band_value a e))); after = read_agrees }

  -- 17 looks at the cells of a run date, and of a category that there is
  fill_verdict_lem : (a : FillCall) → fill_verdict S C a ≡ ledger_fill_check l lent a
  unfolding fill_verdict ledger_fill_check fill_check
  fill_verdict_lem a =
      rw (lists_short_lem (length a.marks) a.room)
      (ap verdict
      (range_check_lem (cells_short o lent || lists_short (periods o) (length a.marks) a.room) (λ q. enough_cells (neither _ _ q).0) a.date (totals_in_range (categories_of S) (shape_for S a)) (totals_in_range (categories o) (shape_at l a)) (λ s. rw (s.categories_are, shape_is l S s a))
      (cond (not (is_run_at (row_length S) C a.date)) 14 (cond (not (may_fill (periods_of S) (weight_for S C a))) 17 0))
      (cond (not (is_run l a.date)) 14 (cond (not (may_fill (periods o) (weight_at l a))) 17 0))
      (λ e date range.
      rw (run_is l S C e.0 e.1 agrees.sound a.date date)
      (cases (is_run l a.date)
      (λ q. rw (q, may_fill_is l S C e.0 e.1 agrees.sound a date (ltb-true _ (categories o) (unfold totals_in_range in range)) q))
      (λ q. rw q)))))

  fill_value : (a : FillCall) → (ledger_fill_check l lent a).number ≡ 0 → fill_for S C a ≡ fill_at l a
  unfolding ledger_fill_check fill_check totals_in_range
  fill_value a e =
      let (enough, date, range, rest) = range_ok (cells_short o lent || lists_short (periods o) (length a.marks) a.room) (λ q. enough_cells (neither _ _ q).0) a.date (totals_in_range (categories o) (shape_at l a)) _ e in
      fill_is l S C enough.0 enough.1 agrees.sound a date (ltb-true _ (categories o) range) (ran_ok a.date _ rest).0

  fill_step : (a : FillCall) → Step (fill_hole a)
  unfolding call_answer leaves ledger_answer ledger_after
  fill_step a = record { answers = rw (fill_verdict_lem a) (same_answer _ _ _ (λ e. ap filled_are (fill_value a e))); after = read_agrees }

  coverage_verdict : (d c : ℕ) → day_verdict S D d c ≡ ledger_coverage_check l lent d c
  unfolding ledger_coverage_check
  coverage_verdict d c = day_check d c

  coverage_value : (d c : ℕ) → (ledger_coverage_check l lent d c).number ≡ 0 → coverage_for S D d c ≡ coverage_at l d c
  unfolding ledger_coverage_check totals_in_range
  coverage_value d c e =
      let (enough, date, range, ran) = read_ok (days_short o lent) enough_days d (totals_in_range (categories o) c) e in
      coverage_is_lem l S D enough.0 enough.1 agrees.sound d c date (ltb-true c (categories o) range) ran

  coverage_step : (d c : ℕ) → Step (read_coverage d c)
  unfolding call_answer leaves ledger_answer ledger_after
  coverage_step d c = record { answers = rw (coverage_verdict d c) (same_answer _ _ _ (λ e. ap coverage_is (coverage_value d c e))); after = read_agrees }

  -- ---- row

  row_verdict_lem : (a : RowCall) → row_verdict S C (take a.lent p.draft) a ≡ ledger_row_check l lent a
  unfolding row_verdict ledger_row_check row_check read_check
  row_verdict_lem a =
      rw cells_short_lem
      (cases (cells_short o lent)
      (λ q. rw q)
      (λ q.
      let e = enough_cells q in
      rw (q, draft_short_lem l S p.draft e.0 agrees.draft a.lent)
      (cases (draft_short l a.lent)
      (λ w. rw w)
      (λ w.
      rw w
      (ap verdict
      (range_check_lem false (λ z. e) a.date (totals_in_range (categories_of S) a.category) (totals_in_range (categories o) a.category) (λ s. rw s.categories_are)
      (cond (not (not (is_published a) || is_run_at (row_length S) C a.date)) 14 0)
      (cond (not (not (is_published a) || is_run l a.date)) 14 0)
      (λ f date range. rw (ran_alike a.date f date range))))))))

  -- what an accepted row rests on
  row_ok : (a : RowCall) → (ledger_row_check l lent a).number ≡ 0 →
      (CellsEnough × (draft_short l a.lent ≡ false)) × (a.date < dates o) × (a.category < categories o) × (is_published a ≡ true → is_run l a.date ≡ true)
  unfolding ledger_row_check row_check read_check totals_in_range
  row_ok a passed =
      let p1 = check_passed (cells_short o lent) 0 _ passed in
      let p18 = check_passed (draft_short l a.lent) 17 _ p1.1 in
      let (e, date, range, rest) = range_ok false (λ z. enough_cells p1.0) a.date (ltb a.category (categories o)) _ p18.1 in
      ((e, p18.0), date, ltb-true a.category (categories o) range, λ q. rw q at (not-false (not (is_published a) || is_run l a.date) (check_passed (not (not (is_published a) || is_run l a.date)) 13 0 rest).0))

  row_value : (a : RowCall) → (ledger_row_check l lent a).number ≡ 0 → cells_of (row_for S C (take a.lent p.draft) a) ≡ row_shown l a
  unfolding row_for row_shown draft_short draft_length published_start draft_start periods_of
  row_value a passed =
      let ((e, long), date, range, ran) = row_ok a passed in
      let P = periods o in
      let least : (a.category * P + P ≤ categories o * P) = omega (arith, suc-mul a.category P, mul-le-mul_right P range) in
      let lent_long : categories o * P ≤ min a.lent l.draft.room = ltb-false _ _ long in
      rw e.0.duration
      (cases (is_published a)
      (λ q. rw q (published_row l S C e.0 e.1 agrees.sound a.date a.category date range (ran q)))
      (λ q.
      rw q
      (cells_of_lem P (a.category * P) (take a.lent p.draft) _
      (rw (length-take a.lent p.draft, agrees.draft.as_long) (omega arith))
      (λ k m.
      ap cell_of_entry (get_d_cut a.lent p.draft (a.category * P + k) (omega arith))
      ∙ agrees.draft.shows a.category k range m))))

  row_step : (a : RowCall) → Step (read_row a)
  unfolding call_answer leaves ledger_answer ledger_after
  row_step a = record { answers = rw (row_verdict_lem a) (same_answer _ _ _ (λ e. ap row_is (row_value a e))); after = read_agrees }

  step : (c : Call) → BodyOfBytes c → Step c
  step (register a) b = registration_step a
  step (receive a) b = reception_step a b
  step (run d) b = run_step d
  step (read_totals d c) b = totals_step d c
  step (read_cell d c j) b = cell_step d c j
  step (read_net a) b = net_step a
  step (search_band a) b = band_step a
  step (fill_hole a) b = fill_step a
  step (read_coverage d c) b = coverage_step d c
  step (preview a) b = preview_step a
  step (read_row a) b = row_step a

-- ---- every list of calls

-- a relation that every call keeps while the answers are alike makes the answers to every list alike
simulation : {S L I A : Type 0} (f : S → I → A) (g : S → I → S) (h : L → I → A) (k : L → I → L) (R : S → L → Type 0) (ok : I → Type 0) →
    ((s : S) (l : L) (i : I) → R s l → ok i → (f s i ≡ h l i) × R (g s i) (k l i)) →
    (items : List I) → Every ok items → (s : S) (l : L) → R s l → answers_from f g s items ≡ answers_from h k l items
unfolding answers_from
simulation f g h k R ok each [] b s l r = refl
simulation f g h k R ok each (i ∷ is) b s l r =
    let e = each s l i r b.0 in
    ap₂ (λ x xs. x ∷ xs) e.0 (simulation f g h k R ok each is b.1 (g s i) (k l i) e.1)

pub item_step : (whole : Lengths) (p : Parts) (l : Ledger) (i : Item) → Agrees whole p l → BodyOfBytes i.call →
    (call_answer (cut i.lent p) i.call ≡ ledger_answer l (cut_lengths i.lent whole) i.call)
    × Agrees whole (parts_after p i) (ledger_after l (cut_lengths i.lent whole) i.call)
unfolding parts_after
item_step whole p l i a b =
    let s = step whole p l a i.lent i.call b in
    let lengths : cut_lengths i.lent whole ≡ lengths_of (cut i.lent p) = rw (← a.lengths) (sym (cut_lengths_lem i.lent p)) in
    (rw lengths s.answers, rw lengths s.after)

list_agrees : (items : List Item) (whole : Lengths) (p : Parts) (l : Ledger) → Agrees whole p l → BodiesOfBytes items → store_answers p items ≡ ledger_answers l whole items
unfolding store_answers ledger_answers
list_agrees items whole p l a b = simulation _ _ _ _ (Agrees whole) (λ i. BodyOfBytes i.call) (item_step whole) items b p l a

-- ---- from an accepted opening on

pub opened_agrees : (p : Parts) (a : Opening) → (opening_verdict p.settings p.meters p.readings p.cells p.days a).number ≡ 0 → Agrees (lengths_of p) (opened_parts p a) (start a (draft_of a p.draft))
unfolding opened_parts start opened_meters opened_readings opened_cells opened_days
opened_agrees p a e =
    let ok = open_step.opening_accepted p.settings p.meters p.readings p.cells p.days a e in
    record {
      sound = record { valid = ok.valid; meters = tt; few = omega arith; pictures_are = λ d q z. absurd (let y : ◌≡◌ {A = ℕ} 0 1 = cc in omega arith) };
      settings = open_step.settings_agree a p.settings ok.valid.whole (windows_few a.duration a.window_minutes ok.windows_good) ok.settings_long;
      meters = open_step.meters_agree a p.meters ok.meters_long;
      readings = open_step.readings_agree a p.readings ok.readings_long;
      cells = open_step.cells_agree a p.cells ok.cells_long;
      days = open_step.days_agree a p.days ok.days_long;
      draft = record { as_long = refl; shows = λ c k hc hk. let one : suc k - 1 ≡ k = omega arith in rw one };
      lengths =
          λ i.
          record {
            settings = open_step.settings_length_lem a p.settings ok.valid.whole ok.settings_long i;
            meters = open_step.emptied_length (meters_length a.meters) p.meters ok.meters_long i;
            readings = open_step.emptied_length _ p.readings ok.readings_long i;
            cells = open_step.emptied_length _ p.cells ok.cells_long i;
            days = open_step.emptied_length _ p.days ok.days_long i;
          };
    }

-- Demand 3
pub agreement : Agreement
agreement p a items e b = list_agrees items (lengths_of p) (opened_parts p a) (start a (draft_of a p.draft)) (opened_agrees p a e) b
