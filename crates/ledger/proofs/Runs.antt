-- A run keeps the relation, and what it reports is the number of the ledger's cells that differ.
use Rattle.std.proofs.Common.{◌≡◌, ℕ, suc, ◌+◌, ◌*◌, ◌/◌, ◌%◌, ◌<◌, ◌≤◌, Bool, true, cond, ◌&&◌, eqb, ◌≢◌, List, [], ◌∷◌, ◌++◌, length, get_or, sym, refl, ap, ◌∙◌, ⊎_elim, zero-le, mul-le-mul_right, mod-lt, div-lt_iff_lt-mul, arith, length-append, eq-eqb, ne_eqb}
use mathlib.Core.Path.{fun_ext}
use mathlib.Core.Bool.{and-eq-true_iff}
use mathlib.Core.Option.{Option, none, some}
use lib.Arith.{digits_div, digits_mod}
use borrow.Table.Steps.{cases}
use Rattle.metering.specs.Calendar.{periods_per_day}
use Rattle.ledger.specs.Method.{Category, is_smart, same_family, ReadingSet, Picture, watt_hours, present, total, is_enough, fresh_of, fresh_in, cell_on}
use Rattle.ledger.specs.Checks.{Registration, later, latest_from, in_force}
use Rattle.ledger.specs.Sizes.{cells_length}
use Rattle.ledger.specs.Ledger.{Opening, window, categories, dates, periods, category, day_type, Meter, Ledger, at, day_of, cell_by, is_picture, held_sets_of, picture_of, moved_between}
use Rattle.ledger.specs.Store.{periods_of, row_length, category_of, FitsEntry, cell_of_entry, is_run_at}
use Rattle.ledger.specs.Calls.{family_tally, fresh_at, entries_for, row_entry, row_at, last_run, inherited_from, new_row, ran_from, as_published, stretch, previewed}
use Rattle.ledger.proofs.Latest.{taken_or_left}
use Rattle.ledger.proofs.Days.{days_cong}
use Rattle.ledger.proofs.Kept.{entries_cong, day_at, KeptIn, ran_keeps}
use Rattle.ledger.proofs.Lists.{length_tabulate, sum_below_cong, sum_below_rows, block_below, part_at}
use Rattle.ledger.proofs.Walks.{previewed_is}
use Rattle.ledger.proofs.Entries.{FreshFits, cell_entry}
use Rattle.ledger.proofs.Columns.{day_if, cell_fits}
use Rattle.ledger.proofs.Rows.{column_cell, run_at, RunLeaves, run_good}
use Rattle.ledger.proofs.Relation.{Valid, SoundRegistrations, SoundMeters, SoundPicture, SettingsAgree, MetersAgree, ReadingsAgree, shape_of, shapes, CellsAgree, day_by, DaysAgree, Sound}
use Rattle.ledger.proofs.Tallies.{count_le, sum_le, average_fits, family_total, tally_is}

-- ---- own shapes have room

fresh_fits : (smart : Bool) (m s n S K : ℕ) → s ≤ n * 4294967295 → n ≤ 1024 → S ≤ K * 4294967295 → K ≤ 1024 → FreshFits (fresh_of smart m s n S K)
unfolding fresh_of
fresh_fits smart m s n S K l few L k =
    cases (is_enough n m)
    (λ e. rw e (average_fits s n m e l few))
    (λ e.
    rw e
    (cases (smart && is_enough K m)
    (λ q. rw q (average_fits S K m ((and-eq-true_iff smart (is_enough K m)).0 q).1 L k))
    (λ q. rw q tt)))

picture_fits : (C : ℕ) (category_of : ℕ → Category) (p : Picture) → SoundPicture C p → length p ≤ 1024 → (c j : ℕ) → FreshFits (fresh_in category_of p c j)
unfolding fresh_in
picture_fits C category_of p s few c j =
    let n = count_le (eqb c) p j in
    let k = count_le (λ b. same_family (category_of c) (category_of b)) p j in
    fresh_fits (is_smart (category_of c)) (category_of c).de_minimis _ _ _ _
    (sum_le C (eqb c) p j s)
    (omega arith)
    (sum_le C (λ b. same_family (category_of c) (category_of b)) p j s)
    (omega arith)

-- ---- the picture of a date

abbrev Named : ℕ → Option Registration → Type 0
Named C none = Unit {0}
Named C (some r) = r.category < C

later_named : (C : ℕ) (key : Registration → ℕ) (bound : ℕ) (best : Option Registration) (r : Registration) → Named C best → r.category < C →
    Named C (later key bound best r)
later_named C key bound best r b h = ⊎_elim (λ t. rw t.0 h) (λ t. rw t.0 b) (taken_or_left key bound best r)

latest_named : (C : ℕ) (key : Registration → ℕ) (bound : ℕ) (best : Option Registration) (rs : List Registration) → Named C best → SoundRegistrations C rs →
    Named C (latest_from key bound best rs)
unfolding latest_from
latest_named C key bound best [] b s = b
latest_named C key bound best (r ∷ rs) b s = latest_named C key bound (later key bound best r) rs (later_named C key bound best r b s.0) s.2

force_named : (C date : ℕ) (rs : List Registration) → SoundRegistrations C rs → Named C (in_force date rs)
unfolding in_force
force_named C date rs s = latest_named C _ _ none rs tt s

sound_append : (C : ℕ) (a b : Picture) → SoundPicture C a → SoundPicture C b → SoundPicture C (a ++ b)
sound_append C [] b s t = t
sound_append C (e ∷ es) b s t = (s.0, s.1, sound_append C es b s.2 t)

picture_sound : (C date : ℕ) (ms : List Meter) → SoundMeters C ms → SoundPicture C (picture_of date ms)
unfolding picture_of
picture_sound C date [] s = tt
picture_sound C date (m ∷ ms) s =
    sound_append C (held_sets_of (m.held date) (in_force date m.registrations)) (picture_of date ms) (entry (m.held date) refl (in_force date m.registrations) (force_named C date m.registrations s.0.registered)) (picture_sound C date ms s.1)
  where
    entry : (x : Option ReadingSet) → m.held date ≡ x → (r : Option Registration) → Named C r → SoundPicture C (held_sets_of x r)
    entry none e r n = tt
    entry (some x) e none n = tt
    entry (some x) e (some r) n = (n, s.0.small date x e, tt)

entries_le : (x : Option ReadingSet) (r : Option Registration) → length (held_sets_of x r) ≤ 1
entries_le none r = zero-le
entries_le (some x) none = zero-le
entries_le (some x) (some r) = omega arith

picture_le : (date : ℕ) (ms : List Meter) → length (picture_of date ms) ≤ length ms
unfolding picture_of
picture_le date [] = zero-le
picture_le date (m ∷ ms) =
    rw (length-append (held_sets_of (m.held date) (in_force date m.registrations)) (picture_of date ms))
    (let h = picture_le date ms in let e = entries_le (m.held date) (in_force date m.registrations) in omega arith)

-- ---- what the store's sums give is the picture's own shape

module _ (o : Opening) (s meters readings : List ℕ) (known : List Meter) (agree : SettingsAgree o s)
    (metersAgree : MetersAgree o meters known) (readingsAgree : ReadingsAgree o readings known) (sound : SoundMeters (categories o) known)
    (date : ℕ) (h : date < dates o) where
  family_is : (measure : Option ℕ → ℕ) (c j : ℕ) → c < categories o → 1 ≤ j → j ≤ periods o →
      family_tally s meters readings date measure c j ≡ total measure (λ b. same_family (category o c) (category o b)) (picture_of date known) j
  unfolding family_tally
  family_is measure c j hc low high =
      rw agree.categories_are
      (sum_below_cong (categories o) _ (λ b. cond (same_family (category o c) (category o b)) (total measure (eqb b) (picture_of date known) j) 0)
      (λ b l. rw (agree.records c hc, agree.records b l, tally_is o s meters readings agree date b j h low high measure known metersAgree readingsAgree))
      ∙ sym (family_total measure (λ b. same_family (category o c) (category o b)) (categories o) j (picture_of date known) (picture_sound (categories o) date known sound)))

  fresh_is : (c j : ℕ) → c < categories o → 1 ≤ j → j ≤ periods o → fresh_at s meters readings date c j ≡ fresh_in (category o) (picture_of date known) c j
  unfolding fresh_at fresh_in
  fresh_is c j hc low high =
      rw (
        tally_is o s meters readings agree date c j h low high watt_hours known metersAgree readingsAgree,
        tally_is o s meters readings agree date c j h low high present known metersAgree readingsAgree,
        family_is watt_hours c j hc low high,
        family_is present c j hc low high,
        agree.records c hc,
      )

-- ---- columns are the ledger's cells

day_is : (category_of : ℕ → Category) (c j : ℕ) (p : Option Picture) → day_of category_of c j p ≡ day_if (is_picture p) (shape_of category_of c j p)
day_is category_of c j none = refl
day_is category_of c j (some p) = refl

column_is : (o : Opening) (pictures : ℕ → Option Picture) (c p d : ℕ) → p < periods o →
    column_cell (day_type o) (λ x. is_picture (pictures x)) (shapes o pictures) (c * periods o + p) d ≡ cell_by o pictures d c (suc p)
unfolding cell_by
column_is o pictures c p d h =
    ap (λ f. cell_on (day_type o) f d) (fun_ext (λ x. rw (digits_div c h, digits_mod c h) (sym (day_is (category o) c (suc p) (pictures x)))))

pub valid_periods : (o : Opening) → Valid o → (48 ≤ periods o) × (periods o ≤ 96)
unfolding periods_per_day
valid_periods o v = ⊎_elim (λ e. rw e (omega arith, omega arith)) (λ e. rw e (omega arith, omega arith)) v.duration

shapes_fits : (o : Opening) (pictures : ℕ → Option Picture) →
    ((d : ℕ) (p : Picture) → pictures d ≡ some p → SoundPicture (categories o) p × (length p ≤ 1024)) → (k x : ℕ) → FreshFits (shapes o pictures k x)
shapes_fits o pictures sound k x = go (pictures x) refl
  where
    go : (q : Option Picture) → pictures x ≡ q → FreshFits (shape_of (category o) (k / periods o) (suc (k % periods o)) q)
    go none e = tt
    go (some p) e = picture_fits (categories o) (category o) p (sound x p e).0 (sound x p e).1 (k / periods o) (suc (k % periods o))

module _ (o : Opening) (pictures : ℕ → Option Picture) (valid : Valid o)
    (sound : (d : ℕ) (p : Picture) → pictures d ≡ some p → SoundPicture (categories o) p × (length p ≤ 1024)) where
  -- a column's cell has room
  column_fits : (d k : ℕ) → d < dates o → FitsEntry (column_cell (day_type o) (λ x. is_picture (pictures x)) (shapes o pictures) k d)
  column_fits d k hd =
      let t = valid.dates_are in
      cell_fits (day_type o) (λ x. is_picture (pictures x)) (shapes o pictures k) (shapes_fits o pictures sound k) d (omega arith)

  pub value_small : (d c k : ℕ) → d < dates o → k < periods o → (cell_by o pictures d c (suc k)).value < 4294967296
  value_small d c k hd hk = rw (column_is o pictures c k d hk) at (column_fits d (c * periods o + k) hd).value

-- ---- a recount of the store's cells is one of the ledger's

module _ (o : Opening) (s cells : List ℕ) (agree : SettingsAgree o s) (pictures : ℕ → Option Picture) (valid : Valid o)
    (sound : (d : ℕ) (p : Picture) → pictures d ≡ some p → SoundPicture (categories o) p × (length p ≤ 1024)) (cellsAgree : CellsAgree o cells pictures) where
  row_length_lem : row_length s ≡ categories o * periods o
  unfolding row_length periods_of
  row_length_lem = rw (agree.categories_are, agree.duration)

  some_places : 0 < categories o * periods o
  some_places =
      let p = valid_periods o valid in
      let c = valid.categories_are in
      omega (arith, mul-le-mul_right (periods o) c.0)

  pub ran_is : (d : ℕ) → d < dates o → is_run_at (row_length s) cells d ≡ is_picture (pictures d)
  ran_is d h =
      rw row_length_lem
      (run_at (categories o * periods o) cells d (is_picture (pictures d)) (column_cell (day_type o) (λ x. is_picture (pictures x)) (shapes o pictures) 0 d) (column_fits o pictures valid sound d 0 h) (cellsAgree.are d 0 h some_places))

  pub entry_is : (d c k : ℕ) → d < dates o → c < categories o → k < periods o → is_picture (pictures d) ≡ true →
      cell_of_entry (row_at (categories o * periods o) cells d (c * periods o + k)) ≡ cell_by o pictures d c (suc k)
  entry_is d c k hd hc hk r =
      let place = c * periods o + k in
      ap cell_of_entry (cellsAgree.are d place hd (block_below (periods o) (categories o) c k hc hk) ∙ rw r)
      ∙ cell_entry (column_cell (day_type o) (λ x. is_picture (pictures x)) (shapes o pictures) place d) (column_fits o pictures valid sound d place hd)
      ∙ column_is o pictures c k d hk

  recount_is : (c d : ℕ) → c < categories o → d < dates o → day_at s (row_length s) cells c d ≡ day_by o pictures c d
  unfolding day_at day_by entries_for periods_of
  recount_is c d hc hd =
      rw (ran_is d hd)
      (cases (is_picture (pictures d))
      (λ r. rw (r, agree.duration, agree.records c hc, agree.windows (category o c).window, row_length_lem) (entries_cong o.duration (window o (category o c).window) (periods o) _ _ (λ k l. entry_is d c k hd hc l r)))
      (λ r. rw r))

-- ---- a run

module _ (l : Ledger) (s meters readings cells days : List ℕ) (sound : Sound l) (agree : SettingsAgree l.opening s)
    (metersAgree : MetersAgree l.opening meters l.known) (readingsAgree : ReadingsAgree l.opening readings l.known)
    (cellsAgree : CellsAgree l.opening cells l.pictures) (daysAgree : DaysAgree l.opening days l.pictures) (date : ℕ)
    (h : date < dates l.opening) where
  pub after_sound : (d : ℕ) (p : Picture) → at date (some (picture_of date l.known)) l.pictures d ≡ some p → SoundPicture (categories l.opening) p × (length p ≤ 1024)
  unfolding at
  after_sound d p e =
      cases (eqb d date)
      (λ q.
      let same : picture_of date l.known ≡ p = (let z : some (picture_of date l.known) ≡ some p = rw q at e in cc) in
      rw (← same) (
        picture_sound (categories l.opening) date l.known sound.meters,
        let a = picture_le date l.known in let b = sound.few in let c = sound.valid.meters in omega arith,
      ))
      (λ q. sound.pictures_are d p (rw q at e))

  row_is : row_length s ≡ categories l.opening * periods l.opening
  row_is = row_length_lem l.opening s cells agree l.pictures sound.valid sound.pictures_are cellsAgree

  places : 0 < categories l.opening * periods l.opening
  places = some_places l.opening s cells agree l.pictures sound.valid sound.pictures_are cellsAgree

  run_alike : (x : ℕ) → x ≢ date → is_picture (l.pictures x) ≡ is_picture (at date (some (picture_of date l.known)) l.pictures x)
  unfolding at
  run_alike x n = rw (ne_eqb x date n)

  shapes_alike : (k x : ℕ) → x ≢ date → shapes l.opening l.pictures k x ≡ shapes l.opening (at date (some (picture_of date l.known)) l.pictures) k x
  unfolding at
  shapes_alike k x n = rw (ne_eqb x date n)

  new_run : is_picture (at date (some (picture_of date l.known)) l.pictures date) ≡ true
  unfolding at
  new_run = rw (eq-eqb date date refl)

  new_is : (k : ℕ) → k < categories l.opening * periods l.opening →
      new_row s meters readings cells date k
      ≡ row_entry date (shapes l.opening (at date (some (picture_of date l.known)) l.pictures) k date)
      (inherited_from (categories l.opening * periods l.opening) cells (last_run s cells (day_type l.opening date) date) k)
  unfolding new_row periods_of at
  new_is k m =
      let p = valid_periods l.opening sound.valid in
      rw (row_is, agree.types date h, agree.duration, eq-eqb date date refl)
      (ap
      (λ f.
      row_entry date f
      (inherited_from (categories l.opening * periods l.opening) cells (last_run s cells (day_type l.opening date) date) k))
      (fresh_is l.opening s meters readings l.known agree metersAgree readingsAgree sound.meters date h
      (k / periods l.opening)
      (suc (k % periods l.opening))
      ((div-lt_iff_lt-mul (omega arith)).1 m)
      (omega arith)
      (mod-lt k (omega arith))))

  room : dates l.opening * (categories l.opening * periods l.opening) ≤ length cells
  unfolding cells_length
  room = cellsAgree.long

  few_dates : dates l.opening ≤ 1024
  few_dates = let d = sound.valid.dates_are in omega arith

  run_leaves :
      RunLeaves (categories l.opening * periods l.opening) (dates l.opening) (day_type l.opening)
      (λ d. is_picture (l.pictures d)) (λ d. is_picture (at date (some (picture_of date l.known)) l.pictures d))
      (shapes l.opening l.pictures) (shapes l.opening (at date (some (picture_of date l.known)) l.pictures))
      (length cells) (ran_from s meters readings cells days date)
  unfolding ran_from
  run_leaves =
      run_good s (categories l.opening * periods l.opening) (dates l.opening) (day_type l.opening) places few_dates row_is agree.types
      (λ d. is_picture (l.pictures d)) (λ d. is_picture (at date (some (picture_of date l.known)) l.pictures d))
      (shapes l.opening l.pictures) (shapes l.opening (at date (some (picture_of date l.known)) l.pictures))
      (shapes_fits l.opening l.pictures sound.pictures_are)
      (shapes_fits l.opening (at date (some (picture_of date l.known)) l.pictures) after_sound)
      date run_alike shapes_alike (length cells) room cells refl cellsAgree.are agree.dates_are h new_run (new_row s meters readings cells date) new_is days

  -- the cells after it are those of the new pictures
  pub run_agrees : CellsAgree l.opening (ran_from s meters readings cells days date).published.cells (at date (some (picture_of date l.known)) l.pictures)
  run_agrees = record { are = run_leaves.cells_are; long = rw run_leaves.as_long cellsAgree.long }

  pub run_length : length (ran_from s meters readings cells days date).published.cells ≡ length cells
  run_length = run_leaves.as_long

  -- a preview shows the date's cells as they are then
  pub run_shows : (c k : ℕ) → c < categories l.opening → k < periods l.opening →
      cell_of_entry (get_or (previewed s meters readings cells days date) (c * periods l.opening + k) 0)
      ≡ cell_by l.opening (at date (some (picture_of date l.known)) l.pictures) date c (suc k)
  unfolding previewed stretch
  run_shows c k hc hk =
      rw row_is
      (ap cell_of_entry (part_at _ (date * (categories l.opening * periods l.opening)) (categories l.opening * periods l.opening) (c * periods l.opening + k) (block_below (periods l.opening) (categories l.opening) c k hc hk))
      ∙ (unfold row_at in entry_is l.opening s _ agree (at date (some (picture_of date l.known)) l.pictures) sound.valid after_sound run_agrees date c k h hc hk new_run))

  pub previewed_long : length (previewed s meters readings cells days date) ≡ categories l.opening * periods l.opening
  previewed_long = ap length (previewed_is s meters readings cells days date (rw agree.dates_are h) (rw (agree.dates_are, row_is) room)) ∙ length_tabulate _ _ ∙ row_is

  -- the number it reports is that of the ledger's cells that differ
  pub run_moved :
      (ran_from s meters readings cells days date).moved
      ≡ moved_between l.opening (cell_by l.opening l.pictures) (cell_by l.opening (at date (some (picture_of date l.known)) l.pictures))
  unfolding moved_between
  run_moved =
      run_leaves.moved_is
      ∙ sum_below_cong (dates l.opening) _ _
      (λ d m.
      sym (sum_below_rows (categories l.opening) (periods l.opening) _)
      ∙ sum_below_cong (categories l.opening) _ _
      (λ c v.
      sum_below_cong (periods l.opening) _ _
      (λ p w.
      rw (column_is l.opening l.pictures c p d w, column_is l.opening (at date (some (picture_of date l.known)) l.pictures) c p d w))))

  few_periods : periods_of s ≤ 96
  unfolding periods_of
  few_periods = rw agree.duration (valid_periods l.opening sound.valid).1

  -- kept = recounted, before the run and after it
  kept : KeptIn s (length days) (as_published cells days)
  kept =
      record {
        are = rw (agree.dates_are, agree.categories_are) (days_cong (dates l.opening) (categories l.opening) _ _ days (λ c y hc hy. sym (recount_is l.opening s cells agree l.pictures sound.valid sound.pictures_are cellsAgree c y hc hy)) daysAgree.are);
        as_long = refl;
        room = rw (agree.dates_are, row_is) room;
      }

  run_keeps : KeptIn s (length days) (ran_from s meters readings cells days date).published
  run_keeps =
      ran_keeps s few_periods (rw row_is places) (length days) (rw (agree.categories_are, agree.dates_are) daysAgree.long) meters readings cells days date
      (rw agree.dates_are h) kept

  pub run_days_length : length (ran_from s meters readings cells days date).published.days ≡ length days
  run_days_length = run_keeps.as_long

  pub run_days : DaysAgree l.opening (ran_from s meters readings cells days date).published.days (at date (some (picture_of date l.known)) l.pictures)
  run_days =
      record {
        are = days_cong (dates l.opening) (categories l.opening) _ _ (ran_from s meters readings cells days date).published.days (λ c y hc hy. recount_is l.opening s (ran_from s meters readings cells days date).published.cells agree (at date (some (picture_of date l.known)) l.pictures) sound.valid after_sound run_agrees c y hc hy) (rw (agree.dates_are, agree.categories_are) at run_keeps.are);
        long = rw run_days_length daysAgree.long;
      }
