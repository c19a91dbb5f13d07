-- Every field of every answer fits a signed number of 64 bits, whatever the parts hold.
use Prim.Native.Nat.{ℕ, zero, suc, ◌+◌, ◌-◌, ◌*◌, ◌/◌, ◌≤◌, ◌<◌, zero-le}
use mathlib.Core.Path.{◌≡◌}
use mathlib.Core.Logic.{◌≢◌}
use mathlib.Core.Bool.{Bool, ◌&&◌, cond, and-eq-true_iff}
use mathlib.Core.List.{List}
use mathlib.Core.Option.{Option, none, some}
use native.Mathlib.Omega.{arith}
use native.Mathlib.Nat.{add-zero, suc-mul, div-le_self, mul-le-mul_left, mul-le-mul_right}
use lib.Dec.{eqb, leb}
use lib.IntN.{ℤ}
use lib.ListN.{length, get_or}
use borrow.Table.Steps.{cases}
use borrow.Author.Tests.{eqb-true, ne_eqb, not-false}
use Rattle.metering.specs.Average.{average, annual}
use Rattle.metering.specs.Range.{day_type_valid}
use Rattle.ledger.specs.Method.{Category, Flag, A, D, E, N, letter_of, Cell}
use Rattle.ledger.specs.Opening.{Opening, window_places, categories, dates}
use Rattle.ledger.specs.Table.{tabulate}
use Rattle.ledger.specs.Checks.{Registration, RegistrationCall, ReceptionCall, Verdict, first_failed, window_number, or_else, sizes_valid, opening_check, body_check, in_force_check, reception_check, band_check, NetCall}
use Rattle.ledger.specs.Band.{BandCall, band_on, band_dates}
use Rattle.ledger.specs.Fill.{FillCall}
use Rattle.ledger.specs.Ledger.{Answer, answer, accepted, moved, totals_are, cell_is, net_is, band_is, filled_are, coverage_is}
use Rattle.ledger.specs.Store.{categories_of, dates_of, periods_of, row_length, day_type_of, category_of, settings_ready, days_ready, flag_number_of, cell_of_entry, cell_index, tot_row, off_row, day_index, day_fresh, day_blanks, is_run_day, coverage_of, energy_of, run_dates_of, peak_of, totals_of}
use Rattle.ledger.specs.Calls.{Published, as_published, Placing, publish, opening_verdict, registration_verdict, reception_verdict, run_verdict, row_at, carried_entry, compared_entry, differing, follows, moved_in_row, moved_by_row, follow_row, inherited_after, carry_on, settled, new_row, ran_from, stretch_sum, dates_sum, days_unready, day_verdict, entries_at, totals_for, cell_verdict, cell_for, net_verdict, net_for, band_verdict, band_for, fill_verdict, fill_for, coverage_for, preview_verdict}
use Rattle.ledger.proofs.Ready.{Ready, ready, row_bounds}
use Rattle.ledger.proofs.Open.{sizes_valid_lem}
use Rattle.ledger.proofs.Choices.{check_passed, accepted_run, accepted_preview}
use Rattle.ledger.proofs.Chosen.{chosen_few}
use Rattle.entries.proofs.RowLaws.{differing_le}
use Rattle.std.specs.Prelude.{Result, Ok, Err}
use Rattle.store.specs.declared.outcome.Net.{Net}
use Rattle.store.specs.declared.outcome.Band.{Band}
use Rattle.store.specs.declared.refusal.Refusal.{Refusal}
use Rattle.store.specs.Outcome.{answered, answer_of, net_answer, band_answer, fill_answer}
use Rattle.fields.specs.declared.numbers.Numbers.{Numbers}
use Rattle.fields.specs.Fields.{Fits, FieldsFit, AsNumbers, net_alone, band_alone}

-- ---- an answer

answer_fits : (v : Verdict) (given : Answer) → Fits v.place → (v.number ≡ 0 → FieldsFit given) → FieldsFit (answer v given)
unfolding answer
answer_fits v given place fit = cases (eqb v.number 0) (λ q. rw q (fit (eqb-true _ _ q))) (λ q. rw q place)

-- ---- places

failed_place : (number : ℕ → ℕ) (n i m : ℕ) → i + n ≤ m → (first_failed number n i).place ≤ m
unfolding first_failed
failed_place number zero i m h = zero-le
failed_place number (suc n) i m h = cases (eqb (number i) 0) (λ q. rw q (failed_place number n (suc i) m (omega arith))) (λ q. rw q (omega arith))

-- where the thing after k others fails, the first that fails is not after it
failed_by : (number : ℕ → ℕ) (n i k : ℕ) → number (i + k) ≢ 0 → (first_failed number n i).place ≤ i + k + 1
unfolding first_failed
failed_by number zero i k bad = zero-le
failed_by number (suc n) i zero bad = rw (ne_eqb (number i) 0 (rw (add-zero i) at bad)) (omega arith)
failed_by number (suc n) i (suc k) bad =
    cases (eqb (number i) 0)
    (λ q. let next : i + suc k ≡ suc i + k = omega arith in rw q (let later = failed_by number n (suc i) k (rw next at bad) in omega arith))
    (λ q. rw q (omega arith))

-- a ninth window is bad
ninth : (duration : ℕ) (minutes : List ℕ) → window_number duration minutes 8 ≢ 0
unfolding window_number
ninth duration minutes e = let z : ◌≡◌ {A = ℕ} 19 0 = e in omega arith

else_place : (a b : Verdict) (m : ℕ) → a.place ≤ m → b.place ≤ m → (or_else a b).place ≤ m
unfolding or_else
else_place a b m f g = cases (eqb a.number 0) (λ q. rw q g) (λ q. rw q f)

opening_place : (a : Opening) (short : Bool) → (opening_check a short).place ≤ 800
unfolding opening_check
opening_place a short =
    cases (sizes_valid a)
    (λ q.
    let valid = sizes_valid_lem a q in
    let few_categories = valid.categories_are.1 in
    let few_dates = valid.dates_are.1 in
    let by-nine = failed_by (window_number a.duration a.window_minutes) (window_places a) 0 8 (ninth a.duration a.window_minutes) in
    rw q (else_place _ _ 800 (omega arith) (else_place _ _ 800 (failed_place _ (categories a) 0 800 (omega arith)) (else_place _ _ 800 (failed_place _ (dates a) 0 800 (omega arith)) zero-le))))
    (λ q. rw q zero-le)

pub opening_fits : (S M R C K : List ℕ) (a : Opening) → FieldsFit (answer (opening_verdict S M R C K a) accepted)
unfolding opening_verdict
opening_fits S M R C K a =
    let low : (opening_verdict S M R C K a).place ≤ 800 = opening_place a _ in answer_fits (opening_verdict S M R C K a) accepted (omega arith) (λ e. tt)

in_force_place : (duration C : ℕ) (category : ℕ → Category) (a : ReceptionCall) (x r : Option Registration) → (in_force_check duration C category a x r).place ≤ length a.body / 7
unfolding in_force_check body_check
in_force_place duration C category a x none = zero-le
in_force_place duration C category a x (some r) = else_place _ _ (length a.body / 7) zero-le (failed_place _ (length a.body / 7) 0 (length a.body / 7) (omega arith))

pub reception_fits : (S M R : List ℕ) (a : ReceptionCall) → length a.body < 18446744073709551616 → FieldsFit (answer (reception_verdict S M R a) accepted)
unfolding reception_verdict reception_check
reception_fits S M R a h =
    let low : (reception_verdict S M R a).place ≤ length a.body / 7 = else_place _ _ (length a.body / 7) zero-le (in_force_place _ _ _ a _ _) in
    answer_fits (reception_verdict S M R a) accepted (omega arith) (λ e. tt)

pub registration_fits : (S M R : List ℕ) (a : RegistrationCall) → FieldsFit (answer (registration_verdict S M R a) accepted)
unfolding registration_verdict
registration_fits S M R a = answer_fits (registration_verdict S M R a) accepted (omega arith) (λ e. tt)

-- ---- a run moves at most every cell

walk_moved : (place : Placing) (s : List ℕ) (t n : ℕ) (inherited : ℕ → ℕ) (d : ℕ) (p : Published) (m : ℕ) →
    (carry_on place s t n inherited d p m).moved ≤ m + n * row_length s
unfolding carry_on
walk_moved place s t zero inherited d p m = omega arith
walk_moved place s t (suc n) inherited d p m =
    let cells = p.cells in
    let row : moved_in_row (row_length s) cells d inherited ≤ row_length s = (unfold moved_in_row in differing_le (row_length s) _ _) in
    cases (follows s t cells d)
    (λ q.
    rw q
    (cases (eqb (moved_in_row (row_length s) cells d inherited) 0)
    (λ z. rw z (omega arith))
    (λ z. rw z (omega (arith, suc-mul n (row_length s), walk_moved place s t n (inherited_after (row_length s) cells d inherited) (suc d) (place s d (tabulate (row_length s) (follow_row (row_length s) cells d inherited)) p) (m + moved_in_row (row_length s) cells d inherited))))))
    (λ q. rw q (omega (arith, suc-mul n (row_length s), walk_moved place s t n inherited (suc d) p m)))

ran_moved : (S M R C K : List ℕ) (d : ℕ) → Ready S → Fits (ran_from S M R C K d).moved
unfolding ran_from settled moved_by_row
ran_moved S M R C K d k =
    let n = dates_of S - suc d in
    let row = (row_bounds S k).1 in
    let own = differing_le (row_length S) (λ x. compared_entry (row_at (row_length S) C d x)) (new_row S M R C d) in
    let all = walk_moved publish S (day_type_of S d) n (λ x. carried_entry (new_row S M R C d x)) (suc d) (publish S d (tabulate (row_length S) (new_row S M R C d)) (as_published C K)) (differing (row_length S) (λ x. compared_entry (row_at (row_length S) C d x)) (new_row S M R C d)) in
    omega (arith, all, own, row, mul-le-mul_right (row_length S) (let t = k.dates.1 in let z : n ≤ 800 = omega arith in z), mul-le-mul_left 800 row)

pub run_fits : (S M R C K : List ℕ) (d : ℕ) → FieldsFit (answer (run_verdict S M R C K d) (moved (ran_from S M R C K d).moved))
run_fits S M R C K d = answer_fits (run_verdict S M R C K d) (moved (ran_from S M R C K d).moved) (unfold run_verdict in omega arith) (λ e. ran_moved S M R C K d (ready S (accepted_run S M R C K d e).0))

pub preview_fits : (S M R C K draft : List ℕ) (d : ℕ) → FieldsFit (answer (preview_verdict S M R C K draft d) (moved (ran_from S M R C K d).moved))
preview_fits S M R C K draft d = answer_fits (preview_verdict S M R C K draft d) (moved (ran_from S M R C K d).moved) (unfold preview_verdict in omega arith) (λ e. ran_moved S M R C K d (ready S (accepted_preview S M R C K draft d e).0.0))

-- ---- reads, where entries are of 64 bits

opened_days_lem : (S K : List ℕ) (rest : ℕ) → cond (days_unready S K) 1 rest ≡ 0 → Ready S
unfolding days_unready
opened_days_lem S K rest e = ready S ((and-eq-true_iff (settings_ready S) (days_ready S K)).0 (not-false _ (check_passed _ 0 rest e).0)).0

letter_low : (f : Flag) → Fits (letter_of f)
letter_low A = omega arith
letter_low D = omega arith
letter_low E = omega arith
letter_low N = omega arith

dates_few : (n : ℕ) (is_run : ℕ → Bool) (day_type tot : ℕ → ℕ) (a : BandCall) → length (band_dates n is_run day_type tot a) ≤ n
unfolding band_dates
dates_few n is_run day_type tot a = cases (leb a.least a.most && day_type_valid a.day_type) (λ q. rw q (chosen_few n _)) (λ q. rw q zero-le)

count_and_origin_low : (e : ℕ) → Fits (cell_of_entry e).count × Fits (cell_of_entry e).origin
unfolding cell_of_entry
count_and_origin_low e = cases (eqb (flag_number_of e) 0) (λ q. rw q (omega arith, omega arith)) (λ q. rw q (omega arith, omega arith))

value_low : (e : ℕ) → e < 18446744073709551616 → (cell_of_entry e).value ≤ 4294967295
unfolding cell_of_entry
value_low e h = omega arith

entry_fits : (e : ℕ) → e < 18446744073709551616 → FieldsFit (cell_is (cell_of_entry e))
entry_fits e h =
    let v = value_low e h in
    let few = count_and_origin_low e in
    (letter_low (cell_of_entry e).flag, (omega arith, (few.0, (few.1, tt))))

-- of a cell that was read off it too
pub read_fits : (a : Cell) (e : ℕ) → a ≡ cell_of_entry e → e < 18446744073709551616 → FieldsFit (cell_is a)
read_fits a e is h = rw is (entry_fits e h)

pub cell_fits : (S C : List ℕ) → ((i : ℕ) → get_or C i 0 < 18446744073709551616) → (d c j : ℕ) → FieldsFit (answer (cell_verdict S C d c j) (cell_is (cell_for S C d c j)))
unfolding cell_for
cell_fits S C entries d c j =
    answer_fits (cell_verdict S C d c j) (cell_is (cell_for S C d c j)) (unfold cell_verdict in omega arith)
    (λ e. entry_fits (get_or C (cell_index (categories_of S) (periods_of S) d c j) 0) (entries _))

-- there are at most as many dates as the store has
pub band_fits : (S K : List ℕ) (a : BandCall) → FieldsFit (answer (band_verdict S K a) (band_is (band_for S K a)))
unfolding band_verdict band_check band_for band_on
band_fits S K a =
    answer_fits (band_verdict S K a) (band_is (band_for S K a)) (omega arith)
    (λ e.
    let t = (opened_days_lem S K _ e).dates.1 in
    let few : length (band_dates (dates_of S) (is_run_day (dates_of S) a.category K) (day_type_of S) (λ d. (totals_for S K d a.category).tot) a) ≤ dates_of S = dates_few (dates_of S) _ _ _ a in
    (omega arith, omega arith))

pub net_fits : (S C K : List ℕ) (a : NetCall) → FieldsFit (answer (net_verdict S C K a) (net_is (net_for S C K a)))
unfolding net_verdict
net_fits S C K a = answer_fits (net_verdict S C K a) (net_is (net_for S C K a)) (omega arith) (λ e. tt)

pub fill_fits : (S C : List ℕ) (a : FillCall) → FieldsFit (answer (fill_verdict S C a) (filled_are (fill_for S C a)))
unfolding fill_verdict
fill_fits S C a = answer_fits (fill_verdict S C a) (filled_are (fill_for S C a)) (omega arith) (λ e. tt)

-- ---- reads of the days, whatever these hold

-- a coverage has numbers of 16 bits
pub coverage_fits : (S K : List ℕ) (d c : ℕ) → FieldsFit (answer (day_verdict S K d c) (coverage_is (coverage_for S K d c)))
unfolding day_verdict coverage_for coverage_of
coverage_fits S K d c =
    answer_fits (day_verdict S K d c) (coverage_is (coverage_for S K d c)) (omega arith)
    (λ e. (omega arith, (omega arith, (omega arith, (omega arith, (omega arith, tt))))))

-- energies have 48 bits, numbers of dates 16
energy_low : (entry : ℕ) → energy_of entry < 281474976710656
unfolding energy_of
energy_low entry = omega arith

run_dates_low : (n d at : ℕ) (K : List ℕ) → run_dates_of (dates_sum n d at K) < 65536
unfolding run_dates_of dates_sum stretch_sum
run_dates_low n d at K = omega arith

peak_low : (w tot off : ℕ) → tot < 281474976710656 → Fits (peak_of w tot off)
unfolding peak_of
peak_low w tot off h = cases (eqb w 0) (λ q. rw q (omega arith)) (λ q. rw q (omega arith))

annual_low : (sum days : ℕ) → sum < 281474976710656 → days < 65536 → Fits (annual sum days)
unfolding annual average
annual_low sum days h few =
    let low = div-le_self (2 * (sum * 365) + days) (2 * days) in
    cases (eqb days 365) (λ q. rw q (omega arith)) (λ q. rw q (omega arith))

counts_low : (entry : ℕ) → (day_fresh entry < 65536) × (day_blanks entry < 65536)
unfolding day_fresh day_blanks
counts_low entry = (omega arith, omega arith)

totals_low : (S K : List ℕ) (d c : ℕ) → FieldsFit (totals_are (totals_for S K d c))
unfolding totals_for totals_of
totals_low S K d c =
    let tot = energy_low (entries_at S K d c).tot in
    let off = energy_low (entries_at S K d c).off in
    let week = energy_low (dates_sum 7 d (day_index (dates_of S) c tot_row d) K) in
    let off-week = energy_low (dates_sum 7 d (day_index (dates_of S) c off_row d) K) in
    let year = energy_low (dates_sum 365 d (day_index (dates_of S) c tot_row d) K) in
    let days7 = run_dates_low 7 d (day_index (dates_of S) c tot_row d) K in
    let days = run_dates_low 365 d (day_index (dates_of S) c tot_row d) K in
    let counts = counts_low (entries_at S K d c).day in
    let w = (category_of S c).window in (
      omega arith,
      (
        omega arith,
        (
          peak_low w _ _ tot,
          (
            omega arith,
            (omega arith, (peak_low w _ _ week, (omega arith, (annual_low _ _ year days, (omega arith, (omega (arith, counts.0), (omega (arith, counts.1), tt))))))),
          ),
        ),
      ),
    )

pub totals_fits : (S K : List ℕ) (d c : ℕ) → FieldsFit (answer (day_verdict S K d c) (totals_are (totals_for S K d c)))
unfolding day_verdict
totals_fits S K d c = answer_fits (day_verdict S K d c) (totals_are (totals_for S K d c)) (omega arith) (λ e. totals_low S K d c)

-- ---- numbers name no list that a call wrote

pub net_alone_fits : (r : Result Net Refusal) (P : ℕ) (numbers : List ℤ) (marks : List ℕ) {given : Answer} → net_answer P r numbers marks ≡ given → FieldsFit given → FieldsFit (answered net_alone r)
net_alone_fits (Ok n) P numbers marks e fit = tt
net_alone_fits (Err refusal) P numbers marks e fit = rw (← e) at fit

pub net_apart : (r : Result Net Refusal) (P : ℕ) (lists : List ℤ) (marks : List ℕ) {numbers : Numbers} → AsNumbers (answered net_alone r) numbers → AsNumbers (net_answer P r lists marks) numbers
net_apart (Ok n) P lists marks a = record { number_is = a.number_is; fields_are = a.fields_are; few = a.few; long = a.long }
net_apart (Err refusal) P lists marks a = a

pub band_alone_fits : (r : Result Band Refusal) (dates : List ℕ) {given : Answer} → band_answer r dates ≡ given → FieldsFit given → FieldsFit (answered band_alone r)
band_alone_fits (Ok b) dates e fit = rw (← e) at fit
band_alone_fits (Err refusal) dates e fit = rw (← e) at fit

pub band_apart : (r : Result Band Refusal) (dates : List ℕ) {numbers : Numbers} → AsNumbers (answered band_alone r) numbers → AsNumbers (band_answer r dates) numbers
band_apart (Ok b) dates a = record { number_is = a.number_is; fields_are = a.fields_are; few = a.few; long = a.long }
band_apart (Err refusal) dates a = a

pub no_values : {A : Type 0} (r : Result A Refusal) (P : ℕ) (filled : List ℕ) {given : Answer} → fill_answer P r filled ≡ given → FieldsFit given → FieldsFit (answer_of r)
no_values (Ok x) P filled e fit = tt
no_values (Err refusal) P filled e fit = rw (← e) at fit

pub values_apart : {A : Type 0} (r : Result A Refusal) (P : ℕ) (filled : List ℕ) {numbers : Numbers} → AsNumbers (answer_of r) numbers → AsNumbers (fill_answer P r filled) numbers
values_apart (Ok x) P filled a = record { number_is = a.number_is; fields_are = a.fields_are; few = a.few; long = a.long }
values_apart (Err refusal) P filled a = a
