-- Demand 2 on the engine: by agreement the store's answers are the ledger's, of which it is proved.
use Rattle.std.proofs.Common.{◌≡◌, ℕ, ◌*◌, ◌<◌, ◌≤◌, Bool, true, false, ◌&&◌, eqb, leb, List, [], ◌∷◌, ◌++◌, map, sym, refl, ap, ◌∙◌, ⊎_elim, le_refl, arith, le-ltb, lt-ltb, leb-false}
use mathlib.Core.Bool.{and-eq-true_iff}
use mathlib.Core.Option.{some}
use native.Mathlib.Nat.{min-eq_left}
use borrow.Table.Steps.{cases}
use borrow.Author.Tests.{lt-leb}
use Rattle.metering.specs.Calendar.{duration_known, window_valid}
use Rattle.metering.proofs.Laws.{between_true}
use Rattle.metering.specs.Range.{between, meters_in_range, categories_in_range, dates_in_range, day_type_valid, smart_valid, advanced_valid, category_valid}
use Rattle.ledger.specs.Method.{fresh_in, cell_from, latest, cell_of, cell_on}
use Rattle.ledger.specs.Fill.{FillCall}
use Rattle.ledger.specs.Checks.{Verdict, first_failed, any_below, or_else, record_at, same_key, window_number, category_number, day_type_number, sizes_valid, opening_check, run_check, read_check, cell_in_range}
use Rattle.ledger.specs.Sizes.{settings_length, meters_length, readings_length, cells_length, days_length}
use Rattle.ledger.specs.Ledger.{Opening, categories, dates, periods, category, day_type, Ledger, start, Call, register, receive, run, read_totals, read_cell, read_net, search_band, fill_hole, read_coverage, preview, read_row, Answer, moved, cell_is, answer, left, Lengths, least_lengths, settings_short, meters_short, cells_short, any_short, after_registration, after_reception, picture_of, after_run, moved_between, cell_by, cell_at, day_of, is_picture, is_run, ledger_run_check, ledger_cell_check, after_preview, ledger_answer, ledger_after}
use Rattle.ledger.specs.Calls.{opening_verdict}
use Rattle.ledger.specs.Engine.{Parts, opened_parts, Item, answers_from, store_answers, cut_lengths, ledger_answers, lengths_of, BodyOfBytes, BodiesOfBytes, Every, draft_of}
use Rattle.ledger.specs.Demands.{ledger_after_items, ledger_beside, LastAnswer, Accepts, EngineReceivesExactly, EngineRuns, Spares, EngineReadsMethod, shape_value, Shared, Fills, EngineFills, EngineCovers, EngineShowsSums, EngineForetells}
use Rattle.ledger.specs.Marked.{example_opening, example_calls, example_answers, net_opening, net_calls, net_answers, band_opening, band_calls, band_answers, fill_opening, fill_calls, fill_answers, coverage_opening, coverage_calls, coverage_answers, sender_opening, sender_calls, sender_answers, remainder_opening, remainder_calls, remainder_answers, preview_opening, preview_calls, preview_answers, window_opening, window_calls, window_answers, example_draft, ledger_run, lent_least, EngineAnswers, WorkedOnEngine}
use Rattle.ledger.proofs.Marked.{worked_examples}
use Rattle.ledger.proofs.Choices.{check_passed}
use Rattle.ledger.proofs.FirstFailed.{answered}
use Rattle.ledger.proofs.Verdicts.{left_none}
use Rattle.ledger.proofs.Chosen.{every_append}
use Rattle.ledger.proofs.Open.{opening_accepted}
use Rattle.ledger.proofs.Bytes.{all_bytes, are_bytes}
use Rattle.ledger.proofs.Agreement.{agreement}
use Rattle.ledger.proofs.Demands.{at_same, at_other, latest_alike, run_is_method, read_shows}
use Rattle.ledger.proofs.CallDemands.{reception_exact}
use Rattle.ledger.proofs.FillDemands.{fill_shares}
use Rattle.ledger.proofs.CoverageDemands.{coverage_covers}
use Rattle.ledger.proofs.PreviewDemands.{preview_is_run}

-- ---- the last answer

ledger_last : (l : Ledger) (whole : Lengths) (items : List Item) (i : Item) →
    ledger_answers l whole (items ++ (i ∷ []))
    ≡ ledger_answers l whole items ++ (ledger_answer (ledger_after_items l whole items) (cut_lengths i.lent whole) i.call ∷ [])
unfolding ledger_answers answers_from ledger_after_items
ledger_last l whole [] i = refl
ledger_last l whole (x ∷ xs) i =
    ap (λ ys. ledger_answer l (cut_lengths x.lent whole) x.call ∷ ys) (ledger_last (ledger_after l (cut_lengths x.lent whole) x.call) whole xs i)

last_same : (xs : List Answer) (x y : Answer) → xs ++ (x ∷ []) ≡ xs ++ (y ∷ []) → x ≡ y
last_same [] x y e = cc
last_same (z ∷ zs) x y e = last_same zs x y (cc)

module _ (p : Parts) (a : Opening) (accepts : Accepts p a) (items : List Item) (bodies : BodiesOfBytes items) where
  -- it is that of the ledger
  store_last : (i : Item) → BodyOfBytes i.call → LastAnswer (opened_parts p a) items i (ledger_answer (ledger_beside p a items) (cut_lengths i.lent (lengths_of p)) i.call)
  store_last i b =
      agreement p a (items ++ (i ∷ [])) accepts (every_append _ items (i ∷ []) bodies (b, tt))
      ∙ ledger_last (start a (draft_of a p.draft)) (lengths_of p) items i
      ∙ ap (λ ys. ys ++ (ledger_answer (ledger_beside p a items) (cut_lengths i.lent (lengths_of p)) i.call ∷ [])) (sym (agreement p a items accepts bodies))

  store_answers_lem : (i : Item) (x : Answer) → BodyOfBytes i.call → ledger_answer (ledger_beside p a items) (cut_lengths i.lent (lengths_of p)) i.call ≡ x → LastAnswer (opened_parts p a) items i x
  store_answers_lem i x b e = store_last i b ∙ ap (λ y. store_answers (opened_parts p a) items ++ (y ∷ [])) e

  store_answered : (i : Item) (x : Answer) → BodyOfBytes i.call → LastAnswer (opened_parts p a) items i x → ledger_answer (ledger_beside p a items) (cut_lengths i.lent (lengths_of p)) i.call ≡ x
  store_answered i x b e = last_same (store_answers (opened_parts p a) items) _ x (sym (store_last i b) ∙ e)

-- ---- what calls leave alone

-- the opening, how long the draft is, and the pictures of dates that a call does not run
record Kept (l after : Ledger) (c : Call) : Type 0 where
  opening_is : after.opening ≡ l.opening
  room_is : after.draft.room ≡ l.draft.room
  pictures_are : (x : ℕ) → (c ≡ run x → ⊥) → after.pictures x ≡ l.pictures x

nothing_changed : (l : Ledger) (c : Call) → Kept l l c
nothing_changed l c = record { opening_is = refl; room_is = refl; pictures_are = λ x other. refl }

-- a refused call changes nothing
left_kept : (v : Verdict) (l after : Ledger) (c : Call) → Kept l after c → Kept l (left v l after) c
unfolding left
left_kept v l after c taken = cases (eqb v.number 0) (λ q. rw q taken) (λ q. rw q (nothing_changed l c))

kept : (l : Ledger) (n : Lengths) (c : Call) → Kept l (ledger_after l n c) c
unfolding ledger_after after_registration after_reception after_run after_preview
kept l n (register a) = left_kept _ l _ _ (record { opening_is = refl; room_is = refl; pictures_are = λ x other. refl })
kept l n (receive a) = left_kept _ l _ _ (record { opening_is = refl; room_is = refl; pictures_are = λ x other. refl })
kept l n (run d) =
    left_kept _ l _ _
    (record {
      opening_is = refl;
      room_is = refl;
      pictures_are = λ x other. at_other d (some (picture_of d l.known)) l.pictures x (λ e. other (ap run (sym e)));
    })
kept l n (read_totals d c) = nothing_changed l (read_totals d c)
kept l n (read_cell d c j) = nothing_changed l (read_cell d c j)
kept l n (read_net a) = nothing_changed l (read_net a)
kept l n (search_band a) = nothing_changed l (search_band a)
kept l n (fill_hole a) = nothing_changed l (fill_hole a)
kept l n (read_coverage d c) = nothing_changed l (read_coverage d c)
kept l n (preview a) = left_kept _ l _ _ (record { opening_is = refl; room_is = refl; pictures_are = λ x other. refl })
kept l n (read_row a) = nothing_changed l (read_row a)

opening_stays : (l : Ledger) (whole : Lengths) (items : List Item) → (ledger_after_items l whole items).opening ≡ l.opening
unfolding ledger_after_items
opening_stays l whole [] = refl
opening_stays l whole (i ∷ is) = opening_stays (ledger_after l (cut_lengths i.lent whole) i.call) whole is ∙ (kept l (cut_lengths i.lent whole) i.call).opening_is

room_stays : (l : Ledger) (whole : Lengths) (items : List Item) → (ledger_after_items l whole items).draft.room ≡ l.draft.room
unfolding ledger_after_items
room_stays l whole [] = refl
room_stays l whole (i ∷ is) = room_stays (ledger_after l (cut_lengths i.lent whole) i.call) whole is ∙ (kept l (cut_lengths i.lent whole) i.call).room_is

pictures_stay : (a : Opening) (d : ℕ) (l : Ledger) (whole : Lengths) (items : List Item) → Every (Spares a d) items → (x : ℕ) → x ≤ d → day_type a x ≡ day_type a d →
    (ledger_after_items l whole items).pictures x ≡ l.pictures x
unfolding ledger_after_items
pictures_stay a d l whole [] spares x h t = refl
pictures_stay a d l whole (i ∷ is) spares x h t =
    pictures_stay a d (ledger_after l (cut_lengths i.lent whole) i.call) whole is spares.1 x h t
    ∙ (kept l (cut_lengths i.lent whole) i.call).pictures_are x (λ e. spares.0 x e h t)

-- then the date's cells stand too
cell_stays : (l m : Ledger) (d c j : ℕ) → m.opening ≡ l.opening → ((x : ℕ) → x ≤ d → day_type l.opening x ≡ day_type l.opening d → m.pictures x ≡ l.pictures x) →
    cell_at m d c j ≡ cell_at l d c j
unfolding cell_at cell_by cell_on
cell_stays l m d c j o same =
    rw (o, same d (le_refl d) refl)
    (ap (cell_of d _) (latest_alike (day_type l.opening) _ _ (day_type l.opening d) d (λ x h t. ap (day_of _ c j) (same x (omega arith) t))))

after_append : (l : Ledger) (whole : Lengths) (xs ys : List Item) → ledger_after_items l whole (xs ++ ys) ≡ ledger_after_items (ledger_after_items l whole xs) whole ys
unfolding ledger_after_items
after_append l whole [] ys = refl
after_append l whole (x ∷ xs) ys = after_append (ledger_after l (cut_lengths x.lent whole) x.call) whole xs ys

after_first : (l : Ledger) (whole : Lengths) (i : Item) (is : List Item) (first : Ledger) → ledger_after l (cut_lengths i.lent whole) i.call ≡ first →
    ledger_after_items l whole (i ∷ is) ≡ ledger_after_items first whole is
unfolding ledger_after_items
after_first l whole i is first e = rw e

opening_beside : (p : Parts) (a : Opening) (items : List Item) → (ledger_beside p a items).opening ≡ a
opening_beside p a items = opening_stays (start a (draft_of a p.draft)) (lengths_of p) items ∙ (unfold start in refl)

-- ---- receptions

known_duration : (p : Parts) (a : Opening) → Accepts p a → duration_known a.duration ≡ true
unfolding duration_known
known_duration p a e = ⊎_elim (λ h. rw h) (λ h. rw h) (opening_accepted p.settings p.meters p.readings p.cells p.days a e).valid.duration

pub engine_receives_exactly : EngineReceivesExactly
engine_receives_exactly p a items n r e b bytes =
    let exact = reception_exact (ledger_beside p a items) (cut_lengths n (lengths_of p)) r (rw (opening_beside p a items) (known_duration p a e)) in
    let i : Item = record { lent = n; call = receive r } in
    (λ h. exact.0 (store_answered p a e items b i _ bytes h), λ m. store_answers_lem p a e items b i _ bytes (exact.1 m))

-- ---- runs and reads

run_answers : (l : Ledger) (n : Lengths) (d : ℕ) → any_short l.opening n ≡ false → d < dates l.opening →
    ledger_answer l n (run d) ≡ moved (moved_between l.opening (cell_at l) (cell_at (after_run l d)))
unfolding ledger_answer answer ledger_run_check run_check
run_answers l n d long h = rw (long, lt-leb (dates l.opening) d h)

pub engine_runs : EngineRuns
engine_runs p a items n d e b long h =
    let l = ledger_beside p a items in
    let o = opening_beside p a items in
    store_answers_lem p a e items b (record { lent = n; call = run d }) _ tt
    (run_answers l (cut_lengths n (lengths_of p)) d (rw o long) (rw o h) ∙ ap (λ x. moved (moved_between x (cell_at l) (cell_at (after_run l d)))) o)

-- an accepted run names a date, and is taken
run_taken : (l : Ledger) (n : Lengths) (d moves : ℕ) → ledger_answer l n (run d) ≡ moved moves → (d < dates l.opening) × (ledger_after l n (run d) ≡ after_run l d)
unfolding ledger_answer ledger_after ledger_run_check run_check
run_taken l n d moves e =
    let passed = (answered (ledger_run_check l n d) _ (moved moves) refl e).0 in
    let p9 = check_passed (leb (dates l.opening) d) 8 0 (check_passed (any_short l.opening n) 0 _ passed).1 in
    (leb-false (dates l.opening) d p9.0, left_none _ l (after_run l d) passed)

read_answers : (l : Ledger) (n : Lengths) (d c j : ℕ) → cells_short l.opening n ≡ false → d < dates l.opening → c < categories l.opening →
    1 ≤ j → j ≤ periods l.opening → is_run l d ≡ true → ledger_answer l n (read_cell d c j) ≡ cell_is (cell_at l d c j)
unfolding ledger_answer answer ledger_cell_check read_check cell_in_range
read_answers l n d c j long h hc low high r =
    rw (long, lt-leb (dates l.opening) d h, lt-ltb c (categories l.opening) hc, (between_true 1 (periods l.opening) j).1 (low, high), r)

-- the date's cells right after the run, and that it is run
module _ (a : Opening) (l : Ledger) (is : l.opening ≡ a) (d : ℕ) where
  method_cell : (c j : ℕ) →
      cell_at (after_run l d) d c j
      ≡ cell_from d (fresh_in (category a) (picture_of d l.known) c j) (latest (day_type a) (λ x. day_of (category a) c j (l.pictures x)) (day_type a d) d)
  method_cell c j = rw (← is) (run_is_method l d c j)

  run_opening : (after_run l d).opening ≡ a
  unfolding after_run
  run_opening = is

  run_picture : is_picture ((after_run l d).pictures d) ≡ true
  unfolding after_run
  run_picture = rw (at_same d (some (picture_of d l.known)) l.pictures)

pub engine_reads_method : EngineReadsMethod
unfolding is_run
engine_reads_method p a before after n m d c j moves e b b' ran spares long hc low high =
    let whole = lengths_of p in
    let i : Item = record { lent = n; call = run d } in
    let l = ledger_beside p a before in
    let o : l.opening ≡ a = opening_beside p a before in
    let taken = run_taken l (cut_lengths n whole) d moves (store_answered p a e before b i _ tt ran) in
    let first = after_run l d in
    let last = ledger_beside p a (before ++ (i ∷ after)) in
    let is : last ≡ ledger_after_items first whole after = after_append (start a (draft_of a p.draft)) whole before (i ∷ after) ∙ after_first l whole i after first taken.1 in
    let o' : last.opening ≡ a = opening_beside p a (before ++ (i ∷ after)) in
    let o'' : first.opening ≡ a = run_opening a l o d in
    let same : (x : ℕ) → x ≤ d → day_type a x ≡ day_type a d → last.pictures x ≡ first.pictures x = λ x h t. rw is (pictures_stay a d first whole after spares x h t) in
    let run_date : is_picture (last.pictures d) ≡ true = rw (same d (le_refl d) refl) (run_picture a l o d) in
    let cell = cell_stays first last d c j (o' ∙ sym o'') (rw o'' same) ∙ method_cell a l o d c j in
    store_answers_lem p a e (before ++ (i ∷ after)) (every_append _ before (i ∷ after) b (tt, b')) (record { lent = m; call = read_cell d c j }) _ tt
    (read_answers last (cut_lengths m whole) d c j (rw o' long) (rw o' (rw o at taken.0)) (rw o' hc) low (rw o' high) run_date ∙ ap cell_is cell)

-- ---- fills

shares_of : (a : Opening) (l : Ledger) → l.opening ≡ a → (n : Lengths) (r : FillCall) (given : List ℕ) → Fills l n r given →
    Shared (periods a) r.marks (shape_value l r) r.advance given
shares_of a l is n r given fills = rw (← is) (fill_shares l n r given fills)

pub engine_fills : EngineFills
engine_fills p a items n r given e b heard =
    shares_of a (ledger_beside p a items) (opening_beside p a items) (cut_lengths n (lengths_of p)) r given
    (store_answered p a e items b (record { lent = n; call = fill_hole r }) _ tt heard)

-- ---- coverage reads

-- an accepted opening has at most 800
few_dates : (p : Parts) (a : Opening) → Accepts p a → dates a ≤ 65535
few_dates p a e = let h = (opening_accepted p.settings p.meters p.readings p.cells p.days a e).valid.dates_are.1 in omega arith

pub engine_covers : EngineCovers
engine_covers p a items n d c given e b heard =
    coverage_covers (ledger_beside p a items) (cut_lengths n (lengths_of p)) d c given (rw (opening_beside p a items) (few_dates p a e))
    (store_answered p a e items b (record { lent = n; call = read_coverage d c }) _ tt heard)

-- ---- what rounding dropped

pub engine_shows_sums : EngineShowsSums
engine_shows_sums p a items n d c j given e b heard =
    read_shows (ledger_beside p a items) (cut_lengths n (lengths_of p)) d c j given
    (store_answered p a e items b (record { lent = n; call = read_cell d c j }) _ tt heard)

-- ---- previews

-- the ledger beside one call more
one_more : (p : Parts) (a : Opening) (items : List Item) (i : Item) →
    ledger_beside p a (items ++ (i ∷ [])) ≡ ledger_after (ledger_beside p a items) (cut_lengths i.lent (lengths_of p)) i.call
one_more p a items i =
    after_append (start a (draft_of a p.draft)) (lengths_of p) items (i ∷ [])
    ∙ after_first (ledger_beside p a items) (lengths_of p) i [] _ refl
    ∙ (unfold ledger_after_items in refl)

pub engine_foretells : EngineForetells
engine_foretells p a items n r e b lent room =
    let previews : Item = record { lent = n; call = preview r } in
    let l = ledger_beside p a items in
    let o = opening_beside p a items in
    let long : categories l.opening * periods l.opening ≤ l.draft.room =
    rw (o, room_stays (start a (draft_of a p.draft)) (lengths_of p) items) (unfold start in room) in
    let same = preview_is_run l (cut_lengths n (lengths_of p)) r (rw o lent, long) in (
      ledger_answer l (cut_lengths n (lengths_of p)) (preview r),
      store_last p a e items b previews tt,
      store_answers_lem p a e (items ++ (previews ∷ [])) (every_append _ items (previews ∷ []) b (tt, tt)) (record { lent = n; call = run r.date }) _ tt
          (rw (one_more p a items previews) same.1),
    )

-- ---- the worked examples

cut_same : (n : Lengths) → cut_lengths n n ≡ n
unfolding cut_lengths
cut_same n =
    λ i.
    record {
      settings = min-eq_left (le_refl n.settings) i;
      meters = min-eq_left (le_refl n.meters) i;
      readings = min-eq_left (le_refl n.readings) i;
      cells = min-eq_left (le_refl n.cells) i;
      days = min-eq_left (le_refl n.days) i;
    }

run_of : (l : Ledger) (n : Lengths) (calls : List Call) → ledger_answers l n (map (λ c. record { lent = n; call = c }) calls) ≡ ledger_run l n calls
unfolding ledger_answers answers_from ledger_run
run_of l n [] = refl
run_of l n (c ∷ cs) = rw (cut_same n, ← run_of (ledger_after l n c) n cs)

least_long : (a : Opening) → any_short a (least_lengths a) ≡ false
unfolding any_short meters_short settings_short
least_long a =
    rw (
      le-ltb (settings_length (categories a) (dates a)) _ (le_refl _),
      le-ltb (meters_length a.meters) _ (le_refl _),
      le-ltb (readings_length a.meters (dates a) (periods a)) _ (le_refl _),
      le-ltb (cells_length (categories a) (dates a) (periods a)) _ (le_refl _),
      le-ltb (days_length (categories a) (dates a)) _ (le_refl _),
    )

-- bodies of bytes, as a computed test
abbrev body_of : Call → List ℕ
body_of (register a) = []
body_of (receive a) = a.body
body_of (run d) = []
body_of (read_totals d c) = []
body_of (read_cell d c j) = []
body_of (read_net a) = []
body_of (search_band a) = []
body_of (fill_hole a) = []
body_of (read_coverage d c) = []
body_of (preview a) = []
body_of (read_row a) = []

body_bytes : (c : Call) → all_bytes (body_of c) ≡ true → BodyOfBytes c
body_bytes (register a) e = tt
body_bytes (receive a) e = are_bytes a.body e
body_bytes (run d) e = tt
body_bytes (read_totals d c) e = tt
body_bytes (read_cell d c j) e = tt
body_bytes (read_net a) e = tt
body_bytes (search_band a) e = tt
body_bytes (fill_hole a) e = tt
body_bytes (read_coverage d c) e = tt
body_bytes (preview a) e = tt
body_bytes (read_row a) e = tt

abbrev bodies_bytes : List Call → Bool
bodies_bytes [] = true
bodies_bytes (c ∷ cs) = all_bytes (body_of c) && bodies_bytes cs

bodies_bytes_lem : (n : Lengths) (calls : List Call) → bodies_bytes calls ≡ true → BodiesOfBytes (map (λ c. record { lent = n; call = c }) calls)
bodies_bytes_lem n [] e = tt
bodies_bytes_lem n (c ∷ cs) e =
    let both = (and-eq-true_iff (all_bytes (body_of c)) (bodies_bytes cs)).0 e in (body_bytes c both.0, bodies_bytes_lem n cs both.1)

-- an opening that is accepted in parts long enough, and calls whose bodies are bytes
engine_answers : (a : Opening) (calls : List Call) (answers : List Answer) → (opening_check a false).number ≡ 0 → bodies_bytes calls ≡ true →
    ledger_run (start a (draft_of a example_draft)) (least_lengths a) calls ≡ answers → EngineAnswers a calls answers
unfolding opening_verdict
engine_answers a calls answers opens bodies runs p e draft =
    let accepts : (opening_check a (any_short a (lengths_of p))).number ≡ 0 = rw (e, least_long a) opens in (
      accepts,
      agreement p a (lent_least a calls) accepts (bodies_bytes_lem (least_lengths a) calls bodies)
          ∙ rw (e, draft) (run_of (start a (draft_of a example_draft)) (least_lengths a) calls ∙ runs),
    )

pub worked_on_engine : WorkedOnEngine
unfolding opening_check sizes_valid duration_known meters_in_range categories_in_range dates_in_range between first_failed window_number window_valid category_number record_at category_valid smart_valid advanced_valid any_below same_key day_type_number day_type_valid or_else
worked_on_engine = (
  engine_answers example_opening example_calls example_answers refl refl worked_examples.0,
  engine_answers net_opening net_calls net_answers refl refl worked_examples.1,
  engine_answers band_opening band_calls band_answers refl refl worked_examples.2,
  engine_answers fill_opening fill_calls fill_answers refl refl worked_examples.3,
  engine_answers coverage_opening coverage_calls coverage_answers refl refl worked_examples.4,
  engine_answers sender_opening sender_calls sender_answers refl refl worked_examples.5,
  engine_answers remainder_opening remainder_calls remainder_answers refl refl worked_examples.6,
  engine_answers preview_opening preview_calls preview_answers refl refl worked_examples.7,
  engine_answers window_opening window_calls window_answers refl refl worked_examples.8,
)
