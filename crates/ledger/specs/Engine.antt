-- Lists of calls: the answers of the call definitions, threaded through the parts, and those of the plain ledger.
use Rattle.std.specs.Prelude.{◌≡◌, ℕ, ◌+◌, ◌-◌, ◌*◌, ◌<◌, min, List, [], ◌∷◌, ◌++◌, map, length, take, drop, slice_index}
use Rattle.ledger.specs.Method.{Cell}
use Rattle.ledger.specs.Ledger.{Opening, periods, Draft, Ledger, start, Call, register, receive, run, read_totals, read_cell, read_net, search_band, fill_hole, read_coverage, preview, read_row, Answer, accepted, moved, totals_are, cell_is, net_is, band_is, filled_are, coverage_is, row_is, answer, left, Lengths, ledger_answer, ledger_after}
use Rattle.ledger.specs.Store.{cell_of_entry}
use Rattle.ledger.specs.Calls.{opening_verdict, opened_settings, opened_meters, opened_readings, opened_cells, opened_days, registration_verdict, registered_meters, reception_verdict, received_readings, run_verdict, Published, ran_from, day_verdict, totals_for, cell_verdict, cell_for, net_verdict, net_for, band_verdict, band_for, fill_verdict, fill_for, coverage_for, preview_verdict, previewed, row_verdict, row_for, overwritten}

-- the parts of a store, and the draft beside them
pub record Parts : Type 0 where
  pub settings : List ℕ
  pub meters : List ℕ
  pub readings : List ℕ
  pub cells : List ℕ
  pub days : List ℕ
  pub draft : List ℕ

-- the cells that entries are read as
unfoldable pub cells_of : List ℕ → List Cell
cells_of entries = map cell_of_entry entries

-- what a call answers, by the definitions that the code's contracts cite
unfoldable pub call_answer : Parts → Call → Answer
call_answer p (register a) = answer (registration_verdict p.settings p.meters p.readings a) accepted
call_answer p (receive a) = answer (reception_verdict p.settings p.meters p.readings a) accepted
call_answer p (run d) =
    answer (run_verdict p.settings p.meters p.readings p.cells p.days d)
    (moved (ran_from p.settings p.meters p.readings p.cells p.days d).moved)
call_answer p (read_totals d c) = answer (day_verdict p.settings p.days d c) (totals_are (totals_for p.settings p.days d c))
call_answer p (read_cell d c j) = answer (cell_verdict p.settings p.cells d c j) (cell_is (cell_for p.settings p.cells d c j))
call_answer p (read_net a) = answer (net_verdict p.settings p.cells p.days a) (net_is (net_for p.settings p.cells p.days a))
call_answer p (search_band a) = answer (band_verdict p.settings p.days a) (band_is (band_for p.settings p.days a))
call_answer p (fill_hole a) = answer (fill_verdict p.settings p.cells a) (filled_are (fill_for p.settings p.cells a))
call_answer p (read_coverage d c) = answer (day_verdict p.settings p.days d c) (coverage_is (coverage_for p.settings p.days d c))
call_answer p (preview a) =
    answer (preview_verdict p.settings p.meters p.readings p.cells p.days (take a.lent p.draft) a.date)
    (moved (ran_from p.settings p.meters p.readings p.cells p.days a.date).moved)
call_answer p (read_row a) =
    answer (row_verdict p.settings p.cells (take a.lent p.draft) a)
    (row_is (cells_of (row_for p.settings p.cells (take a.lent p.draft) a)))

-- parts with what a registration, a reception or a run writes
abbrev pub with_meters : List ℕ → Parts → Parts
with_meters meters p =
    record { settings = p.settings; meters = meters; readings = p.readings; cells = p.cells; days = p.days; draft = p.draft }

abbrev pub with_readings : List ℕ → Parts → Parts
with_readings readings p =
    record { settings = p.settings; meters = p.meters; readings = readings; cells = p.cells; days = p.days; draft = p.draft }

abbrev pub with_published : Published → Parts → Parts
with_published q p =
    record { settings = p.settings; meters = p.meters; readings = p.readings; cells = q.cells; days = q.days; draft = p.draft }

-- and with what a preview writes
abbrev pub with_draft : List ℕ → Parts → Parts
with_draft draft p =
    record { settings = p.settings; meters = p.meters; readings = p.readings; cells = p.cells; days = p.days; draft = draft }

-- a draft of which the first n entries were lent to a preview: they have the date's entries at their front, and those behind them stand
abbrev pub drafted : ℕ → List ℕ → List ℕ → List ℕ
drafted n entries draft = overwritten entries (take n draft) ++ drop n draft

-- and what a call leaves of the parts
unfoldable pub leaves : Parts → Call → Parts
leaves p (register a) =
    left (registration_verdict p.settings p.meters p.readings a) p
    (with_meters (registered_meters p.settings p.meters p.readings a) p)
leaves p (receive a) =
    left (reception_verdict p.settings p.meters p.readings a) p
    (with_readings (received_readings p.settings p.meters p.readings a) p)
leaves p (run d) =
    left (run_verdict p.settings p.meters p.readings p.cells p.days d) p
    (with_published (ran_from p.settings p.meters p.readings p.cells p.days d).published p)
leaves p (read_totals d c) = p
leaves p (read_cell d c j) = p
leaves p (read_net a) = p
leaves p (search_band a) = p
leaves p (fill_hole a) = p
leaves p (read_coverage d c) = p
leaves p (preview a) =
    left (preview_verdict p.settings p.meters p.readings p.cells p.days (take a.lent p.draft) a.date) p
    (with_draft (drafted a.lent (previewed p.settings p.meters p.readings p.cells p.days a.date) p.draft) p)
leaves p (read_row a) = p

-- the parts after an accepted opening
unfoldable pub opened_parts : Parts → Opening → Parts
opened_parts p a =
    record {
      settings = opened_settings a p.settings;
      meters = opened_meters a p.meters;
      readings = opened_readings a p.readings;
      cells = opened_cells a p.cells;
      days = opened_days a p.days;
      draft = p.draft;
    }

-- and after any
unfoldable pub after_opening : Parts → Opening → Parts
after_opening p a = left (opening_verdict p.settings p.meters p.readings p.cells p.days a) p (opened_parts p a)

-- a call, and how much of each part it is lent; how much of the draft is said by the call itself
pub record Item : Type 0 where
  pub lent : Lengths
  pub call : Call

-- the parts cut at their ends to the lengths lent
abbrev pub cut : Lengths → Parts → Parts
cut n p =
    record {
      settings = take n.settings p.settings;
      meters = take n.meters p.meters;
      readings = take n.readings p.readings;
      cells = take n.cells p.cells;
      days = take n.days p.days;
      draft = p.draft;
    }

-- and what was cut off the parts p put back behind those that a call left
unfoldable pub restored : Lengths → Parts → Parts → Parts
restored n p after =
    record {
      settings = after.settings ++ drop n.settings p.settings;
      meters = after.meters ++ drop n.meters p.meters;
      readings = after.readings ++ drop n.readings p.readings;
      cells = after.cells ++ drop n.cells p.cells;
      days = after.days ++ drop n.days p.days;
      draft = after.draft;
    }

-- the parts after a call that was lent them cut
unfoldable pub parts_after : Parts → Item → Parts
parts_after p i = restored i.lent p (leaves (cut i.lent p) i.call)

-- the answers to a list of calls, each made on what the one before left
unfoldable pub answers_from : {S I A : Type 0} → (S → I → A) → (S → I → S) → S → List I → List A
answers_from answers after s [] = []
answers_from answers after s (i ∷ is) = answers s i ∷ answers_from answers after (after s i) is

unfoldable pub store_answers : Parts → List Item → List Answer
store_answers p items = answers_from (λ q i. call_answer (cut i.lent q) i.call) parts_after p items

-- the lengths that parts of the lengths `whole` have when they are cut
unfoldable pub cut_lengths : Lengths → Lengths → Lengths
cut_lengths n whole =
    record {
      settings = min n.settings whole.settings;
      meters = min n.meters whole.meters;
      readings = min n.readings whole.readings;
      cells = min n.cells whole.cells;
      days = min n.days whole.days;
    }

unfoldable pub ledger_answers : Ledger → Lengths → List Item → List Answer
ledger_answers l whole items =
    answers_from (λ m i. ledger_answer m (cut_lengths i.lent whole) i.call) (λ m i. ledger_after m (cut_lengths i.lent whole) i.call) l items

abbrev pub lengths_of : Parts → Lengths
lengths_of p =
    record { settings = length p.settings; meters = length p.meters; readings = length p.readings; cells = length p.cells; days = length p.days }

-- a body is made of bytes
abbrev pub AreBytes : List ℕ → Type 0
AreBytes xs = (i : ℕ) → slice_index xs i < 256

abbrev pub BodyOfBytes : Call → Type 0
BodyOfBytes (register a) = Unit {0}
BodyOfBytes (receive a) = AreBytes a.body
BodyOfBytes (run d) = Unit {0}
BodyOfBytes (read_totals d c) = Unit {0}
BodyOfBytes (read_cell d c j) = Unit {0}
BodyOfBytes (read_net a) = Unit {0}
BodyOfBytes (search_band a) = Unit {0}
BodyOfBytes (fill_hole a) = Unit {0}
BodyOfBytes (read_coverage d c) = Unit {0}
BodyOfBytes (preview a) = Unit {0}
BodyOfBytes (read_row a) = Unit {0}

-- a condition on every entry of a list
abbrev pub Every : {I : Type 0} → (I → Type 0) → List I → Type 0
Every ok [] = Unit {0}
Every ok (i ∷ is) = ok i × Every ok is

abbrev pub BodiesOfBytes : List Item → Type 0
BodiesOfBytes items = Every (λ i. BodyOfBytes i.call) items

-- the cells that a draft shows, whatever stands in it
abbrev pub draft_of : Opening → List ℕ → Draft
draft_of o draft = record { room = length draft; shown = λ c j. cell_of_entry (slice_index draft (c * periods o + (j - 1))) }

-- Demand 3: for every opening that is accepted and every list of calls with the lengths lent, the answers are those of the plain ledger;
-- what the draft holds at first is given to both sides alike
abbrev pub Agreement : Type 0
Agreement =
    (p : Parts) (a : Opening) (items : List Item) →
    (opening_verdict p.settings p.meters p.readings p.cells p.days a).number ≡ 0 →
    BodiesOfBytes items →
    store_answers (opened_parts p a) items ≡ ledger_answers (start a (draft_of a p.draft)) (lengths_of p) items
