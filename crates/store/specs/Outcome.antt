-- What each call hands out, as the ledger's answer: the scope paper's number for each failed check, and the values of an accepted call.
use Rattle.std.specs.Prelude.{ℕ, List, ℤ, take, Result, Ok, Err}
use Rattle.std.specs.Borrow.{Bor}
use Rattle.ledger.specs.Method as method
use Rattle.ledger.specs.Ledger.{Answer, refused, accepted, moved, totals_are, cell_is, net_is, band_is, filled_are, coverage_is, row_is}
use Rattle.ledger.specs.Engine.{cells_of}
use Rattle.entries.specs.Cell.{cell_meant}
use Rattle.entries.specs.declared.cell.Cell.{Cell}
use Rattle.store.specs.declared.refusal.Check.{Check}
use Rattle.store.specs.declared.refusal.Check.TheVariants.{Unready, NoCategory, Sizes, CategoryRecord, DayType, Mpan, NotRegistered, NoSlot, Date, StartNotLater, SetHeld, NinthRegistration, Record, NotRun, Range, Fields, NoShape, DraftShort, Window, NoPartner, Sender, Quantity, Duration, EndMinute, SecondRecord, DeEnergised, Disconnected, ZeroEstimate, AboveLimit}
use Rattle.store.specs.declared.refusal.Refusal.{Refusal}
use Rattle.store.specs.declared.outcome.Totals.{Totals}
use Rattle.store.specs.declared.outcome.Net.{Net}
use Rattle.store.specs.declared.outcome.Band.{Band}
use Rattle.store.specs.declared.outcome.Coverage.{Coverage}

-- ---- refusals

abbrev pub number_of : Check → ℕ
number_of Unready = 1
number_of NoCategory = 2
number_of Sizes = 3
number_of CategoryRecord = 4
number_of DayType = 5
number_of Mpan = 6
number_of NotRegistered = 7
number_of NoSlot = 8
number_of Date = 9
number_of StartNotLater = 10
number_of SetHeld = 11
number_of NinthRegistration = 12
number_of Record = 13
number_of NotRun = 14
number_of Range = 15
number_of Fields = 16
number_of NoShape = 17
number_of DraftShort = 18
number_of Window = 19
number_of NoPartner = 26
number_of Sender = 1001
number_of Quantity = 1002
number_of Duration = 1004
number_of EndMinute = 1005
number_of SecondRecord = 1006
number_of DeEnergised = 1008
number_of Disconnected = 1009
number_of ZeroEstimate = 1011
number_of AboveLimit = 1012

-- the number of the check that failed; 0 says that all passed
abbrev pub failed_number : {A : Type 0} → Result A Check → ℕ
failed_number (Ok _) = 0
failed_number (Err check) = number_of check

abbrev pub refusal_answer : Refusal → Answer
refusal_answer r = refused (number_of r.check) r.place

-- ---- answers: a refusal, or what the call gives

abbrev pub answered : {A : Type 0} → (A → Answer) → Result A Refusal → Answer
answered given (Ok x) = given x
answered given (Err refusal) = refusal_answer refusal

-- acceptance and nothing beyond it: opening, registration, reception
abbrev pub answer_of : {A : Type 0} → Result A Refusal → Answer
answer_of r = answered (λ _. accepted) r

-- how many cells moved
abbrev pub run_answer : Result ℕ Refusal → Answer
run_answer r = answered moved r

abbrev pub totals_meant : Totals → method.Totals
totals_meant t =
    record {
      tot = t.tot;
      off = t.off;
      peak = t.peak;
      tot7 = t.tot7;
      off7 = t.off7;
      peak7 = t.peak7;
      days7 = t.days7;
      ann = t.ann;
      days = t.days;
      fresh = t.fresh;
      blanks = t.blanks;
    }

abbrev pub totals_answer : Result Totals Refusal → Answer
totals_answer r = answered (λ t. totals_are (totals_meant t)) r

abbrev pub cell_answer : Result Cell Refusal → Answer
cell_answer r = answered (λ a. cell_is (cell_meant a)) r

-- net TOT and TOT7 as returned, the first P numbers and marks as the lists then have them
abbrev pub net_answer : ℕ → Result Net Refusal → List ℤ → List ℕ → Answer
net_answer P r numbers marks = answered (λ n. net_is (record { tot = n.tot; tot7 = n.tot7; periods = take P numbers; marks = take P marks })) r

-- the numbers as returned, the dates written as the list then has them
abbrev pub band_answer : Result Band Refusal → List ℕ → Answer
band_answer r dates = answered (λ b. band_is (record { written = b.written; found = b.found; dates = take b.written dates })) r

-- the first P numbers as the list then has them
abbrev pub fill_answer : {A : Type 0} → ℕ → Result A Refusal → List ℕ → Answer
fill_answer P r filled = answered (λ _. filled_are (take P filled)) r

abbrev pub coverage_meant : Coverage → method.Coverage
coverage_meant c =
    record { fresh7 = c.fresh7; blanks7 = c.blanks7; fresh365 = c.fresh365; blanks365 = c.blanks365; oldest = c.oldest }

abbrev pub coverage_answer : Result Coverage Refusal → Answer
coverage_answer r = answered (λ c. coverage_is (coverage_meant c)) r

-- a row is handed back as the stretch where it stands
abbrev pub row_answer : Result (Bor (List ℕ)) Refusal → Answer
row_answer r = answered (λ row. row_is (cells_of row.now)) r
