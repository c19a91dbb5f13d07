-- An answer as numbers: what a call returns to C, and what it leaves in the list lent for its fields.
use Rattle.std.specs.Prelude.{ℕ, ◌≤◌, ◌<◌, ◌≡◌, Bool, cond, List, [], ◌∷◌, ◌++◌, ltb, ℤ, pos, length, take}
use Rattle.ledger.specs.Method.{letter_of, Cell, Totals, Coverage}
use Rattle.ledger.specs.Opening.{Opening}
use Rattle.ledger.specs.Ledger.{Answer, refused, accepted, moved, totals_are, cell_is, net_is, band_is, filled_are, coverage_is, row_is, left}
use Rattle.ledger.specs.Calls.{opening_verdict, opened_settings, opened_meters, opened_readings, opened_cells, opened_days, overwritten}
use Rattle.ledger.specs.Engine.{Every}
use Rattle.store.specs.declared.outcome.Net.{Net}
use Rattle.store.specs.declared.outcome.Band.{Band}
use Rattle.fields.specs.declared.numbers.Numbers.{Numbers}

-- the number returned: that of a refusal, 0 for accepted
abbrev pub number_of : Answer → ℕ
number_of (refused number place) = number
number_of accepted = 0
number_of (moved m) = 0
number_of (totals_are t) = 0
number_of (cell_is a) = 0
number_of (net_is n) = 0
number_of (band_is b) = 0
number_of (filled_are v) = 0
number_of (coverage_is c) = 0
number_of (row_is r) = 0

-- TOT OFF PEAK TOT7 OFF7 PEAK7 days7 ANN days FRESH BLANK
abbrev pub totals_fields : Totals → List ℕ
totals_fields t =
    t.tot ∷ t.off ∷ t.peak ∷ t.tot7 ∷ t.off7 ∷ t.peak7 ∷ t.days7 ∷ t.ann ∷ t.days ∷ t.fresh ∷ t.blanks ∷ []

-- flag, value, count, origin; the remainder follows, which has its sign already
abbrev pub cell_fields : Cell → List ℕ
cell_fields a = letter_of a.flag ∷ a.value ∷ a.count ∷ a.origin ∷ []

-- FRESH7 BLANK7 FRESH365 BLANK365 oldest origin
abbrev pub coverage_fields : Coverage → List ℕ
coverage_fields c = c.fresh7 ∷ c.blanks7 ∷ c.fresh365 ∷ c.blanks365 ∷ c.oldest ∷ []

abbrev pub signed : List ℕ → List ℤ
signed [] = []
signed (x ∷ xs) = pos x ∷ signed xs

-- the fields in the order in which the command program prints them: energies in Wh, the flag as its letter; of a refusal the place.
-- Nets, marks, dates and filled values have lists of their own; a row has no such list at all.
abbrev pub fields_of : Answer → List ℤ
fields_of (refused number place) = pos place ∷ []
fields_of accepted = []
fields_of (moved m) = pos m ∷ []
fields_of (totals_are t) = signed (totals_fields t)
fields_of (cell_is a) = signed (cell_fields a) ++ (a.remainder ∷ [])
fields_of (net_is n) = n.tot ∷ n.tot7 ∷ []
fields_of (band_is b) = pos b.written ∷ pos b.found ∷ []
fields_of (filled_are v) = []
fields_of (coverage_is c) = signed (coverage_fields c)
fields_of (row_is r) = []

-- 1 before all checks, and then nothing is written: the list has fewer than eleven entries
abbrev pub list_short : List ℤ → Bool
list_short list = ltb (length list) 11

-- what a call with this answer returns, and leaves in the list
pub record Returned (list : List ℤ) (given : Answer) (number : ℕ) (list' : List ℤ) : Type 0 where
  pub number_is : number ≡ cond (list_short list) 1 (number_of given)
  pub fields_are : list' ≡ cond (list_short list) list (overwritten (fields_of given) list)

-- and in any other list or part that it is lent
abbrev pub unless_short : {A : Type 0} → List ℤ → List A → List A → List A
unless_short list before after = cond (list_short list) before after

-- the parts that an opening leaves
pub record OpeningLeaves (list : List ℤ) (S M R C D : List ℕ) (a : Opening) (S' M' R' C' D' : List ℕ) : Type 0 where
  pub settings : S' ≡ unless_short list S (left (opening_verdict S M R C D a) S (opened_settings a S))
  pub meters : M' ≡ unless_short list M (left (opening_verdict S M R C D a) M (opened_meters a M))
  pub readings : R' ≡ unless_short list R (left (opening_verdict S M R C D a) R (opened_readings a R))
  pub cells : C' ≡ unless_short list C (left (opening_verdict S M R C D a) C (opened_cells a C))
  pub days : D' ≡ unless_short list D (left (opening_verdict S M R C D a) D (opened_days a D))

-- ---- in the code

-- a field has a sign, so that its numbers have 63 bits
abbrev pub Fits : ℕ → Type 0
Fits n = n < 9223372036854775808

abbrev pub FieldsFit : Answer → Type 0
FieldsFit (refused number place) = Fits place
FieldsFit accepted = Unit {0}
FieldsFit (moved m) = Fits m
FieldsFit (totals_are t) = Every Fits (totals_fields t)
FieldsFit (cell_is a) = Every Fits (cell_fields a)
FieldsFit (net_is n) = Unit {0}
FieldsFit (band_is b) = Fits b.written × Fits b.found
FieldsFit (filled_are v) = Unit {0}
FieldsFit (coverage_is c) = Every Fits (coverage_fields c)
FieldsFit (row_is r) = Unit {0}

-- a net and a band as answers without the lists that the call wrote, which no number names
abbrev pub net_alone : Net → Answer
net_alone n = net_is (record { tot = n.tot; tot7 = n.tot7; periods = []; marks = [] })

abbrev pub band_alone : Band → Answer
band_alone b = band_is (record { written = b.written; found = b.found; dates = [] })

-- the fields stand at the front of the array
pub record AsNumbers (given : Answer) (r : Numbers) : Type 0 where
  pub number_is : r.number ≡ number_of given
  pub fields_are : take r.count r.fields ≡ fields_of given
  pub few : r.count ≤ 11
  pub long : length r.fields ≡ 11
