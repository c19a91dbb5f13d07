-- The answer lines.
use Rattle.std.specs.Prelude.{ℕ, ◌+◌, ◌/◌, ◌%◌, cond, List, [], ◌∷◌, ◌++◌, eqb}
use Rattle.ledger.specs.Method.{letter_of, Cell, Totals}
use Rattle.ledger.specs.Ledger.{Answer, refused, accepted, moved, totals_are, cell_is, net_is, band_is, filled_are, coverage_is, row_is}
use Rattle.output.specs.Text.{number_word, energy_word, signed_word}

abbrev pub newline : List ℕ
newline = 10 ∷ []

-- the command's byte as two hex digits, of which these are below 10
abbrev pub command_text : ℕ → List ℕ
command_text code = (48 + code / 16) ∷ (48 + code % 16) ∷ []

-- the command and `ok`
abbrev pub accepted_text : ℕ → List ℕ
accepted_text code = command_text code ++ (32 ∷ 111 ∷ 107 ∷ [])

-- the command, `no`, number and place
abbrev pub refused_line : ℕ → ℕ → ℕ → List ℕ
refused_line code number place = command_text code ++ ((32 ∷ 110 ∷ 111 ∷ []) ++ (number_word number ++ (number_word place ++ newline)))

-- TOT OFF PEAK
abbrev pub energies_text : ℕ → ℕ → ℕ → List ℕ
energies_text tot off peak = energy_word tot ++ (energy_word off ++ energy_word peak)

abbrev pub totals_text : Totals → List ℕ
totals_text t =
    energies_text t.tot t.off t.peak ++ (energies_text t.tot7 t.off7 t.peak7 ++
    (number_word t.days7 ++ (energy_word t.ann ++ (number_word t.days ++
    (number_word t.fresh ++ number_word t.blanks)))))

-- `-` stands for no date
abbrev pub origin_word : ℕ → List ℕ
origin_word origin = cond (eqb origin 65535) (32 ∷ 45 ∷ []) (number_word origin)

abbrev pub cell_text : Cell → List ℕ
cell_text a =
    (32 ∷ letter_of a.flag ∷ []) ++ (energy_word a.value ++ (number_word a.count ++ (origin_word a.origin ++ signed_word a.remainder)))

-- the line for an answer to the command; none asks for a net, a band, a fill, a coverage or a row
unfoldable pub answer_line : ℕ → Answer → List ℕ
answer_line code accepted = accepted_text code ++ newline
answer_line code (moved m) = accepted_text code ++ (number_word m ++ newline)
answer_line code (totals_are t) = accepted_text code ++ (totals_text t ++ newline)
answer_line code (cell_is a) = accepted_text code ++ (cell_text a ++ newline)
answer_line code (net_is n) = []
answer_line code (band_is b) = []
answer_line code (filled_are v) = []
answer_line code (coverage_is v) = []
answer_line code (row_is r) = []
answer_line code (refused number place) = refused_line code number place
