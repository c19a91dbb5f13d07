-- Answers as numbers, worked out by hand: those of the scope paper's example, a refusal with a place, totals that all differ, cells, a net,
-- a band, a fill and a coverage.
use Rattle.std.specs.Prelude.{◌≡◌, refl, [], ◌∷◌, map, pos, negsuc}
use Rattle.ledger.specs.Method.{E, N}
use Rattle.ledger.specs.Ledger.{refused, totals_are, cell_is, net_is, band_is, filled_are, coverage_is}
use Rattle.ledger.specs.Marked.{example_answers}
use Rattle.fields.specs.Fields.{number_of, fields_of}

pub worked_fields :
    (map number_of example_answers ≡ 0 ∷ 0 ∷ 0 ∷ 0 ∷ 0 ∷ 15 ∷ [])
    × (map fields_of example_answers
    ≡ []
    ∷ []
    ∷ (pos 2 ∷ [])
    ∷ (pos 2 ∷ [])
    ∷ (pos 750 ∷ pos 500 ∷ pos 250 ∷ pos 1500 ∷ pos 1000 ∷ pos 500 ∷ pos 2 ∷ pos 273750 ∷ pos 2 ∷ pos 0 ∷ pos 46 ∷ [])
    ∷ (pos 0 ∷ [])
    ∷ [])
    × (number_of (refused 1012 3) ≡ 1012)
    × (fields_of (refused 1012 3) ≡ pos 3 ∷ [])
    × (fields_of
    (totals_are (record { tot = 1; off = 2; peak = 3; tot7 = 4; off7 = 5; peak7 = 6; days7 = 7; ann = 8; days = 9; fresh = 10; blanks = 11 }))
    ≡ pos 1 ∷ pos 2 ∷ pos 3 ∷ pos 4 ∷ pos 5 ∷ pos 6 ∷ pos 7 ∷ pos 8 ∷ pos 9 ∷ pos 10 ∷ pos 11 ∷ [])
    × (fields_of (cell_is (record { flag = E; value = 11; count = 2; origin = 0; remainder = negsuc 0 })) ≡ pos 69 ∷ pos 11 ∷ pos 2 ∷ pos 0 ∷ negsuc 0 ∷ [])
    × (fields_of (cell_is (record { flag = N; value = 0; count = 0; origin = 65535; remainder = pos 0 })) ≡ pos 78 ∷ pos 0 ∷ pos 0 ∷ pos 65535 ∷ pos 0 ∷ [])
    × (fields_of (net_is (record { tot = negsuc 9; tot7 = pos 50; periods = []; marks = [] })) ≡ negsuc 9 ∷ pos 50 ∷ [])
    × (fields_of (band_is (record { written = 2; found = 3; dates = 0 ∷ 2 ∷ [] })) ≡ pos 2 ∷ pos 3 ∷ [])
    × (number_of (filled_are (46 ∷ 27 ∷ 27 ∷ 0 ∷ [])) ≡ 0)
    × (fields_of (filled_are (46 ∷ 27 ∷ 27 ∷ 0 ∷ [])) ≡ [])
    × (fields_of (coverage_is (record { fresh7 = 1; blanks7 = 94; fresh365 = 2; blanks365 = 141; oldest = 4 })) ≡ pos 1 ∷ pos 94 ∷ pos 2 ∷ pos 141 ∷ pos 4 ∷ [])
worked_fields = (refl, refl, refl, refl, refl, refl, refl, refl, refl, refl, refl, refl)
