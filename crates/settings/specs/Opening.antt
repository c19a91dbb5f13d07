-- An opening from its numbers and the lists lent beside them.
use Rattle.std.specs.Prelude.{ℕ, ◌≤◌, List, get_or}
use Rattle.ledger.specs.Opening.{Opening}
use Rattle.settings.specs.declared.writing.OpeningTerms.{OpeningTerms}

abbrev pub opening_call : OpeningTerms → List ℕ → List ℕ → List ℕ → Opening
opening_call terms window_minutes category_bytes day_types =
    record {
      duration = terms.duration;
      meters = terms.meters;
      window_minutes = window_minutes;
      category_bytes = category_bytes;
      day_types = day_types;
    }

-- minutes of a day
abbrev pub MinutesOfDay : List ℕ → Type 0
MinutesOfDay minutes = (k : ℕ) → get_or minutes k 0 ≤ 1440
