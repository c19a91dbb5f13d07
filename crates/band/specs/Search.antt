-- What a band search is asked, as the ledger's call; a date that is sought; and a list that gets as many dates as it holds.
use Rattle.std.specs.Prelude.{ℕ, Bool, List, length, take}
use Rattle.ledger.specs.Band.{BandCall, in_band}
use Rattle.ledger.specs.Store.{dates_of, day_type_of, is_run_day}
use Rattle.ledger.specs.Calls.{totals_for, overwritten}
use Rattle.band.specs.declared.dates.Sought.{Sought}

abbrev pub band_call : ℕ → ℕ → ℕ → ℕ → List ℕ → BandCall
band_call category day_type least most dates =
    record { category = category; day_type = day_type; least = least; most = most; room = length dates }

-- the ledger's test of a date; with how much room the category is asked for does not matter to it
abbrev pub is_sought : List ℕ → List ℕ → ℕ → Sought → ℕ → Bool
is_sought settings days category sought d =
    in_band (dates_of settings) (is_run_day (dates_of settings) category days) (day_type_of settings) (λ x. (totals_for settings days x category).tot)
    (record { category = category; day_type = sought.day_type; least = sought.least; most = sought.most; room = 0 })
    d

-- the first of some dates, as many as there is room for
unfoldable pub listed : List ℕ → List ℕ → List ℕ
listed dates lent = overwritten (take (length lent) dates) lent
