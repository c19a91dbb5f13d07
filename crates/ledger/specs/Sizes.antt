-- The least length of each lent part of the store, in M meters, C categories, T dates and P periods.
use Rattle.std.specs.Prelude.{ℕ, ◌+◌, ◌*◌}

-- the settings' header: four numbers of two bytes, and eight windows of two such numbers
abbrev pub header_length : ℕ
header_length = 40

-- the header, eight bytes a category record, one byte a day type
unfoldable pub settings_length : ℕ → ℕ → ℕ
settings_length C T = header_length + 8 * C + T

-- an MPAN a meter, then eight registrations of five entries a meter
unfoldable pub meters_length : ℕ → ℕ
meters_length M = M + 40 * M

-- for each date and meter a mark that a set is held, and an entry a period
unfoldable pub readings_length : ℕ → ℕ → ℕ → ℕ
readings_length M T P = T * M * (1 + P)

-- an entry for each date, category and period
unfoldable pub cells_length : ℕ → ℕ → ℕ → ℕ
cells_length C T P = T * (C * P)

-- for each category four rows, each with an entry for a date
unfoldable pub days_length : ℕ → ℕ → ℕ
days_length C T = 4 * C * T

-- a draft is no part of the store; it has an entry for each category and period of one date
unfoldable pub draft_length : ℕ → ℕ → ℕ
draft_length C P = C * P
