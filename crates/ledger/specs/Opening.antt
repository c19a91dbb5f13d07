-- An opening's arguments, as one record: what a later request adds is a field here.
use Rattle.std.specs.Prelude.{ℕ, ◌+◌, ◌/◌, List, length, slice_index}
use Rattle.metering.specs.Calendar.{periods_per_day}
use Rattle.ledger.specs.Method.{Category, category_at, Window, window_at}

-- the period duration, M, the windows' minutes, the category bytes and the day types
pub record Opening : Type 0 where
  pub duration : ℕ
  pub meters : ℕ
  pub window_minutes : List ℕ
  pub category_bytes : List ℕ
  pub day_types : List ℕ

abbrev pub categories : Opening → ℕ
categories o = length o.category_bytes / 8

abbrev pub dates : Opening → ℕ
dates o = length o.day_types

abbrev pub periods : Opening → ℕ
periods o = periods_per_day o.duration

-- how many windows are whole, and how many places there are: a last minute that is left over begins a window too
abbrev pub windows : Opening → ℕ
windows o = length o.window_minutes / 2

abbrev pub window_places : Opening → ℕ
window_places o = (length o.window_minutes + 1) / 2

-- the window of this number
abbrev pub window : Opening → ℕ → Window
window o w = window_at o.window_minutes w

abbrev pub category : Opening → ℕ → Category
category o c = category_at o.category_bytes c

abbrev pub day_type : Opening → ℕ → ℕ
day_type o d = slice_index o.day_types d
