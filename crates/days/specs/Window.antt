-- A date's entries, the periods of the window being a stretch.
use Rattle.std.specs.Prelude.{ℕ, cond}
use Rattle.metering.specs.Sum.{sum_below}
use Rattle.metering.specs.Calendar.{covers}
use Rattle.metering.specs.declared.calendar.Stretch.{Stretch}
use Rattle.ledger.specs.Method.{Cell}
use Rattle.ledger.specs.Store.{DayEntries, day_entry_of, tot_entry, tot_among}

abbrev pub entries_in : Stretch → ℕ → (ℕ → Cell) → DayEntries
entries_in window periods cells =
    record {
      day = day_entry_of periods cells;
      tot = tot_entry (tot_among periods cells);
      off = sum_below periods (λ k. cond (covers window k) (cells k).value 0);
    }
