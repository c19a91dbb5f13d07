-- An average of readings has room in an entry.
use Rattle.std.proofs.Common.{ℕ, ◌≤◌, ◌<◌, ◌≡◌, sym, ◌∙◌, true, arith, ℤ}
use Rattle.metering.specs.Average.{average, remainder}
use Rattle.ledger.specs.Method.{is_enough, Flag, A, D, flag_number}
use Rattle.ledger.specs.Store.{FitsEntry}
use Rattle.ledger.proofs.Entries.{shape_fits}
use Rattle.ledger.proofs.Tallies.{enough_some, average_fits}
use Rattle.run_rows.specs.Shape.{Averaged}
use Rattle.run_rows.proofs.shape.shape_entry.Goals as goal

-- an average as the code has it
fits : (f : Flag) (d s n m v : ℕ) (r : ℤ) → 1 ≤ flag_number f → d < 1024 → is_enough n m ≡ true → Averaged s n → (v ≡ average s n) × (r ≡ remainder s n) →
    FitsEntry (record { flag = f; value = v; count = n; origin = d; remainder = r })
fits f d s n m v r some date enough bounds is =
    let a = average_fits s n m enough bounds.sum bounds.count in
    rw (is.0, is.1) (shape_fits f (average s n) n d (remainder s n) some a.0 (a.1, a.2, date, a.3))

pub average-requires : goal.average-requires
average-requires c = enough_some _ _ (sym c.is_enough.ensures ∙ c.if-is_enough.true)

pub entry_of-requires : goal.entry_of-requires
entry_of-requires c =
    let a = c.average.ensures in
    rw c.own.ensures
    (fits A c.args.date _ _ _ _ _ (omega arith) c.requires (sym c.is_enough.ensures ∙ c.if-is_enough.true) c.args.own.averaged (a.value_value, a.remainder_value))

pub average-requires-then-is_enough-2 : goal.average-requires-then-is_enough-2
average-requires-then-is_enough-2 c = enough_some _ _ (sym c.is_enough-then-smart.ensures ∙ c.if-is_enough-2.true)

pub entry_of-requires-then-is_enough-2 : goal.entry_of-requires-then-is_enough-2
entry_of-requires-then-is_enough-2 c =
    let a = c.average-then-is_enough-2.ensures in
    rw c.pooled.ensures
    (fits D c.args.date _ _ _ _ _ (omega arith) c.requires (sym c.is_enough-then-smart.ensures ∙ c.if-is_enough-2.true) c.args.family.averaged (a.value_value, a.remainder_value))
