-- `open` meets its contract: what was told of the checks is the verdict on the parts lent, and each part is written to its least length.
use Rattle.std.proofs.Common.{ap, ◌∙◌, [], arith}
use Rattle.ledger.proofs.Windows.{minutes_low}
use Rattle.opening.specs.Lengths.{lengths_meant}
use Rattle.opening.proofs.Laws.{sizes_of, passed, opening_done}
use Rattle.opening.proofs.open.Goals as goal

pub least_lengths-least-requires : goal.least_lengths-least-requires
least_lengths-least-requires c = sizes_of _ [] ∙ (passed _ _ _ _ _ _ c.in_ok-check_opening.ensures).sizes

pub write_settings-requires-clause-day_types_value : goal.write_settings-requires-clause-day_types_value
write_settings-requires-clause-day_types_value c = (passed _ _ _ _ _ _ c.in_ok-check_opening.ensures).sizes

pub write_settings-requires-clause-minutes_of_day : goal.write_settings-requires-clause-minutes_of_day
write_settings-requires-clause-minutes_of_day c = minutes_low _ _ (passed _ _ _ _ _ _ c.in_ok-check_opening.ensures).windows_good

pub write_settings-requires-clause-day_types_in_bounds : goal.write_settings-requires-clause-day_types_in_bounds
write_settings-requires-clause-day_types_in_bounds c = (passed _ _ _ _ _ _ c.in_ok-check_opening.ensures).settings_long

pub empty-requires : goal.empty-requires
empty-requires c = let room = (passed _ _ _ _ _ _ c.in_ok-check_opening.ensures).meters_long in omega (arith, ap (λ n. n.meters) c.least_lengths-least.ensures)

pub empty-requires-2 : goal.empty-requires-2
empty-requires-2 c = let room = (passed _ _ _ _ _ _ c.in_ok-check_opening.ensures).readings_long in omega (arith, ap (λ n. n.readings) c.least_lengths-least.ensures)

pub empty-requires-3 : goal.empty-requires-3
empty-requires-3 c = let room = (passed _ _ _ _ _ _ c.in_ok-check_opening.ensures).cells_long in omega (arith, ap (λ n. n.cells) c.least_lengths-least.ensures)

pub empty-requires-4 : goal.empty-requires-4
empty-requires-4 c = let room = (passed _ _ _ _ _ _ c.in_ok-check_opening.ensures).days_long in omega (arith, ap (λ n. n.days) c.least_lengths-least.ensures)

pub returns : goal.returns
returns c =
    opening_done _ _ _ _ _ _ c.in_ok-check_opening.ensures (lengths_meant c.least_lengths-least.result) c.least_lengths-least.ensures c.write_settings.ensures c.empty.ensures
    c.empty-2.ensures c.empty-3.ensures c.empty-4.ensures
