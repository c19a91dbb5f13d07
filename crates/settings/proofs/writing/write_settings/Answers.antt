-- `settings::writing::write_settings` meets its contract: the header, the records and the day types stand side by side.
use Rattle.std.proofs.Common.{arith}
use Rattle.ledger.specs.Opening.{Opening}
use Rattle.ledger.specs.Sizes.{settings_length}
use Rattle.ledger.proofs.Open.{sizes_valid_lem}
use Rattle.settings.specs.Opening.{opening_call}
use Rattle.settings.proofs.WritingLaws.{settings_written}
use Rattle.settings.proofs.writing.write_settings.Goals as goal
use Rattle.settings.proofs.writing.write_settings.Goals.{Start}

abbrev call : Start → Opening
call s = let a = s.args in opening_call a.terms a.windows.now a.category_records.now a.day_types.now

pub copy-requires : goal.copy-requires
unfolding settings_length
copy-requires c =
    omega (arith, (sizes_valid_lem (call (goal.at.copy-requires c).Start) c.requires.day_types_value).whole, c.requires.day_types_in_bounds, c.write_header.auto.settings)

pub copy-requires-2 : goal.copy-requires-2
unfolding settings_length
copy-requires-2 c =
    omega (arith, (sizes_valid_lem (call (goal.at.copy-requires-2 c).Start) c.requires.day_types_value).whole, c.requires.day_types_in_bounds, c.write_header.auto.settings, c.copy.auto.part)

pub returns : goal.returns
returns c =
    settings_written (call (goal.at.returns c).Start) c.args.settings.now c.requires.day_types_value c.requires.day_types_in_bounds c.write_header.ensures c.copy.ensures c.copy-2.ensures
