-- The worked dialogue computed, over the plain ledger and hence over the store.
use Prim.Native.Nat.{ℕ}
use Prim.Native.String.{String}
use mathlib.Core.Path.{◌≡◌, refl, ◌∙◌}
use mathlib.Core.Bool.{true}
use mathlib.Core.List.{List, [], ◌∷◌}
use Rattle.metering.specs.Sum.{sum_below}
use Rattle.metering.specs.Mpan.{mpan_valid, check_digit, weighted_sum, product, digit, weights}
use Rattle.metering.specs.Average.{average, remainder, annual}
use Rattle.metering.specs.Range.{between, meters_in_range, categories_in_range, dates_in_range, day_type_valid, smart_valid, category_valid}
use Rattle.metering.specs.Calendar.{duration_known, periods_per_day, period_ending, lies_within, window_valid}
use Rattle.ledger.specs.Method.{category_at, window_at, is_smart, same_family, total, is_enough, fresh_of, fresh_in, blank, carried, cell_from, after_date, latest, cell_of, cell_on, same_cell, moved_cell, over_run_dates, tot_on, off_on, peak_on, fresh_among, blanks_among, totals_on}
use Rattle.ledger.specs.Checks.{first_failed, any_below, window_number, record_at, category_number, day_type_number, or_else, sizes_valid, opening_check, first_number, call_number, content_number, record_number_if, record_number, end_minute, quality, watt_hours_at, moment_of, start_of, starts, later, latest_from, in_force, appointed, fields_number, meter_number, registration_check, header_number, body_check, in_force_check, reception_check, is_reading, reading_in, run_check, read_check, totals_in_range, cell_in_range}
use Rattle.ledger.specs.Sizes.{settings_length, meters_length, readings_length, cells_length, days_length}
use Rattle.ledger.specs.Ledger.{start, answer, left, settings_short, meters_short, cells_short, days_short, any_short, meter_with, changed, ledger_registration_check, register_in, after_registration, ledger_reception_check, set_of, at, after_reception, cell_by, cell_at, is_run, ledger_run_check, picture_of, after_run, moved_between, ledger_totals_check, ledger_cell_check, totals_at, ledger_answer, ledger_after}
use Rattle.ledger.specs.Engine.{Every}
use Rattle.input.specs.Operands.{big_endian, body_of}
use Rattle.input.specs.Form.{head_length, records_extent, is_overfull, command_extent, extent_of}
use Rattle.output.specs.Text.{decimal_in, decimal_text, energy_text}
use Rattle.output.specs.Lines.{answer_line}
use Rattle.commands.specs.Commands.{parts_suffice, call_of}
use Rattle.commands.specs.Program.{obeyed, progress, output_of}
use Rattle.conversation.specs.Conversation.{plain_opening, plain_answer, ledger_left, plain_line, plain_after, plain_program, first_plain}
use Rattle.conversation.specs.Example.{standard_setup, standard_lengths, bytes_of, Prints, example_input, example_output, WorkedDialogue, CellLines, unopened_input, unopened_output, UnopenedDialogue, bad_inputs, bad_output, BadInputs}
use Rattle.ledger.proofs.Bytes.{all_bytes, are_bytes}
use Rattle.conversation.proofs.Conversation.{same_bytes}

-- an input of bytes, and what the program over the plain ledger prints for it
abbrev Computed : List ℕ → String → Type 0
Computed input text = (all_bytes input ≡ true) × (output_of (plain_program standard_setup standard_lengths) first_plain input ≡ bytes_of text)

prints : (input : List ℕ) (text : String) → Computed input text → Prints input text
prints input text c = same_bytes standard_setup standard_lengths input (are_bytes input c.0) ∙ c.1

all_print : (text : String) (inputs : List (List ℕ)) → Every (λ input. Computed input text) inputs → Every (λ input. Prints input text) inputs
all_print text [] c = tt
all_print text (input ∷ inputs) c = (prints input text c.0, all_print text inputs c.1)

computed : Computed example_input example_output × Computed unopened_input unopened_output × Every (λ input. Computed input bad_output) bad_inputs
unfolding output_of progress obeyed plain_line plain_after plain_answer ledger_left plain_opening parts_suffice call_of big_endian body_of extent_of command_extent records_extent head_length is_overfull answer_line decimal_in decimal_text energy_text opening_check sizes_valid duration_known meters_in_range categories_in_range dates_in_range record_at category_number day_type_number smart_valid category_valid day_type_valid start ledger_answer ledger_after answer left settings_short meters_short cells_short days_short any_short meter_with changed ledger_registration_check register_in after_registration ledger_reception_check set_of at after_reception cell_by cell_at is_run ledger_run_check picture_of after_run moved_between ledger_totals_check ledger_cell_check totals_at settings_length meters_length readings_length cells_length days_length first_failed moment_of start_of starts later latest_from in_force appointed meter_number registration_check body_check in_force_check reception_check is_reading reading_in run_check read_check totals_in_range cell_in_range moved_cell over_run_dates tot_on off_on peak_on fresh_among blanks_among totals_on category_at mpan_valid check_digit weighted_sum product digit weights sum_below average remainder annual record_number period_ending periods_per_day lies_within window_at window_number window_valid between same_cell blank cell_on cell_of cell_from latest after_date fresh_in fresh_of is_enough total is_smart same_family any_below end_minute quality watt_hours_at carried or_else first_number call_number fields_number header_number record_number_if content_number
computed = ((refl, refl), (refl, refl), ((refl, refl), ((refl, refl), ((refl, refl), ((refl, refl), ((refl, refl), ((refl, refl), ((refl, refl), tt))))))))

pub worked_dialogue : WorkedDialogue
worked_dialogue = prints example_input example_output computed.0

pub cell_lines : CellLines
unfolding answer_line decimal_in decimal_text energy_text
cell_lines = (refl, refl, refl)

pub unopened_dialogue : UnopenedDialogue
unopened_dialogue = prints unopened_input unopened_output computed.1

pub bad_inputs_lem : BadInputs
bad_inputs_lem = all_print bad_output bad_inputs computed.2
