-- The computed checks and the worked examples of specs/Marked.antt hold: by computation.
use Rattle.std.specs.Prelude.{◌≡◌, true, refl}
use Rattle.metering.specs.Sum.{sum_below}
use Rattle.metering.specs.Mpan.{mpan_valid, check_digit, weighted_sum, product, digit, weights}
use Rattle.metering.specs.Average.{average, remainder, annual}
use Rattle.metering.specs.Range.{between, meters_in_range, categories_in_range, dates_in_range, day_type_valid, smart_valid, advanced_valid, category_valid}
use Rattle.metering.specs.Calendar.{duration_known, periods_per_day, period_ending, lies_within, window_valid}
use Rattle.ledger.specs.Method.{category_at, window_at, is_smart, same_family, total, is_enough, fresh_of, fresh_in, blank, carried, cell_from, after_date, latest, cell_of, cell_on, same_cell, moved_cell, over_run_dates, fresh_among, blanks_among, tot_on, off_on, peak_on, totals_on, origin_of, oldest_among, coverage_on}
use Rattle.ledger.specs.Table.{tabulate, chosen_below, first_from}
use Rattle.ledger.specs.Net.{on_side, side_of, sum_over, any_of, signed_sum, net_period, mark_of, net_tot, net_tot7, net_on}
use Rattle.ledger.specs.Band.{in_band, band_dates, band_on}
use Rattle.ledger.specs.Fill.{is_opted_out_shape, shape_category, weight_by, may_fill, comes_before, count_before, whole_part, remainder_of, left_over, filled_value, filled_values}
use Rattle.ledger.specs.Checks.{first_failed, any_below, window_number, record_at, category_number, day_type_number, or_else, sizes_valid, opening_check, first_number, call_number, content_number, record_number_if, record_number, end_minute, quality, watt_hours_at, moment_of, start_of, starts, later, latest_from, in_force, appointed, not_after_last, fields_number, known_number, meter_number, registration_check, header_number, body_check, in_force_check, reception_check, is_reading, reading_in, run_check, read_check, totals_in_range, cell_in_range, lists_short, may_net, net_check, band_check, fill_check, preview_check, row_check}
use Rattle.ledger.specs.Sizes.{settings_length, meters_length, readings_length, cells_length, days_length, draft_length}
use Rattle.ledger.specs.Ledger.{start, answer, left, least_lengths, settings_short, meters_short, cells_short, days_short, any_short, meter_with, changed, held_from, ledger_registration_check, register_in, after_registration, ledger_reception_check, set_of, at, after_reception, cell_by, cell_at, is_run, ledger_run_check, picture_of, after_run, moved_between, ledger_totals_check, ledger_cell_check, totals_at, ledger_net_check, side_at, net_at, ledger_band_check, band_at, shape_at, weight_at, ledger_fill_check, fill_at, ledger_coverage_check, coverage_at, draft_short, ledger_preview_check, after_preview, ledger_row_check, row_shown, ledger_answer, ledger_after}
use Rattle.ledger.specs.Store.{flag_number_of, cell_of_entry}
use Rattle.ledger.specs.Engine.{draft_of}
use Rattle.ledger.specs.Marked.{every_period, window_is, first_cell, marked_list, example_opening, example_calls, example_answers, ledger_run, net_opening, net_calls, net_answers, band_opening, band_calls, band_answers, fill_opening, fill_calls, fill_answers, coverage_opening, coverage_calls, coverage_answers, sender_opening, sender_calls, sender_answers, remainder_opening, remainder_calls, remainder_answers, preview_opening, preview_calls, row_with, preview_answers, window_opening, window_calls, window_answers, opens_with, repeated, window_list, example_draft}

pub marked_list_lem : marked_list ≡ true
unfolding marked_list mpan_valid check_digit weighted_sum product digit weights sum_below average remainder annual record_number period_ending window_is every_period periods_per_day lies_within window_at between same_cell first_cell blank cell_on cell_of cell_from latest fresh_in fresh_of is_enough total is_smart same_family any_below end_minute quality watt_hours_at carried record_number_if content_number
marked_list_lem = refl

pub window_list_lem : window_list ≡ true
unfolding window_list opens_with repeated opening_check sizes_valid duration_known meters_in_range categories_in_range dates_in_range between window_number window_valid category_number category_valid smart_valid advanced_valid record_at any_below day_type_number day_type_valid first_failed or_else
window_list_lem = refl

pub worked_examples :
    (ledger_run (start example_opening (draft_of example_opening example_draft)) (least_lengths example_opening) example_calls ≡ example_answers)
    × (ledger_run (start net_opening (draft_of net_opening example_draft)) (least_lengths net_opening) net_calls ≡ net_answers)
    × (ledger_run (start band_opening (draft_of band_opening example_draft)) (least_lengths band_opening) band_calls ≡ band_answers)
    × (ledger_run (start fill_opening (draft_of fill_opening example_draft)) (least_lengths fill_opening) fill_calls ≡ fill_answers)
    × (ledger_run (start coverage_opening (draft_of coverage_opening example_draft)) (least_lengths coverage_opening) coverage_calls ≡ coverage_answers)
    × (ledger_run (start sender_opening (draft_of sender_opening example_draft)) (least_lengths sender_opening) sender_calls ≡ sender_answers)
    × (ledger_run (start remainder_opening (draft_of remainder_opening example_draft)) (least_lengths remainder_opening) remainder_calls ≡ remainder_answers)
    × (ledger_run (start preview_opening (draft_of preview_opening example_draft)) (least_lengths preview_opening) preview_calls ≡ preview_answers)
    × (ledger_run (start window_opening (draft_of window_opening example_draft)) (least_lengths window_opening) window_calls ≡ window_answers)
unfolding ledger_run start ledger_answer ledger_after answer left settings_short meters_short cells_short any_short meter_with changed held_from ledger_registration_check register_in after_registration ledger_reception_check set_of at after_reception cell_by cell_at is_run ledger_run_check picture_of after_run moved_between ledger_totals_check ledger_cell_check totals_at settings_length meters_length readings_length cells_length first_failed moment_of start_of starts later latest_from in_force appointed not_after_last meter_number registration_check body_check in_force_check reception_check is_reading reading_in run_check read_check totals_in_range cell_in_range moved_cell over_run_dates tot_on off_on peak_on totals_on category_at mpan_valid check_digit weighted_sum product digit weights sum_below average remainder annual record_number period_ending periods_per_day lies_within window_at between same_cell blank cell_on cell_of cell_from latest after_date fresh_in fresh_of is_enough total is_smart same_family any_below end_minute quality watt_hours_at carried net_check lists_short may_net ledger_net_check side_at net_at on_side chosen_below side_of sum_over any_of signed_sum net_period mark_of net_tot net_tot7 net_on tabulate or_else first_number call_number fields_number known_number header_number record_number_if content_number band_check ledger_band_check band_at band_on band_dates in_band day_type_valid fill_check ledger_fill_check shape_at weight_at fill_at is_opted_out_shape shape_category first_from weight_by may_fill comes_before count_before whole_part remainder_of left_over filled_value filled_values days_length days_short ledger_coverage_check coverage_at fresh_among blanks_among origin_of oldest_among coverage_on draft_length draft_short preview_check row_check ledger_preview_check after_preview ledger_row_check row_shown row_with cell_of_entry flag_number_of
worked_examples = (refl, refl, refl, refl, refl, refl, refl, refl, refl)
