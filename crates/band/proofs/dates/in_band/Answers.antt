-- `in_band` meets its contract: each test that fails makes the definition's `&&` false, and the last one decides.
use Rattle.std.proofs.Common.{◌≡◌, ap, ◌∙◌, arith, rules, get_or, leb, ◌&&◌}
use Rattle.metering.proofs.Laws.{test_passed}
use Rattle.ledger.specs.Store.{tot_row, day_index, energy_of}
use Rattle.store.proofs.DayLaws.{row_known, row_there, mark_there}
use Rattle.band.proofs.Laws.{fits, within}
use Rattle.band.proofs.dates.in_band.Goals as goal
use Rattle.band.proofs.dates.in_band.Goals.{After-energy_of-tot}

-- the date's TOT as it is kept
kept : (c : After-energy_of-tot) → let a = c.args in
    c.energy_of-tot.result ≡ energy_of (get_or a.days.entries.now (day_index c.args.dates a.category tot_row a.date) 0)
kept c =
    let a = c.args in
    c.energy_of-tot.ensures.is ∙ ap energy_of (c.entry_at.ensures ∙ ap (λ i. get_or a.days.entries.now i 0) c.day_index.ensures)

pub is_run_day-requires : goal.is_run_day-requires
is_run_day-requires c =
    let days = c.args.days in
    let p = c.requires.in_settings in
    mark_there (fits _ _ days.settings.ready days.long p.0 p.1 c.requires.from_settings.0)

pub day_index-requires : goal.day_index-requires
day_index-requires c =
    let days = c.args.days in
    let p = c.requires.in_settings in
    row_known (fits _ _ days.settings.ready days.long p.0 p.1 c.requires.from_settings.0)

pub entry_at-requires : goal.entry_at-requires
entry_at-requires c =
    let days = c.args.days in
    let p = c.requires.in_settings in
    row_there (fits _ _ days.settings.ready days.long p.0 p.1 c.requires.from_settings.0) _ (omega arith) c.day_index.ensures

pub returns : goal.returns
returns c =
    let t = (kept (goal.at.returns c).After-energy_of-tot) in
    let is : c.contains.result ≡ (leb c.args.sought.least c.energy_of-tot.result && leb c.energy_of-tot.result c.args.sought.most) = search rules in
    is ∙ within _ _ _ _ _ (c.from-day_type.ensures ∙ c.requires.from_settings.2) c.if-day_type-sought.false c.requires.from_settings.0 (test_passed c.is_run_day.ensures c.if-not-is_run_day.false-raw) t
