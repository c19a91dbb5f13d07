-- `run::run` meets its contract: a refusal leaves cells and days, an accepted run does what the definition says.
use Rattle.std.proofs.Common.{◌≡◌, ap, ◌∙◌}
use Rattle.ledger.specs.Ledger.{moved}
use Rattle.ledger.specs.Calls.{Ran, as_ran, ran_from}
use Rattle.store.proofs.Refusals.{given_at, after_at}
use Rattle.run.proofs.run.Goals as goal
use Rattle.run.proofs.run.Goals.{After-run_accepted}

ran : (c : After-run_accepted) → let a = c.args in
    as_ran c.run_accepted.new.cells c.run_accepted.new.days c.run_accepted.result ≡ ran_from a.settings.now a.meters.now a.readings.now a.cells.now a.days.now a.date
ran c = rw c.in_ok-settings.ensures.lent at c.run_accepted.ensures

pub returns-clause-result_value : goal.returns-clause-result_value
returns-clause-result_value c =
    ap (λ (x : Ran). moved x.moved) (ran (goal.at.returns-clause-result_value c).After-run_accepted) ∙ given_at _ c.in_ok-settings.ensures.number _

pub returns-clause-cells_after : goal.returns-clause-cells_after
returns-clause-cells_after c =
    ap (λ (x : Ran). x.published.cells) (ran (goal.at.returns-clause-cells_after c).After-run_accepted) ∙ after_at _ c.in_ok-settings.ensures.number _ _

pub returns-clause-days_after : goal.returns-clause-days_after
returns-clause-days_after c =
    ap (λ (x : Ran). x.published.days) (ran (goal.at.returns-clause-days_after c).After-run_accepted) ∙ after_at _ c.in_ok-settings.ensures.number _ _
