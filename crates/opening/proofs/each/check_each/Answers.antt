-- `each::check_each` meets its contract: the first i things passed.
use Rattle.ledger.proofs.Verdicts.{failing, passing, first_passed}
use Rattle.store.specs.Outcome.{failed_number}
use Rattle.store.proofs.Refusals.{number_some}
use Rattle.std.proofs.Common.{ap}
use Rattle.opening.proofs.each.check_each.Goals as goal

pub returns-in-Err : goal.returns-in-Err
returns-in-Err g c = λ number passes.
    let l = c.loop-i in
    failing number _ l.i _ _ c.loop-i-test.true (passes l.i _ c.loop-i-test.true c.in-Err.ensures) (number_some c.in-Err.check) (l.invariant number passes)

pub loop-i-preserved : goal.loop-i-preserved
loop-i-preserved g c = λ number passes.
    let l = c.loop-i in
    passing number _ l.i _ _ c.loop-i-test.true (passes l.i _ c.loop-i-test.true c.check_at.ensures) (ap failed_number c.in_default.is) (l.invariant number passes)

pub returns : goal.returns
returns g c = λ number passes. first_passed number _ _ _ c.loop-i-test.false (c.loop-i.invariant number passes)
