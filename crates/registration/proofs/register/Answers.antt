-- `register` meets its contract: a refused call leaves the meters as they were.
use Rattle.store.proofs.Refusals.{kept_at}
use Rattle.registration.proofs.Laws.{slot_is, call_failed, fields_failed, meter_told}
use Rattle.registration.proofs.register.Goals as goal

pub returns-in_err-settings-clause-kept : goal.returns-in_err-settings-clause-kept
returns-in_err-settings-clause-kept c = kept_at _ _ (call_failed _ _ _ _ _ c.in_err-settings.ensures.number) _ _

pub returns-in_err-check_fields-clause-kept : goal.returns-in_err-check_fields-clause-kept
returns-in_err-check_fields-clause-kept c =
    let passed = c.in_ok-settings.ensures in
    kept_at _ _ (fields_failed _ _ _ _ passed.number _ (rw (passed.lent, c.start_of-start.ensures) at c.in_err-check_fields.ensures)) _ _

pub returns-in_err-check_meter-clause-kept : goal.returns-in_err-check_meter-clause-kept
returns-in_err-check_meter-clause-kept c =
    let passed = c.in_ok-settings.ensures in
    let fields = rw passed.lent at c.in_ok-check_fields.ensures in
    let slot = slot_is _ _ _ _ _ _ (rw passed.lent at c.meter_count-slots.ensures) c.slot_of-slot.ensures in
    kept_at _ _ (meter_told _ _ _ _ passed.number _ _ c.start_of-start.ensures fields slot (rw passed.lent at c.in_err-check_meter.ensures)) _ _
