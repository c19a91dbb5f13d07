-- `list_dates` meets its contract. The invariant: the dates in the band below the one reached are counted, and listed as far as there is room.
use Rattle.std.proofs.Common.{◌<◌, arith}
use Rattle.ledger.specs.Store.{dates_of}
use Rattle.ledger.proofs.Ready.{ready}
use Rattle.band.proofs.Laws.{none_yet, one_more, listing_few}
use Rattle.band.proofs.dates.list_dates.Goals as goal
use Rattle.band.proofs.dates.list_dates.Goals.{In-loop-date}

-- the date reached is one of the store's
low-enough : (c : In-loop-date) → c.loop-date.date < dates_of c.args.days.settings.bytes.now
low-enough c = rw (← c.date_count-count.ensures) c.loop-date-test.true

pub loop-date-init : goal.loop-date-init
loop-date-init c = none_yet _ _

pub with_date-found-requires : goal.with_date-found-requires
with_date-found-requires c =
    let k = ready _ c.args.days.settings.ready in
    omega (arith, low-enough (goal.at.with_date-found-requires c).In-loop-date, listing_few _ _ _ _ _ c.loop-date.invariant, k.dates.1)

pub loop-date-preserved : goal.loop-date-preserved
loop-date-preserved c =
    one_more _ _ _ _ _ _ _ _ c.loop-date.invariant c.in_band-matches.ensures c.with_date-found.ensures.dates_after c.with_date-found.ensures.value
