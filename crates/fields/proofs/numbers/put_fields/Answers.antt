-- `put_fields` meets its contract: the list's front is the fields.
use Rattle.std.proofs.Common.{◌≡◌, length, take, arith}
use Rattle.std.proofs.lemmas.List.{length-take-le}
use Rattle.ledger.specs.Calls.{overwritten}
use Rattle.fields.proofs.numbers.put_fields.Goals as goal

pub returns-clause-list_after : goal.returns-clause-list_after
unfolding overwritten
returns-clause-list_after c =
    let n = c.args.numbers in
    let few : length (take n.count n.fields) ≡ n.count = length-take-le n.count n.fields (omega arith) in
    rw (c.copy_from_slice.ensures.after, few)
