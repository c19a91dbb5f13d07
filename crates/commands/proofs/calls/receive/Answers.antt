-- `calls::receive` meets its contract: the body is gathered, the call asked with it, and its answer is the line.
use Rattle.std.proofs.Common.{◌≤◌, arith, ◌≡◌, sym, ap, ◌∙◌, get_or, length-take-le}
use Rattle.input.proofs.Laws.{one_byte}
use Rattle.input.specs.declared.operands.Reception.{Reception}
use Rattle.commands.proofs.calls.receive.Goals as goal
use Rattle.commands.proofs.calls.receive.Goals.{After-reception_operands-given}

-- the count of records is one byte
counted : (c : After-reception_operands-given) → c.reception_operands-given.result.records ≡ get_or c.args.command.now 15 0
counted c = ap (λ (r : Reception). r.records) c.reception_operands-given.ensures ∙ one_byte c.args.command.now 15

few : (c : After-reception_operands-given) → c.reception_operands-given.result.records ≤ 255
few c = omega (arith, counted c, c.shared_slice_known-1.given 15)

pub gather-length-requires : goal.gather-length-requires
gather-length-requires c =
    omega (arith, counted (goal.at.gather-length-requires c).After-reception_operands-given, few (goal.at.gather-length-requires c).After-reception_operands-given, c.requires)

pub slice_bounds-body-end : goal.slice_bounds-body-end
slice_bounds-body-end c =
    omega (arith, few (goal.at.slice_bounds-body-end c).After-reception_operands-given, c.gather-length.ensures, c.gather-length.auto)

pub slice_bounds-receive-end : goal.slice_bounds-receive-end
slice_bounds-receive-end c =
    sym (length-take-le _ _ (omega (arith, few (goal.at.slice_bounds-receive-end c).After-reception_operands-given, c.gather-length.ensures, c.gather-length.auto)))
