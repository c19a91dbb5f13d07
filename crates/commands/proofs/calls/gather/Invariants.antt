use Rattle.std.proofs.Common.{◌*◌, ◌≡◌, length, take}
use Rattle.input.specs.Operands.{body_of}
use Rattle.commands.proofs.calls.gather.Given as goal

-- the bytes written so far are the bodies of the records passed
abbrev pub invariant-loop-k : goal.invariant-loop-k
invariant-loop-k l = (take l.to l.body ≡ body_of l.k l.command) × (l.to ≡ 7 * l.k) × (length l.body ≡ length l.initial.body)
