-- The command program over the plain ledger in place of a store, and that it prints the same bytes.
use Rattle.std.specs.Prelude.{ℕ, ◌≡◌, ◌⊎◌, not, ◌||◌, cond, List, [], ◌++◌, eqb, take, drop}
use Rattle.std.proofs.Math.Option.{Option, none, some}
use Rattle.ledger.specs.Checks.{Verdict, opening_check}
use Rattle.ledger.specs.Ledger.{Ledger, start, Call, Answer, refused, accepted, answer, left, Lengths, any_short, ledger_answer, ledger_after, Opening}
use Rattle.ledger.specs.Engine.{AreBytes, draft_of}
use Rattle.output.specs.Lines.{answer_line}
use Rattle.commands.specs.Commands.{code, opening_of, suffices_for, call_of}
use Rattle.commands.specs.Program.{Program, output_of, Setup, next_extent, store_program, first_state}
use Rattle.commands.specs.declared.capacity.Capacity.{Capacity}
use Rattle.session.specs.declared.held.Stage.TheVariants.{InputEnd, SaidBad}
use Rattle.console.specs.Turn.{Dialogue, begun, Turns, read_in, written_in}

-- the program between two commands; there is no ledger before the first accepted opening
pub record Plain : Type 0 where
  pub category_bytes : List ℕ
  pub day_types : List ℕ
  pub ledger : Option Ledger

-- ---- openings and calls

-- parts of the lengths n, or empty ones for an opening that they do not suffice for
unfoldable pub plain_opening : Capacity → Lengths → Opening → Verdict
plain_opening capacity n a = opening_check a (not (suffices_for capacity a) || any_short a n)

-- unopened, every other call answers 1
unfoldable pub plain_answer : Lengths → Option Ledger → Call → Answer
plain_answer n none c = refused 1 0
plain_answer n (some l) c = ledger_answer l n c

-- and changes nothing
unfoldable pub ledger_left : Lengths → Option Ledger → Call → Option Ledger
ledger_left n none c = none
ledger_left n (some l) c = some (ledger_after l n c)

-- ---- all commands

unfoldable pub plain_line : Capacity → Lengths → Plain → List ℕ → List ℕ
plain_line capacity n x command =
    cond (eqb (code command) 17) []
    (cond (eqb (code command) 18) []
    (cond (eqb (code command) 16) (answer_line 16 (answer (plain_opening capacity n (opening_of command x.category_bytes x.day_types)) accepted))
    (answer_line (code command) (plain_answer n x.ledger (call_of command)))))

unfoldable pub plain_after : Capacity → Lengths → Plain → List ℕ → Plain
plain_after capacity n x command =
    let a = opening_of command x.category_bytes x.day_types in
    cond (eqb (code command) 17)
    (record { category_bytes = x.category_bytes ++ take 8 (drop 1 command); day_types = x.day_types; ledger = x.ledger })
    (cond (eqb (code command) 18)
    (record { category_bytes = x.category_bytes; day_types = x.day_types ++ take 1 (drop 1 command); ledger = x.ledger })
    (cond (eqb (code command) 16)
    (record { category_bytes = []; day_types = []; ledger = left (plain_opening capacity n a) x.ledger (some (start a (draft_of a []))) })
    (record { category_bytes = x.category_bytes; day_types = x.day_types; ledger = ledger_left n x.ledger (call_of command) })))

-- ---- the program

abbrev pub plain_program : Setup → Lengths → Program Plain
plain_program g n =
    record {
      extent = λ x bytes. next_extent g x.category_bytes x.day_types bytes;
      line = plain_line g.capacity n;
      after = plain_after g.capacity n;
    }

abbrev pub first_plain : Plain
first_plain = record { category_bytes = []; day_types = []; ledger = none }

-- Demand 3, of the program: every input gives the output that the plain ledger says, byte for byte
abbrev pub SameBytes : Type 0
SameBytes =
    (g : Setup) (n : Lengths) (input : List ℕ) →
    AreBytes input →
    output_of (store_program g) (first_state n) input ≡ output_of (plain_program g n) first_plain input

-- so a dialogue with parts of zeros that came to its end, by the input's or by `bad`, handed to writes, with what still waits, what the plain
-- program prints on all that was read
abbrev pub DialogueIsPlain : Type 0
DialogueIsPlain =
    (g : Setup) (n : Lengths) (ds : List Dialogue) (d : Dialogue) →
    let first = begun (first_state n).parts in
    (t : Turns g first ds d) →
    (d.stage ≡ InputEnd) ⊎ (d.stage ≡ SaidBad) →
    AreBytes (read_in g first ds d t) →
    output_of (plain_program g n) first_plain (read_in g first ds d t) ≡ written_in g first ds d t ++ d.waits
