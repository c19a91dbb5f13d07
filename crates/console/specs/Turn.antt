-- What a turn of the dialogue does, and a whole dialogue.
use Rattle.std.specs.Prelude.{ℕ, zero, suc, ◌-◌, ◌≤◌, ◌<◌, ◌≡◌, ◌≢◌, ◌⊎◌, false, List, [], ◌∷◌, ◌++◌, length, take, Option, None, Some, unwrap_or}
use Rattle.std.proofs.Common.{inl, inr}
use Rattle.input.specs.declared.extent.Extent.TheVariants.{Cut, Bad}
use Rattle.ledger.specs.Engine.{Parts}
use Rattle.commands.specs.Commands.{State}
use Rattle.commands.specs.Program.{behind, progress, bad_line, output_of, Setup, store_program}
use Rattle.session.specs.declared.held.Lent.{Lent}
use Rattle.session.specs.declared.held.Session.{Session}
use Rattle.session.specs.declared.held.Stage.{Stage}
use Rattle.session.specs.declared.held.Stage.TheVariants.{Going, Full, Short, InputEnd, SaidBad, ReadFailed, WriteFailed}
use Rattle.session.specs.Session.{with_waiting, staged, is_going, last_line, state_of, untaken}

-- a dialogue between two turns: the program's state, the bytes not yet taken, the output not yet written, and how it stands
pub record Dialogue : Type 0 where
  pub state : State
  pub untaken : List ℕ
  pub waits : List ℕ
  pub stage : Stage

abbrev pub dialogue_of : Session → List ℕ → List ℕ → List ℕ → List ℕ → List ℕ → List ℕ → List ℕ → List ℕ → List ℕ → Dialogue
dialogue_of s input output categoryRecords day_types settings meters readings cells days =
    record {
      state = state_of s categoryRecords day_types settings meters readings cells days;
      untaken = untaken s input;
      waits = take s.waiting output;
      stage = s.stage;
    }

-- the same with what is lent
abbrev pub dialogue_in : Session → List ℕ → List ℕ → Lent → Dialogue
dialogue_in s input output lent =
    dialogue_of s input output lent.category_records.now lent.day_types.now lent.settings.now lent.meters.now lent.readings.now lent.cells.now lent.days.now

-- at first nothing is collected, read or printed
abbrev pub begun : Parts → Dialogue
begun parts = record { state = record { category_bytes = []; day_types = []; parts = parts }; untaken = []; waits = []; stage = Going }

-- the bytes at hand do not fill the block, so that a read of no bytes is the input's end
abbrev pub HasRoom : Session → ℕ → Type 0
HasRoom s block = s.end - s.at < block

-- what only commands change
abbrev pub SameCollected : Session → Session → Type 0
SameCollected s r = (r.category_bytes ≡ s.category_bytes) × (r.day_types ≡ s.day_types) × (r.turns ≡ s.turns)

-- ---- the two blocks between commands

-- what waits is written out, or a write failed and some of it may not be
abbrev pub Flushed : Session → Session → Type 0
Flushed s r = (r ≡ with_waiting s 0) ⊎ ((r ≡ staged s WriteFailed) × (1 ≤ s.waiting))

-- what a read's answer means, with `kept` bytes at hand: a failure, more bytes, or the input's end
abbrev pub stage_after : Option ℕ → ℕ → Stage
stage_after None kept = ReadFailed
stage_after (Some zero) zero = InputEnd
stage_after (Some zero) (suc kept) = SaidBad
stage_after (Some (suc got)) kept = Going

-- how many bytes it brought
abbrev pub count_of : Option ℕ → ℕ
count_of got = unwrap_or got 0

-- how the dialogue stands then, `cut` saying that the bytes left are the start of a command, and `full` that output waited for room. What
-- goes on has nothing waiting: behind a cut command something was read, else a full block was written out. At the input's end nothing may be
-- cut. After a failed write something waits
abbrev pub Stands : Type 0 → Type 0 → List ℕ → List ℕ → List ℕ → Stage → Type 0
Stands cut full left read waits Going = (waits ≡ []) × (((read ≢ []) × cut) ⊎ ((read ≡ []) × full))
Stands cut full left read waits Full = ⊥
Stands cut full left read waits Short = ⊥
Stands cut full left read waits InputEnd = (waits ≡ []) × (read ≡ []) × (left ≡ []) × cut
Stands cut full left read waits SaidBad = (read ≡ []) × (left ≢ []) × cut
Stands cut full left read waits ReadFailed = (waits ≡ []) × (read ≡ []) × cut
Stands cut full left read waits WriteFailed = (read ≡ []) × (waits ≢ [])

-- from bytes left and output that waits to the same later: what is read goes behind the bytes left, and what waits is written out
pub record Exchanged (cut full : Type 0) (left waited bytes waits : List ℕ) (stage : Stage) : Type 0 where
  pub read : List ℕ
  pub written : List ℕ
  pub kept : bytes ≡ left ++ read
  pub printed : waited ++ last_line stage ≡ written ++ waits
  pub stands : Stands cut full left read waits stage

-- ---- turns

-- one turn: the commands at hand are obeyed as the program's definition says, each once and in order, and what they print goes behind what
-- waits; then the blocks are exchanged, or the bytes left are no command and `bad` is the last line
pub record Turned (g : Setup) (d d' : Dialogue) : Type 0 where
  pub going : d.stage ≡ Going
  pub gathered : List ℕ
  pub left : List ℕ
  pub obeyed : progress (store_program g) d.state d.untaken ≡ behind gathered (progress (store_program g) d'.state left)
  pub ends : Exchanged ((store_program g).extent d'.state left ≡ Cut) (d.waits ++ gathered ≢ []) left (d.waits ++ gathered) d'.untaken d'.waits d'.stage
      ⊎ (((store_program g).extent d'.state left ≡ Bad) × (d'.untaken ≡ left) × (d'.waits ≡ (d.waits ++ gathered) ++ bad_line) × (d'.stage ≡ SaidBad))

-- what a turn read, and what it handed to writes
abbrev pub read_by : {g : Setup} {d d' : Dialogue} → Turned g d d' → List ℕ
read_by t = elim t.ends [ inl e ↦ e.read | inr b ↦ [] ]

abbrev pub written_by : {g : Setup} {d d' : Dialogue} → Turned g d d' → List ℕ
written_by t = elim t.ends [ inl e ↦ e.written | inr b ↦ [] ]

-- turns, one after the other, and the same of all
module _ (g : Setup) where
  abbrev pub Turns : Dialogue → List Dialogue → Dialogue → Type 0
  Turns d [] d' = d ≡ d'
  Turns d (next ∷ later) d' = Turned g d next × Turns next later d'

  abbrev pub read_in : (d : Dialogue) (ds : List Dialogue) (d' : Dialogue) → Turns d ds d' → List ℕ
  read_in d [] d' t = []
  read_in d (next ∷ later) d' t = read_by t.0 ++ read_in next later d' t.1

  abbrev pub written_in : (d : Dialogue) (ds : List Dialogue) (d' : Dialogue) → Turns d ds d' → List ℕ
  written_in d [] d' t = []
  written_in d (next ∷ later) d' t = written_by t.0 ++ written_in next later d' t.1

-- every loop ends: this one after so many turns
abbrev pub most_turns : ℕ
most_turns = 18446744073709551615

-- a whole dialogue: turns are taken as long as it goes on
pub record Ran (g : Setup) (parts : Parts) (d : Dialogue) : Type 0 where
  pub turns : List Dialogue
  pub taken : Turns g (begun parts) turns d
  pub over : (is_going d.stage ≡ false) ⊎ (length turns ≡ most_turns)

-- its parts then, and why it ended: as it stands, unless the write of `bad` failed
pub record Conversed (g : Setup) (parts parts' : Parts) (end : Stage) : Type 0 where
  pub last : Dialogue
  pub ran : Ran g parts last
  pub left : last.state.parts ≡ parts'
  pub why : (end ≡ last.stage) ⊎ ((last.stage ≡ SaidBad) × (end ≡ WriteFailed))

-- a dialogue that came to its end, by the input's or by `bad`: what it handed to writes and what still waits is what the program prints on
-- all that was read
abbrev pub DialogueIsProgram : Type 0
DialogueIsProgram =
    (g : Setup) (parts : Parts) (ds : List Dialogue) (d : Dialogue) (t : Turns g (begun parts) ds d) →
    (d.stage ≡ InputEnd) ⊎ (d.stage ≡ SaidBad) →
    output_of (store_program g) (begun parts).state (read_in g (begun parts) ds d t) ≡ written_in g (begun parts) ds d t ++ d.waits
