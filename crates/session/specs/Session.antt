-- What holds of a session between two commands, and what becomes of the commands at hand.
use Rattle.std.specs.Prelude.{ℕ, ◌+◌, ◌-◌, ◌≤◌, ◌<◌, ◌≡◌, Bool, true, false, List, [], ◌++◌, length, take, drop}
use Rattle.input.specs.declared.extent.Extent.TheVariants.{Cut, Bad}
use Rattle.ledger.specs.Engine.{Parts}
use Rattle.commands.specs.Commands.{State, parts_of}
use Rattle.commands.specs.Program.{behind, progress, bad_line, Setup, store_program}
use Rattle.commands.specs.declared.capacity.Capacity.{Capacity}
use Rattle.session.specs.declared.held.Lent.{Lent}
use Rattle.session.specs.declared.held.Session.{Session}
use Rattle.session.specs.declared.held.Stage.{Stage}
use Rattle.session.specs.declared.held.Stage.TheVariants.{Going, Full, Short, InputEnd, SaidBad, ReadFailed, WriteFailed}

-- what waits and what is collected lie within their buffers
pub record Held (s : Session) (output category_room day_type_room : ℕ) : Type 0 where
  pub waiting : s.waiting ≤ output
  pub categories : s.category_bytes ≤ category_room
  pub day_types : s.day_types ≤ day_type_room

-- the bytes not yet taken lie within the input block
pub record BlockBounds (s : Session) (input : ℕ) : Type 0 where
  pub begun : s.at ≤ s.end
  pub block : s.end ≤ input

-- there is room for what an 11 or a 12 brings
pub record Room (s : Session) (code category_room day_type_room : ℕ) : Type 0 where
  pub category : code ≡ 17 → s.category_bytes + 8 ≤ category_room
  pub day_type : code ≡ 18 → s.day_types + 1 ≤ day_type_room

-- a command moves nothing in the input, and no turn ends with it
abbrev pub SamePlace : Session → Session → Type 0
SamePlace s r = (r.at ≡ s.at) × (r.end ≡ s.end) × (r.turns ≡ s.turns) × (r.stage ≡ s.stage)

-- bytes are taken of the input block, and none is read
abbrev pub SameInput : Session → Session → Type 0
SameInput s r = (s.at ≤ r.at) × (r.end ≡ s.end) × (r.turns ≡ s.turns)

-- a session with another amount of waiting output, and at another stage
abbrev pub with_waiting : Session → ℕ → Session
with_waiting s waiting =
    record {
      at = s.at;
      end = s.end;
      category_bytes = s.category_bytes;
      day_types = s.day_types;
      waiting = waiting;
      turns = s.turns;
      stage = s.stage;
    }

abbrev pub staged : Session → Stage → Session
staged s stage =
    record {
      at = s.at;
      end = s.end;
      category_bytes = s.category_bytes;
      day_types = s.day_types;
      waiting = s.waiting;
      turns = s.turns;
      stage = stage;
    }

-- the program that the parts make
abbrev pub setup_of : List ℕ → List ℕ → Capacity → Setup
setup_of categoryRecords day_types capacity =
    record { category_room = length categoryRecords; day_type_room = length day_types; capacity = capacity }

-- what a session has collected, and its store
abbrev pub state_of : Session → List ℕ → List ℕ → List ℕ → List ℕ → List ℕ → List ℕ → List ℕ → State
state_of s categoryRecords day_types settings meters readings cells days =
    record {
      category_bytes = take s.category_bytes categoryRecords;
      day_types = take s.day_types day_types;
      parts = parts_of settings meters readings cells days;
    }

-- the same of what is lent
abbrev pub HeldIn : Session → ℕ → Lent → Type 0
HeldIn s output lent = Held s output (length lent.category_records.now) (length lent.day_types.now)

abbrev pub setup_in : Lent → Setup
setup_in lent = setup_of lent.category_records.now lent.day_types.now lent.capacity

abbrev pub state_in : Session → Lent → State
state_in s lent =
    state_of s lent.category_records.now lent.day_types.now lent.settings.now lent.meters.now lent.readings.now lent.cells.now lent.days.now

abbrev pub parts_in : Lent → Parts
parts_in lent = parts_of lent.settings.now lent.meters.now lent.readings.now lent.cells.now lent.days.now

-- the same parts are lent, with as much room and for as much
pub record SameLent (lent later : Lent) : Type 0 where
  pub category_records : later.category_records.ghost_name ≡ lent.category_records.ghost_name
  pub day_types : later.day_types.ghost_name ≡ lent.day_types.ghost_name
  pub settings : later.settings.ghost_name ≡ lent.settings.ghost_name
  pub meters : later.meters.ghost_name ≡ lent.meters.ghost_name
  pub readings : later.readings.ghost_name ≡ lent.readings.ghost_name
  pub cells : later.cells.ghost_name ≡ lent.cells.ghost_name
  pub days : later.days.ghost_name ≡ lent.days.ghost_name
  pub category_room : length later.category_records.now ≡ length lent.category_records.now
  pub day_type_room : length later.day_types.now ≡ length lent.day_types.now
  pub settings_room : length later.settings.now ≡ length lent.settings.now
  pub meter_room : length later.meters.now ≡ length lent.meters.now
  pub reading_room : length later.readings.now ≡ length lent.readings.now
  pub cell_room : length later.cells.now ≡ length lent.cells.now
  pub day_room : length later.days.now ≡ length lent.days.now
  pub capacity : later.capacity ≡ lent.capacity

-- the bytes that a session has not yet taken
abbrev pub untaken : Session → List ℕ → List ℕ
untaken s input = take (s.end - s.at) (drop s.at input)

abbrev pub is_going : Stage → Bool
is_going Going = true
is_going Full = false
is_going Short = false
is_going InputEnd = false
is_going SaidBad = false
is_going ReadFailed = false
is_going WriteFailed = false

-- what is printed besides the lines of commands
abbrev pub last_line : Stage → List ℕ
last_line Going = []
last_line Full = []
last_line Short = []
last_line InputEnd = []
last_line SaidBad = bad_line
last_line ReadFailed = []
last_line WriteFailed = []

-- why no further command is obeyed: a line has no room, or the bytes at hand are no whole command
abbrev pub Because : Setup → State → List ℕ → ℕ → ℕ → Stage → Type 0
Because g s bytes waiting output Going = Unit {0}
Because g s bytes waiting output Full = output < waiting + 300
Because g s bytes waiting output Short = (store_program g).extent s bytes ≡ Cut
Because g s bytes waiting output InputEnd = ⊥
Because g s bytes waiting output SaidBad = (store_program g).extent s bytes ≡ Bad
Because g s bytes waiting output ReadFailed = ⊥
Because g s bytes waiting output WriteFailed = ⊥

-- commands are obeyed as the program's definition says: from a state with bytes at hand and output that waits, to the same later
pub record Obeyed (g : Setup) (s : State) (bytes waited : List ℕ) (s' : State) (bytes' waits : List ℕ) (output : ℕ) (stage : Stage) : Type 0 where
  pub gathered : List ℕ
  pub program : progress (store_program g) s bytes ≡ behind gathered (progress (store_program g) s' bytes')
  pub printed : waits ≡ waited ++ (gathered ++ last_line stage)
  pub because : Because g s' bytes' (length waits) output stage
