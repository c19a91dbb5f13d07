-- The scope paper's worked dialogue, lines of cells, the dialogue before any opening, and what the paper says on `bad`.
use Rattle.std.specs.Prelude.{ℕ, ◌≡◌, List, [], ◌∷◌, ◌++◌, pos, negsuc, drop, replicate}
use Prim.Native.Char.{code}
use Prim.Native.String as string
use Rattle.ledger.specs.Method.{A, E, N}
use Rattle.ledger.specs.Ledger.{cell_is, Lengths}
use Rattle.ledger.specs.Engine.{Every}
use Rattle.output.specs.Lines.{answer_line}
use Rattle.commands.specs.Program.{joined, output_of, Setup, store_program, first_state}

-- 3 categories of 8 bytes, 8 day types, 4 meters, 384 date-periods
abbrev pub standard_setup : Setup
standard_setup = record { category_room = 24; day_type_room = 8; capacity = record { meters = 4; date_periods = 384 } }

-- the parts that these take
abbrev pub standard_lengths : Lengths
standard_lengths = record { settings = 72; meters = 164; readings = 1568; cells = 1152; days = 96 }

-- a text's characters as bytes
abbrev pub bytes_of : string.String → List ℕ
bytes_of string.[] = []
bytes_of (string.◌∷◌ c text) = code c ∷ bytes_of text

-- what the program prints for an input
abbrev pub Prints : List ℕ → string.String → Type 0
Prints input text = output_of (store_program standard_setup) (first_state standard_lengths) input ≡ bytes_of text

-- ---- the dialogue

abbrev pub example_input : List ℕ
example_input =
    0x12 ∷ 0x01
    ∷ 0x12 ∷ 0x01
    ∷ 0x11 ∷ 0x01 ∷ 0x01 ∷ 0x01 ∷ 0x01 ∷ 0x01 ∷ 0x01 ∷ 0x00 ∷ 0x01
    ∷ 0x10 ∷ 0x1E ∷ 0x00 ∷ 0x01
    ∷ 0x13 ∷ 0x00 ∷ 0x00 ∷ 0x00 ∷ 0xE8 ∷ 0xD4 ∷ 0xA5 ∷ 0x10 ∷ 0x03 ∷ 0x00 ∷ 0x00 ∷ 0x00 ∷ 0x00 ∷ 0x00 ∷ 0x00 ∷ 0x07 ∷ 0x01 ∷ 0x00 ∷ 0x00 ∷ 0x27 ∷ 0x10
    ∷ 0x14 ∷ 0x00 ∷ 0x07 ∷ 0x00 ∷ 0x00 ∷ 0x00 ∷ 0xE8 ∷ 0xD4 ∷ 0xA5 ∷ 0x10 ∷ 0x03 ∷ 0x00 ∷ 0x00 ∷ 0x1E ∷ 0x01 ∷ 0x02
    ∷ 0x15 ∷ 0x00 ∷ 0x1E ∷ 0x01 ∷ 0x00 ∷ 0x00 ∷ 0x01 ∷ 0xF4
    ∷ 0x15 ∷ 0x01 ∷ 0xE0 ∷ 0x01 ∷ 0x00 ∷ 0x00 ∷ 0x00 ∷ 0xFA
    ∷ 0x16 ∷ 0x00 ∷ 0x00
    ∷ 0x16 ∷ 0x00 ∷ 0x01
    ∷ 0x17 ∷ 0x00 ∷ 0x01 ∷ 0x00
    ∷ 0x18 ∷ 0x00 ∷ 0x00 ∷ 0x01 ∷ 0x03
    ∷ []

abbrev pub example_output : string.String
example_output =
    "10 ok\n13 ok\n14 ok\n16 ok 2\n16 ok 2\n17 ok 0.750 0.500 0.250 1.500 1.000 0.500 2 273.750 2 0 46\n18 no 15 0\n"

abbrev pub WorkedDialogue : Type 0
WorkedDialogue = Prints example_input example_output

-- ---- the lines of cells, which end with the remainder in whole Wh (change request 2026-04)

abbrev pub CellLines : Type 0
CellLines =
    (answer_line 24 (cell_is (record { flag = A; value = 11; count = 2; origin = 0; remainder = negsuc 0 })) ≡ bytes_of "18 ok A 0.011 2 0 -1\n")
    × (answer_line 24 (cell_is (record { flag = E; value = 1250; count = 1024; origin = 799; remainder = pos 511 })) ≡ bytes_of "18 ok E 1.250 1024 799 511\n")
    × (answer_line 24 (cell_is (record { flag = N; value = 0; count = 0; origin = 65535; remainder = pos 0 })) ≡ bytes_of "18 ok N 0.000 0 - 0\n")

-- ---- the dialogue from behind its opening on: unopened, every call answers 1

abbrev pub unopened_input : List ℕ
unopened_input = drop 17 example_input

abbrev pub unopened_output : string.String
unopened_output = "13 no 1 0\n14 no 1 0\n16 no 1 0\n16 no 1 0\n17 no 1 0\n18 no 1 0\n"

abbrev pub UnopenedDialogue : Type 0
UnopenedDialogue = Prints unopened_input unopened_output

-- ---- `bad`

abbrev pub category_command : List ℕ
category_command = 0x11 ∷ 0x01 ∷ 0x01 ∷ 0x01 ∷ 0x01 ∷ 0x01 ∷ 0x01 ∷ 0x00 ∷ 0x01 ∷ []

abbrev pub day_type_command : List ℕ
day_type_command = 0x12 ∷ 0x01 ∷ []

abbrev pub run_command : List ℕ
run_command = 0x16 ∷ 0x00 ∷ 0x00 ∷ []

-- with one record due
abbrev pub reception_head : List ℕ
reception_head = 0x14 ∷ 0x00 ∷ 0x07 ∷ 0x00 ∷ 0x00 ∷ 0x00 ∷ 0xE8 ∷ 0xD4 ∷ 0xA5 ∷ 0x10 ∷ 0x03 ∷ 0x00 ∷ 0x00 ∷ 0x1E ∷ 0x01 ∷ 0x01 ∷ []

abbrev pub record_command : List ℕ
record_command = 0x15 ∷ 0x00 ∷ 0x1E ∷ 0x01 ∷ 0x00 ∷ 0x00 ∷ 0x01 ∷ 0xF4 ∷ []

-- each a run that is obeyed, then what is not: a fourth 11, a ninth 12, an unknown byte, a 15 not due, another byte or the end of
-- input where one is due, a cut operand
abbrev pub bad_inputs : List (List ℕ)
bad_inputs =
    (joined (replicate 3 category_command) ++ run_command ++ category_command ++ run_command)
    ∷ (joined (replicate 8 day_type_command) ++ run_command ++ day_type_command ++ run_command)
    ∷ (run_command ++ (0x19 ∷ []) ++ run_command)
    ∷ (run_command ++ record_command ++ run_command)
    ∷ (run_command ++ reception_head ++ run_command)
    ∷ (run_command ++ reception_head)
    ∷ (run_command ++ (0x16 ∷ 0x00 ∷ []))
    ∷ []

-- the line of the one, then `bad`, and nothing after it
abbrev pub bad_output : string.String
bad_output = "16 no 1 0\nbad\n"

abbrev pub BadInputs : Type 0
BadInputs = Every (λ input. Prints input bad_output) bad_inputs
