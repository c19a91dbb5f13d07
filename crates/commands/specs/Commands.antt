-- What each command asks of the store, prints and leaves.
use Rattle.std.specs.Prelude.{ℕ, ◌*◌, Bool, false, cond, List, [], ◌++◌, length, take, drop, get_or, leb, eqb}
use Rattle.ledger.specs.Method.{method_windows}
use Rattle.ledger.specs.Checks.{RegistrationCall, ReceptionCall, Verdict}
use Rattle.ledger.specs.Ledger.{Call, register, receive, run, read_totals, read_cell, Answer, accepted, answer, Opening}
use Rattle.ledger.specs.Calls.{opening_verdict}
use Rattle.ledger.specs.Engine.{Parts, call_answer, leaves, after_opening}
use Rattle.input.specs.Operands.{operand, opening_operands, registration_operands, reception_operands, body_of, run_widths, totals_widths, cell_widths}
use Rattle.output.specs.Lines.{answer_line}
use Rattle.commands.specs.declared.capacity.Capacity.{Capacity}

-- the program lends no draft
abbrev pub parts_of : List ℕ → List ℕ → List ℕ → List ℕ → List ℕ → Parts
parts_of settings meters readings cells days =
    record { settings = settings; meters = meters; readings = readings; cells = cells; days = days; draft = [] }

-- the program between two commands: the 11s and 12s collected for the next opening, and the store
pub record State : Type 0 where
  pub category_bytes : List ℕ
  pub day_types : List ℕ
  pub parts : Parts

abbrev pub code : List ℕ → ℕ
code command = get_or command 0 0

-- ---- openings

-- with METH005's windows
abbrev pub opening_of : List ℕ → List ℕ → List ℕ → Opening
opening_of command category_bytes day_types =
    record {
      duration = (opening_operands command).duration;
      meters = (opening_operands command).meters;
      window_minutes = method_windows;
      category_bytes = category_bytes;
      day_types = day_types;
    }

-- 15 minutes make 96 periods a day, 30 make 48
unfoldable pub parts_suffice : Capacity → ℕ → ℕ → ℕ → Bool
parts_suffice capacity duration meters dates =
    cond (leb meters capacity.meters) (leb (dates * cond (eqb duration 15) 96 48) capacity.date_periods) false

abbrev pub suffices_for : Capacity → Opening → Bool
suffices_for capacity a = parts_suffice capacity a.duration a.meters (length a.day_types)

-- an opening that the parts do not suffice for is lent empty ones
abbrev pub lent : Bool → List ℕ → List ℕ
lent suffices part = cond suffices part []

abbrev pub opening_verdict_on : Bool → Parts → Opening → Verdict
opening_verdict_on suffices p a =
    opening_verdict (lent suffices p.settings) (lent suffices p.meters) (lent suffices p.readings) (lent suffices p.cells) (lent suffices p.days) a

unfoldable pub opening_answer : Capacity → Parts → Opening → Answer
opening_answer capacity p a = answer (opening_verdict_on (suffices_for capacity a) p a) accepted

-- and leaves the program's as they were
unfoldable pub opening_leaves : Capacity → Parts → Opening → Parts
opening_leaves capacity p a = cond (suffices_for capacity a) (after_opening p a) p

-- ---- the calls of an opened store

abbrev pub registration_of : List ℕ → RegistrationCall
registration_of command =
    let given = registration_operands command in
    record {
      mpan = given.mpan;
      date = given.date;
      minute = given.minute;
      category = given.category;
      sender = given.sender;
      status = given.status;
      limit = given.limit;
    }

abbrev pub reception_of : List ℕ → ReceptionCall
reception_of command =
    let given = reception_operands command in
    record {
      sender = given.sender;
      mpan = given.mpan;
      date = given.date;
      duration = given.duration;
      quantity = given.quantity;
      body = body_of given.records command;
    }

-- the call that a command makes; codes in hex are 13, 14, 16, 17, 18
unfoldable pub call_of : List ℕ → Call
call_of command =
    cond (eqb (code command) 19) (register (registration_of command))
    (cond (eqb (code command) 20) (receive (reception_of command))
    (cond (eqb (code command) 22) (run (operand run_widths 0 command))
    (cond (eqb (code command) 23) (read_totals (operand totals_widths 0 command) (operand totals_widths 1 command))
    (read_cell (operand cell_widths 0 command) (operand cell_widths 1 command) (operand cell_widths 2 command)))))

-- ---- all commands

-- the line that a command prints; 11 and 12 print nothing
unfoldable pub line_for : Capacity → State → List ℕ → List ℕ
line_for capacity s command =
    let a = opening_of command s.category_bytes s.day_types in
    cond (eqb (code command) 17) []
    (cond (eqb (code command) 18) []
    (cond (eqb (code command) 16) (answer_line 16 (opening_answer capacity s.parts a))
    (answer_line (code command) (call_answer s.parts (call_of command)))))

-- a 10 uses up what is collected, whatever it answers
unfoldable pub state_after : Capacity → State → List ℕ → State
state_after capacity s command =
    let a = opening_of command s.category_bytes s.day_types in
    cond (eqb (code command) 17)
    (record { category_bytes = s.category_bytes ++ take 8 (drop 1 command); day_types = s.day_types; parts = s.parts })
    (cond (eqb (code command) 18)
    (record { category_bytes = s.category_bytes; day_types = s.day_types ++ take 1 (drop 1 command); parts = s.parts })
    (cond (eqb (code command) 16)
    (record { category_bytes = []; day_types = []; parts = opening_leaves capacity s.parts a })
    (record { category_bytes = s.category_bytes; day_types = s.day_types; parts = leaves s.parts (call_of command) })))
