-- The command program as one definition, from the bytes of its input to those of its output. It is said of any state that commands are obeyed in, so that the plain ledger can stand where the store does.
use Rattle.std.specs.Prelude.{ℕ, zero, suc, ◌-◌, ◌≡◌, cond, List, [], ◌∷◌, ◌++◌, length, take, drop, replicate, leb, ltb, eqb}
use Rattle.ledger.specs.Ledger.{Lengths}
use Rattle.input.specs.Form.{extent_of}
use Rattle.input.specs.declared.extent.Extent.{Extent}
use Rattle.input.specs.declared.extent.Extent.TheVariants.{Whole, Cut, Bad}
use Rattle.commands.specs.Commands.{State, parts_of, line_for, state_after}
use Rattle.commands.specs.declared.capacity.Capacity.{Capacity}

-- how commands are obeyed: where the one at the start of the bytes ends, the line that it prints, the state that it leaves
pub record Program (S : Type 0) : Type 0 where
  pub extent : S → List ℕ → Extent
  pub line : S → List ℕ → List ℕ
  pub after : S → List ℕ → S

-- how far a program has come: what it has printed, its state, and the bytes that it has not taken
pub record Progress (S : Type 0) : Type 0 where
  pub output : List ℕ
  pub state : S
  pub untaken : List ℕ

abbrev pub by_extent : {A : Type 0} → Extent → (ℕ → A) → A → A
by_extent (Whole n) whole other = whole n
by_extent Cut whole other = other
by_extent Bad whole other = other

module _ {S : Type 0} where
  -- nothing printed and nothing taken
  abbrev pub paused : S → List ℕ → Progress S
  paused s bytes = record { output = []; state = s; untaken = bytes }

  -- the same, with a text printed before
  abbrev pub behind : List ℕ → Progress S → Progress S
  behind text p = record { output = text ++ p.output; state = p.state; untaken = p.untaken }

  -- at most n commands are obeyed, one after the other, up to bytes that are no whole command
  unfoldable pub obeyed : Program S → ℕ → S → List ℕ → Progress S
  obeyed m zero s bytes = paused s bytes
  obeyed m (suc n) s bytes =
      by_extent (m.extent s bytes) (λ k. behind (m.line s (take k bytes)) (obeyed m n (m.after s (take k bytes)) (drop k bytes))) (paused s bytes)

  -- all of them: a command has a byte at least
  unfoldable pub progress : Program S → S → List ℕ → Progress S
  progress m s bytes = obeyed m (length bytes) s bytes

-- ---- blocks of input

module _ {S : Type 0} (m : Program S) where
  -- one block more, behind the bytes not yet taken
  abbrev pub fed : Progress S → List ℕ → Progress S
  fed p block = behind p.output (progress m p.state (p.untaken ++ block))

  abbrev pub fed_all : Progress S → List (List ℕ) → Progress S
  fed_all p [] = p
  fed_all p (block ∷ blocks) = fed_all (fed p block) blocks

abbrev pub joined : List (List ℕ) → List ℕ
joined [] = []
joined (block ∷ blocks) = block ++ joined blocks

-- ---- all of its output

-- `bad`
abbrev pub bad_line : List ℕ
bad_line = 98 ∷ 97 ∷ 100 ∷ 10 ∷ []

-- the last line, where bytes are left that are no whole command
abbrev pub ending : List ℕ → List ℕ
ending untaken = cond (eqb (length untaken) 0) [] bad_line

-- all that a program prints: the lines of its commands, and `bad` where it ends before its input does
unfoldable pub output_of : {S : Type 0} → Program S → S → List ℕ → List ℕ
output_of m s input = (progress m s input).output ++ ending (progress m s input).untaken

-- ---- the program over the store

-- what a program is built with: room for category records, in bytes, and for day types to collect; what its parts suffice for
pub record Setup : Type 0 where
  pub category_room : ℕ
  pub day_type_room : ℕ
  pub capacity : Capacity

-- the next command, given what is collected
abbrev pub next_extent : Setup → List ℕ → List ℕ → List ℕ → Extent
next_extent g category_bytes day_types bytes =
    extent_of bytes (leb 8 (g.category_room - length category_bytes)) (ltb (length day_types) g.day_type_room)

abbrev pub store_program : Setup → Program State
store_program g =
    record {
      extent = λ s bytes. next_extent g s.category_bytes s.day_types bytes;
      line = line_for g.capacity;
      after = state_after g.capacity;
    }

-- it starts with nothing collected, and with parts of zeros
abbrev pub first_state : Lengths → State
first_state n =
    record {
      category_bytes = [];
      day_types = [];
      parts = parts_of (replicate n.settings 0) (replicate n.meters 0) (replicate n.readings 0) (replicate n.cells 0) (replicate n.days 0);
    }

-- input in any blocks gives what it gives whole
abbrev pub AnyBlocks : Type 0
AnyBlocks =
    (g : Setup) (s : State) (blocks : List (List ℕ)) →
    fed_all (store_program g) (paused s []) blocks ≡ progress (store_program g) s (joined blocks)

-- once the bytes at hand are no command, what follows them does not matter: the lines so far and `bad` are all
abbrev pub BadEnds : Type 0
BadEnds =
    (g : Setup) (s : State) (xs ys : List ℕ) →
    let p = progress (store_program g) s xs in
    (store_program g).extent p.state p.untaken ≡ Bad →
    output_of (store_program g) s (xs ++ ys) ≡ p.output ++ bad_line
