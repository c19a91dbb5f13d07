-- A turn from its two halves: commands obeyed, and the blocks exchanged.
use Prim.Native.Nat.{ℕ, ◌-◌, ◌≤◌}
use mathlib.Core.Path.{◌≡◌, refl}
use mathlib.Core.Logic.{◌⊎◌, inl, inr}
use mathlib.Core.Bool.{false, true≢false}
use mathlib.Core.List.{List, [], ◌∷◌, ◌++◌}
use native.Mathlib.Omega.{arith}
use lib.ListN.{length, drop}
use Rattle.ledger.specs.Engine.{AreBytes}
use Rattle.ledger.proofs.Lists.{part_length}
use Rattle.ledger.proofs.Bytes.{bytes_take, bytes_drop}
use Rattle.input.specs.declared.extent.Extent.TheVariants.{Cut}
use Rattle.input.proofs.Growth.{cut_short}
use Rattle.commands.specs.Commands.{State}
use Rattle.commands.specs.Program.{Setup, store_program}
use Rattle.session.specs.declared.held.Session.{Session}
use Rattle.session.specs.declared.held.Stage.{Stage}
use Rattle.session.specs.declared.held.Stage.TheVariants.{Going, Full, Short, InputEnd, SaidBad, ReadFailed, WriteFailed}
use Rattle.session.specs.Session.{BlockBounds, is_going, Because, untaken}
use Rattle.console.specs.Turn.{Dialogue, HasRoom, Turned, Turns}

-- ---- why commands are no longer obeyed

module _ (g : Setup) (s : State) (bytes : List ℕ) (waiting output : ℕ) where
  pub pauses : (stage : Stage) → (stage ≡ SaidBad → ⊥) → is_going stage ≡ false → Because g s bytes waiting output stage → (stage ≡ Full) ⊎ (stage ≡ Short)
  pauses Going k e b = absurd (true≢false e)
  pauses Full k e b = inl refl
  pauses Short k e b = inr refl
  pauses InputEnd k e b = absurd b
  pauses SaidBad k e b = absurd (k refl)
  pauses ReadFailed k e b = absurd b
  pauses WriteFailed k e b = absurd b

-- ---- room to read into, behind a cut command

pub room_left : (g : Setup) (s : State) (r : Session) (input : List ℕ) (waiting output : ℕ) → AreBytes input → BlockBounds r (length input) → 2056 ≤ length input →
    Because g s (untaken r input) waiting output r.stage → r.stage ≡ Short → HasRoom r (length input)
room_left g s r input waiting output bytes bounds long because short =
    let cut : (store_program g).extent s (untaken r input) ≡ Cut = rw short at because in
    let less = cut_short (untaken r input) _ _ (bytes_take (r.end - r.at) (drop r.at input) (bytes_drop r.at input bytes) 15) cut in
    omega (arith, less, long, part_length input r.at (r.end - r.at) (omega (arith, bounds.begun, bounds.block)))

-- one turn more
pub turns_more : (g : Setup) (d : Dialogue) (ds : List Dialogue) (d' d'' : Dialogue) → Turns g d ds d' → Turned g d' d'' → Turns g d (ds ++ (d'' ∷ [])) d''
turns_more g d [] d' d'' same t = (rw same t, refl)
turns_more g d (x ∷ xs) d' d'' ts t = (ts.0, turns_more g x xs d' d'' ts.1 t)
