-- What commands print and take, step by step, is the program's progress.
use Prim.Native.Nat.{ℕ, zero, suc, ◌+◌, ◌-◌, ◌≤◌}
use mathlib.Core.Path.{◌≡◌, refl, sym, ap, ◌∙◌}
use mathlib.Core.Bool.{Bool, true, false, true≢false}
use mathlib.Core.List.{List, [], ◌∷◌, ◌++◌, append-nil, append_assoc}
use native.Mathlib.Omega.{arith}
use lib.ListN.{length, take, drop}
use lib.Dec.{leb, ltb}
use lib.Seq.{length-take-le, take-take, drop-drop, take-nil}
use borrow.Author.Tests.{not-false}
use Rattle.input.specs.Form.{extent_of, is_overfull}
use Rattle.input.specs.declared.extent.Extent.TheVariants.{Whole}
use Rattle.commands.specs.Commands.{State, code, line_for}
use Rattle.commands.specs.Program.{behind, Setup, store_program}
use Rattle.commands.specs.declared.capacity.Capacity.{Capacity}
use Rattle.commands.proofs.Laws.{category_silent, day_type_silent}
use Rattle.commands.proofs.Program.{behind_behind, progress_whole, store_steady}
use Rattle.session.specs.declared.held.Lent.{Lent}
use Rattle.session.specs.declared.held.Session.{Session}
use Rattle.session.specs.declared.held.Stage.{Stage}
use Rattle.session.specs.declared.held.Stage.TheVariants.{Going, Full, Short, InputEnd, SaidBad, ReadFailed, WriteFailed}
use Rattle.session.specs.Session.{HeldIn, SameLent, is_going, last_line, Obeyed, setup_in, state_in}

-- ---- commands that print nothing

module _ (capacity : Capacity) (s : State) (b waits : List ℕ) where
  silent : line_for capacity s b ≡ [] → waits ≡ waits ++ line_for capacity s b
  silent e = rw e (sym (append-nil waits))

  pub category_printed : code b ≡ 17 → waits ≡ waits ++ line_for capacity s b
  category_printed e = silent (category_silent capacity s b e)

  pub day_type_printed : code b ≡ 18 → waits ≡ waits ++ line_for capacity s b
  day_type_printed e = silent (day_type_silent capacity s b e)

-- ---- room for what an 11 or a 12 brings

pub category_room_lem : (code : ℕ) (x y : Bool) → is_overfull code x y ≡ false → code ≡ 17 → x ≡ true
unfolding is_overfull
category_room_lem code x y f e = not-false x (rw e at f)

pub day_type_room_lem : (code : ℕ) (x y : Bool) → is_overfull code x y ≡ false → code ≡ 18 → y ≡ true
unfolding is_overfull
day_type_room_lem code x y f e = not-false y (rw e at f)

-- what is collected is as long as the session says
pub same_extent : (s : Session) (output : ℕ) (lent : Lent) (bytes : List ℕ) → HeldIn s output lent →
    (store_program (setup_in lent)).extent (state_in s lent) bytes
    ≡ extent_of bytes (leb 8 (length lent.category_records.now - s.category_bytes)) (ltb s.day_types (length lent.day_types.now))
same_extent s output lent bytes held =
    rw (length-take-le s.category_bytes lent.category_records.now held.categories, length-take-le s.day_types lent.day_types.now held.day_types)

-- one call after the other lends the same
pub same_lent_then : {a b c : Lent} → SameLent a b → SameLent b c → SameLent a c
same_lent_then p q =
    record {
      category_records = q.category_records ∙ p.category_records;
      day_types = q.day_types ∙ p.day_types;
      settings = q.settings ∙ p.settings;
      meters = q.meters ∙ p.meters;
      readings = q.readings ∙ p.readings;
      cells = q.cells ∙ p.cells;
      days = q.days ∙ p.days;
      category_room = q.category_room ∙ p.category_room;
      day_type_room = q.day_type_room ∙ p.day_type_room;
      settings_room = q.settings_room ∙ p.settings_room;
      meter_room = q.meter_room ∙ p.meter_room;
      reading_room = q.reading_room ∙ p.reading_room;
      cell_room = q.cell_room ∙ p.cell_room;
      day_room = q.day_room ∙ p.day_room;
      capacity = q.capacity ∙ p.capacity;
    }

-- and so the same setup
pub same_setup : {a b : Lent} → SameLent a b → setup_in b ≡ setup_in a
same_setup p = cc (p.category_room, p.day_type_room, p.capacity)

-- ---- the bytes of a command, and those behind it

drop_take : (k n : ℕ) (xs : List ℕ) → drop k (take n xs) ≡ take (n - k) (drop k xs)
drop_take zero n xs = let same : n - 0 ≡ n = omega arith in rw same
drop_take (suc k) zero xs = let none : 0 - suc k ≡ 0 = omega arith in rw none
drop_take (suc k) (suc n) [] = rw (take-nil {A = ℕ} (suc n - suc k))
drop_take (suc k) (suc n) (x ∷ xs) = let less : suc n - suc k ≡ n - k = omega arith in rw less (drop_take k n xs)

module _ (at end k : ℕ) (input : List ℕ) (there : k ≤ end - at) where
  pub command_bytes : take k (take (end - at) (drop at input)) ≡ take (at + k - at) (drop at input)
  command_bytes = let same : at + k - at ≡ k = omega arith in rw same (take-take k (end - at) (drop at input) there)

  pub bytes_behind : (at' end' : ℕ) → at' ≡ at + k → end' ≡ end → take (end' - at') (drop at' input) ≡ drop k (take (end - at) (drop at input))
  bytes_behind at' end' moved same =
      let less : end - at - k ≡ end - (at + k) = omega arith in
      rw (moved, same, drop_take k (end - at) (drop at input), drop-drop k at input, less)

-- ---- stages

pub going_only : (stage : Stage) → is_going stage ≡ true → stage ≡ Going
going_only Going e = refl
going_only Full e = absurd (true≢false (sym e))
going_only Short e = absurd (true≢false (sym e))
going_only InputEnd e = absurd (true≢false (sym e))
going_only SaidBad e = absurd (true≢false (sym e))
going_only ReadFailed e = absurd (true≢false (sym e))
going_only WriteFailed e = absurd (true≢false (sym e))

-- ---- steps

module _ (g : Setup) where
  -- one command
  pub obeyed_one : (s : State) (bytes waited : List ℕ) (s' : State) (bytes' waits : List ℕ) (output k : ℕ) →
      (store_program g).extent s bytes ≡ Whole k →
      s' ≡ (store_program g).after s (take k bytes) →
      bytes' ≡ drop k bytes →
      waits ≡ waited ++ (store_program g).line s (take k bytes) →
      Obeyed g s bytes waited s' bytes' waits output Going
  obeyed_one s bytes waited s' bytes' waits output k whole after behind printed =
      record {
        gathered = (store_program g).line s (take k bytes);
        program = rw (after, behind) (progress_whole (store_program g) (store_steady g) s bytes k whole);
        printed = rw (append-nil ((store_program g).line s (take k bytes))) printed;
        because = tt;
      }

  -- one after the other
  pub obeyed_then : {s s' s'' : State} {bytes bytes' bytes'' waited waits waits' : List ℕ} {output : ℕ} {so_far stage : Stage} →
      so_far ≡ Going → Obeyed g s bytes waited s' bytes' waits output so_far → Obeyed g s' bytes' waits s'' bytes'' waits' output stage → Obeyed g s bytes waited s'' bytes'' waits' output stage
  obeyed_then {waited = waited} {waits = waits} {stage = stage} e a b =
      let before : waits ≡ waited ++ a.gathered = rw (e, append-nil a.gathered) at a.printed in
      record {
        gathered = a.gathered ++ b.gathered;
        program = a.program ∙ ap (behind a.gathered) b.program ∙ behind_behind a.gathered b.gathered _;
        printed = rw (before, append_assoc waited a.gathered (b.gathered ++ last_line stage), ← append_assoc a.gathered b.gathered (last_line stage)) at b.printed;
        because = b.because;
      }
