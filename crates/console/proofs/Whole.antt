-- A dialogue that came to its end printed what the program prints.
use Prim.Native.Nat.{ℕ}
use mathlib.Core.Path.{◌≡◌, refl, sym, ap, ◌∙◌}
use mathlib.Core.Logic.{◌≢◌, ◌⊎◌, inl, inr, ⊎_elim}
use mathlib.Core.Bool.{true, true≢false}
use mathlib.Core.List.{List, [], ◌∷◌, ◌++◌, append-nil, append_assoc}
use native.Mathlib.Omega.{arith}
use lib.ListN.{length}
use borrow.Author.Tests.{ne_eqb}
use Rattle.input.specs.declared.extent.Extent.TheVariants.{Cut, Bad}
use Rattle.commands.specs.Commands.{State}
use Rattle.commands.specs.Program.{behind, progress, bad_line, ending, output_of, Setup, store_program}
use Rattle.commands.proofs.Program.{NotWhole, behind_behind, progress_paused, one_block, store_steady}
use Rattle.session.specs.declared.held.Stage.{Stage}
use Rattle.session.specs.declared.held.Stage.TheVariants.{Going, InputEnd, SaidBad}
use Rattle.session.specs.Session.{is_going, last_line}
use Rattle.input.proofs.Growth.{bad_no_cut}
use Rattle.console.proofs.Laws.{none_left}
use Rattle.console.specs.Turn.{Dialogue, begun, Exchanged, Turned, read_by, written_by, Turns, read_in, written_in, DialogueIsProgram}

module _ (g : Setup) where
  -- more bytes behind those at hand
  carry : (s s' : State) (xs xs' lines ys : List ℕ) → progress (store_program g) s xs ≡ behind lines (progress (store_program g) s' xs') →
      progress (store_program g) s (xs ++ ys) ≡ behind lines (progress (store_program g) s' (xs' ++ ys))
  carry s s' xs xs' lines ys e =
      let m = store_program g in
      let q = progress m s' xs' in
      sym (one_block m (store_steady g) s xs ys) ∙ rw e (sym (behind_behind lines q.output (progress m q.state (q.untaken ++ ys))))
      ∙ ap (behind lines) (one_block m (store_steady g) s' xs' ys)

  -- ---- one turn

  abbrev Said : Dialogue → Dialogue → List ℕ → List ℕ → Type 0
  Said d d' left gathered =
      ((store_program g).extent d'.state left ≡ Bad) × (d'.untaken ≡ left) × (d'.waits ≡ (d.waits ++ gathered) ++ bad_line) × (d'.stage ≡ SaidBad)

  abbrev Moved : Dialogue → Dialogue → List ℕ → List ℕ → Type 0
  Moved d d' left gathered = Exchanged ((store_program g).extent d'.state left ≡ Cut) (d.waits ++ gathered ≢ []) left (d.waits ++ gathered) d'.untaken d'.waits d'.stage

  module _ (d d' : Dialogue) (left gathered : List ℕ) where
    kept_by : (e : Moved d d' left gathered ⊎ Said d d' left gathered) → d'.untaken ≡ left ++ (elim e [ inl x ↦ x.read | inr b ↦ [] ])
    kept_by (inl x) = x.kept
    kept_by (inr b) = b.1 ∙ sym (append-nil left)

    printed_by : (e : Moved d d' left gathered ⊎ Said d d' left gathered) → d.waits ++ (gathered ++ last_line d'.stage) ≡ (elim e [ inl x ↦ x.written | inr b ↦ [] ]) ++ d'.waits
    printed_by (inl x) = sym (append_assoc d.waits gathered (last_line d'.stage)) ∙ x.printed
    printed_by (inr b) = rw b.3 (sym (append_assoc d.waits gathered bad_line)) ∙ sym b.2

  -- how a turn leaves the bytes at an end
  record Ends (d : Dialogue) : Type 0 where
    input_end : d.stage ≡ InputEnd → d.untaken ≡ []
    said_bad : d.stage ≡ SaidBad → NotWhole ((store_program g).extent d.state d.untaken) × (d.untaken ≢ [])

  ends_by : (d d' : Dialogue) (left gathered : List ℕ) → Moved d d' left gathered ⊎ Said d d' left gathered → Ends d'
  ends_by d d' left gathered (inl x) =
      record {
        input_end = λ e. let stands = rw e at x.stands in x.kept ∙ rw (stands.1, stands.2);
        said_bad = λ e.
            let stands = rw e at x.stands in
            let same : d'.untaken ≡ left = x.kept ∙ rw stands.0 (append-nil left) in
            (rw (same, stands.2) tt, rw same stands.1);
      }
  ends_by d d' left gathered (inr b) =
      record {
        input_end = λ e. let z : ◌≡◌ {A = ℕ} 0 1 = other e b.3 in absurd (omega arith);
        said_bad = λ e.
            (rw (b.1, b.0) tt, λ none. bad_no_cut (sym b.0 ∙ (store_steady g).none d'.state left (ap length (sym b.1 ∙ none))));
      }
    where
      other : d'.stage ≡ InputEnd → d'.stage ≡ SaidBad → ◌≡◌ {A = ℕ} 0 1
      other p q = cc

  -- ---- turns, one after the other

  -- the last line belongs to the last turn
  abbrev last : List Dialogue → Dialogue → List ℕ
  last [] d = []
  last (x ∷ xs) d = last_line d.stage

  record Carried (d : Dialogue) (ds : List Dialogue) (d' : Dialogue) (t : Turns g d ds d') : Type 0 where
    lines : List ℕ
    program : progress (store_program g) d.state (d.untaken ++ read_in g d ds d' t) ≡ behind lines (progress (store_program g) d'.state d'.untaken)
    printed : d.waits ++ (lines ++ last ds d') ≡ written_in g d ds d' t ++ d'.waits

  module _ (d x : Dialogue) (t : Turned g d x) where
    turn_program : (later : List ℕ) → progress (store_program g) d.state (d.untaken ++ (read_by t ++ later)) ≡ behind t.gathered (progress (store_program g) x.state (x.untaken ++ later))
    turn_program later =
        let kept = kept_by d x t.left t.gathered t.ends in
        carry d.state x.state d.untaken t.left t.gathered (read_by t ++ later) t.obeyed
        ∙ ap (λ (bytes : List ℕ). behind t.gathered (progress (store_program g) x.state bytes))
        (sym (append_assoc t.left (read_by t) later) ∙ ap (λ (bytes : List ℕ). bytes ++ later) (sym kept))

    turn_printed : d.waits ++ (t.gathered ++ last_line x.stage) ≡ written_by t ++ x.waits
    turn_printed = printed_by d x t.left t.gathered t.ends

    turn_silent : x.stage ≡ Going → d.waits ++ t.gathered ≡ written_by t ++ x.waits
    turn_silent going = ap (λ (l : List ℕ). d.waits ++ l) (sym (append-nil t.gathered) ∙ ap (λ (s : Stage). t.gathered ++ last_line s) (sym going)) ∙ turn_printed

  carried : (d : Dialogue) (ds : List Dialogue) (d' : Dialogue) (t : Turns g d ds d') → Carried d ds d' t
  carried d [] d' same =
      record {
        lines = [];
        program = rw (append-nil d.untaken) (ap (λ (x : Dialogue). progress (store_program g) x.state x.untaken) same);
        printed = append-nil d.waits ∙ ap (λ (x : Dialogue). x.waits) same;
      }
  carried d (x ∷ []) d' t =
      let one = turn_printed d x t.0 in
      record {
        lines = t.0.gathered;
        program =
            turn_program d x t.0 [] ∙ rw (append-nil x.untaken) (ap (λ (y : Dialogue). behind t.0.gathered (progress (store_program g) y.state y.untaken)) t.1);
        printed = rw (← t.1, append-nil (written_by t.0)) one;
      }
  carried d (x ∷ y ∷ ys) d' t =
      let rest = carried x (y ∷ ys) d' t.1 in
      let gathered = t.0.gathered in
      let written = written_by t.0 in
      let later = written_in g x (y ∷ ys) d' t.1 in
      let one = turn_silent d x t.0 t.1.0.going in
      record {
        lines = gathered ++ rest.lines;
        program =
            turn_program d x t.0 (read_in g x (y ∷ ys) d' t.1) ∙ ap (behind gathered) rest.program
            ∙ behind_behind gathered rest.lines (progress (store_program g) d'.state d'.untaken);
        printed =
            rw (append_assoc gathered rest.lines (last_line d'.stage), ← append_assoc d.waits gathered (rest.lines ++ last_line d'.stage), one, append_assoc written x.waits (rest.lines ++ last_line d'.stage), rest.printed)
            (sym (append_assoc written later d'.waits));
      }

  ended : (d : Dialogue) (ds : List Dialogue) (d' : Dialogue) → Turns g d ds d' → d.stage ≡ Going → (d'.stage ≡ Going → ⊥) → Ends d'
  ended d [] d' same going over = absurd (over (sym (ap (λ (x : Dialogue). x.stage) same) ∙ going))
  ended d (x ∷ []) d' t going over = rw (← t.1) (ends_by d x t.0.left t.0.gathered t.0.ends)
  ended d (x ∷ y ∷ ys) d' t going over = ended x (y ∷ ys) d' t.1 t.1.0.going over

-- what is left at an end is what the program's last line is about
last_line_is : (g : Setup) (d : Dialogue) → Ends g d → (d.stage ≡ InputEnd) ⊎ (d.stage ≡ SaidBad) →
    (progress (store_program g) d.state d.untaken).output ++ ending (progress (store_program g) d.state d.untaken).untaken ≡ last_line d.stage
last_line_is g d e end =
    let m = store_program g in
    ⊎_elim
    (λ (stage : d.stage ≡ InputEnd).
    let none = e.input_end stage in
    rw (stage, none, progress_paused m (store_steady g) d.state [] (rw ((store_steady g).none d.state [] refl) tt)))
    (λ (stage : d.stage ≡ SaidBad).
    let bad = e.said_bad stage in
    rw (stage, progress_paused m (store_steady g) d.state d.untaken bad.0, ne_eqb (length d.untaken) 0 (λ z. bad.1 (none_left d.untaken z))))
    end

not_going : (stage : Stage) → (stage ≡ InputEnd) ⊎ (stage ≡ SaidBad) → stage ≡ Going → ⊥
not_going stage end going =
    let on : is_going stage ≡ true = ap is_going going in
    true≢false (sym on ∙ ⊎_elim (λ (e : stage ≡ InputEnd). ap is_going e) (λ (e : stage ≡ SaidBad). ap is_going e) end)

pub dialogue_is_program : DialogueIsProgram
unfolding output_of
dialogue_is_program g parts ds d t end =
    let over = not_going d.stage end in
    let c = carried g (begun parts) ds d t in
    let q = progress (store_program g) d.state d.untaken in
    rw (c.program, append_assoc c.lines q.output (ending q.untaken), last_line_is g d (ended g (begun parts) ds d t refl over) end)
    (ap (λ (l : List ℕ). c.lines ++ l) (sym (last_is ds t over)) ∙ c.printed)
  where
    last_is : (es : List Dialogue) → Turns g (begun parts) es d → (d.stage ≡ Going → ⊥) → last g es d ≡ last_line d.stage
    last_is [] same over = absurd (over (ap (λ (x : Dialogue). x.stage) (sym same)))
    last_is (x ∷ xs) ts over = refl
