-- The command program prints what the plain ledger says, for every input.
use Prim.Native.Nat.{ℕ, zero, suc, ◌+◌, ◌*◌, ◌/◌, ◌≤◌, min}
use mathlib.Core.Path.{◌≡◌, refl, sym, ap, ◌∙◌, subst}
use mathlib.Core.Bool.{Bool, true, false, cond}
use mathlib.Core.List.{List, [], ◌∷◌, ◌++◌, append-nil}
use mathlib.Core.Option.{Option, none, some}
use native.Mathlib.Omega.{arith}
use native.Mathlib.Nat.{not-suc-le-zero}
use lib.Dec.{eqb}
use lib.ListN.{length, take, drop, replicate, length-replicate, get_or-replicate}
use lib.Seq.{take-length, drop-length}
use borrow.Table.Steps.{cases}
use borrow.Author.Tests.{lt-ltb, eqb-true, eqb-false, ne_eqb}
use Rattle.ledger.specs.Sizes.{header_length, settings_length}
use Rattle.ledger.specs.Checks.{Verdict, or_else, first_number, call_number, registration_check, reception_check, run_check, read_check, net_check, band_check, fill_check, preview_check, row_check}
use Rattle.ledger.specs.Ledger.{Ledger, start, Call, register, receive, run, read_totals, read_cell, read_net, search_band, fill_hole, read_coverage, preview, read_row, refused, answer, accepted, left, settings_short, meters_short, any_short, Lengths, ledger_answer, ledger_after, Opening}
use Rattle.ledger.specs.Store.{word, meters_of, settings_ready}
use Rattle.ledger.proofs.Ready.{ready, header_there}
use Rattle.ledger.specs.Calls.{meters_unready, run_unready, cells_unready, days_unready, opening_verdict, registration_verdict, reception_verdict, run_verdict, day_verdict, cell_verdict, net_verdict, band_verdict, fill_verdict, preview_verdict, row_verdict}
use Rattle.ledger.specs.Engine.{Parts, call_answer, leaves, opened_parts, after_opening, cut, restored, parts_after, cut_lengths, lengths_of, AreBytes, BodyOfBytes, draft_of}
use Rattle.ledger.proofs.Verdicts.{left_some}
use Rattle.ledger.proofs.Open.{opening_accepted}
use Rattle.ledger.proofs.Agreement.{Agrees, item_step, opened_agrees}
use Rattle.ledger.proofs.PreviewDemands.{draft_long}
use Rattle.input.specs.Operands.{reception_operands, body_of}
use Rattle.output.specs.Lines.{answer_line}
use Rattle.commands.specs.Commands.{State, code, opening_of, suffices_for, opening_verdict_on, opening_answer, opening_leaves, call_of, line_for, state_after}
use Rattle.commands.specs.Program.{Setup, store_program, first_state}
use Rattle.commands.specs.declared.capacity.Capacity.{Capacity}
use Rattle.conversation.specs.Conversation.{Plain, plain_opening, plain_answer, ledger_left, plain_line, plain_after, plain_program, first_plain, SameBytes, DialogueIsPlain}
use Rattle.console.proofs.Whole.{dialogue_is_program}
use Rattle.commands.proofs.Laws.{collects_category, collects_day_type, uses_up, asks}
use Rattle.ledger.proofs.Bytes.{bytes_append, bytes_take, bytes_drop}
use Rattle.conversation.proofs.Simulation.{Simulates, same_output}

-- ---- before the first accepted opening

module _ (p : Parts) (unready : settings_ready p.settings ≡ false) where
  -- a call on settings that are not ready answers 1
  unready_answer : (c : Call) → call_answer p c ≡ refused 1 0
  unfolding call_answer answer meters_unready run_unready cells_unready days_unready registration_verdict reception_verdict run_verdict day_verdict cell_verdict net_verdict band_verdict fill_verdict preview_verdict row_verdict registration_check reception_check run_check read_check net_check band_check fill_check preview_check row_check call_number first_number or_else
  unready_answer (register a) = rw unready
  unready_answer (receive a) = rw unready
  unready_answer (run d) = rw unready
  unready_answer (read_totals d c) = rw unready
  unready_answer (read_cell d c j) = rw unready
  unready_answer (read_net a) = rw unready
  unready_answer (search_band a) = rw unready
  unready_answer (fill_hole a) = rw unready
  unready_answer (read_coverage d c) = rw unready
  unready_answer (preview a) = rw unready
  unready_answer (read_row a) = rw unready

  -- and changes nothing
  unready_leaves : (c : Call) → leaves p c ≡ p
  unfolding leaves left meters_unready run_unready registration_verdict reception_verdict run_verdict preview_verdict registration_check reception_check run_check preview_check call_number first_number or_else
  unready_leaves (register a) = rw unready
  unready_leaves (receive a) = rw unready
  unready_leaves (run d) = rw unready
  unready_leaves (read_totals d c) = refl
  unready_leaves (read_cell d c j) = refl
  unready_leaves (read_net a) = refl
  unready_leaves (search_band a) = refl
  unready_leaves (fill_hole a) = refl
  unready_leaves (read_coverage d c) = refl
  unready_leaves (preview a) = rw unready
  unready_leaves (read_row a) = refl

-- ---- what the plain program keeps, and the parts

record Unopened (n : Lengths) (p : Parts) : Type 0 where
  unready : settings_ready p.settings ≡ false
  lengths : lengths_of p ≡ n

abbrev Holds : Lengths → Parts → Option Ledger → Type 0
Holds n p none = Unopened n p
Holds n p (some l) = Agrees n p l

holds_lengths : {n : Lengths} (p : Parts) (l : Option Ledger) → Holds n p l → lengths_of p ≡ n
holds_lengths p none h = h.lengths
holds_lengths p (some l) h = h.lengths

-- ---- parts lent whole

cut_whole : (p : Parts) → cut (lengths_of p) p ≡ p
cut_whole p =
    λ i.
    record {
      settings = take-length p.settings i;
      meters = take-length p.meters i;
      readings = take-length p.readings i;
      cells = take-length p.cells i;
      days = take-length p.days i;
      draft = p.draft;
    }

put_back : (xs ys : List ℕ) → xs ++ drop (length ys) ys ≡ xs
put_back xs ys = rw (drop-length ys) (append-nil xs)

restored_whole : (p q : Parts) → restored (lengths_of p) p q ≡ q
unfolding restored
restored_whole p q =
    λ i.
    record {
      settings = put_back q.settings p.settings i;
      meters = put_back q.meters p.meters i;
      readings = put_back q.readings p.readings i;
      cells = put_back q.cells p.cells i;
      days = put_back q.days p.days i;
      draft = q.draft;
    }

min_self : (n : ℕ) → min n n ≡ n
min_self n = omega arith

lengths_whole : (n : Lengths) → cut_lengths n n ≡ n
unfolding cut_lengths
lengths_whole n =
    λ i.
    record {
      settings = min_self n.settings i;
      meters = min_self n.meters i;
      readings = min_self n.readings i;
      cells = min_self n.cells i;
      days = min_self n.days i;
    }

whole_step : (n : Lengths) (p : Parts) (l : Ledger) (c : Call) → Agrees n p l → BodyOfBytes c →
    (call_answer p c ≡ ledger_answer l n c) × Agrees n (leaves p c) (ledger_after l n c)
unfolding parts_after
whole_step n p l c a b =
    let s = item_step n p l (record { lent = n; call = c }) a b in
    let uncut : cut n p ≡ p = rw (← a.lengths) (cut_whole p) in
    let back : restored n p (leaves p c) ≡ leaves p c = rw (← a.lengths) (restored_whole p (leaves p c)) in
    (rw (uncut, lengths_whole n) at s.0, rw (uncut, back, lengths_whole n) at s.1)

holds_step : (n : Lengths) (p : Parts) (l : Option Ledger) (c : Call) → Holds n p l → BodyOfBytes c →
    (call_answer p c ≡ plain_answer n l c) × Holds n (leaves p c) (ledger_left n l c)
unfolding plain_answer ledger_left
holds_step n p none c h b = (unready_answer p h.unready c, rw (unready_leaves p h.unready c) h)
holds_step n p (some l) c h b = whole_step n p l c h b

no_entries_lem : (xs : List ℕ) → length xs ≡ 0 → xs ≡ []
no_entries_lem [] e = refl
no_entries_lem (x ∷ xs) e = absurd (let none : 1 ≤ 0 = omega (arith, e) in not-suc-le-zero none)

-- ---- what a reception is given is made of bytes

body_bytes : (n : ℕ) (b : List ℕ) → AreBytes b → AreBytes (body_of n b)
unfolding body_of
body_bytes zero b h = λ i. omega arith
body_bytes (suc n) b h =
    bytes_append (body_of n b) (take 7 (drop (17 + 8 * n) b)) (body_bytes n b h)
    (bytes_take 7 (drop (17 + 8 * n) b) (bytes_drop (17 + 8 * n) b h))

call_bytes : (b : List ℕ) → AreBytes b → BodyOfBytes (call_of b)
unfolding call_of
call_bytes b h =
    cases (eqb (code b) 19)
    (λ t. rw t tt)
    (λ f. rw f
    (cases (eqb (code b) 20)
    (λ t. rw t (body_bytes (reception_operands b).records b h))
    (λ g. rw g
    (cases (eqb (code b) 22)
    (λ t. rw t tt)
    (λ k. rw k
    (cases (eqb (code b) 23)
    (λ t. rw t tt)
    (λ q. rw q tt)))))))

-- ---- openings

-- empty parts are short

none_short : (a : Opening) → any_short a (record { settings = 0; meters = 0; readings = 0; cells = 0; days = 0 }) ≡ true
unfolding any_short meters_short settings_short settings_length
none_short a = rw (lt-ltb 0 (header_length + 8 * (length a.category_bytes / 8) + length a.day_types) (omega arith))

none_refused : (a : Opening) → (opening_verdict [] [] [] [] [] a).number ≡ 0 → ⊥
unfolding settings_length
none_refused a e = let long = (opening_accepted [] [] [] [] [] a e).settings_long in let no : 1 ≤ 0 = omega (arith, long) in not-suc-le-zero no

-- the verdict on the parts lent is the plain program's
same_verdict : (capacity : Capacity) (p : Parts) (a : Opening) → opening_verdict_on (suffices_for capacity a) p a ≡ plain_opening capacity (lengths_of p) a
unfolding opening_verdict plain_opening
same_verdict capacity p a = cases (suffices_for capacity a) (λ t. rw t) (λ f. rw (f, none_short a))

-- an opening leaves the parts by that verdict
left_by_verdict : (suffices : Bool) (p : Parts) (a : Opening) → cond suffices (after_opening p a) p ≡ left (opening_verdict_on suffices p a) p (opened_parts p a)
unfolding after_opening
left_by_verdict true p a = refl
left_by_verdict false p a = sym (left_some (opening_verdict_on false p a) p (opened_parts p a) (none_refused a))

-- an accepted one leaves what agrees with the ledger's start
accepted_agrees : (suffices : Bool) (p : Parts) (a : Opening) → p.draft ≡ [] → (opening_verdict_on suffices p a).number ≡ 0 → Agrees (lengths_of p) (opened_parts p a) (start a (draft_of a []))
accepted_agrees true p a alone passes = subst (λ (x : List ℕ). Agrees (lengths_of p) (opened_parts p a) (start a (draft_of a x))) alone (opened_agrees p a passes)
accepted_agrees false p a alone passes = absurd (none_refused a passes)

-- what holds before, and after an accepted one, holds of what is left
left_related : {A B : Type 0} (R : A → B → Type 0) (v : Verdict) {a a' : A} {b b' : B} → R a b → (v.number ≡ 0 → R a' b') → R (left v a a') (left v b b')
unfolding left
left_related R v kept taken = cases (eqb v.number 0) (λ t. rw t (taken (eqb-true _ _ t))) (λ t. rw t kept)

-- ---- every command

abbrev plain_of : State → Option Ledger → Plain
plain_of s l = record { category_bytes = s.category_bytes; day_types = s.day_types; ledger = l }

record Alike (n : Lengths) (s : State) (x : Plain) : Type 0 where
  collected : x ≡ plain_of s x.ledger
  stored : Holds n s.parts x.ledger
  -- no command makes a draft
  alone : s.parts.draft ≡ []

module _ (capacity : Capacity) (n : Lengths) (s : State) (l : Option Ledger) (stored : Holds n s.parts l) (alone : s.parts.draft ≡ []) (b : List ℕ) where
  -- the command prints alike and leaves what is alike
  abbrev Step : Type 0
  Step = (line_for capacity s b ≡ plain_line capacity n (plain_of s l) b) × Alike n (state_after capacity s b) (plain_after capacity n (plain_of s l) b)

  stepped : (s' : State) (l' : Option Ledger) → s' ≡ state_after capacity s b → plain_after capacity n (plain_of s l) b ≡ plain_of s' l' → Holds n s'.parts l' → s'.parts.draft ≡ [] → line_for capacity s b ≡ plain_line capacity n (plain_of s l) b → Step
  stepped s' l' p q a d line = (line, rw (← p, q) (record { collected = refl; stored = a; alone = d }))

  category_step : code b ≡ 17 → Step
  unfolding line_for plain_line plain_after
  category_step e = stepped _ l (collects_category capacity s b _ e refl) (rw e) stored alone (rw e)

  day_type_step : code b ≡ 18 → Step
  unfolding line_for plain_line plain_after
  day_type_step e = stepped _ l (collects_day_type capacity s b _ e refl) (rw e) stored alone (rw e)

  abbrev asked : Opening
  asked = opening_of b s.category_bytes s.day_types

  lengths_are : lengths_of s.parts ≡ n
  lengths_are = holds_lengths s.parts l stored

  verdict_is : opening_verdict_on (suffices_for capacity asked) s.parts asked ≡ plain_opening capacity n asked
  verdict_is = rw (← lengths_are) (same_verdict capacity s.parts asked)

  abbrev opened : Option Ledger
  opened = left (plain_opening capacity n asked) l (some (start asked (draft_of asked [])))

  opening_leaves_lem : Holds n (opening_leaves capacity s.parts asked) opened
  unfolding opening_leaves
  opening_leaves_lem =
      let suffices = suffices_for capacity asked in
      rw (left_by_verdict suffices s.parts asked, ← verdict_is)
      (left_related (Holds n) _ stored (λ passes. rw (← lengths_are) (accepted_agrees suffices s.parts asked alone passes)))

  opening_alone : (opening_leaves capacity s.parts asked).draft ≡ []
  unfolding opening_leaves opened_parts
  opening_alone =
      let suffices = suffices_for capacity asked in
      rw (left_by_verdict suffices s.parts asked) (left_related {A = Parts} {B = Unit {0}} (λ p x. p.draft ≡ []) (opening_verdict_on suffices s.parts asked) {b = tt} {b' = tt} alone (λ passes. alone))

  opening_step : code b ≡ 16 → Step
  unfolding line_for plain_line plain_after opening_answer
  opening_step e = stepped _ opened (uses_up capacity s b _ e refl) (rw e) opening_leaves_lem opening_alone (rw e (ap (λ (v : Verdict). answer_line 16 (answer v accepted)) verdict_is))

  call_step : (code b ≡ 16 → ⊥) → (code b ≡ 17 → ⊥) → (code b ≡ 18 → ⊥) → AreBytes b → Step
  unfolding line_for plain_line plain_after
  call_step x y z h =
      let done = holds_step n s.parts l (call_of b) stored (call_bytes b h) in
      stepped _ (ledger_left n l (call_of b)) (asks capacity s b _ x y z refl) (simp (ne_eqb _ _ x, ne_eqb _ _ y, ne_eqb _ _ z)) done.1 (no_entries_lem _ (draft_long s.parts (call_of b) ∙ ap length alone))
      (simp (ne_eqb _ _ x, ne_eqb _ _ y, ne_eqb _ _ z) (ap (answer_line (code b)) done.0))

  step : AreBytes b → Step
  step h =
      cases (eqb (code b) 17)
      (λ t. category_step (eqb-true _ _ t))
      (λ f.
      cases (eqb (code b) 18)
      (λ t. day_type_step (eqb-true _ _ t))
      (λ g.
      cases (eqb (code b) 16)
      (λ t. opening_step (eqb-true _ _ t))
      (λ k. call_step (eqb-false _ _ k) (eqb-false _ _ f) (eqb-false _ _ g) h)))

command_step : (capacity : Capacity) (n : Lengths) (s : State) (x : Plain) (b : List ℕ) → Alike n s x → AreBytes b → (line_for capacity s b ≡ plain_line capacity n x b) × Alike n (state_after capacity s b) (plain_after capacity n x b)
command_step capacity n s x b a h =
    let done = step capacity n s x.ledger a.stored a.alone b h in
    rw (← a.collected) at done

-- ---- every input

-- settings of zeros are not ready: they keep no meters
zeros_unready : (n : ℕ) → settings_ready (replicate n 0) ≡ false
unfolding meters_of word
zeros_unready n =
    cases (settings_ready (replicate n 0))
    (λ t.
    let long : header_length ≤ n = rw length-replicate at (header_there (replicate n 0) t) in
    absurd (omega (arith, (ready (replicate n 0) t).meters.0, get_or-replicate {A = ℕ} n 2 0 0 (omega arith), get_or-replicate {A = ℕ} n 3 0 0 (omega arith))))
    (λ f. f)

first_alike : (n : Lengths) → Alike n (first_state n) first_plain
first_alike n = record { collected = refl; stored = record { unready = zeros_unready n.settings; lengths = simp length-replicate }; alone = refl }

simulates : (g : Setup) (n : Lengths) → Simulates (store_program g) (plain_program g n) (Alike n)
simulates g n = record { extents = λ s x bytes a. rw a.collected; steps = command_step g.capacity n }

-- Demand 3, of the program
pub same_bytes : SameBytes
same_bytes g n input bytes =
    same_output (store_program g) (plain_program g n) (Alike n) (simulates g n) (first_state n) first_plain input (first_alike n) bytes

pub dialogue_is_plain : DialogueIsPlain
dialogue_is_plain g n ds d t end bytes = sym (same_bytes g n _ bytes) ∙ dialogue_is_program g (first_state n).parts ds d t end
