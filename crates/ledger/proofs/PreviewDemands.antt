-- What is promised of previews and rows.
use Rattle.std.proofs.Common.{◌≡◌, ℕ, suc, ◌*◌, ◌≤◌, min, true, false, not, ◌||◌, eqb, ◌≢◌, ◌↔◌, List, [], ◌∷◌, ◌++◌, length, take, sym, refl, ap, ◌∙◌, true≢false, arith, length-take, ltb-false, le-ltb, eq-eqb, ne_eqb, eqb-true}
use mathlib.Core.Option.{some}
use borrow.Table.Steps.{cases}
use borrow.Author.Tests.{eqb-false, not-false}
use Rattle.ledger.specs.Method.{Cell, blank}
use Rattle.ledger.specs.Checks.{Verdict, run_check, read_check, totals_in_range, PreviewCall, RowCall, is_published, preview_check, row_check}
use Rattle.ledger.specs.Sizes.{draft_length}
use Rattle.ledger.specs.Ledger.{categories, dates, periods, Ledger, Call, register, receive, run, read_totals, read_cell, read_net, search_band, fill_hole, read_coverage, preview, read_row, Answer, moved, cell_is, row_is, left, Lengths, any_short, picture_of, cell_at, is_run, after_run, ledger_run_check, draft_short, ledger_preview_check, after_preview, ledger_row_check, row_shown, ledger_answer, ledger_after}
use Rattle.ledger.proofs.Ready.{cells_long}
use Rattle.ledger.specs.Store.{row_length}
use Rattle.ledger.specs.Calls.{draft_unready, preview_verdict, previewed, row_verdict, row_for, overwritten}
use Rattle.ledger.specs.Engine.{Parts, call_answer, with_draft, leaves, Item, cut, restored, parts_after, answers_from, store_answers}
use Rattle.ledger.specs.Demands.{HasPicture, DraftLong, PreviewExact, RowExact, PreviewIsRun, DraftIsRun, RowIsCells, reads_draft, but_draft_rows, PreviewAltersRowsOnly, LeavesRest, PreviewLeavesRest}
use Rattle.ledger.proofs.Choices.{check_passed, accepted_preview}
use Rattle.ledger.proofs.FirstFailed.{finds_row, finds_none, goes_by, is_refusal, answered}
use Rattle.ledger.proofs.Lists.{length_tabulate, tabulate_at}
use Rattle.ledger.proofs.Verdicts.{answer_none, left_none, left_some, left_of}
use Rattle.ledger.proofs.Walks.{previewed_is}
use Rattle.ledger.proofs.Drafts.{overwritten_long, overwritten_rest, drafted_is}
use Rattle.ledger.proofs.Parts.{restored_cut}
use Rattle.ledger.proofs.CallDemands.{any_iff, cells_iff, date_iff, below_iff, not_iff, ran_iff, cell_exact}
use Rattle.ledger.proofs.Demands.{at_same}

-- ---- which check fails first

draft_iff : (l : Ledger) (lent : ℕ) → (draft_short l lent ≡ false) ↔ DraftLong l lent
unfolding draft_short draft_length
draft_iff l lent =
    let n = categories l.opening * periods l.opening in (
      λ e. let h : n ≤ min lent l.draft.room = ltb-false (min lent l.draft.room) n e in (omega arith, omega arith),
      λ h. let a = h.0 in let b = h.1 in le-ltb (min lent l.draft.room) n (omega arith),
    )

pub preview_exact : PreviewExact
unfolding ledger_answer ledger_preview_check preview_check run_check
preview_exact l n a =
    goes_by (ledger_preview_check l n a) _ refl
    (finds_row refl (any_iff l.opening n)
    (finds_row refl (draft_iff l a.lent)
    (finds_row refl (date_iff (dates l.opening) a.date)
    finds_none)))

-- a row of the draft shows what there is
shown_iff : (l : Ledger) (a : RowCall) → ((not (is_published a) || is_run l a.date) ≡ true) ↔ (a.switch ≡ 0 → HasPicture l a.date)
shown_iff l a = (
  λ e published. (ran_iff l a.date).0 (rw (eq-eqb a.switch 0 published) at e),
  λ h.
      cases (is_published a)
      (λ q. rw (q, (ran_iff l a.date).1 (h (eqb-true a.switch 0 q))))
      (λ q. rw q),
)

pub row_exact : RowExact
unfolding ledger_answer ledger_row_check row_check read_check totals_in_range
row_exact l n a =
    goes_by (ledger_row_check l n a) _ refl
    (finds_row refl (cells_iff l.opening n)
    (finds_row refl (draft_iff l a.lent)
    (finds_row refl (date_iff (dates l.opening) a.date)
    (finds_row refl (not_iff _ (below_iff (categories l.opening) a.category))
    (finds_row refl (not_iff _ (shown_iff l a))
    finds_none)))))

-- ---- a preview and the run

same_number : (l : Ledger) (n : Lengths) (a : PreviewCall) → draft_short l a.lent ≡ false → ledger_preview_check l n a ≡ ledger_run_check l n a.date
unfolding ledger_preview_check ledger_run_check preview_check run_check
same_number l n a long = rw long

-- the run after a preview is the run before it
run_after : (l : Ledger) (n : Lengths) (a : PreviewCall) (d : ℕ) → ledger_answer (after_preview l a) n (run d) ≡ ledger_answer l n (run d)
unfolding ledger_answer ledger_run_check after_preview after_run cell_at
run_after l n a d = refl

run_left : (l : Ledger) (n : Lengths) (a : PreviewCall) (d : ℕ) → ledger_answer (ledger_after l n (preview a)) n (run d) ≡ ledger_answer l n (run d)
unfolding ledger_after left
run_left l n a d = cases (eqb (ledger_preview_check l n a).number 0) (λ q. rw q (run_after l n a d)) (λ q. rw q)

same_answers : (l : Ledger) (n : Lengths) (a : PreviewCall) → draft_short l a.lent ≡ false → ledger_answer l n (preview a) ≡ ledger_answer l n (run a.date)
unfolding ledger_answer
same_answers l n a long = rw (same_number l n a long)

pub preview_is_run : PreviewIsRun
preview_is_run l n a long =
    let alike = same_answers l n a ((draft_iff l a.lent).1 long) in
    (alike, run_left l n a a.date ∙ sym alike)

-- ---- the draft after it

module _ (l : Ledger) (m : Lengths) (a : PreviewCall) (category switch lent : ℕ) (drawn : switch ≢ 0) where
  abbrev of_draft : RowCall
  of_draft = record { date = a.date; category = category; switch = switch; lent = lent }

  abbrev of_cells : RowCall
  of_cells = record { date = a.date; category = category; switch = 0; lent = lent }

  same_checks : ledger_row_check (after_preview l a) m of_draft ≡ ledger_row_check (after_run l a.date) m of_cells
  unfolding ledger_row_check row_check draft_short after_preview after_run is_run
  same_checks = rw (ne_eqb switch 0 drawn, at_same a.date (some (picture_of a.date l.known)) l.pictures)

  same_rows : row_shown (after_preview l a) of_draft ≡ row_shown (after_run l a.date) of_cells
  unfolding row_shown after_preview after_run cell_at
  same_rows = rw (ne_eqb switch 0 drawn)

  rows_alike : ledger_answer (after_preview l a) m (read_row of_draft) ≡ ledger_answer (after_run l a.date) m (read_row of_cells)
  unfolding ledger_answer
  rows_alike = rw (same_checks, same_rows)

preview_taken : (l : Ledger) (n : Lengths) (a : PreviewCall) → (ledger_preview_check l n a).number ≡ 0 → ledger_after l n (preview a) ≡ after_preview l a
unfolding ledger_after
preview_taken l n a passed = left_none (ledger_preview_check l n a) l (after_preview l a) passed

-- a preview that is accepted says that the run would be
run_taken : (l : Ledger) (n : Lengths) (a : PreviewCall) → (ledger_preview_check l n a).number ≡ 0 → ledger_after l n (run a.date) ≡ after_run l a.date
unfolding ledger_after ledger_preview_check preview_check
run_taken l n a passed =
    let long = (check_passed (draft_short l a.lent) 17 _ (check_passed (any_short l.opening n) 0 _ passed).1).0 in
    left_none (ledger_run_check l n a.date) l (after_run l a.date) (ap (λ (v : Verdict). v.number) (sym (same_number l n a long)) ∙ passed)

pub draft_is_run : DraftIsRun
unfolding ledger_answer
draft_is_run l n m a moves category switch lent heard drawn =
    let passed = (answered (ledger_preview_check l n a) _ (moved moves) refl heard).0 in
    rw (preview_taken l n a passed, run_taken l n a passed) (rows_alike l m a category switch lent drawn)

-- ---- rows and cell reads

row_given : (l : Ledger) (n : Lengths) (a : RowCall) (cells : List Cell) → ledger_answer l n (read_row a) ≡ row_is cells → cells ≡ row_shown l a
unfolding ledger_answer
row_given l n a cells heard = let e : row_is (row_shown l a) ≡ row_is cells = (answered (ledger_row_check l n a) _ (row_is cells) refl heard).1 in cc

pub row_is_cells : RowIsCells
unfolding row_shown
row_is_cells l n a cells heard =
    let is = row_given l n a cells heard in
    let (long, (draft, (date, (range, (ran, t))))) = (row_exact l n a).0.0 (heard ∙ ap row_is is) in
    rw is (
      length_tabulate (periods l.opening) _,
      λ published k h.
          (cell_exact l n a.date a.category (suc k)).0.1 (long, (date, ((range, omega arith, h), (ran published, tt))))
          ∙ ap cell_is (sym (tabulate_at (periods l.opening) _ blank k h ∙ rw (eq-eqb a.switch 0 published))),
    )

-- ---- what a preview leaves

module _ (p : Parts) (a : PreviewCall) where
  abbrev checked : Verdict
  checked = preview_verdict p.settings p.meters p.readings p.cells p.days (take a.lent p.draft) a.date

  abbrev entries : List ℕ
  entries = previewed p.settings p.meters p.readings p.cells p.days a.date

  -- on any store: a date has as many entries as its row is long
  fits : checked.number ≡ 0 → (length entries ≡ row_length p.settings) × (row_length p.settings ≤ length (take a.lent p.draft))
  fits passed =
      let (ok, long) = accepted_preview p.settings p.meters p.readings p.cells p.days (take a.lent p.draft) a.date passed in
      (ap length (previewed_is p.settings p.meters p.readings p.cells p.days a.date ok.5 (cells_long p.settings p.cells ok.3)) ∙ length_tabulate _ _, long)

  accepted_leaves : checked.number ≡ 0 → LeavesRest p a
  unfolding leaves call_answer
  accepted_leaves passed =
      let (as_many, long) = fits passed in
      let lent_fits : length entries ≤ length (take a.lent p.draft) = rw as_many long in
      let whole_fits : length entries ≤ length p.draft = (let t = length-take a.lent p.draft in omega arith) in
      record {
        draft = overwritten entries p.draft;
        parts_stand = left_none checked p _ passed ∙ ap (λ (x : List ℕ). with_draft x p) (drafted_is a.lent entries p.draft lent_fits);
        refusal = λ number place heard. absurd (true≢false (ap is_refusal (sym heard ∙ answer_none checked _ passed)));
        as_long = overwritten_long 0 entries p.draft whole_fits;
        rest = λ i h. overwritten_rest 0 entries p.draft whole_fits i (rw as_many h);
      }

  refused_leaves : checked.number ≢ 0 → LeavesRest p a
  unfolding leaves
  refused_leaves failed =
      record {
        draft = p.draft;
        parts_stand = left_some checked p _ failed;
        refusal = λ number place heard. refl;
        as_long = refl;
        rest = λ i h. refl;
      }

pub preview_leaves_rest : PreviewLeavesRest
preview_leaves_rest p a =
    cases (eqb (checked p a).number 0) (λ q. accepted_leaves p a (eqb-true _ 0 q)) (λ q. refused_leaves p a (eqb-false _ 0 q))

stays_long : (v : Verdict) (p after : Parts) → length after.draft ≡ length p.draft → length (left v p after).draft ≡ length p.draft
unfolding left
stays_long v p after same = cases (eqb v.number 0) (λ q. rw q same) (λ q. rw q)

-- no call makes a draft longer or shorter
pub draft_long : (p : Parts) (c : Call) → length (leaves p c).draft ≡ length p.draft
unfolding leaves
draft_long p (register a) = stays_long _ p _ refl
draft_long p (receive a) = stays_long _ p _ refl
draft_long p (run d) = stays_long _ p _ refl
draft_long p (read_totals d c) = refl
draft_long p (read_cell d c j) = refl
draft_long p (read_net a) = refl
draft_long p (search_band a) = refl
draft_long p (fill_hole a) = refl
draft_long p (read_coverage d c) = refl
draft_long p (preview a) = let here = preview_leaves_rest p a in ap (λ (q : Parts). length q.draft) here.parts_stand ∙ here.as_long
draft_long p (read_row a) = refl

-- ---- what does not look into the draft

-- parts beside another draft of the same length
module _ (x : List ℕ) (p : Parts) (as_long : length x ≡ length p.draft) where
  lent_long : (n : ℕ) → length (take n x) ≡ length (take n p.draft)
  lent_long n = length-take n x ∙ rw as_long (sym (length-take n p.draft))

  checks_alike : (a : PreviewCall) → checked (with_draft x p) a ≡ checked p a
  unfolding preview_verdict draft_unready
  checks_alike a = rw (lent_long a.lent)

  answers_alike : (c : Call) → reads_draft c ≡ false → call_answer (with_draft x p) c ≡ call_answer p c
  unfolding call_answer row_verdict draft_unready row_for
  answers_alike (register a) other = refl
  answers_alike (receive a) other = refl
  answers_alike (run d) other = refl
  answers_alike (read_totals d c) other = refl
  answers_alike (read_cell d c j) other = refl
  answers_alike (read_net a) other = refl
  answers_alike (search_band a) other = refl
  answers_alike (fill_hole a) other = refl
  answers_alike (read_coverage d c) other = refl
  answers_alike (preview a) other = rw (checks_alike a)
  answers_alike (read_row a) other = rw (lent_long a.lent, not-false (is_published a) other)

  -- what a call leaves is alike but for the draft, whose length stays
  record LeavesAlike (c : Call) : Type 0 where
    draft : List ℕ
    same_length : length draft ≡ length (leaves p c).draft
    same_parts : leaves (with_draft x p) c ≡ with_draft draft (leaves p c)

  -- of a call that writes no draft
  standing : (c : Call) → leaves (with_draft x p) c ≡ with_draft x (leaves p c) → LeavesAlike c
  standing c same = record { draft = x; same_length = as_long ∙ sym (draft_long p c); same_parts = same }

  leaves_alike : (c : Call) → LeavesAlike c
  unfolding leaves
  leaves_alike (register a) = standing (register a) (sym (left_of (with_draft x) _ p _))
  leaves_alike (receive a) = standing (receive a) (sym (left_of (with_draft x) _ p _))
  leaves_alike (run d) = standing (run d) (sym (left_of (with_draft x) _ p _))
  leaves_alike (read_totals d c) = standing (read_totals d c) refl
  leaves_alike (read_cell d c j) = standing (read_cell d c j) refl
  leaves_alike (read_net a) = standing (read_net a) refl
  leaves_alike (search_band a) = standing (search_band a) refl
  leaves_alike (fill_hole a) = standing (fill_hole a) refl
  leaves_alike (read_coverage d c) = standing (read_coverage d c) refl
  leaves_alike (preview a) =
      let there = preview_leaves_rest (with_draft x p) a in
      record {
        draft = there.draft;
        same_length = there.as_long ∙ as_long ∙ sym (draft_long p (preview a));
        same_parts = there.parts_stand ∙ ap (with_draft there.draft) (sym (preview_leaves_rest p a).parts_stand);
      }
  leaves_alike (read_row a) = standing (read_row a) refl

-- so in a list that goes on from either
after_alike : (x : List ℕ) (p : Parts) (as_long : length x ≡ length p.draft) (i : Item) →
    parts_after (with_draft x p) i ≡ with_draft (leaves_alike x (cut i.lent p) as_long i.call).draft (parts_after p i)
unfolding parts_after restored
after_alike x p as_long i = ap (restored i.lent p) (leaves_alike x (cut i.lent p) as_long i.call).same_parts

still_long : (x : List ℕ) (p : Parts) (as_long : length x ≡ length p.draft) (i : Item) →
    length (leaves_alike x (cut i.lent p) as_long i.call).draft ≡ length (parts_after p i).draft
unfolding parts_after restored
still_long x p as_long i = (leaves_alike x (cut i.lent p) as_long i.call).same_length

later_alike : (items : List Item) (x : List ℕ) (p : Parts) → length x ≡ length p.draft →
    but_draft_rows items (store_answers (with_draft x p) items) ≡ but_draft_rows items (store_answers p items)
unfolding but_draft_rows store_answers answers_from
later_alike [] x p as_long = refl
later_alike (i ∷ is) x p as_long =
    let rest =
    ap (λ (q : Parts). but_draft_rows is (store_answers q is)) (after_alike x p as_long i)
    ∙ later_alike is (leaves_alike x (cut i.lent p) as_long i.call).draft (parts_after p i) (still_long x p as_long i) in
    cases (reads_draft i.call)
    (λ q. rw q rest)
    (λ q. rw (q, answers_alike x (cut i.lent p) as_long i.call q) (ap (λ (xs : List Answer). call_answer (cut i.lent p) i.call ∷ xs) rest))

abbrev after_list : (p : Parts) (before : List Item) → Parts
after_list p [] = p
after_list p (i ∷ is) = after_list (parts_after p i) is

answers_append : (p : Parts) (before later : List Item) → store_answers p (before ++ later) ≡ store_answers p before ++ store_answers (after_list p before) later
unfolding store_answers answers_from
answers_append p [] later = refl
answers_append p (i ∷ is) later = ap (λ (xs : List Answer). call_answer (cut i.lent p) i.call ∷ xs) (answers_append (parts_after p i) is later)

pub preview_alters_rows_only : PreviewAltersRowsOnly
preview_alters_rows_only p before n a later =
    let q = after_list p before in
    let i : Item = record { lent = n; call = preview a } in
    let lent = cut n q in
    let left_over = preview_leaves_rest lent a in
    record {
      heard = call_answer lent (preview a);
      after = store_answers (parts_after q i) later;
      without = store_answers q later;
      with_it = answers_append p before (i ∷ later) ∙ (unfold store_answers answers_from in refl);
      without_it = answers_append p before later;
      alike = rw (stands q n a) (later_alike later left_over.draft q left_over.as_long);
    }
  where
    stands : (q : Parts) (n : Lengths) (a : PreviewCall) → parts_after q (record { lent = n; call = preview a }) ≡ with_draft (preview_leaves_rest (cut n q) a).draft q
    stands q n a = (unfold parts_after in ap (restored n q) (preview_leaves_rest (cut n q) a).parts_stand ∙ (unfold restored in ap (with_draft (preview_leaves_rest (cut n q) a).draft) (restored_cut n q)))
