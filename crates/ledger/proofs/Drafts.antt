-- The draft: what a preview leaves of it, and rows read off it and off the cells.
use Rattle.std.proofs.Common.{◌≡◌, ℕ, suc, ◌+◌, ◌-◌, ◌*◌, ◌<◌, ◌≤◌, min, List, ◌++◌, length, get_or, take, drop, sym, refl, ap, ◌∙◌, append_assoc, arith, length-append, length-drop, take-append-drop, length-take, get_or-drop, get_or-append-add}
use lib.ListN.{get_or-append}
use lib.Seq.{drop-append-le}
use Rattle.ledger.specs.Method.{Cell}
use Rattle.ledger.specs.Table.{tabulate}
use Rattle.ledger.specs.Sizes.{draft_length}
use Rattle.ledger.specs.Ledger.{Opening, categories, periods, Draft, Ledger, draft_short}
use Rattle.ledger.specs.Store.{periods_of, row_length, cell_of_entry}
use Rattle.ledger.specs.Calls.{stretch, draft_unready, overwritten}
use Rattle.ledger.specs.Engine.{cells_of, drafted}
use Rattle.ledger.proofs.Lists.{stretch_is, map_tabulate, tabulate_ext, block_below}
use Rattle.ledger.proofs.Relation.{SettingsAgree, DraftAgree}

-- 18 is the same of the draft lent and of the ledger's
pub draft_short_lem : (l : Ledger) (s draft : List ℕ) → SettingsAgree l.opening s → DraftAgree l.opening draft l.draft → (n : ℕ) →
    draft_unready s (take n draft) ≡ draft_short l n
unfolding draft_unready draft_short draft_length row_length periods_of
draft_short_lem l s draft agree drafts n = rw (length-take n draft, drafts.as_long, agree.categories_are, agree.duration)

-- ---- a draft with a date's entries at its front

module _ {A : Type 0} (d : A) (results lent : List A) (fits : length results ≤ length lent) where
  pub overwritten_long : length (overwritten results lent) ≡ length lent
  unfolding overwritten
  overwritten_long = length-append results (drop (length results) lent) ∙ rw (length-drop (length results) lent) (omega arith)

  overwritten_front : (i : ℕ) → i < length results → get_or (overwritten results lent) i d ≡ get_or results i d
  unfolding overwritten
  overwritten_front i l = get_or-append results (drop (length results) lent) d i l

  pub overwritten_rest : (i : ℕ) → length results ≤ i → get_or (overwritten results lent) i d ≡ get_or lent i d
  unfolding overwritten
  overwritten_rest i h =
      let at : length results + (i - length results) ≡ i = omega arith in
      rw at at (get_or-append-add results (drop (length results) lent) (i - length results) d ∙ get_or-drop (length results) lent (i - length results) d)

-- where as many entries are lent, those cut off are as good as lent
pub drafted_is : (n : ℕ) (entries draft : List ℕ) → length entries ≤ length (take n draft) → drafted n entries draft ≡ overwritten entries draft
unfolding overwritten
drafted_is n entries draft fits =
    append_assoc entries (drop (length entries) (take n draft)) (drop n draft)
    ∙ ap (λ (xs : List ℕ). entries ++ xs) (sym (drop-append-le (length entries) (take n draft) (drop n draft) fits) ∙ ap (drop (length entries)) (take-append-drop n draft))

-- a draft that shows a date: its entries are that date's cells
pub draft_taken : (o : Opening) (n : ℕ) (entries draft : List ℕ) (d : Draft) (shown : ℕ → ℕ → Cell) → DraftAgree o draft d →
    length entries ≡ categories o * periods o → categories o * periods o ≤ min n d.room →
    ((c k : ℕ) → c < categories o → k < periods o → cell_of_entry (get_or entries (c * periods o + k) 0) ≡ shown c (suc k)) →
    DraftAgree o (drafted n entries draft) (record { room = d.room; shown = shown })
draft_taken o n entries draft d shown agree as_many long are =
    let fits : length entries ≤ length (take n draft) = rw (as_many, length-take n draft, agree.as_long) long in
    let whole : length entries ≤ length draft = (let t = length-take n draft in omega arith) in
    rw (drafted_is n entries draft fits)
    (record {
      as_long = overwritten_long 0 entries draft whole ∙ agree.as_long;
      shows =
          λ c k hc hk.
          rw (overwritten_front 0 entries draft whole (c * periods o + k) (rw as_many (block_below (periods o) (categories o) c k hc hk))) (are c k hc hk);
    })

-- ---- a row read as cells

pub cells_of_lem : (n first : ℕ) (xs : List ℕ) (f : ℕ → Cell) → first + n ≤ length xs → ((k : ℕ) → k < n → cell_of_entry (get_or xs (first + k) 0) ≡ f k) →
    cells_of (stretch n first xs) ≡ tabulate n f
unfolding cells_of
cells_of_lem n first xs f fits same =
    rw (stretch_is n first xs (λ k. get_or xs (first + k) 0) fits (λ k l. refl)) (sym (map_tabulate n cell_of_entry _) ∙ tabulate_ext n _ f same)
