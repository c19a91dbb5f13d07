-- Laws of the walk over dates: a date's entries, its tests, and a list with room for some dates.
use Prim.Native.Nat.{ℕ, suc, ◌+◌, ◌≤◌, ◌<◌}
use mathlib.Core.Path.{◌≡◌, refl, sym, ◌∙◌}
use mathlib.Core.Bool.{Bool, true, false, cond, ◌&&◌}
use mathlib.Core.List.{List, [], ◌∷◌, ◌++◌, append_assoc, append-nil}
use native.Mathlib.Omega.{arith}
use native.Mathlib.Numerals.{add-one}
use native.Mathlib.Nat.{add-zero}
use lib.ListN.{length, take, drop, set, get_or, length-append, length-drop, length-take}
use lib.Seq.{take_all, take-append-le, drop-cons, set_at, set_out}
use lib.Dec.{leb}
use borrow.Table.Steps.{cases}
use borrow.Author.Tests.{eq-eqb, ne_eqb, leb-true, leb-false}
use Rattle.ledger.specs.Table.{chosen_below}
use Rattle.ledger.proofs.Chosen.{chosen_few}
use Rattle.ledger.specs.Band.{in_band}
use Rattle.ledger.specs.Store.{settings_ready, days_ready, categories_of, dates_of, day_type_of, tot_row, day_index, is_run_day, energy_of, totals_of}
use Rattle.ledger.specs.Calls.{entries_at, totals_for, overwritten}
use Rattle.store.specs.DayRows.{RowsFit}
use Rattle.store.proofs.DayLaws.{days_long, rows_fit}
use Rattle.band.specs.declared.dates.Sought.{Sought}
use Rattle.band.specs.Search.{is_sought, listed}

-- ---- a date's entries lie in the days

pub fits : (settings days : List ℕ) {category date dates : ℕ} → settings_ready settings ≡ true → days_ready settings days ≡ true → category < categories_of settings → date < dates_of settings → dates ≡ dates_of settings →
    RowsFit dates category date (length days)
fits settings days {category} {date} opened long a_category a_date is = rows_fit settings category date (length days) opened (days_long settings days long) a_category a_date is

-- ---- the tests of a date, in the code's order

module _ (settings days : List ℕ) (category : ℕ) (sought : Sought) (d : ℕ) where
  pub other_type : {t : ℕ} → t ≡ day_type_of settings d → (t ≡ sought.day_type → ⊥) → false ≡ is_sought settings days category sought d
  unfolding in_band
  other_type e other = rw (← e, ne_eqb _ _ other) (cases (is_run_day (dates_of settings) category days d) (λ q. rw q) (λ q. rw q))

  pub not_run_lem : {dates : ℕ} → dates ≡ dates_of settings → is_run_day dates category days d ≡ false → false ≡ is_sought settings days category sought d
  unfolding in_band
  not_run_lem is e = rw (rw is at e)

  module _ {t dates tot : ℕ} (type : t ≡ day_type_of settings d) (same : t ≡ sought.day_type) (is : dates ≡ dates_of settings)
      (ran : is_run_day dates category days d ≡ true) (kept : tot ≡ energy_of (get_or days (day_index dates category tot_row d) 0)) where
    run : is_run_day (dates_of settings) category days d ≡ true
    run = rw is at ran

    tot_is : tot ≡ (totals_for settings days d category).tot
    unfolding totals_for totals_of entries_at
    tot_is = kept ∙ rw is

    pub within : (leb sought.least tot && leb tot sought.most) ≡ is_sought settings days category sought d
    unfolding in_band
    within = rw (run, ← type, eq-eqb _ _ same, ← tot_is)

-- ---- a list that gets as many dates as it holds

listed_few : (dates lent : List ℕ) → length dates ≤ length lent → listed dates lent ≡ dates ++ drop (length dates) lent
unfolding listed overwritten
listed_few dates lent few = rw (take_all (length lent) dates few)

listed_full : (dates lent more : List ℕ) → length lent ≤ length dates → listed dates lent ≡ listed (dates ++ more) lent
unfolding listed overwritten
listed_full dates lent more full = rw (take-append-le (length lent) dates more full)

pub listed_length : (dates lent : List ℕ) → length (listed dates lent) ≡ length lent
unfolding listed overwritten
listed_length dates lent =
    let h : length (take (length lent) dates) ≤ length lent = rw (length-take (length lent) dates) (omega arith) in
    rw (length-append (take (length lent) dates), length-drop) (omega arith)

-- one more date
listed_more : (dates lent : List ℕ) (d : ℕ) → set (listed dates lent) (length dates) d ≡ listed (dates ++ (d ∷ [])) lent
listed_more dates lent d =
    cases (leb (length lent) (length dates))
    (λ q.
    let full : length lent ≤ length dates = leb-true _ _ q in
    set_out (listed dates lent) (length dates) d (rw (listed_length dates lent) full) ∙ listed_full dates lent (d ∷ []) full)
    (λ q.
    let room : length dates < length lent = leb-false _ _ q in
    let more : length (dates ++ (d ∷ [])) ≡ suc (length dates) = length-append dates (d ∷ []) ∙ add-one (length dates) in
    rw (listed_few dates lent (omega arith), listed_few (dates ++ (d ∷ [])) lent (omega arith), more, drop-cons lent (length dates) d room)
    (set_at dates (get_or lent (length dates) d) (drop (suc (length dates)) lent) d (length dates) refl
    ∙ sym (append_assoc dates (d ∷ []) (drop (suc (length dates)) lent))))

-- a turn of the walk: what is listed below date d, and what below the next

module _ (lent : List ℕ) (test : ℕ → Bool) where
  -- so far: those below date d are counted, and listed as far as there is room
  pub record Listing (d found : ℕ) (dates : List ℕ) : Type 0 where
    pub counted : found ≡ length (chosen_below d test)
    pub are : dates ≡ listed (chosen_below d test) lent

  pub none_yet : Listing 0 0 lent
  unfolding chosen_below
  none_yet = record { counted = refl; are = sym (listed_few [] lent (omega arith)) }

  pub one_more : (d found found' : ℕ) (dates dates' : List ℕ) (matches : Bool) → Listing d found dates → matches ≡ test d →
      dates' ≡ cond matches (set dates found d) dates → found' ≡ found + cond matches 1 0 → Listing (d + 1) found' dates'
  unfolding chosen_below
  one_more d found found' dates dates' matches so is put count =
      let next : chosen_below (d + 1) test ≡ chosen_below d test ++ cond matches (d ∷ []) [] = rw (add-one, is) in
      record {
        counted =
            count
            ∙ rw next
            (cases matches
            (λ q. rw (q, so.counted, length-append (chosen_below d test) (d ∷ [])))
            (λ q. rw (q, append-nil (chosen_below d test), add-zero found) so.counted));
        are =
            put
            ∙ rw next
            (cases matches
            (λ q. rw (q, so.are, so.counted) (listed_more (chosen_below d test) lent d))
            (λ q. rw (q, append-nil (chosen_below d test)) so.are));
      }

  pub listing_few : (d found : ℕ) (dates : List ℕ) → Listing d found dates → found ≤ d
  listing_few d found dates so = omega (arith, so.counted, chosen_few d test)
