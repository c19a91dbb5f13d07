-- What is promised of band searches.
use Rattle.std.proofs.Common.{◌≡◌, ℕ, ◌≤◌, Bool, true, cond, ◌&&◌, eqb, ltb, leb, List, [], length, sym, refl, ◌∙◌, true≢false, arith, length-take, take_all, ltb-true, lt-ltb, eq-eqb, eqb-true, le-leb, leb-true}
use mathlib.Core.Bool.{and-eq-true_iff}
use borrow.Table.Steps.{cases}
use Rattle.metering.specs.Range.{day_type_valid}
use Rattle.metering.proofs.Laws.{between_true}
use Rattle.ledger.specs.Table.{chosen_below}
use Rattle.ledger.specs.Net.{any_of}
use Rattle.ledger.specs.Band.{BandCall, in_band, band_dates, band_on}
use Rattle.ledger.specs.Ledger.{dates, day_type, Ledger, is_run, totals_at, band_at}
use Rattle.ledger.specs.Demands.{InBand, all_dates, BandExact, BandCounts}
use Rattle.ledger.proofs.Chosen.{chosen_few, chosen_has, chosen_upward}

-- ---- the dates of a band

module _ (l : Ledger) (a : BandCall) where
  abbrev T : ℕ
  T = dates l.opening

  abbrev tot : ℕ → ℕ
  tot d = (totals_at l d a.category).tot

  abbrev test : ℕ → Bool
  test d = in_band T (is_run l) (day_type l.opening) tot a d

  abbrev may : Bool
  may = leb a.least a.most && day_type_valid a.day_type

  abbrev found : List ℕ
  found = cond may (chosen_below T test) []

  all_few : length found ≤ T
  all_few = cases may (λ q. rw q (chosen_few T test)) (λ q. rw q (omega arith))

  -- with room for every date none is left out
  all_are : all_dates l a ≡ found
  unfolding band_at band_on band_dates in_band
  all_are = take_all T found all_few

  to_band : (d : ℕ) → any_of found (eqb d) ≡ true → InBand l a d
  unfolding in_band day_type_valid
  to_band d e =
      cases may
      (λ q.
      let p = (and-eq-true_iff (ltb d T) (test d)).0 (sym (chosen_has T test d) ∙ (rw q at e)) in
      let most = (and-eq-true_iff _ (leb (tot d) a.most)).0 p.1 in
      let least = (and-eq-true_iff _ (leb a.least (tot d))).0 most.0 in
      let type = (and-eq-true_iff (is_run l d) (eqb (day_type l.opening d) a.day_type)).0 least.0 in
      record {
        a_date = ltb-true d T p.0;
        is_run = type.0;
        of_type = eqb-true _ _ type.1;
        known_type = (between_true 1 16 a.day_type).0 ((and-eq-true_iff (leb a.least a.most) (day_type_valid a.day_type)).0 q).1;
        within = (leb-true _ _ least.1, leb-true _ _ most.1);
      })
      (λ q. absurd (true≢false (sym (unfold any_of in rw q at e))))

  from_band : (d : ℕ) → InBand l a d → any_of found (eqb d) ≡ true
  unfolding in_band day_type_valid
  from_band d b =
      rw (
        le-leb a.least a.most (omega (arith, b.within.0, b.within.1)),
        (between_true 1 16 a.day_type).1 b.known_type,
        chosen_has T test d,
        lt-ltb d T b.a_date,
        b.is_run,
        eq-eqb (day_type l.opening d) a.day_type b.of_type,
        le-leb a.least (tot d) b.within.0,
        le-leb (tot d) a.most b.within.1,
      )

pub band_exact : BandExact
band_exact l a =
    rw (all_are l a) (
      λ d. (to_band l a d, from_band l a d),
      cases (may l a) (λ q. rw q (chosen_upward (T l a) (test l a))) (λ q. rw q tt),
    )

pub band_counts : BandCounts
band_counts l a = rw (all_are l a) (unfold band_at band_on band_dates in_band in (refl, sym (length-take a.room (found l a)), refl))
