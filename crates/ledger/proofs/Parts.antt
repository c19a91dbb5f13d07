-- Parts cut and put back: an agreement rests on the entries up to a part's least length, so it stands where they do.
use Rattle.std.proofs.Common.{◌≡◌, ℕ, ◌+◌, ◌*◌, ◌<◌, ◌≤◌, List, ◌++◌, length, get_or, take, drop, ap, ◌∙◌, arith, length-append, take-append-drop, length-take}
use mathlib.Core.Option.{Option}
use lib.Seq.{length_front}
use Rattle.ledger.specs.Method.{Picture}
use Rattle.ledger.specs.Sizes.{meters_length, readings_length, cells_length, days_length}
use Rattle.ledger.specs.Ledger.{Opening, categories, dates, periods, Meter, Lengths}
use Rattle.ledger.specs.Store.{day_row, sum_row, tot_row, off_row, day_index}
use Rattle.ledger.specs.Calls.{row_at}
use Rattle.ledger.specs.Engine.{Parts, cut, restored, cut_lengths, lengths_of}
use Rattle.ledger.proofs.Lists.{get_d_cut, get_d_back, block_below}
use Rattle.ledger.proofs.Days.{day_below}
use Rattle.ledger.proofs.Relation.{MeterAt, FreeAt, MetersAgree, HeldAt, NotHeldAt, ReadingsAgree, CellsAgree, DaysAgree}
use Rattle.ledger.proofs.Slots.{slots_kept}
use Rattle.ledger.proofs.Registrations.{meter_stands, free_stands, slots_alike}
use Rattle.ledger.proofs.Receive.{held_stands, not_held_stands, sets_alike}

-- ---- one part

-- an agreement that looks at the first L entries alone
pub record RestsOn (L : ℕ) (Agree : List ℕ → Type 0) : Type 0 where
  long : (xs : List ℕ) → Agree xs → L ≤ length xs
  alike : (xs ys : List ℕ) → Agree xs → ((i : ℕ) → i < L → get_or ys i 0 ≡ get_or xs i 0) → L ≤ length ys → Agree ys

module _ {L : ℕ} {Agree : List ℕ → Type 0} (rests : RestsOn L Agree) (n : ℕ) (xs : List ℕ) where
  pub cut_agrees : Agree xs → L ≤ length (take n xs) → Agree (take n xs)
  cut_agrees a h = rests.alike xs (take n xs) a (λ i l. get_d_cut n xs i (let e = length-take n xs in omega arith)) h

  pub back_agrees : (ys : List ℕ) → Agree ys → Agree (ys ++ drop n xs)
  back_agrees ys a =
      let h = rests.long ys a in
      rests.alike ys (ys ++ drop n xs) a (λ i l. get_d_back n xs ys i (omega arith)) (let e = length-append ys (drop n xs) in omega arith)

module _ (o : Opening) where
  pub meters_rest : (known : List Meter) → RestsOn (meters_length o.meters) (λ m. MetersAgree o m known)
  meters_rest known =
      record {
        long = λ m a. a.long;
        alike = λ m m' a same long.
            record {
              slots =
                  slots_kept o.meters (MeterAt o.meters m) (FreeAt o.meters m) (MeterAt o.meters m') (FreeAt o.meters m') 0 known a.slots
                  (λ x y l h. meter_stands o.meters m m' x y (slots_alike o.meters m m' same x h))
                  (λ x l h. free_stands o.meters m m' x (slots_alike o.meters m m' same x h));
              long = long;
            };
      }

  pub readings_rest : (known : List Meter) → RestsOn (readings_length o.meters (dates o) (periods o)) (λ r. ReadingsAgree o r known)
  readings_rest known =
      record {
        long = λ r a. a.long;
        alike = λ r r' a same long.
            record {
              slots =
                  slots_kept o.meters (HeldAt o r) (NotHeldAt o r) (HeldAt o r') (NotHeldAt o r') 0 known a.slots
                  (λ x y l h. held_stands o r r' x (sets_alike o r r' same x h) y)
                  (λ x l h. not_held_stands o r r' x (sets_alike o r r' same x h));
              long = long;
            };
      }

  pub cells_rest : (pictures : ℕ → Option Picture) → RestsOn (cells_length (categories o) (dates o) (periods o)) (λ c. CellsAgree o c pictures)
  unfolding row_at cells_length
  cells_rest pictures =
      record {
        long = λ c a. a.long;
        alike = λ c c' a same long.
            record {
              are = λ x k h l. same (x * (categories o * periods o) + k) (block_below (categories o * periods o) (dates o) x k h l) ∙ a.are x k h l;
              long = long;
            };
      }

  pub days_rest : (pictures : ℕ → Option Picture) → RestsOn (days_length (categories o) (dates o)) (λ d. DaysAgree o d pictures)
  days_rest pictures =
      record {
        long = λ d a. a.long;
        alike = λ d d' a same long.
            record {
              are = λ c x h l.
                  let stands : (r : ℕ) → r < 4 → get_or d' (day_index (dates o) c r x) 0 ≡ get_or d (day_index (dates o) c r x) 0 = λ r m. same _ (day_below (dates o) (categories o) c r x h m l) in (
                    stands day_row (omega arith) ∙ (a.are c x h l).0,
                    stands sum_row (omega arith) ∙ (a.are c x h l).1,
                    stands tot_row (omega arith) ∙ (a.are c x h l).2,
                    stands off_row (omega arith) ∙ (a.are c x h l).3,
                  );
              long = long;
            };
      }

-- ---- all parts

pub cut_lengths_lem : (n : Lengths) (p : Parts) → lengths_of (cut n p) ≡ cut_lengths n (lengths_of p)
unfolding cut_lengths
cut_lengths_lem n p =
    λ i.
    record {
      settings = length-take n.settings p.settings i;
      meters = length-take n.meters p.meters i;
      readings = length-take n.readings p.readings i;
      cells = length-take n.cells p.cells i;
      days = length-take n.days p.days i;
    }

-- parts left as they were lent are whole again
pub restored_cut : (n : Lengths) (p : Parts) → restored n p (cut n p) ≡ p
unfolding restored
restored_cut n p =
    λ i.
    record {
      settings = take-append-drop n.settings p.settings i;
      meters = take-append-drop n.meters p.meters i;
      readings = take-append-drop n.readings p.readings i;
      cells = take-append-drop n.cells p.cells i;
      days = take-append-drop n.days p.days i;
      draft = p.draft;
    }

pub restored_lengths : (n : Lengths) (p q : Parts) → lengths_of q ≡ lengths_of (cut n p) → lengths_of (restored n p q) ≡ lengths_of p
unfolding restored
restored_lengths n p q e =
    λ i.
    record {
      settings = length_front p.settings q.settings n.settings (ap (λ (k : Lengths). k.settings) e) i;
      meters = length_front p.meters q.meters n.meters (ap (λ (k : Lengths). k.meters) e) i;
      readings = length_front p.readings q.readings n.readings (ap (λ (k : Lengths). k.readings) e) i;
      cells = length_front p.cells q.cells n.cells (ap (λ (k : Lengths). k.cells) e) i;
      days = length_front p.days q.days n.days (ap (λ (k : Lengths). k.days) e) i;
    }
