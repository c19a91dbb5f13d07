-- What is known of settings, and of cells, that pass the first check.
use Rattle.std.specs.Prelude.{◌≡◌, ℕ, ◌+◌, ◌*◌, ◌≤◌, Bool, true, ◌&&◌, ◌⊎◌, List, length, nat_le}
use Rattle.std.proofs.Math.Bool.{and-eq-true_iff}
use Rattle.std.proofs.Common.{inl, inr, ⊎_elim, mul-le-mul_left, mul-le-mul_right, arith, leb-true}
use Rattle.metering.specs.Range.{between, meters_in_range, categories_in_range, dates_in_range}
use Rattle.metering.specs.Calendar.{periods_per_day}
use Rattle.metering.proofs.Laws.{duration_is}
use Rattle.ledger.specs.Sizes.{header_length, settings_length, cells_length}
use Rattle.ledger.specs.Store.{duration_of, meters_of, categories_of, dates_of, periods_of, row_length, is_opened, settings_ready, cells_ready}

pub both : (a b : Bool) → (a && b) ≡ true → (a ≡ true) × (b ≡ true)
both a b h = (and-eq-true_iff a b).0 h

pub record Ready (s : List ℕ) : Type 0 where
  pub duration : (duration_of s ≡ 15) ⊎ (duration_of s ≡ 30)
  pub meters : (1 ≤ meters_of s) × (meters_of s ≤ 1024)
  pub categories : (1 ≤ categories_of s) × (categories_of s ≤ 64)
  pub dates : (1 ≤ dates_of s) × (dates_of s ≤ 800)
  pub long : header_length + 8 * categories_of s + dates_of s ≤ length s

in_range : (low high x : ℕ) → between low high x ≡ true → (low ≤ x) × (x ≤ high)
unfolding between
in_range low high x h = let p = both (nat_le low x) (nat_le x high) h in (leb-true low x p.0, leb-true x high p.1)

pub ready : (s : List ℕ) → settings_ready s ≡ true → Ready s
unfolding settings_ready is_opened meters_in_range categories_in_range dates_in_range settings_length
ready s h =
    let p = both _ _ h in
    let q = both _ _ p.0 in
    let r = both _ _ q.0 in
    let t = both _ _ r.0 in
    record {
      duration = duration_is (duration_of s) t.0;
      meters = in_range 1 1024 (meters_of s) t.1;
      categories = in_range 1 64 (categories_of s) r.1;
      dates = in_range 1 800 (dates_of s) q.1;
      long = leb-true _ _ p.1;
    }

-- P is 96 or 48
pub periods_are : (s : List ℕ) → Ready s → (periods_of s ≡ 96) ⊎ (periods_of s ≡ 48)
unfolding periods_of periods_per_day
periods_are s k = ⊎_elim (λ e. inl (rw e)) (λ e. inr (rw e)) k.duration

pub periods_bound : (s : List ℕ) → Ready s → (48 ≤ periods_of s) × (periods_of s ≤ 96)
periods_bound s k = ⊎_elim (λ e. omega arith) (λ e. omega arith) (periods_are s k)

-- the header is there to read
pub header_there : (s : List ℕ) → settings_ready s ≡ true → header_length ≤ length s
header_there s h = let k = ready s h in omega arith

-- a row has a category at least, and at most 64 of 96 periods
pub row_bounds : (s : List ℕ) → Ready s → (periods_of s ≤ row_length s) × (row_length s ≤ 6144)
unfolding row_length
row_bounds s k =
    let p = periods_bound s k in (
      omega (arith, mul-le-mul_right (periods_of s) k.categories.0),
      omega (arith, mul-le-mul_right (periods_of s) k.categories.1, mul-le-mul_left 64 p.1),
    )

-- there is a row for every date
pub cells_long : (s cells : List ℕ) → cells_ready s cells ≡ true → dates_of s * row_length s ≤ length cells
unfolding cells_ready cells_length row_length
cells_long s cells h = leb-true _ _ h
