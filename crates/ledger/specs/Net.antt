-- The net shape of import and export (change request 2026-13): for each period the values of import cells less those of export cells.
-- A net is a signed number, an integer of `lib.IntN`; the sums on its two sides are natural numbers.
use Rattle.std.specs.Prelude.{ℕ, zero, suc, ◌+◌, ◌-◌, Bool, false, cond, ◌&&◌, ◌||◌, List, [], ◌∷◌, ◌++◌, ℤ, pos, ◌+ℤ◌, ◌-ℤ◌, ◌==◌, nat_le}
use Rattle.ledger.specs.Method.{Category, same_family, Flag, is_blank, Cell}
use Rattle.ledger.specs.Table.{tabulate, chosen_below}

-- ---- which categories are summed

abbrev pub active_import : ℕ
active_import = 1

abbrev pub active_export : ℕ
active_export = 2

-- the category alike in all but the quantity
abbrev pub with_quantity : ℕ → Category → Category
with_quantity quantity a =
    record {
      segment = a.segment;
      group = a.group;
      domestic = a.domestic;
      quantity = quantity;
      connection = a.connection;
      window = a.window;
      de_minimis = a.de_minimis;
    }

-- whether b stands on the side of a net that has this quantity: it is of the family that a has, or would have with that quantity, and
-- of a's group, unless all groups are pooled
unfoldable pub on_side : Bool → ℕ → Category → Category → Bool
on_side all_groups quantity a b = same_family (with_quantity quantity a) b && (all_groups || a.group == b.group)

-- the categories on a side, of the `categories` that there are
unfoldable pub side_of : (ℕ → Category) → ℕ → Bool → ℕ → ℕ → List ℕ
side_of category categories all_groups quantity c = chosen_below categories (λ b. on_side all_groups quantity (category c) (category b))

-- ---- sums

-- the sum of f over a list of categories
unfoldable pub sum_over : List ℕ → (ℕ → ℕ) → ℕ
sum_over [] f = 0
sum_over (c ∷ cs) f = f c + sum_over cs f

-- whether a test holds of one of a list
unfoldable pub any_of : List ℕ → (ℕ → Bool) → Bool
any_of [] test = false
any_of (c ∷ cs) test = test c || any_of cs test

-- the sum of signed numbers below a limit
unfoldable pub signed_sum : ℕ → (ℕ → ℤ) → ℤ
signed_sum zero f = pos 0
signed_sum (suc n) f = signed_sum n f +ℤ f n

abbrev pub is_n : Flag → Bool
is_n f = is_blank f == 1

-- ---- the net of two lists of categories

-- what a net read gives: net TOT and net TOT7, and for each period, the first one first, its net and its mark
pub record Net : Type 0 where
  pub tot : ℤ
  pub tot7 : ℤ
  pub periods : List ℤ
  pub marks : List ℕ

-- P, which dates are run, the cell of a date, category and period, and the categories on the two sides
module _ (periods : ℕ) (is_run : ℕ → Bool) (cell : ℕ → ℕ → ℕ → Cell) (imports exports : List ℕ) where
  unfoldable pub net_period : ℕ → ℕ → ℤ
  net_period d j = pos (sum_over imports (λ c. (cell d c j).value)) -ℤ pos (sum_over exports (λ c. (cell d c j).value))

  -- 1 exactly where a cell summed for the period is N
  unfoldable pub mark_of : ℕ → ℕ → ℕ
  mark_of d j = cond (any_of (imports ++ exports) (λ c. is_n (cell d c j).flag)) 1 0

  unfoldable pub net_tot : ℕ → ℤ
  net_tot d = signed_sum periods (λ k. net_period d (suc k))

  -- over the run dates among d and the 6 before it
  unfoldable pub net_tot7 : ℕ → ℤ
  net_tot7 d = signed_sum 7 (λ k. cond (nat_le k d && is_run (d - k)) (net_tot (d - k)) (pos 0))

  unfoldable pub net_on : ℕ → Net
  net_on d =
      record {
        tot = net_tot d;
        tot7 = net_tot7 d;
        periods = tabulate periods (λ k. net_period d (suc k));
        marks = tabulate periods (λ k. mark_of d (suc k));
      }
