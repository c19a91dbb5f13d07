-- What a cell's entry counts for in a day, by the lower half of the entry.
use Prim.Native.Nat.{ℕ, ◌/◌, ◌%◌}
use mathlib.Core.Path.{◌≡◌, sym, ap, ◌∙◌}
use mathlib.Core.Logic.{◌≢◌}
use native.Mathlib.Omega.{arith}
use borrow.Author.Tests.{ne_eqb}
use Rattle.ledger.specs.Method.{N, Cell, is_blank, origin_of}
use Rattle.ledger.specs.Store.{flag_of, flag_number_of, cell_of_entry}
use Rattle.ledger.proofs.Entries.{flag_none, origin_shaped, origin_blank, blank_is_N}

-- ---- origins

pub no_origin : (a : Cell) → is_blank a.flag ≡ 1 → 65535 ≡ origin_of a
no_origin a e = sym (origin_blank a (blank_is_N a.flag e))

origin_read : (e : ℕ) → flag_number_of e ≢ 0 → (cell_of_entry e).origin ≡ e / 4096 % 1024
unfolding cell_of_entry
origin_read e some = rw (ne_eqb (flag_number_of e) 0 some)

pub shape_origin : (e : ℕ) → is_blank (cell_of_entry e).flag ≢ 1 → e / 4096 % 1024 ≡ origin_of (cell_of_entry e)
shape_origin e other =
    let some : (cell_of_entry e).flag ≢ N = λ none. other (ap is_blank none) in
    sym (origin_shaped (cell_of_entry e) some ∙ origin_read e (λ z. some (flag_none e z)))

-- ---- the lower half tells flag and origin

module _ (e half : ℕ) (is : half ≡ e % 4294967296) where
  half_number : flag_number_of half ≡ flag_number_of e
  unfolding flag_number_of
  half_number = omega arith

  pub half_flag : (cell_of_entry half).flag ≡ (cell_of_entry e).flag
  unfolding cell_of_entry
  half_flag = ap flag_of half_number

  half_origin : (cell_of_entry half).origin ≡ (cell_of_entry e).origin
  unfolding cell_of_entry
  half_origin = let same : half / 4096 % 1024 ≡ e / 4096 % 1024 = omega arith in rw (half_number, same)

  pub half_counted : origin_of (cell_of_entry half) ≡ origin_of (cell_of_entry e)
  unfolding origin_of
  half_counted = rw (half_flag, half_origin)
