-- The settings as an opening writes them: its numbers fit into two bytes each, and what is written side by side is one list.
use Prim.Native.Nat.{ℕ, ◌+◌, ◌*◌, ◌≤◌, ◌<◌}
use mathlib.Core.Path.{◌≡◌, refl, ◌∙◌}
use mathlib.Core.Bool.{true}
use mathlib.Core.List.{List, ◌++◌}
use mathlib.Core.Logic.{⊎_elim}
use native.Mathlib.Numerals.{add-one}
use native.Mathlib.Omega.{arith}
use lib.ListN.{length, get_or, length-append}
use lib.Seq.{sets, sets-eq}
use Rattle.ledger.specs.Sizes.{header_length, settings_length}
use Rattle.ledger.specs.Opening.{Opening, categories, dates}
use Rattle.ledger.specs.Store.{word_bytes, minute_bytes, header_bytes}
use Rattle.ledger.specs.Checks.{sizes_valid}
use Rattle.ledger.specs.Calls.{opened_settings}
use Rattle.ledger.proofs.Lists.{sets_append}
use Rattle.ledger.proofs.Windows.{minute_length}
use Rattle.ledger.proofs.Open.{sizes_valid_lem}

-- one minute more
pub minutes_more : (s minutes : List ℕ) (k : ℕ) → sets (sets s 8 (minute_bytes k minutes)) (8 + 2 * k) (word_bytes (get_or minutes k 0)) ≡ sets s 8 (minute_bytes (k + 1) minutes)
unfolding minute_bytes
minutes_more s minutes k = rw (add-one, ← (minute_length k minutes)) (sets_append s (minute_bytes k minutes) (word_bytes (get_or minutes k 0)) 8)

module _ (a : Opening) where
  pub words_fit : sizes_valid a ≡ true → (a.duration < 65536) × (a.meters < 65536) × (categories a < 65536) × (dates a < 65536)
  words_fit h =
      let v = sizes_valid_lem a h in
      (⊎_elim (λ e. omega arith) (λ e. omega arith) v.duration, omega arith, omega arith, omega arith)

  -- the numbers of the header, one behind the other
  pub header_written : (s : List ℕ) {d m c t w : List ℕ} → d ≡ sets s 0 (word_bytes a.duration) → m ≡ sets d 2 (word_bytes a.meters) → c ≡ sets m 4 (word_bytes (categories a))
      → t ≡ sets c 6 (word_bytes (dates a)) → w ≡ sets t 8 (minute_bytes 16 a.window_minutes) → w ≡ sets s 0 (header_bytes a)
  unfolding header_bytes word_bytes
  header_written s first second third fourth fifth = rw (fifth, fourth, third, second, first)

  header_long : length (header_bytes a) ≡ header_length
  unfolding header_bytes word_bytes minute_bytes
  header_long = refl

  -- and the records and day types behind them
  pub settings_written : (s : List ℕ) {header records types : List ℕ} → sizes_valid a ≡ true → settings_length (categories a) (dates a) ≤ length s
      → header ≡ sets s 0 (header_bytes a) → records ≡ sets header header_length a.category_bytes → types ≡ sets records (header_length + length a.category_bytes) a.day_types
      → types ≡ opened_settings a s
  unfolding settings_length opened_settings
  settings_written s valid long first second third =
      let h = header_bytes a in
      let b = a.category_bytes in
      let whole = (sizes_valid_lem a valid).whole in
      let i : 0 + length h ≡ header_length = omega (arith, header_long) in
      let n : 0 + length (h ++ b) ≡ header_length + length b = omega (arith, i, length-append h b) in
      let k : 0 + length (h ++ b ++ a.day_types) ≡ header_length + 8 * categories a + dates a = omega (arith, n, length-append (h ++ b) a.day_types) in
      rw (third, second, first, rw i at (sets_append s h b 0))
      (rw n at (sets_append s (h ++ b) a.day_types 0) ∙ rw k at (sets-eq (h ++ b ++ a.day_types) s 0 (rw k long)))
