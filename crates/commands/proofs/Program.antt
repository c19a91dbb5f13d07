-- Laws of the program: one command more, blocks of input, and the end by `bad`.
use Prim.Native.Nat.{ℕ, zero, suc, ◌≤◌}
use mathlib.Core.Path.{◌≡◌, refl, sym, ap, ◌∙◌}
use mathlib.Core.Logic.{◌≢◌}
use mathlib.Core.List.{List, [], ◌∷◌, ◌++◌, append-nil, append_assoc}
use native.Mathlib.Omega.{arith}
use lib.ListN.{length, take, drop, length-drop}
use lib.Seq.{take-append-le, drop-append-le}
use borrow.Author.Tests.{ne_eqb}
use Rattle.input.specs.declared.extent.Extent.{Extent}
use Rattle.input.specs.declared.extent.Extent.TheVariants.{Whole, Cut, Bad}
use Rattle.input.proofs.Laws.{extent_empty}
use Rattle.input.proofs.Growth.{Stable, whole_command, extent_stable, bad_no_cut}
use Rattle.commands.specs.Program.{Program, Progress, paused, behind, by_extent, obeyed, progress, fed, fed_all, joined, bad_line, output_of, Setup, store_program, AnyBlocks, BadEnds}

-- no byte is a cut command; a whole one has a byte and is there; more bytes behind leave it what it is
pub record Steady {S : Type 0} (m : Program S) : Type 0 where
  pub none : (s : S) (bytes : List ℕ) → length bytes ≡ 0 → m.extent s bytes ≡ Cut
  pub whole : (s : S) (bytes : List ℕ) (k : ℕ) → m.extent s bytes ≡ Whole k → (1 ≤ k) × (k ≤ length bytes)
  pub stable : (s : S) (xs ys : List ℕ) → Stable (m.extent s xs) (m.extent s (xs ++ ys))

-- no whole command
abbrev pub NotWhole : Extent → Type 0
NotWhole (Whole k) = ⊥
NotWhole Cut = Unit {0}
NotWhole Bad = Unit {0}

pub behind_behind : {S : Type 0} (xs ys : List ℕ) (p : Progress S) → behind xs (behind ys p) ≡ behind (xs ++ ys) p
behind_behind xs ys p = λ i. record { output = sym (append_assoc xs ys p.output) i; state = p.state; untaken = p.untaken }

module _ {S : Type 0} (m : Program S) (steady : Steady m) where
  -- ---- as many commands as there are bytes are all of them

  abbrev onward : ℕ → S → List ℕ → ℕ → Progress S
  onward n s bytes k = behind (m.line s (take k bytes)) (obeyed m n (m.after s (take k bytes)) (drop k bytes))

  no_bytes : (n : ℕ) (s : S) (bytes : List ℕ) → length bytes ≤ 0 → obeyed m (suc n) s bytes ≡ paused s bytes
  unfolding obeyed
  no_bytes n s bytes none = rw (steady.none s bytes (omega arith))

  enough : (n k : ℕ) (s : S) (bytes : List ℕ) → length bytes ≤ n → length bytes ≤ k → obeyed m n s bytes ≡ obeyed m k s bytes
  unfolding obeyed
  enough zero zero s bytes a b = refl
  enough zero (suc k) s bytes a b = sym (no_bytes k s bytes a)
  enough (suc n) zero s bytes a b = no_bytes n s bytes b
  enough (suc n) (suc k) s bytes a b = go (m.extent s bytes) refl (λ t rest. enough n k t rest)
    where
      go : (e : Extent) → m.extent s bytes ≡ e → ((t : S) (rest : List ℕ) → length rest ≤ n → length rest ≤ k → obeyed m n t rest ≡ obeyed m k t rest) →
          by_extent e (onward n s bytes) (paused s bytes) ≡ by_extent e (onward k s bytes) (paused s bytes)
      go (Whole j) e less =
          let w = steady.whole s bytes j e in
          ap (behind (m.line s (take j bytes)))
          (less (m.after s (take j bytes)) (drop j bytes) (rw (length-drop j bytes) (omega (arith, w))) (rw (length-drop j bytes) (omega (arith, w))))
      go Cut e less = refl
      go Bad e less = refl

  -- ---- the next command

  pub progress_whole : (s : S) (bytes : List ℕ) (k : ℕ) → m.extent s bytes ≡ Whole k →
      progress m s bytes ≡ behind (m.line s (take k bytes)) (progress m (m.after s (take k bytes)) (drop k bytes))
  unfolding progress obeyed
  progress_whole s bytes k e =
      enough (length bytes) (suc (length bytes)) s bytes (omega arith) (omega arith) ∙ one_more
      ∙ ap (behind (m.line s (take k bytes))) (enough (length bytes) (length (drop k bytes)) (m.after s (take k bytes)) (drop k bytes) (rw (length-drop k bytes) (omega arith)) (omega arith))
    where
      one_more : obeyed m (suc (length bytes)) s bytes ≡ onward (length bytes) s bytes k
      one_more = rw e

  pub progress_paused : (s : S) (bytes : List ℕ) → NotWhole (m.extent s bytes) → progress m s bytes ≡ paused s bytes
  unfolding progress obeyed
  progress_paused s bytes n = enough (length bytes) (suc (length bytes)) s bytes (omega arith) (omega arith) ∙ go (m.extent s bytes) refl n
    where
      go : (e : Extent) → m.extent s bytes ≡ e → NotWhole e → obeyed m (suc (length bytes)) s bytes ≡ paused s bytes
      go (Whole k) e n = absurd n
      go Cut e n = rw e
      go Bad e n = rw e

  -- ---- blocks of input

  abbrev BlockIn : ℕ → S → List ℕ → List ℕ → Type 0
  BlockIn n s xs ys =
      progress m s (xs ++ ys) ≡ behind (obeyed m n s xs).output (progress m (obeyed m n s xs).state ((obeyed m n s xs).untaken ++ ys))

  block_in : (n : ℕ) (s : S) (xs ys : List ℕ) → length xs ≤ n → BlockIn n s xs ys
  unfolding obeyed
  block_in zero s xs ys h = refl
  block_in (suc n) s xs ys h = go (m.extent s xs) refl (steady.stable s xs ys) (λ t rest. block_in n t rest ys)
    where
      go : (e : Extent) → m.extent s xs ≡ e → Stable e (m.extent s (xs ++ ys)) → ((t : S) (rest : List ℕ) → length rest ≤ n → BlockIn n t rest ys) →
          let p = by_extent e (onward n s xs) (paused s xs) in
          progress m s (xs ++ ys) ≡ behind p.output (progress m p.state (p.untaken ++ ys))
      go (Whole k) e same less =
          let w = steady.whole s xs k e in
          rw (progress_whole s (xs ++ ys) k same, take-append-le k xs ys w.1, drop-append-le k xs ys w.1, less (m.after s (take k xs)) (drop k xs) (rw (length-drop k xs) (omega (arith, w))))
          (behind_behind (m.line s (take k xs)) _ _)
      go Cut e same less = refl
      go Bad e same less = refl

  pub one_block : (s : S) (xs ys : List ℕ) → fed m (progress m s xs) ys ≡ progress m s (xs ++ ys)
  unfolding progress
  one_block s xs ys = sym (block_in (length xs) s xs ys (omega arith))

  all_blocks : (s : S) (xs : List ℕ) (blocks : List (List ℕ)) → fed_all m (progress m s xs) blocks ≡ progress m s (xs ++ joined blocks)
  all_blocks s xs [] = rw (append-nil xs)
  all_blocks s xs (b ∷ bs) = rw (one_block s xs b) (all_blocks s (xs ++ b) bs ∙ ap (progress m s) (append_assoc xs b (joined bs)))

  any_blocks_in : (s : S) (blocks : List (List ℕ)) → fed_all m (paused s []) blocks ≡ progress m s (joined blocks)
  unfolding progress obeyed
  any_blocks_in s blocks = all_blocks s [] blocks

  bad_ends_in : (s : S) (xs ys : List ℕ) → let p = progress m s xs in m.extent p.state p.untaken ≡ Bad → output_of m s (xs ++ ys) ≡ p.output ++ bad_line
  unfolding output_of
  bad_ends_in s xs ys bad =
      let p = progress m s xs in
      let later : m.extent p.state (p.untaken ++ ys) ≡ Bad = rw bad at (steady.stable p.state p.untaken ys) in
      let some : length (p.untaken ++ ys) ≢ 0 = λ e. bad_no_cut (sym later ∙ steady.none p.state (p.untaken ++ ys) e) in
      rw (← one_block s xs ys, progress_paused p.state (p.untaken ++ ys) (rw later tt), ne_eqb (length (p.untaken ++ ys)) 0 some, append-nil p.output)

pub store_steady : (g : Setup) → Steady (store_program g)
store_steady g =
    record {
      none = λ s bytes e. extent_empty bytes _ _ e;
      whole = λ s bytes k e. let w = whole_command bytes _ _ k e in (w.some, w.there);
      stable = λ s xs ys. extent_stable xs ys _ _;
    }

pub any_blocks : AnyBlocks
any_blocks g = any_blocks_in (store_program g) (store_steady g)

pub bad_ends : BadEnds
bad_ends g = bad_ends_in (store_program g) (store_steady g)
