-- Two programs that are alike command by command print the same bytes.
use Prim.Native.Nat.{ℕ, zero, suc}
use mathlib.Core.Path.{◌≡◌, refl, ap₂}
use mathlib.Core.List.{List, ◌++◌}
use lib.ListN.{length, take, drop}
use Rattle.ledger.specs.Engine.{AreBytes}
use Rattle.ledger.proofs.Bytes.{bytes_take, bytes_drop}
use Rattle.input.specs.declared.extent.Extent.{Extent}
use Rattle.input.specs.declared.extent.Extent.TheVariants.{Whole, Cut, Bad}
use Rattle.commands.specs.Program.{Program, Progress, paused, behind, by_extent, obeyed, progress, ending, output_of}

module _ {S T : Type 0} (m : Program S) (k : Program T) (R : S → T → Type 0) where
  -- states that are related find the same command next, print the same line for it, and stay related
  pub record Simulates : Type 0 where
    pub extents : (s : S) (t : T) (bytes : List ℕ) → R s t → m.extent s bytes ≡ k.extent t bytes
    pub steps : (s : S) (t : T) (command : List ℕ) → R s t → AreBytes command →
        (m.line s command ≡ k.line t command) × R (m.after s command) (k.after t command)

  -- the same lines printed, the same bytes not taken
  abbrev Level : Progress S → Progress T → Type 0
  Level p q = (p.output ≡ q.output) × (p.untaken ≡ q.untaken)

  module _ (simulates : Simulates) where
    level : (n : ℕ) (s : S) (t : T) (bytes : List ℕ) → R s t → AreBytes bytes → Level (obeyed m n s bytes) (obeyed k n t bytes)
    unfolding obeyed
    level zero s t bytes r b = (refl, refl)
    level (suc n) s t bytes r b =
        rw (simulates.extents s t bytes r) (go (k.extent t bytes) (λ s' t' rest. level n s' t' rest))
      where
        go : (e : Extent) → ((s' : S) (t' : T) (rest : List ℕ) → R s' t' → AreBytes rest → Level (obeyed m n s' rest) (obeyed k n t' rest)) →
            Level
            (by_extent e (λ j. behind (m.line s (take j bytes)) (obeyed m n (m.after s (take j bytes)) (drop j bytes))) (paused s bytes))
            (by_extent e (λ j. behind (k.line t (take j bytes)) (obeyed k n (k.after t (take j bytes)) (drop j bytes))) (paused t bytes))
        go (Whole j) further =
            let one = simulates.steps s t (take j bytes) r (bytes_take j bytes b) in
            let rest = further _ _ (drop j bytes) one.1 (bytes_drop j bytes b) in
            (ap₂ ◌++◌ one.0 rest.0, rest.1)
        go Cut further = (refl, refl)
        go Bad further = (refl, refl)

    pub same_output : (s : S) (t : T) (input : List ℕ) → R s t → AreBytes input → output_of m s input ≡ output_of k t input
    unfolding output_of progress
    same_output s t input r b = let p = level (length input) s t input r b in ap₂ (λ text rest. text ++ ending rest) p.0 p.1
