-- What the code's answer says. Assumes nothing.
--
--   naming_refused, naming_sample             23 or 24; else the sample named
use Rattle.std.specs.Prelude.{Err, Ok}
use Prim.Native.Nat.{ℕ, suc, ◌<◌}
use mathlib.Core.Path.{◌≡◌, ◌∙◌}
use native.Mathlib.Omega.{arith}
use lib.Dec.{eqb-suc-zero}
use Rattle.words.proofs.Tests.{by_number}
use Rattle.numbers.specs.declared.SampleNumber.{SampleNumber}
use Rattle.bundles.specs.Recordings.{Layout}
use Rattle.links.specs.Links.{sample_named, name_fault}
use Rattle.links.specs.Named.{naming}
use Rattle.links.proofs.Links.{name_none}

module _ (y : Layout) (n index offset : ℕ) where
  pub naming_refused : {f : ℕ} → naming y n index offset ≡ Err f → (name_fault y n index offset ≡ f) × (0 < f)
  unfolding naming
  naming_refused {f} e =
      by_number (name_fault y n index offset)
      (λ z.
      let s : Ok (record { 0 = sample_named y n index offset }) ≡ Err f = rw z at e in
      let w : ◌≡◌ {A = ℕ} 0 1 = cc in
      absurd (omega arith))
      (λ g z.
      let s : Err (suc g) ≡ Err f = rw (z, eqb-suc-zero g) at e in
      let w : suc g ≡ f = cc in
      (z ∙ w, omega arith))

  pub naming_sample : {m : SampleNumber} → naming y n index offset ≡ Ok m → (name_fault y n index offset ≡ 0) × (sample_named y n index offset ≡ m.0) × (0 < m.0)
  unfolding naming
  naming_sample {m} e =
      by_number (name_fault y n index offset)
      (λ z.
      let s : Ok (record { 0 = sample_named y n index offset }) ≡ Ok m = rw z at e in
      let w : sample_named y n index offset ≡ m.0 = cc in
      let a = name_none y n index offset z in
      (z, w, omega arith))
      (λ g z.
      let s : Err (suc g) ≡ Ok m = rw (z, eqb-suc-zero g) at e in
      let w : ◌≡◌ {A = ℕ} 0 1 = cc in
      absurd (omega arith))
