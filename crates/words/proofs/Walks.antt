-- Laws of walks: entries of a table, and the place after them. Assumes nothing.
--
--   skip_grows                 the place after the entries is not before them
--   entries_end                an entry ends before the place after the entries
--   entries_same               another way from entry to entry that is the same on the way
--   entries_shift, skip_shift  the entries of a table that stands further on
--   skip_stride                entries of one width
use Prim.Native.Nat.{ℕ, zero, suc, ◌+◌, ◌*◌, ◌≤◌}
use mathlib.Core.Path.{◌≡◌, refl, ap, ◌∙◌}
use mathlib.Core.List.Memᴰ
use mathlib.Core.List.{◌∷◌, map, Memᴰ}
use mathlib.Core.Logic.{⊎_elim}
use native.Mathlib.Omega.{arith}
use native.Mathlib.Nat.{zero-mul, suc-mul}
use Rattle.words.specs.Walks.{entries, skip}

module _ (f : ℕ → ℕ) (grows : (p : ℕ) → p ≤ f p) where
  pub skip_grows : (n p : ℕ) → p ≤ skip f n p
  unfolding skip
  skip_grows zero p = omega arith
  skip_grows (suc n) p = let a = grows p in let b = skip_grows n (f p) in omega arith

  pub entries_end : (n q p : ℕ) → Memᴰ p (entries f n q) → f p ≤ skip f n q
  unfolding entries skip
  entries_end zero q p m = absurd (Memᴰ.not-nil m)
  entries_end (suc n) q p m = ⊎_elim (λ e. rw e (skip_grows n (f q))) (λ k. entries_end n (f q) p k) (Memᴰ.cases_cons m)

  -- another way from entry to entry that is the same up to k
  pub entries_same : (g : ℕ → ℕ) (k : ℕ) → ((p : ℕ) → f p ≤ k → g p ≡ f p) → (n p : ℕ) → skip f n p ≤ k → (entries g n p ≡ entries f n p) × (skip g n p ≡ skip f n p)
  unfolding entries skip
  entries_same g k e zero p h = (refl, refl)
  entries_same g k e (suc n) p h =
      let a = e p (let b = skip_grows n (f p) in omega arith) in
      rw a (let w = entries_same g k e n (f p) h in (ap (λ l. p ∷ l) w.0, w.1))

pub skip_stride : (w n q : ℕ) → skip (λ p. p + w) n q ≡ q + n * w
unfolding skip
skip_stride w zero q = rw zero-mul (omega arith)
skip_stride w (suc n) q = skip_stride w n (q + w) ∙ rw suc-mul (omega arith)

-- the entries of a table that stands p further on: f there is g here
module _ (f g : ℕ → ℕ) (p : ℕ) (e : (q : ℕ) → f (p + q) ≡ p + g q) where
  pub entries_shift : (n q : ℕ) → entries f n (p + q) ≡ map (λ a. p + a) (entries g n q)
  unfolding entries
  entries_shift zero q = refl
  entries_shift (suc n) q = ap (λ l. (p + q) ∷ l) (ap (entries f n) (e q) ∙ entries_shift n (g q))

  pub skip_shift : (n q : ℕ) → skip f n (p + q) ≡ p + skip g n q
  unfolding skip
  skip_shift zero q = refl
  skip_shift (suc n) q = ap (skip f n) (e q) ∙ skip_shift n (g q)
