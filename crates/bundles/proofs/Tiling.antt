-- The samples of an accepted bundle lie without gaps in section four, each once, in order. Assumes nothing.
--
--   cuts_count      as many cuts as lengths, those of length 0 too
--   cuts_all        the cuts joined are what stands there
--   cuts_sizes      each cut is as long as its length says
--   cuts_at         where each cut stands
use Prim.Native.Nat.{ℕ, zero, suc, ◌+◌, ◌-◌, ◌≤◌, ◌<◌}
use mathlib.Core.Path.{◌≡◌, refl, ap, ap₂, sym, ◌∙◌}
use mathlib.Core.List.{List, [], ◌∷◌, map}
use native.Mathlib.Omega.{arith}
use lib.ListN.{length, get_or, take, drop, length-drop}
use Rattle.words.specs.Lists.{each, sum}
use Rattle.words.specs.Bytes.{part, cuts}
use Rattle.words.proofs.Positions.{split_part, part_length}

pub cuts_count : (s ns : List ℕ) (a : ℕ) → length (cuts s ns a) ≡ length ns
unfolding cuts
cuts_count s [] a = refl
cuts_count s (n ∷ ns) a = ap suc (cuts_count s ns (a + n))

pub cuts_sizes : (s ns : List ℕ) (a : ℕ) → a + sum ns ≤ length s → map (λ c. length c) (cuts s ns a) ≡ ns
unfolding cuts sum
cuts_sizes s [] a h = refl
cuts_sizes s (n ∷ ns) a h = ap₂ ◌∷◌ (part_length s a n (omega arith)) (cuts_sizes s ns (a + n) (omega arith))

nothing : (s : List ℕ) (a : ℕ) → length s ≤ a → drop a s ≡ []
nothing s a h = none (drop a s) (length-drop a s ∙ (let z : length s - a ≡ 0 = omega arith in z))
  where
    none : (l : List ℕ) → length l ≡ 0 → l ≡ []
    none [] e = refl
    none (x ∷ l) e = absurd (omega arith)

pub cuts_all : (s ns : List ℕ) (a : ℕ) → a + sum ns ≡ length s → each (λ c. c) (cuts s ns a) ≡ drop a s
unfolding cuts sum each
cuts_all s [] a h = sym (nothing s a (omega arith))
cuts_all s (n ∷ ns) a h =
    let e : a + n - a ≡ n = omega arith in
    rw (cuts_all s ns (a + n) (omega arith)) (rw e at (split_part s a (a + n) (omega arith)))

pub cuts_at : (s ns : List ℕ) (a i : ℕ) → i < length ns → get_or (cuts s ns a) i [] ≡ part s (a + sum (take i ns)) (get_or ns i 0)
unfolding cuts sum
cuts_at s [] a i h = absurd (omega arith)
cuts_at s (n ∷ ns) a zero h = let e : a + 0 ≡ a = omega arith in rw e
cuts_at s (n ∷ ns) a (suc i) h =
    let e : a + n + sum (take i ns) ≡ a + (n + sum (take i ns)) = omega arith in
    cuts_at s ns (a + n) i (omega arith) ∙ ap (λ (q : ℕ). part s q (get_or ns i 0)) e
