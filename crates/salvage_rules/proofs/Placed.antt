-- Bytes b that stand in a sample w at p, beside b as a sample of its own. Assumes nothing.
--
--   size_placed, first_placed, type_placed, next_placed  the unit at p + q of w is the unit at q of b
--   additional_placed                                    its additional_bytes
--   size_here, first_here, type_here, additional_here    the same at p itself
--   places_placed                                        the places of units
--   whole_up, whole_down                                 a whole unit, both ways
--   included_up, included_down                           an included unit without a fault, both ways
use Prim.Native.Nat.{ℕ, zero, suc, ◌+◌, ◌-◌, ◌≤◌, ◌<◌}
use mathlib.Core.Path.{◌≡◌, ap, sym, ◌∙◌, subst}
use mathlib.Core.List.{List, ◌∷◌, ◌++◌, map}
use native.Mathlib.Omega.{arith}
use native.Mathlib.Nat.{add-zero}
use borrow.Author.Tests.{leb-true, leb-false}
use lib.Dec.{leb}
use lib.ListN.{length, drop}
use Rattle.words.specs.Bytes.{byte_at, big}
use Rattle.words.proofs.Tests.{by_bool}
use Rattle.words.proofs.Positions.{at_inside}
use Rattle.words.proofs.Bytes.{big_inside}
use Rattle.numbers.specs.Sizes.{header_size}
use Rattle.numbers.proofs.Laws.{L_some}
use Rattle.units.specs.Units.{Sample, L, size, first_byte, type, next, places}
use Rattle.units.specs.Aggregators.{additional_bytes}
use Rattle.units.specs.Rules.{Whole, Included}
use Rattle.units.proofs.Walks.{places_end, places_step}
use Rattle.salvage_rules.specs.Salvage.{holding}

module _ (w : Sample) (p : ℕ) (b r : List ℕ) (e : drop p w.content ≡ b ++ r) where
  abbrev alone : Sample
  alone = holding w b

  pub size_placed : (q : ℕ) → q + L w ≤ length b → size w (p + q) ≡ size alone q
  unfolding size
  size_placed q h = big_inside w.content p b r e q (L w) h

  pub next_placed : (q : ℕ) → q + L w ≤ length b → next w (p + q) ≡ p + next alone q
  next_placed q h = let s = size_placed q h in omega arith

  pub first_placed : (q : ℕ) → q + L w < length b → first_byte w (p + q) ≡ first_byte alone q
  first_placed q h = let a : p + q + L w ≡ p + (q + L w) = omega arith in ap (byte_at w.content) a ∙ at_inside w.content p b r (q + L w) e h

  pub type_placed : (q : ℕ) → q + L w < length b → type w (p + q) ≡ type alone q
  unfolding type
  type_placed q h = rw (first_placed q h)

  pub additional_placed : (q : ℕ) → q + L w + header_size + L w ≤ length b → additional_bytes w (p + q) ≡ additional_bytes alone q
  additional_placed q h = let a : p + q + L w + header_size ≡ p + (q + L w + header_size) = omega arith in ap (λ (n : ℕ). big w.content n (L w)) a ∙ big_inside w.content p b r e (q + L w + header_size) (L w) (omega arith)

  -- at p itself
  pub size_here : L w ≤ length b → size w p ≡ size alone 0
  size_here h = subst (λ (n : ℕ). size w n ≡ size alone 0) (add-zero p) (size_placed 0 (omega arith))

  pub first_here : L w < length b → first_byte w p ≡ first_byte alone 0
  first_here h = subst (λ (n : ℕ). first_byte w n ≡ first_byte alone 0) (add-zero p) (first_placed 0 (omega arith))

  pub type_here : L w < length b → type w p ≡ type alone 0
  type_here h = subst (λ (n : ℕ). type w n ≡ type alone 0) (add-zero p) (type_placed 0 (omega arith))

  pub additional_here : L w + header_size + L w ≤ length b → additional_bytes w p ≡ additional_bytes alone 0
  additional_here h = subst (λ (n : ℕ). additional_bytes w n ≡ additional_bytes alone 0) (add-zero p) (additional_placed 0 (omega arith))

  -- a length field that is cut reads otherwise, but then both walks end
  pub places_placed : (f i k : ℕ) → k - i ≤ f → k ≤ length b → places w (p + i) (p + k) ≡ map (λ q. p + q) (places alone i k)
  places_placed zero i k g h = rw (places_end w (p + i) (p + k) (omega arith), places_end alone i k (omega arith))
  places_placed (suc f) i k g h = let l = L_some w.length_size in by_bool (leb k i)
      (λ t. let o = leb-true k i t in rw (places_end w (p + i) (p + k) (omega arith), places_end alone i k o))
      (λ t. let o = leb-false k i t in
      rw (places_step w (p + i) (p + k) (omega arith), places_step alone i k o)
      (ap (λ l. (p + i) ∷ l) (by_bool (leb (i + L w) (length b))
      (λ u. rw (next_placed i (leb-true _ _ u)) (places_placed f (next alone i) k (omega arith) h))
      (λ u. let v = leb-false (i + L w) (length b) u in rw (places_end w (next w (p + i)) (p + k) (omega arith), places_end alone (next alone i) k (omega arith))))))

  module _ (k q : ℕ) (h : k ≤ length b) where
    pub whole_up : Whole alone k q → Whole w (p + k) (p + q)
    whole_up u =
        let a = u.room in let b = u.inside in let c = u.some in
        let s = size_placed q (omega arith) in
        let l = L_some w.length_size in
        record {
          room = omega arith;
          inside = omega arith;
          some = omega arith;
          top = rw (first_placed q (omega arith)) u.top;
          least = rw (s, type_placed q (omega arith)) u.least;
        }

    pub whole_down : Whole w (p + k) (p + q) → Whole alone k q
    whole_down u =
        let l = L_some w.length_size in
        let a : q + L w ≤ k = omega (arith, u.room) in
        let s = size_placed q (omega arith) in
        let b = u.inside in let c = u.some in
        record {
          room = a;
          inside = omega arith;
          some = omega arith;
          top = rw (← first_placed q (omega arith)) u.top;
          least = rw (← s, ← type_placed q (omega arith)) u.least;
        }

    pub included_up : Included alone k q → Included w (p + k) (p + q)
    included_up i =
        let u = i.unit in
        let a = u.room in let b = u.inside in let c = u.some in let l = L_some w.length_size in
        let s = size_placed q (omega arith) in
        let t = type_placed q (omega arith) in
        record {
          unit = whole_up u;
          flat = rw t i.flat;
          slice = λ v. rw t (i.slice v);
          extractor = λ v. s ∙ i.extractor (rw (← t) v);
        }

    pub included_down : Included w (p + k) (p + q) → Included alone k q
    included_down i =
        let u = whole_down i.unit in
        let a = u.room in let b = u.inside in let c = u.some in let l = L_some w.length_size in
        let s = size_placed q (omega arith) in
        let t = type_placed q (omega arith) in
        record {
          unit = u;
          flat = rw (← t) i.flat;
          slice = λ v. rw (← t) (i.slice v);
          extractor = λ v. sym s ∙ i.extractor (rw t v);
        }
