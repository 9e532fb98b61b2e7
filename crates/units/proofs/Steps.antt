-- What the total functions give where there is no fault, and where there is one. Assumes nothing.
--
--   extractor_there   a whole extractor of the right size is given
--   extractor_fields  by its bytes: it lies before e, has the right size, no top bit and the type
--   no_extractor_lem  nothing is given where one of these does not hold
use Rattle.std.specs.Prelude.{None, Some}
use Prim.Native.Nat.{ℕ, ◌+◌, ◌≤◌, ◌<◌}
use mathlib.Core.Path.{◌≡◌}
use mathlib.Core.Bool.{true}
use native.Mathlib.Omega.{arith}
use borrow.Author.Tests.{eq-eqb, eqb-true}
use Rattle.words.specs.Tests.{◌≡?◌}
use Rattle.words.proofs.Tests.{by_bool}
use Rattle.numbers.specs.Sizes.{extractor_size}
use Rattle.units.specs.Units.{Sample, L, size, first_byte, type, extractor_type, is_extractor, unit_fault}
use Rattle.units.specs.Extractors.{extractor_fault}
use Rattle.units.specs.Steps.{extractor_of, extractor_at}
use Rattle.units.specs.Rules.{Whole}
use Rattle.units.proofs.Units.{whole, whole_none, extractor_size_lem, extractor_none}

module _ (x : Sample) (e p : ℕ) where
  pub extractor_there : Whole x e p → is_extractor x p ≡ true → extractor_fault x p ≡ 0 → extractor_at x e p ≡ Some (extractor_of x p)
  unfolding extractor_at
  extractor_there w t h = rw (eq-eqb (unit_fault x e p) 0 (whole_none x e p w), eq-eqb (extractor_fault x p) 0 h, t)

  pub extractor_fields : p + L x + extractor_size x.length_size ≤ e → size x p ≡ extractor_size x.length_size → first_byte x p < 128 → is_extractor x p ≡ true → extractor_at x e p ≡ Some (extractor_of x p)
  extractor_fields i z f t =
      extractor_there
      (record { room = omega arith; inside = omega arith; some = omega arith; top = f; least = rw (eqb-true (type x p) extractor_type t) (omega arith) })
      t
      (extractor_none x p (λ _. z))

  pub no_extractor_lem : (Whole x e p → is_extractor x p ≡ true → size x p ≡ extractor_size x.length_size → ⊥) → extractor_at x e p ≡ None
  unfolding extractor_at
  no_extractor_lem h = by_bool (unit_fault x e p ≡? 0)
      (λ u. by_bool (is_extractor x p)
      (λ t. by_bool (extractor_fault x p ≡? 0)
      (λ f. absurd (h (whole x e p (eqb-true _ _ u)) t (extractor_size_lem x p (eqb-true _ _ f) t)))
      (λ f. rw (u, f, t)))
      (λ t. rw (u, t)))
      (λ u. rw u)
