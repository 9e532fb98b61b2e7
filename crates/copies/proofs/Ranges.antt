-- Where a copy ends, on any bytes. Assumes nothing.
--
--   capped_in, capped_past             a place that is not past the end; one that is not before it
--   capped_most, capped_add            never past the end; bytes on from a place that is capped already
--   in_length, in_unit, in_aggregator  where a copy ends, by data_length and by what stands at data_offset
--   in_most                            never past the end of the sample
--   end_in                             a copy without 25 to 27 ends where it is said to
use Prim.Native.Nat.{ℕ, ◌+◌, ◌≤◌}
use mathlib.Core.Path.{◌≡◌, ap, sym, ◌∙◌}
use mathlib.Core.Bool.{true, false}
use native.Mathlib.Omega.{arith}
use borrow.Author.Tests.{le-ltb, ltb-true, ltb-false}
use Rattle.words.specs.Tests.{◌<?◌}
use Rattle.words.specs.Refusals.{ok}
use Rattle.words.proofs.Tests.{by_bool}
use Rattle.units.specs.Units.{Sample, L, end, size, is_aggregator}
use Rattle.units.specs.Aggregators.{additional_bytes}
use Rattle.samples.specs.Check.{check}
use Rattle.copies.specs.Copies.{copy_end, border_fault}
use Rattle.copies.specs.Range.{capped, copy_end_in}
use Rattle.copies.proofs.Copies.{end_length, end_unit, end_aggregator, copy_most}

module _ (e : ℕ) where
  pub capped_in : (p : ℕ) → p ≤ e → capped e p ≡ p
  unfolding capped
  capped_in p h = rw (le-ltb e p h)

  pub capped_past : (p : ℕ) → e ≤ p → capped e p ≡ e
  unfolding capped
  capped_past p h = by_bool (e <? p) (λ t. rw t) (λ t. let l = ltb-false e p t in rw t (omega arith))

  pub capped_most : (p : ℕ) → capped e p ≤ e
  unfolding capped
  capped_most p = by_bool (e <? p) (λ t. rw t (omega arith)) (λ t. rw t (ltb-false e p t))

  pub capped_add : (p n : ℕ) → capped e (capped e p + n) ≡ capped e (p + n)
  capped_add p n = by_bool (e <? p)
      (λ t. let l = ltb-true e p t in rw (capped_past p (omega arith)) (capped_past (e + n) (omega arith) ∙ sym (capped_past (p + n) (omega arith))))
      (λ t. ap (λ (q : ℕ). capped e (q + n)) (capped_in p (ltb-false e p t)))

module _ (z : Sample) (o n : ℕ) where
  pub in_length : (n ≡ 0 → ⊥) → copy_end_in z o n ≡ capped (end z) (o + n)
  unfolding copy_end_in
  in_length h = ap (capped (end z)) (end_length z o n h)

  -- by where the unit ends, capped
  module _ (h : n ≡ 0) {q : ℕ} (e : q ≡ capped (end z) (capped (end z) (o + L z) + size z o)) where
    next_in : q ≡ capped (end z) (o + L z + size z o)
    next_in = e ∙ capped_add (end z) (o + L z) (size z o)

    pub in_unit : is_aggregator z o ≡ false → copy_end_in z o n ≡ q
    unfolding copy_end_in
    in_unit t = ap (capped (end z)) (end_unit z o n h t) ∙ sym next_in

    pub in_aggregator : is_aggregator z o ≡ true → {v : ℕ} → v ≡ additional_bytes z o → copy_end_in z o n ≡ capped (end z) (q + v)
    unfolding copy_end_in
    in_aggregator t {v} f =
        ap (capped (end z)) (end_aggregator z o n h t)
        ∙ sym (rw f (ap (λ (a : ℕ). capped (end z) (a + additional_bytes z o)) next_in ∙ capped_add (end z) (o + L z + size z o) (additional_bytes z o)))

  pub in_most : copy_end_in z o n ≤ end z
  unfolding copy_end_in
  in_most = capped_most (end z) (copy_end z o n)

  pub end_in : check z ≡ ok tt → border_fault z o n ≡ 0 → copy_end_in z o n ≡ copy_end z o n
  unfolding copy_end_in
  end_in k b = capped_in (end z) (copy_end z o n) (copy_most z o n b k)
