-- What a judgement says of a copy, by parts. Assumes nothing.
--
--   copy_ill, copy_border, copy_formed    25; 26 and 27; 28 or none
--   good_formed, good_border              a copy without a refusal: of a well-formed sample, without 26 and 27
--   good_flat                             its units are those of one walk
use Prim.Native.Nat.{ℕ}
use mathlib.Core.Path.{◌≡◌}
use borrow.Author.Tests.{not-false}
use Rattle.words.specs.Refusals.{ok, refused}
use Rattle.words.specs.RefusalNumbers.{named_ill_formed}
use Rattle.words.proofs.Refusals.{if_none, or_else_none, or_else_here}
use Rattle.units.specs.Units.{Sample}
use Rattle.samples.specs.Check.{check}
use Rattle.samples.proofs.Laws.{formed_ok}
use Rattle.copies.specs.Copies.{copy_end, copied, form_fault, border_fault, chain_fault, copy_fault}
use Rattle.copies.proofs.Copies.{copied_flat}
use Rattle.copies.proofs.Rest.{rest}

module _ (z : Sample) where
  module _ (o n : ℕ) where
    pub copy_ill : {m p : ℕ} → check z ≡ refused m p → copy_fault z o n ≡ named_ill_formed
    unfolding copy_fault
    copy_ill e = rw e

    pub copy_border : {f : ℕ} → check z ≡ ok tt → f ≡ border_fault z o n → (f ≡ 0 → ⊥) → f ≡ copy_fault z o n
    unfolding copy_fault
    copy_border k e h = rw k (or_else_here _ e h)

    pub copy_formed : check z ≡ ok tt → border_fault z o n ≡ 0 → copy_fault z o n ≡ chain_fault z (copied z o n)
    unfolding copy_fault
    copy_formed k e = rw (k, e)

    -- a copy without a refusal
    module _ (g : copy_fault z o n ≡ 0) where
      pub good_formed : check z ≡ ok tt
      unfolding copy_fault
      good_formed = formed_ok z (not-false _ (if_none 24 _ (or_else_none (form_fault z) _ g).0))

      pub good_border : border_fault z o n ≡ 0
      unfolding copy_fault
      good_border = (or_else_none (border_fault z o n) _ (or_else_none (form_fault z) _ g).1).0

      pub good_flat : copied z o n ≡ rest z (copy_end z o n) o
      good_flat = copied_flat z o n good_border good_formed
