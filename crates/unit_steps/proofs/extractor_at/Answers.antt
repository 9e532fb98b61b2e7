-- Each return but the last refutes one thing that an extractor without 14 to 18 and 22 has. Assumes nothing.
use native.Mathlib.Omega.{arith}
use mathlib.Core.Path.{◌≡◌, sym, ◌∙◌}
use Prim.Native.Nat.{◌+◌, ◌≤◌, ◌<◌}
use borrow.Author.Tests.{eqb-true, eq-eqb}
use Rattle.numbers.specs.Sizes.{extractor_size}
use Rattle.numbers.proofs.Laws.{L_some}
use Rattle.units.specs.Units.{sample, L, size, first_byte, type}
use Rattle.units.proofs.Steps.{extractor_fields, no_extractor_lem}
use Rattle.unit_steps.proofs.extractor_at.Goals as goal
use Rattle.unit_steps.proofs.extractor_at.Goals.{then-end-p-via-then-end-p, then-end-p-via-else-end-p+then-end-p-2, then-end-p-via-else-end-p+else-end-p-2+then-number-bytes, then-head-ge-FORBIDDEN_BIT-via-then-head-ge-FORBIDDEN_BIT, then-head-ge-FORBIDDEN_BIT-via-else-head-ge-FORBIDDEN_BIT+then-head-ne-EXTRACTOR}

pub returns-then-end-p : goal.returns-then-end-p
unfolding size
returns-then-end-p c = sym (no_extractor_lem _ _ _ (λ w t z. elim c.then-end-p.branch [
  | then-end-p-via-then-end-p v ↦ omega (arith, w.room, L_some c.args.k.length_size)
  | then-end-p-via-else-end-p+then-end-p-2 v ↦ omega (arith, w.room, w.inside)
  | then-end-p-via-else-end-p+else-end-p-2+then-number-bytes v ↦ omega arith
]))

pub returns-then-head-ge-FORBIDDEN_BIT : goal.returns-then-head-ge-FORBIDDEN_BIT
unfolding type
returns-then-head-ge-FORBIDDEN_BIT c = let f = rw c.bytes-n.ensures.0 at c.byte-head.ensures in
    sym (no_extractor_lem _ _ _ (λ w t z. elim c.then-head-ge-FORBIDDEN_BIT.branch [
      | then-head-ge-FORBIDDEN_BIT-via-then-head-ge-FORBIDDEN_BIT v ↦ omega (arith, w.top)
      | then-head-ge-FORBIDDEN_BIT-via-else-head-ge-FORBIDDEN_BIT+then-head-ne-EXTRACTOR v ↦ v.if-head-ne-EXTRACTOR.true (rw f (eqb-true _ _ t))
    ]))

pub returns : goal.returns
unfolding size type
returns c =
    let f = rw c.bytes-n.ensures.0 at c.byte-head.ensures in
    let x = sample c.args.k c.args.s.now in
    let l : c.args.at.0 + L x + extractor_size x.length_size ≤ c.args.end.0 = omega arith in
    let z : size x c.args.at.0 ≡ extractor_size x.length_size = sym c.number.ensures ∙ c.if-number-bytes.false ∙ c.extractor_size-bytes.ensures in
    let t : first_byte x c.args.at.0 < 128 = omega arith in
    rw (extractor_fields x c.args.end.0 c.args.at.0 l z t (eq-eqb _ _ (rw (← f) c.if-head-ne-EXTRACTOR.false)), c.byte.ensures, c.byte-2.ensures, c.number-2.ensures, c.number-3.ensures, c.bytes-n.ensures.0)
