-- Nothing known; 25; by the marks. Assumes nothing.
use mathlib.Core.Path.{◌∙◌}
use Prim.Native.Nat.{◌/◌}
use Rattle.units.specs.Units.{sample}
use Rattle.marks.proofs.Copying.{marked_copy}
use Rattle.verdicts.proofs.Copied.{amount_ill}
use Rattle.verdicts.proofs.measuring.copy_known.Goals as goal

pub returns-then-form-eq0 : goal.returns-then-form-eq0
returns-then-form-eq0 c = c.copy_unknown.ensures

pub returns-then-form-ne-FORMED : goal.returns-then-form-ne-FORMED
returns-then-form-ne-FORMED c = let a = c.args in amount_ill (sample a.k a.z.now) a.offset.0 a.length (c.requires.refusal c.if-form-eq0.false c.if-form-ne-FORMED.true)

pub returns : goal.returns
returns c = let a = c.args in c.copy_of.ensures ∙ marked_copy (sample a.k a.z.now) (c.requires.whole c.if-form-ne-FORMED.false) a.rows.now (a.form / 256) (c.requires.marked c.if-form-ne-FORMED.false) a.offset.0 a.length
