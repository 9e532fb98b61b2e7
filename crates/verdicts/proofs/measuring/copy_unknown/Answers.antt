-- 25, or a copy from the front. Assumes nothing.
use native.Mathlib.Omega.{arith}
use mathlib.Core.Path.{sym, ap, ◌∙◌}
use lib.ListN.{length}
use Rattle.units.specs.Units.{sample}
use Rattle.samples.specs.Check.{answer_of}
use Rattle.marks.proofs.Copying.{unmarked_copy}
use Rattle.verdicts.proofs.Copied.{amount_ill}
use Rattle.verdicts.proofs.measuring.copy_unknown.Goals as goal

pub returns-in-Err : goal.returns-in-Err
returns-in-Err c = let a = c.args in amount_ill (sample a.k a.z.now) a.offset.0 a.length (sym c.check_sample.ensures ∙ ap answer_of c.in-Err.is)

pub returns-in-Ok : goal.returns-in-Ok
returns-in-Ok c = let a = c.args in c.copy_of.ensures ∙ unmarked_copy (sample a.k a.z.now) (sym c.check_sample.ensures ∙ ap answer_of c.in-Ok.is) a.rows.now (length a.rows.now) (omega arith) a.offset.0 a.length
