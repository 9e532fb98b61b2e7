-- The place of the first walk's refusal. Assumes nothing.
use mathlib.Core.Path.{sym, ap, ◌∙◌}
use Rattle.samples.specs.Check.{answer_of}
use Rattle.salvage_rules.proofs.Cut.{fault_none, fault_some}
use Rattle.salvage.proofs.writing.first_fault.Goals as goal

pub returns-in-Ok : goal.returns-in-Ok
returns-in-Ok c = sym (fault_none _ (sym c.check_top.ensures ∙ ap answer_of c.in-Ok.is))

pub returns-in-Err : goal.returns-in-Err
returns-in-Err c = sym (fault_some _ _ _ (sym c.check_top.ensures ∙ ap answer_of c.in-Err.is)).0
