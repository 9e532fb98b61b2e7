-- By what stands there. Assumes nothing.
use mathlib.Core.Path.{sym, ap, ◌∙◌}
use Rattle.tables.specs.Tables.{recording_in}
use Rattle.verdicts.specs.Amounts.{amount_by}
use Rattle.verdicts.proofs.measuring.amount_at.Goals as goal

pub extract-requires : goal.extract-requires
extract-requires c = c.requires

pub returns-in-None : goal.returns-in-None
returns-in-None c = let a = c.args in ap (amount_by (recording_in a.b.now a.t.now) a.n.0) (sym c.in-None.is ∙ c.extractor_at.ensures)

pub returns-in-Some : goal.returns-in-Some
returns-in-Some c = let a = c.args in c.extract.ensures ∙ ap (amount_by (recording_in a.b.now a.t.now) a.n.0) (sym c.in-Some.is ∙ c.extractor_at.ensures)
