-- The layout's samples are as many as the table says. Assumes nothing.
use mathlib.Core.Path.{sym, ◌∙◌}
use Rattle.tables.proofs.Layouts.{samples_count}
use Rattle.sample_tables.proofs.sample_count.Goals as goal

pub returns : goal.returns
returns c = c.sample_total.ensures.0 ∙ sym (samples_count _)
