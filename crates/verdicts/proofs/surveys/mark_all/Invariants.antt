-- The invariant: what is known is right. Assumes nothing.
use mathlib.Core.Path.{◌≡◌}
use lib.ListN.{length}
use Rattle.verdicts.specs.Surveys.{Survey}
use Rattle.verdicts.proofs.surveys.mark_all.Given as goal

abbrev pub invariant-loop-n : goal.invariant-loop-n
invariant-loop-n l = Survey l.b l.t l.forms l.rows l.used × (length l.forms ≡ length l.initial.forms) × (length l.rows ≡ length l.initial.rows)
