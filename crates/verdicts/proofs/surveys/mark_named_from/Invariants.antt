-- The invariant: what is known is right. Assumes nothing.
use mathlib.Core.Path.{◌≡◌}
use Prim.Native.Nat.{◌-◌}
use lib.ListN.{length}
use Rattle.verdicts.specs.Surveys.{Survey}
use Rattle.verdicts.proofs.surveys.mark_named_from.Given as goal

abbrev pub invariant-loop-p : goal.invariant-loop-p
invariant-loop-p l = Survey l.b l.t l.forms l.rows l.used × (length l.forms ≡ length l.initial.forms) × (length l.rows ≡ length l.initial.rows)

abbrev pub decreases-loop-p : goal.decreases-loop-p
decreases-loop-p l = length l.x - l.p
