-- From the base on, or back by what is missing to 256. Assumes nothing.
use mathlib.Core.Path.{◌∙◌}
use native.Mathlib.Omega.{arith}
use Rattle.links.proofs.Cases.{steps_ahead, steps_back}
use Rattle.links.proofs.stepped.Goals as goal

pub returns-then-offset-lt128 : goal.returns-then-offset-lt128
returns-then-offset-lt128 c = let a = c.args in steps_ahead a.b a.offset c.if-offset-lt128.true

pub returns-else-offset-lt128 : goal.returns-else-offset-lt128
returns-else-offset-lt128 c = let a = c.args in c.saturating_sub.ensures ∙ steps_back a.b a.offset c.if-offset-lt128.false (omega arith)
