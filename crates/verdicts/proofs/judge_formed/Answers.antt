use native.Mathlib.Omega.{arith}
use Rattle.verdicts.proofs.Known.{zeros, survey_start}
use Rattle.verdicts.proofs.judge_formed.Goals as goal

pub mark_named-requires : goal.mark_named-requires
mark_named-requires c = (c.requires.2, omega arith, survey_start _ _ _ _ (zeros 4097))
