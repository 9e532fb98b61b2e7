-- By what was judged. Assumes nothing.
use mathlib.Core.Path.{sym, ap, ◌∙◌}
use Rattle.judging.specs.Steps.{answer_of}
use Rattle.verdicts.specs.Kept.{judgement_word}
use Rattle.verdicts.proofs.judgement_word.Goals as goal

pub word-requires : goal.word-requires
word-requires c = rw c.in-Err.is at c.requires

pub word-requires-in-Ok : goal.word-requires-in-Ok
word-requires-in-Ok c = rw c.in-Ok.is at c.requires

pub returns-in-Err : goal.returns-in-Err
returns-in-Err c = c.word.ensures ∙ ap (λ j. judgement_word (answer_of j)) (sym c.in-Err.is)

pub returns-in-Ok : goal.returns-in-Ok
returns-in-Ok c = c.word-in-Ok.ensures ∙ ap (λ j. judgement_word (answer_of j)) (sym c.in-Ok.is)
