-- Four bytes that are there, or any by the loop. Assumes nothing.
use mathlib.Core.Path.{◌∙◌}
use Rattle.numbers.proofs.Laws.{big_at}
use Rattle.numbers.proofs.number_of_4.Goals as goal

pub returns-then-s-at-gt3 : goal.returns-then-s-at-gt3
returns-then-s-at-gt3 c = c.from_be_bytes.ensures ∙ big_at c.args.s.now c.args.at
