-- What `contains` answers. Assumes nothing.
use mathlib.Core.Path.{◌∙◌}
use Rattle.numbers.proofs.Members.{contains_has}
use Rattle.numbers.proofs.refusals.is_one_of.Goals as goal

pub returns : goal.returns
returns c = c.contains.ensures.value ∙ contains_has c.args.n c.args.set.now
