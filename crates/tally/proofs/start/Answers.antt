-- No outcome is kept of none. Assumes nothing.
use Rattle.tally.proofs.Laws.{tallied_default}
use Rattle.tally.proofs.start.Goals as goal

pub returns : goal.returns
returns c = tallied_default c.default.result c.default.ensures
