-- Three writes, one after the other. Assumes nothing.
use Rattle.audit.proofs.Steps.{put_three}
use Rattle.audit.proofs.put_numbers.Goals as goal

pub returns : goal.returns
returns c = rw (c.put_number-3.ensures, c.put_number-2.ensures, c.put_number.ensures) (put_three _ _ _ _ _ c.requires)
