-- The answer of the function below, given back. Assumes nothing.
use Rattle.puddockle.proofs.Returned.{output}
use Rattle.puddockle.proofs.record.puddockle_read_record.Goals as goal

pub returns : goal.returns
returns c = let w = output c.read-numbered.ensures c.written.ensures.0 c.written.ensures.1 c.written.ensures.2 in (w.returned, w.buffer)
