-- The answer of the function below, given back. Assumes nothing.
use Rattle.puddockle.proofs.Returned.{output}
use Rattle.puddockle.proofs.record.puddockle_write_record.Goals as goal

pub returns : goal.returns
returns c = output c.write-written.ensures c.written.ensures.0 c.written.ensures.1 c.written.ensures.2
