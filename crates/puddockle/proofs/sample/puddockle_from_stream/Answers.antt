-- The answer of the function below, given back. Assumes nothing.
use Rattle.puddockle.proofs.Returned.{output}
use Rattle.puddockle.proofs.sample.puddockle_from_stream.Goals as goal

pub returns : goal.returns
returns c = output c.from_stream-read.ensures c.written.ensures.0 c.written.ensures.1 c.written.ensures.2
