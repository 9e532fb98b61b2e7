-- The answer of the function below, given back. Assumes nothing.
use Rattle.puddockle.proofs.Returned.{output}
use Rattle.puddockle.proofs.numbered.puddockle_units.Goals as goal

pub returns : goal.returns
returns c = output c.unit_parts-parts.ensures c.written.ensures.0 c.written.ensures.1 c.written.ensures.2
