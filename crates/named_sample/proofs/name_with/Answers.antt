-- By what the extractor names. Assumes nothing.
use Rattle.tables.specs.Tables.{layout_in}
use Rattle.named_sample.proofs.Named.{with_named}
use Rattle.named_sample.proofs.name_with.Goals as goal

pub returns : goal.returns
returns c = let a = c.args in rw c.at_place.ensures (with_named (layout_in a.t.now) a.n.0 a.at.0 a.f _ c.name-named.ensures)
