-- A unit that does not stop before its end. Assumes nothing.
use mathlib.Core.Path.{sym, ◌∙◌}
use borrow.Author.Tests.{eqb-true, eqb-false}
use Rattle.byte_streams.proofs.Places.{streamable_none, streamable_by}
use Rattle.byte_streams.proofs.is_streamable.Goals as goal

pub returns-then-not-is_empty : goal.returns-then-not-is_empty
returns-then-not-is_empty c = rw c.unit_stop.ensures (sym (streamable_by _ (eqb-false _ 0 (sym c.is_empty.ensures ∙ c.if-not-is_empty.true))))

pub returns-else-not-is_empty : goal.returns-else-not-is_empty
returns-else-not-is_empty c = rw c.if-not-is_empty.false (sym (streamable_none _ (eqb-true _ 0 (sym c.is_empty.ensures ∙ c.if-not-is_empty.false))))
