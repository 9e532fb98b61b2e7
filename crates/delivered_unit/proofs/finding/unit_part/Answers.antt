-- A sample that delivers the unit is good. Assumes nothing.
use mathlib.Core.Path.{◌≡◌, sym, ap, ◌∙◌}
use Rattle.words.specs.Refusals.{ok}
use Rattle.tables.specs.Tables.{recording_in}
use Rattle.delivery.specs.Deliveries.{unit_for}
use Rattle.delivered_unit.specs.Answers.{resolve_delivery, delivery_answer_of}
use Rattle.delivered_unit.proofs.Answered.{span_answer_lem, found_good, found_mem}
use Rattle.delivered_unit.proofs.finding.unit_part.Goals as goal
use Rattle.delivered_unit.proofs.finding.unit_part.Goals.{In-Ok}

-- the unit that was found
found : (c : In-Ok) → let a = c.args in resolve_delivery (recording_in a.b.now a.t.now) a.n.0 a.i ≡ ok (unit_for c.in-Ok.u)
found c = sym c.find_delivery.ensures ∙ ap delivery_answer_of c.in-Ok.is

pub bytes_of-requires : goal.bytes_of-requires
bytes_of-requires c = (found_good _ _ _ _ (found (goal.at.bytes_of-requires c).In-Ok), found_mem _ _ _ _ (found (goal.at.bytes_of-requires c).In-Ok))

pub returns-in-Err : goal.returns-in-Err
returns-in-Err c = rw (span_answer_lem _ _ _, ← c.find_delivery.ensures, c.in-Err.is)

pub returns-in-Ok : goal.returns-in-Ok
returns-in-Ok c = c.bytes_of.ensures ∙ rw (span_answer_lem _ _ _, found (goal.at.returns-in-Ok c).In-Ok)
