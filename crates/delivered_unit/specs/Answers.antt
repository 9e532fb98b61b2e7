-- What the answers of the code say.
--
--   unit_answer_of          one delivered unit
--   place_answer_of         where in the bundle it stands
--   resolve_delivery r n k the kth unit that sample n delivers, with where it comes from
--   delivery_answer_of  the code's answer for that
--   found_bytes r a     the bytes of a unit that was found; empty if refused
use Rattle.std.specs.Prelude.{List, [], ℕ, Err, Ok, Result}
use Rattle.words.specs.Refusals.{Answer, refused, ok}
use Rattle.words.specs.Lists.{nth}
use Rattle.bundles.specs.Recordings.{Recording}
use Rattle.resolution_rules.specs.Resolving.{Span}
use Rattle.bundles.specs.Parts.{BundlePart}
use Rattle.resolution_rules.specs.Calls.{span_bytes, on_unit}
use Rattle.delivery.specs.Deliveries.{Delivery, span_for, unit_for, deliveries, no_delivery}
use Rattle.delivery.specs.declared.DeliveredUnit.{DeliveredUnit}
use Rattle.delivery.specs.declared.Span as delivered
use Rattle.numbers.specs.declared.Refusal.{Refusal}
use Rattle.delivered_unit.specs.declared.UnitPart.{UnitPart}

abbrev pub unit_answer_of : Result delivered.Span Refusal → Answer Span
unit_answer_of (Err f) = refused f.number f.place.0
unit_answer_of (Ok u) = ok (span_for u)

abbrev pub place_answer_of : Result UnitPart Refusal → Answer BundlePart
place_answer_of (Err f) = refused f.number f.place.0
place_answer_of (Ok u) = ok (record { start = u.start.0; size = u.size })

unfoldable pub resolve_delivery : Recording → ℕ → ℕ → Answer Delivery
resolve_delivery r n k = on_unit r n k (ok (nth (deliveries r n) k no_delivery))

abbrev pub delivery_answer_of : Result DeliveredUnit Refusal → Answer Delivery
delivery_answer_of (Err f) = refused f.number f.place.0
delivery_answer_of (Ok u) = ok (unit_for u)

abbrev pub found_bytes : Recording → Answer Span → List ℕ
found_bytes r (refused n p) = []
found_bytes r (ok u) = span_bytes r u
