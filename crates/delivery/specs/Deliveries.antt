-- What sample n of a recording r delivers (01, 'Resolving'), each unit with where it comes from.
--
--   Delivery               a delivered unit, and where it comes from: the sample itself; or a copy, by its extractor's place and a number
--   span_for, unit_for     the code's units in these words
--   spans ds               the units alone
--   copies_from p k us     the units us of the copy of the extractor at p, numbered from k on
--   deliveries_at r n p    what is delivered for the unit at p
--   deliveries r n         what is delivered for the sample
--   no_delivery            there is no unit 0
--   own_part, copied_part  the bytes of a unit that stands in the sample itself, and of one that is copied; 0 for the other
use Rattle.std.specs.Prelude.{ℕ, ◌+◌, List, [], ◌∷◌, map}
use Rattle.words.specs.Tests.{pick}
use Rattle.words.specs.Lists.{each}
use Rattle.units.specs.Units.{is_extractor}
use Rattle.units.specs.Aggregators.{units}
use Rattle.units.specs.Steps.{place}
use Rattle.bundles.specs.Recordings.{Recording}
use Rattle.resolution_rules.specs.Resolving.{Span, own, delivered_at}
use Rattle.resolution_rules.specs.Calls.{no_span}
use Rattle.delivery.specs.declared.Span as code
use Rattle.delivery.specs.declared.Source.{Source}
use Rattle.delivery.specs.declared.Source.TheVariants.{Own, Copy}
use Rattle.delivery.specs.declared.DeliveredUnit.{DeliveredUnit}

pub record Delivery : Type 0 where
  pub span : Span
  pub source : Source

abbrev pub span_for : code.Span → Span
span_for u = record { sample = u.sample.0; start = u.start.0; size = u.size }

abbrev pub unit_for : DeliveredUnit → Delivery
unit_for u = record { span = span_for u.span; source = u.source }

abbrev pub delivery : Source → Span → Delivery
delivery from u = record { span = u; source = from }

abbrev pub no_delivery : Delivery
no_delivery = delivery Own no_span

abbrev pub spans : List Delivery → List Span
spans ds = map (λ d. d.span) ds

unfoldable pub copies_from : ℕ → ℕ → List Span → List Delivery
copies_from p k [] = []
copies_from p k (u ∷ us) = delivery (Copy (place p) k) u ∷ copies_from p (k + 1) us

module _ (r : Recording) (n : ℕ) where
  unfoldable pub deliveries_at : ℕ → List Delivery
  deliveries_at p = let us = delivered_at r n p in pick (is_extractor (own r n) p) (copies_from p 1 us) (map (delivery Own) us)

  unfoldable pub deliveries : List Delivery
  deliveries = each deliveries_at (units (own r n))

abbrev pub size_own : Source → ℕ → ℕ
size_own Own n = n
size_own (Copy p k) n = 0

abbrev pub size_copied : Source → ℕ → ℕ
size_copied Own n = 0
size_copied (Copy p k) n = n

abbrev pub own_part : Delivery → ℕ
own_part d = size_own d.source d.span.size

abbrev pub copied_part : Delivery → ℕ
copied_part d = size_copied d.source d.span.size
