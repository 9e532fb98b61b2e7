-- What a walk over units meets at a place p of a sample x, on any bytes (01, 'Units in a sample'). In a well-formed sample `Nothing` comes
-- at its end only.
--
--   item_at x p    an aggregator, and where its included units start; an extractor, and where the next unit starts; another unit
use Rattle.std.specs.Prelude.{ℕ}
use Rattle.words.specs.Tests.{◌<?◌, pick}
use Rattle.units.specs.Units.{Sample, end, next, is_aggregator, is_extractor}
use Rattle.units.specs.Aggregators.{included_start}
use Rattle.units.specs.Steps.{place, unit_of}
use Rattle.unit_steps.specs.declared.Item as I
use Rattle.unit_steps.specs.declared.Item.TheVariants as item

-- Nothing where the unit ends past the sample. Where an aggregator ends does not matter here: what it includes is looked at next.
unfoldable pub item_at : Sample → ℕ → I.Item
item_at x p =
    pick (is_aggregator x p) (item.Aggregator (place (included_start x p)))
    (pick (end x <? next x p) item.Nothing
    (pick (is_extractor x p) (item.Extractor (place (next x p)))
    (item.Unit (unit_of x p))))
