-- How many bytes a sample of a recording delivers, without the lengths in the output: its own, and those that its extractors copy.
--
--   total_size us           the bytes of delivered units
--   delivers_itself p       whether the unit at p is delivered as it stands
--   own_bytes               the bytes of the sample's own units that are delivered
--   copied_bytes            the bytes of the units that its extractors copy
--   resolved_size           the length of the output: both, and a length for each unit
use Rattle.std.specs.Prelude.{ℕ, ◌+◌, ◌*◌, List, map, Bool, not, ◌&&◌, length}
use Rattle.words.specs.Lists.{keep, sum}
use Rattle.units.specs.Units.{size, is_aggregator, is_extractor}
use Rattle.units.specs.Aggregators.{units, extractors}
use Rattle.bundles.specs.Recordings.{Recording}
use Rattle.copies.specs.Written.{length_before}
use Rattle.resolution_rules.specs.Resolving.{Span, own, copied_at, delivered}

unfoldable pub total_size : List Span → ℕ
total_size us = sum (map (λ u. u.size) us)

module _ (r : Recording) (n : ℕ) where
  -- neither an aggregator nor an extractor
  abbrev pub delivers_itself : ℕ → Bool
  delivers_itself p = not (is_aggregator (own r n) p) && not (is_extractor (own r n) p)

  unfoldable pub own_bytes : ℕ
  own_bytes = sum (map (size (own r n)) (keep delivers_itself (units (own r n))))

  unfoldable pub copied_bytes : ℕ
  copied_bytes = sum (map (λ p. total_size (copied_at r n p)) (extractors (own r n)))

  abbrev pub resolved_size : ℕ
  resolved_size = own_bytes + copied_bytes + length_before * length (delivered r n)
