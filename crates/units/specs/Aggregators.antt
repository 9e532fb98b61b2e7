-- Aggregators (01, 'Units in a sample'; B.2): header, additional_bytes in L bytes, then included units, each after its length.
--
--   included_start, included     where the included units start; the included units
--   additional_bytes, cover_end  what the aggregator covers by reference ends at cover_end
--   cover_fault                  21
--   is_slice t                   the types that 20 is about
--   included_fault e p           the first refusal of an included unit
--   with_included, units         a unit with what it includes; all units of a sample
--   extractors                   the extractors among them
use Rattle.std.specs.Prelude.{ℕ, ◌+◌, List, [], ◌∷◌, Bool, ◌&&◌, not}
use Rattle.words.specs.Tests.{◌≤?◌, pick}
use Rattle.words.specs.Refusals.{◌if◌, ◌or_else◌}
use Rattle.words.specs.RefusalNumbers.{nested_aggregator, slice_in_avc_aggregator, bad_additional_bytes}
use Rattle.words.specs.Lists.{keep, some, each}
use Rattle.words.specs.Bytes.{big}
use Rattle.numbers.specs.Kinds.{is_avc}
use Rattle.numbers.specs.Sizes.{header_size}
use Rattle.units.specs.Units.{Sample, L, type, next, is_aggregator, is_extractor, unit_fault, places, top_units, border, top_between}
use Rattle.units.specs.Extractors.{extractor_fault}

-- types 1 to 5, the slices of an AVC stream
abbrev pub is_slice : ℕ → Bool
is_slice t = (1 ≤? t) && (t ≤? 5)

module _ (x : Sample) where
  -- The units that the aggregator at p includes: after its header and additional_bytes, up to its end.
  abbrev pub included_start : ℕ → ℕ
  included_start p = p + L x + header_size + L x

  abbrev pub included : ℕ → List ℕ
  included p = places x (included_start p) (next x p)

  -- The bytes after the aggregator that it covers by reference. Zero covers nothing.
  abbrev pub additional_bytes : ℕ → ℕ
  additional_bytes p = big x.content (p + L x + header_size) (L x)

  abbrev pub cover_end : ℕ → ℕ
  cover_end p = next x p + additional_bytes p

  -- 21: additional_bytes end on no unit border of the sample, or cover an aggregator
  unfoldable pub cover_fault : ℕ → ℕ
  cover_fault p =
      bad_additional_bytes if not (border x (cover_end p)) or_else
      bad_additional_bytes if some (is_aggregator x) (top_between x (next x p) (cover_end p))

  -- An included unit, in an aggregator that ends at e: 14 to 18, then 19, 20, 22.
  unfoldable pub included_fault : ℕ → ℕ → ℕ
  included_fault e p =
      unit_fault x e p or_else
      nested_aggregator if is_aggregator x p or_else
      slice_in_avc_aggregator if is_avc x.kind && is_slice (type x p) or_else
      extractor_fault x p

  -- The unit at p with what it includes; all units, front to back; the extractors among them, top-level and included.
  unfoldable pub with_included : ℕ → List ℕ
  with_included p = p ∷ pick (is_aggregator x p) (included p) []

  unfoldable pub units : List ℕ
  units = each with_included (top_units x)

  unfoldable pub extractors : List ℕ
  extractors = keep (is_extractor x) units
