-- What sample n of a recording r delivers (01, 'Resolving'). p is the place of an extractor, or of any unit, in sample n.
--
--   sample_of r n   sample n with what its track says of it
--   named, linked   the sample that the extractor at p names: its number, 0 for none; the sample
--   name_fault_at   23, 24: judged by the extractor itself
--   copy_fault_at   25 to 28: judged by the sample named
--   extract_fault   23 to 28
--   Span            a delivered unit
--   copied_at p     what the extractor at p stands for
--   delivered_at p  what is delivered for the unit at p
--   delivered       what is delivered for the sample
--   judged, good    14 to 28; a sample that has none of them is good
use Rattle.std.specs.Prelude.{ℕ, ◌+◌, List, [], ◌∷◌, map, Bool}
use Rattle.words.specs.Tests.{pick}
use Rattle.words.specs.Refusals.{◌or_else◌, Verdict, ◌and_then◌, ◌at_place◌, first, passed}
use Rattle.words.specs.Lists.{each}
use Rattle.units.specs.Units.{Sample, L, size, is_extractor}
use Rattle.units.specs.Extractors.{track_ref_index, sample_offset, data_offset, data_length}
use Rattle.units.specs.Aggregators.{units, extractors}
use Rattle.samples.specs.Check.{check}
use Rattle.bundles.specs.Recordings.{Recording, track_at, content_of}
use Rattle.links.specs.Links.{sample_named, name_fault}
use Rattle.copies.specs.Copies.{without_aggregators, copied, copy_fault}

-- Sample n: the kind and the length size of its track, and its bytes.
unfoldable pub sample_of : Recording → ℕ → Sample
sample_of r n =
    record {
      kind = (track_at r.layout n).kind;
      length_size = (track_at r.layout n).length_size;
      content = content_of r n;
    }

-- A delivered unit: which sample it stands in, where it starts there, after its length field, and its size.
pub record Span : Type 0 where
  pub sample : ℕ
  pub start : ℕ
  pub size : ℕ

-- The units at places ps of sample n, which is x, as they are delivered.
abbrev pub span_of : ℕ → Sample → ℕ → Span
span_of n x p = record { sample = n; start = p + L x; size = size x p }

abbrev pub spans_of : ℕ → Sample → List ℕ → List Span
spans_of n x ps = map (span_of n x) ps

module _ (r : Recording) (n : ℕ) where
  abbrev pub own : Sample
  own = sample_of r n

  unfoldable pub named : ℕ → ℕ
  named p = sample_named r.layout n (track_ref_index own p) (sample_offset own p)

  abbrev pub linked : ℕ → Sample
  linked p = sample_of r (named p)

  unfoldable pub name_fault_at : ℕ → ℕ
  name_fault_at p = name_fault r.layout n (track_ref_index own p) (sample_offset own p)

  unfoldable pub copy_fault_at : ℕ → ℕ
  copy_fault_at p = copy_fault (linked p) (data_offset own p) (data_length own p)

  unfoldable pub extract_fault : ℕ → ℕ
  extract_fault p = name_fault_at p or_else copy_fault_at p

  unfoldable pub copied_at : ℕ → List Span
  copied_at p = spans_of (named p) (linked p) (copied (linked p) (data_offset own p) (data_length own p))

  -- An extractor is replaced by what it copies, an aggregator's header dropped. Included units are units of the sample too; units that an
  -- aggregator covers by reference stand in the sample already.
  unfoldable pub delivered_at : ℕ → List Span
  delivered_at p = let c = copied_at p in pick (is_extractor own p) c (spans_of n own (without_aggregators own (p ∷ [])))

  unfoldable pub delivered : List Span
  delivered = each delivered_at (units own)

  -- 14 to 22 of the sample, then 23 to 28 of each extractor, in delivery order
  unfoldable pub judged : Verdict
  judged = check own and_then first (λ p. extract_fault p at_place p) (extractors own)

  abbrev pub good : Bool
  good = passed judged
