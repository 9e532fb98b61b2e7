-- What an extractor copies of the sample z that it names, by its data_offset o and its data_length n (01, 'Resolving'; 02, [4]; B.2.1,
-- B.3.3). It starts at a top-level unit, or at one that an aggregator includes, and ends on a border of the units beside that one.
--
--   without_aggregators z ps    units as they are delivered
--   includes z p q              whether the aggregator at p includes the unit at q
--   included_border z p q       whether q is a border of the units that it includes
--   copy_starts z o             whether a copy may start at o
--   copy_end, copy_ends         where it ends; whether it may end there
--   copied                      the units in it
--   form_fault z                25
--   start_fault z o, end_fault  26; 27
--   border_fault                the one, then the other
--   chain_fault z qs            28
--   copy_fault                  25 to 28
--   copy_units                  what a copy delivers: its units, or nothing where it is refused
use Rattle.std.specs.Prelude.{ℕ, ◌+◌, List, [], Bool, not, ◌||◌, ◌&&◌}
use Rattle.words.specs.Tests.{◌≤?◌, ◌<?◌, ◌≡?◌, pick, ◌when◌else◌}
use Rattle.words.specs.Refusals.{◌if◌, ◌or_else◌}
use Rattle.words.specs.RefusalNumbers.{named_ill_formed, bad_data_offset, bad_data_length, extractor_copied}
use Rattle.words.specs.Lists.{keep, some, has}
use Rattle.units.specs.Units.{Sample, next, is_aggregator, is_extractor, top_units, border}
use Rattle.units.specs.Aggregators.{included, cover_end, units}
use Rattle.samples.specs.Check.{well_formed}

-- Units as they are delivered: an aggregator's header and additional_bytes are dropped.
abbrev pub without_aggregators : Sample → List ℕ → List ℕ
without_aggregators z ps = keep (λ p. not (is_aggregator z p)) ps

-- The aggregator at p includes the unit at q.
abbrev pub includes : Sample → ℕ → ℕ → Bool
includes z p q = is_aggregator z p && has q (included z p)

-- A border of the units that the aggregator at p includes: the start of one of them, or the aggregator's end.
abbrev pub included_border : Sample → ℕ → ℕ → Bool
included_border z p q = (q ≡? next z p) || has q (included z p)

-- data_offset is the start of a unit: a top-level one, or one that an aggregator includes.
abbrev pub copy_starts : Sample → ℕ → Bool
copy_starts z o = has o (units z)

-- 25: the sample named is not well formed
abbrev pub form_fault : Sample → ℕ
form_fault z = named_ill_formed if not (well_formed z)

-- 26: data_offset wrong
abbrev pub start_fault : Sample → ℕ → ℕ
start_fault z o = bad_data_offset if not (copy_starts z o)

-- 28: an extractor among the units of a copy, also inside an aggregator
abbrev pub chain_fault : Sample → List ℕ → ℕ
chain_fault z qs = extractor_copied if some (is_extractor z) qs

module _ (z : Sample) (o n : ℕ) where
  -- data_length 0: that unit; for an aggregator also its additional_bytes. Otherwise that many bytes.
  unfoldable pub copy_end : ℕ
  copy_end = pick (is_aggregator z o) (cover_end z o) (next z o) when n ≡? 0 else o + n

  -- From a top-level unit it ends on a top-level border; from an included one on a border of the units that the same aggregator includes.
  unfoldable pub copy_ends : Bool
  copy_ends =
      pick (has o (top_units z)) (border z copy_end)
      (some (λ p. includes z p o && included_border z p copy_end) (top_units z))

  -- The units in it, included ones too. An aggregator in it adds nothing beyond the copy.
  unfoldable pub copied : List ℕ
  copied = keep (λ q. (o ≤? q) && (q <? copy_end)) (without_aggregators z (units z))

  -- 27: data_length wrong
  abbrev pub end_fault : ℕ
  end_fault = bad_data_length if not copy_ends

  -- 26, 27
  unfoldable pub border_fault : ℕ
  border_fault = start_fault z o or_else end_fault

  -- 25; 26, 27; 28
  unfoldable pub copy_fault : ℕ
  copy_fault = form_fault z or_else border_fault or_else chain_fault z copied

  -- What a copy delivers: nothing where it is refused.
  unfoldable pub copy_units : List ℕ
  copy_units = pick (copy_fault ≡? 0) copied []
