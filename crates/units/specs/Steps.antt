-- What the total functions for walks give, at any place p of any bytes, in what ends at e. At the units of a well-formed sample
-- `Nothing` does not come.
--
--   place p           p as the code has it
--   unit_of p         the unit at p
--   extractor_of p    the fields of the extractor at p
--   extractor_at e p  the same, if it is one and has none of 14 to 18 and 22
use Rattle.std.specs.Prelude.{ℕ, ◌+◌, None, Option, Some}
use Rattle.words.specs.Tests.{◌≡?◌, pick}
use Rattle.numbers.specs.declared.ByteOffset.{ByteOffset}
use Rattle.units.specs.Units.{Sample, L, size, type, next, is_extractor, unit_fault}
use Rattle.units.specs.Extractors.{track_ref_index, sample_offset, data_offset, data_length, extractor_fault}
use Rattle.units.specs.declared.NalUnit.{NalUnit}
use Rattle.units.specs.declared.Extractor.{Extractor}

abbrev pub place : ℕ → ByteOffset
place p = record { 0 = p }

module _ (x : Sample) where
  abbrev pub unit_of : ℕ → NalUnit
  unit_of p = record { start = place (p + L x); size = size x p; nal_type = type x p; next = place (next x p) }

  abbrev pub extractor_of : ℕ → Extractor
  extractor_of p = record {
    track_ref_index = track_ref_index x p;
    sample_offset = sample_offset x p;
    data_offset = place (data_offset x p);
    data_length = data_length x p;
  }

  unfoldable pub extractor_at : ℕ → ℕ → Option Extractor
  extractor_at e p =
      pick (unit_fault x e p ≡? 0)
      (pick (is_extractor x p)
      (pick (extractor_fault x p ≡? 0) (Some (extractor_of p)) None)
      None)
      None
