-- Extractors (01, 'Units in a sample'; B.3): header, track_ref_index in 1 byte, signed sample_offset in 1, data_offset in L bytes,
-- data_length in L.
--
--   sample_offset_at, data_offset_at                          where these fields stand after the header
--   track_ref_index, sample_offset, data_offset, data_length  the fields of the extractor at a place
--   extractor_fault                                           22
use Rattle.std.specs.Prelude.{ℕ, ◌+◌, ◌&&◌, not}
use Rattle.words.specs.Tests.{◌≡?◌}
use Rattle.words.specs.Refusals.{◌if◌}
use Rattle.words.specs.RefusalNumbers.{bad_extractor_size}
use Rattle.words.specs.Bytes.{byte_at, big}
use Rattle.numbers.specs.Sizes.{header_size, extractor_size}
use Rattle.units.specs.Units.{Sample, L, size, is_extractor}

-- after track_ref_index in 1 byte sample_offset in 1, then data_offset
abbrev pub sample_offset_at : ℕ
sample_offset_at = 1

abbrev pub data_offset_at : ℕ
data_offset_at = 2

module _ (x : Sample) where
  abbrev pub track_ref_index : ℕ → ℕ
  track_ref_index p = byte_at x.content (p + L x + header_size)

  -- the byte as it stands: 128 and more are negative
  abbrev pub sample_offset : ℕ → ℕ
  sample_offset p = byte_at x.content (p + L x + header_size + sample_offset_at)

  abbrev pub data_offset : ℕ → ℕ
  data_offset p = big x.content (p + L x + header_size + data_offset_at) (L x)

  abbrev pub data_length : ℕ → ℕ
  data_length p = big x.content (p + L x + header_size + data_offset_at + L x) (L x)

  -- 22: an extractor is exactly 6 + 2L bytes
  abbrev pub extractor_fault : ℕ → ℕ
  extractor_fault p = bad_extractor_size if is_extractor x p && not (size x p ≡? extractor_size x.length_size)
