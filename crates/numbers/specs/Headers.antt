-- The first byte of a NAL unit (5.2.3; ISO/IEC 14496-10, 7.3.1): forbidden_zero_bit, nal_ref_idc in two bits, nal_unit_type in five.
--
--   forbidden_bit h   whether the top bit is 1, which it may not be
--   nal_type h        the type, the low five bits
use Rattle.std.specs.Prelude.{ℕ, ◌%◌, Bool}
use Rattle.words.specs.Tests.{◌≤?◌}

abbrev pub forbidden_bit : ℕ → Bool
forbidden_bit h = 128 ≤? h

abbrev pub nal_type : ℕ → ℕ
nal_type h = h % 32
