-- L, the length size of a track in bytes, and the sizes that go with it (01, 'Units in a sample').
use Rattle.std.specs.Prelude.{ℕ, ◌+◌, ◌*◌, None, Option, Some}
use Rattle.words.specs.Tests.{◌≡?◌, pick}
use Rattle.words.specs.RefusalNumbers.{bad_length_size}
use Rattle.words.specs.Refusals.{Answer, refused}
use Rattle.numbers.specs.declared.LengthSize.{LengthSize}
use Rattle.numbers.specs.declared.LengthSize.TheVariants.{One, Two, Four}

abbrev pub in_bytes : LengthSize → ℕ
in_bytes One = 1
in_bytes Two = 2
in_bytes Four = 4

-- 1, 2 or 4
abbrev pub length_size_of : ℕ → Option LengthSize
length_size_of n =
    pick (n ≡? 1) (Some One)
    (pick (n ≡? 2) (Some Two)
    (pick (n ≡? 4) (Some Four)
    None))

-- 11 at 0, outside a bundle
abbrev pub on_length_size : {A : Type 0} → Option LengthSize → (LengthSize → Answer A) → Answer A
on_length_size (Some l) call = call l
on_length_size None call = refused bad_length_size 0

-- the header of units of types 14, 20, 30 and 31
abbrev pub header_size : ℕ
header_size = 4

-- an extractor: header, track_ref_index, sample_offset, data_offset, data_length (B.3.2)
abbrev pub extractor_size : LengthSize → ℕ
extractor_size l = 6 + 2 * in_bytes l

-- an aggregator: header, additional_bytes, included units (B.2.2)
abbrev pub least_aggregator : LengthSize → ℕ
least_aggregator l = header_size + in_bytes l
