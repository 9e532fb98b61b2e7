-- A byte stream judged, unit by unit, as the code does it.
--
--   stream_size r n      32 of what sample n delivers, or the length of its stream
--   stream_most          more than any stream's length: 4 times the units and bytes that a bundle of at most 16 MiB can deliver
use Rattle.std.specs.Prelude.{ℕ}
use Rattle.words.specs.Refusals.{Answer}
use Rattle.words.specs.Buffers.{counted}
use Rattle.byte_streams.specs.Writing.{to_stream}
use Rattle.bundles.specs.Recordings.{Recording}
use Rattle.resolution_rules.specs.Resolving.{delivered}
use Rattle.resolution_rules.specs.Calls.{bytes_of}

abbrev pub stream_most : ℕ
stream_most = 1125899973951488

unfoldable pub stream_size : Recording → ℕ → Answer ℕ
stream_size r n = counted (to_stream (bytes_of r (delivered r n)))
