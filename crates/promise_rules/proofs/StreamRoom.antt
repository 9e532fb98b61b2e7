-- 29 of a byte stream, from what the calls find. In a file of its own, since a must-fail edit changes it. Assumes nothing.
--
--   room_case  all units of the sample stand in some byte stream, and their stream is longer than the room
use Prim.Native.Nat.{ℕ, ◌<◌}
use mathlib.Core.Path.{◌≡◌}
use mathlib.Core.List.{List}
use lib.ListN.{length}
use Rattle.words.specs.Refusals.{ok}
use Rattle.words.specs.Lists.{◌∈◌, each}
use Rattle.bundles.specs.Recordings.{Recording}
use Rattle.bundles.specs.Readers.{first_layout}
use Rattle.resolution_rules.specs.Resolving.{Span}
use Rattle.promise_rules.specs.Resolving.{Resolved, unit_bytes, after_length}
use Rattle.promise_rules.specs.Streams.{InStream, StreamRefused}

pub room_case :
    (b : List ℕ) (n room : ℕ) (r : Recording) (us : List Span) → first_layout.means b ≡ ok r → Resolved r n us →
    ((u : Span) → u ∈ us → InStream (unit_bytes r u)) → room < length (each (after_length r) us) → StreamRefused b n room 29 0
room_case b n room r us f d w k = StreamRefused.room r us f d w k
