-- Request [3] of document 02, 'Byte stream in', in its order and nearly in its words, as theorems in plain facts. The proofs
-- stand in crates/promise_rules/proofs/FromStreamLaws. Of the lent buffer `refusal_leaves` and `answer_leaves` of Demands say
-- what is left, of the C function `c_output`. Assumes nothing.
--
--   from_stream n s room  the call: the byte stream s as a sample of length size n, with room for it
--   ByteStream us s       s is a byte stream of the units us, as in Request02 (byte_streams/specs/Grammar)
--   ReadAs n s us         that; n is 1, 2 or 4, and every unit is shorter than 256 ^ n bytes (promise_rules/specs/Streams)
--   with_lengths n us     each unit after its length in n bytes (the same)
--   StreamFault L s m p   what 33 or 34 names stands at p: five cases, each with its place (byte_streams/specs/Faults)
--   FirstFault L s m p    it is the first by place (the same)
--   FromStreamRefused     with which number, and where (promise_rules/specs/Streams)
use Rattle.std.specs.Prelude.{ℕ, ◌+◌, ◌/◌, ◌^◌, ◌≤◌, ◌<◌, ◌≡◌, List, [], ◌∷◌, map, ◌⊎◌, ◌↔◌, length, replicate}
use Rattle.words.specs.Lists.{◌∈◌, each}
use Rattle.words.specs.Bytes.{Bytes}
use Rattle.words.specs.Refusals.{refused, ok}
use Rattle.byte_streams.specs.Grammar.{zeros}
use Rattle.byte_streams.specs.Faults.{StreamFault}
use Rattle.byte_streams.specs.Writing.{to_stream}
use Rattle.byte_streams.specs.Reading.{from_stream}
use Rattle.bundles.specs.Recordings.{Recording}
use Rattle.bundles.specs.Readers.{first_layout}
use Rattle.resolution_rules.specs.Resolving.{Span}
use Rattle.resolution_rules.specs.Calls.{resolve_call, stream_call}
use Rattle.promise_rules.specs.Resolving.{Resolved, unit_bytes}
use Rattle.promise_rules.specs.Streams.{ReadAs, with_lengths, FromStreamRefused}
use Rattle.promise_rules.proofs.FromStreamLaws as laws

-- (a) Accepted exactly if the length size is 1, 2 or 4, the stream is a sequence of units that all fit it, and there is room;
-- the output is exactly they, each after its length
pub from_stream_exactly :
    (n : ℕ) (s : List ℕ) (room : ℕ) (out : List ℕ) →
    (from_stream n s room ≡ ok out) ↔ ((us : List (List ℕ)) × ReadAs n s us × (out ≡ with_lengths n us) × (length out ≤ room))
from_stream_exactly = laws.from_stream_exactly

-- the units are determined, by the stream and by the output
pub units_determined : (n k : ℕ) (s : List ℕ) (us vs : List (List ℕ)) → ReadAs n s us → ReadAs k s vs → us ≡ vs
units_determined = laws.units_determined

pub one_sample :
    (n : ℕ) (s t : List ℕ) (us vs : List (List ℕ)) → ReadAs n s us → ReadAs n t vs → with_lengths n us ≡ with_lengths n vs → us ≡ vs
one_sample = laws.one_sample

-- an empty stream, or one of zeros only, gives the empty sample
pub zeros_only : (n : ℕ) → n ∈ (1 ∷ 2 ∷ 4 ∷ []) → (k room : ℕ) → from_stream n (zeros k) room ≡ ok []
zeros_only = laws.zeros_only

-- the room of the stream's length and a quarter of it is always enough, for lengths of 1 or 2 bytes that of the stream
pub room_enough :
    (n : ℕ) (s : List ℕ) (us : List (List ℕ)) → ReadAs n s us →
    (length (with_lengths n us) ≤ length s + length s / 4) × (n < 4 → length (with_lengths n us) ≤ length s)
room_enough = laws.room_enough

-- (b) Refused: 11 at 0 for another length size, before all; then the first 33 or 34 by place; then 29 at 0
pub from_stream_refused :
    (n : ℕ) (s : List ℕ) (room m p : ℕ) → (from_stream n s room ≡ refused m p) ↔ FromStreamRefused n s room m p
from_stream_refused = laws.from_stream_refused

-- a stream has a 33 or a 34 exactly if it is no sequence of units that all fit
pub fault_exactly :
    (n : ℕ) → n ∈ (1 ∷ 2 ∷ 4 ∷ []) → (s : List ℕ) →
    ((m : ℕ) × (p : ℕ) × StreamFault n s m p) ↔ (((us : List (List ℕ)) × ReadAs n s us) → ⊥)
fault_exactly = laws.fault_exactly

-- the number is 33 or 34, and the place that of a byte of the stream
pub fault_place :
    (n : ℕ) (s : List ℕ) (m p : ℕ) → StreamFault n s m p → ((m ≡ 33) ⊎ (m ≡ 34)) × (p < length s)
fault_place = laws.fault_place

-- (c) What [2] wrote comes back as the same units, given room and so long as they fit, for any length size
module _ (b : List ℕ) (bytes : Bytes b) (r : Recording) (accepted : first_layout.means b ≡ ok r) (k : ℕ) where
  pub comes_back :
      (us : List Span) → Resolved r k us → (room : ℕ) (s : List ℕ) → stream_call first_layout b k room ≡ ok s →
      (n : ℕ) → n ∈ (1 ∷ 2 ∷ 4 ∷ []) → ((u : Span) → u ∈ us → length (unit_bytes r u) < 256 ^ n) →
      (enough : ℕ) → length (with_lengths n (map (unit_bytes r) us)) ≤ enough →
      from_stream n s enough ≡ ok (with_lengths n (map (unit_bytes r) us))
  comes_back = laws.comes_back b bytes r accepted k

  -- with length size 4, as the output of resolving
  pub comes_back_resolved :
      (room : ℕ) (s : List ℕ) → stream_call first_layout b k room ≡ ok s →
      (enough : ℕ) → from_stream 4 s enough ≡ resolve_call first_layout b k enough
  comes_back_resolved = laws.comes_back_resolved b bytes r accepted k

-- and the units read from a stream, written again as [2] writes units, are a stream that reads back as them
pub written_again_lem :
    (n : ℕ) (s : List ℕ) (us : List (List ℕ)) → ReadAs n s us →
    (t : List ℕ) × (to_stream us ≡ ok t) × (t ≡ each (λ u. 0 ∷ 0 ∷ 0 ∷ 1 ∷ u) us) × ReadAs n t us
    × ((room : ℕ) → from_stream n t room ≡ from_stream n s room)
written_again_lem = laws.written_again_lem

-- In bytes: start codes of three and of four bytes, zeros after a unit; 00 00 03 in a unit, and zeros that it begins with; a
-- length of two bytes; each 33; 34, which comes before a 33 inside the unit, and a unit one byte shorter; 11 before all, 29 last
pub in_bytes :
    (from_stream 1 (0 ∷ 0 ∷ 0 ∷ 1 ∷ 0x67 ∷ 0 ∷ 0 ∷ 1 ∷ 0x65 ∷ 0x88 ∷ 0 ∷ 0 ∷ []) 5 ≡ ok (1 ∷ 0x67 ∷ 2 ∷ 0x65 ∷ 0x88 ∷ []))
    × (from_stream 1 (0 ∷ 0 ∷ 1 ∷ 0 ∷ 0 ∷ 5 ∷ 0 ∷ 0 ∷ 3 ∷ 0 ∷ 1 ∷ []) 9 ≡ ok (8 ∷ 0 ∷ 0 ∷ 5 ∷ 0 ∷ 0 ∷ 3 ∷ 0 ∷ 1 ∷ []))
    × (from_stream 2 (0 ∷ 0 ∷ 1 ∷ 0x65 ∷ []) 9 ≡ ok (0 ∷ 1 ∷ 0x65 ∷ []))
    × (from_stream 1 (0 ∷ 1 ∷ 0x65 ∷ []) 9 ≡ refused 33 1)
    × (from_stream 1 (0 ∷ 0 ∷ 1 ∷ 0x65 ∷ 0 ∷ 0 ∷ 2 ∷ []) 9 ≡ refused 33 6)
    × (from_stream 1 (0 ∷ 0 ∷ 1 ∷ 0 ∷ 0 ∷ 0 ∷ 5 ∷ []) 9 ≡ refused 33 6)
    × (from_stream 1 (0 ∷ 0 ∷ 0 ∷ 1 ∷ 0 ∷ 0 ∷ 1 ∷ 0x65 ∷ []) 9 ≡ refused 33 3)
    × (from_stream 1 (0 ∷ 0 ∷ 1 ∷ 0 ∷ 0 ∷ 2 ∷ replicate 253 0x88) 299 ≡ refused 34 3)
    × (from_stream 1 (0 ∷ 0 ∷ 1 ∷ 0 ∷ 0 ∷ 2 ∷ replicate 252 0x88) 299 ≡ refused 33 5)
    × (from_stream 3 (0x65 ∷ []) 0 ≡ refused 11 0)
    × (from_stream 1 (0x65 ∷ []) 0 ≡ refused 33 0)
    × (from_stream 1 (0 ∷ 0 ∷ 1 ∷ 0x65 ∷ []) 1 ≡ refused 29 0)
in_bytes = laws.in_bytes_lem
