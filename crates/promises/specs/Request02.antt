-- Request [2] of document 02, 'Byte stream out', in its order and nearly in its words, as theorems in plain facts. The proofs
-- stand in crates/promise_rules/proofs/StreamLaws. Of the lent buffer `refusal_leaves` and `answer_leaves` of Demands say what is
-- left, of the C function `c_output`. Assumes nothing.
--
--   ByteStream us s  s is a byte stream of the units us: zeros, then each unit, after 00 00 01 and followed by zeros
--   Streamable u     u is not empty, does not end in 00, and holds none of 00 00 00, 00 00 01, 00 00 02. Both say nothing of
--                    how a byte stream is written (byte_streams/specs/Grammar)
--   Resolved r n us  sample n is good and delivers the units us (promise_rules/specs/Resolving)
--   unit_bytes r u   the bytes of a delivered unit (the same)
--   InStream u       the unit u stands in some byte stream (promise_rules/specs/Streams)
--   StreamRefused    with which number, and where (the same)
use Rattle.std.specs.Prelude.{ℕ, ◌+◌, ◌≤◌, ◌<◌, ◌≡◌, List, ◌∷◌, ◌++◌, map, ◌↔◌, length}
use Rattle.words.specs.Lists.{◌∈◌, each}
use Rattle.words.specs.Bytes.{Bytes, big, part, splice}
use Rattle.words.specs.Refusals.{refused, ok}
use Rattle.byte_streams.specs.Grammar.{Streamable, ByteStream}
use Rattle.bundles.specs.Recordings.{Recording, sample_count, content_of}
use Rattle.bundles.specs.Readers.{first_layout}
use Rattle.resolution_rules.specs.Resolving.{Span}
use Rattle.resolution_rules.specs.Calls.{resolve_call, stream_call}
use Rattle.naming_list_rules.specs.Rules.{Unlisted}
use Rattle.promise_rules.specs.Resolving.{Resolved, unit_bytes}
use Rattle.promise_rules.specs.Streams.{InStream, StreamRefused}
use Rattle.promise_rules.proofs.StreamLaws as laws

-- Byte streams: one is that of one list of units only
pub one_reading : {us vs : List (List ℕ)} {s : List ℕ} → ByteStream us s → ByteStream vs s → us ≡ vs
one_reading = laws.one_reading

-- two, one after the other, are that of the units of both: so are the samples of a track
pub joined :
    {us vs : List (List ℕ)} {s t : List ℕ} → ByteStream us s → ByteStream vs t → ByteStream (us ++ vs) (s ++ t)
joined = laws.joined

-- a unit stands in one exactly if it follows the rules for units
pub in_stream_exactly : (u : List ℕ) → InStream u ↔ Streamable u
in_stream_exactly = laws.in_stream_exactly

module _ (b : List ℕ) (bytes : Bytes b) where
  -- Refused: as resolving, 1 to 13, 30, 14 to 28; then 32 for the first unit that stands in no byte stream, at the offset of its
  -- 4-byte length in the output of resolving; then 29 at 0
  pub stream_refused : (n room m p : ℕ) → (stream_call first_layout b n room ≡ refused m p) ↔ StreamRefused b n room m p
  stream_refused = laws.stream_refused b bytes

  -- Of a bundle b that is accepted and means r
  module _ (r : Recording) (accepted : first_layout.means b ≡ ok r) (n : ℕ) where
    module _ (some : 0 < n) (there : n ≤ sample_count r.layout) (room : ℕ) where
      -- (a) the answer: 00 00 00 01 before each delivered unit, in order; given exactly if the sample is good, each unit stands
      -- in some byte stream and there is room
      pub stream_exactly :
          (s : List ℕ) → (stream_call first_layout b n room ≡ ok s)
          ↔ ((us : List Span) × Resolved r n us × ((u : Span) → u ∈ us → InStream (unit_bytes r u))
          × (s ≡ each (λ u. 0 ∷ 0 ∷ 0 ∷ 1 ∷ unit_bytes r u) us) × (length s ≤ room))
      stream_exactly = laws.stream_exactly b bytes r accepted n some there room

    -- (b) the stream gives back the delivered units, in order, and no others
    pub gives_back :
        (us : List Span) → Resolved r n us → (room : ℕ) (s : List ℕ) → stream_call first_layout b n room ≡ ok s →
        ByteStream (map (unit_bytes r) us) s × ((vs : List (List ℕ)) → ByteStream vs s → vs ≡ map (unit_bytes r) us)
    gives_back = laws.gives_back b bytes r accepted n

    -- (c) 32 exactly if a delivered unit stands in no byte stream, whatever the room
    pub refused_32 :
        (us : List Span) → Resolved r n us → (room : ℕ) →
        ((p : ℕ) × (stream_call first_layout b n room ≡ refused 32 p))
        ↔ ((u : Span) × (u ∈ us) × (InStream (unit_bytes r u) → ⊥))
    refused_32 = laws.refused_32 b bytes r accepted n

    -- at its place, which `stream_refused` fixes, the output of resolving has a length in 4 bytes, and then such a unit
    pub place_32 :
        (room p : ℕ) → stream_call first_layout b n room ≡ refused 32 p →
        (enough : ℕ) (out : List ℕ) → resolve_call first_layout b n enough ≡ ok out →
        (p + 4 + big out p 4 ≤ length out) × (InStream (part out (p + 4) (big out p 4)) → ⊥)
    place_32 = laws.place_32 b bytes r accepted n

    -- (d) the stream is as long as the output of resolving, so the same room serves
    pub as_long :
        (room : ℕ) (s : List ℕ) → stream_call first_layout b n room ≡ ok s →
        (out : List ℕ) × (resolve_call first_layout b n room ≡ ok out) × (length out ≡ length s)
    as_long = laws.as_long b bytes r accepted n

  -- Demand 3: any bytes of the same length in place of those of sample s; every other sample without an extractor in the list
  -- of s is the same byte stream, or refused with the same number at the same place
  pub others_stream :
      (r : Recording) → first_layout.means b ≡ ok r → (s : ℕ) → 0 < s → s ≤ sample_count r.layout →
      (new : List ℕ) → length new ≡ length (content_of r s) → (n : ℕ) → (n ≡ s → ⊥) → Unlisted r s n → (room : ℕ) →
      stream_call first_layout (splice b (first_layout.content_at b s) new) n room ≡ stream_call first_layout b n room
  others_stream = laws.others_stream b
