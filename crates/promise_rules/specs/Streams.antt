-- Samples as byte streams (02, [2]), and byte streams as samples (02, [3]), in plain facts. What a byte stream is stands in
-- crates/byte_streams/specs/Grammar, why bytes are none that can be read in Faults there.
--
--   InStream u                      the unit u stands in some byte stream
--   StreamRefused b n room m p      sample n as a byte stream: the bundle, the sample's number, the sample, the first unit that stands in
--                                   no byte stream, at the place of its length in the output of resolving, the room
--   ReadAs n s us                   s is a byte stream of the units us; n is 1, 2 or 4, and n bytes hold the length of each
--   with_lengths n us               each unit after its length in n bytes; stated anew, so that no theorem cites here what the code follows
--   FromStreamRefused n s room m p  s as a sample of length size n: the length size, the first fault of s by place, the room
use Rattle.std.specs.Prelude.{ℕ, ◌^◌, ◌<◌, ◌≡◌, List, [], ◌∷◌, ◌++◌, ◌⊎◌, length}
use Rattle.words.specs.Refusals.{ok}
use Rattle.words.specs.Lists.{◌∈◌, each}
use Rattle.words.specs.Bytes.{bytes}
use Rattle.byte_streams.specs.Grammar.{ByteStream}
use Rattle.byte_streams.specs.Faults.{FirstFault}
use Rattle.bundles.specs.Recordings.{Recording, sample_count}
use Rattle.bundles.specs.Readers.{first_layout}
use Rattle.resolution_rules.specs.Resolving.{Span}
use Rattle.promise_rules.specs.BundleFaults.{BundleRefused}
use Rattle.promise_rules.specs.Resolving.{Resolved, unit_bytes, after_length}
use Rattle.promise_rules.specs.Refused.{SampleRefused}

pub record InStream (u : List ℕ) : Type 0 where
  pub units : List (List ℕ)
  pub bytes : List ℕ
  pub stream : ByteStream units bytes
  pub stands : u ∈ units

pub data StreamRefused (b : List ℕ) (n room : ℕ) : ℕ → ℕ → Type 0 where
  bundle : {m p : ℕ} → BundleRefused b m p → StreamRefused b n room m p
  number : (r : Recording) → first_layout.means b ≡ ok r → (n ≡ 0) ⊎ (sample_count r.layout < n) → StreamRefused b n room 30 0
  sample : {m p : ℕ} (r : Recording) → first_layout.means b ≡ ok r → SampleRefused r n m p → StreamRefused b n room m p
  unit :
      (r : Recording) (us : List Span) (u : Span) (vs : List Span) → first_layout.means b ≡ ok r → Resolved r n (us ++ (u ∷ vs)) →
      ((v : Span) → v ∈ us → InStream (unit_bytes r v)) → (InStream (unit_bytes r u) → ⊥) →
      StreamRefused b n room 32 (length (each (after_length r) us))
  -- the byte stream is as long as the output of resolving
  room :
      (r : Recording) (us : List Span) → first_layout.means b ≡ ok r → Resolved r n us →
      ((u : Span) → u ∈ us → InStream (unit_bytes r u)) → room < length (each (after_length r) us) → StreamRefused b n room 29 0

pub record ReadAs (n : ℕ) (s : List ℕ) (us : List (List ℕ)) : Type 0 where
  pub size : n ∈ (1 ∷ 2 ∷ 4 ∷ [])
  pub stream : ByteStream us s
  pub fit : (u : List ℕ) → u ∈ us → length u < 256 ^ n

abbrev pub with_lengths : ℕ → List (List ℕ) → List ℕ
with_lengths n us = each (λ u. bytes n (length u) ++ u) us

pub data FromStreamRefused (n : ℕ) (s : List ℕ) (room : ℕ) : ℕ → ℕ → Type 0 where
  size : (n ∈ (1 ∷ 2 ∷ 4 ∷ []) → ⊥) → FromStreamRefused n s room 11 0
  fault : {m p : ℕ} → n ∈ (1 ∷ 2 ∷ 4 ∷ []) → FirstFault n s m p → FromStreamRefused n s room m p
  room : (us : List (List ℕ)) → ReadAs n s us → room < length (with_lengths n us) → FromStreamRefused n s room 29 0
