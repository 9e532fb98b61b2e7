-- What is proved of a reader of bundles, for the promises on the calls: of the first layout in proofs/Readers.
--
--   DifferentTracks y    references join different tracks
--   Sound reader         all that is needed of a reader
use Rattle.std.specs.Prelude.{ℕ, ◌+◌, ◌≤◌, ◌<◌, ◌≡◌, List, length}
use Rattle.words.specs.Refusals.{refused, ok}
use Rattle.words.specs.Lists.{◌∈◌}
use Rattle.words.specs.Bytes.{part, splice}
use Rattle.bundles.specs.Limits.{bundle_most, sample_most}
use Rattle.bundles.specs.Recordings.{Layout, Reference, Recording, sample_count, content_of, replaced}
use Rattle.bundles.specs.Readers.{Reader}
use Rattle.links.specs.Order.{TimesRise}

abbrev pub DifferentTracks : Layout → Type 0
DifferentTracks y = (f : Reference) → f ∈ y.references → f.from ≡ f.to → ⊥

-- Of an accepted bundle b, which means r; of a refused one.
pub record Sound (reader : Reader) : Type 0 where
  -- references join different tracks, times rise
  pub apart : (b : List ℕ) (r : Recording) → reader.means b ≡ ok r → DifferentTracks r.layout
  pub rise : (b : List ℕ) (r : Recording) → reader.means b ≡ ok r → TimesRise r.layout
  -- the limits
  pub samples : (b : List ℕ) (r : Recording) → reader.means b ≡ ok r → sample_count r.layout ≤ sample_most
  pub contents : (b : List ℕ) (r : Recording) → reader.means b ≡ ok r → (n : ℕ) → length (content_of r n) ≤ bundle_most
  -- the bytes of a sample lie in the bundle, at content_at
  pub inside :
      (b : List ℕ) (r : Recording) (n : ℕ) → reader.means b ≡ ok r → 0 < n → n ≤ sample_count r.layout →
      reader.content_at b n + length (content_of r n) ≤ length b
  pub placed :
      (b : List ℕ) (r : Recording) (n : ℕ) → reader.means b ≡ ok r → 0 < n → n ≤ sample_count r.layout →
      content_of r n ≡ part b (reader.content_at b n) (length (content_of r n))
  -- replaced by as many others: accepted still, with these bytes replaced in the recording and nothing else
  pub replacing :
      (b : List ℕ) (r : Recording) (n : ℕ) (new : List ℕ) → reader.means b ≡ ok r →
      0 < n → n ≤ sample_count r.layout → length new ≡ length (content_of r n) →
      reader.means (splice b (reader.content_at b n) new) ≡ ok (replaced r n new)
  -- a refusal's number is one of the reader's, its place lies in the bundle or at its end
  pub refusal : (b : List ℕ) (m p : ℕ) → reader.means b ≡ refused m p → (m ∈ reader.refusals) × (p ≤ length b)
