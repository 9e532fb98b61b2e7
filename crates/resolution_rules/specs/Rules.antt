-- The rules of resolving in plain facts, in which the promises of proofs/Promises are stated.
--
--   Extracts r n p                              none of 23 to 28 holds of the extractor at p
--   Good r n                                    sample n is good
--   Delivers r n ps us                          the units at places ps deliver us, in order
--   Plain r u                                   u is a unit of its sample, and neither an aggregator nor an extractor
--   Apart r n                                   no extractor of sample n names sample n itself
--   times_delivered                             how often a unit of a sample is delivered
--   JudgedRefusal                               a refusal of a sample: its number, and its place
--   FirstRefused                                the first extractor that is refused, in a well-formed sample
--   Resolves, ResolveRefuses                    when resolving a sample answers, and when it is refused
--   UnitRefuses                                 when one delivered unit is refused
--   CallResolves, CallRefuses, UnitCallRefuses  the same by a bundle and a reader
use Rattle.std.specs.Prelude.{ℕ, ◌+◌, ◌≤◌, ◌<◌, ◌≡◌, List, [], ◌∷◌, ◌++◌, true, false, ◌&&◌, ◌⊎◌, length}
use Rattle.words.specs.Tests.{◌≡?◌}
use Rattle.words.specs.Refusals.{refused, ok}
use Rattle.words.specs.RefusalNumbers.{sample_refusals, output_too_long, no_such_number}
use Rattle.words.specs.Lists.{keep, ◌∈◌}
use Rattle.words.specs.Bytes.{byte_at}
use Rattle.numbers.specs.Headers.{nal_type}
use Rattle.units.specs.Units.{L, size, aggregator_type, extractor_type, is_aggregator, is_extractor}
use Rattle.units.specs.Extractors.{track_ref_index, data_offset, data_length}
use Rattle.units.specs.Aggregators.{units, extractors}
use Rattle.samples.specs.Check.{check}
use Rattle.bundles.specs.Recordings.{Recording, sample_count, track_of, references_from, samples_in, content_of}
use Rattle.bundles.specs.Readers.{Reader}
use Rattle.links.specs.Links.{linked_track}
use Rattle.copies.specs.Rules.{CopyRules}
use Rattle.resolution_rules.specs.Resolving.{sample_of, Span, span_of, own, named, linked, extract_fault, copied_at, delivered, judged}
use Rattle.resolution_rules.specs.Calls.{span_bytes, output}

module _ (r : Recording) (n : ℕ) where
  pub record Extracts (p : ℕ) : Type 0 where
    -- 23, 24, 25 to 28
    pub index :
        (0 < track_ref_index (own r n) p) × (track_ref_index (own r n) p ≤ length (references_from r.layout (track_of r.layout n)))
    pub there : named r n p ∈ samples_in r.layout (linked_track r.layout n (track_ref_index (own r n) p))
    pub copy : CopyRules (linked r n p) (data_offset (own r n) p) (data_length (own r n) p)

  pub record Good : Type 0 where
    pub formed : check (own r n) ≡ ok tt
    pub extracts : (p : ℕ) → p ∈ extractors (own r n) → Extracts p

  -- Each unit once, in order: an aggregator's head is dropped, an extractor is replaced, any other unit is delivered as it stands.
  pub data Delivers : List ℕ → List Span → Type 0 where
    none : Delivers [] []
    unit :
        {p : ℕ} {ps : List ℕ} {us : List Span} → is_aggregator (own r n) p ≡ false → is_extractor (own r n) p ≡ false →
        Delivers ps us → Delivers (p ∷ ps) (span_of n (own r n) p ∷ us)
    aggregator :
        {p : ℕ} {ps : List ℕ} {us : List Span} → is_aggregator (own r n) p ≡ true →
        Delivers ps us → Delivers (p ∷ ps) us
    extractor :
        {p : ℕ} {ps : List ℕ} {us : List Span} → is_extractor (own r n) p ≡ true →
        Delivers ps us → Delivers (p ∷ ps) (copied_at r n p ++ us)

  abbrev pub Apart : Type 0
  Apart = (p : ℕ) → p ∈ extractors (own r n) → named r n p ≡ n → ⊥

  -- how often the unit at q of sample n is delivered
  abbrev pub times_delivered : ℕ → ℕ
  times_delivered q = length (keep (λ u. (u.sample ≡? n) && (u.start ≡? q + L (own r n))) (delivered r n))

  abbrev pub JudgedRefusal : ℕ → ℕ → Type 0
  JudgedRefusal m p = (m ∈ sample_refusals) × (p < length (content_of r n))

  -- with m, at p: no extractor before it is
  pub record FirstRefused (m p : ℕ) : Type 0 where
    pub formed : check (own r n) ≡ ok tt
    pub extractor : p ∈ extractors (own r n)
    pub refuses : extract_fault r n p ≡ m
    pub some : 0 < m
    pub earlier : (q : ℕ) → q ∈ extractors (own r n) → q < p → extract_fault r n q ≡ 0

-- A delivered unit: it starts right after the length field of a unit of its sample, has that unit's size and lies in the sample.
pub record Plain (r : Recording) (u : Span) : Type 0 where
  pub place : ℕ
  pub unit : place ∈ units (sample_of r u.sample)
  pub start : u.start ≡ place + L (sample_of r u.sample)
  pub size : u.size ≡ size (sample_of r u.sample) place
  pub some : 0 < u.size
  pub inside : u.start + u.size ≤ length (content_of r u.sample)
  pub aggregator : is_aggregator (sample_of r u.sample) place ≡ false
  pub extractor : is_extractor (sample_of r u.sample) place ≡ false
  -- the same of its own bytes
  pub type : (nal_type (byte_at (span_bytes r u) 0) ≡ aggregator_type → ⊥) × (nal_type (byte_at (span_bytes r u) 0) ≡ extractor_type → ⊥)

-- resolving sample n of the recording r, with room for the output
module _ (r : Recording) (n room : ℕ) where
  pub record Resolves (out : List ℕ) : Type 0 where
    pub number : (0 < n) × (n ≤ sample_count r.layout)
    pub good : judged r n ≡ ok tt
    pub delivers : out ≡ output r (delivered r n)
    pub fits : length out ≤ room

  -- 30, 14 to 28, 29
  pub data ResolveRefuses : ℕ → ℕ → Type 0 where
    number : (n ≡ 0) ⊎ (sample_count r.layout < n) → ResolveRefuses no_such_number 0
    sample : {m p : ℕ} → 0 < n → n ≤ sample_count r.layout → judged r n ≡ refused m p → ResolveRefuses m p
    too_long :
        0 < n → n ≤ sample_count r.layout → judged r n ≡ ok tt → room < length (output r (delivered r n)) →
        ResolveRefuses output_too_long 0

-- unit k of sample n of the recording r: 30, 14 to 28, 30 for the unit's number
pub data UnitRefuses (r : Recording) (n k : ℕ) : ℕ → ℕ → Type 0 where
  number : (n ≡ 0) ⊎ (sample_count r.layout < n) → UnitRefuses r n k no_such_number 0
  sample : {m p : ℕ} → 0 < n → n ≤ sample_count r.layout → judged r n ≡ refused m p → UnitRefuses r n k m p
  unit :
      0 < n → n ≤ sample_count r.layout → judged r n ≡ ok tt → (k ≡ 0) ⊎ (length (delivered r n) < k) →
      UnitRefuses r n k no_such_number 0

-- the calls on the bundle b: 1 to 13, else as its recording says
module _ (reader : Reader) (b : List ℕ) (n : ℕ) where
  pub record CallResolves (room : ℕ) (out : List ℕ) : Type 0 where
    pub recording : Recording
    pub means : reader.means b ≡ ok recording
    pub resolves : Resolves recording n room out

  pub data CallRefuses (room : ℕ) : ℕ → ℕ → Type 0 where
    bundle : {m p : ℕ} → reader.means b ≡ refused m p → CallRefuses room m p
    recording : {m p : ℕ} (r : Recording) → reader.means b ≡ ok r → ResolveRefuses r n room m p → CallRefuses room m p

  pub data UnitCallRefuses (k : ℕ) : ℕ → ℕ → Type 0 where
    bundle : {m p : ℕ} → reader.means b ≡ refused m p → UnitCallRefuses k m p
    recording : {m p : ℕ} (r : Recording) → reader.means b ≡ ok r → UnitRefuses r n k m p → UnitCallRefuses k m p
