-- Resolving in plain facts (01, 'Resolving'). n is the extractor's own sample, y the layout of the recording; samples and
-- tracks are numbered from 1. p is the place of an extractor in its sample, q that of a unit of the sample named.
--
--   Sampled y m k               m is a sample of track k
--   BaseOf y n k c              c is the last sample of track k at or before the time of sample n
--   TimesRiseIn y k             within track k times strictly rise
--   On offset c m               m is sample_offset samples on from c, by number; the byte is signed
--   NamedBy y n index offset m  the extractor's track_ref_index and sample_offset name sample m
--   CopyStarts z o              a copy of z may start at data_offset o
--   CopyEnds z o n e            a copy of z from data_offset o, with data_length n, ends at e
--   CopyAmong z o e             it starts at o and ends at e, both borders of the same units: top-level ones, or those of one
--                               aggregator
--   CopyOf z o n qs             none of 25 to 28, and the copy is the units qs
--   Extraction r n p m qs       none of 23 to 28: the extractor names sample m, and stands for its units qs
--   GoodSample r n              none of 14 to 28
--   NamesIt r s n p             the extractor at p of sample n, which is well formed, names sample s
--   LinkedTo r n p k c          its linked track is k, and its base there is sample c
use Rattle.std.specs.Prelude.{ℕ, ◌+◌, ◌≤◌, ◌<◌, ◌≡◌, not, ◌&&◌, List, [], ◌∷◌, ◌++◌, map, ◌⊎◌, length}
use Rattle.words.specs.Tests.{◌≤?◌, ◌<?◌, ◌≡?◌}
use Rattle.words.specs.Lists.{◌∈◌, keep, nth}
use Rattle.words.specs.Bytes.{bytes, part}
use Rattle.units.specs.Units.{Sample, L, size, type, next, top_units}
use Rattle.units.specs.Extractors.{track_ref_index, sample_offset, data_offset, data_length}
use Rattle.units.specs.Aggregators.{included, additional_bytes, units}
use Rattle.bundles.specs.Recordings.{Layout, Recording, no_reference, sample_count, track_of, time_of, content_of}
use Rattle.resolution_rules.specs.Resolving.{sample_of, Span}
use Rattle.promise_rules.specs.Samples.{BorderAt, BorderIn, Formed}

module _ (y : Layout) where
  pub record Sampled (m k : ℕ) : Type 0 where
    pub some : 0 < m
    pub there : m ≤ sample_count y
    pub track : track_of y m ≡ k

  -- at or before the time of sample n, and every later one of the track after it
  pub record BaseOf (n k c : ℕ) : Type 0 where
    pub sample : Sampled c k
    pub before : time_of y c ≤ time_of y n
    pub last : (m : ℕ) → Sampled m k → c < m → time_of y n < time_of y m

  -- within track k times strictly rise
  abbrev pub TimesRiseIn : ℕ → Type 0
  TimesRiseIn k = (i j : ℕ) → Sampled i k → Sampled j k → i < j → time_of y i < time_of y j

-- 0 to 127 samples ahead; 128 to 255 are 256 less: 128 to 1 back
pub data On (offset c m : ℕ) : Type 0 where
  ahead : offset < 128 → m ≡ c + offset → On offset c m
  back : 128 ≤ offset → m + 256 ≡ c + offset → On offset c m

-- the linked track is the to-track of the index-th reference from the own track
pub record NamedBy (y : Layout) (n index offset m : ℕ) : Type 0 where
  pub track : ℕ
  pub some : 0 < index
  pub there : index ≤ length (keep (λ f. f.from ≡? track_of y n) y.references)
  pub reference : (nth (keep (λ f. f.from ≡? track_of y n) y.references) index no_reference).to ≡ track
  pub base : ℕ
  pub is_base : BaseOf y n track base
  pub steps : On offset base m
  pub sample : Sampled y m track

module _ (z : Sample) (o : ℕ) where
  -- at a top-level unit, or at one that the aggregator at p includes
  pub data CopyStarts : Type 0 where
    top : o ∈ top_units z → CopyStarts
    inside : (p : ℕ) → p ∈ top_units z → type z p ≡ 30 → o ∈ included z p → CopyStarts

  -- from a top-level unit it ends on a top-level border; from one that the aggregator at p includes it ends where a unit that p
  -- includes starts, or where p ends
  pub data CopyAmong (e : ℕ) : Type 0 where
    top : o ∈ top_units z → BorderAt z e → CopyAmong e
    inside : (p : ℕ) → p ∈ top_units z → type z p ≡ 30 → o ∈ included z p → BorderIn z p e → CopyAmong e

module _ (z : Sample) (o n : ℕ) where
  -- data_length 0: one unit, of an aggregator with what it covers; else so many bytes
  pub data CopyEnds : ℕ → Type 0 where
    unit : n ≡ 0 → (type z o ≡ 30 → ⊥) → CopyEnds (o + L z + size z o)
    aggregator : n ≡ 0 → type z o ≡ 30 → CopyEnds (next z o + additional_bytes z o)
    span : 0 < n → CopyEnds (o + n)

  pub record CopyOf (qs : List ℕ) : Type 0 where
    -- 25; 26 and 27; 28
    pub formed : Formed z
    pub end : ℕ
    pub ends : CopyEnds end
    pub among : CopyAmong z o end
    -- the units, included ones too, from data_offset up to the end, but aggregators
    pub units : qs ≡ keep (λ q. (o ≤? q) && (q <? end)) (keep (λ q. not (type z q ≡? 30)) (units z))
    pub no_extractor : (q : ℕ) → q ∈ qs → type z q ≡ 31 → ⊥

module _ (r : Recording) (n : ℕ) where
  pub record Extraction (p m : ℕ) (qs : List ℕ) : Type 0 where
    pub names : NamedBy r.layout n (track_ref_index (sample_of r n) p) (sample_offset (sample_of r n) p) m
    pub copies : CopyOf (sample_of r m) (data_offset (sample_of r n) p) (data_length (sample_of r n) p) qs

  pub record GoodSample : Type 0 where
    pub formed : Formed (sample_of r n)
    pub extracts :
        (p : ℕ) → p ∈ units (sample_of r n) → type (sample_of r n) p ≡ 31 → (m : ℕ) × (qs : List ℕ) × Extraction p m qs

--   delivered_unit r m q         the unit at q of sample m, as it is delivered: its sample, its start after the length field, its size
--   Delivers r n ps us           the units at places ps of sample n deliver us, in order: an aggregator's header is dropped, an
--                                extractor replaced by the units that it copies, any other unit delivered as it stands
--   unit_bytes r u               the bytes of a delivered unit
--   after_length r u             a delivered unit as it is written
--   Resolved r n us              sample n is good and delivers us
--   StandsAt b r n u start size  where a delivered unit stands in the bundle
abbrev pub delivered_unit : Recording → ℕ → ℕ → Span
delivered_unit r m q = record { sample = m; start = q + L (sample_of r m); size = size (sample_of r m) q }

pub data Delivers (r : Recording) (n : ℕ) : List ℕ → List Span → Type 0 where
  none : Delivers r n [] []
  unit :
      (p : ℕ) {ps : List ℕ} {us : List Span} → (type (sample_of r n) p ≡ 30 → ⊥) → (type (sample_of r n) p ≡ 31 → ⊥) →
      Delivers r n ps us → Delivers r n (p ∷ ps) (delivered_unit r n p ∷ us)
  aggregator :
      (p : ℕ) {ps : List ℕ} {us : List Span} → type (sample_of r n) p ≡ 30 → Delivers r n ps us → Delivers r n (p ∷ ps) us
  extractor :
      (p m : ℕ) (qs : List ℕ) {ps : List ℕ} {us : List Span} → type (sample_of r n) p ≡ 31 → Extraction r n p m qs →
      Delivers r n ps us → Delivers r n (p ∷ ps) (map (delivered_unit r m) qs ++ us)

abbrev pub unit_bytes : Recording → Span → List ℕ
unit_bytes r u = part (content_of r u.sample) u.start u.size

-- a delivered unit after its length in 4 bytes
abbrev pub after_length : Recording → Span → List ℕ
after_length r u = bytes 4 u.size ++ unit_bytes r u

-- sample n is good and delivers us: all its units, included ones too, in order
pub record Resolved (r : Recording) (n : ℕ) (us : List Span) : Type 0 where
  pub some : 0 < n
  pub there : n ≤ sample_count r.layout
  pub good : GoodSample r n
  pub delivery : Delivers r n (units (sample_of r n)) us

-- where a delivered unit u of sample n stands in the bundle b: in the own sample, or in one that an extractor of it names
pub record StandsAt (b : List ℕ) (r : Recording) (n : ℕ) (u : Span) (start size : ℕ) : Type 0 where
  pub some : 0 < size
  pub inside : start + size ≤ length b
  pub bytes : part b start size ≡ unit_bytes r u
  pub from :
      (u.sample ≡ n) ⊎ ((p : ℕ) × (qs : List ℕ) × (p ∈ units (sample_of r n)) × Extraction r n p u.sample qs)

-- the extractor at p of sample n, top-level or included, names sample s: whatever 25 to 28 say of it
pub record NamesIt (r : Recording) (s n p : ℕ) : Type 0 where
  pub some : 0 < n
  pub there : n ≤ sample_count r.layout
  pub formed : Formed (sample_of r n)
  pub unit : p ∈ units (sample_of r n)
  pub extractor : type (sample_of r n) p ≡ 31
  pub names : NamedBy r.layout n (track_ref_index (sample_of r n) p) (sample_offset (sample_of r n) p) s

-- the extractor at p of sample n, which is well formed: a reference leads to track k, and c is the base there
pub record LinkedTo (r : Recording) (n p k c : ℕ) : Type 0 where
  pub some : 0 < n
  pub there : n ≤ sample_count r.layout
  pub formed : Formed (sample_of r n)
  pub unit : p ∈ units (sample_of r n)
  pub extractor : type (sample_of r n) p ≡ 31
  pub first : 0 < track_ref_index (sample_of r n) p
  pub last : track_ref_index (sample_of r n) p ≤ length (keep (λ f. f.from ≡? track_of r.layout n) r.layout.references)
  pub reference :
      (nth (keep (λ f. f.from ≡? track_of r.layout n) r.layout.references) (track_ref_index (sample_of r n) p) no_reference).to ≡ k
  pub base : BaseOf r.layout n k c
