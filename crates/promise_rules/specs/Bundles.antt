-- A bundle b in plain facts, with the numbers of document 01, 'The bundle'. A byte past the end reads as 0.
--
--   two, three, four                            where the sections two to four start; the first starts at 0
--   track_places, reference_places              where the entries of sections one and two start
--   entry b n                                   where the entry of sample n starts
--   CountAt b p n least most                    a count of n bytes at p is there, from least to most
--   TrackAt, ReferenceAt, EntryAt               an entry of each section follows the rules
--   TrackSize b k l                             the record of track k states the length size l
--   TrackCount, ReferenceCount, SampleCount     the counts of the sections one to three
--   TracksOf, ReferencesOf, SamplesOf, BytesOf  the rules of a section hold
--   BundleOf b                                  all rules of the bundle hold
use Rattle.std.specs.Prelude.{ℕ, ◌+◌, ◌-◌, ◌*◌, ◌≤◌, ◌<◌, ◌≡◌, List, map, ◌⊎◌, length, drop}
use Rattle.words.specs.Lists.{◌∈◌, each, nth, upto, sum}
use Rattle.words.specs.Walks.{entries, skip}
use Rattle.words.specs.Bytes.{byte_at, big, part}
use Rattle.record_rules.specs.declared.Fields.{Fields}
use Rattle.numbers.specs.Sizes.{in_bytes}
use Rattle.numbers.specs.declared.Kind.TheVariants.{Avc, Svc}
use Rattle.bundles.specs.Recordings.{Track, Recording, no_track}
use Rattle.promise_rules.specs.Records.{RecordOf}

module _ (b : List ℕ) where
  -- section one: a count of 1 byte; each track has its kind in 1 byte, its record's length in 2, its record
  abbrev pub track_places : List ℕ
  track_places = entries (λ p. p + 3 + big b (p + 1) 2) (big b 0 1) 1

  -- section two: a count of 1 byte; each reference has its from-track and its to-track in 1 byte each
  abbrev pub two : ℕ
  two = skip (λ p. p + 3 + big b (p + 1) 2) (big b 0 1) 1

  abbrev pub reference_places : List ℕ
  reference_places = entries (λ p. p + 2) (big b two 1) (two + 1)

  -- section three: a count of 2 bytes; each sample has its track in 1 byte, its decode time in 8, its length in 4
  abbrev pub three : ℕ
  three = two + 1 + big b two 1 * 2

  abbrev pub entry : ℕ → ℕ
  entry n = three + 2 + (n - 1) * 13

  -- section four: a count of 4 bytes, the bytes
  abbrev pub four : ℕ
  four = three + 2 + big b three 2 * 13

  pub record CountAt (p n least most : ℕ) : Type 0 where
    pub inside : p + n ≤ length b
    pub some : least ≤ big b p n
    pub few : big b p n ≤ most

  pub record TrackAt (p : ℕ) : Type 0 where
    pub head : p + 3 ≤ length b
    pub inside : p + 3 + big b (p + 1) 2 ≤ length b
    pub fields : Fields
    pub sequences : List ℕ
    pub pictures : List ℕ
    pub extensions : List ℕ
    pub valid : RecordOf fields sequences pictures extensions (byte_at b p) (part b (p + 3) (big b (p + 1) 2))

  -- L of track k is l: its record states it
  pub record TrackSize (k l : ℕ) : Type 0 where
    pub track : TrackAt (nth track_places k 0)
    pub size : track.fields.length_size ≡ l

  -- both tracks exist, differ, and have the same L
  pub record ReferenceAt (p : ℕ) : Type 0 where
    pub inside : p + 2 ≤ length b
    pub from : (0 < big b p 1) × (big b p 1 ≤ big b 0 1)
    pub to : (0 < big b (p + 1) 1) × (big b (p + 1) 1 ≤ big b 0 1)
    pub apart : big b p 1 ≡ big b (p + 1) 1 → ⊥
    pub same : (l : ℕ) × TrackSize (big b p 1) l × TrackSize (big b (p + 1) 1) l

  -- its track exists; after the entry before it the track never falls, and in the same track the time rises
  pub record EntryAt (n : ℕ) : Type 0 where
    pub inside : entry n + 13 ≤ length b
    pub track : (0 < big b (entry n) 1) × (big b (entry n) 1 ≤ big b 0 1)
    pub order : 1 < n → big b (entry (n - 1)) 1 ≤ big b (entry n) 1
    pub times : 1 < n → big b (entry (n - 1)) 1 ≡ big b (entry n) 1 → big b (entry (n - 1) + 1) 8 < big b (entry n + 1) 8

  -- the counts: 1 to 16 tracks, at most 64 references, at most 4,096 samples
  abbrev pub TrackCount : Type 0
  TrackCount = CountAt 0 1 1 16

  abbrev pub ReferenceCount : Type 0
  ReferenceCount = CountAt two 1 0 64

  abbrev pub SampleCount : Type 0
  SampleCount = CountAt three 2 0 4096

  -- the sum of the samples' lengths
  abbrev pub total : ℕ
  total = sum (map (λ n. big b (entry n + 9) 4) (upto (big b three 2)))

  pub record TracksOf : Type 0 where
    pub count : TrackCount
    pub each : (p : ℕ) → p ∈ track_places → TrackAt p

  pub record ReferencesOf : Type 0 where
    pub count : ReferenceCount
    pub each : (p : ℕ) → p ∈ reference_places → ReferenceAt p

  pub record SamplesOf : Type 0 where
    pub count : SampleCount
    pub each : (n : ℕ) → n ∈ upto (big b three 2) → EntryAt n

  -- the fourth count is the sum of the lengths, and the bundle ends after so many bytes
  pub record BytesOf : Type 0 where
    pub count : big b four 4 ≡ total
    pub end : four + 4 + big b four 4 ≡ length b

  pub record BundleOf : Type 0 where
    pub short : length b ≤ 16777216
    pub tracks : TracksOf
    pub references : ReferencesOf
    pub samples : SamplesOf
    pub bytes : BytesOf

-- What an accepted bundle means.
--
--   TrackMeans b p t    the track t is what the entry at p says: its kind 0 or 1, its L that of its record
--   Means b r           the recording r is what the sections say
module _ (b : List ℕ) where
  pub record TrackMeans (p : ℕ) (t : Track) : Type 0 where
    pub kind : ((byte_at b p ≡ 0) × (t.kind ≡ Avc)) ⊎ ((byte_at b p ≡ 1) × (t.kind ≡ Svc))
    pub size :
        (f : Fields) (sequences pictures extensions : List ℕ) →
        RecordOf f sequences pictures extensions (byte_at b p) (part b (p + 3) (big b (p + 1) 2)) →
        in_bytes t.length_size ≡ f.length_size

  pub record Means (r : Recording) : Type 0 where
    pub tracks : length r.layout.tracks ≡ big b 0 1
    pub track : (k : ℕ) → 0 < k → k ≤ big b 0 1 → TrackMeans (nth (track_places b) k 0) (nth r.layout.tracks k no_track)
    pub references : r.layout.references ≡ map (λ p. record { from = big b p 1; to = big b (p + 1) 1 }) (reference_places b)
    pub entries :
        r.layout.entries
        ≡ map (λ n. record { track = big b (entry b n) 1; time = big b (entry b n + 1) 8 }) (upto (big b (three b) 2))
    -- the samples' bytes, in order, are the rest of the bundle, each of its length: without gaps, those of length 0 too
    pub lengths : map length r.contents ≡ map (λ n. big b (entry b n + 9) 4) (upto (big b (three b) 2))
    pub bytes : each (λ c. c) r.contents ≡ drop (four b + 4) b
