-- With which number, and where, a bundle is refused (01, 'The bundle', 'Numbers for no'): checks run front to back, and the first
-- fault counts. A case says that the rules before it hold.
--
--   PartFault b e n Good m    a count or an entry that ends at e: 2 where it is cut, else n where it is not good
--   TrackFault b p m          the track entry at p: 2, 4, 8 to 13
--   BytesFault b m            section four: 2 or 7
--   BundleRefused b m p       the bundle is refused with m at p: 1 to 13
use Rattle.std.specs.Prelude.{ℕ, ◌+◌, ◌≤◌, ◌<◌, ◌≡◌, List, length}
use Rattle.words.specs.Lists.{upto}
use Rattle.words.specs.Bytes.{byte_at, big, part}
use Rattle.promise_rules.specs.First.{FirstIn}
use Rattle.promise_rules.specs.Reading.{ReadRefused}
use Rattle.promise_rules.specs.Bundles.{two, three, four, total, entry, track_places, reference_places}
use Rattle.promise_rules.specs.Bundles.{TrackAt, ReferenceAt, EntryAt, TrackCount, ReferenceCount, SampleCount}
use Rattle.promise_rules.specs.Bundles.{TracksOf, ReferencesOf, SamplesOf}

module _ (b : List ℕ) where
  pub data PartFault (e n : ℕ) (Good : Type 0) : ℕ → Type 0 where
    cut : length b < e → PartFault e n Good 2
    bad : e ≤ length b → (Good → ⊥) → PartFault e n Good n

  -- the whole entry, head and record, is there before its kind and its record are judged
  pub data TrackFault (p : ℕ) : ℕ → Type 0 where
    cut : length b < p + 3 + big b (p + 1) 2 → TrackFault p 2
    bad :
        {m : ℕ} → p + 3 + big b (p + 1) 2 ≤ length b → ReadRefused (byte_at b p) (part b (p + 3) (big b (p + 1) 2)) m 0 →
        TrackFault p m

  -- the count is cut; it is not the sum; bytes are missing; bytes follow
  pub data BytesFault : ℕ → Type 0 where
    cut : length b < four b + 4 → BytesFault 2
    other : four b + 4 ≤ length b → (big b (four b) 4 ≡ total b → ⊥) → BytesFault 7
    missing :
        four b + 4 ≤ length b → big b (four b) 4 ≡ total b → length b < four b + 4 + big b (four b) 4 → BytesFault 2
    follow : big b (four b) 4 ≡ total b → four b + 4 + big b (four b) 4 < length b → BytesFault 7

  pub data BundleRefused : ℕ → ℕ → Type 0 where
    long : 16777216 < length b → BundleRefused 1 0
    -- section one: 2 or 3 at its count; 2, 4 or 8 to 13 at its first bad entry
    track_count : {m : ℕ} → length b ≤ 16777216 → PartFault 1 3 (TrackCount b) m → BundleRefused m 0
    track :
        {m p : ℕ} → length b ≤ 16777216 → TrackCount b → FirstIn (TrackAt b) (track_places b) p → TrackFault p m →
        BundleRefused m p
    -- section two: 2 or 3 at its count; 2 or 5 at its first bad entry
    reference_count :
        {m : ℕ} → length b ≤ 16777216 → TracksOf b → PartFault (two b + 1) 3 (ReferenceCount b) m →
        BundleRefused m (two b)
    reference :
        {m p : ℕ} → length b ≤ 16777216 → TracksOf b → ReferenceCount b →
        FirstIn (ReferenceAt b) (reference_places b) p → PartFault (p + 2) 5 (ReferenceAt b p) m → BundleRefused m p
    -- section three: 2 or 3 at its count; 2 or 6 at its first bad entry
    sample_count :
        {m : ℕ} → length b ≤ 16777216 → TracksOf b → ReferencesOf b → PartFault (three b + 2) 3 (SampleCount b) m →
        BundleRefused m (three b)
    sample :
        {m n : ℕ} → length b ≤ 16777216 → TracksOf b → ReferencesOf b → SampleCount b →
        FirstIn (EntryAt b) (upto (big b (three b) 2)) n → PartFault (entry b n + 13) 6 (EntryAt b n) m →
        BundleRefused m (entry b n)
    -- section four: 2 or 7 at its count
    bytes :
        {m : ℕ} → length b ≤ 16777216 → TracksOf b → ReferencesOf b → SamplesOf b → BytesFault m → BundleRefused m (four b)
