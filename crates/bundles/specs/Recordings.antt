-- What a bundle means: a recording. Tracks, the references of a track, and samples are numbered from 1; there is no bundle offset here.
-- The layout is apart from the bytes, so that what goes by the layout alone visibly depends on no sample's bytes.
--
--   sample_count y       how many samples there are
--   track_of y n         the track of sample n, 0 where there is no such sample
--   time_of y n          its decode time
--   track_at y n         the kind and length size of its track
--   references_from y k  the references of track k, in order: the nth is its track_ref_index n
--   samples_in y k       the samples of track k, in number order
--   content_of r n       the bytes of sample n
--   replaced r n new     the recording with the bytes of sample n replaced
use Rattle.std.specs.Prelude.{ℕ, zero, suc, List, [], length, set}
use Rattle.words.specs.Tests.{◌≡?◌}
use Rattle.words.specs.Lists.{keep, nth, upto}
use Rattle.numbers.specs.declared.Kind.{Kind}
use Rattle.numbers.specs.declared.Kind.TheVariants.{Avc}
use Rattle.numbers.specs.declared.LengthSize.{LengthSize}
use Rattle.numbers.specs.declared.LengthSize.TheVariants.{One}

-- A track: its kind, and L, its length size (01, 'The job and its edges').
pub record Track : Type 0 where
  pub kind : Kind
  pub length_size : LengthSize

-- A reference from a track to a track.
pub record Reference : Type 0 where
  pub from : ℕ
  pub to : ℕ

-- What section three says of a sample, but its length: its track, and its decode time.
pub record Entry : Type 0 where
  pub track : ℕ
  pub time : ℕ

-- Sections one to three: everything but the samples' bytes.
pub record Layout : Type 0 where
  pub tracks : List Track
  pub references : List Reference
  pub entries : List Entry

-- The layout, and section four: the bytes of each sample.
pub record Recording : Type 0 where
  pub layout : Layout
  pub contents : List (List ℕ)

-- what stands for a track, a reference, a sample that there is not; there is no track 0
abbrev pub no_track : Track
no_track = record { kind = Avc; length_size = One }

abbrev pub no_reference : Reference
no_reference = record { from = 0; to = 0 }

abbrev pub no_entry : Entry
no_entry = record { track = 0; time = 0 }

module _ (y : Layout) where
  abbrev pub sample_count : ℕ
  sample_count = length y.entries

  abbrev pub track_of : ℕ → ℕ
  track_of n = (nth y.entries n no_entry).track

  abbrev pub time_of : ℕ → ℕ
  time_of n = (nth y.entries n no_entry).time

  abbrev pub track_at : ℕ → Track
  track_at n = nth y.tracks (track_of n) no_track

  unfoldable pub references_from : ℕ → List Reference
  references_from k = keep (λ f. f.from ≡? k) y.references

  unfoldable pub samples_in : ℕ → List ℕ
  samples_in k = keep (λ n. track_of n ≡? k) (upto sample_count)

abbrev pub content_of : Recording → ℕ → List ℕ
content_of r n = nth r.contents n []

-- the nth element from 1 replaced
abbrev pub set_nth : {A : Type 0} → List A → ℕ → A → List A
set_nth xs zero a = xs
set_nth xs (suc n) a = set xs n a

unfoldable pub replaced : Recording → ℕ → List ℕ → Recording
replaced r n new = record { layout = r.layout; contents = set_nth r.contents n new }
