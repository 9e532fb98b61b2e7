-- What a call gives back to C: the number of the refusal as its result, the rest through pointers, 0 where there is nothing to say.
--
--   Returned n p a                               the result n and the place p are those of the answer a
--   ReturnedOutput n p c o o' a                  and the count c is how many bytes or numbers it is; the lent slice o is left as o'
--   all_counts, ReturnedOutputs n p cs os os' a  the same of several lent slices, with their counts
--   told f a                                     the number f of what an answer tells
--   ReturnedPart n p start size a                and these are the start and size of a part of the bundle
--   ReturnedTally x y z a                        x, y and z are the three numbers of a tally
--   ReturnedCounts, ReturnedTrack,
--   ReturnedReference, ReturnedSample            and these are what a bundle holds
--   ReturnedNamed n p sample a                   and this is the sample that an extractor names
use Rattle.std.specs.Prelude.{ℕ, ◌≡◌, List, map, length}
use Rattle.words.specs.Refusals.{Answer, refused, ok, number_of, place_of, count_of}
use Rattle.words.specs.Buffers.{counted, leaves, leaves_all}
use Rattle.numbers.specs.Kinds.{number_of_kind}
use Rattle.bundles.specs.Parts.{BundlePart}
use Rattle.bundles.specs.Recordings.{Reference}
use Rattle.contents.specs.Contents.{Counts, TrackEntry, SampleEntry}
use Rattle.tally.specs.declared.Tally.{Tally}

pub record Returned {A : Type 0} (n p : ℕ) (a : Answer A) : Type 0 where
  pub number : n ≡ number_of a
  pub place : p ≡ place_of a

pub record ReturnedOutput (n p c : ℕ) (o o' : List ℕ) (a : Answer (List ℕ)) : Type 0 where
  pub returned : Returned n p a
  pub count : c ≡ count_of (counted a)
  pub buffer : o' ≡ leaves o a

-- a count for each slice: all 0 after a refusal
abbrev pub all_counts : List (List ℕ) → Answer (List (List ℕ)) → List ℕ
all_counts os (refused n p) = map (λ o. 0) os
all_counts os (ok outs) = map length outs

pub record ReturnedOutputs (n p : ℕ) (cs : List ℕ) (os os' : List (List ℕ)) (a : Answer (List (List ℕ))) : Type 0 where
  pub returned : Returned n p a
  pub counts : cs ≡ all_counts os a
  pub buffers : os' ≡ leaves_all os a

abbrev pub told : {A : Type 0} → (A → ℕ) → Answer A → ℕ
told f (refused n p) = 0
told f (ok x) = f x

pub record ReturnedPart (n p start size : ℕ) (a : Answer BundlePart) : Type 0 where
  pub returned : Returned n p a
  pub starts : start ≡ told (λ u. u.start) a
  pub sizes : size ≡ told (λ u. u.size) a

pub record ReturnedTally (x y z : ℕ) (a : Answer Tally) : Type 0 where
  pub passed : x ≡ told (λ t. t.passed) a
  pub empty : y ≡ told (λ t. t.empty) a
  pub refused : z ≡ told (λ t. t.refused) a

pub record ReturnedCounts (n p x y z : ℕ) (a : Answer Counts) : Type 0 where
  pub returned : Returned n p a
  pub tracks : x ≡ told (λ c. c.tracks) a
  pub references : y ≡ told (λ c. c.references) a
  pub samples : z ≡ told (λ c. c.samples) a

pub record ReturnedTrack (n p kind start size : ℕ) (a : Answer TrackEntry) : Type 0 where
  pub returned : Returned n p a
  pub kinds : kind ≡ told (λ e. number_of_kind e.kind) a
  pub starts : start ≡ told (λ e. e.stands.start) a
  pub sizes : size ≡ told (λ e. e.stands.size) a

pub record ReturnedReference (n p x y : ℕ) (a : Answer Reference) : Type 0 where
  pub returned : Returned n p a
  pub from : x ≡ told (λ f. f.from) a
  pub to : y ≡ told (λ f. f.to) a

pub record ReturnedSample (n p track time start size : ℕ) (a : Answer SampleEntry) : Type 0 where
  pub returned : Returned n p a
  pub tracks : track ≡ told (λ e. e.track) a
  pub times : time ≡ told (λ e. e.time) a
  pub starts : start ≡ told (λ e. e.stands.start) a
  pub sizes : size ≡ told (λ e. e.stands.size) a

pub record ReturnedNamed (n p sample : ℕ) (a : Answer ℕ) : Type 0 where
  pub returned : Returned n p a
  pub names : sample ≡ told (λ m. m) a
