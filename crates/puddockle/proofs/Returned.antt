-- What a call gives back, from the answer of the function below. Assumes nothing.
--
--   returned                                 number and place
--   output                                   and count and buffer
--   outputs                                  the same of several buffers
--   part                                     and a part of the bundle
--   tally                                    the three numbers of a tally
--   counts, track, reference, sample, named  what a bundle holds
use Prim.Native.Nat.{ℕ}
use mathlib.Core.Path.{◌≡◌, refl, ap, ◌∙◌}
use mathlib.Core.List.{List, map}
use Rattle.words.specs.Refusals.{Answer, refused, ok, number_of, place_of, count_of}
use Rattle.words.specs.Buffers.{counted, Wrote, counted_all, WroteAll}
use Rattle.numbers.specs.Kinds.{number_of_kind}
use Rattle.bundles.specs.Parts.{BundlePart}
use Rattle.bundles.specs.Recordings.{Reference}
use Rattle.contents.specs.Contents.{Counts, TrackEntry, SampleEntry}
use Rattle.tally.specs.declared.Tally.{Tally}
use Rattle.puddockle.specs.Returns.{Returned, ReturnedOutput, ReturnedOutputs, all_counts, ReturnedPart, told, ReturnedTally, ReturnedCounts, ReturnedTrack, ReturnedReference, ReturnedSample, ReturnedNamed}

pub returned : {A : Type 0} {n p : ℕ} {r a : Answer A} → r ≡ a → n ≡ number_of r → p ≡ place_of r → Returned n p a
returned e f g = record { number = f ∙ ap number_of e; place = g ∙ ap place_of e }

counted_number : (a : Answer (List ℕ)) → number_of (counted a) ≡ number_of a
counted_number (refused n p) = refl
counted_number (ok out) = refl

counted_place : (a : Answer (List ℕ)) → place_of (counted a) ≡ place_of a
counted_place (refused n p) = refl
counted_place (ok out) = refl

pub output : {n p c : ℕ} {o o' : List ℕ} {r : Answer ℕ} {a : Answer (List ℕ)} → Wrote o o' r a → n ≡ number_of r → p ≡ place_of r → c ≡ count_of r → ReturnedOutput n p c o o' a
output {a = a} w f g h =
    record {
      returned = record { number = f ∙ ap number_of w.answer ∙ counted_number a; place = g ∙ ap place_of w.answer ∙ counted_place a };
      count = h ∙ ap count_of w.answer;
      buffer = w.buffer;
    }

-- the counts of an answer of the function below
abbrev pub counts_by : List (List ℕ) → Answer (List ℕ) → List ℕ
counts_by os (refused n p) = map (λ o. 0) os
counts_by os (ok cs) = cs

all_number : (a : Answer (List (List ℕ))) → number_of (counted_all a) ≡ number_of a
all_number (refused n p) = refl
all_number (ok outs) = refl

all_place : (a : Answer (List (List ℕ))) → place_of (counted_all a) ≡ place_of a
all_place (refused n p) = refl
all_place (ok outs) = refl

all_counts_lem : (os : List (List ℕ)) (a : Answer (List (List ℕ))) → counts_by os (counted_all a) ≡ all_counts os a
all_counts_lem os (refused n p) = refl
all_counts_lem os (ok outs) = refl

pub outputs :
    {n p : ℕ} {cs : List ℕ} {os os' : List (List ℕ)} {r : Answer (List ℕ)} {a : Answer (List (List ℕ))} →
    WroteAll os os' r a → n ≡ number_of r → p ≡ place_of r → cs ≡ counts_by os r → ReturnedOutputs n p cs os os' a
outputs {os = os} {a = a} w f g h =
    record {
      returned = record { number = f ∙ ap number_of w.answers ∙ all_number a; place = g ∙ ap place_of w.answers ∙ all_place a };
      counts = h ∙ ap (counts_by os) w.answers ∙ all_counts_lem os a;
      buffers = w.buffers;
    }

pub part : {n p start size : ℕ} {r a : Answer BundlePart} → r ≡ a → n ≡ number_of r → p ≡ place_of r → start ≡ told (λ u. u.start) r → size ≡ told (λ u. u.size) r → ReturnedPart n p start size a
part e f g h k = record { returned = returned e f g; starts = h ∙ ap (told (λ u. u.start)) e; sizes = k ∙ ap (told (λ u. u.size)) e }

pub tally : {x y z : ℕ} {r a : Answer Tally} → r ≡ a → x ≡ told (λ t. t.passed) r → y ≡ told (λ t. t.empty) r → z ≡ told (λ t. t.refused) r → ReturnedTally x y z a
tally e f g h = record { passed = f ∙ ap (told (λ t. t.passed)) e; empty = g ∙ ap (told (λ t. t.empty)) e; refused = h ∙ ap (told (λ t. t.refused)) e }

pub counts :
    {n p x y z : ℕ} {r a : Answer Counts} → r ≡ a → n ≡ number_of r → p ≡ place_of r →
    x ≡ told (λ c. c.tracks) r → y ≡ told (λ c. c.references) r → z ≡ told (λ c. c.samples) r → ReturnedCounts n p x y z a
counts e f g h k l =
    record {
      returned = returned e f g;
      tracks = h ∙ ap (told (λ c. c.tracks)) e;
      references = k ∙ ap (told (λ c. c.references)) e;
      samples = l ∙ ap (told (λ c. c.samples)) e;
    }

pub track :
    {n p x y z : ℕ} {r a : Answer TrackEntry} → r ≡ a → n ≡ number_of r → p ≡ place_of r →
    x ≡ told (λ e. number_of_kind e.kind) r → y ≡ told (λ e. e.stands.start) r → z ≡ told (λ e. e.stands.size) r → ReturnedTrack n p x y z a
track e f g h k l =
    record {
      returned = returned e f g;
      kinds = h ∙ ap (told (λ e. number_of_kind e.kind)) e;
      starts = k ∙ ap (told (λ e. e.stands.start)) e;
      sizes = l ∙ ap (told (λ e. e.stands.size)) e;
    }

pub reference :
    {n p x y : ℕ} {r a : Answer Reference} → r ≡ a → n ≡ number_of r → p ≡ place_of r →
    x ≡ told (λ f. f.from) r → y ≡ told (λ f. f.to) r → ReturnedReference n p x y a
reference e f g h k = record { returned = returned e f g; from = h ∙ ap (told (λ f. f.from)) e; to = k ∙ ap (told (λ f. f.to)) e }

pub sample :
    {n p w x y z : ℕ} {r a : Answer SampleEntry} → r ≡ a → n ≡ number_of r → p ≡ place_of r →
    w ≡ told (λ e. e.track) r → x ≡ told (λ e. e.time) r → y ≡ told (λ e. e.stands.start) r → z ≡ told (λ e. e.stands.size) r →
    ReturnedSample n p w x y z a
sample e f g h k l m =
    record {
      returned = returned e f g;
      tracks = h ∙ ap (told (λ e. e.track)) e;
      times = k ∙ ap (told (λ e. e.time)) e;
      starts = l ∙ ap (told (λ e. e.stands.start)) e;
      sizes = m ∙ ap (told (λ e. e.stands.size)) e;
    }

pub named : {n p x : ℕ} {r a : Answer ℕ} → r ≡ a → n ≡ number_of r → p ≡ place_of r → x ≡ told (λ m. m) r → ReturnedNamed n p x a
named e f g h = record { returned = returned e f g; names = h ∙ ap (told (λ m. m)) e }
