-- What a player and the command are told of a recording: what its bundle holds, where all delivered units of a sample stand,
-- which sample an extractor names, and that a naming list is never longer than the bundle. Theorems in plain facts about the
-- definitions that the contracts of the code cite; with the numbers of document 01. The words are those of Demands and of
--
--   two, three, track_places,
--   reference_places, entry                    where sections and entries start (promise_rules/specs/Bundles)
--   TrackAt b p                                the track entry at p follows the rules: its record lies in the bundle, valid (the same)
--   sample_start b n                           where the bytes of sample n start (promise_rules/specs/Units)
--   NumberRefused, UnitsRefused, NamedRefused  with which number, and where (promise_rules/specs/Contents)
--   stand_numbers b u, joined b ns             where a unit stands, in numbers; units joined by such numbers (the same)
--   ValuesGiven                                what a C function gives for an answer that tells numbers (promise_rules/specs/Returns)
--
-- Assumes nothing.
use Rattle.std.specs.Prelude.{ℕ, ◌+◌, ◌*◌, ◌≤◌, ◌<◌, ◌≡◌, List, [], ◌∷◌, ◌↔◌, length}
use Rattle.words.specs.Lists.{◌∈◌, each, nth}
use Rattle.words.specs.Bytes.{Bytes, byte_at, big, part, splice}
use Rattle.words.specs.Refusals.{refused, ok}
use Rattle.numbers.specs.Kinds.{number_of_kind}
use Rattle.bundles.specs.Recordings.{Recording, sample_count, content_of}
use Rattle.bundles.specs.Readers.{first_layout}
use Rattle.resolution_rules.specs.Resolving.{Span}
use Rattle.resolution_rules.specs.Calls.{no_span, resolve_call, place_call, parts_call, named_call}
use Rattle.naming_list_rules.specs.Naming.{namer, naming_list}
use Rattle.naming_list_rules.specs.Rules.{Unlisted}
use Rattle.contents.specs.Contents.{TrackEntry, counts_call, track_call, reference_call, sample_call}
use Rattle.puddockle.specs.Returns.{ReturnedCounts, ReturnedTrack, ReturnedReference, ReturnedSample, ReturnedNamed}
use Rattle.promise_rules.specs.Bundles.{two, three, track_places, reference_places, entry, TrackAt}
use Rattle.promise_rules.specs.BundleFaults.{BundleRefused}
use Rattle.promise_rules.specs.Units.{sample_start}
use Rattle.promise_rules.specs.Resolving.{Resolved, NamesIt}
use Rattle.promise_rules.specs.Contents.{NumberRefused, UnitsRefused, NamedRefused, stand_numbers, joined}
use Rattle.promise_rules.specs.Returns.{ValuesGiven}
use Rattle.promise_rules.proofs as laws

module _ (b : List ℕ) (bytes : Bytes b) where
  -- Refused: 1 to 13 of the bundle; then 30 at 0 for a number 0 or past the last
  pub counts_refused : (m p : ℕ) → (counts_call first_layout b ≡ refused m p) ↔ BundleRefused b m p
  counts_refused = laws.ContentLaws.counts_refused b bytes

  pub track_refused : (k m p : ℕ) → (track_call first_layout b k ≡ refused m p) ↔ NumberRefused b (big b 0 1) k m p
  track_refused = laws.ContentLaws.track_refused b bytes

  pub reference_refused : (i m p : ℕ) → (reference_call first_layout b i ≡ refused m p) ↔ NumberRefused b (big b (two b) 1) i m p
  reference_refused = laws.ContentLaws.reference_refused b bytes

  pub sample_refused : (n m p : ℕ) → (sample_call first_layout b n ≡ refused m p) ↔ NumberRefused b (big b (three b) 2) n m p
  sample_refused = laws.ContentLaws.sample_refused b bytes

  -- all delivered units: then 14 to 28 of the sample, then 29 for two numbers a unit
  pub units_refused : (n room m p : ℕ) → (parts_call first_layout b n room ≡ refused m p) ↔ UnitsRefused b n room m p
  units_refused = laws.StandLaws.units_refused b bytes

  -- the sample that the extractor at p of sample n names: then 14 to 22 of sample n, then 30 at 0 where no extractor stands
  -- there, then 23 or 24 at p
  pub named_refused : (n p m q : ℕ) → (named_call first_layout b n p ≡ refused m q) ↔ NamedRefused b n p m q
  named_refused = laws.NamedLaws.named_refused b bytes

  -- The C functions return 0 at 0 and the numbers exactly if accepted; else the number and place of the refusal, and only zeros.
  -- (Of the function that writes where units stand `c_output` of Demands says so.)
  pub c_counts :
      {n p x y z : ℕ} → ReturnedCounts n p x y z (counts_call first_layout b) →
      ValuesGiven (counts_call first_layout b) (λ c. c.tracks ∷ c.references ∷ c.samples ∷ []) n p (x ∷ y ∷ z ∷ [])
  c_counts = laws.ReturnLaws.counts_returned b bytes

  pub c_track :
      (k : ℕ) {n p x y z : ℕ} → ReturnedTrack n p x y z (track_call first_layout b k) →
      ValuesGiven (track_call first_layout b k) (λ e. number_of_kind e.kind ∷ e.stands.start ∷ e.stands.size ∷ []) n p
      (x ∷ y ∷ z ∷ [])
  c_track = laws.ReturnLaws.track_returned b bytes

  pub c_reference :
      (i : ℕ) {n p x y : ℕ} → ReturnedReference n p x y (reference_call first_layout b i) →
      ValuesGiven (reference_call first_layout b i) (λ f. f.from ∷ f.to ∷ []) n p (x ∷ y ∷ [])
  c_reference = laws.ReturnLaws.reference_returned b bytes

  pub c_sample :
      (s : ℕ) {n p w x y z : ℕ} → ReturnedSample n p w x y z (sample_call first_layout b s) →
      ValuesGiven (sample_call first_layout b s) (λ e. e.track ∷ e.time ∷ e.stands.start ∷ e.stands.size ∷ []) n p
      (w ∷ x ∷ y ∷ z ∷ [])
  c_sample = laws.ReturnLaws.sample_returned b bytes

  pub c_named :
      (s q : ℕ) {n p x : ℕ} → ReturnedNamed n p x (named_call first_layout b s q) →
      ValuesGiven (named_call first_layout b s q) (λ m. m ∷ []) n p (x ∷ [])
  c_named = laws.ReturnLaws.named_returned b bytes

  -- Of a bundle b that is accepted and means r
  module _ (r : Recording) (accepted : first_layout.means b ≡ ok r) where
    -- the counts of sections one to three
    pub counts_told :
        counts_call first_layout b ≡ ok (record { tracks = big b 0 1; references = big b (two b) 1; samples = big b (three b) 2 })
    counts_told = laws.ContentLaws.counts_told b bytes r accepted

    -- a track: its kind, 0 or 1 in the bundle, and where its record stands: after the 3 bytes of its entry's head, with the
    -- length that these state
    pub track_told :
        (k : ℕ) → 0 < k → k ≤ big b 0 1 → let p = nth (track_places b) k 0 in
        (e : TrackEntry) × (track_call first_layout b k ≡ ok e) × (number_of_kind e.kind ≡ byte_at b p)
        × (e.stands.start ≡ p + 3) × (e.stands.size ≡ big b (p + 1) 2)
    track_told = laws.ContentLaws.track_told b bytes r accepted

    -- what lies there is inside the bundle, and a valid record of that kind
    pub track_inside : (k : ℕ) → 0 < k → k ≤ big b 0 1 → TrackAt b (nth (track_places b) k 0)
    track_inside = laws.ContentLaws.track_at_lem b bytes r accepted

    -- a reference: its two tracks
    pub reference_told :
        (i : ℕ) → 0 < i → i ≤ big b (two b) 1 → let p = nth (reference_places b) i 0 in
        reference_call first_layout b i ≡ ok (record { from = big b p 1; to = big b (p + 1) 1 })
    reference_told = laws.ContentLaws.reference_told b bytes r accepted

    -- a sample: its track in 1 byte, its decode time in 8, where its bytes start, and its length in 4
    pub sample_told :
        (n : ℕ) → 0 < n → n ≤ big b (three b) 2 →
        sample_call first_layout b n
        ≡ ok (record {
          track = big b (entry b n) 1;
          time = big b (entry b n + 1) 8;
          stands = record { start = sample_start b n; size = big b (entry b n + 9) 4 };
        })
    sample_told = laws.ContentLaws.sample_told b bytes r accepted

    -- what lies there is inside the bundle, and is the sample
    pub sample_inside :
        (n : ℕ) → 0 < n → n ≤ big b (three b) 2 →
        (sample_start b n + big b (entry b n + 9) 4 ≤ length b)
        × (part b (sample_start b n) (big b (entry b n + 9) 4) ≡ content_of r n)
    sample_inside = laws.ContentLaws.sample_inside b bytes r accepted

    -- where the units us that sample n delivers stand, two numbers each, in order: told exactly if it is good and there is room
    pub units_exactly :
        (n : ℕ) → 0 < n → n ≤ sample_count r.layout → (room : ℕ) (ns : List ℕ) →
        (parts_call first_layout b n room ≡ ok ns)
        ↔ ((us : List Span) × Resolved r n us × (ns ≡ each (stand_numbers b) us) × (2 * length us ≤ room))
    units_exactly = laws.StandLaws.units_exactly b bytes r accepted

    module _ (n : ℕ) (us : List Span) (delivers : Resolved r n us) where
      -- each is inside the bundle, where the call for that unit says
      pub units_inside :
          (k : ℕ) → 0 < k → k ≤ length us → let u = nth us k no_span in
          (sample_start b u.sample + u.start + u.size ≤ length b)
          × (place_call first_layout b n k ≡ ok (record { start = sample_start b u.sample + u.start; size = u.size }))
      units_inside = laws.StandLaws.units_inside b bytes r accepted n us delivers

      -- joined, each after its length in 4 bytes, they are what resolving writes
      pub units_joined :
          (room : ℕ) → length (joined b (each (stand_numbers b) us)) ≤ room →
          resolve_call first_layout b n room ≡ ok (joined b (each (stand_numbers b) us))
      units_joined = laws.StandLaws.units_joined b bytes r accepted n us delivers

    -- an extractor names sample s exactly if the rules say so: exactly those of the naming list of s
    pub named_exactly :
        (n p s : ℕ) → ((named_call first_layout b n p ≡ ok s) ↔ NamesIt r s n p)
        × ((named_call first_layout b n p ≡ ok s) ↔ (namer n p ∈ naming_list r s))
    named_exactly = laws.NamedLaws.named_listed b bytes r accepted

    -- 6 bytes an extractor: so a buffer as long as the bundle is always enough for a naming list
    pub names_fit : (s : ℕ) → length (naming_list r s) * 6 ≤ length b
    names_fit = laws.Cited.list_in_bundle b r accepted

    -- Demand 3: any bytes of the same length in place of those of sample s. What the bundle holds stays; and of every other
    -- sample n which samples its extractors name and, if none of them is in the list of s, where its units stand
    module _
        (s : ℕ) (some : 0 < s) (there : s ≤ sample_count r.layout)
        (new : List ℕ) (as_long : length new ≡ length (content_of r s))
      where
        abbrev pub after : List ℕ
        after = splice b (first_layout.content_at b s) new

        pub contents_kept :
            (counts_call first_layout after ≡ counts_call first_layout b)
            × ((k : ℕ) → track_call first_layout after k ≡ track_call first_layout b k)
            × ((i : ℕ) → reference_call first_layout after i ≡ reference_call first_layout b i)
            × ((n : ℕ) → sample_call first_layout after n ≡ sample_call first_layout b n)
        contents_kept = laws.OtherLaws.contents_kept b r accepted s some there new as_long

        pub others_named : (n : ℕ) → (n ≡ s → ⊥) → (p : ℕ) → named_call first_layout after n p ≡ named_call first_layout b n p
        others_named = laws.OtherLaws.others_named b r accepted s some there new as_long

        pub others_units :
            (n : ℕ) → (n ≡ s → ⊥) → Unlisted r s n → (room : ℕ) →
            parts_call first_layout after n room ≡ parts_call first_layout b n room
        others_units = laws.OtherLaws.others_units b r accepted s some there new as_long
