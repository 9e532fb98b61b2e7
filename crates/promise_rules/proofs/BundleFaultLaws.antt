-- The proofs of what Demands says of a bundle that is refused. Assumes nothing.
--
--   read_some, read_is                                                        the record of a track
--   count_judged, track_judged, reference_judged, entry_judged, bytes_judged  a count, an entry of each section, section four: the
--                                                                             refusal number is that of the fault
--   tracks_section, references_section, samples_section                       the sections one to three
--   bundle_by, by_bundle                                                      the bundle is refused exactly as BundleRefused says
use Rattle.std.specs.Prelude.{None, Option, Some}
use Prim.Native.Nat.{ℕ, ◌+◌, ◌-◌, ◌≤◌, ◌<◌}
use mathlib.Core.Path.{◌≡◌, refl, sym, ◌∙◌, subst}
use mathlib.Core.Bool.{Bool, ◌&&◌, not}
use mathlib.Core.List.Memᴰ
use mathlib.Core.List.{List, [], ◌∷◌}
use mathlib.Core.Logic.{inl}
use native.Mathlib.Omega.{arith}
use native.Mathlib.Nat.{pos_of_ne-zero}
use borrow.Author.Tests.{ltb-true, ltb-false, lt-ltb, le-ltb, eqb-true, eqb-false, eq-eqb, ne_eqb}
use lib.ListN.{length}
use Rattle.words.specs.Tests.{◌<?◌, ◌≤?◌, ◌≡?◌}
use Rattle.words.specs.Refusals.{◌if◌, ◌or_else◌, refused, ok, ◌and_then◌}
use Rattle.words.specs.Lists.{upto}
use Rattle.words.specs.Bytes.{Bytes, byte_at, big, part}
use Rattle.words.proofs.Tests.{by_bool}
use Rattle.words.proofs.Refusals.{if_none, at_ok, at_from, NoneOr, none_or_if, none_or_or_else, none_or_pick, none_or_some, ok_refused, refused_same, refused_along}
use Rattle.words.proofs.Lists.{upto_from}
use Rattle.numbers.specs.Kinds.{kind_of}
use Rattle.record_rules.specs.Read.{record_fault, read_record}
use Rattle.bundles.specs.Limits.{bundle_most, track_most, reference_most, sample_most, count_fault}
use Rattle.bundles.specs.Recordings.{Entry}
use Rattle.bundles.specs.Tracks.{record_fault_as, track_fault, tracks_verdict, references_at}
use Rattle.bundles.specs.References.{from, to, no_such_track, length_size_on, reference_fault, references_verdict, samples_at}
use Rattle.bundles.specs.Samples.{track, entry_at, entry_on, order_fault, entry_fault, samples_verdict}
use Rattle.bundles.specs.Bundles.{byte_count_fault, length_verdict, bytes_verdict, bundle_verdict}
use Rattle.bundles.proofs.Sections as sections
use Rattle.promise_rules.specs.Bundles.{two, three, four, total, entry, track_places, reference_places, CountAt, TrackAt, ReferenceAt, EntryAt, TrackCount, ReferenceCount, SampleCount, TracksOf, ReferencesOf, SamplesOf, BytesOf}
use Rattle.promise_rules.specs.Reading.{ReadRefused}
use Rattle.promise_rules.specs.BundleFaults.{PartFault, TrackFault, BytesFault, BundleRefused}
use Rattle.promise_rules.proofs.FirstLaws.{Judges, at_some, by_and, and_here, Section, by_section, section_count, section_entry}
use Rattle.promise_rules.proofs.RecordLaws.{refused_known, known_refused}
use Rattle.promise_rules.proofs.ReadLaws.{read_refused}
use Rattle.promise_rules.proofs.CallLaws.{part_bytes_lem}
use Rattle.promise_rules.proofs.BundleLaws.{count_at, track_at_lem, reference_at, entry_rules, count_none, track_none, reference_none, entry_none, tracks_of, of_tracks, references_of, of_references, samples_of, of_samples, bytes_none, none_bytes, bytes_are}
use Rattle.numbers.specs.declared.Kind.{Kind}

-- a record in a bundle: 4, 8 to 13
module _ (kind : ℕ) (s : List ℕ) (g : Bytes s) where
  read_some : (k : Option Kind) → kind_of kind ≡ k → 0 < record_fault_as k s → ReadRefused kind s (record_fault_as k s) 0
  unfolding read_record
  read_some (Some k) q h = (read_refused kind s g (record_fault k s) 0).0 (known_refused kind k s q refl h)
  read_some None q h = (read_refused kind s g 4 0).0 (rw q)

  read_is : (k : Option Kind) → kind_of kind ≡ k → {m : ℕ} → ReadRefused kind s m 0 → (record_fault_as k s ≡ m) × (0 < m)
  unfolding read_record
  read_is (Some k) q {m} w = let i = refused_known kind k s q ((read_refused kind s g m 0).1 w) in (i.0, i.1)
  read_is None q {m} w = let i = (refused_same (rw q at ((read_refused kind s g m 0).1 w))).0 in (i, omega arith)

module _ (b : List ℕ) where
  -- what gives 2 where it is cut, and else n or nothing
  part_judged :
      (e n rest : ℕ) (Good : Type 0) → 0 < n → NoneOr (n ∷ []) rest → ((2 if length b <? e or_else rest) ≡ 0 → Good) →
      (Good → (2 if length b <? e or_else rest) ≡ 0) → Judges (2 if length b <? e or_else rest) (PartFault b e n Good) Good
  part_judged e n rest Good s o good none = record {
    good = good;
    none = none;
    because = λ h. by_bool (length b <? e)
        (λ t. rw t (PartFault.cut (ltb-true _ _ t)))
        (λ t.
        let i : 0 < rest = rw t at h in
        let j : rest ≡ n = Memᴰ.eq_of_singleton (none_or_some _ o i) in
        rw t (subst (PartFault b e n Good) (sym j) (PartFault.bad (ltb-false _ _ t) (λ g. let z : rest ≡ 0 = rw t at (none g) in absurd (omega arith)))));
    refuses = λ m w. is w;
  }
    where
      is : {m : ℕ} → PartFault b e n Good m → ((2 if length b <? e or_else rest) ≡ m) × (0 < m)
      is (PartFault.cut h) = (rw (lt-ltb (length b) e h), omega arith)
      is (PartFault.bad h g) =
          let t = le-ltb (length b) e h in
          (rw t (Memᴰ.eq_of_singleton (none_or_some _ o (pos_of_ne-zero (λ z. g (good (rw t z)))))), s)

  test : (n : ℕ) (t : Bool) → NoneOr (n ∷ []) (n if t)
  test n t = none_or_if _ n t (Memᴰ.head refl)

  chain : (n : ℕ) (t : Bool) {m : ℕ} → NoneOr (n ∷ []) m → NoneOr (n ∷ []) (n if t or_else m)
  chain n t {m} h = none_or_or_else _ (n if t) m (test n t) h

  pub count_judged : (p n least most : ℕ) → Judges (count_fault b p n least most) (PartFault b (p + n) 3 (CountAt b p n least most)) (CountAt b p n least most)
  unfolding count_fault
  count_judged p n least most =
      part_judged (p + n) 3 _ (CountAt b p n least most) (omega arith) (chain 3 (big b p n <? least) (test 3 (most <? big b p n)))
      (λ e. count_at b p n least most (sections.count_good b p n least most e)) (count_none b p n least most)

  pub track_judged : Bytes b → (p : ℕ) → Judges (track_fault b p) (TrackFault b p) (TrackAt b p)
  unfolding track_fault
  track_judged g p = record {
    good = track_at_lem b g p;
    none = track_none b g p;
    because = λ h. by_bool (length b <? p + 3)
        (λ t. rw t (let i : length b < p + 3 = ltb-true _ _ t in TrackFault.cut (omega arith)))
        (λ t. by_bool (length b <? p + 3 + big b (p + 1) 2)
        (λ u. rw (t, u) (TrackFault.cut (ltb-true _ _ u)))
        (λ u. rw (t, u) (TrackFault.bad (ltb-false _ _ u) (read_some (byte_at b p) (part b (p + 3) (big b (p + 1) 2)) (part_bytes_lem b (p + 3) (big b (p + 1) 2) g) (kind_of (byte_at b p)) refl (rw (t, u) at h)))));
    refuses = λ m w. is w;
  }
    where
      is : {m : ℕ} → TrackFault b p m → (track_fault b p ≡ m) × (0 < m)
      is (TrackFault.cut h) = (by_bool (length b <? p + 3) (λ t. rw t) (λ t. rw (t, lt-ltb (length b) (p + 3 + big b (p + 1) 2) h)), omega arith)
      is (TrackFault.bad h r) =
          let i = read_is (byte_at b p) (part b (p + 3) (big b (p + 1) 2)) (part_bytes_lem b (p + 3) (big b (p + 1) 2) g) (kind_of (byte_at b p)) refl r in
          (rw (le-ltb (length b) (p + 3) (omega arith), le-ltb (length b) (p + 3 + big b (p + 1) 2) h) i.0, i.1)

  pub reference_judged : Bytes b → TracksOf b → (p : ℕ) → Judges (reference_fault b p) (PartFault b (p + 2) 5 (ReferenceAt b p)) (ReferenceAt b p)
  unfolding reference_fault
  reference_judged g t p =
      part_judged (p + 2) 5 _ (ReferenceAt b p) (omega arith)
      (chain 5 (no_such_track b (from b p)) (chain 5 (no_such_track b (to b p)) (chain 5 (from b p ≡? to b p)
      (test 5 (not (length_size_on b (from b p) ≡? length_size_on b (to b p)))))))
      (reference_at b g t p) (reference_none b g p)

  order_number : (e f : Entry) → NoneOr (6 ∷ []) (order_fault e f)
  unfolding order_fault
  order_number e f = chain 6 (f.track <? e.track) (test 6 ((f.track ≡? e.track) && (f.time ≤? e.time)))

  pub entry_judged : (n : ℕ) → 0 < n → Judges (entry_fault b n) (PartFault b (entry b n + 13) 6 (EntryAt b n)) (EntryAt b n)
  unfolding entry_fault samples_at references_at
  entry_judged n h =
      part_judged (entry b n + 13) 6 _ (EntryAt b n) (omega arith)
      (chain 6 (no_such_track b (track b (entry_at b n)))
      (none_or_pick _ (n ≡? 1) 0 _ (inl refl) (order_number (entry_on b (entry_at b (n - 1))) (entry_on b (entry_at b n)))))
      (entry_rules b n) (entry_none b n h)

  pub bytes_judged : Judges (byte_count_fault b (four b) (total b)) (BytesFault b) (BytesOf b)
  unfolding byte_count_fault
  bytes_judged = record {
    good = bytes_none b;
    none = none_bytes b;
    because = λ h. by_bool (length b <? four b + 4)
        (λ t. rw t (BytesFault.cut (ltb-true _ _ t)))
        (λ t. by_bool (big b (four b) 4 ≡? total b)
        (λ u. by_bool (length b <? four b + 4 + big b (four b) 4)
        (λ v. rw (t, u, v) (BytesFault.missing (ltb-false _ _ t) (eqb-true _ _ u) (ltb-true _ _ v)))
        (λ v. by_bool (four b + 4 + big b (four b) 4 <? length b)
        (λ w. rw (t, u, v, w) (BytesFault.follow (eqb-true _ _ u) (ltb-true _ _ w)))
        (λ w. let z : 0 < 0 = rw (t, u, v, w) at h in absurd (omega arith))))
        (λ u. rw (t, u) (BytesFault.other (ltb-false _ _ t) (eqb-false _ _ u))));
    refuses = λ m w. is w;
  }
    where
      is : {m : ℕ} → BytesFault b m → (byte_count_fault b (four b) (total b) ≡ m) × (0 < m)
      is (BytesFault.cut h) = (rw (lt-ltb (length b) (four b + 4) h), omega arith)
      is (BytesFault.other h d) = (rw (le-ltb (length b) (four b + 4) h, ne_eqb (big b (four b) 4) (total b) d), omega arith)
      is (BytesFault.missing h e l) =
          (rw (le-ltb (length b) (four b + 4) h, eq-eqb (big b (four b) 4) (total b) e, lt-ltb (length b) (four b + 4 + big b (four b) 4) l), omega arith)
      is (BytesFault.follow e l) = (
        rw (
          le-ltb (length b) (four b + 4) (omega arith),
          eq-eqb (big b (four b) 4) (total b) e,
          le-ltb (length b) (four b + 4 + big b (four b) 4) (omega arith),
          lt-ltb (four b + 4 + big b (four b) 4) (length b) l,
        ),
        omega arith,
      )

  -- the sections one to three
  module _ (g : Bytes b) where
    abbrev tracks_section : Section
    tracks_section = record {
      at = 0;
      count = count_fault b 0 1 1 track_most;
      Count = TrackCount b;
      CountFault = PartFault b 1 3 (TrackCount b);
      counts = count_judged 0 1 1 track_most;
      entries = track_places b;
      place = λ p. p;
      fault = track_fault b;
      Good = TrackAt b;
      Fault = TrackFault b;
      judges = λ p k. track_judged g p;
    }

  module _ (g : Bytes b) (t : TracksOf b) where
    abbrev references_section : Section
    references_section = record {
      at = two b;
      count = count_fault b (two b) 1 0 reference_most;
      Count = ReferenceCount b;
      CountFault = PartFault b (two b + 1) 3 (ReferenceCount b);
      counts = count_judged (two b) 1 0 reference_most;
      entries = reference_places b;
      place = λ p. p;
      fault = reference_fault b;
      Good = ReferenceAt b;
      Fault = λ p. PartFault b (p + 2) 5 (ReferenceAt b p);
      judges = λ p k. reference_judged g t p;
    }

  abbrev samples_section : Section
  samples_section = record {
    at = three b;
    count = count_fault b (three b) 2 0 sample_most;
    Count = SampleCount b;
    CountFault = PartFault b (three b + 2) 3 (SampleCount b);
    counts = count_judged (three b) 2 0 sample_most;
    entries = upto (big b (three b) 2);
    place = entry b;
    fault = entry_fault b;
    Good = EntryAt b;
    Fault = λ n. PartFault b (entry b n + 13) 6 (EntryAt b n);
    judges = λ n k. entry_judged n (upto_from (big b (three b) 2) n k).0;
  }

  -- a refusal of the next section, where those before it pass
  module _ (g : Bytes b) where
    tracks_by : {m p : ℕ} → length b ≤ bundle_most → tracks_verdict b ≡ refused m p → BundleRefused b m p
    unfolding tracks_verdict
    tracks_by s e =
        by_section (tracks_section g) (BundleRefused b) (λ m w. BundleRefused.track_count s w) (λ m p c i w. BundleRefused.track s c i w) e

    references_by : {m p : ℕ} → length b ≤ bundle_most → TracksOf b → references_verdict b ≡ refused m p → BundleRefused b m p
    unfolding references_verdict references_at
    references_by s t e =
        by_section (references_section g t) (BundleRefused b) (λ m w. BundleRefused.reference_count s t w) (λ m p c i w. BundleRefused.reference s t c i w) e

    samples_by : {m p : ℕ} → length b ≤ bundle_most → TracksOf b → ReferencesOf b → samples_verdict b ≡ refused m p → BundleRefused b m p
    unfolding samples_verdict samples_at references_at
    samples_by s t r e =
        by_section samples_section (BundleRefused b) (λ m w. BundleRefused.sample_count s t r w) (λ m n c i w. BundleRefused.sample s t r c i w) e

    bytes_by : {m p : ℕ} → length b ≤ bundle_most → TracksOf b → ReferencesOf b → SamplesOf b → bytes_verdict b ≡ refused m p → BundleRefused b m p
    bytes_by {m} s t r n e =
        let a = at_from (byte_count_fault b (four b) (total b)) (four b) (sym (bytes_are b) ∙ e) in
        subst (BundleRefused b m) a.1 (BundleRefused.bytes s t r n (subst (BytesFault b) a.0 (bytes_judged.because a.2)))

    long_by : {m p : ℕ} → length_verdict b ≡ refused m p → BundleRefused b m p
    long_by {m} {p} e = by_bool (bundle_most <? length b)
        (λ t. refused_along (BundleRefused b) (rw t at e) (BundleRefused.long (ltb-true _ _ t)))
        (λ t. ok_refused (sym (rw t at e)))

    short_by : length_verdict b ≡ ok tt → length b ≤ bundle_most
    short_by e = ltb-false _ _ (if_none 0 _ (at_ok _ 0 e))

    pub bundle_by : {m p : ℕ} → bundle_verdict b ≡ refused m p → BundleRefused b m p
    unfolding bundle_verdict
    bundle_by e = by_and (length_verdict b) _ e long_by
        (λ l e1. let s = short_by l in by_and (tracks_verdict b) _ e1 (tracks_by s)
        (λ t e2. let u = tracks_of b g t in by_and (references_verdict b) _ e2 (references_by s u)
        (λ r e3. let v = references_of b g u r in by_and (samples_verdict b) _ e3 (samples_by s u v)
        (λ n e4. bytes_by s u v (samples_of b n) e4))))

    -- back
    after_length_lem : {m p : ℕ} → length b ≤ bundle_most → (tracks_verdict b and_then references_verdict b and_then samples_verdict b and_then bytes_verdict b) ≡ refused m p → bundle_verdict b ≡ refused m p
    unfolding bundle_verdict
    after_length_lem s e = rw (le-ltb bundle_most (length b) s) e

    after_tracks : {m p : ℕ} → length b ≤ bundle_most → TracksOf b → (references_verdict b and_then samples_verdict b and_then bytes_verdict b) ≡ refused m p → bundle_verdict b ≡ refused m p
    after_tracks s t e = after_length_lem s (rw (of_tracks b g t) e)

    after_references : {m p : ℕ} → length b ≤ bundle_most → TracksOf b → ReferencesOf b → (samples_verdict b and_then bytes_verdict b) ≡ refused m p → bundle_verdict b ≡ refused m p
    after_references s t r e = after_tracks s t (rw (of_references b g r) e)

    pub by_bundle : {m p : ℕ} → BundleRefused b m p → bundle_verdict b ≡ refused m p
    unfolding bundle_verdict tracks_verdict references_verdict samples_verdict samples_at references_at
    by_bundle (BundleRefused.long h) = rw (lt-ltb bundle_most (length b) h)
    by_bundle (BundleRefused.track_count s w) = after_length_lem s (and_here (tracks_verdict b) _ (section_count (tracks_section g) w))
    by_bundle (BundleRefused.track s c i w) = after_length_lem s (and_here (tracks_verdict b) _ (section_entry (tracks_section g) c i w))
    by_bundle (BundleRefused.reference_count s t w) = after_tracks s t (and_here (references_verdict b) _ (section_count (references_section g t) w))
    by_bundle (BundleRefused.reference s t c i w) = after_tracks s t (and_here (references_verdict b) _ (section_entry (references_section g t) c i w))
    by_bundle (BundleRefused.sample_count s t r w) = after_references s t r (and_here (samples_verdict b) _ (section_count samples_section w))
    by_bundle (BundleRefused.sample s t r c i w) = after_references s t r (and_here (samples_verdict b) _ (section_entry samples_section c i w))
    by_bundle (BundleRefused.bytes {m} s t r n w) = after_references s t r (rw (of_samples b n) (bytes_are b ∙ at_some (four b) (bytes_judged.refuses m w)))
