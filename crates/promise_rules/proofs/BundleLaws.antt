-- The proofs of what Demands says of bundles. Assumes nothing.
use Rattle.std.specs.Prelude.{None, Option, Some}
use Prim.Native.Nat.{ℕ, ◌+◌, ◌-◌, ◌≤◌, ◌<◌}
use mathlib.Core.Path.{◌≡◌, refl, ap, sym, ◌∙◌, subst}
use mathlib.Core.Bool.{false}
use mathlib.Core.List.Memᴰ
use mathlib.Core.List.{List, [], ◌∷◌}
use mathlib.Core.Logic.{◌⊎◌, inl, inr, ⊎_elim, ◌↔◌}
use native.Mathlib.Omega.{arith}
use borrow.Author.Tests.{ltb-false, le-ltb, lt-leb, eqb-true, eqb-false, ne_eqb, eq-eqb}
use lib.ListN.{length, length-map}
use Rattle.words.specs.Tests.{◌≡?◌}
use Rattle.words.specs.Refusals.{◌at_place◌, ok}
use Rattle.words.specs.Lists.{◌∈◌, nth, upto}
use Rattle.words.specs.Bytes.{Bytes, byte_at, big}
use Rattle.words.proofs.Tests.{by_bool, within_count}
use Rattle.words.proofs.Refusals.{if_none, and_ok, at_ok, at_none, first_all, ok_refused}
use Rattle.words.proofs.Lists.{upto_from, nth_mem}
use Rattle.words.proofs.Joined.{nth_map}
use Rattle.words.proofs.Entries.{entries_length}
use Rattle.numbers.specs.Sizes.{in_bytes, length_size_of}
use Rattle.numbers.specs.declared.Kind.TheVariants.{Avc, Svc}
use Rattle.numbers.specs.Kinds.{kind_of}
use Rattle.record_rules.specs.Read.{length_size, record_of, read_record}
use Rattle.record_rules.specs.Answers.{part_bytes}
use Rattle.record_rules.specs.declared.Fields.{Fields}
use Rattle.record_rules.specs.declared.Record.{Record}
use Rattle.record_writer.specs.Promise.{Holds}
use Rattle.bundles.specs.Limits.{bundle_most, track_most, reference_most, sample_most, count_fault}
use Rattle.bundles.specs.Recordings.{Recording, no_track}
use Rattle.bundles.specs.Readers.{first_layout}
use Rattle.bundles.specs.Tracks.{known_kind, known_size, size_at, track_on, tracks, record_at, record_fault_as, track_fault, tracks_verdict, references_at}
use Rattle.bundles.specs.References.{references, no_such_track, reference_fault, references_verdict, samples_at, length_size_on}
use Rattle.bundles.specs.Samples.{sample_entries, entry_on, order_fault, entry_at, entry_fault, samples_verdict, lengths, byte_count_at}
use Rattle.bundles.specs.Bundles.{byte_count_fault, length_verdict, bytes_verdict, bundle_verdict, layout_of, recording_of, meaning}
use Rattle.bundles.proofs.Promises.{means, samples_tile}
use Rattle.bundles.proofs.Sections as sections
use Rattle.promise_rules.specs.Records.{RecordOf}
use Rattle.promise_rules.proofs.RecordLaws.{accepted_known, known_accepted, accepted_exactly}
use Rattle.record_rules.proofs.Answers.{read_unknown}
use Rattle.promise_rules.specs.Bundles.{two, three, four, entry, track_places, reference_places, total, CountAt, TrackAt, TrackSize, ReferenceAt, EntryAt, TracksOf, ReferencesOf, SamplesOf, BytesOf, BundleOf, TrackMeans, Means}
use Rattle.promise_rules.proofs.CallLaws.{part_bytes_lem}
use Rattle.numbers.specs.declared.Kind.{Kind}

-- a record in a bundle
record Read (kind : ℕ) (s : List ℕ) : Type 0 where
  pub fields : Fields
  pub sequences : List ℕ
  pub pictures : List ℕ
  pub extensions : List ℕ
  pub valid : RecordOf fields sequences pictures extensions kind s

unknown_read : (kind : ℕ) (s : List ℕ) {r : Record} → kind_of kind ≡ None → read_record kind s ≡ ok r → record_fault_as None s ≡ 0
unknown_read kind s q e = ok_refused (sym (read_unknown kind s q) ∙ e)

read_of : (kind : ℕ) (s : List ℕ) → Bytes s → (m : Option Kind) → kind_of kind ≡ m → record_fault_as m s ≡ 0 → Read kind s
read_of kind s g (Some k) q e =
    let r = record_of k s in
    let h : Holds kind s r.fields (part_bytes s r.sequences) (part_bytes s r.pictures) (part_bytes s r.extensions) =
    record { found = r; read = known_accepted kind k s q e; fields = refl; sequences = refl; pictures = refl; extensions = refl } in
    record { fields = r.fields; sequences = _; pictures = _; extensions = _; valid = (accepted_exactly r.fields _ _ _ kind s g).0 h }
read_of kind s g None q e = absurd (omega arith)

of_read : (kind : ℕ) (s : List ℕ) → Bytes s → (m : Option Kind) → kind_of kind ≡ m → Read kind s → record_fault_as m s ≡ 0
of_read kind s g (Some k) q w = (accepted_known kind k s q ((accepted_exactly w.fields _ _ _ kind s g).1 w.valid).read).0
of_read kind s g None q w = unknown_read kind s q ((accepted_exactly w.fields _ _ _ kind s g).1 w.valid).read

module _ (b : List ℕ) where
  -- the rules, from the definition
  pub count_at : (p n least most : ℕ) → sections.Count b p n least most → CountAt b p n least most
  count_at p n least most c = record { inside = c.inside; some = c.some; few = c.few }

  pub track_at_lem : Bytes b → (p : ℕ) → track_fault b p ≡ 0 → TrackAt b p
  track_at_lem g p e =
      let w = sections.track_good b p e in
      let r = read_of (byte_at b p) (record_at b p) (part_bytes_lem b (p + 3) (big b (p + 1) 2) g) (kind_of (byte_at b p)) refl w.whole in
      record {
        head = w.head;
        inside = w.inside;
        fields = r.fields;
        sequences = r.sequences;
        pictures = r.pictures;
        extensions = r.extensions;
        valid = r.valid;
      }

  -- what a track means
  size_known : (l : ℕ) → l ∈ (1 ∷ 2 ∷ 4 ∷ []) → in_bytes (known_size (length_size_of l)) ≡ l
  size_known l m = ⊎_elim (λ e. rw e)
      (λ m1. ⊎_elim (λ e. rw e)
      (λ m2. ⊎_elim (λ e. rw e) (λ k. absurd (Memᴰ.not-nil k)) (Memᴰ.cases_cons m2))
      (Memᴰ.cases_cons m1))
      (Memᴰ.cases_cons m)

  stated : {f : Fields} {s t u : List ℕ} {kind : ℕ} {c : List ℕ} → RecordOf f s t u kind c → f.length_size ∈ (1 ∷ 2 ∷ 4 ∷ [])
  stated (RecordOf.avc rest h x l q e) = h.length_size
  stated (RecordOf.svc bit h x l q e n) = h.length_size

  size_stated : (kind : ℕ) (s : List ℕ) → Bytes s → (m : Option Kind) → kind_of kind ≡ m → (f : Fields) (a c x : List ℕ) → RecordOf f a c x kind s →
      length_size (known_kind m) s ≡ f.length_size
  size_stated kind s g (Some k) q f a c x w =
      let h = (accepted_exactly f a c x kind s g).1 w in
      ap (λ (r : Record). r.fields.length_size) (accepted_known kind k s q h.read).1 ∙ ap (λ (r : Fields). r.length_size) h.fields
  size_stated kind s g None q f a c x w =
      let h = (accepted_exactly f a c x kind s g).1 w in
      let z : record_fault_as None s ≡ 0 = unknown_read kind s q h.read in absurd (omega arith)

  kind_stated : {kind : ℕ} {s : List ℕ} → Read kind s → ((kind ≡ 0) × (known_kind (kind_of kind) ≡ Avc)) ⊎ ((kind ≡ 1) × (known_kind (kind_of kind) ≡ Svc))
  kind_stated w = go w.valid
    where
      go : {kind : ℕ} {f : Fields} {a c x s : List ℕ} → RecordOf f a c x kind s → ((kind ≡ 0) × (known_kind (kind_of kind) ≡ Avc)) ⊎ ((kind ≡ 1) × (known_kind (kind_of kind) ≡ Svc))
      go (RecordOf.avc rest h x l q e) = inl (refl, refl)
      go (RecordOf.svc bit h x l q e n) = inr (refl, refl)

  pub track_means : Bytes b → (p : ℕ) → TrackAt b p → TrackMeans b p (track_on b p)
  unfolding size_at
  track_means g p w =
      record {
        kind = kind_stated (record { fields = w.fields; sequences = w.sequences; pictures = w.pictures; extensions = w.extensions; valid = w.valid });
        size = λ f s t u v.
            let e = size_stated (byte_at b p) (record_at b p) (part_bytes_lem b (p + 3) (big b (p + 1) 2) g) (kind_of (byte_at b p)) refl f s t u v in
            rw e (size_known f.length_size (stated v));
      }

  -- L of a track is that of its record
  track_size : Bytes b → (k : ℕ) → 0 < k → k ≤ big b 0 1 → (t : TrackAt b (nth (track_places b) k 0)) → length_size_on b k ≡ t.fields.length_size
  unfolding tracks
  track_size g k h l t =
      let c : k ≤ length (track_places b) = rw (entries_length (λ p. p + 3 + big b (p + 1) 2) (big b 0 1) 1) l in
      rw (nth_map (track_on b) (track_places b) k 0 no_track h c)
      ((track_means g (nth (track_places b) k 0) t).size t.fields t.sequences t.pictures t.extensions t.valid)

  track_there : TracksOf b → (k : ℕ) → (0 < k) × (k ≤ big b 0 1) → TrackAt b (nth (track_places b) k 0)
  track_there t k h =
      let c : k ≤ length (track_places b) = rw (entries_length (λ p. p + 3 + big b (p + 1) 2) (big b 0 1) 1) h.1 in
      t.each (nth (track_places b) k 0) (nth_mem (track_places b) k 0 h.0 c)

  same_size : Bytes b → TracksOf b → (k m : ℕ) → (0 < k) × (k ≤ big b 0 1) → (0 < m) × (m ≤ big b 0 1) → length_size_on b k ≡ length_size_on b m →
      (l : ℕ) × TrackSize b k l × TrackSize b m l
  same_size g t k m hk hm e =
      let x = track_there t k hk in
      let y = track_there t m hm in (
        x.fields.length_size,
        record { track = x; size = refl },
        record {
          track = y;
          size = sym (track_size g m hm.0 hm.1 y) ∙ (sym e ∙ track_size g k hk.0 hk.1 x);
        },
      )

  pub reference_at : Bytes b → TracksOf b → (p : ℕ) → reference_fault b p ≡ 0 → ReferenceAt b p
  reference_at g t p e =
      let w = sections.reference_good b p e in
      record {
        inside = w.inside;
        from = w.from_there;
        to = w.to_there;
        apart = w.apart;
        same = same_size g t (big b p 1) (big b (p + 1) 1) w.from_there w.to_there w.same;
      }

  pub entry_rules : (n : ℕ) → entry_fault b n ≡ 0 → EntryAt b n
  unfolding samples_at references_at
  entry_rules n e =
      let w = sections.entry_good b n e in
      record {
        inside = w.inside;
        track = w.there;
        order = λ h. (sections.order_good b (entry_on b (entry_at b (n - 1))) (entry_on b (entry_at b n)) (w.order h)).0;
        times = λ h. (sections.order_good b (entry_on b (entry_at b (n - 1))) (entry_on b (entry_at b n)) (w.order h)).1;
      }

  -- and to it
  pub count_none : (p n least most : ℕ) → CountAt b p n least most → count_fault b p n least most ≡ 0
  unfolding count_fault
  count_none p n least most c = rw (le-ltb (length b) (p + n) c.inside, le-ltb (big b p n) least c.some, le-ltb most (big b p n) c.few)

  pub track_none : Bytes b → (p : ℕ) → TrackAt b p → track_fault b p ≡ 0
  unfolding track_fault
  track_none g p w =
      rw (le-ltb (length b) (p + 3) w.head, le-ltb (length b) (p + 3 + big b (p + 1) 2) w.inside)
      (of_read (byte_at b p) (record_at b p) (part_bytes_lem b (p + 3) (big b (p + 1) 2) g) (kind_of (byte_at b p)) refl
      (record { fields = w.fields; sequences = w.sequences; pictures = w.pictures; extensions = w.extensions; valid = w.valid }))

  exists : (k : ℕ) → (0 < k) × (k ≤ big b 0 1) → no_such_track b k ≡ false
  unfolding no_such_track
  exists k h = within_count (big b 0 1) k h.0 h.1

  pub reference_none : Bytes b → (p : ℕ) → ReferenceAt b p → reference_fault b p ≡ 0
  unfolding reference_fault
  reference_none g p w =
      let x = w.same.1 in
      let y = w.same.2 in
      let e : length_size_on b (big b p 1) ≡ length_size_on b (big b (p + 1) 1) =
      track_size g (big b p 1) w.from.0 w.from.1 x.track ∙ (x.size ∙ sym (track_size g (big b (p + 1) 1) w.to.0 w.to.1 y.track ∙ y.size)) in
      rw (
        le-ltb (length b) (p + 2) w.inside,
        exists (big b p 1) w.from,
        exists (big b (p + 1) 1) w.to,
        ne_eqb (big b p 1) (big b (p + 1) 1) w.apart,
        eq-eqb (length_size_on b (big b p 1)) (length_size_on b (big b (p + 1) 1)) e,
      )

  order_none : (s t u v : ℕ) → s ≤ t → (s ≡ t → u < v) → order_fault (record { track = s; time = u }) (record { track = t; time = v }) ≡ 0
  unfolding order_fault
  order_none s t u v h l = rw (le-ltb t s h) (by_bool (t ≡? s)
      (λ q. rw (q, lt-leb v u (l (sym (eqb-true t s q)))))
      (λ q. rw q))

  pub entry_none : (n : ℕ) → 0 < n → EntryAt b n → entry_fault b n ≡ 0
  unfolding entry_fault samples_at references_at
  entry_none n h w =
      rw (le-ltb (length b) (entry b n + 13) w.inside, exists (big b (entry b n) 1) w.track)
      (by_bool (n ≡? 1)
      (λ q. rw q)
      (λ q. let z : n ≡ 1 → ⊥ = eqb-false n 1 q in
      rw q (order_none _ _ _ _ (w.order (omega arith)) (w.times (omega arith)))))

  -- section by section, both ways
  pub tracks_of : Bytes b → tracks_verdict b ≡ ok tt → TracksOf b
  tracks_of g e = let a = sections.tracks_good b e in record { count = count_at 0 1 1 track_most a.count; each = λ p m. track_at_lem g p (a.each m) }

  pub of_tracks : Bytes b → TracksOf b → tracks_verdict b ≡ ok tt
  unfolding tracks_verdict
  of_tracks g w =
      rw (
        count_none 0 1 1 track_most w.count,
        first_all (λ p. track_fault b p at_place p) (track_places b) (λ p m. at_none p (track_none g p (w.each p m))),
      )

  pub references_of : Bytes b → TracksOf b → references_verdict b ≡ ok tt → ReferencesOf b
  unfolding references_at
  references_of g t e =
      let a = sections.references_good b e in
      record { count = count_at (two b) 1 0 reference_most a.count; each = λ p m. reference_at g t p (a.each m) }

  pub of_references : Bytes b → ReferencesOf b → references_verdict b ≡ ok tt
  unfolding references_verdict references_at
  of_references g w =
      rw (
        count_none (two b) 1 0 reference_most w.count,
        first_all (λ p. reference_fault b p at_place p) (reference_places b) (λ p m. at_none p (reference_none g p (w.each p m))),
      )

  pub samples_of : samples_verdict b ≡ ok tt → SamplesOf b
  unfolding samples_at references_at
  samples_of e =
      let a = sections.samples_good b e in
      record {
        count = count_at (three b) 2 0 sample_most a.count;
        each = λ n m. let u = upto_from (big b (three b) 2) n m in entry_rules n (a.each n u.0 u.1);
      }

  pub of_samples : SamplesOf b → samples_verdict b ≡ ok tt
  unfolding samples_verdict samples_at references_at
  of_samples w =
      rw (
        count_none (three b) 2 0 sample_most w.count,
        first_all (λ n. entry_fault b n at_place entry_at b n) (upto (big b (three b) 2)) (λ n m.
            at_none (entry_at b n) (entry_none n (upto_from (big b (three b) 2) n m).0 (w.each n m))),
      )

  pub bytes_none : byte_count_fault b (four b) (total b) ≡ 0 → BytesOf b
  bytes_none e = let a = sections.end_good b (four b) (total b) e in
      record { count = a.count; end = ap (λ (c : ℕ). four b + 4 + c) a.count ∙ a.end }

  pub none_bytes : BytesOf b → byte_count_fault b (four b) (total b) ≡ 0
  unfolding byte_count_fault
  none_bytes w =
      let e = w.end in
      rw (
        le-ltb (length b) (four b + 4) (omega arith),
        eq-eqb (big b (four b) 4) (total b) w.count,
        le-ltb (length b) (four b + 4 + big b (four b) 4) (omega arith),
        le-ltb (four b + 4 + big b (four b) 4) (length b) (omega arith),
      )

  -- the first three sections, and the fourth
  pub bytes_are : bytes_verdict b ≡ byte_count_fault b (four b) (total b) at_place four b
  unfolding bytes_verdict byte_count_at lengths samples_at references_at
  bytes_are = refl

  pub rules_of : Bytes b → bundle_verdict b ≡ ok tt → BundleOf b
  unfolding bundle_verdict
  rules_of g v =
      let v1 = and_ok (length_verdict b) _ v in
      let v2 = and_ok (tracks_verdict b) _ v1.1 in
      let v3 = and_ok (references_verdict b) _ v2.1 in
      let v4 = and_ok (samples_verdict b) _ v3.1 in
      record {
        short = ltb-false _ _ (if_none 0 _ (at_ok _ 0 v1.0));
        tracks = tracks_of g v2.0;
        references = references_of g (tracks_of g v2.0) v3.0;
        samples = samples_of v4.0;
        bytes = bytes_none (at_ok _ (four b) (sym bytes_are ∙ v4.1));
      }

  pub of_rules : Bytes b → BundleOf b → bundle_verdict b ≡ ok tt
  unfolding bundle_verdict
  of_rules g w =
      rw (
        le-ltb bundle_most (length b) w.short,
        of_tracks g w.tracks,
        of_references g w.references,
        of_samples w.samples,
        bytes_are,
        none_bytes w.bytes,
      )

  pub accepted_exactly_if : Bytes b → (bundle_verdict b ≡ ok tt) ↔ BundleOf b
  accepted_exactly_if g = (rules_of g, of_rules g)

  -- what it means
  means_here : Bytes b → BundleOf b → bundle_verdict b ≡ ok tt → (r : Recording) → meaning b ≡ ok r → recording_of b ≡ r → Means b r
  unfolding recording_of layout_of tracks references sample_entries lengths samples_at references_at byte_count_at
  means_here g w v r e q =
      let s = samples_tile b r e in
      subst (Means b) q (record {
        tracks = length-map (track_places b) (track_on b) ∙ entries_length (λ p. p + 3 + big b (p + 1) 2) (big b 0 1) 1;
        track = λ k h l.
            let l' : k ≤ length (track_places b) = rw (entries_length (λ p. p + 3 + big b (p + 1) 2) (big b 0 1) 1) l in
            rw (nth_map (track_on b) (track_places b) k 0 no_track h l')
            (track_means g (nth (track_places b) k 0) (w.tracks.each (nth (track_places b) k 0) (nth_mem (track_places b) k 0 h l')));
        references = refl;
        entries = refl;
        lengths = rw (← q) at s.content_lengths;
        bytes = rw (← q) at s.joined;
      })

  pub means_exactly : Bytes b → (r : Recording) → first_layout.means b ≡ ok r → BundleOf b × Means b r
  means_exactly g r e =
      let m = means b e in
      let w = rules_of g m.0 in
      (w, means_here g w m.0 r e m.1)

  pub one_meaning : Bytes b → BundleOf b → (r : Recording) × (first_layout.means b ≡ ok r)
  unfolding meaning
  one_meaning g w = (recording_of b, rw (of_rules g w))
