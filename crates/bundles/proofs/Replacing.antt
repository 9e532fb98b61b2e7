-- Replacing a sample's bytes in an accepted bundle is replacing them in its recording.
-- The idea: everything but the samples is read below `contents_at`, where the two bundles agree. Assumes nothing.
--
--   verdict_same, layout_same, lengths_same    two bundles of one length that agree below `contents_at`
--   length_is                                  the length of a sample, as its entry says
--   replace                                    one sample's bytes replaced, length kept
--   records_replaced                           the records stand where they did
use Prim.Native.Nat.{ℕ, zero, suc, ◌+◌, ◌-◌, ◌*◌, ◌≤◌, ◌<◌}
use mathlib.Core.Path.{◌≡◌, refl, ap, ap₂, sym, ◌∙◌}
use mathlib.Core.List.{List, map, Memᴰ}
use native.Mathlib.Omega.{arith}
use lib.ListN.{length, get_or, take, set}
use Rattle.words.specs.Refusals.{ok, ◌and_then◌, ◌at_place◌, first}
use Rattle.words.specs.Lists.{sum, nth}
use Rattle.words.specs.Walks.{entries, skip}
use Rattle.words.specs.Bytes.{big, part, splice, cuts}
use Rattle.words.proofs.Refusals.{first_cong, and_ok}
use Rattle.words.proofs.Entries.{entries_length}
use Rattle.words.proofs.Lists.{map_cong, upto_from, nth_mem}
use Rattle.words.proofs.Walks.{skip_grows, skip_stride, entries_end, entries_same}
use Rattle.words.proofs.Splices.{part_ext, splice_length, splice_before, cuts_splice, cuts_lengths, take_sum}
use Rattle.bundles.specs.Limits.{track_least, track_most, reference_most, sample_most, count_fault}
use Rattle.bundles.specs.Fields.{track_count_size, record_length_size, record_length_offset, track_head_size, reference_count_size, track_number_size, to_offset, reference_size, sample_count_size, time_size, sample_length_size, time_offset, length_offset, sample_entry_size, byte_count_size}
use Rattle.bundles.specs.Recordings.{Recording, replaced, sample_count, content_of}
use Rattle.bundles.specs.Tracks.{track_count, tracks_at, track_end, record_at, size_at, track_fault, track_places, tracks_verdict, track_on, tracks, record_part, references_at}
use Rattle.bundles.specs.References.{reference_count, no_such_track, reference_fault, reference_places, references_verdict, reference_on, references, samples_at}
use Rattle.bundles.specs.Samples.{entry_count, entries_at, entry_at, entry_fault, entry_numbers, samples_verdict, entry_on, sample_entries, length_at, lengths, byte_count_at}
use Rattle.bundles.specs.Bundles.{byte_count_fault, bytes_verdict, bundle_verdict, layout_of, contents_at, recording_of, meaning, content_at}
use Rattle.bundles.proofs.Sections.{track_end_grows, accepted, track_count_lem, sample_count_lem, lengths_count}

module _ (b c : List ℕ) (same : length c ≡ length b) (agree : (q : ℕ) → q < contents_at b → get_or c q 0 ≡ get_or b q 0) where
  abbrev Below : ℕ → Type 0
  Below n = n ≤ contents_at b

  head_big : (p n : ℕ) → Below (p + n) → big c p n ≡ big b p n
  unfolding big
  head_big p zero h = refl
  head_big p (suc n) h = rw (head_big p n (omega arith), agree (p + n) (omega arith))

  head_part : (a n : ℕ) → Below (a + n) → part c a n ≡ part b a n
  head_part a n h = part_ext c b a n same (λ q l u. agree q (omega arith))

  -- where the sections start
  references_before : references_at b + reference_count_size + reference_count b * reference_size ≤ samples_at b
  unfolding samples_at
  references_before = omega arith

  samples_before_lem : entries_at b + entry_count b * sample_entry_size ≤ byte_count_at b
  unfolding byte_count_at
  samples_before_lem = omega arith

  -- section one
  first_entry : tracks_at b ≤ references_at b
  unfolding references_at
  first_entry = skip_grows (track_end b) (track_end_grows b) _ (tracks_at b)

  references_below : Below (references_at b + reference_count_size)
  references_below = let x = references_before in let y = samples_before_lem in omega arith

  track_count_same : track_count c ≡ track_count b
  track_count_same = head_big 0 track_count_size (let f = first_entry in let g = references_below in omega arith)

  track_end_same : (p : ℕ) → Below (track_end b p) → track_end c p ≡ track_end b p
  track_end_same p h = rw (head_big (p + record_length_offset) record_length_size (omega arith))

  track_entries : (entries (track_end c) (track_count b) (tracks_at b) ≡ track_places b) × (skip (track_end c) (track_count b) (tracks_at b) ≡ skip (track_end b) (track_count b) (tracks_at b))
  track_entries = entries_same (track_end b) (track_end_grows b) (track_end c) (contents_at b) track_end_same (track_count b) (tracks_at b) section_end
    where
      section_end : Below (skip (track_end b) (track_count b) (tracks_at b))
      section_end = let z : Below (references_at b) = (let g = references_below in omega arith) in (unfold references_at in z)

  track_places_same : track_places c ≡ track_places b
  track_places_same = rw track_count_same track_entries.0

  references_at_same : references_at c ≡ references_at b
  unfolding references_at
  references_at_same = rw track_count_same track_entries.1

  track_below : (p : ℕ) → Memᴰ p (track_places b) → Below (track_end b p)
  track_below p m = let e = entries_end (track_end b) (track_end_grows b) (track_count b) (tracks_at b) p m in let z : track_end b p ≤ references_at b = (unfold references_at in e) in let g = references_below in omega arith

  record_same : (p : ℕ) → Below (track_end b p) → record_at c p ≡ record_at b p
  record_same p h = rw (head_big (p + record_length_offset) record_length_size (omega arith)) (head_part (p + track_head_size) _ h)

  track_fault_same : (p : ℕ) → Below (track_end b p) → track_fault c p ≡ track_fault b p
  unfolding track_fault
  track_fault_same p h = rw (record_same p h, head_big (p + record_length_offset) record_length_size (omega arith), agree p (omega arith), same)

  track_on_same : (p : ℕ) → Below (track_end b p) → track_on c p ≡ track_on b p
  unfolding size_at
  track_on_same p h = rw (record_same p h, agree p (omega arith))

  tracks_same : tracks c ≡ tracks b
  unfolding tracks
  tracks_same = ap (map (track_on c)) track_places_same ∙ map_cong (track_on c) (track_on b) (track_places b) (λ p m. track_on_same p (track_below p m))

  part_same : (k : ℕ) → 0 < k → k ≤ track_count b → record_part c k ≡ record_part b k
  unfolding record_part
  part_same k h l =
      let m = nth_mem (track_places b) k 0 h (rw (entries_length (track_end b) (track_count b) (tracks_at b)) l) in
      let z = track_below (nth (track_places b) k 0) m in
      rw (track_places_same, head_big (nth (track_places b) k 0 + record_length_offset) record_length_size (omega arith))

  -- section two
  reference_count_same : reference_count c ≡ reference_count b
  reference_count_same = rw references_at_same (head_big (references_at b) reference_count_size references_below)

  reference_places_same : reference_places c ≡ reference_places b
  reference_places_same = rw (reference_count_same, references_at_same)

  samples_at_same : samples_at c ≡ samples_at b
  unfolding samples_at
  samples_at_same = rw (reference_count_same, references_at_same)

  reference_below : (p : ℕ) → Memᴰ p (reference_places b) → Below (p + reference_size)
  reference_below p m =
      let e = entries_end (λ q. q + reference_size) (λ q. omega arith) (reference_count b) (references_at b + reference_count_size) p m in
      let f = skip_stride reference_size (reference_count b) (references_at b + reference_count_size) in
      let x = references_before in let y = samples_before_lem in omega arith

  reference_fault_same : (p : ℕ) → Below (p + reference_size) → reference_fault c p ≡ reference_fault b p
  unfolding reference_fault no_such_track
  reference_fault_same p h = rw (tracks_same, track_count_same, head_big p track_number_size (omega arith), head_big (p + to_offset) track_number_size (omega arith), same)

  reference_on_same : (p : ℕ) → Below (p + reference_size) → reference_on c p ≡ reference_on b p
  reference_on_same p h = rw (head_big p track_number_size (omega arith), head_big (p + to_offset) track_number_size (omega arith))

  references_same : references c ≡ references b
  unfolding references
  references_same = ap (map (reference_on c)) reference_places_same ∙ map_cong (reference_on c) (reference_on b) (reference_places b) (λ p m. reference_on_same p (reference_below p m))

  -- section three
  entry_count_same : entry_count c ≡ entry_count b
  entry_count_same = rw samples_at_same (head_big (samples_at b) sample_count_size (let y = samples_before_lem in omega arith))

  byte_count_at_same : byte_count_at c ≡ byte_count_at b
  unfolding byte_count_at
  byte_count_at_same = rw (entry_count_same, samples_at_same)

  entry_below : (n : ℕ) → Memᴰ n (entry_numbers b) → Below (entry_at b n + sample_entry_size)
  entry_below n m = let u = upto_from (entry_count b) n m in let y = samples_before_lem in omega arith

  entry_on_same : (p : ℕ) → Below (p + sample_entry_size) → entry_on c p ≡ entry_on b p
  entry_on_same p h = rw (head_big p track_number_size (omega arith), head_big (p + time_offset) time_size (omega arith))

  entry_fault_same : (n : ℕ) → Memᴰ n (entry_numbers b) → entry_fault c n ≡ entry_fault b n
  unfolding entry_fault no_such_track
  entry_fault_same n m =
      let h = entry_below n m in
      rw (samples_at_same, track_count_same, entry_on_same (entry_at b n) h, entry_on_same (entry_at b (n - 1)) (omega arith), head_big (entry_at b n) track_number_size (omega arith), same)

  sample_entries_same : sample_entries c ≡ sample_entries b
  unfolding sample_entries
  sample_entries_same = rw (entry_count_same, samples_at_same) (map_cong (λ n. entry_on c (entry_at b n)) (λ n. entry_on b (entry_at b n)) (entry_numbers b) (λ n m. entry_on_same (entry_at b n) (entry_below n m)))

  pub lengths_same : lengths c ≡ lengths b
  unfolding lengths
  lengths_same = rw (entry_count_same, samples_at_same) (map_cong (λ n. length_at c (entry_at b n)) (λ n. length_at b (entry_at b n)) (entry_numbers b) (λ n m. let h = entry_below n m in head_big (entry_at b n + length_offset) sample_length_size (omega arith)))

  pub layout_same : layout_of c ≡ layout_of b
  unfolding layout_of
  layout_same = rw (tracks_same, references_same, sample_entries_same)

  -- section four, and the verdicts
  byte_count_fault_same : byte_count_fault c (byte_count_at b) (sum (lengths b)) ≡ byte_count_fault b (byte_count_at b) (sum (lengths b))
  unfolding byte_count_fault
  byte_count_fault_same = rw (head_big (byte_count_at b) byte_count_size (omega arith), same)

  count_same : {p : ℕ} (q n least most : ℕ) → p ≡ q → Below (q + n) → count_fault c p n least most at_place p ≡ count_fault b q n least most at_place q
  unfolding count_fault
  count_same q n least most e h = rw (e, head_big q n h, same)

  walk : (fault : List ℕ → ℕ → ℕ) {ps qs : List ℕ} → ps ≡ qs → ((p : ℕ) → Memᴰ p qs → fault c p ≡ fault b p) → first (λ p. fault c p at_place p) ps ≡ first (λ p. fault b p at_place p) qs
  walk fault {ps} {qs} e h = ap (first (λ p. fault c p at_place p)) e ∙ first_cong _ _ qs (λ p m. rw (h p m))

  tracks_verdict_same : tracks_verdict c ≡ tracks_verdict b
  unfolding tracks_verdict
  tracks_verdict_same = ap₂ ◌and_then◌ (count_same 0 track_count_size track_least track_most refl (let f = first_entry in let g = references_below in omega arith)) (walk track_fault track_places_same (λ p m. track_fault_same p (track_below p m)))

  references_verdict_same : references_verdict c ≡ references_verdict b
  unfolding references_verdict
  references_verdict_same = ap₂ ◌and_then◌ (count_same (references_at b) reference_count_size 0 reference_most references_at_same references_below) (walk reference_fault reference_places_same (λ p m. reference_fault_same p (reference_below p m)))

  samples_verdict_same : samples_verdict c ≡ samples_verdict b
  unfolding samples_verdict
  samples_verdict_same = ap₂ ◌and_then◌ (count_same (samples_at b) sample_count_size 0 sample_most samples_at_same (let y = samples_before_lem in omega arith))
      (rw (entry_count_same, samples_at_same) (first_cong (λ n. entry_fault c n at_place entry_at b n) (λ n. entry_fault b n at_place entry_at b n) (entry_numbers b) (λ n m. rw (entry_fault_same n m))))

  bytes_verdict_same : bytes_verdict c ≡ bytes_verdict b
  unfolding bytes_verdict
  bytes_verdict_same = rw (lengths_same, byte_count_at_same, byte_count_fault_same)

  pub verdict_same : bundle_verdict c ≡ bundle_verdict b
  unfolding bundle_verdict
  verdict_same = rw (tracks_verdict_same, references_verdict_same, samples_verdict_same, bytes_verdict_same, same)

module _ (b : List ℕ) (n : ℕ) (new : List ℕ) (good : bundle_verdict b ≡ ok tt) (is : n < length (lengths b)) (long : length new ≡ get_or (lengths b) n 0) where
  abbrev c : List ℕ
  c = splice b (content_at b (suc n)) new

  at_content : content_at b (suc n) ≡ contents_at b + sum (take n (lengths b))
  unfolding content_at
  at_content = ap (λ (k : ℕ). contents_at b + sum (take k (lengths b))) (let z : suc n - 1 ≡ n = omega arith in z)

  ends : contents_at b + sum (lengths b) ≡ length b
  ends = (accepted b good).bytes.end

  fits : content_at b (suc n) + length new ≤ length b
  fits = let a = ends in let t = take_sum (lengths b) n is in let q = at_content in omega arith

  same_length : length c ≡ length b
  same_length = splice_length b _ new fits

  agree_below : (q : ℕ) → q < contents_at b → get_or c q 0 ≡ get_or b q 0
  agree_below q h = splice_before b _ new fits q (let e = at_content in omega arith)

  verdict_kept : bundle_verdict c ≡ ok tt
  verdict_kept = verdict_same b c same_length agree_below ∙ good

  record_kept : (k : ℕ) → 0 < k → k ≤ track_count b → record_part c k ≡ record_part b k
  record_kept = part_same b c same_length agree_below

  contents_same : cuts c (lengths c) (contents_at c) ≡ set (cuts b (lengths b) (contents_at b)) n new
  contents_same = rw (lengths_same b c same_length agree_below, byte_count_at_same b c same_length agree_below)
      (cuts_splice b new (lengths b) (contents_at b) n _ at_content (let a = ends in omega arith) is long)

  recording_same : recording_of c ≡ replaced (recording_of b) (suc n) new
  unfolding recording_of replaced
  recording_same = rw (layout_same b c same_length agree_below, contents_same)

-- the samples of the recording and their lengths
count_is : (b : List ℕ) → sample_count (recording_of b).layout ≡ length (lengths b)
unfolding recording_of layout_of
count_is b = sample_count_lem b ∙ sym (lengths_count b)

pub length_is : (b : List ℕ) (n : ℕ) → bundle_verdict b ≡ ok tt → n < length (lengths b) → length (content_of (recording_of b) (suc n)) ≡ get_or (lengths b) n 0
unfolding recording_of nth
length_is b n e h = cuts_lengths b (lengths b) (contents_at b) n (let a = (accepted b e).bytes.end in omega arith) h

-- what is asked of the bytes that replace those of a sample
replaces :
    {G : Type 0} (b : List ℕ) (r : Recording) (n : ℕ) (new : List ℕ) → meaning b ≡ ok r →
    0 < n → n ≤ sample_count r.layout → length new ≡ length (content_of r n) →
    ((i : ℕ) → n ≡ suc i → bundle_verdict b ≡ ok tt → recording_of b ≡ r → i < length (lengths b) → length new ≡ get_or (lengths b) i 0 → G) → G
unfolding meaning
replaces b r zero new e l u k f = absurd (omega arith)
replaces b r (suc n) new e l u k f =
    let a = and_ok (bundle_verdict b) (ok (recording_of b)) e in
    let q : recording_of b ≡ r = cc in
    let v : suc n ≤ sample_count (recording_of b).layout = rw q u in
    let is : n < length (lengths b) = rw count_is at v in
    let lo : length new ≡ get_or (lengths b) n 0 = (let w : length new ≡ length (content_of (recording_of b) (suc n)) = rw q k in w ∙ length_is b n a.0 is) in
    f n refl a.0 q is lo

module _
    (b : List ℕ) (r : Recording) (n : ℕ) (new : List ℕ) (e : meaning b ≡ ok r)
    (h : 0 < n) (l : n ≤ sample_count r.layout) (k : length new ≡ length (content_of r n))
  where
    pub replace : meaning (splice b (content_at b n) new) ≡ ok (replaced r n new)
    unfolding meaning
    replace = replaces b r n new e h l k (λ i z a q is lo. rw (z, verdict_kept b i new a is lo, recording_same b i new a is lo, q))

    pub records_replaced : (j : ℕ) → 0 < j → j ≤ length r.layout.tracks → record_part (splice b (content_at b n) new) j ≡ record_part b j
    unfolding recording_of layout_of
    records_replaced j some there = replaces b r n new e h l k (λ i z a q is lo.
        let c : length (tracks b) ≡ length r.layout.tracks = ap (λ (x : Recording). length x.layout.tracks) q in
        let t = track_count_lem b in
        rw z (record_kept b i new a is lo j some (omega arith)))
