-- The proofs of what Demands says of units: their fields, where they lie, where they stand in a bundle. Assumes nothing.
use Prim.Native.Nat.{ℕ, zero, suc, ◌+◌, ◌-◌, ◌*◌, ◌/◌, ◌%◌, ◌≤◌, ◌<◌}
use mathlib.Core.Path.{◌≡◌, refl, ap, sym, ◌∙◌, subst}
use mathlib.Core.List.{List, [], ◌∷◌, ◌++◌, map}
use mathlib.Core.Logic.{inl, inr, ⊎_elim}
use native.Mathlib.Omega.{arith}
use borrow.Author.Tests.{leb-true, leb-false, eqb-true, eq-eqb}
use lib.ListN.{length, get_or, take, length-map}
use lib.Seq.{take-append_seam}
use Rattle.words.specs.Tests.{◌≤?◌}
use Rattle.words.specs.Refusals.{ok}
use Rattle.words.specs.Lists.{◌∈◌, nth, upto, sum}
use Rattle.words.specs.Bytes.{Bytes, byte_at, big, bytes, part}
use Rattle.words.proofs.Tests.{by_bool}
use Rattle.words.proofs.Lists.{nth_mem, upto_mem, Rising}
use Rattle.words.proofs.Rows.{get_d_mem, upto_length, upto_split, nth_upto}
use Rattle.words.proofs.Entries.{map_append}
use Rattle.units.specs.Units.{Sample, L, size, type, next, end, places, top_units}
use Rattle.units.specs.Aggregators.{included, units}
use Rattle.units.specs.Rules.{Tiles}
use Rattle.units.proofs.Units.{next_after}
use Rattle.units.proofs.Walks.{places_end, places_step, units_top, units_included, units_from, units_rise}
use Rattle.samples.proofs.Laws.{top_tile, check_top, included_tile}
use Rattle.bundles.specs.Recordings.{Recording, Entry, no_track, no_entry, sample_count, track_of, content_of}
use Rattle.bundles.specs.Readers.{first_layout}
use Rattle.bundles.specs.Tracks.{references_at}
use Rattle.bundles.specs.References.{samples_at}
use Rattle.bundles.specs.Samples.{lengths, byte_count_at}
use Rattle.bundles.specs.Bundles.{content_at}
use Rattle.bundles.proofs.Promises.{samples_tile, samples_all}
use Rattle.resolution_rules.specs.Resolving.{sample_of, Span}
use Rattle.resolution_rules.specs.Calls.{no_span, placed_by, place_call}
use Rattle.resolution_rules.proofs.Good.{good_rules}
use Rattle.resolution_rules.proofs.Exactly.{delivered_there}
use Rattle.resolution_rules.proofs.Readers.{first_layout_sound}
use Rattle.resolution_rules.proofs.Calls as calls
use Rattle.promise_rules.specs.Samples.{Formed}
use Rattle.promise_rules.specs.Bundles.{three, four, entry, track_places, BundleOf, TrackMeans, Means}
use Rattle.promise_rules.specs.Units.{Walk, FieldsAt, Laid, UnitsOf, sample_start, SampleMeans, PlacedAt}
use Rattle.promise_rules.specs.Resolving.{Resolved, StandsAt}
use Rattle.promise_rules.proofs.SampleLaws.{rules_formed}
use Rattle.promise_rules.proofs.BundleLaws.{means_exactly}
use Rattle.promise_rules.proofs.CallLaws.{good_exactly, delivers_only, unit_gives, unit_stands}

module _ (x : Sample) where
  walk : (n a e : ℕ) → e - a ≤ n → Walk x a e (places x a e)
  unfolding size
  walk zero a e h = let l : e ≤ a = omega arith in rw (places_end x a e l) (Walk.end l)
  walk (suc n) a e h = by_bool (e ≤? a)
      (λ t. rw (places_end x a e (leb-true _ _ t)) (Walk.end (leb-true _ _ t)))
      (λ t. let l : a < e = leb-false _ _ t in let g = next_after x a in
      rw (places_step x a e l) (Walk.unit l (walk n (next x a) e (omega arith))))

  pub fields_at : (p : ℕ) → FieldsAt x p
  unfolding size type top_units
  fields_at p =
      let five : p + L x + 4 + 1 ≡ p + L x + 5 = omega arith in
      let six : p + L x + 4 + 2 ≡ p + L x + 6 = omega arith in
      record {
        one = λ e. rw e;
        two = λ e. rw e;
        four = λ e. rw e;
        its_size = refl;
        first = refl;
        its_type = refl;
        after = refl;
        additional = refl;
        inner = refl;
        tops = walk (length x.content) 0 (length x.content) (omega arith);
        inside = walk (next x p) (p + L x + 4 + L x) (next x p) (omega arith);
        index = refl;
        samples = ap (λ (k : ℕ). byte_at x.content k) five;
        offset = ap (λ (k : ℕ). big x.content k (L x)) six;
        amount = ap (λ (k : ℕ). big x.content (k + L x) (L x)) six;
      }

  laid : (a e : ℕ) (ps : List ℕ) → Tiles x a e ps → Laid x a e ps
  unfolding size
  laid a e [] t = subst (λ (k : ℕ). Laid x a k []) t Laid.none
  laid a e (p ∷ ps) t = subst (λ (k : ℕ). Laid x k e (p ∷ ps)) t.0 (Laid.unit t.1 (laid (next x p) e ps t.2))

  rising_at : (xs : List ℕ) → Rising ◌<◌ xs → (i j : ℕ) → i < j → j < length xs → get_or xs i 0 < get_or xs j 0
  rising_at [] h i j l u = absurd (omega arith)
  rising_at (y ∷ xs) h i zero l u = absurd (omega arith)
  rising_at (y ∷ xs) h zero (suc j) l u = h.0 (get_or xs j 0) (get_d_mem xs j 0 (omega arith))
  rising_at (y ∷ xs) h (suc i) (suc j) l u = rising_at xs h.1 i j (omega arith) (omega arith)

  filled : Formed x → (p : ℕ) → p ∈ top_units x → type x p ≡ 30 → Laid x (p + 2 * L x + 4) (p + L x + big x.content p (L x)) (included x p)
  unfolding size
  filled f p m t =
      let e : p + L x + 4 + L x ≡ p + 2 * L x + 4 = omega arith in
      subst (λ (k : ℕ). Laid x k (p + L x + big x.content p (L x)) (included x p)) e
      (laid (p + L x + 4 + L x) (next x p) (included x p) (included_tile x (rules_formed x f) p m (eq-eqb _ _ t)))

  pub units_of : Formed x → UnitsOf x
  units_of f =
      record {
        whole = laid 0 (end x) (top_units x) (top_tile x (check_top x (rules_formed x f)));
        filled = filled f;
        all = λ q. (
          λ m. units_from x q m (λ k. inl k) (λ p k t h. inr (p, k, eqb-true _ _ t, h)),
          λ w. ⊎_elim (λ k. units_top x q k) (λ z. units_included x z.0 q z.1 (eq-eqb _ _ z.2) z.3) w,
        );
        rise = rising_at (units x) (units_rise x);
      }

-- the first numbers of 1, 2, .. n
first_of : (f : ℕ → ℕ) (i n : ℕ) → i < n → take i (map f (upto n)) ≡ map f (upto i)
first_of f i n h =
    let s = upto_split i n h in
    let l : length (map f (upto i)) ≡ i = length-map (upto i) f ∙ upto_length i in
    ap (λ ns. take i (map f ns)) s.is
    ∙ ap (take i) (map_append f (upto i) ((i + 1) ∷ s.rest))
    ∙ ap (λ (k : ℕ). take k (map f (upto i) ++ map f ((i + 1) ∷ s.rest))) (sym l)
    ∙ take-append_seam (map f (upto i)) (map f ((i + 1) ∷ s.rest))

module _ (b : List ℕ) (g : Bytes b) (r : Recording) (accepted : first_layout.means b ≡ ok r) where
  abbrev all : ℕ
  all = big b (three b) 2

  abbrev length_of : ℕ → ℕ
  length_of m = big b (entry b m + 9) 4

  abbrev entry_of : ℕ → Entry
  entry_of m = record { track = big b (entry b m) 1; time = big b (entry b m + 1) 8 }

  says : BundleOf b × Means b r
  says = means_exactly b g r accepted

  count_is : sample_count r.layout ≡ all
  count_is = ap length says.1.entries ∙ length-map (upto all) entry_of ∙ upto_length all

  content_part : (n : ℕ) → 0 < n → n ≤ sample_count r.layout → content_of r n ≡ part b (content_at b n) (nth (lengths b) n 0)
  content_part zero h l = absurd (omega arith)
  content_part (suc n) h l = let c = samples_all b r accepted in unfold nth in (samples_tile b r accepted).placed n (omega arith)

  lengths_are : lengths b ≡ map length_of (upto all)
  unfolding lengths samples_at references_at
  lengths_are = refl

  start_is : (n : ℕ) → 0 < n → n ≤ sample_count r.layout → content_at b n ≡ sample_start b n
  unfolding content_at byte_count_at samples_at references_at
  start_is n h l =
      let c = count_is in
      ap (λ ns. four b + 4 + sum (take (n - 1) ns)) lengths_are
      ∙ ap (λ ns. four b + 4 + sum ns) (first_of length_of (n - 1) all (omega arith))

  entry_is : (n : ℕ) → 0 < n → n ≤ sample_count r.layout → nth r.layout.entries n no_entry ≡ entry_of n
  entry_is n h l =
      let c = count_is in
      ap (λ es. nth es n no_entry) says.1.entries ∙ nth_upto entry_of all n no_entry h (omega arith)

  bytes_are : (n : ℕ) → 0 < n → n ≤ sample_count r.layout → content_of r n ≡ part b (sample_start b n) (length_of n)
  bytes_are n h l =
      let c = count_is in
      let k : nth (lengths b) n 0 ≡ length_of n = ap (λ ns. nth ns n 0) lengths_are ∙ nth_upto length_of all n 0 h (omega arith) in
      content_part n h l ∙ ap (λ (a : ℕ). part b a (nth (lengths b) n 0)) (start_is n h l) ∙ ap (λ (m : ℕ). part b (sample_start b n) m) k

  pub sample_means : (n : ℕ) → 0 < n → n ≤ sample_count r.layout → SampleMeans b r n
  unfolding sample_of
  sample_means n h l =
      let c = count_is in
      let e = entry_is n h l in
      let t : track_of r.layout n ≡ big b (entry b n) 1 = ap (λ (w : Entry). w.track) e in
      let there = (says.0.samples.each n (upto_mem all n h (omega arith))).track in
      record {
        track = t;
        time = ap (λ (w : Entry). w.time) e;
        start = start_is n h l;
        bytes = bytes_are n h l;
        of_track = subst (λ (k : ℕ). TrackMeans b (nth (track_places b) (big b (entry b n) 1) 0) (nth r.layout.tracks k no_track)) (sym t)
            (says.1.track (big b (entry b n) 1) there.0 there.1);
        content = refl;
      }

  pub unit_placed : (n k : ℕ) (us : List Span) → Resolved r n us → 0 < k → k ≤ length us → PlacedAt b r n k (nth us k no_span)
  unfolding place_call
  unit_placed n k us w h l =
      let some = w.some in
      let there = w.there in
      let good = (good_exactly b g r accepted n some there).1 w.good in
      let e = delivers_only b g r accepted n some there us w.delivery in
      let u = nth us k no_span in
      let m : u ∈ us = nth_mem us k no_span h l in
      let t = delivered_there r n (good_rules r n good) some there u (rw (← e) m) in
      record {
        there = ap (placed_by (content_at b)) (unit_gives b g r accepted n some there us w k h l)
            ∙ ap (λ (a : ℕ). ok (record { start = a + u.start; size = u.size })) (start_is u.sample t.0 t.1);
        stands = subst (λ (a : ℕ). StandsAt b r n u (a + u.start) u.size) (start_is u.sample t.0 t.1) (unit_stands b g r accepted n some there us w k h l);
        lent = rw (← e) at (calls.unit_part_lem first_layout first_layout_sound b r accepted n some there good k h (rw (← e) l));
      }

-- numbers are big_endian
pub big_endian :
    (s : List ℕ) (p v n : ℕ) →
    (big s p 0 ≡ 0) × (big s p (suc n) ≡ big s p n * 256 + byte_at s (p + n)) × (bytes 0 v ≡ []) × (bytes (suc n) v ≡ bytes n (v / 256) ++ (v % 256 ∷ []))
unfolding big bytes
big_endian s p v n = (refl, refl, refl, refl)
