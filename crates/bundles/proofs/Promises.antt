-- What is promised of every bundle b. `meaning b ≡ ok r` says that b is accepted and means the recording r. Assumes nothing.
--
--   limits_kept         counts are within their limits
--   references_join     a reference joins two different tracks that exist, of the same L
--   samples_ordered     track numbers never fall, and within a track times strictly rise; each sample's track exists
--   samples_tile        the samples lie in section four without gaps, each once, in order, those of length 0 too; the bundle ends there
--   sum_exact           the fourth count is the sum of the lengths, as whole numbers
--   bytes_replaced      a sample's bytes replaced by as many others: accepted still, with these bytes replaced in the recording and nothing else
--   refusals_within     every refusal is one of the bundle's, at a place in the bundle or at its end
--   one_or_other        a bundle is refused, or means its recording
use Prim.Native.Nat.{ℕ, suc, ◌+◌, ◌-◌, ◌≤◌, ◌<◌}
use mathlib.Core.Path.{◌≡◌, ap, sym, ◌∙◌, subst}
use mathlib.Core.List.Memᴰ
use mathlib.Core.List.{List, Memᴰ}
use mathlib.Core.Logic.{◌⊎◌, inl, inr}
use native.Mathlib.Omega.{arith}
use lib.ListN.{length}
use Rattle.words.specs.Refusals.{refused, ok}
use Rattle.words.specs.Lists.{nth, sum}
use Rattle.words.specs.Bytes.{big, splice, cuts}
use Rattle.words.proofs.Refusals.{and_ok, by_verdict}
use Rattle.words.proofs.Lists.{Rising}
use Rattle.numbers.specs.Sizes.{in_bytes}
use Rattle.bundles.specs.Limits.{bundle_most, track_most, reference_most, sample_most}
use Rattle.bundles.specs.Recordings.{Layout, Recording, Reference, Entry, no_track, sample_count, content_of, replaced}
use Rattle.bundles.specs.References.{references, reference_on, reference_places}
use Rattle.bundles.specs.Samples.{lengths, byte_count_at}
use Rattle.bundles.specs.Bundles.{bundle_verdict, BundleRefusal, layout_of, contents_at, recording_of, meaning, content_at, SamplesTile}
use Rattle.bundles.proofs.Sections.{Accepted, accepted, track_count_lem, reference_count_lem, sample_count_lem, lengths_count, reference_good}
use Rattle.bundles.proofs.Order.{InOrder, entries_rise, entries_there}
use Rattle.bundles.proofs.Tiling.{cuts_count, cuts_sizes, cuts_all, cuts_at}
use Rattle.bundles.proofs.Replacing.{replace}
use Rattle.bundles.proofs.Refusals.{refused_within}

-- an accepted bundle, section by section, and its recording
pub means : (b : List ℕ) {r : Recording} → meaning b ≡ ok r → (bundle_verdict b ≡ ok tt) × (recording_of b ≡ r)
unfolding meaning
means b {r} e = let a = and_ok (bundle_verdict b) (ok (recording_of b)) e in let q : recording_of b ≡ r = cc in (a.0, q)

-- counts
pub record LimitsKept (b : List ℕ) (y : Layout) : Type 0 where
  pub bytes : length b ≤ bundle_most
  pub tracks : (1 ≤ length y.tracks) × (length y.tracks ≤ track_most)
  pub references : length y.references ≤ reference_most
  pub samples : sample_count y ≤ sample_most

limits_here : (b : List ℕ) → Accepted b → LimitsKept b (layout_of b)
unfolding layout_of
limits_here b a =
    record {
      bytes = a.short;
      tracks = rw (track_count_lem b) (a.tracks.count.some, a.tracks.count.few);
      references = rw (reference_count_lem b) a.references.count.few;
      samples = rw (sample_count_lem b) a.samples.count.few;
    }

layout_of_lem : (b : List ℕ) {r : Recording} → recording_of b ≡ r → layout_of b ≡ r.layout
unfolding recording_of
layout_of_lem b q = ap (λ x. x.layout) q

contents_of : (b : List ℕ) {r : Recording} → recording_of b ≡ r → cuts b (lengths b) (contents_at b) ≡ r.contents
unfolding recording_of
contents_of b q = ap (λ x. x.contents) q

pub limits_kept : (b : List ℕ) (r : Recording) → meaning b ≡ ok r → LimitsKept b r.layout
limits_kept b r e = let m = means b e in subst (LimitsKept b) (layout_of_lem b m.1) (limits_here b (accepted b m.0))

-- references
pub record Joins (y : Layout) (f : Reference) : Type 0 where
  pub from_exists : (1 ≤ f.from) × (f.from ≤ length y.tracks)
  pub to_exists : (1 ≤ f.to) × (f.to ≤ length y.tracks)
  pub apart : f.from ≡ f.to → ⊥
  pub same_size : in_bytes (nth y.tracks f.from no_track).length_size ≡ in_bytes (nth y.tracks f.to no_track).length_size

joins_here : (b : List ℕ) → Accepted b → {f : Reference} → Memᴰ f (layout_of b).references → Joins (layout_of b) f
unfolding layout_of references
joins_here b a {f} m =
    let w = Memᴰ.of_map (reference_on b) (reference_places b) m in
    let g = reference_good b w.0 (a.references.each w.1) in
    rw (← w.2) (record {
      from_exists = rw (track_count_lem b) g.from_there;
      to_exists = rw (track_count_lem b) g.to_there;
      apart = g.apart;
      same_size = g.same;
    })

pub references_join : (b : List ℕ) (r : Recording) → meaning b ≡ ok r → {f : Reference} → Memᴰ f r.layout.references → Joins r.layout f
references_join b r e {f} =
    let m = means b e in
    subst (λ (y : Layout). Memᴰ f y.references → Joins y f) (layout_of_lem b m.1) (joins_here b (accepted b m.0))

-- samples: order
pub record Ordered (y : Layout) : Type 0 where
  pub rise : Rising InOrder y.entries
  pub exist : {e : Entry} → Memᴰ e y.entries → (1 ≤ e.track) × (e.track ≤ length y.tracks)

ordered_here : (b : List ℕ) → Accepted b → Ordered (layout_of b)
unfolding layout_of
ordered_here b a = record { rise = entries_rise b a.samples; exist = λ m. rw (track_count_lem b) (entries_there b a.samples m) }

pub samples_ordered : (b : List ℕ) (r : Recording) → meaning b ≡ ok r → Ordered r.layout
samples_ordered b r e = let m = means b e in subst Ordered (layout_of_lem b m.1) (ordered_here b (accepted b m.0))

-- samples: bytes
tiles_here : (b : List ℕ) → Accepted b → SamplesTile b (cuts b (lengths b) (contents_at b))
unfolding content_at
tiles_here b a =
    record {
      joined = cuts_all b (lengths b) (contents_at b) a.bytes.end;
      content_lengths = cuts_sizes b (lengths b) (contents_at b) (let z = a.bytes.end in omega arith);
      count = cuts_count b (lengths b) (contents_at b);
      placed = λ n h.
          let s : suc n - 1 ≡ n = omega arith in
          rw s (cuts_at b (lengths b) (contents_at b) n (rw (cuts_count b (lengths b) (contents_at b)) at h));
    }

pub samples_tile : (b : List ℕ) (r : Recording) → meaning b ≡ ok r → SamplesTile b r.contents
samples_tile b r e = let m = means b e in subst (SamplesTile b) (contents_of b m.1) (tiles_here b (accepted b m.0))

-- as many samples as section three says
pub samples_all : (b : List ℕ) (r : Recording) → meaning b ≡ ok r → length r.contents ≡ sample_count r.layout
samples_all b r e =
    let m = means b e in
    subst (λ (y : Layout). length r.contents ≡ sample_count y) (layout_of_lem b m.1) ((samples_tile b r e).count ∙ lengths_count b ∙ sym (unfold layout_of in sample_count_lem b))

pub sum_exact : (b : List ℕ) (r : Recording) → meaning b ≡ ok r → (big b (byte_count_at b) 4 ≡ sum (lengths b)) × (contents_at b + sum (lengths b) ≡ length b)
sum_exact b r e = let a = accepted b (means b e).0 in (a.bytes.count, a.bytes.end)

pub bytes_replaced :
    (b : List ℕ) (r : Recording) (n : ℕ) (new : List ℕ) → meaning b ≡ ok r →
    0 < n → n ≤ sample_count r.layout → length new ≡ length (content_of r n) →
    meaning (splice b (content_at b n) new) ≡ ok (replaced r n new)
bytes_replaced = replace

-- refusals
pub refusals_within : (b : List ℕ) (n p : ℕ) → bundle_verdict b ≡ refused n p → BundleRefusal b n p
refusals_within = refused_within

pub one_or_other : (b : List ℕ) → ((n : ℕ) × (p : ℕ) × (bundle_verdict b ≡ refused n p) × (meaning b ≡ refused n p)) ⊎ ((bundle_verdict b ≡ ok tt) × (meaning b ≡ ok (recording_of b)))
unfolding meaning
one_or_other b = by_verdict (bundle_verdict b) (λ n p e. inl (n, p, e, rw e)) (λ e. inr (e, rw e))
