-- What is proved of the reader of the first layout. Assumes nothing.
--
--   first_layout_sound                it is sound
--   verdict_refuses, refused_verdict  a bundle is refused exactly as its check says
--   content_most                      the samples of an accepted bundle have at most so many bytes as the bundle
use Prim.Native.Nat.{ℕ, zero, suc, ◌+◌, ◌-◌, ◌≤◌, ◌<◌}
use mathlib.Core.Path.{◌≡◌, sym, ◌∙◌}
use mathlib.Core.List.{List, [], ◌++◌}
use mathlib.Core.Logic.{⊎_elim}
use native.Mathlib.Omega.{arith}
use lib.ListN.{length, drop, take-append-drop}
use Rattle.words.specs.Refusals.{refused, ok}
use Rattle.words.specs.Lists.{nth}
use Rattle.words.specs.Bytes.{part}
use Rattle.words.proofs.Refusals.{ok_refused, refused_same, by_verdict}
use Rattle.words.proofs.Positions.{at_append, part_here}
use Rattle.words.proofs.Rows.{take_sum_le}
use Rattle.bundles.specs.Recordings.{Recording, sample_count, content_of}
use Rattle.bundles.specs.Samples.{lengths}
use Rattle.bundles.specs.Bundles.{bundle_verdict, meaning, content_at}
use Rattle.bundles.specs.Readers.{first_layout}
use Rattle.bundles.proofs.Promises.{limits_kept, references_join, samples_tile, samples_all, sum_exact, bytes_replaced, refusals_within}
use Rattle.words.proofs.Rows.{nth_none, nth_beyond}
use Rattle.links.proofs.Order.{bundle_rise}
use Rattle.resolution_rules.specs.Readers.{Sound}
use Rattle.resolution_rules.proofs.Calls.{by_count}

module _ (b : List ℕ) (r : Recording) (e : meaning b ≡ ok r) where
  starts_inside : (n : ℕ) → content_at b n ≤ length b
  unfolding content_at
  starts_inside n = let a = take_sum_le (lengths b) (n - 1) in let z = (sum_exact b r e).1 in omega arith

  module _ (n : ℕ) (h : 0 < n) (l : n ≤ sample_count r.layout) where
    content_part : content_of r n ≡ part b (content_at b n) (nth (lengths b) n 0)
    content_part = go n h l
      where
        go : (n : ℕ) → 0 < n → n ≤ sample_count r.layout → content_of r n ≡ part b (content_at b n) (nth (lengths b) n 0)
        go zero h l = absurd (omega arith)
        go (suc n) h l = let c = samples_all b r e in unfold nth in (samples_tile b r e).placed n (omega arith)

    abbrev rest : List ℕ
    rest = drop (nth (lengths b) n 0) (drop (content_at b n) b)

    content_here : drop (content_at b n) b ≡ content_of r n ++ rest
    content_here = rw content_part (sym (take-append-drop (nth (lengths b) n 0) (drop (content_at b n) b)))

    inside : content_at b n + length (content_of r n) ≤ length b
    inside = (at_append b (content_at b n) (content_of r n) rest (starts_inside n) content_here).within

    placed : content_of r n ≡ part b (content_at b n) (length (content_of r n))
    placed = sym (part_here b (content_at b n) (content_of r n) rest content_here)

  pub content_most : (n : ℕ) → length (content_of r n) ≤ length b
  content_most n = by_count (sample_count r.layout) n
      (λ h. let k : content_of r n ≡ [] = ⊎_elim
      (λ z. rw z (nth_none r.contents []))
      (λ l. let a = samples_all b r e in nth_beyond r.contents n [] (omega arith)) h in
      rw k (omega arith))
      (λ h l. let i = inside n h l in omega arith)

-- a refused bundle
pub verdict_refuses : (b : List ℕ) (m p : ℕ) → bundle_verdict b ≡ refused m p → meaning b ≡ refused m p
unfolding meaning
verdict_refuses b m p e = rw e

pub refused_verdict : (b : List ℕ) (m p : ℕ) → meaning b ≡ refused m p → bundle_verdict b ≡ refused m p
unfolding meaning
refused_verdict b m p e = by_verdict (bundle_verdict b)
    (λ n q v. let s = refused_same (rw v at e) in v ∙ rw (s.0, s.1))
    (λ v. ok_refused (sym (rw v at e)))

pub first_layout_sound : Sound first_layout
first_layout_sound = record {
  apart = λ b r e f m. (references_join b r e m).apart;
  rise = bundle_rise;
  samples = λ b r e. (limits_kept b r e).samples;
  contents = λ b r e n. let a = content_most b r e n in let c = (limits_kept b r e).bytes in omega arith;
  inside = λ b r n e h l. inside b r e n h l;
  placed = λ b r n e h l. placed b r e n h l;
  replacing = bytes_replaced;
  refusal = λ b m p e. let w = refusals_within b m p (refused_verdict b m p e) in (w.number, w.place);
}
