-- Section four of a bundle b: sample bytes (01, 'The bundle', 4). The count, equal to the sum of the lengths; samples lie without gaps; the
-- bundle ends there. And the whole: its first refusal front to back, or the recording that it means.
--
--   byte_count_fault b p total     the refusal of section four at p, where the lengths add to total: 7 or 2
--   bundle_verdict b               the bundle's first refusal, section by section
--   BundleRefusal b n p            n at p is a refusal that a bundle can have
--   layout_of b, recording_of b    what its sections mean
--   meaning b                      its refusal, or its recording
--   contents_at b, content_at b n  where the samples' bytes start, and those of sample n
--   SamplesTile b contents         the contents lie in section four without gaps
use Rattle.std.specs.Prelude.{ℕ, suc, ◌+◌, ◌-◌, ◌≤◌, ◌<◌, ◌≡◌, List, [], map, not, length, get_or, take, drop}
use Rattle.words.specs.Tests.{◌<?◌, ◌≡?◌}
use Rattle.words.specs.RefusalNumbers.{bundle_too_long, bad_byte_count, bundle_refusals}
use Rattle.words.specs.Refusals.{◌if◌, ◌or_else◌, Answer, ok, Verdict, ◌and_then◌, ◌at_place◌}
use Rattle.words.specs.Lists.{each, sum, ◌∈◌}
use Rattle.words.specs.Bytes.{big, part, cuts}
use Rattle.bundles.specs.Limits.{bundle_most, cut}
use Rattle.bundles.specs.Fields.{byte_count_size}
use Rattle.bundles.specs.Recordings.{Layout, Recording}
use Rattle.bundles.specs.Tracks.{tracks_verdict, tracks}
use Rattle.bundles.specs.References.{references_verdict, references}
use Rattle.bundles.specs.Samples.{samples_verdict, sample_entries, lengths, byte_count_at}

module _ (b : List ℕ) where
  abbrev pub byte_count : ℕ → ℕ
  byte_count p = big b p byte_count_size

  -- The count at p, where the lengths add to total: 7 for the sum comes first, then 2, then 7 for bytes that follow.
  unfoldable pub byte_count_fault : ℕ → ℕ → ℕ
  byte_count_fault p total =
      cut b p byte_count_size or_else
      bad_byte_count if not (byte_count p ≡? total) or_else
      cut b (p + byte_count_size) (byte_count p) or_else
      bad_byte_count if p + byte_count_size + byte_count p <? length b

  unfoldable pub bytes_verdict : Verdict
  bytes_verdict = byte_count_fault (byte_count_at b) (sum (lengths b)) at_place byte_count_at b

  abbrev pub length_verdict : Verdict
  length_verdict = (bundle_too_long if bundle_most <? length b) at_place 0

  -- The first refusal, section by section.
  unfoldable pub bundle_verdict : Verdict
  bundle_verdict = length_verdict and_then tracks_verdict b and_then references_verdict b and_then samples_verdict b and_then bytes_verdict

  -- A refusal of the bundle: its number is one of the bundle's, its place lies in the bundle or at its end.
  pub record BundleRefusal (n p : ℕ) : Type 0 where
    pub number : n ∈ bundle_refusals
    pub place : p ≤ length b

  -- What the bundle means.
  unfoldable pub layout_of : Layout
  layout_of = record { tracks = tracks b; references = references b; entries = sample_entries b }

  -- where the bytes of the samples start
  abbrev pub contents_at : ℕ
  contents_at = byte_count_at b + byte_count_size

  unfoldable pub recording_of : Recording
  recording_of = record { layout = layout_of; contents = cuts b (lengths b) contents_at }

  unfoldable pub meaning : Answer Recording
  meaning = bundle_verdict and_then ok recording_of

  -- where the bytes of sample n start
  unfoldable pub content_at : ℕ → ℕ
  content_at n = contents_at + sum (take (n - 1) (lengths b))

  -- The samples' bytes lie in section four without gaps, each once, in order, those of length 0 too, up to the bundle's end.
  pub record SamplesTile (contents : List (List ℕ)) : Type 0 where
    pub joined : each (λ c. c) contents ≡ drop contents_at b
    pub content_lengths : map (λ c. length c) contents ≡ lengths b
    pub count : length contents ≡ length (lengths b)
    pub placed : (n : ℕ) → n < length contents → get_or contents n [] ≡ part b (content_at (suc n)) (get_or (lengths b) n 0)
