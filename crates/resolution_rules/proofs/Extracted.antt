-- What the function on two lent samples gives for a good extractor: the units that it stands for. Assumes nothing.
--
--   extracted_unit     the kth unit that a good extractor stands for, as a part of the linked sample
use Prim.Native.Nat.{ℕ, ◌≤◌, ◌<◌}
use mathlib.Core.Path.{◌≡◌, refl, ap, sym, ◌∙◌}
use mathlib.Core.List.{[], Memᴰ}
use lib.ListN.{length, length-map}
use Rattle.words.specs.Lists.{nth}
use Rattle.units.specs.Extractors.{data_offset, data_length}
use Rattle.units.specs.Aggregators.{extractors}
use Rattle.samples.proofs.Laws.{extractor_step}
use Rattle.bundles.specs.Recordings.{Recording}
use Rattle.copies.specs.Copies.{copied}
use Rattle.copies.specs.Extracted.{unit_bytes, extracted}
use Rattle.copies.proofs.Copied.{rules_copy}
use Rattle.copies.proofs.Plain.{unit_copied}
use Rattle.resolution_rules.specs.Resolving.{sample_of, span_of, own, named, linked, copied_at}
use Rattle.resolution_rules.specs.Calls.{span_bytes, no_span}
use Rattle.resolution_rules.specs.Rules.{Good}
use Rattle.words.proofs.Joined.{nth_map}

module _ (r : Recording) where
  bytes_same : (m q : ℕ) → unit_bytes (sample_of r m) q ≡ span_bytes r (span_of m (sample_of r m) q)
  unfolding sample_of
  bytes_same m q = refl

  pub extracted_unit : (n : ℕ) → Good r n → (p k : ℕ) → Memᴰ p (extractors (own r n)) → 0 < k → k ≤ length (copied_at r n p) →
      extracted (own r n) p (linked r n p) k ≡ span_bytes r (nth (copied_at r n p) k no_span)
  unfolding extracted copied_at
  extracted_unit n g p k m h l =
      let z = linked r n p in
      let o = data_offset (own r n) p in
      let d = data_length (own r n) p in
      let c = copied z o d in
      let j : k ≤ length c = rw (length-map c (span_of (named r n p) z)) at l in
      rw (extractor_step (own r n) g.formed p m)
      (unit_copied z o d (rules_copy z o d (g.extracts p m).copy) k ∙ nth_map (unit_bytes z) c k 0 [] h j ∙ bytes_same (named r n p) (nth c k 0) ∙ ap (span_bytes r) (sym (nth_map (span_of (named r n p) z) c k 0 no_span h j)))
