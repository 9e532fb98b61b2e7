-- Laws for a loop over the samples that writes a line and raises a tally for each. Assumes nothing.
--
--   first_lines r n, first_tally r n    the lines and the tally of the samples 1 to n
--   lines_start, lines_more, lines_end  of none; of one sample more; of all
--   lines_put                           one line more, written right after the lines that are written
--   tally_start, tally_more, tally_end  the tally of none; of one sample more; of all
use Prim.Native.Nat.{ℕ, ◌+◌, ◌*◌, ◌≤◌, ◌<◌}
use mathlib.Core.Path.{◌≡◌, refl, ap, sym, ◌∙◌}
use mathlib.Core.List.{List, [], ◌∷◌, ◌++◌, map, append-nil}
use native.Mathlib.Omega.{arith}
use lib.ListN.{length, length-map}
use Rattle.words.specs.Lists.{each, upto}
use Rattle.words.specs.Buffers.{write_at, put}
use Rattle.words.proofs.Lists.{each_append}
use Rattle.words.proofs.Rows.{upto_more, upto_length}
use Rattle.words.proofs.Entries.{map_append}
use Rattle.words.proofs.Buffers.{put_next}
use Rattle.bundles.specs.Limits.{sample_most}
use Rattle.bundles.specs.Recordings.{Recording, sample_count}
use Rattle.tally.specs.Tallies.{tallied, raised_by}
use Rattle.tally.specs.declared.Tally.{Tally}
use Rattle.tally.proofs.Laws.{tallied_more}
use Rattle.audit_rules.specs.Auditing.{line_size, outcome_of, line_of, lines, tally}
use Rattle.audit_rules.proofs.Lines.{line_length, joined_length}

module _ (r : Recording) where
  abbrev pub first_lines : ℕ → List ℕ
  first_lines n = each (line_of r) (upto n)

  abbrev pub first_tally : ℕ → Tally
  first_tally n = tallied (map (outcome_of r) (upto n))

  pub lines_start : first_lines 0 ≡ []
  unfolding upto each
  lines_start = refl

  pub lines_more : (n : ℕ) → first_lines (n + 1) ≡ first_lines n ++ line_of r (n + 1)
  unfolding each
  lines_more n = rw (upto_more n, each_append (line_of r) (upto n) ((n + 1) ∷ []), append-nil (line_of r (n + 1)))

  pub lines_end : (n : ℕ) → n ≡ sample_count r.layout → first_lines n ≡ lines r
  unfolding lines
  lines_end n e = ap first_lines e

  pub lines_put : (o : List ℕ) (n : ℕ) → line_size * (n + 1) ≤ length o → put (write_at o 0 (first_lines n)) (line_size * n) (line_of r (n + 1)) ≡ write_at o 0 (first_lines (n + 1))
  lines_put o n h =
      let a = joined_length (line_of r) (line_length r) n in
      let b = line_length r (n + 1) in
      put_next o (first_lines n) (line_of r (n + 1)) (line_size * n) (sym a) (omega arith) ∙ ap (write_at o 0) (sym (lines_more n))

  pub tally_start : first_tally 0 ≡ tallied []
  unfolding upto
  tally_start = refl

  pub tally_more : (n : ℕ) → n < sample_most → first_tally (n + 1) ≡ raised_by (outcome_of r (n + 1)) (first_tally n)
  tally_more n h =
      let k : length (map (outcome_of r) (upto n)) ≡ n = length-map (upto n) (outcome_of r) ∙ upto_length n in
      rw (upto_more n, map_append (outcome_of r) (upto n) ((n + 1) ∷ [])) (tallied_more (map (outcome_of r) (upto n)) (outcome_of r (n + 1)) (omega arith))

  pub tally_end : (n : ℕ) → n ≡ sample_count r.layout → first_tally n ≡ tally r
  unfolding tally
  tally_end n e = ap first_tally e
