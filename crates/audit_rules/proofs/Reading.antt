-- What is read back from the lines: no number is cut by its width, where samples are no longer than the longest bundle, as in every bundle
-- that a sound reader accepts. Assumes nothing.
--
--   read_at              a number that was written is read back where it stands
--   line_reads           the three numbers of a line
--   units_few            delivered units of a sample, at most
--   sample_line          what stands in the line of a sample
--   outcome_by_line_lem  so the line and the sample's length give the outcome
--   line_per_sample      for all lines
use Prim.Native.Nat.{ℕ, ◌+◌, ◌*◌, ◌^◌, ◌≤◌, ◌<◌}
use mathlib.Core.Path.{◌≡◌, ap, sym, ◌∙◌}
use mathlib.Core.List.{List, [], ◌++◌, append_assoc, append-nil}
use native.Mathlib.Omega.{arith}
use borrow.Author.Tests.{ne_eqb}
use lib.Dec.{lit<}
use lib.ListN.{length, drop, length-append}
use lib.Seq.{drop_at}
use Rattle.words.specs.Refusals.{ok}
use Rattle.words.specs.Bytes.{big, bytes}
use Rattle.words.proofs.Bytes.{bytes_length, big_bytes, big_inside}
use Rattle.bundles.specs.Limits.{bundle_most}
use Rattle.bundles.specs.Recordings.{Recording, content_of}
use Rattle.resolution_rules.specs.Resolving.{judged, delivered}
use Rattle.resolution_rules.proofs.Good.{good_rules, judged_refused}
use Rattle.resolution_rules.proofs.Sizes.{delivered_count}
use Rattle.tally.specs.declared.Outcome.{Outcome}
use Rattle.numbers.specs.Places.{place_size}
use Rattle.audit_rules.specs.Auditing.{refusal_size, units_size, outcome_of, line_of, lines}
use Rattle.audit_rules.specs.Rules.{Reads, outcome_by_line, SampleLine, LinePerSample}
use Rattle.audit_rules.proofs.Refusals.{number_some, number_fits, place_inside}
use Rattle.audit_rules.proofs.Outcomes.{empty_good, empty_nothing, outcome_empty, outcome_passed, outcome_refused, by_outcome}
use Rattle.audit_rules.proofs.Lines.{line_refused, line_good, lines_length, line_at_lem}

pub read_at : (s : List ℕ) (p n v : ℕ) (rest : List ℕ) → drop p s ≡ bytes n v ++ rest → v < 256 ^ n → big s p n ≡ v
read_at s p n v rest e h =
    let l = bytes_length n v in
    let a : p + 0 ≡ p = omega arith in
    let b : big s (p + 0) n ≡ big (bytes n v) 0 n = big_inside s p (bytes n v) rest e 0 n (omega arith) in
    let c : big (bytes n v ++ []) 0 n ≡ v = big_bytes n v [] h in
    ap (λ (q : ℕ). big s q n) (sym a) ∙ b ∙ ap (λ (x : List ℕ). big x 0 n) (sym (append-nil (bytes n v))) ∙ c

pub line_reads : (m p units : ℕ) → m < 256 ^ refusal_size → p < 256 ^ place_size → units < 256 ^ units_size → Reads (bytes refusal_size m ++ bytes place_size p ++ bytes units_size units) m p units
line_reads m p units h k l =
    let a = bytes refusal_size m in
    let b = bytes place_size p in
    let c = bytes units_size units in
    let x = bytes_length refusal_size m in
    let y = bytes_length place_size p in
    let z = bytes_length units_size units in
    let front : length (a ++ b) ≡ refusal_size + place_size = length-append a b ∙ (omega arith) in
    record {
      size = length-append (a ++ b) c ∙ (omega arith);
      refusal = read_at _ 0 refusal_size m (b ++ c) (append_assoc a b c) h;
      place = read_at _ refusal_size place_size p c (ap (drop refusal_size) (append_assoc a b c) ∙ drop_at a (b ++ c) refusal_size x) k;
      units = read_at _ (refusal_size + place_size) units_size units [] (drop_at (a ++ b) c (refusal_size + place_size) front ∙ sym (append-nil c)) l;
    }

-- samples of at most so many bytes as a sound reader lets them have
module _ (r : Recording) (content-few : (n : ℕ) → length (content_of r n) ≤ bundle_most) where
  pub units_few : (n : ℕ) → judged r n ≡ ok tt → length (delivered r n) ≤ bundle_most * bundle_most
  units_few n j = delivered_count r n (good_rules r n j) bundle_most content-few

  pub sample_line : (n : ℕ) → SampleLine r n (line_of r n) (outcome_of r n)
  sample_line n = by_outcome r n
      (λ z.
      let e : line_of r n ≡ bytes refusal_size 0 ++ bytes place_size 0 ++ bytes units_size 0 = line_good r n (empty_good r n z) ∙ rw (empty_nothing r n z) in
      rw (outcome_empty r n z, e) (SampleLine.empty z (line_reads 0 0 0 (lit< tt) (lit< tt) (lit< tt))))
      (λ h j.
      let u = units_few n j in
      rw (outcome_passed r n h j, line_good r n j) (SampleLine.good h j (line_reads 0 0 (length (delivered r n)) (lit< tt) (lit< tt) (omega arith))))
      (λ m p j.
      let w = judged_refused r n m p j in
      let k = number_fits r n w in
      let l = place_inside r n w in
      let c = content-few n in
      rw (outcome_refused r n j, line_refused r n j) (SampleLine.bad j w (line_reads m p 0 (omega arith) (omega arith) (lit< tt))))

  pub outcome_by_line_lem : (n : ℕ) (s : List ℕ) (o : Outcome) → SampleLine r n s o → outcome_by_line s (length (content_of r n)) ≡ o
  outcome_by_line_lem n s o (SampleLine.good h j w) = rw (w.refusal, ne_eqb (length (content_of r n)) 0 (λ z. absurd (omega arith)))
  outcome_by_line_lem n s o (SampleLine.empty z w) = rw (w.refusal, z)
  outcome_by_line_lem n s o (SampleLine.bad {m} {p} j k w) = let a = number_some r n k in rw (w.refusal, ne_eqb m 0 (λ z. absurd (omega arith)))

  pub line_per_sample : LinePerSample r (lines r)
  line_per_sample =
      record {
        size = lines_length r;
        line = λ n h l. rw (line_at_lem r n h l) (sample_line n);
        outcome = λ n h l. rw (line_at_lem r n h l) (outcome_by_line_lem n (line_of r n) (outcome_of r n) (sample_line n));
      }
