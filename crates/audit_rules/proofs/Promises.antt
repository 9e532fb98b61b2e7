-- What the audit promises. `reader.means b ≡ ok r` says that the bundle b is accepted by the reader and means the recording r, `judged r n ≡ ok tt`
-- that sample n of r is good. `Sound reader` is proved of the first layout in crates/resolution_rules/proofs/Readers. For any L. Assumes nothing but
-- what each theorem states.
--
--   empty_exactly                                                  a sample is found empty exactly if its length is zero
--   passed_exactly                                                 passed exactly if it has bytes and its whole length is good
--   refused_exactly                                                refused exactly if it has a refusal
--   refused_with                                                   with a number of sample_refusals, at a place in the sample
--   empty_is_good                                                  a sample without bytes is good and delivers nothing
--   lines_in_order                                                 the lines are those of samples 1 to the last, joined
--   thirteen_each                                                  13 bytes a sample
--   line_stands                                                    line n stands at 13 · (n - 1), for every sample, after an empty or a refused one too
--   every_sample_one_line                                          with room for the lines, every sample of an accepted bundle gets exactly one line, in order; read back, it says what was
--                                                                  found of the sample, with its refusal and place, or the number of units it delivers
--   line_empty_exactly, line_passed_exactly, line_refused_exactly  so by its line and its length a sample is empty, passed, refused exactly if ..
--   tally_adds                                                     the three numbers add to the sample count
--   tally_counts                                                   each is the number of samples with that outcome
--   audited_exactly, tallied_exactly                               the call answers exactly if the bundle is accepted and the lines fit: with the lines, the tally
--   audit_refused_exactly, tally_refused_exactly                   else it is refused: by the bundle, or the lines do not fit
--   refused_alike                                                  lines and tally are refused alike
--   audit_refused_with                                             with a number of the reader's at a place in the bundle or at its end, or 29 at 0
use Prim.Native.Nat.{ℕ, ◌+◌, ◌*◌, ◌≤◌, ◌<◌}
use mathlib.Core.Path.{◌≡◌, refl, sym, ◌∙◌}
use mathlib.Core.List.{List, []}
use mathlib.Core.Logic.{◌⊎◌, inl, inr, ⊎_elim}
use lib.ListN.{length}
use Rattle.words.specs.Refusals.{refused, ok}
use Rattle.words.specs.RefusalNumbers.{output_too_long}
use Rattle.words.specs.Lists.{each, upto, ◌∈◌}
use Rattle.bundles.specs.Recordings.{Recording, sample_count, content_of}
use Rattle.bundles.specs.Readers.{Reader}
use Rattle.resolution_rules.specs.Resolving.{judged, delivered}
use Rattle.resolution_rules.specs.Rules.{JudgedRefusal}
use Rattle.resolution_rules.specs.Readers.{Sound}
use Rattle.resolution_rules.proofs.Promises.{sample_refusals_lem}
use Rattle.tally.specs.declared.Outcome.TheVariants.{Passed, Empty, Refused}
use Rattle.tally.specs.declared.Tally.{Tally}
use Rattle.audit_rules.specs.Auditing.{line_size, outcome_of, line_of, lines, tally, audit_call, tally_call}
use Rattle.audit_rules.specs.Rules.{outcome_by_line, line_at, LinePerSample, Counts, AuditRefuses, Audits, Tallies}
use Rattle.audit_rules.proofs.Outcomes as outcomes
use Rattle.audit_rules.proofs.Lines.{lines_length, line_at_lem}
use Rattle.audit_rules.proofs.Reading.{line_per_sample}
use Rattle.audit_rules.proofs.Counts.{counts}
use Rattle.audit_rules.proofs.Calls as calls

-- a sample of a recording
module _ (r : Recording) (n : ℕ) where
  pub empty_exactly : (outcome_of r n ≡ Empty → length (content_of r n) ≡ 0) × (length (content_of r n) ≡ 0 → outcome_of r n ≡ Empty)
  empty_exactly = (outcomes.empty_because r n, outcomes.outcome_empty r n)

  pub passed_exactly : (outcome_of r n ≡ Passed → (0 < length (content_of r n)) × (judged r n ≡ ok tt)) × ((0 < length (content_of r n)) × (judged r n ≡ ok tt) → outcome_of r n ≡ Passed)
  passed_exactly = (outcomes.passed_because r n, λ w. outcomes.outcome_passed r n w.0 w.1)

  pub refused_exactly : (outcome_of r n ≡ Refused → (m : ℕ) × (p : ℕ) × (judged r n ≡ refused m p)) × ((m p : ℕ) → judged r n ≡ refused m p → outcome_of r n ≡ Refused)
  refused_exactly = (outcomes.refused_because r n, λ m p j. outcomes.outcome_refused r n j)

  pub refused_with : (m p : ℕ) → judged r n ≡ refused m p → JudgedRefusal r n m p
  refused_with = sample_refusals_lem r n

  pub empty_is_good : length (content_of r n) ≡ 0 → (judged r n ≡ ok tt) × (delivered r n ≡ [])
  empty_is_good z = (outcomes.empty_good r n z, outcomes.empty_nothing r n z)

-- the lines and the tally of a recording
module _ (r : Recording) where
  pub lines_in_order : lines r ≡ each (line_of r) (upto (sample_count r.layout))
  unfolding lines
  lines_in_order = refl

  pub thirteen_each : length (lines r) ≡ 13 * sample_count r.layout
  thirteen_each = lines_length r

  pub line_stands : (n : ℕ) → 0 < n → n ≤ sample_count r.layout → line_at (lines r) n ≡ line_of r n
  line_stands = line_at_lem r

  pub tally_adds : (tally r).passed + (tally r).empty + (tally r).refused ≡ sample_count r.layout
  tally_adds = (counts r).all

  pub tally_counts : Counts r (tally r)
  tally_counts = counts r

-- demand 2, of an accepted bundle
module _
    (reader : Reader) (sound : Sound reader) (b : List ℕ) (r : Recording) (accepted : reader.means b ≡ ok r) (room : ℕ)
    (fits : line_size * sample_count r.layout ≤ room)
  where
    lines_here : LinePerSample r (lines r)
    lines_here = line_per_sample r (sound.contents b r accepted)

    pub every_sample_one_line : (audit_call reader b room ≡ ok (lines r)) × LinePerSample r (lines r)
    every_sample_one_line = (calls.audits reader b room (record { recording = r; means = accepted; fits = fits; writes = refl }), lines_here)

    module _ (n : ℕ) (some : 0 < n) (there : n ≤ sample_count r.layout) where
      by_line : outcome_by_line (line_at (lines r) n) (length (content_of r n)) ≡ outcome_of r n
      by_line = lines_here.outcome n some there

      pub line_empty_exactly : (outcome_by_line (line_at (lines r) n) (length (content_of r n)) ≡ Empty → length (content_of r n) ≡ 0) × (length (content_of r n) ≡ 0 → outcome_by_line (line_at (lines r) n) (length (content_of r n)) ≡ Empty)
      line_empty_exactly = (λ e. outcomes.empty_because r n (sym by_line ∙ e), λ z. by_line ∙ outcomes.outcome_empty r n z)

      pub line_passed_exactly :
          (outcome_by_line (line_at (lines r) n) (length (content_of r n)) ≡ Passed → (0 < length (content_of r n)) × (judged r n ≡ ok tt))
          × ((0 < length (content_of r n)) × (judged r n ≡ ok tt) → outcome_by_line (line_at (lines r) n) (length (content_of r n)) ≡ Passed)
      line_passed_exactly = (λ e. outcomes.passed_because r n (sym by_line ∙ e), λ w. by_line ∙ outcomes.outcome_passed r n w.0 w.1)

      pub line_refused_exactly :
          (outcome_by_line (line_at (lines r) n) (length (content_of r n)) ≡ Refused → (m : ℕ) × (p : ℕ) × (judged r n ≡ refused m p))
          × ((m p : ℕ) → judged r n ≡ refused m p → outcome_by_line (line_at (lines r) n) (length (content_of r n)) ≡ Refused)
      line_refused_exactly = (λ e. outcomes.refused_because r n (sym by_line ∙ e), λ m p j. by_line ∙ outcomes.outcome_refused r n j)

-- the call on a bundle
module _ (reader : Reader) (b : List ℕ) (room : ℕ) where
  pub audited_exactly : (out : List ℕ) → (audit_call reader b room ≡ ok out → Audits reader b room out) × (Audits reader b room out → audit_call reader b room ≡ ok out)
  audited_exactly out = (calls.audited_because reader b room out, calls.audits reader b room)

  pub tallied_exactly : (t : Tally) → (tally_call reader b room ≡ ok t → Tallies reader b room t) × (Tallies reader b room t → tally_call reader b room ≡ ok t)
  tallied_exactly t = (calls.tallied_because reader b room t, calls.tallies reader b room)

  pub audit_refused_exactly : (m p : ℕ) → (audit_call reader b room ≡ refused m p → AuditRefuses reader b room m p) × (AuditRefuses reader b room m p → audit_call reader b room ≡ refused m p)
  audit_refused_exactly m p = (calls.audit_because reader b room m p, calls.audit_refuses reader b room)

  pub tally_refused_exactly : (m p : ℕ) → (tally_call reader b room ≡ refused m p → AuditRefuses reader b room m p) × (AuditRefuses reader b room m p → tally_call reader b room ≡ refused m p)
  tally_refused_exactly m p = (calls.tally_because reader b room m p, calls.tally_refuses reader b room)

  pub refused_alike : (m p : ℕ) → (audit_call reader b room ≡ refused m p → tally_call reader b room ≡ refused m p) × (tally_call reader b room ≡ refused m p → audit_call reader b room ≡ refused m p)
  refused_alike m p = (λ e. calls.tally_refuses reader b room (calls.audit_because reader b room m p e), λ e. calls.audit_refuses reader b room (calls.tally_because reader b room m p e))

  pub audit_refused_with :
      Sound reader → (m p : ℕ) → audit_call reader b room ≡ refused m p → ((m ∈ reader.refusals) × (p ≤ length b)) ⊎ ((m ≡ output_too_long) × (p ≡ 0))
  audit_refused_with sound m p e = ⊎_elim
      (λ h. inl (sound.refusal b m p h))
      (λ h. inr h)
      (calls.refused_with reader b room (calls.audit_because reader b room m p e))
