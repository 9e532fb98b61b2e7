-- What the call on a bundle answers, by any reader: the lines and the tally, refused alike. Assumes nothing.
--
--   lines_not, tally_not                                            a recording without room for its lines
--   lines_fit, tally_fits                                           one with room
--   audit_bundle, tally_bundle                                      the bundle's own refusal
--   audit_means, tally_means                                        else by the recording, with 29
--   audit_refuses, tally_refuses                                    refused
--   audits, tallies                                                 answered
--   answered                                                        one of the two holds
--   audit_because, tally_because, audited_because, tallied_because  from the answer, what holds
--   refused_with                                                    which numbers, and where
use Prim.Native.Nat.{ℕ, ◌*◌, ◌≤◌, ◌<◌}
use mathlib.Core.Path.{◌≡◌, refl, sym, ◌∙◌, subst}
use mathlib.Core.List.{List}
use mathlib.Core.Logic.{◌⊎◌, inl, inr}
use borrow.Author.Tests.{le-ltb, lt-ltb, ltb-true, ltb-false}
use lib.Dec.{ltb}
use Rattle.words.specs.Refusals.{refused, ok}
use Rattle.words.specs.RefusalNumbers.{output_too_long}
use Rattle.words.specs.Buffers.{within}
use Rattle.words.proofs.Tests.{by_bool}
use Rattle.words.proofs.Refusals.{by_answer, ok_refused, ok_same, refused_along}
use Rattle.words.proofs.Buffers.{within_room, within_not}
use Rattle.bundles.specs.Recordings.{Recording, sample_count}
use Rattle.bundles.specs.Readers.{Reader}
use Rattle.tally.specs.declared.Tally.{Tally}
use Rattle.audit_rules.specs.Auditing.{line_size, lines, tally, tally_within, audit_call, tally_call}
use Rattle.audit_rules.specs.Rules.{AuditRefuses, Audits, Tallies}
use Rattle.audit_rules.proofs.Lines.{lines_length}

-- the lines and the tally of a recording, with room and without
module _ (r : Recording) (room : ℕ) where
  pub lines_not : room < line_size * sample_count r.layout → within room (ok (lines r)) ≡ refused output_too_long 0
  lines_not h = within_not room (lines r) (rw (lines_length r) h)

  pub tally_not : room < line_size * sample_count r.layout → tally_within r room ≡ refused output_too_long 0
  tally_not h = rw (lines_length r, lt-ltb room (line_size * sample_count r.layout) h)

  pub lines_fit : line_size * sample_count r.layout ≤ room → within room (ok (lines r)) ≡ ok (lines r)
  lines_fit h = within_room room (lines r) (rw (lines_length r) h)

  pub tally_fits : line_size * sample_count r.layout ≤ room → tally_within r room ≡ ok (tally r)
  tally_fits h = rw (lines_length r, le-ltb room (line_size * sample_count r.layout) h)

-- the calls
module _ (reader : Reader) (b : List ℕ) (room : ℕ) where
  pub audit_bundle : {m p : ℕ} → reader.means b ≡ refused m p → audit_call reader b room ≡ refused m p
  unfolding audit_call
  audit_bundle e = rw e

  pub tally_bundle : {m p : ℕ} → reader.means b ≡ refused m p → tally_call reader b room ≡ refused m p
  unfolding tally_call
  tally_bundle e = rw e

  pub audit_means : {r : Recording} → reader.means b ≡ ok r → audit_call reader b room ≡ within room (ok (lines r))
  unfolding audit_call
  audit_means e = rw e

  pub tally_means : {r : Recording} → reader.means b ≡ ok r → tally_call reader b room ≡ tally_within r room
  unfolding tally_call
  tally_means e = rw e

  pub audit_refuses : {m p : ℕ} → AuditRefuses reader b room m p → audit_call reader b room ≡ refused m p
  audit_refuses (AuditRefuses.bundle e) = audit_bundle e
  audit_refuses (AuditRefuses.too_long r e h) = audit_means e ∙ lines_not r room h

  pub tally_refuses : {m p : ℕ} → AuditRefuses reader b room m p → tally_call reader b room ≡ refused m p
  tally_refuses (AuditRefuses.bundle e) = tally_bundle e
  tally_refuses (AuditRefuses.too_long r e h) = tally_means e ∙ tally_not r room h

  pub audits : {out : List ℕ} → Audits reader b room out → audit_call reader b room ≡ ok out
  audits w = audit_means w.means ∙ rw w.writes (lines_fit w.recording room w.fits)

  pub tallies : {t : Tally} → Tallies reader b room t → tally_call reader b room ≡ ok t
  tallies w = tally_means w.means ∙ rw w.counts (tally_fits w.recording room w.fits)

  pub answered : {G : Type 0} → ((m p : ℕ) → AuditRefuses reader b room m p → G) → ((r : Recording) → reader.means b ≡ ok r → line_size * sample_count r.layout ≤ room → G) → G
  answered f g = by_answer (reader.means b)
      (λ m p e. f m p (AuditRefuses.bundle e))
      (λ r e. by_bool (ltb room (line_size * sample_count r.layout))
      (λ t. f output_too_long 0 (AuditRefuses.too_long r e (ltb-true _ _ t)))
      (λ t. g r e (ltb-false _ _ t)))

  pub audit_because : (m p : ℕ) → audit_call reader b room ≡ refused m p → AuditRefuses reader b room m p
  audit_because m p e = answered
      (λ a c w. refused_along (AuditRefuses reader b room) (sym (audit_refuses w) ∙ e) w)
      (λ r q h. ok_refused (sym e ∙ audits (record { recording = r; means = q; fits = h; writes = refl })))

  pub tally_because : (m p : ℕ) → tally_call reader b room ≡ refused m p → AuditRefuses reader b room m p
  tally_because m p e = answered
      (λ a c w. refused_along (AuditRefuses reader b room) (sym (tally_refuses w) ∙ e) w)
      (λ r q h. ok_refused (sym e ∙ tallies (record { recording = r; means = q; fits = h; counts = refl })))

  pub audited_because : (out : List ℕ) → audit_call reader b room ≡ ok out → Audits reader b room out
  audited_because out e = answered
      (λ a c w. ok_refused (sym (audit_refuses w) ∙ e))
      (λ r q h.
      let w : Audits reader b room (lines r) = record { recording = r; means = q; fits = h; writes = refl } in
      subst (Audits reader b room) (ok_same (sym (audits w) ∙ e)) w)

  pub tallied_because : (t : Tally) → tally_call reader b room ≡ ok t → Tallies reader b room t
  tallied_because t e = answered
      (λ a c w. ok_refused (sym (tally_refuses w) ∙ e))
      (λ r q h.
      let w : Tallies reader b room (tally r) = record { recording = r; means = q; fits = h; counts = refl } in
      subst (Tallies reader b room) (ok_same (sym (tallies w) ∙ e)) w)

  -- the bundle's own refusal, or 29 at 0
  pub refused_with : {m p : ℕ} → AuditRefuses reader b room m p → (reader.means b ≡ refused m p) ⊎ ((m ≡ output_too_long) × (p ≡ 0))
  refused_with (AuditRefuses.bundle e) = inl e
  refused_with (AuditRefuses.too_long r e h) = inr (refl, refl)
