-- What the call on a bundle answers, by any reader. Assumes nothing.
--
--   range_number, range_answer                  the call on a recording: 30, or the joined output and the lines
--   within_out, -short, -fits                   with two rooms: 30; 29; both outputs
--   outputs                                     the two outputs of an answer
--   range_bundle                                the bundle's own refusal
--   range_means                                 else by the recording, with 29
--   range_out                                   30
--   range_short, range_fits                     29, or both outputs
--   by_room                                     one of the three
--   range_refuses, range_gives                  refused; answered
--   answered                                    one of the two holds
--   refused_because, given_because, given_here  from the answer, what holds
--   refused_with                                which numbers, and where
use Prim.Native.Nat.{ℕ, ◌+◌, ◌-◌, ◌*◌, ◌≤◌, ◌<◌}
use mathlib.Core.Path.{◌≡◌, refl, ap, sym, ◌∙◌, subst}
use mathlib.Core.List.{List, [], ◌∷◌}
use mathlib.Core.Logic.{◌⊎◌, inl, inr}
use native.Mathlib.Omega.{arith}
use borrow.Author.Tests.{ltb-true, ltb-false}
use lib.Dec.{ltb}
use lib.ListN.{length, get_or}
use Rattle.words.specs.RefusalNumbers.{output_too_long, no_such_number}
use Rattle.words.specs.Refusals.{refused, ok}
use Rattle.words.specs.Buffers.{within_all}
use Rattle.words.proofs.Tests.{by_bool}
use Rattle.words.proofs.Refusals.{by_answer, ok_refused, ok_same, refused_along}
use Rattle.words.proofs.Buffers.{fit_all, lacks_here, lacks_later, within_all_room, within_all_not}
use Rattle.bundles.specs.Recordings.{Recording, sample_count}
use Rattle.bundles.specs.Readers.{Reader}
use Rattle.resolution_rules.specs.Ranges.{between, joined}
use Rattle.resolution_rules.proofs.Ranges.{range_good, range_bad, by_range}
use Rattle.audit_rules.specs.Auditing.{line_size}
use Rattle.range_rules.specs.Ranges.{lines_of, range, range_call}
use Rattle.range_rules.specs.Rules.{InRange, OutOfRange, RangeGives, RangeAnswers, RangeRefuses}
use Rattle.range_rules.proofs.Lines.{range_length}

-- a recording
module _ (r : Recording) (first last : ℕ) where
  pub range_number : OutOfRange (sample_count r.layout) first last → range r first last ≡ refused no_such_number 0
  unfolding range
  range_number h = rw (range_bad (sample_count r.layout) first last h)

  pub range_answer :
      InRange (sample_count r.layout) first last →
      range r first last ≡ ok (joined r (between first last) ∷ lines_of r (between first last) ∷ [])
  unfolding range
  range_answer w = rw (range_good (sample_count r.layout) first last w.some w.there w.order)

  -- with room for the output and for the lines
  module _ (room lines_room : ℕ) where
    pub within_out : OutOfRange (sample_count r.layout) first last → within_all (room ∷ lines_room ∷ []) (range r first last) ≡ refused no_such_number 0
    within_out h = ap (within_all (room ∷ lines_room ∷ [])) (range_number h)

    module _ (w : InRange (sample_count r.layout) first last) where
      abbrev out : List ℕ
      out = joined r (between first last)

      abbrev ls : List ℕ
      ls = lines_of r (between first last)

      there : within_all (room ∷ lines_room ∷ []) (range r first last) ≡ within_all (room ∷ lines_room ∷ []) (ok (out ∷ ls ∷ []))
      there = ap (within_all (room ∷ lines_room ∷ [])) (range_answer w)

      thirteen : length ls ≡ line_size * (last + 1 - first)
      thirteen = let o = w.order in range_length r first last w.some (omega arith)

      pub within_short :
          (room < length (joined r (between first last))) ⊎ (lines_room < line_size * (last + 1 - first)) →
          within_all (room ∷ lines_room ∷ []) (range r first last) ≡ refused output_too_long 0
      within_short (inl k) = there ∙ within_all_not (room ∷ lines_room ∷ []) (out ∷ ls ∷ []) (lacks_here room (lines_room ∷ []) out (ls ∷ []) k)
      within_short (inr k) =
          let s = thirteen in
          there ∙ within_all_not (room ∷ lines_room ∷ []) (out ∷ ls ∷ [])
          (lacks_later room (lines_room ∷ []) out (ls ∷ []) (lacks_here lines_room [] ls [] (omega arith)))

      pub within_fits :
          length (joined r (between first last)) ≤ room → line_size * (last + 1 - first) ≤ lines_room →
          within_all (room ∷ lines_room ∷ []) (range r first last) ≡ ok (joined r (between first last) ∷ lines_of r (between first last) ∷ [])
      within_fits i j =
          let s = thirteen in
          there ∙ within_all_room (room ∷ lines_room ∷ []) (out ∷ ls ∷ [])
          (fit_all room (lines_room ∷ []) out (ls ∷ []) i (fit_all lines_room [] ls [] (omega arith) refl))

-- the two outputs of an answer
pub outputs :
    {r : Recording} {first last room lines_room : ℕ} {out ls : List ℕ} → RangeGives r first last room lines_room (out ∷ ls ∷ []) →
    (out ≡ joined r (between first last)) × (ls ≡ lines_of r (between first last))
outputs g = (ap (λ (x : List (List ℕ)). get_or x 0 []) g.writes, ap (λ (x : List (List ℕ)). get_or x 1 []) g.writes)

-- the call
module _ (reader : Reader) (b : List ℕ) (first last room lines_room : ℕ) where
  pub range_bundle : {m p : ℕ} → reader.means b ≡ refused m p → range_call reader b first last room lines_room ≡ refused m p
  unfolding range_call
  range_bundle e = rw e

  pub range_means :
      {r : Recording} → reader.means b ≡ ok r →
      range_call reader b first last room lines_room ≡ within_all (room ∷ lines_room ∷ []) (range r first last)
  unfolding range_call
  range_means e = rw e

  module _ (r : Recording) (e : reader.means b ≡ ok r) where
    pub range_out : OutOfRange (sample_count r.layout) first last → range_call reader b first last room lines_room ≡ refused no_such_number 0
    range_out h = range_means e ∙ within_out r first last room lines_room h

    module _ (w : InRange (sample_count r.layout) first last) where
      pub range_short :
          (room < length (joined r (between first last))) ⊎ (lines_room < line_size * (last + 1 - first)) →
          range_call reader b first last room lines_room ≡ refused output_too_long 0
      range_short k = range_means e ∙ within_short r first last room lines_room w k

      pub range_fits :
          length (joined r (between first last)) ≤ room → line_size * (last + 1 - first) ≤ lines_room →
          range_call reader b first last room lines_room ≡ ok (joined r (between first last) ∷ lines_of r (between first last) ∷ [])
      range_fits i j = range_means e ∙ within_fits r first last room lines_room w i j

      pub by_room :
          {G : Type 0} → (room < length (joined r (between first last)) → G) → (lines_room < line_size * (last + 1 - first) → G) →
          (length (joined r (between first last)) ≤ room → line_size * (last + 1 - first) ≤ lines_room → G) → G
      by_room f g h = by_bool (ltb room (length (joined r (between first last))))
          (λ t. f (ltb-true _ _ t))
          (λ t. by_bool (ltb lines_room (line_size * (last + 1 - first)))
          (λ u. g (ltb-true _ _ u))
          (λ u. h (ltb-false _ _ t) (ltb-false _ _ u)))

  pub range_refuses : {m p : ℕ} → RangeRefuses reader b first last room lines_room m p → range_call reader b first last room lines_room ≡ refused m p
  range_refuses (RangeRefuses.bundle e) = range_bundle e
  range_refuses (RangeRefuses.number r e h) = range_out r e h
  range_refuses (RangeRefuses.output r e w k) = range_short r e w (inl k)
  range_refuses (RangeRefuses.lines r e w k) = range_short r e w (inr k)

  pub range_gives : {outs : List (List ℕ)} → RangeAnswers reader b first last room lines_room outs → range_call reader b first last room lines_room ≡ ok outs
  range_gives v = let g = v.gives in range_fits v.recording v.means g.within g.fits g.lines_fit ∙ ap ok (sym g.writes)

  pub answered :
      {G : Type 0} → ((m p : ℕ) → RangeRefuses reader b first last room lines_room m p → G) →
      ((outs : List (List ℕ)) → RangeAnswers reader b first last room lines_room outs → G) → G
  answered f g = by_answer (reader.means b)
      (λ m p e. f m p (RangeRefuses.bundle e))
      (λ r e. by_range (sample_count r.layout) first last
      (λ h. f no_such_number 0 (RangeRefuses.number r e h))
      (λ s t o.
      let w : InRange (sample_count r.layout) first last = record { some = s; there = t; order = o } in
      by_room r e w
      (λ k. f output_too_long 0 (RangeRefuses.output r e w k))
      (λ k. f output_too_long 0 (RangeRefuses.lines r e w k))
      (λ i j. g (joined r (between first last) ∷ lines_of r (between first last) ∷ []) (record { recording = r; means = e; gives = record { within = w; writes = refl; fits = i; lines_fit = j } }))))

  pub refused_because : (m p : ℕ) → range_call reader b first last room lines_room ≡ refused m p → RangeRefuses reader b first last room lines_room m p
  refused_because m p e = answered
      (λ a c w. refused_along (RangeRefuses reader b first last room lines_room) (sym (range_refuses w) ∙ e) w)
      (λ outs v. ok_refused (sym e ∙ range_gives v))

  pub given_because : (outs : List (List ℕ)) → range_call reader b first last room lines_room ≡ ok outs → RangeAnswers reader b first last room lines_room outs
  given_because outs e = answered
      (λ a c w. ok_refused (sym (range_refuses w) ∙ e))
      (λ o v. subst (RangeAnswers reader b first last room lines_room) (ok_same (sym (range_gives v) ∙ e)) v)

  pub given_here : {r : Recording} (outs : List (List ℕ)) → reader.means b ≡ ok r → range_call reader b first last room lines_room ≡ ok outs → RangeGives r first last room lines_room outs
  given_here outs e q =
      let v = given_because outs q in
      subst (λ (x : Recording). RangeGives x first last room lines_room outs) (ok_same (sym v.means ∙ e)) v.gives

  -- the bundle's own refusal, or 29 or 30 at 0
  pub refused_with :
      {m p : ℕ} → RangeRefuses reader b first last room lines_room m p →
      (reader.means b ≡ refused m p) ⊎ (((m ≡ output_too_long) ⊎ (m ≡ no_such_number)) × (p ≡ 0))
  refused_with (RangeRefuses.bundle e) = inl e
  refused_with (RangeRefuses.number r e h) = inr (inr refl, refl)
  refused_with (RangeRefuses.output r e w k) = inr (inl refl, refl)
  refused_with (RangeRefuses.lines r e w k) = inr (inl refl, refl)
