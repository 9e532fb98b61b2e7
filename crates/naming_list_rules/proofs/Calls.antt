-- What the naming call answers, case by case, and what two calls with the same answer leave. By any reader of bundles. Assumes nothing.
--
--   names_number, names_there                       the call on a recording
--   names_kept                                      the bytes of the sample asked for do not matter
--   names_means, names_bundle                       the call on an accepted bundle, and on one that is refused
--   lists, lists_because, refuses, refuses_because  the naming call answers, or is refused, exactly if ..
--   refuses_with                                    30 or 29, at 0, or the bundle's own refusal
--   same_answer                                     calls with the same answer
--   wrote_list                                      what the naming call wrote, read from the buffer
use Prim.Native.Nat.{ℕ, ◌+◌, ◌≤◌, ◌<◌}
use mathlib.Core.Path.{◌≡◌, refl, ap, sym, ◌∙◌, subst}
use mathlib.Core.List.{List}
use mathlib.Core.Logic.{◌⊎◌, inl, inr}
use native.Mathlib.Omega.{arith}
use borrow.Author.Tests.{ltb-true, ltb-false}
use lib.Dec.{ltb}
use lib.ListN.{length, take, drop}
use lib.Seq.{take-append_seam}
use Rattle.words.specs.RefusalNumbers.{output_too_long, no_such_number}
use Rattle.words.specs.Refusals.{Answer, refused, ok}
use Rattle.words.specs.Bytes.{big}
use Rattle.words.specs.Buffers.{within, overwrite, Wrote}
use Rattle.words.proofs.Tests.{by_bool}
use Rattle.words.proofs.Refusals.{by_answer, ok_same, ok_refused, refused_along}
use Rattle.words.proofs.Buffers.{within_room, within_not}
use Rattle.bundles.specs.Recordings.{Recording, sample_count, replaced}
use Rattle.bundles.specs.Readers.{Reader}
use Rattle.resolution_rules.specs.Readers.{DifferentTracks}
use Rattle.resolution_rules.proofs.Calls.{number_good, number_bad, by_count}
use Rattle.naming_list_rules.specs.Naming.{naming_list, list_bytes, names, names_call}
use Rattle.naming_list_rules.specs.Rules.{NamesAnswers, NamesRefuses, SameAnswer}
use Rattle.naming_list_rules.proofs.Replaced.{layout_kept}
use Rattle.naming_list_rules.proofs.Listing.{list_size_lem, list_kept}
use Rattle.naming_list_rules.proofs.Entries.{big_before}

module _ (r : Recording) (s : ℕ) where
  pub names_number : (s ≡ 0) ⊎ (sample_count r.layout < s) → names r s ≡ refused no_such_number 0
  unfolding names
  names_number h = rw (number_bad (sample_count r.layout) s h)

  pub names_there : 0 < s → s ≤ sample_count r.layout → names r s ≡ ok (list_bytes (naming_list r s))
  unfolding names
  names_there h l = rw (number_good (sample_count r.layout) s h l)

pub names_kept : (r : Recording) (s : ℕ) (new : List ℕ) → DifferentTracks r.layout → names (replaced r s new) s ≡ names r s
unfolding names
names_kept r s new apart = rw (list_kept r s new apart, layout_kept r s new)

module _ (reader : Reader) (b : List ℕ) where
  pub names_means : {r : Recording} (s room : ℕ) → reader.means b ≡ ok r → names_call reader b s room ≡ within room (names r s)
  unfolding names_call
  names_means s room e = rw e

  pub names_bundle : {m p : ℕ} (s room : ℕ) → reader.means b ≡ refused m p → names_call reader b s room ≡ refused m p
  unfolding names_call
  names_bundle s room e = rw e

  module _ (s room : ℕ) where
    pub lists : {out : List ℕ} → NamesAnswers reader b s room out → names_call reader b s room ≡ ok out
    lists {out} w =
        names_means s room w.means ∙ ap (within room) (names_there w.recording s w.some w.there ∙ ap ok (sym w.lists)) ∙ within_room room out w.fits

    pub refuses : {m p : ℕ} → NamesRefuses reader b s room m p → names_call reader b s room ≡ refused m p
    refuses (NamesRefuses.bundle e) = names_bundle s room e
    refuses (NamesRefuses.number r e h) = names_means s room e ∙ ap (within room) (names_number r s h)
    refuses (NamesRefuses.too_long r e h l w) =
        let z = list_size_lem (naming_list r s) in
        names_means s room e ∙ ap (within room) (names_there r s h l) ∙ within_not room (list_bytes (naming_list r s)) (omega arith)

    -- one of the two
    answered : {G : Type 0} → ((m p : ℕ) → NamesRefuses reader b s room m p → G) → ((out : List ℕ) → NamesAnswers reader b s room out → G) → G
    answered f g = by_answer (reader.means b)
        (λ m p e. f m p (NamesRefuses.bundle e))
        (λ r e. by_count (sample_count r.layout) s
        (λ h. f no_such_number 0 (NamesRefuses.number r e h))
        (λ h l.
        let z = list_size_lem (naming_list r s) in
        by_bool (ltb room (length (list_bytes (naming_list r s))))
        (λ t. let k = ltb-true room (length (list_bytes (naming_list r s))) t in f output_too_long 0 (NamesRefuses.too_long r e h l (omega arith)))
        (λ t. g (list_bytes (naming_list r s)) (record { recording = r; means = e; some = h; there = l; lists = refl; fits = ltb-false _ _ t }))))

    pub refuses_because : (m p : ℕ) → names_call reader b s room ≡ refused m p → NamesRefuses reader b s room m p
    refuses_because m p e = answered
        (λ a c w. refused_along (NamesRefuses reader b s room) (sym (refuses w) ∙ e) w)
        (λ out w. ok_refused (sym e ∙ lists w))

    pub lists_because : (out : List ℕ) → names_call reader b s room ≡ ok out → NamesAnswers reader b s room out
    lists_because out e = answered
        (λ a c w. ok_refused (sym (refuses w) ∙ e))
        (λ o w. subst (NamesAnswers reader b s room) (ok_same (sym (lists w) ∙ e)) w)

    pub refuses_with : (m p : ℕ) → NamesRefuses reader b s room m p → (reader.means b ≡ refused m p) ⊎ (((m ≡ output_too_long) ⊎ (m ≡ no_such_number)) × (p ≡ 0))
    refuses_with m p (NamesRefuses.bundle e) = inl e
    refuses_with m p (NamesRefuses.number r e h) = inr (inr refl, refl)
    refuses_with m p (NamesRefuses.too_long r e h l w) = inr (inl refl, refl)

-- the same answer, by two calls with two buffers
pub same_answer : {o o₁ o' o₁' : List ℕ} {a a' : Answer ℕ} (x : Answer (List ℕ)) → Wrote o o₁ a x → Wrote o' o₁' a' x → SameAnswer a a' o₁ o₁'
same_answer (refused m p) w v = rw (w.answer, v.answer) (record { number = refl; place = refl; count = refl; bytes = refl })
same_answer {o} {o₁} {o'} {o₁'} (ok out) w v = rw (w.answer, v.answer, w.buffer, v.buffer) (record {
  number = refl;
  place = refl;
  count = refl;
  bytes = front o ∙ sym (front o');
})
  where
    front : (y : List ℕ) → take (length out) (overwrite y out) ≡ out
    front y = unfold overwrite in take-append_seam out (drop (length out) y)

-- the bytes of an accepted call, read from the buffer
over_reads : (o out : List ℕ) (q n : ℕ) → q + n ≤ length out → big (overwrite o out) q n ≡ big out q n
unfolding overwrite
over_reads o out q n h = big_before out (drop (length out) o) q n h

pub wrote_list : {o o₁ : List ℕ} {c : ℕ} {x : Answer (List ℕ)} → Wrote o o₁ (ok c) x → (out : List ℕ) × (x ≡ ok out) × (c ≡ length out) × ((q n : ℕ) → q + n ≤ c → big o₁ q n ≡ big out q n)
wrote_list {x = refused m p} w = ok_refused (sym w.answer)
wrote_list {o} {o₁} {c} {x = ok out} w =
    let e : c ≡ length out = ok_same w.answer in
    (out, refl, e, λ q n h. rw w.buffer (over_reads o out q n (omega arith)))
