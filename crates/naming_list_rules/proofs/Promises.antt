-- What the naming list promises: demand 3. `reader.means b ≡ ok r` says that the bundle b is accepted by the reader and means the recording r;
-- `Sound reader` is proved of the first layout in crates/resolution_rules/proofs/Readers. n is a sample, p a place in it. Assumes nothing.
--
-- the list of sample s, in any recording
--   listed_exactly         it holds exactly the extractors, in well-formed samples, that name s
--   listed_only            and nothing else
--   listed_in_order        by sample and then place
--   listed_once            each once
--   six_bytes              6 bytes an extractor
--   never_itself           no extractor of s itself, where references join different tracks
--
-- a sample s of an accepted bundle, by any sound reader
--   names_answers          with room the naming call answers with the bytes of the list
--   entries_read_back      the sample and the place of entry i, from 0 on, are read from these bytes at 6 i: nothing is cut
--   unlisted_by_call       a sample whose number is read from no entry that the call wrote is not in the list
--   still_accepted         other bytes of the same length in place of those of s: accepted still, with these bytes replaced and nothing else
--   list_kept              the naming call on s answers as before
--   others_kept            every other sample that is not in the list is as before: well formed or not, its refusal 14 to 28, what it delivers
--   others_resolve         the call that resolves it answers as before
--   others_answer          two such calls with buffers of the same length: the same number, place and count, and the same bytes up to that count
--
-- a bundle that the first layout accepts
--   list_in_bundle         the list of any sample is never longer than the bundle
--
-- the naming call, by any reader
--   names_listed_exactly, names_refused_exactly  it answers, or is refused, exactly if ..
--   names_refused_with                           with a number of the reader's at a place in the bundle or at its end, or 29 or 30 at 0
use Prim.Native.Nat.{ℕ, ◌+◌, ◌*◌, ◌≤◌, ◌<◌}
use mathlib.Core.Path.{◌≡◌, refl, ap, sym, ◌∙◌, subst}
use mathlib.Core.List.{List}
use mathlib.Core.Logic.{◌⊎◌, inl, inr, ⊎_elim, ◌↔◌}
use native.Mathlib.Omega.{arith}
use lib.ListN.{length, get_or}
use Rattle.words.specs.RefusalNumbers.{output_too_long, no_such_number}
use Rattle.words.specs.Refusals.{Answer, refused, ok}
use Rattle.words.specs.Lists.{◌∈◌}
use Rattle.words.specs.Bytes.{big, splice}
use Rattle.words.specs.Buffers.{within, Wrote}
use Rattle.words.proofs.Refusals.{ok_same}
use Rattle.words.proofs.Lists.{Rising}
use Rattle.numbers.specs.Places.{place_size}
use Rattle.bundles.specs.Recordings.{Recording, sample_count, content_of, replaced}
use Rattle.bundles.specs.Readers.{Reader, first_layout}
use Rattle.resolution_rules.specs.Calls.{resolve_call}
use Rattle.resolution_rules.specs.Readers.{DifferentTracks, Sound}
use Rattle.resolution_rules.proofs.Calls.{call_means}
use Rattle.naming_list_rules.specs.Naming.{Namer, namer, naming_list, sample_size, list_entry_size, list_bytes, names_call}
use Rattle.naming_list_rules.specs.Rules.{Names, Before, times_listed, Unlisted, Kept, NamesAnswers, NamesRefuses, SameAnswer}
use Rattle.naming_list_rules.proofs.Listing as listing
use Rattle.naming_list_rules.proofs.Others as others
use Rattle.naming_list_rules.proofs.Entries as entries
use Rattle.naming_list_rules.proofs.Calls as calls
use Rattle.naming_list_rules.proofs.Sizes as sizes

-- the list
module _ (r : Recording) (s : ℕ) where
  pub listed_exactly : (n p : ℕ) → (namer n p ∈ naming_list r s) ↔ Names r s n p
  listed_exactly n p = (listing.listed_from r s n p, listing.listed r s n p)

  pub listed_only : (e : Namer) → e ∈ naming_list r s → Names r s e.sample e.place
  listed_only = listing.list_only r s

  pub listed_in_order : Rising Before (naming_list r s)
  listed_in_order = listing.list_rises r s

  pub listed_once : (n p : ℕ) → Names r s n p → times_listed r s n p ≡ 1
  listed_once n p = listing.list_once r s n p

  pub six_bytes : length (list_bytes (naming_list r s)) ≡ length (naming_list r s) * list_entry_size
  six_bytes = listing.list_size_lem (naming_list r s)

  pub never_itself : DifferentTracks r.layout → Unlisted r s s
  never_itself apart p m = let w = listed_only (namer s p) m in listing.names_elsewhere r apart s p w.names_some w.names

-- a sample of an accepted bundle
module _
    (reader : Reader) (sound : Sound reader) (b : List ℕ) (r : Recording) (accepted : reader.means b ≡ ok r) (s : ℕ) (some : 0 < s)
    (there : s ≤ sample_count r.layout)
  where
    pub names_answers : (room : ℕ) → length (naming_list r s) * list_entry_size ≤ room → names_call reader b s room ≡ ok (list_bytes (naming_list r s))
    names_answers room h =
        let l = six_bytes r s in
        calls.lists reader b s room (record { recording = r; means = accepted; some = some; there = there; lists = refl; fits = omega arith })

    pub entries_read_back : (i : ℕ) → i < length (naming_list r s) →
        (big (list_bytes (naming_list r s)) (i * list_entry_size) sample_size ≡ (get_or (naming_list r s) i (namer 0 0)).sample)
        × (big (list_bytes (naming_list r s)) (i * list_entry_size + sample_size) place_size ≡ (get_or (naming_list r s) i (namer 0 0)).place)
    entries_read_back = entries.list_read r s (entries.sound_fits reader sound b r accepted)

    pub unlisted_by_call : {out out₁ : List ℕ} {count : ℕ} → Wrote out out₁ (ok count) (names_call reader b s (length out)) →
        (n : ℕ) → ((i : ℕ) → i * list_entry_size < count → big out₁ (i * list_entry_size) sample_size ≡ n → ⊥) → Unlisted r s n
    unlisted_by_call {out} {out₁} {count} w n h =
        let k = calls.wrote_list w in
        let l = calls.lists_because reader b s (length out) k.0 k.1 in
        let same : l.recording ≡ r = ok_same (sym l.means ∙ accepted) in
        let is : k.0 ≡ list_bytes (naming_list r s) = l.lists ∙ ap (λ (x : Recording). list_bytes (naming_list x s)) same in
        let size : count ≡ length (naming_list r s) * list_entry_size = k.2 ∙ ap length is ∙ six_bytes r s in
        entries.unlisted_read r s (entries.sound_fits reader sound b r accepted) n (λ i j e.
        h i (omega arith) (k.3 (i * list_entry_size) sample_size (omega arith) ∙ ap (λ (x : List ℕ). big x (i * list_entry_size) sample_size) is ∙ e))

    -- other bytes in place of the sample's
    module _ (new : List ℕ) (equal_length : length new ≡ length (content_of r s)) where
      abbrev pub after : List ℕ
      after = splice b (reader.content_at b s) new

      pub still_accepted : reader.means after ≡ ok (replaced r s new)
      still_accepted = sound.replacing b r s new accepted some there equal_length

      pub list_kept : (room : ℕ) → names_call reader after s room ≡ names_call reader b s room
      list_kept room =
          calls.names_means reader after s room still_accepted ∙ ap (within room) (calls.names_kept r s new (sound.apart b r accepted)) ∙ sym (calls.names_means reader b s room accepted)

      module _ (n : ℕ) (other : n ≡ s → ⊥) (unlisted : Unlisted r s n) where
        pub others_kept : 0 < n → n ≤ sample_count r.layout → Kept r (replaced r s new) n
        others_kept h l = others.sample_kept r s new n other h l unlisted

        pub others_resolve : (room : ℕ) → resolve_call reader after n room ≡ resolve_call reader b n room
        others_resolve room =
            call_means reader after n room still_accepted ∙ ap (within room) (others.resolve_other r s new n other unlisted) ∙ sym (call_means reader b n room accepted)

        pub others_answer : {out out₁ out' out₁' : List ℕ} {a a' : Answer ℕ} → length out ≡ length out' →
            Wrote out out₁ a (resolve_call reader b n (length out)) → Wrote out' out₁' a' (resolve_call reader after n (length out')) → SameAnswer a a' out₁ out₁'
        others_answer {out} {out₁} {out'} {out₁'} {a} {a'} e w v =
            let x = ap (λ (y : ℕ). resolve_call reader after n y) (sym e) ∙ others_resolve (length out) in
            calls.same_answer (resolve_call reader b n (length out)) w (subst (Wrote out' out₁' a') x v)

-- the list and the bundle
pub list_in_bundle : (b : List ℕ) (r : Recording) → first_layout.means b ≡ ok r → (s : ℕ) → length (naming_list r s) * list_entry_size ≤ length b
list_in_bundle = sizes.list_in_bundle

-- the naming call
module _ (reader : Reader) (b : List ℕ) (s room : ℕ) where
  pub names_listed_exactly : (out : List ℕ) → (names_call reader b s room ≡ ok out) ↔ NamesAnswers reader b s room out
  names_listed_exactly out = (calls.lists_because reader b s room out, calls.lists reader b s room)

  pub names_refused_exactly : (m p : ℕ) → (names_call reader b s room ≡ refused m p) ↔ NamesRefuses reader b s room m p
  names_refused_exactly m p = (calls.refuses_because reader b s room m p, calls.refuses reader b s room)

  pub names_refused_with :
      Sound reader → (m p : ℕ) → names_call reader b s room ≡ refused m p →
      ((m ∈ reader.refusals) × (p ≤ length b)) ⊎ (((m ≡ output_too_long) ⊎ (m ≡ no_such_number)) × (p ≡ 0))
  names_refused_with sound m p e = ⊎_elim
      (λ h. inl (sound.refusal b m p h))
      (λ h. inr h)
      (calls.refuses_with reader b s room m p (calls.refuses_because reader b s room m p e))
