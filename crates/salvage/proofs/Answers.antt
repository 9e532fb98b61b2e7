-- The answers of the calls, by what the code counted and wrote. Assumes nothing.
--
--   cut_top, fault_inside                                                   the part that is lent has no top-level fault; it lies in the sample
--   new_is, list_counted                                                    what the two passes are about, as the new sample and the list
--   list_written                                                            the list with the drop of the tail
--   of_long, of_short, of_done                                              a sample of a track
--   alone_kind, alone_size, alone_known                                     a sample outside a bundle
--   numbered_bad, numbered_short, names_refused, names_done, numbered_done  a sample of a recording
--   call_bundle, call_filled                                                the call on a bundle
use Rattle.std.specs.Prelude.{None, Ok, Some}
use Prim.Native.Nat.{ℕ, ◌+◌, ◌≤◌, ◌<◌}
use mathlib.Core.Path.{◌≡◌, refl, ap, ap₂, sym, ◌∙◌, subst}
use mathlib.Core.List.{List, [], ◌∷◌, ◌++◌, append-nil}
use mathlib.Core.Logic.{◌⊎◌, inl, inr}
use native.Mathlib.Omega.{arith}
use borrow.Author.Tests.{lt-ltb, le-ltb, ltb-true, ltb-false}
use lib.ListN.{length, take, length-append}
use lib.Seq.{length-take-le}
use Rattle.words.specs.Tests.{pick, ◌<?◌, ◌when◌else◌}
use Rattle.words.specs.RefusalNumbers.{output_too_long, unknown_kind, bad_length_size}
use Rattle.words.specs.Refusals.{Answer, ok, refused}
use Rattle.words.specs.Lists.{each}
use Rattle.words.specs.Buffers.{put, overwrite, within, within_all, Wrote, WroteAll}
use Rattle.words.proofs.Tests.{by_bool}
use Rattle.words.proofs.Refusals.{at_refused, ok_same, ok_refused, refused_same}
use Rattle.words.proofs.Lists.{each_append}
use Rattle.words.proofs.Buffers.{write_first, put_next, fit_all, lacks_here, lacks_later, within_room, within_not, within_all_room, within_all_not, accept_all}
use Rattle.numbers.specs.Kinds.{kind_of}
use Rattle.numbers.specs.Sizes.{length_size_of}
use Rattle.numbers.specs.declared.Kind.{Kind}
use Rattle.numbers.specs.declared.LengthSize.{LengthSize}
use Rattle.units.specs.Units.{Sample, sample, end, top_units}
use Rattle.units.specs.declared.Track.{Track}
use Rattle.samples.specs.Check.{top_verdict}
use Rattle.samples.proofs.Walks.{whole_top}
use Rattle.bundles.specs.Recordings.{Recording, sample_count}
use Rattle.bundles.specs.Readers.{Reader, first_layout}
use Rattle.tables.specs.Tables.{recording_in}
use Rattle.filling.specs.Filling.{filling, table_after}
use Rattle.filling.proofs.Promises.{table_accepted, table_means}
use Rattle.resolution_rules.specs.Resolving.{sample_of}
use Rattle.resolution_rules.specs.Calls.{number_fault}
use Rattle.naming_list_rules.specs.Naming.{naming_list, list_bytes, names}
use Rattle.salvage_rules.specs.Salvage.{change, a_drop, first_fault, cut, new_content, salvaged, change_at, tail_drop, changes, change_size, change_bytes, change_list_bytes}
use Rattle.salvage_rules.specs.Calls.{listable_most, outputs, salvage_of, salvage_alone, salvage, salvage_call}
use Rattle.salvage_rules.proofs.Cut.{cut_wholes, fault_most}
use Rattle.salvage_rules.proofs.Reading.{change_length}
use Rattle.salvage.specs.Steps.{list_from}
use Rattle.salvage.proofs.Loops.{list_start}

-- the part before the first top-level fault, which the code lends
module _ (k : Track) (s : List ℕ) (f : ℕ) (e : f ≡ first_fault (sample k s)) where
  abbrev X : Sample
  X = sample k s

  abbrev Y : Sample
  Y = sample k (take f s)

  cut_is : Y ≡ cut X
  unfolding cut
  cut_is = ap (λ (n : ℕ). sample k (take n s)) e

  pub fault_inside : f ≤ length s
  fault_inside = rw e (fault_most X)

  pub cut_length : length (take f s) ≡ f
  cut_length = length-take-le f s fault_inside

  pub cut_top : top_verdict Y ≡ ok tt
  cut_top = subst (λ (z : Sample). top_verdict z ≡ ok tt) (sym cut_is) (whole_top (cut X) (cut_wholes X))

  pub new_is : new_content Y ≡ (salvaged X).content
  new_is = ap new_content cut_is

  -- the list, in two parts
  tail_is : change_list_bytes (tail_drop X) ≡ pick (f <? length s) (change_bytes (change a_drop f)) []
  unfolding tail_drop change_list_bytes each
  tail_is = rw e (by_bool (first_fault X <? length s) (λ t. rw t (append-nil (change_bytes (change a_drop (first_fault X))))) (λ t. rw t))

  list_is : change_list_bytes (changes X) ≡ list_from Y 0 ++ pick (f <? length s) (change_bytes (change a_drop f)) []
  list_is = parts ∙ ap₂ ◌++◌ (ap (λ (z : Sample). change_list_bytes (each (change_at z) (top_units z))) (sym cut_is) ∙ sym (list_start Y)) tail_is
    where
      parts : change_list_bytes (changes X) ≡ change_list_bytes (each (change_at (cut X)) (top_units (cut X))) ++ change_list_bytes (tail_drop X)
      parts = unfold changes change_list_bytes in each_append change_bytes (each (change_at (cut X)) (top_units (cut X))) (tail_drop X)

  pub list_counted : (m t : ℕ) → m ≡ length (list_from Y 0) → t ≡ (change_size when f <? length s else 0) → m + t ≡ length (change_list_bytes (changes X))
  list_counted m t h g =
      let l = ap length list_is ∙ length-append (list_from Y 0) (pick (f <? length s) (change_bytes (change a_drop f)) []) in
      let c = change_length (change a_drop f) in
      by_bool (f <? length s)
      (λ u. let n = rw u at l in let v = rw u at g in omega arith)
      (λ u. let n = rw u at l in let v = rw u at g in omega arith)

  -- the changes of the units, and after them the drop of the tail
  pub list_fits : (l : List ℕ) → length (change_list_bytes (changes X)) ≤ length l → length (list_from Y 0) ≤ length l
  list_fits l h = let n = ap length list_is ∙ length-append (list_from Y 0) (pick (f <? length s) (change_bytes (change a_drop f)) []) in omega arith

  pub tail_fits : (n : ℕ) → length (change_list_bytes (changes X)) ≤ n → f < length s → length (list_from Y 0) + change_size ≤ n
  tail_fits n h l =
      let m = rw (lt-ltb f (length s) l) at (ap length list_is ∙ length-append (list_from Y 0) (pick (f <? length s) (change_bytes (change a_drop f)) [])) in
      let c = change_length (change a_drop f) in
      omega arith

  pub list_written : (l : List ℕ) (c : ℕ) → c ≡ length (list_from Y 0) → length (change_list_bytes (changes X)) ≤ length l →
      pick (f <? length s) (put (overwrite l (list_from Y 0)) c (change_bytes (change a_drop f))) (overwrite l (list_from Y 0)) ≡ overwrite l (change_list_bytes (changes X))
  list_written l c h g = rw list_is (by_bool (f <? length s)
      (λ t. rw t (yes (tail_fits (length l) g (ltb-true f (length s) t))))
      (λ t. rw t (ap (overwrite l) (sym (append-nil (list_from Y 0))))))
    where
      yes : length (list_from Y 0) + change_size ≤ length l → put (overwrite l (list_from Y 0)) c (change_bytes (change a_drop f)) ≡ overwrite l (list_from Y 0 ++ change_bytes (change a_drop f))
      yes n =
          let m = change_length (change a_drop f) in
          ap (λ (b : List ℕ). put b c (change_bytes (change a_drop f))) (sym (write_first l (list_from Y 0)))
          ∙ put_next l (list_from Y 0) (change_bytes (change a_drop f)) c h (omega arith)
          ∙ write_first l (list_from Y 0 ++ change_bytes (change a_drop f))

-- a sample of a track, over the buffers o and c
module _ (x : Sample) (o c : List ℕ) where
  abbrev answer : Answer (List (List ℕ))
  answer = within_all (length o ∷ length c ∷ []) (salvage_of x)

  pub of_long : listable_most < end x → answer ≡ refused output_too_long 0
  unfolding salvage_of
  of_long h = rw (lt-ltb listable_most (end x) h)

  module _ (h : end x ≤ listable_most) where
    of_fits : answer ≡ within_all (length o ∷ length c ∷ []) (ok (outputs x))
    unfolding salvage_of
    of_fits = rw (le-ltb listable_most (end x) h)

    abbrev N : List ℕ
    N = (salvaged x).content

    abbrev C : List ℕ
    C = change_list_bytes (changes x)

    pub of_short : (length o < length (salvaged x).content) ⊎ (length c < length (change_list_bytes (changes x))) → answer ≡ refused output_too_long 0
    of_short (inl l) = of_fits ∙ within_all_not (length o ∷ length c ∷ []) (outputs x) (lacks_here (length o) (length c ∷ []) N (C ∷ []) l)
    of_short (inr l) = of_fits ∙ within_all_not (length o ∷ length c ∷ []) (outputs x) (lacks_later (length o) (length c ∷ []) N (C ∷ []) (lacks_here (length c) [] C [] l))

    pub of_done : (n m : ℕ) (o' c' : List ℕ) → n ≡ length (salvaged x).content → m ≡ length (change_list_bytes (changes x)) → n ≤ length o → m ≤ length c →
        o' ≡ overwrite o (salvaged x).content → c' ≡ overwrite c (change_list_bytes (changes x)) → WroteAll (o ∷ c ∷ []) (o' ∷ c' ∷ []) (ok (n ∷ m ∷ [])) answer
    of_done n m o' c' e f g l u v = rw (e, f)
        (accept_all (of_fits ∙ within_all_room (length o ∷ length c ∷ []) (outputs x) (fit_all (length o) (length c ∷ []) N (C ∷ []) (omega arith) (fit_all (length c) [] C [] (omega arith) refl))) (rw (u, v)))

-- a sample outside a bundle
module _ (kind l : ℕ) (s : List ℕ) (room croom : ℕ) where
  pub alone_kind : kind_of kind ≡ None → salvage_alone kind l s room croom ≡ refused unknown_kind 0
  unfolding salvage_alone
  alone_kind e = rw e

  pub alone_size : {k : Kind} → kind_of kind ≡ Some k → length_size_of l ≡ None → salvage_alone kind l s room croom ≡ refused bad_length_size 0
  unfolding salvage_alone
  alone_size e f = rw (e, f)

  pub alone_known : {k : Kind} {n : LengthSize} → kind_of kind ≡ Some k → length_size_of l ≡ Some n →
      salvage_alone kind l s room croom ≡ within_all (room ∷ croom ∷ []) (salvage_of (record { kind = k; length_size = n; content = s }))
  unfolding salvage_alone
  alone_known e f = rw (e, f)

-- sample n of a recording, over the buffers o, c and l
module _ (r : Recording) (n : ℕ) (o c l : List ℕ) where
  abbrev all : Answer (List (List ℕ))
  all = within_all (length o ∷ length c ∷ length l ∷ []) (salvage r n)

  pub numbered_bad : {f : ℕ} → f ≡ number_fault (sample_count r.layout) n → (f ≡ 0 → ⊥) → all ≡ refused f 0
  unfolding salvage
  numbered_bad e h = rw (at_refused 0 e h)

  module _ (g : number_fault (sample_count r.layout) n ≡ 0) (x : Sample) (e : x ≡ sample_of r n) where
    abbrev three : List (List ℕ)
    three = (salvaged x).content ∷ change_list_bytes (changes x) ∷ list_bytes (naming_list r n) ∷ []

    there : all ≡ within_all (length o ∷ length c ∷ length l ∷ []) (ok three)
    unfolding salvage
    there = rw (g, e)

    listing : names r n ≡ ok (list_bytes (naming_list r n))
    unfolding names
    listing = rw g

    abbrev new : List ℕ
    new = (salvaged x).content

    abbrev list : List ℕ
    list = change_list_bytes (changes x)

    abbrev namers : List ℕ
    namers = list_bytes (naming_list r n)

    pub numbered_short : (length o < length (salvaged x).content) ⊎ (length c < length (change_list_bytes (changes x))) → all ≡ refused output_too_long 0
    numbered_short (inl h) = there ∙ within_all_not (length o ∷ length c ∷ length l ∷ []) three (lacks_here (length o) (length c ∷ length l ∷ []) new (list ∷ namers ∷ []) h)
    numbered_short (inr h) = there ∙ within_all_not (length o ∷ length c ∷ length l ∷ []) three (lacks_later (length o) (length c ∷ length l ∷ []) new (list ∷ namers ∷ []) (lacks_here (length c) (length l ∷ []) list (namers ∷ []) h))

    names_short : length l < length namers → all ≡ refused output_too_long 0
    names_short h = there ∙ within_all_not (length o ∷ length c ∷ length l ∷ []) three (lacks_later (length o) (length c ∷ length l ∷ []) new (list ∷ namers ∷ []) (lacks_later (length c) (length l ∷ []) list (namers ∷ []) (lacks_here (length l) [] namers [] h)))

    -- what the naming list's own call did
    module _ (l' : List ℕ) (a : Answer ℕ) (w : Wrote l l' a (within (length l) (names r n))) where
      pub names_refused : {m p : ℕ} → a ≡ refused m p → (all ≡ refused m p) × (l' ≡ l)
      names_refused {m} {p} h = by_bool (length l <? length namers)
          (λ t. let u : length l < length namers = ltb-true (length l) (length namers) t in
          let z : within (length l) (names r n) ≡ refused output_too_long 0 = ap (within (length l)) listing ∙ within_not (length l) namers u in
          let k : refused m p ≡ refused output_too_long 0 = sym h ∙ (rw z at w.answer) in
          let q = refused_same k in
          (rw (q.0, q.1) (names_short u), rw z at w.buffer))
          (λ t. let z : within (length l) (names r n) ≡ ok namers = ap (within (length l)) listing ∙ within_room (length l) namers (ltb-false (length l) (length namers) t) in
          let k : refused m p ≡ ok (length namers) = sym h ∙ (rw z at w.answer) in
          ok_refused k)

      pub names_done : {m : ℕ} → a ≡ ok m → (m ≡ length (list_bytes (naming_list r n))) × (m ≤ length l) × (l' ≡ overwrite l (list_bytes (naming_list r n)))
      names_done {m} h = by_bool (length l <? length namers)
          (λ t. let z : within (length l) (names r n) ≡ refused output_too_long 0 = ap (within (length l)) listing ∙ within_not (length l) namers (ltb-true (length l) (length namers) t) in
          let k : refused output_too_long 0 ≡ ok m = sym (rw z at w.answer) ∙ h in
          ok_refused k)
          (λ t. let u : length namers ≤ length l = ltb-false (length l) (length namers) t in
          let z : within (length l) (names r n) ≡ ok namers = ap (within (length l)) listing ∙ within_room (length l) namers u in
          let k : ok m ≡ ok (length namers) = sym h ∙ (rw z at w.answer) in
          let q : m ≡ length namers = ok_same k in
          (q, omega arith, rw z at w.buffer))

    pub numbered_done : (i j m : ℕ) (o' c' l' : List ℕ) → i ≡ length (salvaged x).content → j ≡ length (change_list_bytes (changes x)) → m ≡ length (list_bytes (naming_list r n)) →
        i ≤ length o → j ≤ length c → m ≤ length l → o' ≡ overwrite o (salvaged x).content → c' ≡ overwrite c (change_list_bytes (changes x)) → l' ≡ overwrite l (list_bytes (naming_list r n)) →
        WroteAll (o ∷ c ∷ l ∷ []) (o' ∷ c' ∷ l' ∷ []) (ok (i ∷ j ∷ m ∷ [])) all
    numbered_done i j m o' c' l' a b d h k p u v w = rw (a, b, d)
        (accept_all (there ∙ within_all_room (length o ∷ length c ∷ length l ∷ []) three (fit_all (length o) (length c ∷ length l ∷ []) new (list ∷ namers ∷ []) (omega arith) (fit_all (length c) (length l ∷ []) list (namers ∷ []) (omega arith) (fit_all (length l) [] namers [] (omega arith) refl)))) (rw (u, v, w)))

-- the call on a bundle
pub call_bundle : (reader : Reader) (b : List ℕ) {m p : ℕ} (n room croom nroom : ℕ) → reader.means b ≡ refused m p → salvage_call reader b n room croom nroom ≡ refused m p
unfolding salvage_call
call_bundle reader b n room croom nroom e = rw e

module _ (b t : List ℕ) (done : filling first_layout b (length t) ≡ (Ok tt)) where
  pub call_filled : {u : List ℕ} → u ≡ table_after first_layout b t → (n room croom nroom : ℕ) →
      within_all (room ∷ croom ∷ nroom ∷ []) (salvage (recording_in b u) n) ≡ salvage_call first_layout b n room croom nroom
  unfolding salvage_call
  call_filled f n room croom nroom = rw (f, table_means b t done, table_accepted b t done)
