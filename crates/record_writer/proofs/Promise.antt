-- The promises of reading and writing records. Assumes nothing.
--
--   writes_back                            an accepted record, written again, gives the same bytes
--   reads_back                             what was written reads back as what was given
--   misfits_exactly                        31 arises exactly if no accepted record has those fields and sets
--   within_ok, written                     what was written, by the answer within its room, and by the fields
--   read_refusals_lem, write_refusals_lem  every refusal is one of the named, at place 0
use Rattle.std.specs.Prelude.{None, Some}
use Prim.Native.Nat.{ℕ, ◌≤◌}
use mathlib.Core.Path.{◌≡◌, refl, ap, sym, ◌∙◌, subst}
use mathlib.Core.Bool.{true, false}
use mathlib.Core.List.Memᴰ
use mathlib.Core.List.{List}
use mathlib.Core.Logic.{◌⊎◌, inl, inr, ⊎_elim}
use native.Mathlib.Omega.{arith}
use borrow.Author.Tests.{ltb-false}
use lib.ListN.{length}
use Rattle.words.specs.Tests.{◌<?◌}
use Rattle.words.specs.RefusalNumbers.{unknown_kind, record_refusals, fields_fit_no_record, output_too_long}
use Rattle.words.specs.Refusals.{Answer, refused, ok}
use Rattle.words.specs.Bytes.{Bytes}
use Rattle.words.specs.Buffers.{within}
use Rattle.words.proofs.Tests.{by_bool, true_false}
use Rattle.words.proofs.Refusals.{ok_same, ok_refused, none_or_some, refused_same}
use Rattle.words.proofs.Buffers.{within_room}
use Rattle.numbers.specs.Kinds.{kind_of}
use Rattle.numbers.specs.declared.Kind.{Kind}
use Rattle.record_rules.specs.Fields.{record_bytes, placed, fits}
use Rattle.record_rules.specs.declared.Fields.{Fields}
use Rattle.record_rules.proofs.Answers.{accepted_as, good_read, refused_as, kind_cases, read_known, read_unknown}
use Rattle.record_rules.proofs.BytesBack.{bytes_back}
use Rattle.record_rules.proofs.ReadsBack.{bytes_record, bytes_parts}
use Rattle.record_rules.proofs.Fits.{fitting, bytes_bytes, read_fits}
use Rattle.record_rules.proofs.Refusals.{record_refusal}
use Rattle.record_writer.specs.Write.{write_as, write_record}
use Rattle.record_writer.specs.Promise.{Holds, WritesBack, ReadsBack, MisfitsExactly, ReadRefusals, WriteRefusals}
use Rattle.record_writer.proofs.Laws.{write_misfit, write_fits}

-- what writing a kind says of the call with its number
module _ (kind : ℕ) where
  write_known : (k : Kind) (f : Fields) (a b x : List ℕ) (room : ℕ) → kind_of kind ≡ Some k → write_record kind f a b x room ≡ within room (write_as k f a b x)
  unfolding write_record
  write_known k f a b x room e = rw e

  write_unknown : (f : Fields) (a b x : List ℕ) (room : ℕ) → kind_of kind ≡ None → write_record kind f a b x room ≡ refused unknown_kind 0
  unfolding write_record
  write_unknown f a b x room e = rw e

-- what an accepted record holds fits, and makes its bytes
held : (kind : ℕ) (k : Kind) (s : List ℕ) (f : Fields) (a b x : List ℕ) → kind_of kind ≡ Some k → Bytes s → Holds kind s f a b x → (fits k f a b x ≡ true) × (record_bytes k f a b x ≡ s)
held kind k s f a b x q g h =
    let e = accepted_as k s (sym (read_known kind k s q) ∙ h.read) in
    let z = h.found in
    rw (← h.fields, ← h.sequences, ← h.pictures, ← h.extensions, e.1) (read_fits k s g e.0, bytes_back k s g e.0)

pub writes_back : WritesBack
writes_back kind s f a b x room g h l =
    kind_cases (kind_of kind)
    (λ k q. let w = held kind k s f a b x q g h in
    write_known kind k f a b x room q ∙ ap (within room) (write_fits k f a b x w.0 ∙ ap ok w.1) ∙ within_room room s l)
    (λ q. ok_refused (sym (read_unknown kind s q) ∙ h.read))

-- an answer within its room
pub within_ok : (room : ℕ) (v : Answer (List ℕ)) {s : List ℕ} → within room v ≡ ok s → (v ≡ ok s) × (length s ≤ room)
within_ok room (refused n p) e = ok_refused e
within_ok room (ok out) {s} e = by_bool (room <? length out)
    (λ t. ok_refused (rw t at e))
    (λ t. let q : ok out ≡ ok s = rw t at e in let l : length out ≤ room = ltb-false _ _ t in (q, subst (λ (z : List ℕ). length z ≤ room) (ok_same q) l))

-- what is written fits, and is what the fields make
pub written : (k : Kind) (f : Fields) (a b x : List ℕ) {s : List ℕ} → write_as k f a b x ≡ ok s → (fits k f a b x ≡ true) × (record_bytes k f a b x ≡ s)
written k f a b x e =
    by_bool (fits k f a b x)
    (λ t. (t, ok_same (sym (write_fits k f a b x t) ∙ e)))
    (λ t. ok_refused (sym (write_misfit k f a b x t) ∙ e))

-- what fits is held by the bytes that it makes
holds : (kind : ℕ) (k : Kind) (f : Fields) (a b x : List ℕ) → kind_of kind ≡ Some k → fits k f a b x ≡ true → Holds kind (record_bytes k f a b x) f a b x
holds kind k f a b x q t =
    let w = fitting k f a b x t in
    let p = bytes_parts k f a b x w.numbers w.sequences w.pictures w.extensions w.belongs in
    record {
      found = placed f a b x;
      read = read_known kind k (record_bytes k f a b x) q ∙ good_read k (record_bytes k f a b x) w.good
          ∙ ap ok (bytes_record k f a b x w.numbers w.sequences w.pictures w.extensions w.belongs);
      fields = refl;
      sequences = p.0;
      pictures = p.1;
      extensions = p.2;
    }

pub reads_back : ReadsBack
reads_back kind s f a b x room e =
    kind_cases (kind_of kind)
    (λ k q. let w = written k f a b x (within_ok room (write_as k f a b x) (sym (write_known kind k f a b x room q) ∙ e)).0 in
    rw w.1 at (holds kind k f a b x q w.0))
    (λ q. ok_refused (sym (write_unknown kind f a b x room q) ∙ e))

-- 31 is given exactly for what does not fit
misfit : (room : ℕ) (k : Kind) (f : Fields) (a b x : List ℕ) → within room (write_as k f a b x) ≡ refused fields_fit_no_record 0 → fits k f a b x ≡ false
misfit room k f a b x e =
    by_bool (fits k f a b x)
    (λ t. by_bool (room <? length (record_bytes k f a b x))
    (λ l. let z : ◌≡◌ {A = Answer (List ℕ)} (refused output_too_long 0) (refused fields_fit_no_record 0) = rw (write_fits k f a b x t, l) at e in let y : output_too_long ≡ fields_fit_no_record = cc in absurd (omega arith))
    (λ l. ok_refused (sym (rw (write_fits k f a b x t, l) at e))))
    (λ t. t)

pub misfits_exactly : MisfitsExactly
misfits_exactly kind k f a b x room q ga gb gx = (
  λ e s g h. true_false (fits k f a b x) (held kind k s f a b x q g h).0 (misfit room k f a b x (sym (write_known kind k f a b x room q) ∙ e)),
  λ none. by_bool (fits k f a b x)
      (λ t. absurd (none (record_bytes k f a b x) (bytes_bytes k f a b x (fitting k f a b x t).numbers ga gb gx) (holds kind k f a b x q t)))
      (λ t. write_known kind k f a b x room q ∙ ap (within room) (write_misfit k f a b x t)),
)

pub read_refusals_lem : ReadRefusals
read_refusals_lem kind s n p e =
    kind_cases (kind_of kind)
    (λ k q.
    let w = refused_as k s (sym (read_known kind k s q) ∙ e) in
    (w.2, rw (← w.0) (Memᴰ.tail (none_or_some record_refusals (record_refusal k s) (omega (arith, w.0, w.1))))))
    (λ q. let w = refused_same (sym (read_unknown kind s q) ∙ e) in (sym w.1, Memᴰ.head (sym w.0)))

within_refused : (room : ℕ) (v : Answer (List ℕ)) {n p : ℕ} → within room v ≡ refused n p → (v ≡ refused n p) ⊎ ((n ≡ output_too_long) × (p ≡ 0))
within_refused room (refused m q) e = inl e
within_refused room (ok out) e =
    by_bool (room <? length out)
    (λ t. let w = refused_same (rw t at e) in inr (sym w.0, sym w.1))
    (λ t. ok_refused (sym (rw t at e)))

pub write_refusals_lem : WriteRefusals
write_refusals_lem kind f a b x room n p e =
    kind_cases (kind_of kind)
    (λ k q. ⊎_elim
    (λ r. by_bool (fits k f a b x)
    (λ t. ok_refused (sym (sym (write_fits k f a b x t) ∙ r)))
    (λ t. let w = refused_same (sym (write_misfit k f a b x t) ∙ r) in (sym w.1, Memᴰ.tail (Memᴰ.head (sym w.0)))))
    (λ r. (r.1, Memᴰ.tail (Memᴰ.tail (Memᴰ.head r.0))))
    (within_refused room (write_as k f a b x) (sym (write_known kind k f a b x room q) ∙ e)))
    (λ q. let w = refused_same (sym (write_unknown kind f a b x room q) ∙ e) in (sym w.1, Memᴰ.head (sym w.0)))
