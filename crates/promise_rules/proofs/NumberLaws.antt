-- The proofs of what Demands says of where sets stand, and of records as numbers. Assumes nothing.
use Rattle.std.specs.Prelude.{Some}
use Prim.Native.Nat.{ℕ, suc, ◌+◌, ◌≤◌, ◌<◌}
use mathlib.Core.Path.{◌≡◌, refl, ap, sym, ◌∙◌, subst}
use mathlib.Core.Bool.{false}
use mathlib.Core.List.Memᴰ
use mathlib.Core.List.{List, [], ◌∷◌}
use mathlib.Core.Logic.{◌⊎◌, inl, inr, ⊎_elim, ◌↔◌}
use native.Mathlib.Omega.{arith}
use borrow.Author.Tests.{ltb-true, ltb-false, le-ltb, eqb-true, eqb-false, ne_eqb}
use lib.ListN.{length, get_or}
use Rattle.words.specs.Tests.{◌<?◌, ◌≡?◌}
use Rattle.words.specs.RefusalNumbers.{fields_fit_no_record}
use Rattle.words.specs.Refusals.{◌if◌, Answer, refused, ok}
use Rattle.words.specs.Bytes.{Bytes}
use Rattle.words.specs.Buffers.{within}
use Rattle.words.specs.Lists.{◌∈◌}
use Rattle.words.proofs.Tests.{by_bool, by_number}
use Rattle.words.proofs.Refusals.{if_none, or_else_none, ok_refused, ok_same, refused_along, none_or_some}
use Rattle.words.proofs.Buffers.{within_room, within_not}
use Rattle.numbers.specs.Kinds.{kind_of}
use Rattle.numbers.specs.declared.Kind.{Kind}
use Rattle.numbers.specs.declared.Kind.TheVariants.{Avc, Svc}
use Rattle.record_rules.specs.Layout.{bit}
use Rattle.record_rules.specs.Read.{record_of, read_record}
use Rattle.record_rules.specs.Fields.{placed}
use Rattle.record_rules.specs.Trailers.{ending}
use Rattle.record_rules.specs.Answers.{part_bytes}
use Rattle.record_rules.specs.declared.Flag.{Flag}
use Rattle.record_rules.specs.declared.Flag.TheVariants as flags
use Rattle.record_rules.specs.declared.Trailer.{Trailer}
use Rattle.record_rules.specs.declared.Trailer.TheVariants.{None, Absent, Present}
use Rattle.record_rules.specs.declared.Fields.{Fields}
use Rattle.record_rules.specs.declared.Record.{Record}
use Rattle.record_rules.proofs.Fits.{fitting}
use Rattle.record_rules.proofs.ReadsBack.{bytes_record}
use Rattle.record_writer.specs.Write.{write_record}
use Rattle.record_writer.specs.Promise.{Holds}
use Rattle.record_numbers.specs.Numbers.{numbers_of, as_numbers, read_numbers, flag_most, numbers_fault, fields_from, write_numbers}
use Rattle.record_numbers.specs.Numbers as numbers
use Rattle.promise_rules.specs.Records.{RecordOf, WriteRefused}
use Rattle.promise_rules.specs.Numbers.{SetsStand, trailer_head, flag_number, trailer_numbers, numbers_for, FlagIn, TrailerIn, FieldsIn, NumbersRead, NumbersReadRefused, NumbersWritten, NumbersWriteRefused}
use Rattle.promise_rules.proofs.RecordLaws.{fitted, accepted_known, by_kind, accepted_exactly, written_exactly, write_refused_exactly}
use Rattle.promise_rules.proofs.ReadLaws.{read_refused}
use Rattle.promise_rules.proofs.ReturnLaws.{fault_31, write_fault, write_unknown}
use Rattle.record_numbers.proofs.Promise.{write_known}

-- what a record that was read says is where its sets are put
module _ (f : Fields) (a c x : List ℕ) (kind : ℕ) (s : List ℕ) where
  found_placed : {r : Record} → RecordOf f a c x kind s → read_record kind s ≡ ok r → r ≡ placed f a c x
  found_placed w e =
      let v = fitted f a c x w in
      let g = fitting v.known f a c x v.fits in
      sym (accepted_known kind v.known s v.is e).1
      ∙ (ap (record_of v.known) (sym v.bytes)
      ∙ bytes_record v.known f a c x g.numbers g.sequences g.pictures g.extensions g.belongs)

  extensions_at_lem : (t : Trailer) → 6 + length a + 1 + length c + length (ending t).head ≡ 7 + length a + length c + trailer_head t
  extensions_at_lem None = omega arith
  extensions_at_lem Absent = omega arith
  extensions_at_lem (Present t) = omega arith

  stands : SetsStand (placed f a c x) a c x
  stands = record { sequences = (refl, refl); pictures = (omega arith, refl); extensions = (extensions_at_lem f.trailer, refl) }

  pub sets_stand : Bytes s → (h : Holds kind s f a c x) → SetsStand h.found a c x
  sets_stand g h =
      subst (λ (r : Record). SetsStand r a c x) (sym (found_placed ((accepted_exactly f a c x kind s g).0 h) h.read)) stands

-- the numbers of a record
flag_number_lem : (g : Flag) → bit g ≡ flag_number g
flag_number_lem flags.Absent = refl
flag_number_lem flags.Clear = refl
flag_number_lem flags.Set = refl

module _ (a c x : List ℕ) where
  tail_number : (t : Trailer) → numbers.trailer_numbers t (record { start = record { 0 = 6 + length a + 1 + length c + length (ending t).head }; len = length x })
      ≡ trailer_numbers t (7 + length a + length c + 4) (length x)
  tail_number None = refl
  tail_number Absent = refl
  tail_number (Present t) = let e : 6 + length a + 1 + length c + 4 ≡ 7 + length a + length c + 4 = omega arith in rw e

  numbers_placed : (f : Fields) → numbers_of (placed f a c x) ≡ numbers_for f a c x
  unfolding numbers_of
  numbers_placed f =
      let e : 6 + length a + 1 ≡ 7 + length a = omega arith in
      rw (tail_number f.trailer, flag_number_lem f.complete, e)

  tail_length : (t : Trailer) (p n : ℕ) → length (trailer_numbers t p n) ≡ 7
  tail_length None p n = refl
  tail_length Absent p n = refl
  tail_length (Present t) p n = refl

  eighteen : (f : Fields) → length (numbers_for f a c x) ≡ 18
  eighteen f = rw (tail_length f.trailer (7 + length a + length c + 4) (length x))

-- read
module _ (kind : ℕ) (s : List ℕ) (g : Bytes s) where
  found : (r : Record) → read_record kind s ≡ ok r → NumbersRead kind s 18 (numbers_of r)
  found r q =
      let f = r.fields in
      let a = part_bytes s r.sequences in
      let c = part_bytes s r.pictures in
      let x = part_bytes s r.extensions in
      let w = (accepted_exactly f a c x kind s g).0 (record { found = r; read = q; fields = refl; sequences = refl; pictures = refl; extensions = refl }) in
      record {
        fields = f;
        sequences = a;
        pictures = c;
        extensions = x;
        valid = w;
        numbers = ap numbers_of (found_placed f a c x kind s w q) ∙ numbers_placed a c x f;
        fits = omega arith;
      }

  found_length : (r : Record) → read_record kind s ≡ ok r → length (numbers_of r) ≡ 18
  found_length r q = let w = found r q in ap length w.numbers ∙ eighteen w.sequences w.pictures w.extensions w.fields

  widened : {ns : List ℕ} (room : ℕ) → 18 ≤ room → NumbersRead kind s 18 ns → NumbersRead kind s room ns
  widened room l w =
      record {
        fields = w.fields;
        sequences = w.sequences;
        pictures = w.pictures;
        extensions = w.extensions;
        valid = w.valid;
        numbers = w.numbers;
        fits = l;
      }

  -- back: what is read is the numbers of the record
  read_of : (room : ℕ) {ns : List ℕ} → NumbersRead kind s room ns → (room' : ℕ) → read_numbers kind s room' ≡ within room' (ok ns)
  unfolding read_numbers
  read_of room w room' =
      let h = (accepted_exactly w.fields w.sequences w.pictures w.extensions kind s g).1 w.valid in
      let p = found_placed w.fields w.sequences w.pictures w.extensions kind s w.valid h.read in
      let e : numbers_of h.found ≡ _ = ap numbers_of p ∙ (numbers_placed w.sequences w.pictures w.extensions w.fields ∙ sym w.numbers) in
      rw h.read (ap (λ (ns : List ℕ). within room' (ok ns)) e)

  read_length : (room : ℕ) {ns : List ℕ} → NumbersRead kind s room ns → length ns ≡ 18
  read_length room w = ap length w.numbers ∙ eighteen w.sequences w.pictures w.extensions w.fields

  by_read : (room : ℕ) (v : Answer Record) {ns : List ℕ} → read_record kind s ≡ v → within room (as_numbers v) ≡ ok ns → NumbersRead kind s room ns
  by_read room (refused n p) q e = ok_refused e
  by_read room (ok r) {ns} q e = by_bool (room <? length (numbers_of r))
      (λ t. ok_refused (rw t at e))
      (λ t.
      let l : length (numbers_of r) ≤ room = ltb-false _ _ t in
      let z = found_length r q in
      subst (NumbersRead kind s room) (ok_same (rw t at e)) (widened room (omega arith) (found r q)))

  pub numbers_read : (room : ℕ) (ns : List ℕ) → (read_numbers kind s room ≡ ok ns) ↔ NumbersRead kind s room ns
  unfolding read_numbers
  numbers_read room ns = (
    λ e. by_read room (read_record kind s) refl e,
    λ w. let z = read_length room w in let l = w.fits in read_of room w room ∙ within_room room ns (omega arith),
  )

  by_refused : (room : ℕ) (v : Answer Record) {n p : ℕ} → read_record kind s ≡ v → within room (as_numbers v) ≡ refused n p → NumbersReadRefused kind s room n p
  by_refused room (refused m q) z e = refused_along (NumbersReadRefused kind s room) e (NumbersReadRefused.bytes ((read_refused kind s g m q).0 z))
  by_refused room (ok r) z e = by_bool (room <? length (numbers_of r))
      (λ t.
      let l : room < length (numbers_of r) = ltb-true _ _ t in
      let y = found_length r z in
      refused_along (NumbersReadRefused kind s room) (rw t at e) (NumbersReadRefused.room (numbers_of r) (found r z) (omega arith)))
      (λ t. ok_refused (sym (rw t at e)))

  refuses : (room : ℕ) {n p : ℕ} → NumbersReadRefused kind s room n p → read_numbers kind s room ≡ refused n p
  unfolding read_numbers
  refuses room {n} {p} (NumbersReadRefused.bytes w) = rw ((read_refused kind s g n p).1 w)
  refuses room (NumbersReadRefused.room ns w l) =
      let z = read_length 18 w in read_of 18 w room ∙ within_not room ns (omega arith)

  pub numbers_read_refused : (room n p : ℕ) → (read_numbers kind s room ≡ refused n p) ↔ NumbersReadRefused kind s room n p
  unfolding read_numbers
  numbers_read_refused room n p = (λ e. by_refused room (read_record kind s) refl e, refuses room)

-- the fields that numbers say
module _ (ns : List ℕ) where
  many : (k : Kind) → numbers_fault k ns ≡ 0 → (18 ≤ length ns) × ((flag_most k <? get_or ns 3 0) ≡ false) × (get_or ns 11 0 ≤ 2)
  unfolding numbers_fault
  many k e =
      let a = or_else_none (fields_fit_no_record if length ns <? 18) _ e in
      let b = or_else_none (fields_fit_no_record if flag_most k <? get_or ns 3 0) _ a.1 in
      (ltb-false _ _ (if_none 30 _ a.0), if_none 30 _ b.0, ltb-false _ _ (if_none 30 _ b.1))

  trailer_none_lem : (get_or ns 11 0 ≡? 2) ≡ false → (get_or ns 11 0 ≡? 1) ≡ false → get_or ns 11 0 ≤ 2 → get_or ns 11 0 ≡ 0
  trailer_none_lem t u l =
      let a : get_or ns 11 0 ≡ 2 → ⊥ = eqb-false _ _ t in
      let b : get_or ns 11 0 ≡ 1 → ⊥ = eqb-false _ _ u in
      omega arith

  said_by : {kind : ℕ} (k : Kind) → numbers_fault k ns ≡ 0 → (flag : Flag) → FlagIn ns kind flag → (fields_from k ns).complete ≡ flag → FieldsIn ns kind (fields_from k ns)
  unfolding fields_from
  said_by {kind} k e flag i q =
      let m = many k e in
      by_bool (get_or ns 11 0 ≡? 2)
      (λ t. rw (t, q) (FieldsIn.fields flag (Present _) m.0 i (TrailerIn.present (eqb-true _ _ t))))
      (λ t. by_bool (get_or ns 11 0 ≡? 1)
      (λ u. rw (t, u, q) (FieldsIn.fields flag Absent m.0 i (TrailerIn.absent (eqb-true _ _ u))))
      (λ u. rw (t, u, q) (FieldsIn.fields flag None m.0 i (TrailerIn.none (trailer_none_lem t u m.2)))))

  said_avc : numbers_fault Avc ns ≡ 0 → FieldsIn ns 0 (fields_from Avc ns)
  unfolding fields_from
  said_avc e = let z : get_or ns 3 0 ≤ 0 = ltb-false _ _ (many Avc e).1 in said_by Avc e flags.Absent (FlagIn.avc (omega arith)) refl

  said_svc : numbers_fault Svc ns ≡ 0 → FieldsIn ns 1 (fields_from Svc ns)
  unfolding fields_from
  said_svc e =
      let z : get_or ns 3 0 ≤ 1 = ltb-false _ _ (many Svc e).1 in
      by_bool (get_or ns 3 0 ≡? 0)
      (λ t. said_by Svc e flags.Clear (FlagIn.clear (eqb-true _ _ t)) (rw t))
      (λ t. let n : get_or ns 3 0 ≡ 0 → ⊥ = eqb-false _ _ t in said_by Svc e flags.Set (FlagIn.set (omega arith)) (rw t))

  of_avc : {kind : ℕ} {f : Fields} → kind ≡ 0 → FieldsIn ns kind f → (numbers_fault Avc ns ≡ 0) × (fields_from Avc ns ≡ f)
  unfolding numbers_fault fields_from
  of_avc z (FieldsIn.fields flag trailer l (FlagIn.avc e) (TrailerIn.none t)) = (rw (le-ltb (length ns) 18 l, e, t), rw t)
  of_avc z (FieldsIn.fields flag trailer l (FlagIn.avc e) (TrailerIn.absent t)) = (rw (le-ltb (length ns) 18 l, e, t), rw t)
  of_avc z (FieldsIn.fields flag trailer l (FlagIn.avc e) (TrailerIn.present t)) = (rw (le-ltb (length ns) 18 l, e, t), rw t)
  of_avc z (FieldsIn.fields flag trailer l (FlagIn.clear e) t) = absurd (omega arith)
  of_avc z (FieldsIn.fields flag trailer l (FlagIn.set e) t) = absurd (omega arith)

  of_svc : {kind : ℕ} {f : Fields} → kind ≡ 1 → FieldsIn ns kind f → (numbers_fault Svc ns ≡ 0) × (fields_from Svc ns ≡ f)
  unfolding numbers_fault fields_from
  of_svc z (FieldsIn.fields flag trailer l (FlagIn.avc e) t) = absurd (omega arith)
  of_svc z (FieldsIn.fields flag trailer l (FlagIn.clear e) (TrailerIn.none t)) = (rw (le-ltb (length ns) 18 l, e, t), rw (e, t))
  of_svc z (FieldsIn.fields flag trailer l (FlagIn.clear e) (TrailerIn.absent t)) = (rw (le-ltb (length ns) 18 l, e, t), rw (e, t))
  of_svc z (FieldsIn.fields flag trailer l (FlagIn.clear e) (TrailerIn.present t)) = (rw (le-ltb (length ns) 18 l, e, t), rw (e, t))
  of_svc z (FieldsIn.fields flag trailer l (FlagIn.set e) (TrailerIn.none t)) = (rw (le-ltb (length ns) 18 l, e, t), rw (e, t))
  of_svc z (FieldsIn.fields flag trailer l (FlagIn.set e) (TrailerIn.absent t)) = (rw (le-ltb (length ns) 18 l, e, t), rw (e, t))
  of_svc z (FieldsIn.fields flag trailer l (FlagIn.set e) (TrailerIn.present t)) = (rw (le-ltb (length ns) 18 l, e, t), rw (e, t))

-- a record has a known kind
record_kind : {kind : ℕ} {f : Fields} {a c x s : List ℕ} → RecordOf f a c x kind s → (kind ≡ 0) ⊎ (kind ≡ 1)
record_kind (RecordOf.avc rest h g l q e) = inl refl
record_kind (RecordOf.svc b h g l q e n) = inr refl

-- written
module _ (kind : ℕ) (ns a c x : List ℕ) where
  -- what the two kinds give
  record Known-as (k : Kind) : Type 0 where
    pub is : kind_of kind ≡ Some k
    pub one : (kind ≡ 0) ⊎ (kind ≡ 1)
    pub said : numbers_fault k ns ≡ 0 → FieldsIn ns kind (fields_from k ns)
    pub of : {f : Fields} → FieldsIn ns kind f → (numbers_fault k ns ≡ 0) × (fields_from k ns ≡ f)

  by_known : {G : Type 0} → ((k : Kind) → Known-as k → G) → ((kind ≡ 0 → ⊥) → (kind ≡ 1 → ⊥) → G) → G
  by_known f g = by_kind kind
      (λ z. f Avc (record { is = rw z; one = inl z; said = λ e. rw z (said_avc ns e); of = of_avc ns z }))
      (λ z. f Svc (record { is = rw z; one = inr z; said = λ e. rw z (said_svc ns e); of = of_svc ns z }))
      g

  no_kind : (room : ℕ) → (kind ≡ 0 → ⊥) → (kind ≡ 1 → ⊥) → write_numbers kind ns a c x room ≡ refused 4 0
  no_kind room u v = write_unknown kind ns a c x room (rw (ne_eqb kind 0 u, ne_eqb kind 1 v))

  module _ (k : Kind) (w : Known-as k) (room : ℕ) where
    fault_is : (n : ℕ) → numbers_fault k ns ≡ suc n → write_numbers kind ns a c x room ≡ refused 31 0
    fault_is n z =
        let m : suc n ∈ (31 ∷ []) = subst (λ (j : ℕ). j ∈ (31 ∷ [])) z (none_or_some (31 ∷ []) (fault_31 k ns) (omega arith)) in
        let e : suc n ≡ 31 = ⊎_elim (λ e. e) (λ l. absurd (Memᴰ.not-nil l)) (Memᴰ.cases_cons m) in
        write_fault kind k ns a c x room n w.is z ∙ rw e

    as_fields : numbers_fault k ns ≡ 0 → write_numbers kind ns a c x room ≡ write_record kind (fields_from k ns) a c x room
    as_fields z = write_known kind k ns a c x room w.is z

    wrote : {s : List ℕ} → write_numbers kind ns a c x room ≡ ok s → NumbersWritten kind ns a c x s × (length s ≤ room)
    wrote {s} e = by_number (numbers_fault k ns)
        (λ z.
        let v = (written_exactly (fields_from k ns) a c x kind room s).0 (sym (as_fields z) ∙ e) in
        (record { fields = fields_from k ns; said = w.said z; valid = v.0 }, v.1))
        (λ n z. ok_refused (sym (fault_is n z) ∙ e))

    writes : {s : List ℕ} → NumbersWritten kind ns a c x s → write_numbers kind ns a c x room ≡ write_record kind (fields_from k ns) a c x room × RecordOf (fields_from k ns) a c x kind s
    writes v = let o = w.of v.said in (as_fields o.0, rw o.1 v.valid)

    refused_because : {n p : ℕ} → write_numbers kind ns a c x room ≡ refused n p → NumbersWriteRefused kind ns a c x room n p
    refused_because {n} {p} e = by_number (numbers_fault k ns)
        (λ z. go (w.said z) ((write_refused_exactly (fields_from k ns) a c x kind room n p).0 (sym (as_fields z) ∙ e)))
        (λ m z. refused_along (NumbersWriteRefused kind ns a c x room) (sym (fault_is m z) ∙ e)
        (NumbersWriteRefused.fields w.one (λ s v. let o = w.of v.said in let q = o.0 in absurd (omega arith))))
      where
        go : {n p : ℕ} → FieldsIn ns kind (fields_from k ns) → WriteRefused kind (fields_from k ns) a c x room n p → NumbersWriteRefused kind ns a c x room n p
        go i (WriteRefused.kind u v) = NumbersWriteRefused.kind u v
        go i (WriteRefused.fields h none) = NumbersWriteRefused.fields h (λ s v. none s (rw (w.of v.said).1 v.valid))
        go i (WriteRefused.room s v h) = NumbersWriteRefused.room s (record { fields = fields_from k ns; said = i; valid = v }) h

    because_refused : {n p : ℕ} → NumbersWriteRefused kind ns a c x room n p → write_numbers kind ns a c x room ≡ refused n p
    because_refused (NumbersWriteRefused.kind u v) = no_kind room u v
    because_refused (NumbersWriteRefused.fields h none) = by_number (numbers_fault k ns)
        (λ z. as_fields z ∙ (write_refused_exactly (fields_from k ns) a c x kind room 31 0).1
        (WriteRefused.fields h (λ s v. none s (record { fields = fields_from k ns; said = w.said z; valid = v }))))
        (λ n z. fault_is n z)
    because_refused (NumbersWriteRefused.room s v h) =
        let o = writes v in o.0 ∙ (write_refused_exactly (fields_from k ns) a c x kind room 29 0).1 (WriteRefused.room s o.1 h)

  pub numbers_written : (room : ℕ) (s : List ℕ) → (write_numbers kind ns a c x room ≡ ok s) ↔ (NumbersWritten kind ns a c x s × (length s ≤ room))
  numbers_written room s = by_known
      (λ k w. (wrote k w room, λ v. let o = writes k w room v.0 in o.0 ∙ (written_exactly (fields_from k ns) a c x kind room s).1 (o.1, v.1)))
      (λ u v. (λ e. ok_refused (sym (no_kind room u v) ∙ e), λ w. absurd (⊎_elim u v (record_kind w.0.valid))))

  pub numbers_write_refused : (room n p : ℕ) → (write_numbers kind ns a c x room ≡ refused n p) ↔ NumbersWriteRefused kind ns a c x room n p
  numbers_write_refused room n p = by_known
      (λ k w. (refused_because k w room, because_refused k w room))
      (λ u v. (λ e. refused_along (NumbersWriteRefused kind ns a c x room) (sym (no_kind room u v) ∙ e) (NumbersWriteRefused.kind u v), unknown u v))
    where
      unknown : {n p : ℕ} → (kind ≡ 0 → ⊥) → (kind ≡ 1 → ⊥) → NumbersWriteRefused kind ns a c x room n p → write_numbers kind ns a c x room ≡ refused n p
      unknown u v (NumbersWriteRefused.kind y z) = no_kind room u v
      unknown u v (NumbersWriteRefused.fields h none) = absurd (⊎_elim u v h)
      unknown u v (NumbersWriteRefused.room s w h) = absurd (⊎_elim u v (record_kind w.valid))

  pub numbers_exactly :
      (room : ℕ) →
      ((s : List ℕ) → (write_numbers kind ns a c x room ≡ ok s) ↔ (NumbersWritten kind ns a c x s × (length s ≤ room)))
      × ((n p : ℕ) → (write_numbers kind ns a c x room ≡ refused n p) ↔ NumbersWriteRefused kind ns a c x room n p)
  numbers_exactly room = (numbers_written room, numbers_write_refused room)
