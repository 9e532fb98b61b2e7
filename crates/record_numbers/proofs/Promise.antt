-- The promises of records as numbers. Assumes nothing.
--
--   numbers_back      the numbers of a record that was read give its fields
--   writes_back       an accepted record, written again from its numbers, gives the same bytes
--   write_known       the call that writes numbers, by their fields
--   reads_back        what was written reads back as what was given
use Rattle.std.specs.Prelude.{Some}
use Prim.Native.Nat.{ℕ, ◌+◌, ◌-◌, ◌/◌, ◌%◌, ◌≤◌}
use mathlib.Core.Path.{◌≡◌, refl, sym, ◌∙◌}
use mathlib.Core.Bool.{false}
use mathlib.Core.List.{List}
use native.Mathlib.Omega.{arith}
use native.Mathlib.Nat.{sub_self}
use lib.ListN.{length}
use Rattle.words.specs.Tests.{◌<?◌, ◌≡?◌, pick}
use Rattle.words.specs.Refusals.{Answer, refused, ok}
use Rattle.words.specs.Bytes.{Bytes, byte_at}
use Rattle.words.specs.Buffers.{within}
use Rattle.words.proofs.Tests.{by_bool, by_number}
use Rattle.words.proofs.Refusals.{ok_same, ok_refused}
use Rattle.numbers.specs.Kinds.{kind_of}
use Rattle.numbers.specs.declared.Kind.{Kind}
use Rattle.numbers.specs.declared.Kind.TheVariants.{Avc, Svc}
use Rattle.record_rules.specs.Layout.{bit, flag_of}
use Rattle.record_rules.specs.Trailers.{extension_types}
use Rattle.sets.specs.Sets.{sets_end}
use Rattle.sets.proofs.Laws.{sets_none}
use Rattle.record_rules.proofs.Shapes.{flag_back}
use Rattle.record_rules.proofs.Answers.{accepted_as, kind_cases, read_known, read_unknown}
use Rattle.record_rules.specs.Read.{record_of, trailer_of, read_record, pictures_end}
use Rattle.record_rules.specs.Answers.{part_bytes}
use Rattle.record_rules.specs.declared.Trailer.{Trailer}
use Rattle.record_rules.specs.declared.Trailer.TheVariants.{None, Absent, Present}
use Rattle.record_rules.specs.declared.Part.{Part}
use Rattle.record_rules.specs.declared.Record.{Record}
use Rattle.record_writer.specs.Write.{write_record}
use Rattle.record_writer.specs.Promise.{Holds}
use Rattle.record_writer.proofs.Promise as writer
use Rattle.record_numbers.specs.Indices.{number_count, trailer_absent, trailer_present}
use Rattle.record_numbers.specs.Numbers.{trailer_numbers, numbers_of, as_numbers, read_numbers, numbers_fault, has_complete, flag_most, fields_from, write_numbers_as, write_numbers, ◌at◌}
use Rattle.record_numbers.specs.Promise.{sequences_in, pictures_in, extensions_in, Same, NumbersBack, WritesBack, ReadsBack}
use Rattle.record_numbers.proofs.Laws.{trailer_length, read_fits, fault_none}

-- the number of a trailer is known, and gives it back
trailer_known : (t : Trailer) (x : Part) → (trailer_present <? trailer_numbers t x at 0) ≡ false
trailer_known None x = refl
trailer_known Absent x = refl
trailer_known (Present t) x = refl

trailer_back : (t : Trailer) (x : Part) → let ns = trailer_numbers t x in
    pick (ns at 0 ≡? trailer_present) (Present (record { format = ns at 1; luma = ns at 2; chroma = ns at 3; extensions = ns at 4 })) (pick (ns at 0 ≡? trailer_absent) Absent None) ≡ t
trailer_back None x = refl
trailer_back Absent x = refl
trailer_back (Present t) x = refl

-- complete_representation fits what it may be
flag_fits_lem : (k : Kind) (n : ℕ) → (flag_most k <? bit (flag_of (has_complete k) n)) ≡ false
flag_fits_lem Avc n = refl
flag_fits_lem Svc n = by_bool (n ≡? 0) (λ t. rw t) (λ t. rw t)

module _ (k : Kind) (s : List ℕ) where
  no_fault : numbers_fault k (numbers_of (record_of k s)) ≡ 0
  unfolding numbers_fault numbers_of
  no_fault = rw (trailer_length (trailer_of k s) (record_of k s).extensions, flag_fits_lem k (byte_at s 4 / 128 % 2), trailer_known (trailer_of k s) (record_of k s).extensions)

  fields_back : fields_from k (numbers_of (record_of k s)) ≡ (record_of k s).fields
  unfolding fields_from numbers_of
  fields_back = rw (flag_back (has_complete k) (byte_at s 4 / 128 % 2), trailer_back (trailer_of k s) (record_of k s).extensions)

  -- without one no bytes are read as its sets
  none_read : sets_end s 0 (pictures_end k s + 0) - (pictures_end k s + 0) ≡ 0
  none_read = let n = sets_none extension_types s {n = 0} (pictures_end k s + 0) (omega arith) in rw n.1 (sub_self (pictures_end k s + 0))

  extensions_by : (t : Trailer) → trailer_of k s ≡ t → extensions_in s (numbers_of (record_of k s)) ≡ part_bytes s (record_of k s).extensions
  unfolding numbers_of
  extensions_by None e = rw (e, none_read)
  extensions_by Absent e = rw (e, none_read)
  extensions_by (Present t) e = rw e

  extensions_back : extensions_in s (numbers_of (record_of k s)) ≡ part_bytes s (record_of k s).extensions
  extensions_back = extensions_by (trailer_of k s) refl

pub numbers_back : NumbersBack
numbers_back kind k s r q e =
    let h = (accepted_as k s (sym (read_known kind k s q) ∙ e)).1 in
    rw h (no_fault k s, fields_back k s)

-- the call that writes numbers is the call that writes their fields
pub write_known : (kind : ℕ) (k : Kind) (ns a b x : List ℕ) (room : ℕ) → kind_of kind ≡ Some k → numbers_fault k ns ≡ 0 → write_numbers kind ns a b x room ≡ write_record kind (fields_from k ns) a b x room
unfolding write_numbers write_record
write_known kind k ns a b x room q e = rw (q, fault_none k ns a b x e)

-- numbers that were read are those of a record
numbered : (room : ℕ) (a : Answer Record) {ns : List ℕ} → within room (as_numbers a) ≡ ok ns → (r : Record) × (a ≡ ok r) × (numbers_of r ≡ ns)
numbered room (refused n p) e = ok_refused e
numbered room (ok r) e =
    by_bool (room <? length (numbers_of r))
    (λ t. ok_refused (rw t at e))
    (λ t. (r, refl, ok_same (rw t at e)))

read_numbered : (kind : ℕ) (s : List ℕ) (room : ℕ) {ns : List ℕ} → read_numbers kind s room ≡ ok ns → (r : Record) × (read_record kind s ≡ ok r) × (numbers_of r ≡ ns)
unfolding read_numbers
read_numbered kind s room e = numbered room (read_record kind s) e

-- what stands where the numbers of a record say
module _ (kind : ℕ) (k : Kind) (s : List ℕ) (r : Record) (q : kind_of kind ≡ Some k) (e : read_record kind s ≡ ok r) where
  extensions_there : extensions_in s (numbers_of r) ≡ part_bytes s r.extensions
  extensions_there = rw (accepted_as k s (sym (read_known kind k s q) ∙ e)).1 (extensions_back k s)

  held : Holds kind s (fields_from k (numbers_of r)) (sequences_in s (numbers_of r)) (pictures_in s (numbers_of r)) (extensions_in s (numbers_of r))
  unfolding numbers_of
  held =
      record {
        found = r;
        read = e;
        fields = sym (numbers_back kind k s r q e).1;
        sequences = refl;
        pictures = refl;
        extensions = sym extensions_there;
      }

  again : (room : ℕ) → Bytes s → length s ≤ room → write_numbers kind (numbers_of r) (sequences_in s (numbers_of r)) (pictures_in s (numbers_of r)) (extensions_in s (numbers_of r)) room ≡ ok s
  again room g l =
      write_known kind k (numbers_of r) (sequences_in s (numbers_of r)) (pictures_in s (numbers_of r)) (extensions_in s (numbers_of r)) room q (numbers_back kind k s r q e).0
      ∙ writer.writes_back kind s (fields_from k (numbers_of r)) (sequences_in s (numbers_of r)) (pictures_in s (numbers_of r)) (extensions_in s (numbers_of r)) room g held l

pub writes_back : WritesBack
writes_back kind s ns numbers room g e l =
    let w = read_numbered kind s numbers e in
    kind_cases (kind_of kind)
    (λ k q. rw (← w.2) (again kind k s w.0 q w.1 room g l))
    (λ q. ok_refused (sym (read_unknown kind s q) ∙ w.1))

-- numbers that are written have no fault
written_fault : (kind : ℕ) (k : Kind) (ns a b x : List ℕ) (room : ℕ) {s : List ℕ} → kind_of kind ≡ Some k → write_numbers kind ns a b x room ≡ ok s → numbers_fault k ns ≡ 0
unfolding write_numbers write_numbers_as
written_fault kind k ns a b x room q e =
    by_number (numbers_fault k ns)
    (λ z. z)
    (λ n z. ok_refused (rw (q, z) at e))

-- what is found is what was given
found_same : (kind : ℕ) (k : Kind) (s ns a b x : List ℕ) (numbers : ℕ) → kind_of kind ≡ Some k → number_count ≤ numbers → Holds kind s (fields_from k ns) a b x → Same kind k s ns a b x numbers
unfolding numbers_of
found_same kind k s ns a b x numbers q h w =
    record {
      found = numbers_of w.found;
      read = read_fits kind s numbers w.found (sym w.read) h;
      fields = (numbers_back kind k s w.found q w.read).1 ∙ w.fields;
      sequences = w.sequences;
      pictures = w.pictures;
      extensions = extensions_there kind k s w.found q w.read ∙ w.extensions;
    }

pub reads_back : ReadsBack
reads_back kind k s ns a b x room numbers q h e =
    found_same kind k s ns a b x numbers q h
    (writer.reads_back kind s (fields_from k ns) a b x room (sym (write_known kind k ns a b x room q (written_fault kind k ns a b x room q e)) ∙ e))
