-- Every refusal of a record is one of 8 to 13. Assumes nothing.
--
--   record_refusal        none, or a refusal of a record
use Prim.Native.Nat.{ℕ, ◌+◌, ◌%◌}
use mathlib.Core.Path.{◌≡◌, refl}
use mathlib.Core.Bool.{Bool, true, not}
use mathlib.Core.List.{List}
use mathlib.Core.Logic.{inl}
use lib.ListN.{length}
use Rattle.words.specs.Tests.{◌<?◌, ◌≤?◌, ◌≡?◌}
use Rattle.words.specs.RefusalNumbers.{record_cut, bad_version, wrong_fixed_bits, bad_length_size, bad_set, bytes_after_record, record_refusals}
use Rattle.words.specs.Refusals.{◌if◌, ◌or_else◌}
use Rattle.words.specs.Lists.{some, has}
use Rattle.words.specs.Walks.{entries}
use Rattle.words.specs.Bytes.{byte_at, big}
use Rattle.words.proofs.Lists.{has_from}
use Rattle.words.proofs.Refusals.{NoneOr, none_or_if, none_or_or_else, none_or_first_of}
use Rattle.numbers.specs.declared.Kind.{Kind}
use Rattle.sets.specs.Sets.{set_fault, sets_fault, set_end, one_of}
use Rattle.sets.specs.declared.SetTypes.{SetTypes}
use Rattle.record_rules.specs.Layout.{record_layout, fixed_in, picture_types, missing, byte_fault}
use Rattle.record_rules.specs.Trailers.{chroma_shape, depth_shape, extension_types, values_fault, ending}
use Rattle.record_rules.specs.Read.{head_fault, length_size, sequence_count, sequences_end, picture_count, pictures_end, trailer_of, extensions_at, record_end, record_fault}
use Rattle.record_rules.specs.declared.Shape.{Shape}
use Rattle.record_rules.specs.declared.Trailer.{Trailer}
use Rattle.record_rules.specs.declared.Trailer.TheVariants.{None, Absent, Present}

abbrev OfRecord : ℕ → Type 0
OfRecord n = NoneOr record_refusals n

chain : (n m : ℕ) → OfRecord n → OfRecord m → OfRecord (n or_else m)
chain = none_or_or_else record_refusals

test : (n : ℕ) (b : Bool) → has n record_refusals ≡ true → OfRecord (n if b)
test n b e = none_or_if record_refusals n b (has_from n record_refusals e)

absent : (s : List ℕ) (p : ℕ) → OfRecord (missing s p)
unfolding some
absent s p = test record_cut (length s ≤? p) refl

set_refusal : (types : SetTypes) (s : List ℕ) (p : ℕ) → OfRecord (set_fault types s p)
unfolding set_fault some
set_refusal types s p =
    chain _ _ (test record_cut (length s <? p + 2) refl)
    (chain _ _ (test bad_set (big s p 2 ≡? 0) refl)
    (chain _ _ (test record_cut (length s <? set_end s p) refl)
    (chain _ _ (test bad_set (128 ≤? byte_at s (p + 2)) refl) (test bad_set (not (one_of types (byte_at s (p + 2) % 32))) refl))))

sets_refusal : (types : SetTypes) (s : List ℕ) (n p : ℕ) → OfRecord (sets_fault types s n p)
sets_refusal types s n p = none_or_first_of record_refusals (set_fault types s) (entries (set_end s) n p) (set_refusal types s)

byte_refusal : (s : List ℕ) (h : Shape) (p : ℕ) → OfRecord (byte_fault s h p)
unfolding byte_fault some
byte_refusal s h p = chain _ _ (absent s p) (test wrong_fixed_bits (not (fixed_in h (byte_at s p) ≡? h.fixed)) refl)

values_refusal : (s : List ℕ) (q : ℕ) → OfRecord (values_fault s q)
unfolding values_fault
values_refusal s q =
    chain _ _ (byte_refusal s chroma_shape q)
    (chain _ _ (byte_refusal s depth_shape (q + 1))
    (chain _ _ (byte_refusal s depth_shape (q + 2)) (absent s (q + 3))))

ending_refusal : (s : List ℕ) (q : ℕ) (t : Trailer) → OfRecord ((ending t).fault s q)
ending_refusal s q None = inl refl
ending_refusal s q Absent = inl refl
ending_refusal s q (Present t) = values_refusal s q

head_refusal : (k : Kind) (s : List ℕ) → OfRecord (head_fault k s)
unfolding head_fault some
head_refusal k s =
    chain _ _ (absent s 0)
    (chain _ _ (test bad_version (not (byte_at s 0 ≡? 1)) refl)
    (chain _ _ (byte_refusal s (record_layout k).length_size 4)
    (chain _ _ (test bad_length_size (length_size k s ≡? 3) refl) (byte_refusal s (record_layout k).count 5))))

pub record_refusal : (k : Kind) (s : List ℕ) → NoneOr record_refusals (record_fault k s)
unfolding record_fault some
record_refusal k s =
    chain _ _ (head_refusal k s)
    (chain _ _ (sets_refusal (record_layout k).sequence s (sequence_count k s) 6)
    (chain _ _ (chain _ _ (absent s (sequences_end k s)) (sets_refusal picture_types s (picture_count k s) (sequences_end k s + 1)))
    (chain _ _ (chain _ _ (ending_refusal s (pictures_end k s) (trailer_of k s)) (sets_refusal extension_types s (ending (trailer_of k s)).sets (extensions_at k s)))
    (test bytes_after_record (record_end k s <? length s) refl))))
