-- What may end a record after its picture sets (5.2.4.1.1; 01, 'Configuration records', the trailer; 02, [1]): nothing where no trailer
-- belongs; where one does, the trailer, or nothing, and then it is absent. Each way is one clause of `ending`; which one a record ends
-- with says `ending_of`; reading and writing follow from the two.
--
--   trailer_belongs k profile         whether a trailer belongs to a record of a kind and a profile
--   chroma_shape, depth_shape         the bytes of a trailer's values
--   extension_types                   the types of a trailer's sets
--   high_bytes t, high_numbers_fit t  the four bytes of a trailer before its sets, and whether its numbers fit their bits
--   values_fault s q, high_of s q     the same bytes read from s at q: their refusal, and their values
--   Ending, nothing, ending t         the facts of each way to end a record
--   ending_of k s q                   the way that the record s ends, after picture sets that end at q; absent only if no byte follows
use Rattle.std.specs.Prelude.{ℕ, ◌+◌, Bool, true, ◌||◌, ◌&&◌, not, List, [], ◌∷◌, length}
use Rattle.words.specs.Tests.{◌<?◌, ◌≤?◌, ◌≡?◌, pick, all}
use Rattle.words.specs.Refusals.{◌or_else◌}
use Rattle.words.specs.Bytes.{byte_at}
use Rattle.numbers.specs.declared.Kind.{Kind}
use Rattle.sets.specs.Sets.{extension_set_type}
use Rattle.sets.specs.declared.SetTypes.{SetTypes}
use Rattle.record_rules.specs.Layout.{record_layout, profile_at, ◌ones◌bits, value_in, byte_of, is_byte, missing, byte_fault}
use Rattle.record_rules.specs.declared.Shape.{Shape}
use Rattle.record_rules.specs.declared.High.{High}
use Rattle.record_rules.specs.declared.Trailer.{Trailer}
use Rattle.record_rules.specs.declared.Trailer.TheVariants.{None, Absent, Present}

-- the profiles to whose AVC record a trailer belongs
abbrev pub is_high : ℕ → Bool
is_high profile = (profile ≡? 100) || (profile ≡? 110) || (profile ≡? 122) || (profile ≡? 144)

abbrev pub trailer_belongs : Kind → ℕ → Bool
trailer_belongs k profile = (record_layout k).trailer && is_high profile

-- A trailer: six 1 bits and chroma_format; five 1 bits and a depth less 8, twice; the number of its sets; the sets.
abbrev pub chroma_shape : Shape
chroma_shape = 6 ones 2 bits

abbrev pub depth_shape : Shape
depth_shape = 5 ones 3 bits

abbrev pub extension_types : SetTypes
extension_types = record { one = extension_set_type; other = extension_set_type }

abbrev pub high_bytes : High → List ℕ
high_bytes t = byte_of chroma_shape t.format ∷ byte_of depth_shape t.luma ∷ byte_of depth_shape t.chroma ∷ t.extensions ∷ []

abbrev pub high_numbers_fit : High → Bool
high_numbers_fit t =
    all ((t.format <? chroma_shape.low)
    ∷ (t.luma <? depth_shape.low)
    ∷ (t.chroma <? depth_shape.low)
    ∷ is_byte t.extensions
    ∷ [])

module _ (s : List ℕ) (q : ℕ) where
  unfoldable pub values_fault : ℕ
  values_fault =
      byte_fault s chroma_shape q or_else
      byte_fault s depth_shape (q + 1) or_else
      byte_fault s depth_shape (q + 2) or_else
      missing s (q + 3)

  abbrev pub high_of : High
  high_of =
      record {
        format = value_in chroma_shape (byte_at s q);
        luma = value_in depth_shape (byte_at s (q + 1));
        chroma = value_in depth_shape (byte_at s (q + 2));
        extensions = byte_at s (q + 3);
      }

-- What ends a record: the bytes before its sets; their refusal where they are read from bytes at a place; how many sets there are;
-- whether its numbers fit their bits; and whether it may end a record of a kind and a profile.
pub record Ending : Type 0 where
  pub head : List ℕ
  pub fault : List ℕ → ℕ → ℕ
  pub sets : ℕ
  pub fits : Bool
  pub belongs : Kind → ℕ → Bool

abbrev pub nothing : (Kind → ℕ → Bool) → Ending
nothing belongs = record { head = []; fault = λ s q. 0; sets = 0; fits = true; belongs = belongs }

abbrev pub ending : Trailer → Ending
ending None = nothing (λ k profile. not (trailer_belongs k profile))
ending Absent = nothing trailer_belongs
ending (Present t) =
    record { head = high_bytes t; fault = values_fault; sets = t.extensions; fits = high_numbers_fit t; belongs = trailer_belongs }

abbrev pub ending_of : Kind → List ℕ → ℕ → Trailer
ending_of k s q = pick (trailer_belongs k (byte_at s profile_at)) (pick (length s ≤? q) Absent (Present (high_of s q))) None
