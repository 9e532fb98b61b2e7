-- A configuration record in plain facts, with the numbers of document 01's table 'Configuration records', and [1] of document 02.
--
--   SetAt types s p                                  a set stands at p: a unit of one of the types after its 2-byte length
--   SetsTo types s n p q                             from p on n such sets, one after the other, that end at q
--   Sets types s n p                                 from p on s is n such sets, and nothing else
--   Shared f pictures                                what both kinds of record have
--   Trailed t                                        the numbers of a trailer fit their bits
--   RecordEnds profile trailer extensions rest       rest is how an AVC record of a profile ends after its picture sets
--   RecordOf f sequences pictures extensions kind s  the fields f and their sets are valid, and s is the record that they spell
use Rattle.std.specs.Prelude.{ℕ, zero, suc, ◌+◌, ◌-◌, ◌*◌, ◌%◌, ◌≤◌, ◌<◌, ◌≡◌, List, [], ◌∷◌, ◌++◌, ◌⊎◌, length}
use Rattle.words.specs.Lists.{◌∈◌}
use Rattle.words.specs.Bytes.{byte_at, big}
use Rattle.record_rules.specs.declared.Flag.TheVariants as flag
use Rattle.record_rules.specs.declared.High.{High}
use Rattle.record_rules.specs.declared.Trailer.{Trailer}
use Rattle.record_rules.specs.declared.Trailer.TheVariants.{None, Absent, Present}
use Rattle.record_rules.specs.declared.Fields.{Fields}

-- a unit of at least one byte, all there, its top bit 0, its type, the low five bits of its first byte, one of the types
pub record SetAt (types s : List ℕ) (p : ℕ) : Type 0 where
  pub some : 0 < big s p 2
  pub inside : p + 2 + big s p 2 ≤ length s
  pub top : byte_at s (p + 2) < 128
  pub type : (byte_at s (p + 2) % 32) ∈ types

abbrev pub SetsTo : List ℕ → List ℕ → ℕ → ℕ → ℕ → Type 0
SetsTo types s zero p q = p ≡ q
SetsTo types s (suc n) p q = SetAt types s p × SetsTo types s n (p + 2 + big s p 2) q

abbrev pub Sets : List ℕ → List ℕ → ℕ → ℕ → Type 0
Sets types s n p = SetsTo types s n p (length s)

-- the profiles to which a trailer belongs
abbrev pub trailer_profiles : List ℕ
trailer_profiles = 100 ∷ 110 ∷ 122 ∷ 144 ∷ []

pub record Shared (f : Fields) (pictures : List ℕ) : Type 0 where
  pub profile : f.profile < 256
  pub compatibility : f.compatibility < 256
  pub level : f.level < 256
  pub length_size : f.length_size ∈ (1 ∷ 2 ∷ 4 ∷ [])
  pub count : f.pictures < 256
  pub sets : Sets (8 ∷ []) pictures f.pictures 0

pub record Trailed (t : High) : Type 0 where
  pub format : t.format < 4
  pub luma : t.luma < 8
  pub chroma : t.chroma < 8
  pub extensions : t.extensions < 256

-- nothing where no trailer belongs; where one does, nothing, and it is absent, or the trailer with its sets, the extensions
pub data RecordEnds (profile : ℕ) : Trailer → List ℕ → List ℕ → Type 0 where
  none : (profile ∈ trailer_profiles → ⊥) → RecordEnds profile None [] []
  absent : profile ∈ trailer_profiles → RecordEnds profile Absent [] []
  trailer :
      (t : High) (extensions : List ℕ) → profile ∈ trailer_profiles → Trailed t → Sets (13 ∷ []) extensions t.extensions 0 →
      RecordEnds profile (Present t) extensions ((252 + t.format) ∷ (248 + t.luma) ∷ (248 + t.chroma) ∷ t.extensions ∷ extensions)

-- kind 0 is AVC; kind 1 is SVC, which ends after its picture sets
pub data RecordOf (f : Fields) (sequences pictures extensions : List ℕ) : ℕ → List ℕ → Type 0 where
  avc :
      (rest : List ℕ) → Shared f pictures → f.complete ≡ flag.Absent → f.sequences < 32 →
      Sets (7 ∷ []) sequences f.sequences 0 → RecordEnds f.profile f.trailer extensions rest →
      RecordOf f sequences pictures extensions 0
      (1 ∷ f.profile ∷ f.compatibility ∷ f.level ∷ (252 + (f.length_size - 1)) ∷ (224 + f.sequences)
      ∷ (sequences ++ (f.pictures ∷ (pictures ++ rest))))
  svc :
      (bit : ℕ) → Shared f pictures → ((f.complete ≡ flag.Clear) × (bit ≡ 0)) ⊎ ((f.complete ≡ flag.Set) × (bit ≡ 1)) →
      f.sequences < 128 → Sets (7 ∷ 15 ∷ []) sequences f.sequences 0 → f.trailer ≡ None → extensions ≡ [] →
      RecordOf f sequences pictures extensions 1
      (1 ∷ f.profile ∷ f.compatibility ∷ f.level ∷ (bit * 128 + 124 + (f.length_size - 1)) ∷ f.sequences
      ∷ (sequences ++ (f.pictures ∷ pictures)))

-- when writing is refused: an unknown kind, fields that are not valid, too little room
pub data WriteRefused (kind : ℕ) (f : Fields) (sequences pictures extensions : List ℕ) (room : ℕ) : ℕ → ℕ → Type 0 where
  kind : (kind ≡ 0 → ⊥) → (kind ≡ 1 → ⊥) → WriteRefused kind f sequences pictures extensions room 4 0
  fields :
      (kind ≡ 0) ⊎ (kind ≡ 1) → ((s : List ℕ) → RecordOf f sequences pictures extensions kind s → ⊥) →
      WriteRefused kind f sequences pictures extensions room 31 0
  room :
      (s : List ℕ) → RecordOf f sequences pictures extensions kind s → room < length s →
      WriteRefused kind f sequences pictures extensions room 29 0
