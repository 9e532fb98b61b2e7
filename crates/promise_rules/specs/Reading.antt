-- With which number reading a configuration record is refused: document 01, 'Configuration records' and 'Numbers for no', and [1] of
-- document 02. The bytes s are judged front to back. A case is the first rule that they break, and says what holds before it.
--
--   ByteAt P s p, ByteRefused P s p n      the byte at p is there, with the fixed bits that P says; else 8 or 10
--   SetRefused types s p n                 what stands at p is no such set: 8 or 12
--   SetsRefused types s count p n          the first of so many sets from p on that is none
--   SizeBits, CountBits, sequences_in,
--   sequence_types, TrailerBelongs         what the kinds differ in
--   FormatBits, DepthBits                  the fixed bits of a trailer
--   Head k s, HeadRefused k s n            the six bytes before the sequence sets
--   SequencesEnd k s p, PicturesEnd k s q  good up to the end of these sets
--   EndsAt k s q e, EndRefused k s q n     what ends a record after picture sets that end at q
--   BytesRefused k s n                     the bytes are no record of kind k: 8 to 13
--   ReadRefused kind s n p                 the call
use Rattle.std.specs.Prelude.{ℕ, ◌+◌, ◌%◌, ◌≤◌, ◌<◌, ◌≡◌, List, [], ◌∷◌, length}
use Rattle.words.specs.Lists.{◌∈◌}
use Rattle.words.specs.Bytes.{byte_at, big}
use Rattle.numbers.specs.declared.Kind.{Kind}
use Rattle.numbers.specs.declared.Kind.TheVariants.{Avc, Svc}
use Rattle.promise_rules.specs.Records.{SetsTo, trailer_profiles}

-- bytes with fixed bits
pub record ByteAt (P : ℕ → Type 0) (s : List ℕ) (p : ℕ) : Type 0 where
  pub there : p < length s
  pub bits : P (byte_at s p)

pub data ByteRefused (P : ℕ → Type 0) (s : List ℕ) (p : ℕ) : ℕ → Type 0 where
  missing : length s ≤ p → ByteRefused P s p 8
  bits : p < length s → (P (byte_at s p) → ⊥) → ByteRefused P s p 10

-- sets: the length is cut; it is 0; bytes of the unit are missing; its top bit is 1; its type is none of the types
pub data SetRefused (types s : List ℕ) (p : ℕ) : ℕ → Type 0 where
  cut : length s < p + 2 → SetRefused types s p 8
  empty : p + 2 ≤ length s → big s p 2 ≡ 0 → SetRefused types s p 12
  short : p + 2 ≤ length s → 0 < big s p 2 → length s < p + 2 + big s p 2 → SetRefused types s p 8
  top : 0 < big s p 2 → p + 2 + big s p 2 ≤ length s → 128 ≤ byte_at s (p + 2) → SetRefused types s p 12
  type :
      0 < big s p 2 → p + 2 + big s p 2 ≤ length s → byte_at s (p + 2) < 128 → ((byte_at s (p + 2) % 32) ∈ types → ⊥) →
      SetRefused types s p 12

-- some sets, fewer than the count, and then one that is none
pub record SetsRefused (types s : List ℕ) (count p n : ℕ) : Type 0 where
  pub before : ℕ
  pub fewer : before < count
  pub place : ℕ
  pub good : SetsTo types s before p place
  pub bad : SetRefused types s place n

-- the fifth byte: six 1 bits, and the length size less one in two bits; in an SVC record complete_representation and five 1 bits
abbrev pub SizeBits : Kind → ℕ → Type 0
SizeBits Avc b = 252 ≤ b
SizeBits Svc b = 124 ≤ b % 128

-- the sixth: three 1 bits, and the number of sequence sets in five; in an SVC record one 0 bit, and the number in seven
abbrev pub CountBits : Kind → ℕ → Type 0
CountBits Avc b = 224 ≤ b
CountBits Svc b = b < 128

abbrev pub sequences_in : Kind → ℕ → ℕ
sequences_in Avc b = b % 32
sequences_in Svc b = b % 128

abbrev pub sequence_types : Kind → List ℕ
sequence_types Avc = 7 ∷ []
sequence_types Svc = 7 ∷ 15 ∷ []

-- a trailer belongs there: by the profile, the second byte; to no SVC record
abbrev pub TrailerBelongs : Kind → List ℕ → Type 0
TrailerBelongs Avc s = byte_at s 1 ∈ trailer_profiles
TrailerBelongs Svc s = ⊥

-- six 1 bits, and chroma_format; five 1 bits, and a depth less 8
abbrev pub FormatBits : ℕ → Type 0
FormatBits b = 252 ≤ b

abbrev pub DepthBits : ℕ → Type 0
DepthBits b = 248 ≤ b

module _ (k : Kind) (s : List ℕ) where
  abbrev VersionGood : Type 0
  VersionGood = ByteAt (λ b. b ≡ 1) s 0

  abbrev SizeGood : Type 0
  SizeGood = ByteAt (SizeBits k) s 4

  pub record Head : Type 0 where
    pub version : VersionGood
    pub size : SizeGood
    pub known : byte_at s 4 % 4 ≡ 2 → ⊥
    pub count : ByteAt (CountBits k) s 5

  -- the version is missing; it is not 1; fewer than five bytes, or the fifth's fixed bits; length size 3; the sixth byte
  pub data HeadRefused : ℕ → Type 0 where
    missing : length s ≡ 0 → HeadRefused 8
    version : 0 < length s → (byte_at s 0 ≡ 1 → ⊥) → HeadRefused 9
    fifth : {n : ℕ} → VersionGood → ByteRefused (SizeBits k) s 4 n → HeadRefused n
    size : VersionGood → SizeGood → byte_at s 4 % 4 ≡ 2 → HeadRefused 11
    sixth : {n : ℕ} → VersionGood → SizeGood → (byte_at s 4 % 4 ≡ 2 → ⊥) → ByteRefused (CountBits k) s 5 n → HeadRefused n

  -- the six bytes, and the sequence sets, which end at p
  pub record SequencesEnd (p : ℕ) : Type 0 where
    pub head : Head
    pub sets : SetsTo (sequence_types k) s (sequences_in k (byte_at s 5)) 6 p

  -- these, the number of picture sets, and the picture sets, which end at q
  pub record PicturesEnd (q : ℕ) : Type 0 where
    pub count : ℕ
    pub sequences : SequencesEnd count
    pub there : count < length s
    pub sets : SetsTo (8 ∷ []) s (byte_at s count) (count + 1) q

  -- After picture sets that end at q.
  module _ (q : ℕ) where
    abbrev FormatGood : Type 0
    FormatGood = ByteAt FormatBits s q

    abbrev LumaGood : Type 0
    LumaGood = ByteAt DepthBits s (q + 1)

    abbrev ChromaGood : Type 0
    ChromaGood = ByteAt DepthBits s (q + 2)

    -- the record ends there, where no trailer belongs, or where one does and no byte follows; or it has a trailer: chroma_format, two
    -- depths, a count, and as many sets, which end at e
    pub data EndsAt : ℕ → Type 0 where
      nothing : (TrailerBelongs k s → ⊥) → EndsAt q
      absent : TrailerBelongs k s → length s ≤ q → EndsAt q
      trailer :
          {e : ℕ} → TrailerBelongs k s → FormatGood → LumaGood → ChromaGood → q + 3 < length s →
          SetsTo (13 ∷ []) s (byte_at s (q + 3)) (q + 4) e → EndsAt e

    -- where a trailer belongs and a byte of it is there: the first rule that it breaks
    pub data EndRefused : ℕ → Type 0 where
      format : TrailerBelongs k s → q < length s → (FormatBits (byte_at s q) → ⊥) → EndRefused 10
      luma : {n : ℕ} → TrailerBelongs k s → FormatGood → ByteRefused DepthBits s (q + 1) n → EndRefused n
      chroma : {n : ℕ} → TrailerBelongs k s → FormatGood → LumaGood → ByteRefused DepthBits s (q + 2) n → EndRefused n
      count : TrailerBelongs k s → FormatGood → LumaGood → ChromaGood → length s ≤ q + 3 → EndRefused 8
      sets :
          {n : ℕ} → TrailerBelongs k s → FormatGood → LumaGood → ChromaGood → q + 3 < length s →
          SetsRefused (13 ∷ []) s (byte_at s (q + 3)) (q + 4) n → EndRefused n

  -- the six bytes; a sequence set; no number of picture sets; a picture set; what ends the record; bytes after its end
  pub data BytesRefused : ℕ → Type 0 where
    head : {n : ℕ} → HeadRefused n → BytesRefused n
    sequences : {n : ℕ} → Head → SetsRefused (sequence_types k) s (sequences_in k (byte_at s 5)) 6 n → BytesRefused n
    count : (p : ℕ) → SequencesEnd p → length s ≤ p → BytesRefused 8
    pictures : {n : ℕ} (p : ℕ) → SequencesEnd p → p < length s → SetsRefused (8 ∷ []) s (byte_at s p) (p + 1) n → BytesRefused n
    ending : {n : ℕ} (q : ℕ) → PicturesEnd q → EndRefused q n → BytesRefused n
    after : (q e : ℕ) → PicturesEnd q → EndsAt q e → e < length s → BytesRefused 13

-- an unknown kind; bytes that are no record of a known one
pub data ReadRefused (kind : ℕ) (s : List ℕ) : ℕ → ℕ → Type 0 where
  kind : (kind ≡ 0 → ⊥) → (kind ≡ 1 → ⊥) → ReadRefused kind s 4 0
  avc : {n : ℕ} → kind ≡ 0 → BytesRefused Avc s n → ReadRefused kind s n 0
  svc : {n : ℕ} → kind ≡ 1 → BytesRefused Svc s n → ReadRefused kind s n 0
