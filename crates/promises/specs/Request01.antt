-- Request [1] of document 02, 'High profile records without a trailer', in its order and nearly in its words, as theorems in
-- plain facts. The proofs stand in crates/promise_rules/proofs/AbsentLaws. Assumes nothing.
--
--   PicturesEnd Avc s q            s is an AVC record up to the end of its picture sets, at q (promise_rules/specs/Reading)
--   RecordEnds profile t x rest    rest ends an AVC record of a profile: the trailer t with the sets x (the same, Records)
--   TrackAt b p                    the track entry at p of the bundle b follows the rules (the same, Bundles)
--
-- The statements of Demands on records stay by text, and hold of the new case too: `record_exactly`, `written_exactly`,
-- `writes_back`, `reads_back`, `read_refused`, `write_refused`; for C `numbers_read`, `numbers_written`, `c_writes_back`.
use Rattle.std.specs.Prelude.{ℕ, ◌+◌, ◌-◌, ◌≤◌, ◌<◌, ◌≡◌, refl, List, [], ◌∷◌, ◌++◌, ◌⊎◌, ◌↔◌, length, get_or, drop}
use Rattle.words.specs.Lists.{◌∈◌}
use Rattle.words.specs.Bytes.{Bytes, byte_at, big, part}
use Rattle.words.specs.Refusals.{first_of, refused, ok}
use Rattle.words.specs.Walks.{entries, skip}
use Rattle.numbers.specs.declared.Kind.TheVariants.{Avc}
use Rattle.sets.specs.Sets.{set_fault}
use Rattle.record_rules.specs.Layout.{byte_fault}
use Rattle.record_rules.specs.Trailers.{values_fault}
use Rattle.record_rules.specs.Read.{head_fault, sequences_end, pictures_end, record_fault, read_as, read_record}
use Rattle.record_rules.specs.Answers.{part_bytes}
use Rattle.record_rules.specs.declared.Flag.TheVariants as flag
use Rattle.record_rules.specs.declared.Trailer.{Trailer}
use Rattle.record_rules.specs.declared.Trailer.TheVariants.{None, Absent}
use Rattle.record_rules.specs.declared.Fields.{Fields}
use Rattle.record_rules.specs.declared.Record.{Record}
use Rattle.record_writer.specs.Write.{write_record}
use Rattle.record_numbers.specs.Numbers.{read_numbers}
use Rattle.promise_rules.specs.Records.{Sets, trailer_profiles, Shared, RecordEnds}
use Rattle.promise_rules.specs.Reading.{PicturesEnd}
use Rattle.promise_rules.specs.Bundles.{TrackAt}
use Rattle.promise_rules.proofs.AbsentLaws as laws

-- The four profiles
pub four_profiles : trailer_profiles ≡ 100 ∷ 110 ∷ 122 ∷ 144 ∷ []
four_profiles = refl

module _ (s : List ℕ) (bytes : Bytes s) where
  -- an AVC record of any of them that ends exactly after its picture sets is accepted and read as 'trailer absent'; nothing
  -- else is read so
  pub absent_exactly :
      (kind : ℕ) → ((r : Record) × (read_record kind s ≡ ok r) × (r.fields.trailer ≡ Absent))
      ↔ ((kind ≡ 0) × (byte_at s 1 ∈ trailer_profiles) × PicturesEnd Avc s (length s))
  absent_exactly = laws.absent_exactly s bytes

  -- and number 11 of the C functions is then 1, in no other record
  pub absent_number :
      (kind room : ℕ) (ns : List ℕ) → read_numbers kind s room ≡ ok ns →
      (get_or ns 11 0 ≡ 1) ↔ ((kind ≡ 0) × (byte_at s 1 ∈ trailer_profiles) × PicturesEnd Avc s (length s))
  absent_number = laws.absent_number s bytes

  -- One or more trailer bytes still mean that the whole trailer must follow: a record that is good up to its picture sets is
  -- accepted, with the trailer t and the extensions x, exactly if all that follows is such an end, one of three cases
  pub ends_exactly :
      (q : ℕ) → PicturesEnd Avc s q → (t : Trailer) (x : List ℕ) →
      ((r : Record) × (read_record 0 s ≡ ok r) × (r.fields.trailer ≡ t) × (part_bytes s r.extensions ≡ x))
      ↔ RecordEnds (byte_at s 1) t x (drop q s)
  ends_exactly = laws.ends_exactly s bytes

  -- and one, two or three trailer bytes whose fixed bits are right are still refused with 8
  pub cut_trailer :
      (q : ℕ) → byte_at s 1 ∈ trailer_profiles → PicturesEnd Avc s q → q < length s → length s ≤ q + 3 →
      252 ≤ byte_at s q → (q + 1 < length s → 248 ≤ byte_at s (q + 1)) → (q + 2 < length s → 248 ≤ byte_at s (q + 2)) →
      read_record 0 s ≡ refused 8 0
  cut_trailer = laws.cut_trailer s bytes

-- The writer honours it: absent where a trailer belongs is written as nothing, given room
module _ (f : Fields) (sequences pictures : List ℕ) where
  pub absent_written :
      Shared f pictures → f.complete ≡ flag.Absent → f.sequences < 32 → Sets (7 ∷ []) sequences f.sequences 0 →
      f.profile ∈ trailer_profiles → f.trailer ≡ Absent → (room : ℕ) →
      let s : List ℕ =
      1 ∷ f.profile ∷ f.compatibility ∷ f.level ∷ (252 + (f.length_size - 1)) ∷ (224 + f.sequences)
      ∷ (sequences ++ (f.pictures ∷ pictures)) in
      (length s ≤ room → write_record 0 f sequences pictures [] room ≡ ok s)
      × (room < length s → write_record 0 f sequences pictures [] room ≡ refused 29 0)
  absent_written = laws.absent_written f sequences pictures

  module _ (extensions : List ℕ) where
    -- absent where none belongs is 31: in an SVC record, or an AVC record of another profile; and so are extensions beside it
    pub absent_misfit :
        f.trailer ≡ Absent → (kind : ℕ) →
        (kind ≡ 1) ⊎ ((kind ≡ 0) × ((f.profile ∈ trailer_profiles → ⊥) ⊎ (extensions ≡ [] → ⊥))) → (room : ℕ) →
        write_record kind f sequences pictures extensions room ≡ refused 31 0
    absent_misfit = laws.absent_misfit f sequences pictures extensions

    -- neither a trailer nor absent where one belongs is 31
    pub none_misfit :
        f.trailer ≡ None → f.profile ∈ trailer_profiles → (room : ℕ) →
        write_record 0 f sequences pictures extensions room ≡ refused 31 0
    none_misfit = laws.none_misfit f sequences pictures extensions

-- M10's first half is now accepted: profile 100, level 30, L 4, no sets
pub m10 :
    read_record 0 (0x01 ∷ 0x64 ∷ 0x00 ∷ 0x1E ∷ 0xFF ∷ 0xE0 ∷ 0x00 ∷ [])
    ≡ ok (record {
      fields = record {
        profile = 100;
        compatibility = 0;
        level = 30;
        complete = flag.Absent;
        length_size = 4;
        sequences = 0;
        pictures = 0;
        trailer = Absent;
      };
      sequences = record { start = record { 0 = 6 }; len = 0 };
      pictures = record { start = record { 0 = 7 }; len = 0 };
      extensions = record { start = record { 0 = 7 }; len = 0 };
    })
unfolding read_record read_as record_fault head_fault byte_fault sequences_end pictures_end values_fault set_fault entries skip first_of
m10 = refl

-- The bundle reader follows: an AVC track entry with such a record is a good one, as `bundle_exactly` of Demands asks of each
pub track_good :
    (b : List ℕ) → Bytes b → (p : ℕ) → p + 3 + big b (p + 1) 2 ≤ length b → byte_at b p ≡ 0 →
    let s = part b (p + 3) (big b (p + 1) 2) in
    byte_at s 1 ∈ trailer_profiles → PicturesEnd Avc s (length s) → TrackAt b p
track_good = laws.track_good
