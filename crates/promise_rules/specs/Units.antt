-- What the words for units mean, in bytes and numbers (01, 'Units in a sample', 'The bundle'). A byte past the end reads as 0.
--
--   Walk x a e ps       a walk from unit to unit, from a up to e, whole or not, meets units at ps
--   FieldsAt x p        the fields of the unit at p of sample x
--   Laid x a e ps       the units ps lie without gap or overlap from a to e
--   UnitsOf x           the units of a well-formed sample: all of it, in order
--   SampleMeans b r n   what sample n of the bundle b is: its track, its time, its bytes
--   PlacedAt b r n k u  where the kth unit that sample n delivers stands
use Rattle.std.specs.Prelude.{ℕ, ◌+◌, ◌-◌, ◌*◌, ◌%◌, ◌≤◌, ◌<◌, ◌≡◌, List, [], ◌∷◌, map, ◌⊎◌, ◌↔◌, length, get_or}
use Rattle.words.specs.Refusals.{ok}
use Rattle.words.specs.Lists.{◌∈◌, nth, upto, sum}
use Rattle.words.specs.Bytes.{byte_at, big, part}
use Rattle.numbers.specs.declared.LengthSize.TheVariants.{One, Two, Four}
use Rattle.units.specs.Units.{Sample, L, size, first_byte, type, next, top_units}
use Rattle.units.specs.Extractors.{track_ref_index, sample_offset, data_offset, data_length}
use Rattle.units.specs.Aggregators.{included_start, included, additional_bytes, units}
use Rattle.bundles.specs.Recordings.{Track, Recording, track_of, time_of, content_of}
use Rattle.bundles.specs.Readers.{first_layout}
use Rattle.resolution_rules.specs.Resolving.{sample_of, Span}
use Rattle.resolution_rules.specs.Calls.{unit_call, place_call, unit_part}
use Rattle.promise_rules.specs.Bundles.{four, entry, track_places, TrackMeans}
use Rattle.promise_rules.specs.Resolving.{StandsAt}

-- the kind and L that a sample is read with
abbrev pub track_as : Sample → Track
track_as x = record { kind = x.kind; length_size = x.length_size }

module _ (x : Sample) where
  -- each starts where the one before ends, the first at a, as long as that is before e
  pub data Walk : ℕ → ℕ → List ℕ → Type 0 where
    end : {a e : ℕ} → e ≤ a → Walk a e []
    unit : {p e : ℕ} {ps : List ℕ} → p < e → Walk (p + L x + big x.content p (L x)) e ps → Walk p e (p ∷ ps)

  pub record FieldsAt (p : ℕ) : Type 0 where
    -- L is 1, 2 or 4; a unit is its length in L bytes, then so many bytes; its type is the low five bits of the first
    pub one : x.length_size ≡ One → L x ≡ 1
    pub two : x.length_size ≡ Two → L x ≡ 2
    pub four : x.length_size ≡ Four → L x ≡ 4
    pub its_size : size x p ≡ big x.content p (L x)
    pub first : first_byte x p ≡ byte_at x.content (p + L x)
    pub its_type : type x p ≡ byte_at x.content (p + L x) % 32
    pub after : next x p ≡ p + L x + size x p
    -- an aggregator: after a header of 4 bytes additional_bytes in L bytes, then the included units
    pub additional : additional_bytes x p ≡ big x.content (p + L x + 4) (L x)
    pub inner : included_start x p ≡ p + L x + 4 + L x
    -- where units stand, in any bytes: the top-level ones; those included in an aggregator at p
    pub tops : Walk 0 (length x.content) (top_units x)
    pub inside : Walk (p + L x + 4 + L x) (p + L x + big x.content p (L x)) (included x p)
    -- an extractor: after the header track_ref_index and sample_offset in a byte each, data_offset and data_length in L
    pub index : track_ref_index x p ≡ byte_at x.content (p + L x + 4)
    pub samples : sample_offset x p ≡ byte_at x.content (p + L x + 5)
    pub offset : data_offset x p ≡ big x.content (p + L x + 6) (L x)
    pub amount : data_length x p ≡ big x.content (p + L x + 6 + L x) (L x)

  -- each starts where the one before ends, the first at a, and the last ends at e
  pub data Laid : ℕ → ℕ → List ℕ → Type 0 where
    none : {e : ℕ} → Laid e e []
    unit :
        {p e : ℕ} {ps : List ℕ} → p + L x + big x.content p (L x) ≤ e → Laid (p + L x + big x.content p (L x)) e ps →
        Laid p e (p ∷ ps)

  pub record UnitsOf : Type 0 where
    -- the top-level units are the whole sample; the included ones are all of their aggregator, after its additional_bytes
    pub whole : Laid 0 (length x.content) (top_units x)
    pub filled :
        (p : ℕ) → p ∈ top_units x → type x p ≡ 30 → Laid (p + 2 * L x + 4) (p + L x + big x.content p (L x)) (included x p)
    -- all units: these and those, and no others, by place
    pub all :
        (q : ℕ) →
        (q ∈ units x) ↔ ((q ∈ top_units x) ⊎ ((p : ℕ) × (p ∈ top_units x) × (type x p ≡ 30) × (q ∈ included x p)))
    pub rise : (i j : ℕ) → i < j → j < length (units x) → get_or (units x) i 0 < get_or (units x) j 0

-- where in the bundle b the bytes of sample n start: after section four's count and the samples before
abbrev pub sample_start : List ℕ → ℕ → ℕ
sample_start b n = four b + 4 + sum (map (λ m. big b (entry b m + 9) 4) (upto (n - 1)))

pub record SampleMeans (b : List ℕ) (r : Recording) (n : ℕ) : Type 0 where
  -- its entry has its track in 1 byte, its decode time in 8, its length in 4
  pub track : track_of r.layout n ≡ big b (entry b n) 1
  pub time : time_of r.layout n ≡ big b (entry b n + 1) 8
  pub start : first_layout.content_at b n ≡ sample_start b n
  pub bytes : content_of r n ≡ part b (sample_start b n) (big b (entry b n + 9) 4)
  -- it is read with the kind and L of that track, and these bytes
  pub of_track : TrackMeans b (nth (track_places b) (big b (entry b n) 1) 0) (track_as (sample_of r n))
  pub content : (sample_of r n).content ≡ content_of r n

-- what the calls for the kth unit that sample n delivers, u, give: where it stands, in its sample; its bytes
pub record PlacedAt (b : List ℕ) (r : Recording) (n k : ℕ) (u : Span) : Type 0 where
  pub there : place_call first_layout b n k ≡ ok (record { start = sample_start b u.sample + u.start; size = u.size })
  pub stands : StandsAt b r n u (sample_start b u.sample + u.start) u.size
  pub lent : unit_part first_layout b (unit_call first_layout b n k) ≡ part (content_of r u.sample) u.start u.size
