-- The demands, in their order and nearly in their words, each as theorems in plain facts about the definitions that the contracts
-- of the code cite. The numbers are those of document 01, as changed by document 02: RequestNN says what a request asks for.
-- Of the calls that tell what a bundle holds, where all units stand and what an extractor names, Contents says the same.
-- What a word means stands in the file that Demands/Words names for it; the files crates/promise_rules/proofs/*Laws prove.
-- Assumes nothing.
--
-- Demand 1. Every public entry takes any bytes, ends, and either answers or refuses with a number of the table and a place.
-- After a refusal each output buffer holds what it held before, and the count returned is zero. No caller is asked to have
-- checked anything.
-- Demand 2. Records, units, aggregators and extractors mean what ISO/IEC 14496-15:2010 says, as narrowed by document 01. Given
-- room, a record read and written again gives the same bytes, and a record written from valid fields reads back as them. With
-- room for the lines, every sample of an accepted bundle, after a blank or bad one too, gets exactly one line, in order: empty
-- exactly if its length is zero, passed exactly if it has bytes and its whole length is good.
-- Demand 3. For any sample of an accepted bundle, and with room, the naming list is exactly the extractors, in well-formed
-- samples, that name it: every one, each once, in order, nothing else. Put any bytes of the same length in place of that
-- sample's: the bundle is still accepted, and every other sample without an extractor in the list taken before, itself well
-- formed or not, resolves with the same room to the same number, place and count, and writes the same bytes up to that count.
use Rattle.std.specs.Prelude.{ℕ, suc, ◌+◌, ◌-◌, ◌*◌, ◌/◌, ◌%◌, ◌≤◌, ◌<◌, ◌≡◌, refl, false, ◌&&◌, List, [], ◌∷◌, ◌++◌, ◌⊎◌, ◌↔◌, length, get_or, drop}
use Rattle.words.specs.Tests.{◌≡?◌}
use Rattle.words.specs.Lists.{◌∈◌}
use Rattle.promise_rules.proofs as laws
use Rattle.promise_rules.proofs.Cited as cited
mod Words
use Words.*

-- Demand 1.
-- That every entry takes any bytes and ends is what `rt check` proves of the code: no public function requires anything. Its
-- answer is the definition's that its contract cites. `Bytes b` says that b holds numbers below 256, as every lent slice does.
-- A call is refused with a number of the table, at a place, exactly as the cases say. The numbers of the table are 1, 2, .. 34:
pub table_numbers : refusal_numbers ≡ upto 34
unfolding upto
table_numbers = refl

-- records read: 4, or the number of the first rule that the bytes break, 8 to 13, all at 0
pub read_refused : (kind : ℕ) (s : List ℕ) → Bytes s → (n p : ℕ) → (read_record kind s ≡ refused n p) ↔ ReadRefused kind s n p
read_refused = laws.ReadLaws.read_refused

-- records written: 4, 31 where the fields are not valid, or 29, all at 0
pub write_refused :
    (f : Fields) (sequences pictures extensions : List ℕ) (kind room n p : ℕ) →
    (write_record kind f sequences pictures extensions room ≡ refused n p)
    ↔ WriteRefused kind f sequences pictures extensions room n p
write_refused = laws.RecordLaws.write_refused_exactly

-- samples checked: 4 or 11 at 0, or 14 to 22 at the length field of a unit
pub check_refused : (kind l : ℕ) (s : List ℕ) (n p : ℕ) → (check_alone kind l s ≡ refused n p) ↔ CheckRefused kind l s n p
check_refused = laws.CheckLaws.check_refused

-- After a refusal, and after an answer x: all calls that write promise `Wrote`
pub refusal_leaves :
    {out out₁ : List ℕ} {a : Answer ℕ} {is : Answer (List ℕ)} → Wrote out out₁ a is → passed a ≡ false →
    (count_of a ≡ 0) × (out₁ ≡ out)
refusal_leaves = cited.refused_leaves

pub answer_leaves :
    {out out₁ x : List ℕ} {a : Answer ℕ} → Wrote out out₁ a (ok x) → (a ≡ ok (length x)) × (out₁ ≡ x ++ drop (length x) out)
answer_leaves = laws.ReturnLaws.answer_leaves

-- The C functions return 0 at 0 exactly if accepted; else the number and place of the refusal, with every count, start, length
-- and tally 0 and every buffer as it was. With an output buffer o, which is left as o':
pub c_output :
    {o : List ℕ} {a : Answer (List ℕ)} → OutputAnswer o a → {n p c : ℕ} {o' : List ℕ} → ReturnedOutput n p c o o' a →
    OutputGiven a o n p c o'
c_output = laws.ReturnLaws.output_returned

-- a record read as numbers
pub c_read :
    (kind : ℕ) (s : List ℕ) {n p : ℕ} {o o' : List ℕ} → Returned n p (read_numbers kind s (length o)) →
    o' ≡ leaves o (read_numbers kind s (length o)) → NumbersGiven (read_numbers kind s (length o)) o n p o'
c_read = laws.ReturnLaws.read_returned

-- a bundle or a sample checked
pub c_check : {a : Verdict} → VerdictAnswer a → {n p : ℕ} → Returned n p a → VerdictGiven a n p
c_check = laws.ReturnLaws.verdict_returned

module _ (b : List ℕ) (bytes : Bytes b) where
  -- bundles checked: 1 to 13, at the count or the entry at fault
  pub bundle_refused : (m p : ℕ) → (bundle_verdict b ≡ refused m p) ↔ BundleRefused b m p
  bundle_refused = laws.RefusedLaws.check_refused b bytes

  -- samples resolved: 1 to 13 of the bundle; 30 at 0; 14 to 22 at a unit of the sample, 23 to 28 at an extractor; 29 at 0
  pub resolve_refused : (n room m p : ℕ) → (resolve_call first_layout b n room ≡ refused m p) ↔ ResolveRefused b n room m p
  resolve_refused = laws.RefusedLaws.resolve_refused b bytes

  -- one delivered unit, and where in the bundle it stands: the same, but 30 for the unit's number and no 29; no bytes are lent
  pub unit_refused :
      (n k m p : ℕ) → ((unit_call first_layout b n k ≡ refused m p) ↔ UnitRefused b n k m p)
      × ((place_call first_layout b n k ≡ refused m p) ↔ UnitRefused b n k m p) × (unit_part first_layout b (refused m p) ≡ [])
  unit_refused n k m p = (laws.RefusedLaws.unit_refused b bytes n k m p, laws.RefusedLaws.place_refused b bytes n k m p, refl)

  -- the naming list: 1 to 13 of the bundle, 30 at 0, 29 at 0
  pub names_refused : (s room m p : ℕ) → (names_call first_layout b s room ≡ refused m p) ↔ NamesRefused b s room m p
  names_refused = laws.RefusedLaws.names_refused b bytes

  -- the audit: 1 to 13 of the bundle, or 29 at 0; for the lines and the tally alike
  pub audit_refused :
      (room m p : ℕ) → ((audit_call first_layout b room ≡ refused m p) ↔ AuditRefused b room m p)
      × ((tally_call first_layout b room ≡ refused m p) ↔ AuditRefused b room m p)
  audit_refused = laws.RefusedLaws.audits_refused b bytes

  -- and by the C functions: where a delivered unit stands; the tally
  pub c_unit :
      (sample unit : ℕ) {n p start size : ℕ} → ReturnedPart n p start size (place_call first_layout b sample unit) →
      PartGiven (place_call first_layout b sample unit) n p start size
  c_unit = laws.ReturnLaws.part_returned b bytes

  pub c_tally :
      (m : ℕ) {x y z : ℕ} → ReturnedTally x y z (tally_call first_layout b m) → TallyGiven (tally_call first_layout b m) x y z
  c_tally = laws.ReturnLaws.tally_returned b

-- Demand 2. The marked cases of document 01 are in specs/Table.
-- Numbers are big_endian: read from n bytes at p, and v written in n bytes
pub big_endian :
    (s : List ℕ) (p v n : ℕ) →
    (big s p 0 ≡ 0) × (big s p (suc n) ≡ big s p n * 256 + byte_at s (p + n))
    × (bytes 0 v ≡ []) × (bytes (suc n) v ≡ bytes n (v / 256) ++ (v % 256 ∷ []))
big_endian = laws.UnitLaws.big_endian

-- Records, of a kind, with fields f and sets: accepted as these exactly if the bytes are what they spell, and they are valid
module _ (f : Fields) (sequences pictures extensions : List ℕ) (kind : ℕ) where
  pub record_exactly :
      (s : List ℕ) → Bytes s → Holds kind s f sequences pictures extensions ↔ RecordOf f sequences pictures extensions kind s
  record_exactly = laws.RecordLaws.accepted_exactly f sequences pictures extensions kind

  -- and the sets stand where reading says
  pub sets_stand :
      (s : List ℕ) → Bytes s → (h : Holds kind s f sequences pictures extensions) →
      SetsStand h.found sequences pictures extensions
  sets_stand = laws.NumberLaws.sets_stand f sequences pictures extensions kind

  -- valid fields and sets, and no others, are written if there is room, as the record that they spell
  pub written_exactly :
      (room : ℕ) (s : List ℕ) → (write_record kind f sequences pictures extensions room ≡ ok s)
      ↔ (RecordOf f sequences pictures extensions kind s × (length s ≤ room))
  written_exactly = laws.RecordLaws.written_exactly f sequences pictures extensions kind

  -- given room, a record read and written again gives the same bytes in the lent buffer, and the rest of it as it was
  pub writes_back :
      (s : List ℕ) → Bytes s → Holds kind s f sequences pictures extensions → {out out₁ : List ℕ} {a : Answer ℕ} →
      Wrote out out₁ a (write_record kind f sequences pictures extensions (length out)) → length s ≤ length out →
      (a ≡ ok (length s)) × (out₁ ≡ s ++ drop (length s) out)
  writes_back s = laws.RecordLaws.written_back kind s f sequences pictures extensions

  -- a record written from valid fields reads back as them
  pub reads_back :
      (s : List ℕ) (room : ℕ) → write_record kind f sequences pictures extensions room ≡ ok s →
      Holds kind s f sequences pictures extensions
  reads_back s = cited.reads_back kind s f sequences pictures extensions

-- Records as 18 numbers, for C: exactly so, and 4, 8 to 13, 29 or 31 at 0; read and written again they give the same bytes
module _ (kind : ℕ) (s : List ℕ) (bytes : Bytes s) (room : ℕ) where
  pub numbers_read :
      ((ns : List ℕ) → (read_numbers kind s room ≡ ok ns) ↔ NumbersRead kind s room ns)
      × ((n p : ℕ) → (read_numbers kind s room ≡ refused n p) ↔ NumbersReadRefused kind s room n p)
  numbers_read = (laws.NumberLaws.numbers_read kind s bytes room, laws.NumberLaws.numbers_read_refused kind s bytes room)

module _ (kind : ℕ) (ns sequences pictures extensions : List ℕ) (room : ℕ) where
  pub numbers_written :
      ((s : List ℕ) → (write_numbers kind ns sequences pictures extensions room ≡ ok s)
      ↔ (NumbersWritten kind ns sequences pictures extensions s × (length s ≤ room)))
      × ((n p : ℕ) → (write_numbers kind ns sequences pictures extensions room ≡ refused n p)
      ↔ NumbersWriteRefused kind ns sequences pictures extensions room n p)
  numbers_written = laws.NumberLaws.numbers_exactly kind ns sequences pictures extensions room

pub c_writes_back :
    (kind : ℕ) (s ns : List ℕ) (room : ℕ) → Bytes s → read_numbers kind s room ≡ ok ns →
    {n p c : ℕ} {o o' : List ℕ} → length s ≤ length o → ReturnedOutput n p c o o'
    (write_numbers kind ns (part s (get_or ns 6 0) (get_or ns 7 0)) (part s (get_or ns 9 0) (get_or ns 10 0))
    (part s (get_or ns 16 0) (get_or ns 17 0)) (length o)) →
    (n ≡ 0) × (c ≡ length s) × (o' ≡ s ++ drop (length s) o)
c_writes_back = laws.ReturnLaws.written_back

-- Samples: of the kind and L given, well formed exactly if every unit's rules hold
pub check_exactly : (kind l : ℕ) (s : List ℕ) → (check_alone kind l s ≡ ok tt) ↔ ((x : Sample) × Given kind l s x × Formed x)
check_exactly = laws.CheckLaws.check_exactly

-- Units, in bytes and numbers: the unit at p, and where units stand, in any bytes; a well-formed sample is its units, in order
pub fields_at : (x : Sample) (p : ℕ) → FieldsAt x p
fields_at = laws.UnitLaws.fields_at

pub units_of : (x : Sample) → Formed x → UnitsOf x
units_of = laws.UnitLaws.units_of

-- Bundles: accepted exactly if the rules of the four sections hold; and then the recording is what the sections say
pub bundle_exactly : (b : List ℕ) → Bytes b → (bundle_verdict b ≡ ok tt) ↔ BundleOf b
bundle_exactly = laws.BundleLaws.accepted_exactly_if

pub bundle_means : (b : List ℕ) → Bytes b → (r : Recording) → first_layout.means b ≡ ok r → BundleOf b × Means b r
bundle_means = laws.BundleLaws.means_exactly

pub bundle_read : (b : List ℕ) → Bytes b → BundleOf b → (r : Recording) × (first_layout.means b ≡ ok r)
bundle_read = laws.BundleLaws.one_meaning

-- Of a bundle b that is accepted and means r
module _ (b : List ℕ) (bytes : Bytes b) (r : Recording) (accepted : first_layout.means b ≡ ok r) where
  module _ (n : ℕ) (some : 0 < n) (there : n ≤ sample_count r.layout) where
    -- what sample n is
    pub sample_means : SampleMeans b r n
    sample_means = laws.UnitLaws.sample_means b bytes r accepted n some there

    -- it is good exactly if it is well formed and each of its extractors names a sample and copies units of it, by the rules
    pub good_exactly :
        ((judged r n ≡ ok tt) ↔ GoodSample r n) × ((m p : ℕ) → (judged r n ≡ refused m p) ↔ SampleRefused r n m p)
    good_exactly = laws.RefusedLaws.judged_exactly b bytes r accepted n some there

    -- it is resolved exactly if it is good and there is room: to the units that it delivers, and no others, after 4-byte lengths
    pub resolved_exactly :
        (room : ℕ) (out : List ℕ) → (resolve_call first_layout b n room ≡ ok out)
        ↔ ((us : List Span) × Resolved r n us × (out ≡ each (after_length r) us) × (length out ≤ room))
    resolved_exactly = laws.CallLaws.resolved_exactly b bytes r accepted n some there

    pub delivered_one : (us vs : List Span) → Resolved r n us → Resolved r n vs → us ≡ vs
    delivered_one = laws.CallLaws.delivered_one b bytes r accepted n some there

    module _ (us : List Span) (delivers : Resolved r n us) where
      -- the call for a unit gives the kth of them, from 1
      pub unit_gives : (k : ℕ) → 0 < k → k ≤ length us → unit_call first_layout b n k ≡ ok (nth us k no_span)
      unit_gives = laws.CallLaws.unit_gives b bytes r accepted n some there us delivers

      -- and where it stands: a part of the bundle, in the own sample or one that an extractor of it names. `unit_place` fixes the
      -- part; of the part that `unit_bytes` lends only the bytes are said, which part it is is free
      pub unit_placed : (k : ℕ) → 0 < k → k ≤ length us → PlacedAt b r n k (nth us k no_span)
      unit_placed k = laws.UnitLaws.unit_placed b bytes r accepted n k us delivers

      -- a unit q that the additional_bytes of an aggregator p cover is delivered once
      pub covered_once :
          (p q : ℕ) → p ∈ top_units (sample_of r n) → type (sample_of r n) p ≡ 30 → q ∈ top_units (sample_of r n) →
          next (sample_of r n) p ≤ q → q < next (sample_of r n) p + additional_bytes (sample_of r n) p →
          (type (sample_of r n) q ≡ 31 → ⊥) →
          length (keep (λ u. (u.sample ≡? n) && (u.start ≡? q + L (sample_of r n))) us) ≡ 1
      covered_once = laws.CallLaws.covered_once b bytes r accepted n some there us delivers

  -- sample_offset is signed, and counts from the base c in the linked track k, whatever the number n of the own sample: the
  -- extractor at p stands in the list of sample c + offset for a byte 0 to 127, of c + offset - 256 for 128 to 255
  pub offset_signed :
      (n p k c m : ℕ) → LinkedTo r n p k c → (namer n p ∈ naming_list r m) ↔ (Sampled r.layout m k
      × (((sample_offset (sample_of r n) p < 128) × (m ≡ c + sample_offset (sample_of r n) p))
      ⊎ ((128 ≤ sample_offset (sample_of r n) p) × (m + 256 ≡ c + sample_offset (sample_of r n) p))))
  offset_signed = laws.SlipLaws.offset_signed b bytes r accepted

  -- an empty sample m is not the end of its track: an extractor that names it gives 26 and not 24, and the sample after it is
  -- named by the offset after, which for 255, or -1, is 0
  pub empty_counts :
      (m : ℕ) → length (content_of r m) ≡ 0 → (n p : ℕ) →
      (w : NamedBy r.layout n (track_ref_index (sample_of r n) p) (sample_offset (sample_of r n) p) m) → ExtractorFault r n p 26
      × ((o : ℕ) → (o ≡ sample_offset (sample_of r n) p + 1) ⊎ ((sample_offset (sample_of r n) p ≡ 255) × (o ≡ 0)) →
      (sample_offset (sample_of r n) p ≡ 127 → ⊥) → Sampled r.layout (m + 1) w.track →
      NamedBy r.layout n (track_ref_index (sample_of r n) p) o (m + 1))
  empty_counts = laws.SlipLaws.empty_counts r

  -- an audit call that answered a and turned out into out₁, with room for the lines
  module _
      {out out₁ : List ℕ} {a : Answer ℕ} (audited : Wrote out out₁ a (audit_call first_layout b (length out)))
      (fits : 13 * sample_count r.layout ≤ length out)
    where
      pub thirteen_each : a ≡ ok (13 * sample_count r.layout)
      thirteen_each = laws.AuditLaws.audit_count b r accepted audited fits

      -- every sample, after a blank or bad one too, has its line in its place: it is passed, empty or bad, and the line says so
      pub line_each : (n : ℕ) → 0 < n → n ≤ sample_count r.layout → SampleSays r n out₁
      line_each = laws.AuditLaws.line_each b r accepted audited fits bytes

      -- so after an empty sample n, whose line is zeros, the next one has its line
      pub empty_line :
          (n : ℕ) → 0 < n → n < sample_count r.layout → length (content_of r n) ≡ 0 →
          LineIn out₁ n 0 0 0 × SampleSays r (n + 1) out₁
      empty_line = laws.SlipLaws.empty_line b bytes r accepted audited fits

      -- the tally of the same call counts what the lines say, and adds to the sample count
      pub tally_counts : (t : Tally) × (tally_call first_layout b (length out) ≡ ok t) × TallyOf r out₁ t
      tally_counts = laws.AuditLaws.tally_done b r accepted audited fits

  -- Demand 3, of sample s.
  module _ (s : ℕ) (some : 0 < s) (there : s ≤ sample_count r.layout) where
    -- with room the naming call answers with the list, 6 bytes an extractor
    pub list_answered :
        (length (list_bytes (naming_list r s)) ≡ length (naming_list r s) * 6)
        × ((room : ℕ) → length (naming_list r s) * 6 ≤ room → names_call first_layout b s room ≡ ok (list_bytes (naming_list r s)))
    list_answered = (cited.six_bytes r s, cited.names_answers first_layout cited.sound b r accepted s some there)

    -- exactly the extractors, in well-formed samples, that name s: every one, and nothing else
    pub listed_exactly : (n p : ℕ) → (namer n p ∈ naming_list r s) ↔ NamesIt r s n p
    listed_exactly = laws.CallLaws.listed_exactly b bytes r accepted s

    -- each once
    pub listed_once : (n p : ℕ) → NamesIt r s n p → times_listed r s n p ≡ 1
    listed_once = laws.CallLaws.listed_once b bytes r accepted s

    -- in order: entry i, from 0 on, stands before every later one, j, by sample, then place
    pub listed_in_order :
        (i j : ℕ) → i < j → j < length (naming_list r s) →
        ((get_or (naming_list r s) i (namer 0 0)).sample < (get_or (naming_list r s) j (namer 0 0)).sample)
        ⊎ (((get_or (naming_list r s) i (namer 0 0)).sample ≡ (get_or (naming_list r s) j (namer 0 0)).sample)
        × ((get_or (naming_list r s) i (namer 0 0)).place < (get_or (naming_list r s) j (namer 0 0)).place))
    listed_in_order = laws.CallLaws.listed_in_order r s

    -- nothing is cut: the number and the place of entry i, from 0 on, are read from 2 and 4 bytes at 6 i
    pub list_read_back :
        (i : ℕ) → i < length (naming_list r s) →
        (big (list_bytes (naming_list r s)) (i * 6) 2 ≡ (get_or (naming_list r s) i (namer 0 0)).sample)
        × (big (list_bytes (naming_list r s)) (i * 6 + 2) 4 ≡ (get_or (naming_list r s) i (namer 0 0)).place)
    list_read_back = cited.entries_read_back first_layout cited.sound b r accepted s some there

    -- a sample without an extractor in the list: its number is read from no entry that the naming call wrote
    pub unlisted :
        {out out₁ : List ℕ} {count : ℕ} → Wrote out out₁ (ok count) (names_call first_layout b s (length out)) →
        (n : ℕ) → ((i : ℕ) → i * 6 < count → big out₁ (i * 6) 2 ≡ n → ⊥) → Unlisted r s n
    unlisted = cited.unlisted_by_call first_layout cited.sound b r accepted s some there

    -- any bytes of the same length in place of those of s
    module _ (new : List ℕ) (as_long : length new ≡ length (content_of r s)) where
      abbrev pub after : List ℕ
      after = splice b (first_layout.content_at b s) new

      pub still_accepted : (bundle_verdict after ≡ ok tt) × (first_layout.means after ≡ ok (replaced r s new))
      still_accepted = laws.OtherLaws.still_accepted b r accepted s some there new as_long

      -- the list of s is the same, taken before or after
      pub list_kept : (room : ℕ) → names_call first_layout after s room ≡ names_call first_layout b s room
      list_kept = cited.list_kept first_layout cited.sound b r accepted s some there new as_long

      module _ (n : ℕ) (other : n ≡ s → ⊥) (unlisted_before : Unlisted r s n) where
        -- two calls that resolve another sample n, with buffers of the same length: one by b that answered a and turned out into
        -- out₁, one by the bundle after
        pub others_resolve :
            {out out₁ out' out₁' : List ℕ} {a a' : Answer ℕ} → length out ≡ length out' →
            Wrote out out₁ a (resolve_call first_layout b n (length out)) →
            Wrote out' out₁' a' (resolve_call first_layout after n (length out')) → SameAnswer a a' out₁ out₁'
        others_resolve = cited.others_answer first_layout cited.sound b r accepted s some there new as_long n other unlisted_before

        -- the calls for one of its units, and for where it stands: the same unit, at the same place
        pub others_unit :
            (k : ℕ) → (unit_call first_layout after n k ≡ unit_call first_layout b n k)
            × (place_call first_layout after n k ≡ place_call first_layout b n k)
        others_unit = laws.OtherLaws.others_unit b r accepted s some there new as_long n other unlisted_before

        -- its line in two audits with room: every number in it
        pub others_line :
            {out out₁ out' out₁' : List ℕ} {a a' : Answer ℕ} →
            Wrote out out₁ a (audit_call first_layout b (length out)) →
            Wrote out' out₁' a' (audit_call first_layout after (length out')) →
            13 * sample_count r.layout ≤ length out → 13 * sample_count r.layout ≤ length out' →
            0 < n → n ≤ sample_count r.layout → (i k : ℕ) → i + k ≤ 13 →
            big out₁ (13 * (n - 1) + i) k ≡ big out₁' (13 * (n - 1) + i) k
        others_line = laws.AuditLaws.others_line b r accepted s some there new as_long n other unlisted_before
