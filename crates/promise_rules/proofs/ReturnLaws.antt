-- The proofs of what Demands says of the C functions. Assumes nothing.
use Rattle.std.specs.Prelude.{None, Option, Some}
use Prim.Native.Nat.{ℕ, suc, ◌≤◌}
use mathlib.Core.Path.{◌≡◌, refl, sym, ◌∙◌, subst}
use mathlib.Core.Bool.{true}
use mathlib.Core.List.Memᴰ
use mathlib.Core.List.{List, [], ◌∷◌, ◌++◌, map}
use mathlib.Core.Logic.{◌⊎◌, inl, inr, ⊎_elim}
use native.Mathlib.Omega.{arith}
use lib.ListN.{length, get_or, drop}
use Rattle.words.specs.Tests.{◌<?◌, ◌≡?◌}
use Rattle.words.specs.Refusals.{Answer, refused, ok, Verdict}
use Rattle.words.specs.RefusalNumbers.{fields_fit_no_record, record_refusals, bundle_refusals, form_refusals, extractor_refusals, sample_refusals, refusal_numbers}
use Rattle.words.specs.Lists.{◌∈◌, some}
use Rattle.words.specs.Bytes.{Bytes, part}
use Rattle.words.specs.Buffers.{within, leaves, overwrite, Wrote}
use Rattle.words.proofs.Tests.{by_bool, by_number}
use Rattle.words.proofs.Refusals.{ok_refused, refused_same, NoneOr, none_or_if, none_or_or_else, none_or_some}
use Rattle.words.proofs.Lists.{has_from}
use Rattle.numbers.specs.Kinds.{number_of_kind, kind_of}
use Rattle.numbers.specs.declared.Kind.{Kind}
use Rattle.record_rules.specs.Read.{read_record}
use Rattle.record_rules.specs.declared.Record.{Record}
use Rattle.record_numbers.specs.Numbers.{numbers_of, as_numbers, read_numbers, ◌at◌, flag_most, numbers_fault, fields_from, write_numbers_as, write_numbers}
use Rattle.record_numbers.specs.Indices.{number_count, complete_representation, trailer, trailer_present}
use Rattle.record_numbers.proofs.Promise as numbered
use Rattle.units.specs.Units.{Sample}
use Rattle.samples.proofs.Laws.{check_refusals}
use Rattle.bundles.specs.Recordings.{Recording}
use Rattle.bundles.proofs.Promises.{refusals_within}
use Rattle.bundles.specs.Readers.{first_layout}
use Rattle.resolution_rules.specs.Resolving.{sample_of}
use Rattle.bundles.specs.Parts.{BundlePart}
use Rattle.resolution_rules.specs.Calls.{place_call, named_call}
use Rattle.contents.specs.Contents.{counts_call, track_call, reference_call, sample_call}
use Rattle.tally.specs.declared.Tally.{Tally}
use Rattle.audit_rules.specs.Auditing.{tally_call}
use Rattle.puddockle.specs.Returns.{told, Returned, ReturnedOutput, ReturnedPart, ReturnedTally}
use Rattle.puddockle.specs.Returns.{ReturnedCounts, ReturnedTrack, ReturnedReference, ReturnedSample, ReturnedNamed}
use Rattle.promise_rules.specs.Records.{WriteRefused}
use Rattle.promise_rules.specs.SampleFaults.{FormRefused}
use Rattle.promise_rules.specs.BundleFaults.{BundleRefused}
use Rattle.promise_rules.specs.Refused.{CheckRefused, ExtractorFault, SampleRefused, ResolveRefused, UnitRefused, NamesRefused, AuditRefused}
use Rattle.promise_rules.specs.Returns.{OutputAnswer, VerdictAnswer, OutputGiven, NumbersGiven, VerdictGiven, PartGiven, TallyGiven, ValuesGiven}
use Rattle.promise_rules.specs.Contents.{NumberRefused, UnitsRefused, NamedRefused}
use Rattle.promise_rules.specs.Streams.{StreamRefused, FromStreamRefused}
use Rattle.promise_rules.proofs.ContentLaws as contents
use Rattle.promise_rules.proofs.StandLaws.{units_refused}
use Rattle.promise_rules.proofs.NamedLaws.{named_refused}
use Rattle.promise_rules.proofs.StreamLaws.{stream_refused}
use Rattle.promise_rules.proofs.FromStreamLaws.{fault_place, from_stream_refused}
use Rattle.promise_rules.proofs.RecordLaws as records
use Rattle.promise_rules.proofs.SampleFaultLaws.{by_form}
use Rattle.promise_rules.proofs.BundleFaultLaws.{by_bundle}
use Rattle.promise_rules.proofs.RefusedLaws as refusals
use Rattle.promise_rules.proofs.CheckLaws as checks

-- a number of the table
pub in_table : (m : ℕ) → some (λ k. m ≡? k) refusal_numbers ≡ true → m ∈ refusal_numbers
in_table m e = has_from m refusal_numbers e

of_bundle : {m : ℕ} → m ∈ bundle_refusals → m ∈ refusal_numbers
of_bundle k = Memᴰ.append_left _ k

of_sample : {m : ℕ} → m ∈ sample_refusals → m ∈ refusal_numbers
of_sample k = Memᴰ.append_right bundle_refusals (Memᴰ.append_left _ k)

of_form : {m : ℕ} → m ∈ form_refusals → m ∈ refusal_numbers
of_form k = of_sample (Memᴰ.append_left extractor_refusals k)

of_record : {m : ℕ} → m ∈ record_refusals → m ∈ refusal_numbers
of_record k = of_bundle (Memᴰ.append_right (1 ∷ 2 ∷ 3 ∷ 4 ∷ 5 ∷ 6 ∷ 7 ∷ []) k)

-- by each call
form_number : (x : Sample) {m p : ℕ} → FormRefused x m p → m ∈ refusal_numbers
form_number x {m} {p} w = of_form (check_refusals x m p (by_form x w)).0

extractor_number : {r : Recording} {n p m : ℕ} → ExtractorFault r n p m → m ∈ refusal_numbers
unfolding some
extractor_number (ExtractorFault.index h) = in_table 23 refl
extractor_number (ExtractorFault.name h l z) = in_table 24 refl
extractor_number (ExtractorFault.form k w z) = in_table 25 refl
extractor_number (ExtractorFault.start k w f z) = in_table 26 refl
extractor_number (ExtractorFault.end k e w f s c z) = in_table 27 refl
extractor_number (ExtractorFault.chain k e q w f c d u a l t) = in_table 28 refl

sample_number : {r : Recording} {n m p : ℕ} → SampleRefused r n m p → m ∈ refusal_numbers
sample_number {r} {n} (SampleRefused.form h l w) = form_number (sample_of r n) w
sample_number (SampleRefused.extractor h l w) = extractor_number w.fault

pub bundle_number : (b : List ℕ) → Bytes b → {m p : ℕ} → BundleRefused b m p → m ∈ refusal_numbers
bundle_number b g {m} {p} w = of_bundle (refusals_within b m p (by_bundle b g w)).number

resolve_number : (b : List ℕ) → Bytes b → {n room m p : ℕ} → ResolveRefused b n room m p → m ∈ refusal_numbers
unfolding some
resolve_number b g (ResolveRefused.bundle w) = bundle_number b g w
resolve_number b g (ResolveRefused.number r e h) = in_table 30 refl
resolve_number b g (ResolveRefused.sample r e w) = sample_number w
resolve_number b g (ResolveRefused.room r us e w h) = in_table 29 refl

stream_number : (b : List ℕ) → Bytes b → {n room m p : ℕ} → StreamRefused b n room m p → m ∈ refusal_numbers
unfolding some
stream_number b g (StreamRefused.bundle w) = bundle_number b g w
stream_number b g (StreamRefused.number r e h) = in_table 30 refl
stream_number b g (StreamRefused.sample r e w) = sample_number w
stream_number b g (StreamRefused.unit r us u vs e w h z) = in_table 32 refl
stream_number b g (StreamRefused.room r us e w h l) = in_table 29 refl

from_stream_number : {n : ℕ} {s : List ℕ} {room m p : ℕ} → FromStreamRefused n s room m p → m ∈ refusal_numbers
unfolding some
from_stream_number (FromStreamRefused.size h) = in_table 11 refl
from_stream_number {n} {s} (FromStreamRefused.fault {m} {p} i f) = number (fault_place n s m p f.fault).0
  where
    number : (m ≡ 33) ⊎ (m ≡ 34) → m ∈ refusal_numbers
    number (inl e) = subst (λ (k : ℕ). k ∈ refusal_numbers) (sym e) (in_table 33 refl)
    number (inr e) = subst (λ (k : ℕ). k ∈ refusal_numbers) (sym e) (in_table 34 refl)
from_stream_number (FromStreamRefused.room us w l) = in_table 29 refl

unit_number : (b : List ℕ) → Bytes b → {n k m p : ℕ} → UnitRefused b n k m p → m ∈ refusal_numbers
unfolding some
unit_number b g (UnitRefused.bundle w) = bundle_number b g w
unit_number b g (UnitRefused.number r e h) = in_table 30 refl
unit_number b g (UnitRefused.sample r e w) = sample_number w
unit_number b g (UnitRefused.unit r us e w h) = in_table 30 refl

names_number : (b : List ℕ) → Bytes b → {s room m p : ℕ} → NamesRefused b s room m p → m ∈ refusal_numbers
unfolding some
names_number b g (NamesRefused.bundle w) = bundle_number b g w
names_number b g (NamesRefused.number r e h) = in_table 30 refl
names_number b g (NamesRefused.room r e h l w) = in_table 29 refl

audit_number : (b : List ℕ) → Bytes b → {room m p : ℕ} → AuditRefused b room m p → m ∈ refusal_numbers
unfolding some
audit_number b g (AuditRefused.bundle w) = bundle_number b g w
audit_number b g (AuditRefused.room r e h) = in_table 29 refl

units_number : (b : List ℕ) → Bytes b → {n room m p : ℕ} → UnitsRefused b n room m p → m ∈ refusal_numbers
unfolding some
units_number b g (UnitsRefused.bundle w) = bundle_number b g w
units_number b g (UnitsRefused.number r e h) = in_table 30 refl
units_number b g (UnitsRefused.sample r e w) = sample_number w
units_number b g (UnitsRefused.room r us e w h) = in_table 29 refl

entry_number : (b : List ℕ) → Bytes b → {count n m p : ℕ} → NumberRefused b count n m p → m ∈ refusal_numbers
unfolding some
entry_number b g (NumberRefused.bundle w) = bundle_number b g w
entry_number b g (NumberRefused.number v h) = in_table 30 refl

named_number : (b : List ℕ) → Bytes b → {n p m q : ℕ} → NamedRefused b n p m q → m ∈ refusal_numbers
unfolding some
named_number b g (NamedRefused.bundle w) = bundle_number b g w
named_number b g (NamedRefused.number r e h) = in_table 30 refl
named_number b g {n} (NamedRefused.form r e h l w) = form_number (sample_of r n) w
named_number b g (NamedRefused.none r e h l v z) = in_table 30 refl
named_number b g (NamedRefused.extractor r e h l v u t w k) = extractor_number w

check_number : {kind l : ℕ} {s : List ℕ} {m p : ℕ} → CheckRefused kind l s m p → m ∈ refusal_numbers
unfolding some
check_number (CheckRefused.kind a c) = in_table 4 refl
check_number (CheckRefused.size h u) = in_table 11 refl
check_number (CheckRefused.form x g w) = form_number x w

read_number : {m : ℕ} → (m ≡ 4) ⊎ (m ∈ record_refusals) → m ∈ refusal_numbers
unfolding some
read_number (inl e) = rw e (in_table 4 refl)
read_number (inr k) = of_record k

write_number : {kind : ℕ} {f : _} {a c x : List ℕ} {room m p : ℕ} → WriteRefused kind f a c x room m p → m ∈ refusal_numbers
unfolding some
write_number (WriteRefused.kind a c) = in_table 4 refl
write_number (WriteRefused.fields h z) = in_table 31 refl
write_number (WriteRefused.room s w h) = in_table 29 refl

-- records as numbers
read_within : (kind : ℕ) (s : List ℕ) (room : ℕ) (a : Answer Record) → read_record kind s ≡ a → {m p : ℕ} → within room (as_numbers a) ≡ refused m p → m ∈ refusal_numbers
unfolding some
read_within kind s room (refused n q) r {m} {p} e = subst (λ (k : ℕ). k ∈ refusal_numbers) (refused_same e).0 (read_number (records.read_number kind s r))
read_within kind s room (ok x) r {m} {p} e = by_bool (room <? length (numbers_of x))
    (λ t. subst (λ (k : ℕ). k ∈ refusal_numbers) (refused_same (rw t at e)).0 (in_table 29 refl))
    (λ t. ok_refused (sym (rw t at e)))

read_numbers_lem : (kind : ℕ) (s : List ℕ) (room : ℕ) {m p : ℕ} → read_numbers kind s room ≡ refused m p → m ∈ refusal_numbers
unfolding read_numbers
read_numbers_lem kind s room e = read_within kind s room (read_record kind s) refl e

pub fault_31 : (k : Kind) (ns : List ℕ) → NoneOr (31 ∷ []) (numbers_fault k ns)
unfolding numbers_fault some
fault_31 k ns = none_or_or_else (31 ∷ []) _ _ (none_or_if (31 ∷ []) fields_fit_no_record (length ns <? number_count) (has_from _ _ refl))
    (none_or_or_else (31 ∷ []) _ _ (none_or_if (31 ∷ []) fields_fit_no_record (flag_most k <? ns at complete_representation) (has_from _ _ refl))
    (none_or_if (31 ∷ []) fields_fit_no_record (trailer_present <? ns at trailer) (has_from _ _ refl)))

pub write_fault : (kind : ℕ) (k : Kind) (ns a c x : List ℕ) (room n : ℕ) → kind_of kind ≡ Some k → numbers_fault k ns ≡ suc n → write_numbers kind ns a c x room ≡ refused (suc n) 0
unfolding write_numbers write_numbers_as
write_fault kind k ns a c x room n q e = rw (q, e)

pub write_unknown : (kind : ℕ) (ns a c x : List ℕ) (room : ℕ) → kind_of kind ≡ None → write_numbers kind ns a c x room ≡ refused 4 0
unfolding write_numbers
write_unknown kind ns a c x room q = rw q

write_by : (kind : ℕ) (ns a c x : List ℕ) (room : ℕ) (k : Option Kind) → kind_of kind ≡ k → {m p : ℕ} → write_numbers kind ns a c x room ≡ refused m p → m ∈ refusal_numbers
unfolding some
write_by kind ns a c x room (Some k) q {m} {p} e = by_number (numbers_fault k ns)
    (λ z. write_number ((records.write_refused_exactly (fields_from k ns) a c x kind room m p).0 (sym (numbered.write_known kind k ns a c x room q z) ∙ e)))
    (λ n z.
    let w : suc n ∈ (31 ∷ []) = subst (λ (j : ℕ). j ∈ (31 ∷ [])) z (none_or_some (31 ∷ []) (fault_31 k ns) (omega arith)) in
    subst (λ (j : ℕ). j ∈ refusal_numbers) (refused_same (sym (write_fault kind k ns a c x room n q z) ∙ e)).0 (subst (λ (j : ℕ). j ∈ refusal_numbers) (sym (Memᴰ.eq_of_singleton w)) (in_table 31 refl)))
write_by kind ns a c x room None q {m} {p} e = subst (λ (j : ℕ). j ∈ refusal_numbers) (refused_same (sym (write_unknown kind ns a c x room q) ∙ e)).0 (in_table 4 refl)

output_number : (o : List ℕ) {a : Answer (List ℕ)} → OutputAnswer o a → (m p : ℕ) → a ≡ refused m p → m ∈ refusal_numbers
output_number o (OutputAnswer.write kind ns a c x) m p e = write_by kind ns a c x (length o) (kind_of kind) refl e
output_number o (OutputAnswer.resolve b g n) m p e = resolve_number b g ((refusals.resolve_refused b g n (length o) m p).0 e)
output_number o (OutputAnswer.names b g s) m p e = names_number b g ((refusals.names_refused b g s (length o) m p).0 e)
output_number o (OutputAnswer.audit b g) m p e = audit_number b g ((refusals.audit_refused b g (length o) m p).0 e)
output_number o (OutputAnswer.units b g n) m p e = units_number b g ((units_refused b g n (length o) m p).0 e)
output_number o (OutputAnswer.stream b g n) m p e = stream_number b g ((stream_refused b g n (length o) m p).0 e)
output_number o (OutputAnswer.from_stream n s) m p e = from_stream_number ((from_stream_refused n s (length o) m p).0 e)

verdict_number : {a : Verdict} → VerdictAnswer a → (m p : ℕ) → a ≡ refused m p → m ∈ refusal_numbers
verdict_number (VerdictAnswer.bundle b) m p e = of_bundle (refusals_within b m p e).number
verdict_number (VerdictAnswer.sample kind l s) m p e = check_number ((checks.check_refused kind l s m p).0 e)

-- what was returned, by the answer
output_by :
    (a : Answer (List ℕ)) → ((m q : ℕ) → a ≡ refused m q → m ∈ refusal_numbers) → {n p c : ℕ} {o o' : List ℕ} → ReturnedOutput n p c o o' a →
    OutputGiven a o n p c o'
unfolding overwrite
output_by (refused m q) h w =
    let e = w.returned.number in let f = w.returned.place in let g = w.count in let k = w.buffer in
    rw (e, f, g, k) (OutputGiven.refuses (h m q refl) refl)
output_by (ok out) h w =
    let e = w.returned.number in let f = w.returned.place in let g = w.count in let k = w.buffer in
    rw (e, f, g, k) (OutputGiven.accepted out refl)

pub output_returned :
    {o : List ℕ} {a : Answer (List ℕ)} → OutputAnswer o a → {n p c : ℕ} {o' : List ℕ} → ReturnedOutput n p c o o' a → OutputGiven a o n p c o'
output_returned {o = o} {a = a} w r = output_by a (output_number o w) r

read_by :
    (a : Answer (List ℕ)) → ((m q : ℕ) → a ≡ refused m q → m ∈ refusal_numbers) → {n p : ℕ} {o o' : List ℕ} → Returned n p a → o' ≡ leaves o a →
    NumbersGiven a o n p o'
unfolding overwrite
read_by (refused m q) h w k = let e = w.number in let f = w.place in rw (e, f, k) (NumbersGiven.refuses (h m q refl) refl)
read_by (ok ns) h w k = let e = w.number in let f = w.place in rw (e, f, k) (NumbersGiven.accepted ns refl)

pub read_returned :
    (kind : ℕ) (s : List ℕ) {n p : ℕ} {o o' : List ℕ} →
    Returned n p (read_numbers kind s (length o)) → o' ≡ leaves o (read_numbers kind s (length o)) →
    NumbersGiven (read_numbers kind s (length o)) o n p o'
read_returned kind s {o = o} w k = read_by (read_numbers kind s (length o)) (λ m q e. read_numbers_lem kind s (length o) e) w k

-- a record read and written again
pub written_back :
    (kind : ℕ) (s ns : List ℕ) (room : ℕ) → Bytes s → read_numbers kind s room ≡ ok ns → {n p c : ℕ} {o o' : List ℕ} → length s ≤ length o →
    ReturnedOutput n p c o o' (write_numbers kind ns (part s (get_or ns 6 0) (get_or ns 7 0)) (part s (get_or ns 9 0) (get_or ns 10 0)) (part s (get_or ns 16 0) (get_or ns 17 0)) (length o)) →
    (n ≡ 0) × (c ≡ length s) × (o' ≡ s ++ drop (length s) o)
unfolding overwrite
written_back kind s ns room g e {n} {p} {c} {o} {o'} l w =
    let f = numbered.writes_back kind s ns room (length o) g e l in
    let v : ReturnedOutput n p c o o' (ok s) = subst (ReturnedOutput n p c o o') f w in
    (v.returned.number, v.count, v.buffer)

verdict_by : (a : Verdict) → ((m q : ℕ) → a ≡ refused m q → m ∈ refusal_numbers) → {n p : ℕ} → Returned n p a → VerdictGiven a n p
verdict_by (refused m q) h w = let e = w.number in let f = w.place in rw (e, f) (VerdictGiven.refuses (h m q refl) refl)
verdict_by (ok u) h w = let e = w.number in let f = w.place in rw (e, f) (VerdictGiven.accepted refl)

pub verdict_returned : {a : Verdict} → VerdictAnswer a → {n p : ℕ} → Returned n p a → VerdictGiven a n p
verdict_returned {a = a} w r = verdict_by a (verdict_number w) r

part_by :
    (a : Answer BundlePart) → ((m q : ℕ) → a ≡ refused m q → m ∈ refusal_numbers) → {n p start size : ℕ} → ReturnedPart n p start size a →
    PartGiven a n p start size
part_by (refused m q) h w =
    let e = w.returned.number in let f = w.returned.place in let g = w.starts in let k = w.sizes in
    rw (e, f, g, k) (PartGiven.refuses (h m q refl) refl)
part_by (ok u) h w =
    let e = w.returned.number in let f = w.returned.place in let g = w.starts in let k = w.sizes in
    rw (e, f, g, k) (PartGiven.accepted u.start u.size refl)

pub part_returned :
    (b : List ℕ) → Bytes b → (sample unit : ℕ) {n p start size : ℕ} → ReturnedPart n p start size (place_call first_layout b sample unit) →
    PartGiven (place_call first_layout b sample unit) n p start size
part_returned b g sample unit r =
    part_by (place_call first_layout b sample unit) (λ m q e. unit_number b g ((refusals.place_refused b g sample unit m q).0 e)) r

tally_by : (a : Answer Tally) {x y z : ℕ} → ReturnedTally x y z a → TallyGiven a x y z
tally_by (refused m q) w = let e = w.passed in let f = w.empty in let h = w.refused in rw (e, f, h) (TallyGiven.refuses {n = m} {p = q} refl)
tally_by (ok t) w =
    let e = w.passed in let f = w.empty in let h = w.refused in rw (e, f, h) (TallyGiven.accepted t.passed t.empty t.refused refl)

pub tally_returned :
    (b : List ℕ) (room : ℕ) {x y z : ℕ} → ReturnedTally x y z (tally_call first_layout b room) → TallyGiven (tally_call first_layout b room) x y z
tally_returned b room r = tally_by (tally_call first_layout b room) r

-- numbers that an answer tells
zeros : {A : Type 0} (fs : List (A → ℕ)) (n p : ℕ) (v : ℕ) → v ∈ map (λ f. told f (refused n p)) fs → v ≡ 0
zeros [] n p v m = absurd (Memᴰ.not-nil m)
zeros (f ∷ fs) n p v m = ⊎_elim (λ e. e) (λ k. zeros fs n p v k) (Memᴰ.cases_cons m)

told_by :
    {A : Type 0} (fs : List (A → ℕ)) (a : Answer A) → ((m q : ℕ) → a ≡ refused m q → m ∈ refusal_numbers) → {n p : ℕ} → Returned n p a →
    ValuesGiven a (λ x. map (λ f. f x) fs) n p (map (λ f. told f a) fs)
told_by fs (refused m q) h w = let e = w.number in let f = w.place in rw (e, f) (ValuesGiven.refuses (h m q refl) refl (zeros fs m q))
told_by fs (ok x) h w = let e = w.number in let f = w.place in rw (e, f) (ValuesGiven.accepted x refl)

module _ (b : List ℕ) (g : Bytes b) where
  pub counts_returned :
      {n p x y z : ℕ} → ReturnedCounts n p x y z (counts_call first_layout b) →
      ValuesGiven (counts_call first_layout b) (λ c. c.tracks ∷ c.references ∷ c.samples ∷ []) n p (x ∷ y ∷ z ∷ [])
  counts_returned w =
      let e = w.tracks in let f = w.references in let h = w.samples in
      rw (e, f, h) (told_by ((λ c. c.tracks) ∷ (λ c. c.references) ∷ (λ c. c.samples) ∷ []) (counts_call first_layout b)
      (λ m q k. bundle_number b g ((contents.counts_refused b g m q).0 k)) w.returned)

  pub track_returned :
      (k : ℕ) {n p x y z : ℕ} → ReturnedTrack n p x y z (track_call first_layout b k) →
      ValuesGiven (track_call first_layout b k) (λ e. number_of_kind e.kind ∷ e.stands.start ∷ e.stands.size ∷ []) n p (x ∷ y ∷ z ∷ [])
  track_returned k w =
      let e = w.kinds in let f = w.starts in let h = w.sizes in
      rw (e, f, h) (told_by ((λ e. number_of_kind e.kind) ∷ (λ e. e.stands.start) ∷ (λ e. e.stands.size) ∷ []) (track_call first_layout b k)
      (λ m q v. entry_number b g ((contents.track_refused b g k m q).0 v)) w.returned)

  pub reference_returned :
      (i : ℕ) {n p x y : ℕ} → ReturnedReference n p x y (reference_call first_layout b i) →
      ValuesGiven (reference_call first_layout b i) (λ f. f.from ∷ f.to ∷ []) n p (x ∷ y ∷ [])
  reference_returned i w =
      let e = w.from in let f = w.to in
      rw (e, f) (told_by ((λ f. f.from) ∷ (λ f. f.to) ∷ []) (reference_call first_layout b i)
      (λ m q v. entry_number b g ((contents.reference_refused b g i m q).0 v)) w.returned)

  pub sample_returned :
      (s : ℕ) {n p w x y z : ℕ} → ReturnedSample n p w x y z (sample_call first_layout b s) →
      ValuesGiven (sample_call first_layout b s) (λ e. e.track ∷ e.time ∷ e.stands.start ∷ e.stands.size ∷ []) n p (w ∷ x ∷ y ∷ z ∷ [])
  sample_returned s r =
      let e = r.tracks in let f = r.times in let h = r.starts in let k = r.sizes in
      rw (e, f, h, k) (told_by ((λ e. e.track) ∷ (λ e. e.time) ∷ (λ e. e.stands.start) ∷ (λ e. e.stands.size) ∷ []) (sample_call first_layout b s)
      (λ m q v. entry_number b g ((contents.sample_refused b g s m q).0 v)) r.returned)

  pub named_returned :
      (s q : ℕ) {n p x : ℕ} → ReturnedNamed n p x (named_call first_layout b s q) → ValuesGiven (named_call first_layout b s q) (λ m. m ∷ []) n p (x ∷ [])
  named_returned s q w =
      let e = w.names in
      rw e (told_by ((λ m. m) ∷ []) (named_call first_layout b s q) (λ m j v. named_number b g ((named_refused b g s q m j).0 v)) w.returned)

-- what a call that wrote leaves
pub answer_leaves : {out out₁ x : List ℕ} {a : Answer ℕ} → Wrote out out₁ a (ok x) → (a ≡ ok (length x)) × (out₁ ≡ x ++ drop (length x) out)
unfolding overwrite
answer_leaves w = (w.answer, w.buffer)
