-- The proofs of the slips of document 01 that Demands shuts out by name. Assumes nothing.
--
--   offset_signed      which samples' lists an extractor stands in: sample_offset is signed, and counts from the base
--   empty_counts       an extractor that names a sample without bytes is 26, and the sample after it can be named
--   empty_line         nor the audit
use Prim.Native.Nat.{ℕ, ◌+◌, ◌*◌, ◌≤◌, ◌<◌}
use mathlib.Core.Path.{◌≡◌, sym, ◌∙◌, subst}
use mathlib.Core.List.Memᴰ
use mathlib.Core.List.{List, []}
use mathlib.Core.Logic.{◌⊎◌, inl, inr, ◌↔◌}
use native.Mathlib.Omega.{arith}
use lib.ListN.{length}
use Rattle.words.specs.Refusals.{Answer, ok}
use Rattle.words.specs.Bytes.{Bytes}
use Rattle.words.specs.Buffers.{Wrote}
use Rattle.words.specs.Lists.{◌∈◌}
use Rattle.units.specs.Units.{top_units}
use Rattle.units.specs.Extractors.{track_ref_index, sample_offset, data_offset}
use Rattle.units.proofs.Walks.{places_end}
use Rattle.bundles.specs.Recordings.{Recording, sample_count, content_of}
use Rattle.bundles.specs.Readers.{first_layout}
use Rattle.resolution_rules.specs.Resolving.{sample_of}
use Rattle.resolution_rules.proofs.Good.{good_rules}
use Rattle.naming_list_rules.specs.Naming.{namer, naming_list}
use Rattle.audit_rules.specs.Auditing.{audit_call}
use Rattle.audit_rules.proofs.Promises.{empty_is_good}
use Rattle.promise_rules.specs.Samples.{Formed}
use Rattle.promise_rules.specs.Resolving.{Sampled, BaseOf, On, NamedBy, CopyStarts, GoodSample, NamesIt, LinkedTo}
use Rattle.promise_rules.specs.Refused.{ExtractorFault}
use Rattle.promise_rules.specs.Audits.{LineIn, SampleSays}
use Rattle.promise_rules.proofs.SampleLaws.{formed_rules}
use Rattle.promise_rules.proofs.ResolveLaws.{base_one}
use Rattle.promise_rules.proofs.CallLaws.{good_exactly, listed_exactly}
use Rattle.promise_rules.proofs.AuditLaws.{line_each}

-- the steps from a base, both ways
abbrev Steps : ℕ → ℕ → ℕ → Type 0
Steps offset c m = ((offset < 128) × (m ≡ c + offset)) ⊎ ((128 ≤ offset) × (m + 256 ≡ c + offset))

on_steps : {offset c m : ℕ} → On offset c m → Steps offset c m
on_steps (On.ahead l e) = inl (l, e)
on_steps (On.back l e) = inr (l, e)

steps_on : {offset c m : ℕ} → Steps offset c m → On offset c m
steps_on (inl w) = On.ahead w.0 w.1
steps_on (inr w) = On.back w.0 w.1

module _ (b : List ℕ) (bytes : Bytes b) (r : Recording) (accepted : first_layout.means b ≡ ok r) (n p k c m : ℕ) (w : LinkedTo r n p k c) where
  listed_steps : NamesIt r m n p → Sampled r.layout m k × Steps (sample_offset (sample_of r n) p) c m
  listed_steps v =
      let e : v.names.track ≡ k = sym v.names.reference ∙ w.reference in
      let d : v.names.base ≡ c = base_one r.layout n k v.names.base c (subst (λ (t : ℕ). BaseOf r.layout n t v.names.base) e v.names.is_base) w.base in
      (subst (Sampled r.layout m) e v.names.sample, on_steps (subst (λ (q : ℕ). On (sample_offset (sample_of r n) p) q m) d v.names.steps))

  steps_listed : Sampled r.layout m k → Steps (sample_offset (sample_of r n) p) c m → NamesIt r m n p
  steps_listed s t =
      record {
        some = w.some;
        there = w.there;
        formed = w.formed;
        unit = w.unit;
        extractor = w.extractor;
        names = record {
          track = k;
          some = w.first;
          there = w.last;
          reference = w.reference;
          base = c;
          is_base = w.base;
          steps = steps_on t;
          sample = s;
        };
      }

  pub offset_signed : (namer n p ∈ naming_list r m) ↔ (Sampled r.layout m k × Steps (sample_offset (sample_of r n) p) c m)
  offset_signed =
      let e = listed_exactly b bytes r accepted m n p in
      (λ l. listed_steps (e.0 l), λ v. e.1 (steps_listed v.0 v.1))

-- by the offset after that of m: of 255, which is -1, that is 0
abbrev After : ℕ → ℕ → Type 0
After offset next = (next ≡ offset + 1) ⊎ ((offset ≡ 255) × (next ≡ 0))

on_next : {offset next c m : ℕ} → After offset next → (offset ≡ 127 → ⊥) → On offset c m → On next c (m + 1)
on_next {offset} {next} (inl e) h (On.ahead l f) =
    let z : next < 128 = below offset next l e h in On.ahead z (omega arith)
  where
    below : (o n : ℕ) → o < 128 → n ≡ o + 1 → (o ≡ 127 → ⊥) → n < 128
    below o n l e h = omega arith
on_next (inl e) h (On.back l f) = On.back (omega arith) (omega arith)
on_next (inr w) h (On.ahead l f) = let z = w.0 in absurd (omega arith)
on_next (inr w) h (On.back l f) = let z = w.0 in let y = w.1 in On.ahead (omega arith) (omega arith)

-- a sample without bytes
module _ (r : Recording) (m : ℕ) (empty : length (content_of r m) ≡ 0) where
  empty_formed : Formed (sample_of r m)
  empty_formed = formed_rules (sample_of r m) (good_rules r m (empty_is_good r m empty).0).formed

  empty_units : top_units (sample_of r m) ≡ []
  unfolding top_units sample_of
  empty_units = places_end (sample_of r m) 0 (length (content_of r m)) (omega arith)

  no_unit : (o : ℕ) → o ∈ top_units (sample_of r m) → ⊥
  no_unit o k = Memᴰ.not-nil (subst (λ (us : List ℕ). o ∈ us) empty_units k)

  nothing_there : (o : ℕ) → CopyStarts (sample_of r m) o → ⊥
  nothing_there o (CopyStarts.top k) = no_unit o k
  nothing_there o (CopyStarts.inside p k t j) = no_unit p k

  pub empty_counts :
      (n p : ℕ) (w : NamedBy r.layout n (track_ref_index (sample_of r n) p) (sample_offset (sample_of r n) p) m) →
      ExtractorFault r n p 26
      × ((next : ℕ) → After (sample_offset (sample_of r n) p) next → (sample_offset (sample_of r n) p ≡ 127 → ⊥) →
      Sampled r.layout (m + 1) w.track → NamedBy r.layout n (track_ref_index (sample_of r n) p) next (m + 1))
  empty_counts n p w = (
    ExtractorFault.start m w empty_formed (nothing_there (data_offset (sample_of r n) p)),
    λ next a h s.
        record {
          track = w.track;
          some = w.some;
          there = w.there;
          reference = w.reference;
          base = w.base;
          is_base = w.is_base;
          steps = on_next a h w.steps;
          sample = s;
        },
  )

-- its line, and the next
empty_says : {r : Recording} {n : ℕ} {out : List ℕ} → length (content_of r n) ≡ 0 → GoodSample r n → SampleSays r n out → LineIn out n 0 0 0
empty_says z g (SampleSays.passed l us w v) = absurd (omega arith)
empty_says z g (SampleSays.empty e v) = v
empty_says z g (SampleSays.bad m p broken w v) = absurd (broken g)

module _
    (b : List ℕ) (bytes : Bytes b) (r : Recording) (accepted : first_layout.means b ≡ ok r)
    {out out₁ : List ℕ} {a : Answer ℕ} (audited : Wrote out out₁ a (audit_call first_layout b (length out)))
    (fits : 13 * sample_count r.layout ≤ length out)
  where
    pub empty_line : (n : ℕ) → 0 < n → n < sample_count r.layout → length (content_of r n) ≡ 0 → LineIn out₁ n 0 0 0 × SampleSays r (n + 1) out₁
    empty_line n h l z = (
      empty_says z ((good_exactly b bytes r accepted n h (omega arith)).0 (empty_is_good r n z).0) (line_each b r accepted audited fits bytes n h (omega arith)),
      line_each b r accepted audited fits bytes (n + 1) (omega arith) (omega arith),
    )
