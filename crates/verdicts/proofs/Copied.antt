-- What an extractor copies, counted. Assumes nothing.
--
--   amount_ill                                         25
--   amount_few                                         no more units and bytes than the sample has
--   extract_refused, extract_named                     23, 24; what is copied of the sample named
--   CopyIs, is_refused_lem, is_good, extractor_amount  the extractor at p: its refusal, or how much it copies
use Rattle.std.specs.Prelude.{Err, Ok, Result}
use Prim.Native.Nat.{ℕ, ◌+◌, ◌≤◌, ◌<◌}
use mathlib.Core.Path.{◌≡◌, refl, sym, ◌∙◌}
use mathlib.Core.List.{List, [], ◌∷◌, map, Memᴰ}
use native.Mathlib.Omega.{arith}
use borrow.Author.Tests.{ne_eqb, eqb-true, eqb-false}
use lib.ListN.{length, length-map}
use Rattle.words.specs.Tests.{◌≡?◌, pick}
use Rattle.words.specs.Refusals.{ok, refused}
use Rattle.words.specs.RefusalNumbers.{named_ill_formed}
use Rattle.words.specs.Lists.{sum}
use Rattle.words.proofs.Tests.{by_bool, by_number}
use Rattle.units.specs.Units.{Sample, L, end, size}
use Rattle.units.specs.Extractors.{data_offset, data_length}
use Rattle.units.specs.Aggregators.{extractors}
use Rattle.units.specs.Steps.{extractor_of, extractor_at}
use Rattle.units.specs.declared.Extractor as fields
use Rattle.samples.specs.Check.{check}
use Rattle.samples.proofs.Laws.{extractor_step}
use Rattle.bundles.specs.Recordings.{Recording}
use Rattle.links.specs.Named.{naming}
use Rattle.links.proofs.Naming.{naming_refused, naming_sample}
use Rattle.numbers.specs.declared.SampleNumber.{SampleNumber}
use Rattle.copies.specs.Copies.{copied, copy_fault}
use Rattle.copies.proofs.Answers.{copy_ill}
use Rattle.copies.proofs.Copied.{copy_rules, copied_count}
use Rattle.copies.proofs.Sizes.{copied_size_lem}
use Rattle.resolution_rules.specs.Resolving.{sample_of, span_of, own, named, linked, name_fault_at, copy_fault_at, extract_fault, copied_at}
use Rattle.resolution_rules.specs.Amounts.{total_size}
use Rattle.mark_rules.specs.declared.CopyAmount.{CopyAmount}
use Rattle.mark_rules.specs.Amounts.{copy_amount}
use Rattle.mark_rules.proofs.Copying.{amount_refused, amount_units}
use Rattle.verdicts.specs.Amounts.{extract_amount, amount_by}

pub amount_ill : (z : Sample) (o n : ℕ) {m p : ℕ} → check z ≡ refused m p → Err named_ill_formed ≡ copy_amount z o n
unfolding copy_amount
amount_ill z o n e = let f = copy_ill z o n e in rw (f)

sizes_less : (z : Sample) (qs : List ℕ) → sum (map (size z) qs) ≤ sum (map (λ q. L z + size z q) qs)
unfolding sum
sizes_less z [] = omega arith
sizes_less z (q ∷ qs) = let below = sizes_less z qs in omega arith

pub record Few (most count bytes : ℕ) : Type 0 where
  pub count_few : count ≤ most
  pub bytes_few : bytes ≤ most

amount_few : (z : Sample) (o n : ℕ) → copy_fault z o n ≡ 0 → Few (end z) (length (copied z o n)) (sum (map (size z) (copied z o n)))
amount_few z o n h =
    let c = copy_rules z o n h in
    let s = copied_size_lem z o n c in
    let l = sizes_less z (copied z o n) in
    record { count_few = copied_count z o n c.formed; bytes_few = omega arith }

module _ (r : Recording) (n : ℕ) (f : fields.Extractor) where
  pub extract_refused : {fault : ℕ} → naming r.layout n f.track_ref_index f.sample_offset ≡ Err fault → Err fault ≡ extract_amount r n f
  unfolding extract_amount
  extract_refused {fault} e = let w = naming_refused r.layout n f.track_ref_index f.sample_offset e in rw (w.0, ne_eqb fault 0 (λ z. omega (arith, w.1)))

  pub extract_named : {m : SampleNumber} → naming r.layout n f.track_ref_index f.sample_offset ≡ Ok m → copy_amount (sample_of r m.0) f.data_offset.0 f.data_length ≡ extract_amount r n f
  unfolding extract_amount
  extract_named e = let w = naming_sample r.layout n f.track_ref_index f.sample_offset e in rw (w.0, w.1)

-- the bytes of copied units
spans_size : (m : ℕ) (z : Sample) (qs : List ℕ) → total_size (map (span_of m z) qs) ≡ sum (map (size z) qs)
unfolding total_size sum
spans_size m z [] = refl
spans_size m z (q ∷ qs) = let below = spans_size m z qs in omega arith

-- The extractor at p: what an answer of the code says of it.
pub data CopyIs (r : Recording) (n p most : ℕ) : Result CopyAmount ℕ → Type 0 where
  faulty : (f : ℕ) → extract_fault r n p ≡ f → 0 < f → CopyIs r n p most (Err f)
  good : (a : CopyAmount) → extract_fault r n p ≡ 0 → a.count ≡ length (copied_at r n p) → a.bytes ≡ total_size (copied_at r n p) → Few most a.count a.bytes → CopyIs r n p most (Ok a)

module _ (r : Recording) (n p most : ℕ) where
  refused_case : (k : Result CopyAmount ℕ) → CopyIs r n p most k → {f : ℕ} → k ≡ Err f → (extract_fault r n p ≡ f) × (0 < f)
  refused_case k (CopyIs.faulty g e z) {f} i = let s : g ≡ f = cc in (e ∙ s, omega arith)
  refused_case k (CopyIs.good a e u v w) {f} i = let s : ◌≡◌ {A = ℕ} 0 1 = cc in absurd (omega arith)

  pub is_refused_lem : {k : Result CopyAmount ℕ} → CopyIs r n p most k → {f : ℕ} → k ≡ Err f → (extract_fault r n p ≡ f) × (0 < f)
  is_refused_lem {k} w e = refused_case k w e

  good_case : (k : Result CopyAmount ℕ) → CopyIs r n p most k → {a : CopyAmount} → k ≡ Ok a →
      (extract_fault r n p ≡ 0) × (a.count ≡ length (copied_at r n p)) × (a.bytes ≡ total_size (copied_at r n p)) × Few most a.count a.bytes
  good_case k (CopyIs.faulty g e z) {a} i = let s : ◌≡◌ {A = ℕ} 0 1 = cc in absurd (omega arith)
  good_case k (CopyIs.good d e u v w) {a} i = let s : d ≡ a = cc in rw (← s) (e, u, v, w)

  pub is_good : {k : Result CopyAmount ℕ} → CopyIs r n p most k → {a : CopyAmount} → k ≡ Ok a →
      (extract_fault r n p ≡ 0) × (a.count ≡ length (copied_at r n p)) × (a.bytes ≡ total_size (copied_at r n p)) × Few most a.count a.bytes
  is_good {k} w e = good_case k w e

module _ (r : Recording) (n : ℕ) (most : ℕ) (few : (m : ℕ) → end (sample_of r m) ≤ most) where
  abbrev X : Sample
  X = own r n

  module _ (p : ℕ) where
    abbrev Z : Sample
    Z = linked r n p

    abbrev O : ℕ
    O = data_offset X p

    abbrev N : ℕ
    N = data_length X p

    extract_by : extract_amount r n (extractor_of X p) ≡ pick (name_fault_at r n p ≡? 0) (copy_amount Z O N) (Err (name_fault_at r n p))
    unfolding extract_amount name_fault_at named
    extract_by = refl

    copied_length : length (copied Z O N) ≡ length (copied_at r n p)
    unfolding copied_at
    copied_length = sym (length-map (copied Z O N) (span_of (named r n p) Z))

    copied_bytes_lem : sum (map (size Z) (copied Z O N)) ≡ total_size (copied_at r n p)
    unfolding copied_at
    copied_bytes_lem = sym (spans_size (named r n p) Z (copied Z O N))

    fault_by : name_fault_at r n p ≡ 0 → extract_fault r n p ≡ copy_fault Z O N
    unfolding extract_fault copy_fault_at
    fault_by e = rw e

    fault_named : {g : ℕ} → name_fault_at r n p ≡ g → (g ≡ 0 → ⊥) → extract_fault r n p ≡ g
    unfolding extract_fault
    fault_named e h = by_number (name_fault_at r n p) (λ z. absurd (h (sym e ∙ z))) (λ k z. rw z (sym z ∙ e))

    copy_is : CopyIs r n p most (extract_amount r n (extractor_of X p))
    copy_is = rw extract_by (by_bool (name_fault_at r n p ≡? 0)
        (λ t. let e = eqb-true _ _ t in rw t (by_bool (copy_fault Z O N ≡? 0)
        (λ u. let h = eqb-true _ _ u in let w = amount_few Z O N h in let l = few (named r n p) in rw (amount_units Z O N h) (CopyIs.good _ (fault_by e ∙ h) copied_length copied_bytes_lem
        (record { count_few = omega (arith, w.count_few); bytes_few = omega (arith, w.bytes_few) })))
        (λ u. let h = eqb-false _ _ u in rw (amount_refused Z O N h) (CopyIs.faulty _ (fault_by e) (omega arith)))))
        (λ t. let h = eqb-false _ _ t in rw t (CopyIs.faulty _ (fault_named refl h) (omega arith))))

    pub extractor_amount : check X ≡ ok tt → Memᴰ p (extractors X) → CopyIs r n p most (amount_by r n (extractor_at (own r n) (end (own r n)) p))
    extractor_amount k m = rw (extractor_step X k p m) copy_is
