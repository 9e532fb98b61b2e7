-- Samples that are not in the naming list of s, where the bytes of s are replaced: they resolve as before. Assumes nothing.
--
--   judged_other          refusals 14 to 28
--   delivered_other       the units that a good sample delivers
--   output_other          the bytes that it delivers
--   sample_kept           all of them, with whether it is well formed: for what is said of a sample besides resolving
--   resolve_other         resolving
use Prim.Native.Nat.{ℕ, ◌≤◌, ◌<◌}
use mathlib.Core.Path.{◌≡◌, ap, sym, ◌∙◌}
use mathlib.Core.List.{List, ◌∷◌, [], Memᴰ}
use mathlib.Core.Bool.{true}
use Rattle.words.specs.Refusals.{ok, ◌and_then◌}
use Rattle.words.proofs.Tests.{by_bool}
use Rattle.words.proofs.Refusals.{or_else_none, at_ok, and_ok, by_verdict, first_ok, first_cong}
use Rattle.words.proofs.Lists.{each_cong}
use Rattle.units.specs.Units.{is_extractor}
use Rattle.units.specs.Extractors.{data_offset, data_length}
use Rattle.units.specs.Aggregators.{units, extractors}
use Rattle.samples.specs.Check.{check}
use Rattle.bundles.specs.Recordings.{Recording, sample_count, replaced}
use Rattle.copies.specs.Copies.{without_aggregators, copied}
use Rattle.resolution_rules.specs.Resolving.{own, named, linked, name_fault_at, extract_fault, copied_at, delivered_at, delivered, judged}
use Rattle.resolution_rules.specs.Calls.{output, resolve}
use Rattle.resolution_rules.proofs.Delivered.{extract_judge, output_each}
use Rattle.resolution_rules.proofs.Exactly.{extractor_mem}
use Rattle.resolution_rules.proofs.Calls.{by_count, resolve_number, resolve_sample, resolve_good}
use Rattle.naming_list_rules.specs.Rules.{Unlisted, Kept}
use Rattle.naming_list_rules.proofs.Replaced.{layout_kept, sample_other, extract_fault_other, copied_other, written_other}
use Rattle.naming_list_rules.proofs.Listing.{listed}

module _ (r : Recording) (s : ℕ) (new : List ℕ) (n : ℕ) (other : n ≡ s → ⊥) where
  abbrev after : Recording
  after = replaced r s new

  -- no extractor of sample n names s, if n is well formed
  abbrev Outside : Type 0
  Outside = check (own r n) ≡ ok tt → (p : ℕ) → Memᴰ p (extractors (own r n)) → name_fault_at r n p ≡ 0 → named r n p ≡ s → ⊥

  -- 14 to 28
  judged_out : Outside → judged after n ≡ judged r n
  unfolding judged
  judged_out u = rw (sample_other r s new n other) (by_verdict (check (own r n))
      (λ a b q. rw q)
      (λ c. ap (λ v. check (own r n) and_then v) (first_cong _ _ (extractors (own r n)) (λ p m. rw (extract_fault_other r s new n p other (u c p m))))))

  -- where n is good, its extractors name other samples
  elsewhere : Outside → judged r n ≡ ok tt → (p : ℕ) → Memᴰ p (units (own r n)) → is_extractor (own r n) p ≡ true → named r n p ≡ s → ⊥
  unfolding judged extract_fault
  elsewhere u e p m t =
      let a = and_ok (check (own r n)) _ e in
      let k = extractor_mem r n p m t in
      u a.0 p k (or_else_none (name_fault_at r n p) _ (at_ok _ p (first_ok (extract_judge r n) (extractors (own r n)) a.1 k))).0

  module _ (p : ℕ) (far : is_extractor (own r n) p ≡ true → named r n p ≡ s → ⊥) where
    at_other : delivered_at after n p ≡ delivered_at r n p
    unfolding delivered_at
    at_other = rw (sample_other r s new n other) (by_bool (is_extractor (own r n) p)
        (λ q. rw (q, copied_other r s new n p other (far q)))
        (λ q. rw q))

    bytes_other : output after (delivered_at r n p) ≡ output r (delivered_at r n p)
    unfolding delivered_at copied_at
    bytes_other = by_bool (is_extractor (own r n) p)
        (λ q. rw q (written_other r s new (named r n p) (linked r n p) (copied (linked r n p) (data_offset (own r n) p) (data_length (own r n) p)) (far q)))
        (λ q. rw q (written_other r s new n (own r n) (without_aggregators (own r n) (p ∷ [])) other))

  delivered_out : Outside → judged r n ≡ ok tt → delivered after n ≡ delivered r n
  unfolding delivered
  delivered_out u e = rw (sample_other r s new n other) (each_cong _ _ (units (own r n)) (λ p m. at_other p (elsewhere u e p m)))

  output_out : Outside → judged r n ≡ ok tt → output after (delivered after n) ≡ output r (delivered r n)
  unfolding delivered
  output_out u e = rw (delivered_out u e, output_each after (delivered_at r n) (units (own r n)), output_each r (delivered_at r n) (units (own r n)))
      (each_cong _ _ (units (own r n)) (λ p m. bytes_other p (elsewhere u e p m)))

  -- a sample that there is, and that is not in the list
  module _ (some : 0 < n) (there : n ≤ sample_count r.layout) (none : Unlisted r s n) where
    outside : Outside
    outside c p m f e = none p (listed r s n p (record { some = some; there = there; formed = c; extractor = m; names_some = f; names = e }))

    pub judged_other : judged after n ≡ judged r n
    judged_other = judged_out outside

    pub delivered_other : judged r n ≡ ok tt → delivered after n ≡ delivered r n
    delivered_other = delivered_out outside

    pub output_other : judged r n ≡ ok tt → output after (delivered after n) ≡ output r (delivered r n)
    output_other = output_out outside

    pub sample_kept : Kept r (replaced r s new) n
    sample_kept =
        record {
          sample = sample_other r s new n other;
          formed = ap check (sample_other r s new n other);
          verdict = judged_other;
          units = delivered_other;
          bytes = output_other;
        }

  pub resolve_other : Unlisted r s n → resolve (replaced r s new) n ≡ resolve r n
  resolve_other none = by_count (sample_count r.layout) n
      (λ h. resolve_number after n (rw (layout_kept r s new) h) ∙ sym (resolve_number r n h))
      (λ h l.
      let t : n ≤ sample_count after.layout = rw (layout_kept r s new) l in
      by_verdict (judged r n)
      (λ m p e. resolve_sample after n h t (judged_other h l none ∙ e) ∙ sym (resolve_sample r n h l e))
      (λ e. resolve_good after n h t (judged_other h l none ∙ e) ∙ ap ok (output_other h l none e) ∙ sym (resolve_good r n h l e)))
