-- A recording in which the bytes of sample s are replaced, seen from another sample n. The idea: of samples' bytes a recording is read only through
-- `sample_of` and `content_of`, and every sample but s is the same. Assumes nothing.
--
--   sample_other, content_other                          the sample, its bytes
--   named_other, name_fault_other                        which sample an extractor of it names, 23 and 24
--   copy_fault_other, extract_fault_other, copied_other  25 to 28, 23 to 28 and the copy of an extractor that does not name s
--   written_other                                        units of another sample, as they are written
use Prim.Native.Nat.{ℕ, zero, suc}
use mathlib.Core.Path.{◌≡◌, refl, ap}
use mathlib.Core.List.{List, []}
use lib.Seq.{get_or-set_other}
use Rattle.words.specs.Lists.{nth}
use Rattle.words.proofs.Tests.{by_number}
use Rattle.words.proofs.Lists.{each_cong, each_map}
use Rattle.units.specs.Units.{Sample}
use Rattle.bundles.specs.Recordings.{Recording, content_of, set_nth, replaced}
use Rattle.resolution_rules.specs.Resolving.{sample_of, span_of, spans_of, named, name_fault_at, copy_fault_at, extract_fault, copied_at}
use Rattle.resolution_rules.specs.Calls.{written, output}

-- the nth element after a change of another one
nth_other : {A : Type 0} (xs : List A) (s n : ℕ) (a d : A) → (n ≡ s → ⊥) → nth (set_nth xs s a) n d ≡ nth xs n d
unfolding nth
nth_other xs zero n a d h = refl
nth_other xs (suc s) zero a d h = refl
nth_other xs (suc s) (suc n) a d h = get_or-set_other xs s n a d (λ e. h (ap suc e))

module _ (r : Recording) (s : ℕ) (new : List ℕ) where
  abbrev after : Recording
  after = replaced r s new

  pub layout_kept : (replaced r s new).layout ≡ r.layout
  unfolding replaced
  layout_kept = refl

  pub content_other : (n : ℕ) → (n ≡ s → ⊥) → content_of after n ≡ content_of r n
  unfolding replaced
  content_other n h = nth_other r.contents s n new [] h

  pub sample_other : (n : ℕ) → (n ≡ s → ⊥) → sample_of after n ≡ sample_of r n
  unfolding replaced sample_of
  sample_other n h = rw (nth_other r.contents s n new [] h)

  pub named_other : (n p : ℕ) → (n ≡ s → ⊥) → named after n p ≡ named r n p
  unfolding named replaced
  named_other n p h = rw (sample_other n h)

  pub name_fault_other : (n p : ℕ) → (n ≡ s → ⊥) → name_fault_at after n p ≡ name_fault_at r n p
  unfolding name_fault_at replaced
  name_fault_other n p h = rw (sample_other n h)

  -- an extractor that does not name s
  pub copy_fault_other : (n p : ℕ) → (n ≡ s → ⊥) → (named r n p ≡ s → ⊥) → copy_fault_at after n p ≡ copy_fault_at r n p
  unfolding copy_fault_at
  copy_fault_other n p h u = rw (named_other n p h, sample_other n h, sample_other (named r n p) u)

  pub extract_fault_other : (n p : ℕ) → (n ≡ s → ⊥) → (name_fault_at r n p ≡ 0 → named r n p ≡ s → ⊥) → extract_fault after n p ≡ extract_fault r n p
  unfolding extract_fault
  extract_fault_other n p h u = rw (name_fault_other n p h) (by_number (name_fault_at r n p) (λ q. rw (copy_fault_other n p h (u q))) (λ f q. rw q))

  pub copied_other : (n p : ℕ) → (n ≡ s → ⊥) → (named r n p ≡ s → ⊥) → copied_at after n p ≡ copied_at r n p
  unfolding copied_at
  copied_other n p h u = rw (named_other n p h, sample_other n h, sample_other (named r n p) u)

  pub written_other : (n : ℕ) (x : Sample) (ps : List ℕ) → (n ≡ s → ⊥) → output after (spans_of n x ps) ≡ output r (spans_of n x ps)
  unfolding output written
  written_other n x ps h = rw (each_map (written after) (span_of n x) ps, each_map (written r) (span_of n x) ps) (each_cong _ _ ps (λ p m. rw (content_other n h)))
