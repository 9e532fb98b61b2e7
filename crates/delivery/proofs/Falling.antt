-- Each step makes less of what is left: so steps end, and what they deliver is bounded. Assumes nothing.
--
--   longest ss                                    the most bytes that one of the samples has
--   bound r x c                                   how much is left at most
--   longest_most, longest_least, content_longest  the longest sample
--   Falls                                         what is left after a step is less, by a unit's bytes and more
--   falls                                         every step falls
--   bound_start                                   what is left at the start, at most
use Rattle.std.specs.Prelude.{Err, None, Ok, Option, Result, Some}
use Prim.Native.Nat.{ℕ, suc, ◌+◌, ◌-◌, ◌*◌, ◌≤◌, ◌<◌}
use mathlib.Core.Path.{◌≡◌, refl}
use mathlib.Core.List.Memᴰ
use mathlib.Core.List.{List, [], ◌∷◌, Memᴰ}
use mathlib.Core.Logic.{◌⊎◌, inl, inr, ⊎_elim}
use native.Mathlib.Omega.{arith}
use native.Mathlib.Nat.{suc-mul, add-mul, mul-le-mul, mul-le-mul_right, le-mul_of_pos_right}
use borrow.Author.Tests.{ltb-true, ltb-false}
use lib.ListN.{length}
use Rattle.words.specs.Tests.{◌<?◌, pick}
use Rattle.words.specs.Lists.{nth}
use Rattle.words.proofs.Tests.{by_bool}
use Rattle.words.proofs.Lists.{nth_mem}
use Rattle.numbers.proofs.Laws.{L_some}
use Rattle.units.specs.Units.{Sample, end, size, next}
use Rattle.units.specs.Aggregators.{included_start}
use Rattle.units.specs.Steps.{extractor_at}
use Rattle.units.specs.declared.Extractor as fields
use Rattle.units.proofs.Units.{next_after}
use Rattle.bundles.specs.Recordings.{Recording, content_of}
use Rattle.words.proofs.Rows.{nth_none, nth_beyond}
use Rattle.resolution_rules.proofs.Calls.{by_count}
use Rattle.links.specs.Named.{naming}
use Rattle.delivery.specs.Steps.{start, copy_sample, copy_step, replaced_by, extractor_step_by, own_step, step_of}
use Rattle.delivery.specs.declared.Cursor.{Cursor}
use Rattle.delivery.specs.declared.Stepped.{Stepped}
use Rattle.delivery.specs.declared.Stepped.TheVariants as step
use Rattle.unit_steps.proofs.Items.{by_item}
use Rattle.numbers.specs.declared.SampleNumber.{SampleNumber}
use Rattle.units.specs.declared.Extractor.{Extractor}

unfoldable pub longest : List (List ℕ) → ℕ
longest [] = 0
longest (s ∷ ss) = pick (longest ss <? length s) (length s) (longest ss)

-- What is left of the own sample, each byte worth one copy of the longest sample and one more; and of the sample that is copied.
unfoldable pub bound : Recording → Sample → Cursor → ℕ
bound r x c = (end x - c.place.0) * suc (longest r.contents) + (length (content_of r c.copy.named.0) - c.copy.at.0)

at_length : (ss : List (List ℕ)) (a s : List ℕ) → longest ss < length a → length s ≤ longest ss → length s ≤ length a
at_length ss a s l b = omega arith

pub longest_most : (ss : List (List ℕ)) (s : List ℕ) → Memᴰ s ss → length s ≤ longest ss
unfolding longest
longest_most [] s m = absurd (Memᴰ.not-nil m)
longest_most (a ∷ ss) s m = let below = longest_most ss s in by_bool (longest ss <? length a)
    (λ t. let l = ltb-true (longest ss) (length a) t in rw t (⊎_elim (λ e. rw e (omega arith)) (λ k. let b = below k in at_length ss a s l b) (Memᴰ.cases_cons m)))
    (λ t. let l = ltb-false (longest ss) (length a) t in rw t (⊎_elim (λ e. rw e l) (λ k. below k) (Memᴰ.cases_cons m)))

pub longest_least : (ss : List (List ℕ)) (c : ℕ) → ((s : List ℕ) → Memᴰ s ss → length s ≤ c) → longest ss ≤ c
unfolding longest
longest_least [] c h = omega arith
longest_least (a ∷ ss) c h = by_bool (longest ss <? length a)
    (λ t. rw t (h a (Memᴰ.head refl)))
    (λ t. rw t (longest_least ss c (λ s m. h s (Memᴰ.tail m))))

pub content_longest : (r : Recording) (m : ℕ) → length (content_of r m) ≤ longest r.contents
content_longest r m = by_count (length r.contents) m
    (λ w. rw (none w) (omega arith))
    (λ i l. longest_most r.contents (nth r.contents m []) (nth_mem r.contents m [] i l))
  where
    none : (m ≡ 0) ⊎ (length r.contents < m) → nth r.contents m [] ≡ []
    none (inl z) = rw z (nth_none r.contents [])
    none (inr l) = nth_beyond r.contents m [] (omega arith)

-- d less of the own sample is d less at least of what is left; one less is worth any copy
own_less : (k a a' b d : ℕ) → a' + d ≤ a → a' * suc k + b + d ≤ a * suc k + b
own_less k a a' b d h =
    let m = mul-le-mul_right (suc k) h in
    let s = add-mul a' d (suc k) in
    let l = le-mul_of_pos_right {m = suc k} d (omega arith) in
    omega arith

open_less : (k a a' b b' : ℕ) → a' < a → b' ≤ k → a' * suc k + b' < a * suc k + b
open_less k a a' b b' h l =
    let i : suc a' ≤ a = omega arith in
    let m = mul-le-mul_right (suc k) i in
    let s = suc-mul a' (suc k) in
    omega arith

copy_less : (m b b' d : ℕ) → b' + d ≤ b → m + b' + d ≤ m + b
copy_less m b b' d h = omega arith

abbrev pub Falls : Recording → Sample → Cursor → Stepped → Type 0
Falls r x c step.Done = Unit {0}
Falls r x c (step.Moved d) = bound r x d + 1 ≤ bound r x c
Falls r x c (step.Unit u d) = bound r x d + (1 + u.span.size) ≤ bound r x c

module _ (r : Recording) (n : ℕ) (x : Sample) (c : Cursor) where
  abbrev Z : Sample
  Z = copy_sample (content_of r c.copy.named.0) c

  copy_falls : Falls r x c (copy_step (content_of r c.copy.named.0) c)
  unfolding copy_step bound
  copy_falls =
      let q = c.copy.at.0 in
      let l = L_some Z.length_size in
      by_item Z q
      (λ e. rw e tt)
      (λ i e. rw e (copy_less _ _ _ 1 (omega arith)))
      (λ i e. rw e tt)
      (λ i e. rw e (copy_less _ _ _ (1 + size Z q) (omega arith)))

  open_falls : (q : ℕ) → c.place.0 < q → c.place.0 < end x → (f : fields.Extractor) (m : Result SampleNumber ℕ) → Falls r x c (replaced_by r c.place (record { 0 = q }) f m)
  unfolding bound
  open_falls q h i f (Err g) = tt
  open_falls q h i f (Ok m) =
      let l = content_longest r m.0 in
      let m = open_less (longest r.contents) (end x - c.place.0) (end x - q) (length (content_of r c.copy.named.0) - c.copy.at.0) (length (content_of r m.0) - f.data_offset.0) (omega arith) (omega arith) in
      omega arith

  extractor_falls : (q : ℕ) → c.place.0 < q → c.place.0 < end x → (m : Option Extractor) → Falls r x c (extractor_step_by r n c.place (record { 0 = q }) m)
  extractor_falls q h i None = tt
  extractor_falls q h i (Some f) = open_falls q h i f (naming r.layout n f.track_ref_index f.sample_offset)

  own_falls : Falls r x c (own_step r n x c)
  unfolding own_step bound
  own_falls =
      let p = c.place.0 in
      let l = L_some x.length_size in
      by_item x p
      (λ e. rw e tt)
      (λ i e. rw e (own_less (longest r.contents) (end x - p) (end x - included_start x p) _ 1 (omega arith)))
      (λ i e. rw e (extractor_falls (next x p) (next_after x p) (omega arith) (extractor_at x (end x) p)))
      (λ i e. rw e (own_less (longest r.contents) (end x - p) (end x - next x p) _ (1 + size x p) (omega arith)))

  pub falls : Falls r x c (step_of r n x c)
  unfolding step_of
  falls = by_bool (c.copy.at.0 <? c.copy.end.0) (λ t. rw t copy_falls) (λ t. rw t own_falls)

pub bound_start : (r : Recording) (x : Sample) (k : ℕ) → end x ≤ k → longest r.contents ≤ k → bound r x start ≤ k * suc k
unfolding bound
bound_start r x k h l =
    let i : suc (longest r.contents) ≤ suc k = omega arith in
    let m : (end x - start.place.0) * suc (longest r.contents) ≤ k * suc k = mul-le-mul (omega arith) i in
    rw (nth_none r.contents []) (omega arith)
