-- Loops over the delivered units of a sample. A loop keeps `Folded P c`: the units that the steps from the start up to the cursor c gave
-- are us, and P says of them what the loop's variables hold. Assumes nothing.
--
--   Folded                                       the invariant of a loop
--   folded_start, folded_moved, folded_unit      at the start; after a step that delivers nothing; after a unit
--   folded_fits                                  the units and their sizes are bounded
--   folded_done                                  at the end of a good sample
--   folded_split                                 in a good sample the units so far, the one at hand and those after it are what is delivered
--   step_inside                                  a unit that a step gives lies in its sample
--   content_most, recording_bound, bound_most    the bounds, in what a table says of a bundle
use Rattle.std.specs.Prelude.{Err, None, Ok, Option, Result, Some}
use Prim.Native.Nat.{ℕ, suc, ◌+◌, ◌*◌, ◌≤◌}
use mathlib.Core.Path.{◌≡◌, refl, ap, sym, ◌∙◌}
use mathlib.Core.List.Memᴰ
use mathlib.Core.List.{List, [], ◌∷◌, ◌++◌, map, append_assoc, append-nil}
use native.Mathlib.Omega.{arith}
use native.Mathlib.Nat.{mul-le-mul}
use lib.Dec.{leb}
use lib.ListN.{length, length-append, length-take, length-drop}
use Rattle.words.specs.Tests.{◌<?◌}
use Rattle.words.specs.Refusals.{ok}
use Rattle.words.specs.Lists.{upto}
use Rattle.words.proofs.Tests.{by_bool}
use Rattle.numbers.specs.declared.ByteOffset.{ByteOffset}
use Rattle.units.specs.Units.{Sample, end}
use Rattle.units.specs.Steps.{extractor_at}
use Rattle.units.specs.declared.Extractor as fields
use Rattle.bundles.specs.Limits.{bundle_most}
use Rattle.bundles.specs.Recordings.{Recording, content_of}
use Rattle.tables.specs.Tables.{inside, content_in, sample_total, recording_in}
use Rattle.resolution_rules.specs.Resolving.{own, judged}
use Rattle.resolution_rules.proofs.Good.{own_length}
use Rattle.links.specs.Named.{naming}
use Rattle.delivery.specs.Steps.{start, copy_sample, copy_step, replaced_by, extractor_step_by, own_step, step_of}
use Rattle.delivery.specs.Deliveries.{Delivery, unit_for, deliveries}
use Rattle.delivery.specs.declared.Cursor.{Cursor}
use Rattle.delivery.specs.declared.DeliveredUnit.{DeliveredUnit}
use Rattle.delivery.specs.declared.Stepped.{Stepped}
use Rattle.delivery.specs.declared.Stepped.TheVariants as step
use Rattle.unit_steps.proofs.Items.{by_item}
use Rattle.delivery.proofs.Falling.{longest, longest_least, content_longest, bound, bound_start}
use Rattle.delivery.proofs.Rests.{rest, rest_done, rest_moved, rest_unit, rest_few}
use Rattle.delivery.proofs.FromStart.{rest_start}
use Rattle.delivery.proofs.Deliveries.{all_size, all_one, all_append}
use Rattle.numbers.specs.declared.SampleNumber.{SampleNumber}
use Rattle.units.specs.declared.Extractor.{Extractor}

module _ (r : Recording) (n : ℕ) (x : Sample) where
  pub record Folded (P : List Delivery → Type 0) (c : Cursor) : Type 0 where
    pub us : List Delivery
    pub units : rest r n x start ≡ us ++ rest r n x c
    pub holds : P us

  pub folded_start : (P : List Delivery → Type 0) → P [] → Folded P start
  folded_start P h = record { us = []; units = refl; holds = h }

  module _ (P : List Delivery → Type 0) (c : Cursor) (w : Folded P c) where
    pub folded_moved : {d : Cursor} → step_of r n x c ≡ step.Moved d → Folded P d
    folded_moved e = record { us = w.us; units = w.units ∙ rw (rest_moved r n x c e); holds = w.holds }

    pub folded_unit : {u : DeliveredUnit} {d : Cursor} (Q : List Delivery → Type 0) → Q (w.us ++ (unit_for u ∷ [])) → step_of r n x c ≡ step.Unit u d → Folded Q d
    folded_unit {u} {d} Q f e =
        record {
          us = w.us ++ (unit_for u ∷ []);
          units = w.units ∙ rw (rest_unit r n x c e) (sym (append_assoc w.us (unit_for u ∷ []) (rest r n x d)));
          holds = f;
        }

    -- the units up to the one at hand
    pub folded_fits : {u : DeliveredUnit} {d : Cursor} → step_of r n x c ≡ step.Unit u d → length w.us + 1 + (all_size w.us + u.span.size) ≤ bound r x start
    folded_fits {u} {d} e =
        let s : rest r n x start ≡ w.us ++ (unit_for u ∷ rest r n x d) = w.units ∙ rw (rest_unit r n x c e) in
        let f = rest_few r n x start in
        let l : length (rest r n x start) ≡ length w.us + length (unit_for u ∷ rest r n x d) = ap length s ∙ length-append w.us (unit_for u ∷ rest r n x d) in
        let z : all_size (rest r n x start) ≡ all_size w.us + all_size (unit_for u ∷ rest r n x d) = ap all_size s ∙ all_append w.us (unit_for u ∷ rest r n x d) in
        let y : all_size (unit_for u ∷ rest r n x d) ≡ all_size (unit_for u ∷ []) + all_size (rest r n x d) = all_append (unit_for u ∷ []) (rest r n x d) in
        let o = all_one (unit_for u) in
        omega arith

    -- in a good sample
    module _ (same : x ≡ own r n) (good : judged r n ≡ ok tt) where
      pub folded_done : step_of r n x c ≡ step.Done → P (deliveries r n)
      folded_done e =
          let s : deliveries r n ≡ w.us = sym (rest_start r n x same good) ∙ w.units ∙ rw (rest_done r n x c e) (append-nil w.us) in
          rw s w.holds

      -- the units so far, the one at hand, and those after it are what is delivered
      pub folded_split : {u : DeliveredUnit} {d : Cursor} → step_of r n x c ≡ step.Unit u d → deliveries r n ≡ w.us ++ (unit_for u ∷ rest r n x d)
      folded_split e = sym (rest_start r n x same good) ∙ w.units ∙ rw (rest_unit r n x c e)

-- a unit that a step gives lies in its sample, from any cursor
abbrev Lies : Recording → Stepped → Type 0
Lies r step.Done = Unit {0}
Lies r (step.Moved d) = Unit {0}
Lies r (step.Unit u d) = u.span.start.0 + u.span.size ≤ length (content_of r u.span.sample.0)

module _ (r : Recording) (n : ℕ) (x : Sample) (same : x.content ≡ content_of r n) (c : Cursor) where
  abbrev Z : Sample
  Z = copy_sample (content_of r c.copy.named.0) c

  copy_lies : Lies r (copy_step (content_of r c.copy.named.0) c)
  unfolding copy_step
  copy_lies = by_item Z c.copy.at.0
      (λ e. rw e tt)
      (λ i e. rw e tt)
      (λ i e. rw e tt)
      (λ i e. rw e i)

  open_lies : (q : ByteOffset) (f : fields.Extractor) (m : Result SampleNumber ℕ) → Lies r (replaced_by r c.place q f m)
  open_lies q f (Err g) = tt
  open_lies q f (Ok m) = tt

  extractor_lies : (q : ByteOffset) (m : Option Extractor) → Lies r (extractor_step_by r n c.place q m)
  extractor_lies q None = tt
  extractor_lies q (Some f) = open_lies q f (naming r.layout n f.track_ref_index f.sample_offset)

  own_lies : Lies r (own_step r n x c)
  unfolding own_step
  own_lies = by_item x c.place.0
      (λ e. rw e tt)
      (λ i e. rw e tt)
      (λ i e. rw e (extractor_lies _ (extractor_at x (end x) c.place.0)))
      (λ i e. rw (e, ← same) i)

  lies : Lies r (step_of r n x c)
  unfolding step_of
  lies = by_bool (c.copy.at.0 <? c.copy.end.0) (λ t. rw t copy_lies) (λ t. rw t own_lies)

  pub step_inside : {u : DeliveredUnit} {d : Cursor} → step_of r n x c ≡ step.Unit u d → u.span.start.0 + u.span.size ≤ length (content_of r u.span.sample.0)
  step_inside e = rw e at lies

-- the bounds, in what a table says of a bundle
module _ (b t : List ℕ) where
  inside_most : (p n : ℕ) → length (inside b p n) ≤ length b
  unfolding inside
  inside_most p n = by_bool (leb (p + n) (length b))
      (λ q. rw q (simp (length-take, length-drop) (omega arith)))
      (λ q. rw q (omega arith))

  recording_longest : longest (recording_in b t).contents ≤ length b
  unfolding recording_in
  recording_longest = longest_least (map (content_in b t) (upto (sample_total t))) (length b) (λ s k.
      let w = Memᴰ.of_map (content_in b t) (upto (sample_total t)) k in
      rw (← w.2) (inside_most _ _))

  pub content_most : (m : ℕ) → length (content_of (recording_in b t) m) ≤ length b
  content_most m = let l = content_longest (recording_in b t) m in let h = recording_longest in omega arith

  pub recording_bound : (x : Sample) → end x ≤ length b → bound (recording_in b t) x start ≤ length b * suc (length b)
  recording_bound x h = bound_start (recording_in b t) x (length b) h recording_longest

-- no more steps, units and bytes than this from the start on
pub bound_most : (b t : List ℕ) (n : ℕ) (x : Sample) → x ≡ own (recording_in b t) n → length b ≤ bundle_most → bound (recording_in b t) x start ≤ 281474993487872
bound_most b t n x same few =
    let l : end x ≤ length b = rw same (let o = own_length (recording_in b t) n in let s = content_most b t n in omega arith) in
    let k : suc (length b) ≤ suc bundle_most = omega arith in
    let m = mul-le-mul few k in
    let z = recording_bound b t x l in
    omega arith
