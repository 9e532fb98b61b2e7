-- What the calls answer, step by step as the code takes them. Assumes nothing.
--
--   with_refused, with_sample, with_named  what an extractor names, by its fields
--   in_form, in_none, in_extractor  a sample of a recording: 14 to 22, 30 for the place, else by the extractor's fields
--   named_filled                    the call by a table that was filled
use Rattle.std.specs.Prelude.{None, Ok, Some, Err, Result}
use Prim.Native.Nat.{ℕ, ◌<◌}
use mathlib.Core.Path.{◌≡◌, ap, sym, ◌∙◌}
use mathlib.Core.List.{List}
use native.Mathlib.Omega.{arith}
use lib.ListN.{length}
use Rattle.numbers.specs.Faults.{numbered, refused_at}
use Rattle.numbers.specs.declared.SampleNumber.{SampleNumber}
use Rattle.numbers.specs.declared.refusals.Fault.{Fault}
use Rattle.links.specs.Named.{naming}
use Rattle.links.proofs.Naming.{naming_refused, naming_sample}
use Rattle.named_sample.specs.Answers.{named_answer_of}
use Rattle.words.specs.RefusalNumbers.{no_such_number}
use Rattle.words.specs.Refusals.{refused, ok}
use Rattle.words.specs.Lists.{has}
use Rattle.words.proofs.Tests.{by_bool}
use Rattle.words.proofs.Refusals.{at_refused}
use Rattle.units.specs.Units.{Sample}
use Rattle.units.specs.Aggregators.{extractors}
use Rattle.units.specs.Steps.{extractor_of}
use Rattle.units.specs.declared.Extractor as fields
use Rattle.samples.specs.Check.{check}
use Rattle.bundles.specs.Recordings.{Layout, Recording, sample_count}
use Rattle.bundles.specs.Readers.{first_layout}
use Rattle.tables.specs.Tables.{recording_in}
use Rattle.filling.specs.Filling.{filling, table_after}
use Rattle.filling.proofs.Promises.{table_accepted, table_means}
use Rattle.links.specs.Links.{sample_named, name_fault}
use Rattle.resolution_rules.specs.Resolving.{own, named, name_fault_at}
use Rattle.resolution_rules.specs.Calls.{number_fault, named_in, named_call}
use Rattle.resolution_rules.proofs.Calls.{named_form, named_none, named_extractor, named_means}
use Rattle.named_sample.specs.Answers.{extractor_in, name_with}

module _ (y : Layout) (n p : ℕ) (f : fields.Extractor) where
  pub with_refused : {g : ℕ} → name_fault y n f.track_ref_index f.sample_offset ≡ g → 0 < g → name_with y n p f ≡ refused g p
  unfolding name_with
  with_refused {g} e h = rw (at_refused p (sym e) (λ z. omega arith))

  pub with_sample : {m : ℕ} → name_fault y n f.track_ref_index f.sample_offset ≡ 0 → sample_named y n f.track_ref_index f.sample_offset ≡ m → name_with y n p f ≡ ok m
  unfolding name_with
  with_sample e g = rw (e, g)

  -- by the code's answer
  pub with_named : (r : Result SampleNumber Fault) → numbered r ≡ naming y n f.track_ref_index f.sample_offset → named_answer_of (refused_at p r) ≡ name_with y n p f
  with_named (Ok m) e = let w = naming_sample y n f.track_ref_index f.sample_offset (sym e) in sym (with_sample w.0 w.1)
  with_named (Err g) e = let w = naming_refused y n f.track_ref_index f.sample_offset (sym e) in sym (with_refused w.0 w.1)

-- sample n, which is x and has no 30
module _ (r : Recording) (n p : ℕ) (g : number_fault (sample_count r.layout) n ≡ 0) (x : Sample) (s : x ≡ own r n) where
  pub in_form : {m q : ℕ} → check x ≡ refused m q → named_in r n p ≡ refused m q
  in_form e = named_form r n p g (ap check (sym s) ∙ e)

  module _ (k : check x ≡ ok tt) where
    formed : check (own r n) ≡ ok tt
    formed = ap check (sym s) ∙ k

    pub in_none : extractor_in x p ≡ None → named_in r n p ≡ refused no_such_number 0
    unfolding extractor_in
    in_none e = by_bool (has p (extractors (own r n)))
        (λ t. let z : Some (extractor_of (own r n) p) ≡ None = rw (s, t) at e in let w : ◌≡◌ {A = ℕ} 0 1 = cc in absurd (omega arith))
        (λ t. named_none r n p g formed t)

    pub in_extractor : {f : fields.Extractor} → extractor_in x p ≡ Some f → named_in r n p ≡ name_with r.layout n p f
    unfolding extractor_in name_with name_fault_at named
    in_extractor {f} e = by_bool (has p (extractors (own r n)))
        (λ t.
        let z : Some (extractor_of (own r n) p) ≡ Some f = rw (s, t) at e in
        let w : extractor_of (own r n) p ≡ f = cc in
        rw (← w) (named_extractor r n p g formed t))
        (λ t. let z : None ≡ Some f = rw (s, t) at e in let w : ◌≡◌ {A = ℕ} 0 1 = cc in absurd (omega arith))

-- the call on a bundle
pub named_filled : (b : List ℕ) (n p : ℕ) (t : List ℕ) → filling first_layout b (length t) ≡ (Ok tt) → {u : List ℕ} → u ≡ table_after first_layout b t → named_in (recording_in b u) n p ≡ named_call first_layout b n p
named_filled b n p t done f = rw (f, table_means b t done) (sym (named_means first_layout b n p (table_accepted b t done)))
