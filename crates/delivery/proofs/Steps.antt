-- The step by what stands at a place, and by the sample that an extractor names. Assumes nothing.
--
--   track_sample, sample_from    a sample by its track and its bytes
--   step_copy, step_own          the step in a copy, and in the own sample
--   replaced_named               the step at an extractor that names a sample
use Prim.Native.Nat.{ℕ, ◌≤◌, ◌<◌}
use mathlib.Core.Path.{◌≡◌, refl}
use mathlib.Core.List.{List}
use borrow.Author.Tests.{lt-ltb, le-ltb}
use Rattle.numbers.specs.declared.ByteOffset.{ByteOffset}
use Rattle.units.specs.Units.{Sample, sample}
use Rattle.units.specs.declared.Track.{Track}
use Rattle.units.specs.declared.Extractor as fields
use Rattle.bundles.specs.Recordings.{Recording, content_of}
use Rattle.tables.specs.Tables.{layout_in, recording_in}
use Rattle.links.specs.Links.{sample_named, name_fault}
use Rattle.links.specs.Named.{naming}
use Rattle.resolution_rules.specs.Resolving.{sample_of}
use Rattle.delivery.specs.Steps.{track_for, copy_of, copy_sample, copy_step_by, copy_step, replaced_by, own_step_by, own_step, step_of}
use Rattle.delivery.specs.declared.Cursor.{Cursor}
use Rattle.unit_steps.specs.Items.{item_at}
use Rattle.unit_steps.specs.declared.Item.{Item}
use Rattle.delivery.specs.declared.Stepped.TheVariants as step

pub track_sample : (r : Recording) (m : ℕ) → sample (track_for r.layout m) (content_of r m) ≡ sample_of r m
unfolding sample_of
track_sample r m = refl

pub sample_from : (b t : List ℕ) (m : ℕ) {k : Track} {s : List ℕ} → k ≡ track_for (layout_in t) m → s ≡ content_of (recording_in b t) m → sample k s ≡ sample_of (recording_in b t) m
unfolding sample_of recording_in
sample_from b t m e f = rw (e, f)

module _ (r : Recording) (n : ℕ) (x : Sample) (c : Cursor) where
  pub step_copy : {i : Item} → c.copy.at.0 < c.copy.end.0 → item_at (copy_sample (content_of r c.copy.named.0) c) c.copy.at.0 ≡ i → step_of r n x c ≡ copy_step_by c i
  unfolding step_of copy_step
  step_copy l e = rw (lt-ltb _ _ l, e)

  pub step_own : {i : Item} → c.copy.end.0 ≤ c.copy.at.0 → item_at x c.place.0 ≡ i → step_of r n x c ≡ own_step_by r n x c i
  unfolding step_of own_step
  step_own l e = rw (le-ltb _ _ l, e)

pub replaced_named : (r : Recording) (n : ℕ) (p q : ByteOffset) (f : fields.Extractor) → name_fault r.layout n f.track_ref_index f.sample_offset ≡ 0 →
    replaced_by r p q f (naming r.layout n f.track_ref_index f.sample_offset)
    ≡ step.Moved (record { place = q; copy = copy_of r (record { 0 = sample_named r.layout n f.track_ref_index f.sample_offset }) p f })
unfolding naming
replaced_named r n p q f e = rw e
