-- The step from a cursor over sample n of a recording r, which is x (01, 'Resolving'), on any recording and any cursor. Nothing is judged
-- here: where no unit lies in the sample, where an extractor names none, and at an extractor in a copy, nothing is left. In a good sample,
-- from the start on, that is at its end.
--
--   start                     the cursor before the first unit
--   track_for y n             what the track of sample n says of it, as the code has it
--   copy_of r m p f           the copy of sample m by an extractor at p with the fields f
--   number_after count q      the number of a unit in its copy, after count others
--   with_copy_at, with_place  the cursor with another place in the copy, or in the own sample
--   copy_step s c             a step in the copy, of a sample with the bytes s
--   replaced_by r p q f m     a step at an extractor at p with the fields f that names m; the sample goes on at q
--   extractor_step_by         the same, if it is one
--   own_step r n x c          a step in the own sample
--   step_of r n x c           the step: in the copy until that is at its end, then in the own sample
use Rattle.std.specs.Prelude.{ℕ, ◌+◌, List, Err, None, Ok, Option, Result, Some}
use Rattle.words.specs.Tests.{◌<?◌, pick}
use Rattle.numbers.specs.declared.ByteOffset.{ByteOffset}
use Rattle.numbers.specs.declared.SampleNumber.{SampleNumber}
use Rattle.numbers.specs.declared.Kind.TheVariants.{Avc}
use Rattle.numbers.specs.declared.LengthSize.TheVariants.{One}
use Rattle.units.specs.Units.{Sample, sample, end}
use Rattle.units.specs.Steps.{place, extractor_at}
use Rattle.units.specs.declared.NalUnit.{NalUnit}
use Rattle.units.specs.declared.Track.{Track}
use Rattle.units.specs.declared.Extractor as fields
use Rattle.unit_steps.specs.Items.{item_at}
use Rattle.unit_steps.specs.declared.Item as I
use Rattle.unit_steps.specs.declared.Item.TheVariants as item
use Rattle.bundles.specs.Recordings.{Layout, Recording, track_at, content_of}
use Rattle.links.specs.Named.{naming}
use Rattle.copies.specs.Range.{copy_end_in}
use Rattle.resolution_rules.specs.Resolving.{sample_of}
use Rattle.delivery.specs.declared.CopyCursor.{CopyCursor}
use Rattle.delivery.specs.declared.Cursor.{Cursor}
use Rattle.delivery.specs.declared.DeliveredUnit.{DeliveredUnit}
use Rattle.delivery.specs.declared.Source.{Source}
use Rattle.delivery.specs.declared.Source.TheVariants as source
use Rattle.delivery.specs.declared.Stepped as S
use Rattle.delivery.specs.declared.Stepped.TheVariants as step
use Rattle.units.specs.declared.Extractor.{Extractor}

-- its copy is at its end
abbrev pub start : Cursor
start = record {
  place = place 0;
  copy = record {
    extractor = place 0;
    named = record { 0 = 0 };
    track = record { kind = Avc; length_size = One };
    at = place 0;
    end = place 0;
    count = 0;
  };
}

abbrev pub track_for : Layout → ℕ → Track
track_for y n = record { kind = (track_at y n).kind; length_size = (track_at y n).length_size }

abbrev pub copy_of : Recording → SampleNumber → ByteOffset → fields.Extractor → CopyCursor
copy_of r m p f = record {
  extractor = p;
  named = m;
  track = track_for r.layout m.0;
  at = f.data_offset;
  end = place (copy_end_in (sample_of r m.0) f.data_offset.0 f.data_length);
  count = 0;
}

-- The number of a unit that comes after count others of its copy, which goes on at q: one more. Each unit takes a byte at least, so count
-- lies below q; where it does not, which no cursor from the start on has, it stays.
unfoldable pub number_after : ℕ → ByteOffset → ℕ
number_after count q = pick (count <? q.0) (count + 1) count

abbrev pub with_copy_at : Cursor → ByteOffset → ℕ → Cursor
with_copy_at c q count = record {
  place = c.place;
  copy = record {
    extractor = c.copy.extractor;
    named = c.copy.named;
    track = c.copy.track;
    at = q;
    end = c.copy.end;
    count = count;
  };
}

abbrev pub with_place : Cursor → ByteOffset → Cursor
with_place c q = record { place = q; copy = c.copy }

abbrev pub unit_in : SampleNumber → Source → NalUnit → DeliveredUnit
unit_in m from u = record { span = record { sample = m; start = u.start; size = u.size }; source = from }

-- In the copy: an aggregator's header and additional_bytes are dropped. In a good sample no extractor is copied.
abbrev pub copy_step_by : Cursor → I.Item → S.Stepped
copy_step_by c item.Nothing = step.Done
copy_step_by c (item.Aggregator q) = step.Moved (with_copy_at c q c.copy.count)
copy_step_by c (item.Extractor q) = step.Done
copy_step_by c (item.Unit u) =
    let number = number_after c.copy.count u.next in
    step.Unit (unit_in c.copy.named (source.Copy c.copy.extractor number) u) (with_copy_at c u.next number)

abbrev pub copy_sample : List ℕ → Cursor → Sample
copy_sample s c = sample c.copy.track s

unfoldable pub copy_step : List ℕ → Cursor → S.Stepped
copy_step s c = copy_step_by c (item_at (copy_sample s c) c.copy.at.0)

-- In the own sample: the same, but an extractor is replaced by its copy, and the sample goes on after it, at q.
abbrev pub replaced_by : Recording → ByteOffset → ByteOffset → fields.Extractor → Result SampleNumber ℕ → S.Stepped
replaced_by r p q f (Err fault) = step.Done
replaced_by r p q f (Ok m) = step.Moved (record { place = q; copy = copy_of r m p f })

abbrev pub extractor_step_by : Recording → ℕ → ByteOffset → ByteOffset → Option Extractor → S.Stepped
extractor_step_by r n p q None = step.Done
extractor_step_by r n p q (Some f) = replaced_by r p q f (naming r.layout n f.track_ref_index f.sample_offset)

abbrev pub own_step_by : Recording → ℕ → Sample → Cursor → I.Item → S.Stepped
own_step_by r n x c item.Nothing = step.Done
own_step_by r n x c (item.Aggregator q) = step.Moved (with_place c q)
own_step_by r n x c (item.Extractor q) = extractor_step_by r n c.place q (extractor_at x (end x) c.place.0)
own_step_by r n x c (item.Unit u) = step.Unit (unit_in (record { 0 = n }) source.Own u) (with_place c u.next)

unfoldable pub own_step : Recording → ℕ → Sample → Cursor → S.Stepped
own_step r n x c = own_step_by r n x c (item_at x c.place.0)

unfoldable pub step_of : Recording → ℕ → Sample → Cursor → S.Stepped
step_of r n x c =
    pick (c.copy.at.0 <? c.copy.end.0)
    (copy_step (content_of r c.copy.named.0) c)
    (own_step r n x c)
