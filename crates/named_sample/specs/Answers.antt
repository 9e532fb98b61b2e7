-- What the code answers, and the steps to it.
--
--   named_answer_of    the sample that an extractor names
--   extractor_in x p   the fields of the extractor at p of a sample x; Nothing where none stands there
--   name_with y n p f  what an extractor with the fields f at p of sample n names: 23, 24, or the sample
use Rattle.std.specs.Prelude.{ℕ, Err, None, Ok, Option, Result, Some}
use Rattle.words.specs.Tests.{pick}
use Rattle.words.specs.Refusals.{Answer, refused, ok, ◌and_then◌, ◌at_place◌}
use Rattle.words.specs.Lists.{has}
use Rattle.units.specs.Units.{Sample}
use Rattle.units.specs.Aggregators.{extractors}
use Rattle.units.specs.Steps.{extractor_of}
use Rattle.units.specs.declared.Extractor as fields
use Rattle.bundles.specs.Recordings.{Layout}
use Rattle.links.specs.Links.{sample_named, name_fault}
use Rattle.units.specs.declared.Extractor.{Extractor}
use Rattle.numbers.specs.declared.SampleNumber.{SampleNumber}
use Rattle.numbers.specs.declared.Refusal.{Refusal}

abbrev pub named_answer_of : Result SampleNumber Refusal → Answer ℕ
named_answer_of (Err f) = refused f.number f.place.0
named_answer_of (Ok m) = ok m.0

unfoldable pub extractor_in : Sample → ℕ → Option Extractor
extractor_in x p = pick (has p (extractors x)) (Some (extractor_of x p)) None

unfoldable pub name_with : Layout → ℕ → ℕ → fields.Extractor → Answer ℕ
name_with y n p f =
    name_fault y n f.track_ref_index f.sample_offset at_place p
    and_then ok (sample_named y n f.track_ref_index f.sample_offset)
