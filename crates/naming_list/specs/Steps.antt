-- The steps of the code on any table, in the words of the crate naming_list_rules.
--
--   names_with y s n f    whether an extractor with the fields f in sample n names sample s
--   names_at y s n x p    whether the unit at p of sample n, which is x, is an extractor that names sample s
--   namers_from y s n x p the units from p on that do
--   list_most            more bytes no list has
--   with_entry o at n p  an entry over a buffer
--   counts_upto b t s n  the table with the counts of the first n samples kept: how many extractors of each name s
--   counts_for b t s     with those of all; a sample number that is refused (30) leaves it as it was
--   unfit b t            a bundle too long, or a table too short for any bundle
--   names_in b t s room  the list by a bundle and any table beside it: 1 where they are unfit, then 30, 29, or the list
--   table_in b t s       what that leaves of the table
use Rattle.std.specs.Prelude.{ℕ, zero, suc, ◌+◌, ◌*◌, List, Bool, false, ◌&&◌, ◌||◌, length, None, Option, Some}
use Rattle.words.specs.Tests.{◌≡?◌, ◌<?◌, pick}
use Rattle.words.specs.RefusalNumbers.{bundle_too_long}
use Rattle.words.specs.Refusals.{◌if◌, Answer, ◌and_then◌, ◌at_place◌}
use Rattle.words.specs.Lists.{keep}
use Rattle.words.specs.Bytes.{bytes}
use Rattle.words.specs.Buffers.{put, within}
use Rattle.units.specs.Units.{Sample, end}
use Rattle.units.specs.Steps.{extractor_at}
use Rattle.units.specs.declared.Extractor as fields
use Rattle.bundles.specs.Limits.{bundle_most, sample_most}
use Rattle.bundles.specs.Recordings.{Layout, sample_count}
use Rattle.tables.specs.Tables.{table_most, layout_in, recording_in, with_kept_count}
use Rattle.links.specs.Links.{sample_named, name_fault}
use Rattle.copies.specs.Flat.{flat_places}
use Rattle.numbers.specs.Places.{place_size}
use Rattle.resolution_rules.specs.Calls.{number_fault}
use Rattle.naming_list_rules.specs.Naming.{namers_in, sample_size, list_entry_size, names}
use Rattle.units.specs.declared.Extractor.{Extractor}

module _ (y : Layout) (s n : ℕ) where
  unfoldable pub names_with : fields.Extractor → Bool
  names_with f =
      (name_fault y n f.track_ref_index f.sample_offset ≡? 0)
      && (sample_named y n f.track_ref_index f.sample_offset ≡? s)

  -- no extractor, or a bad one, names nothing
  abbrev pub names_by : Option Extractor → Bool
  names_by (Some f) = names_with f
  names_by None = false

  unfoldable pub names_at : Sample → ℕ → Bool
  names_at x p = names_by (extractor_at x (end x) p)

  abbrev pub namers_from : Sample → ℕ → List ℕ
  namers_from x p = keep (names_at x) (flat_places x p (end x))

-- an entry over a buffer, number by number, each where there is room for it
abbrev pub with_entry : List ℕ → ℕ → ℕ → ℕ → List ℕ
with_entry o at n p = put (put o at (bytes sample_size n)) (at + sample_size) (bytes place_size p)

abbrev pub list_most : ℕ
list_most = sample_most * bundle_most * list_entry_size

module _ (b t : List ℕ) (s : ℕ) where
  unfoldable pub counts_upto : ℕ → List ℕ
  counts_upto zero = t
  counts_upto (suc n) = with_kept_count (counts_upto n) (suc n) (length (namers_in (recording_in b t) s (suc n)))

  unfoldable pub counts_for : List ℕ
  counts_for = pick (number_fault (sample_count (layout_in t)) s ≡? 0) (counts_upto (sample_count (layout_in t))) t

  -- a bundle too long, or a table too short for any bundle
  abbrev pub unfit : Bool
  unfit = (bundle_most <? length b) || (length t <? table_most)

  unfoldable pub names_in : ℕ → Answer (List ℕ)
  names_in room = within room ((bundle_too_long if unfit) at_place 0 and_then names (recording_in b t) s)

  unfoldable pub table_in : List ℕ
  table_in = pick unfit t counts_for
