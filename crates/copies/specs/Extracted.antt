-- A unit that an extractor stands for, as a part of the sample z that it names (01, 'How to write each place'), on any bytes. Nothing is
-- judged here: of an extractor without a refusal these are the units of its copy (proofs/Plain).
--
--   unit_bytes z q       the bytes of the unit at q, without its length field
--   is_plain z q         whether the unit at q is no aggregator and no extractor, and lies in the sample
--   plain_units z a e    the units from a up to e that are
--   FoundAt p q e        what was found, where q is said to be e if it is not there
--   copied_unit z o n k  the kth of them, from 1, in a copy; empty where there is none
--   extracted x p z k    the kth unit that the extractor at p of the sample x stands for; empty where there is none
use Rattle.std.specs.Prelude.{ℕ, ◌+◌, ◌<◌, ◌≡◌, List, [], map, Bool, not, ◌&&◌, None, Option, Some}
use Rattle.words.specs.Tests.{◌≤?◌}
use Rattle.words.specs.Lists.{keep, nth}
use Rattle.words.specs.Bytes.{part}
use Rattle.units.specs.Units.{Sample, L, end, size, next, is_aggregator, is_extractor}
use Rattle.units.specs.Steps.{extractor_at}
use Rattle.copies.specs.Flat.{flat_places}
use Rattle.copies.specs.Range.{copy_end_in}
use Rattle.units.specs.declared.Extractor.{Extractor}

abbrev pub unit_bytes : Sample → ℕ → List ℕ
unit_bytes z q = part z.content (q + L z) (size z q)

abbrev pub is_plain : Sample → ℕ → Bool
is_plain z q = not (is_aggregator z q) && not (is_extractor z q) && (next z q ≤? end z)

abbrev pub plain_units : Sample → ℕ → ℕ → List ℕ
plain_units z a e = keep (is_plain z) (flat_places z a e)

-- what was found at q, of what ends at e: q itself, or nothing where q is e
abbrev pub FoundAt : Option ℕ → ℕ → ℕ → Type 0
FoundAt None q e = q ≡ e
FoundAt (Some p) q e = (p ≡ q) × (p < e)

unfoldable pub copied_unit : Sample → ℕ → ℕ → ℕ → List ℕ
copied_unit z o n k = nth (map (unit_bytes z) (plain_units z o (copy_end_in z o n))) k []

abbrev pub extracted_by : Option Extractor → Sample → ℕ → List ℕ
extracted_by None z k = []
extracted_by (Some f) z k = copied_unit z f.data_offset.0 f.data_length k

unfoldable pub extracted : Sample → ℕ → Sample → ℕ → List ℕ
extracted x p z k = extracted_by (extractor_at x (end x) p) z k
