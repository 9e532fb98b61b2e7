-- The steps of the code on the top-level units of a sample y, in the words of the crate salvage_rules, and the code's answers.
--
--   TopUnit y p               a top-level unit, in a sample whose top-level units are whole
--   left_size f n             how many bytes are left of a unit of n bytes
--   list_size f               how many bytes are listed of it
--   new_from, list_from y p   what is left, and listed, of the units from p on
--   counts_of, all_counts_of  the code's answers in these words
use Rattle.std.specs.Prelude.{ℕ, ◌≡◌, List, [], ◌∷◌, true, Err, Ok, Result}
use Rattle.words.specs.Refusals.{Answer, refused, ok}
use Rattle.words.specs.Lists.{has, each}
use Rattle.units.specs.Units.{Sample, end, places, top_units}
use Rattle.samples.specs.Check.{top_verdict}
use Rattle.salvage_rules.specs.declared.Fate.{Fate}
use Rattle.salvage_rules.specs.declared.Fate.TheVariants.{Kept, Dropped, Zeroed}
use Rattle.salvage_rules.specs.Salvage.{new_bytes, change_at, change_size, change_list_bytes}
use Rattle.salvage.specs.declared.Counts.{Counts}
use Rattle.numbers.specs.declared.Refusal.{Refusal}
use Rattle.salvage.specs.declared.AllCounts.{AllCounts}

abbrev pub TopUnit : Sample → ℕ → Type 0
TopUnit y p = (top_verdict y ≡ ok tt) × (has p (top_units y) ≡ true)

abbrev pub left_size : Fate → ℕ → ℕ
left_size Kept n = n
left_size Dropped n = 0
left_size Zeroed n = n

abbrev pub list_size : Fate → ℕ
list_size Kept = 0
list_size Dropped = change_size
list_size Zeroed = change_size

unfoldable pub new_from : Sample → ℕ → List ℕ
new_from y p = each (new_bytes y) (places y p (end y))

unfoldable pub list_from : Sample → ℕ → List ℕ
list_from y p = change_list_bytes (each (change_at y) (places y p (end y)))

abbrev pub counts_of : Result Counts Refusal → Answer (List ℕ)
counts_of (Err f) = refused f.number f.place.0
counts_of (Ok c) = ok (c.sample ∷ c.changes ∷ [])

abbrev pub all_counts_of : Result AllCounts Refusal → Answer (List ℕ)
all_counts_of (Err f) = refused f.number f.place.0
all_counts_of (Ok c) = ok (c.sample ∷ c.changes ∷ c.names ∷ [])
