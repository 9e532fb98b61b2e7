-- By what becomes of the unit. Assumes nothing.
use native.Mathlib.Omega.{arith}
use Prim.Native.Nat.{ℕ, ◌+◌, ◌≤◌}
use mathlib.Core.Path.{◌≡◌, refl, sym, ◌∙◌}
use mathlib.Core.List.{List, [], ◌∷◌, append-nil}
use Rattle.words.specs.Lists.{each}
use Rattle.words.specs.Buffers.{put}
use Rattle.units.specs.Units.{Sample}
use Rattle.salvage_rules.specs.declared.Fate.{Fate}
use Rattle.salvage_rules.specs.declared.Fate.TheVariants.{Kept, Dropped, Zeroed}
use Rattle.salvage_rules.specs.Salvage.{Change, change, a_drop, a_zeroing, fate, change_at, change_size, change_bytes, change_list_bytes}
use Rattle.salvage_rules.proofs.Units.{change_by}
use Rattle.salvage.specs.Steps.{list_size}
use Rattle.salvage.proofs.Filled.{put_none}
use Rattle.salvage.proofs.writing.put_fate.Goals as goal

-- a list of one change, and of none
one : (c : Change) → change_bytes c ≡ change_list_bytes (c ∷ [])
unfolding change_list_bytes each
one c = sym (append-nil (change_bytes c))

none : (x : Sample) (p : ℕ) (o : List ℕ) (c : ℕ) → fate x p ≡ Kept → o ≡ put o c (change_list_bytes (change_at x p))
unfolding change_list_bytes each
none x p o c e = rw (change_by x p Kept e) (put_none o c)

room : (f g : Fate) (c n : ℕ) → f ≡ g → list_size g ≡ change_size → c + list_size f ≤ n → c + change_size ≤ n
room f g c n e h l = let z : list_size f ≡ change_size = rw e h in omega arith

pub put_change-requires : goal.put_change-requires
put_change-requires c = room _ Dropped _ _ c.in-Dropped.is refl c.requires.1

pub put_change-requires-in-Zeroed : goal.put_change-requires-in-Zeroed
put_change-requires-in-Zeroed c = room _ Zeroed _ _ c.in-Zeroed.is refl c.requires.1

pub returns-in-Kept : goal.returns-in-Kept
returns-in-Kept c = none _ _ _ _ (sym c.requires.0 ∙ c.in-Kept.is)

pub returns-in-Dropped : goal.returns-in-Dropped
returns-in-Dropped c = rw (change_by _ _ Dropped (sym c.requires.0 ∙ c.in-Dropped.is), ← one (change a_drop c.args.at)) c.put_change.ensures

pub returns-in-Zeroed : goal.returns-in-Zeroed
returns-in-Zeroed c = rw (change_by _ _ Zeroed (sym c.requires.0 ∙ c.in-Zeroed.is), ← one (change a_zeroing c.args.at)) c.put_change-in-Zeroed.ensures
