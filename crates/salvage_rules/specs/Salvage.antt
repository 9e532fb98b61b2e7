-- Salvage (02, [11]): of a damaged sample what is whole, and a list of what is dropped or changed.
--
--   holding x s                      the bytes s as a sample of x's track
--   first_fault, cut                 where the first top-level fault is, or the end; the sample as if it ended there
--   whole_units                      the top-level units before it
--   is_dropped p, loses_cover p      the two rules for a top-level unit
--   fate p                           what becomes of it: kept, dropped, or kept with additional_bytes 0
--   unit_bytes p, zeroed_bytes p     a unit with its length field: as it is; with additional_bytes 0
--   left_by f p, new_bytes p         what is left of it, by its fate
--   new_content                      what is left of all
--   Change                           a change that is listed
--   listed_by f p, change_at p       what is listed of a unit, by its fate
--   salvaged, tail_drop, changes     the new sample; what is listed of the rest; the list
--   listed, applied                  whether a list has a change; what a list makes of an old sample
--   change_bytes, change_list_bytes  a change as it is written, 5 bytes; the list
--   changes_in                       the list that bytes say
use Rattle.std.specs.Prelude.{ℕ, zero, suc, ◌+◌, ◌-◌, ◌/◌, List, [], ◌∷◌, ◌++◌, Bool, ◌&&◌, ◌||◌, not, length, take, drop}
use Rattle.words.specs.Tests.{pick, ◌<?◌, ◌≡?◌}
use Rattle.words.specs.Refusals.{refused, ok, Verdict, passed}
use Rattle.words.specs.Lists.{keep, some, each}
use Rattle.words.specs.Bytes.{big, bytes, part, splice}
use Rattle.numbers.specs.Places.{place_size}
use Rattle.numbers.specs.Sizes.{header_size}
use Rattle.units.specs.Units.{Sample, L, end, next, is_aggregator, top_units, top_between}
use Rattle.units.specs.Aggregators.{cover_end, cover_fault}
use Rattle.samples.specs.Check.{inside_verdict, top_verdict}
use Rattle.salvage_rules.specs.declared.Fate.{Fate}
use Rattle.salvage_rules.specs.declared.Fate.TheVariants.{Kept, Dropped, Zeroed}

-- Other bytes as a sample of the same track.
abbrev pub holding : Sample → List ℕ → Sample
holding x s = record { kind = x.kind; length_size = x.length_size; content = s }

-- The place of a refusal, else e.
abbrev pub place_or : ℕ → Verdict → ℕ
place_or e (refused n p) = p
place_or e (ok u) = e

module _ (x : Sample) where
  -- Where the first top-level fault is: 14 to 18 of a top-level unit. Without one, the end.
  unfoldable pub first_fault : ℕ
  first_fault = place_or (end x) (top_verdict x)

  -- The sample as if it ended there, and the top-level units before it.
  unfoldable pub cut : Sample
  cut = holding x (take first_fault x.content)

  abbrev pub whole_units : List ℕ
  whole_units = top_units cut

-- A change that is listed: 1 for a drop, 2 for a zeroing; the place in the old sample.
abbrev pub a_drop : ℕ
a_drop = 1

abbrev pub a_zeroing : ℕ
a_zeroing = 2

pub record Change : Type 0 where
  pub what : ℕ
  pub place : ℕ

abbrev pub change : ℕ → ℕ → Change
change w p = record { what = w; place = p }

-- Of a sample y whose top-level units have none of 14 to 18:
module _ (y : Sample) where
  -- a unit with an inside fault, 14 to 20 or 22, is dropped;
  unfoldable pub is_dropped : ℕ → Bool
  is_dropped p = not (passed (inside_verdict y p))

  -- in a kept aggregator additional_bytes become 0 where 21 arises, or where a unit that it covers is dropped;
  unfoldable pub loses_cover : ℕ → Bool
  loses_cover p = is_aggregator y p && (not (cover_fault y p ≡? 0) || some is_dropped (top_between y (next y p) (cover_end y p)))

  -- and all others are kept as they are.
  unfoldable pub fate : ℕ → Fate
  fate p = pick (is_dropped p) Dropped (pick (loses_cover p) Zeroed Kept)

  -- The unit at p with its length field: as it is, and with additional_bytes 0.
  unfoldable pub unit_bytes : ℕ → List ℕ
  unit_bytes p = part y.content p (next y p - p)

  unfoldable pub zeroed_bytes : ℕ → List ℕ
  zeroed_bytes p = splice (unit_bytes p) (L y + header_size) (bytes (L y) 0)

  -- What is left of it, and what is listed of it.
  abbrev pub left_by : Fate → ℕ → List ℕ
  left_by Kept p = unit_bytes p
  left_by Dropped p = []
  left_by Zeroed p = zeroed_bytes p

  unfoldable pub new_bytes : ℕ → List ℕ
  new_bytes p = left_by (fate p) p

  abbrev pub listed_by : Fate → ℕ → List Change
  listed_by Kept p = []
  listed_by Dropped p = change a_drop p ∷ []
  listed_by Zeroed p = change a_zeroing p ∷ []

  unfoldable pub change_at : ℕ → List Change
  change_at p = listed_by (fate p) p

  unfoldable pub new_content : List ℕ
  new_content = each new_bytes (top_units y)

module _ (x : Sample) where
  -- The new sample.
  abbrev pub salvaged : Sample
  salvaged = holding x (new_content (cut x))

  -- The bytes from the first top-level fault on are one drop.
  unfoldable pub tail_drop : List Change
  tail_drop = pick (first_fault x <? end x) (change a_drop (first_fault x) ∷ []) []

  -- The list, by place.
  unfoldable pub changes : List Change
  changes = each (change_at (cut x)) (whole_units x) ++ tail_drop

-- What a list says of a place.
unfoldable pub listed : ℕ → ℕ → List Change → Bool
listed w p cs = some (λ c. (c.what ≡? w) && (c.place ≡? p)) cs

-- What a list makes of the old sample x. A drop at the first top-level fault cuts off all from there on; where it is not listed, that
-- stays. Of each unit before it nothing is left where its drop is listed, and additional_bytes are 0 where a zeroing is.
module _ (x : Sample) (cs : List Change) where
  unfoldable pub listed_end : ℕ
  listed_end = pick (listed a_drop (first_fault x) cs) (first_fault x) (end x)

  abbrev pub applied_at : ℕ → List ℕ
  applied_at p =
      pick (listed a_drop p cs) []
      (pick (listed a_zeroing p cs) (zeroed_bytes x p)
      (unit_bytes x p))

  unfoldable pub applied : List ℕ
  applied = each applied_at (keep (λ p. p <? listed_end) (top_units x))

-- As it is written: 1 byte, then the place in 4.
abbrev pub change_size : ℕ
change_size = 1 + place_size

abbrev pub change_bytes : Change → List ℕ
change_bytes c = bytes 1 c.what ++ bytes place_size c.place

unfoldable pub change_list_bytes : List Change → List ℕ
change_list_bytes cs = each change_bytes cs

-- And read back: the first n changes that bytes say; all of them.
unfoldable pub first_changes : ℕ → List ℕ → List Change
first_changes zero b = []
first_changes (suc n) b = change (big b 0 1) (big b 1 place_size) ∷ first_changes n (drop change_size b)

abbrev pub changes_in : List ℕ → List Change
changes_in b = first_changes (length b / change_size) b
