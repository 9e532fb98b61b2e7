-- The two loops over the top-level units of a sample x, which are whole. Assumes nothing.
--
--   left_size_lem, list_size_lem                            how many bytes are left of a unit, and listed of it
--   new_start, -end, -step                                  what is left of the units from a place on
--   list_start, -end, -step                                 what is listed of them
--   Walking, walking_start, -whole, -has, -next             a loop that has come to a place
--   Measuring, measuring_start, -next, -end                 the loop that judges
--   Writing, writing_start, -room, -list-room, -next, -end  the loop that writes
use Prim.Native.Nat.{ℕ, ◌+◌, ◌-◌, ◌*◌, ◌≤◌, ◌<◌}
use mathlib.Core.Path.{◌≡◌, refl, ap, sym, ◌∙◌}
use mathlib.Core.List.{List, [], ◌++◌}
use mathlib.Core.Bool.{true}
use native.Mathlib.Omega.{arith}
use lib.ListN.{length, length-append}
use Rattle.words.specs.Refusals.{ok}
use Rattle.words.specs.Lists.{has, each}
use Rattle.words.specs.Buffers.{put, overwrite}
use Rattle.words.proofs.Lists.{each_append}
use Rattle.units.specs.Units.{Sample, end, next, places, top_units}
use Rattle.units.specs.Rules.{Whole}
use Rattle.units.proofs.Units.{next_after, whole_end}
use Rattle.units.proofs.Walks.{places_end, places_step, Reached, reached_start, reached_next, reached_mem}
use Rattle.samples.specs.Check.{top_verdict}
use Rattle.samples.proofs.Walks.{top_whole, top_has}
use Rattle.salvage_rules.specs.declared.Fate.{Fate}
use Rattle.salvage_rules.specs.declared.Fate.TheVariants.{Kept, Dropped, Zeroed}
use Rattle.salvage_rules.specs.Salvage.{fate, new_bytes, new_content, change_at, change_size, change_bytes, change_list_bytes}
use Rattle.salvage_rules.proofs.Units.{by_fate, new_by, change_by, inside_ok, unit_length, zeroed_length}
use Rattle.salvage_rules.proofs.Reasons.{loses_aggregator}
use Rattle.salvage_rules.proofs.Reading.{list_length}
use Rattle.salvage.specs.Steps.{left_size, list_size, new_from, list_from}
use Rattle.salvage.proofs.Filled.{Filled, filled_start, filled_length, filled_room, filled_put, filled_end}

module _ (x : Sample) where
  -- what is left of a unit, and listed of it
  pub left_size_lem : (p : ℕ) → Whole x (end x) p → left_size (fate x p) (next x p - p) ≡ length (new_bytes x p)
  left_size_lem p w =
      let n = unit_length x p w in
      by_fate x p
      (λ d e. rw (e, new_by x p Dropped e))
      (λ d l e. let z = zeroed_length x p w (inside_ok x p d) (loses_aggregator x p l) in rw (e, new_by x p Zeroed e) (omega arith))
      (λ d l e. rw (e, new_by x p Kept e) (omega arith))

  pub list_size_lem : (p : ℕ) → list_size (fate x p) ≡ length (change_list_bytes (change_at x p))
  list_size_lem p = by_fate x p
      (λ d e. rw (e, change_by x p Dropped e) (sym (list_length _)))
      (λ d l e. rw (e, change_by x p Zeroed e) (sym (list_length _)))
      (λ d l e. rw (e, change_by x p Kept e) (sym (list_length _)))

  -- and of those from a place on
  pub new_start : new_content x ≡ new_from x 0
  unfolding new_from new_content top_units
  new_start = refl

  pub new_end : (p : ℕ) → end x ≤ p → new_from x p ≡ []
  unfolding new_from each
  new_end p h = rw (places_end x p (end x) h)

  pub new_step : (p : ℕ) → p < end x → new_from x p ≡ new_bytes x p ++ new_from x (next x p)
  unfolding new_from each
  new_step p h = rw (places_step x p (end x) h)

  pub list_start : list_from x 0 ≡ change_list_bytes (each (change_at x) (top_units x))
  unfolding list_from top_units
  list_start = refl

  pub list_end : (p : ℕ) → end x ≤ p → list_from x p ≡ []
  unfolding list_from change_list_bytes each
  list_end p h = rw (places_end x p (end x) h)

  pub list_step : (p : ℕ) → p < end x → list_from x p ≡ change_list_bytes (change_at x p) ++ list_from x (next x p)
  unfolding list_from change_list_bytes each
  list_step p h = rw (places_step x p (end x) h) (each_append change_bytes (change_at x p) (each (change_at x) (places x (next x p) (end x))))

  -- a loop over the units
  pub record Walking (p : ℕ) : Type 0 where
    pub good : top_verdict x ≡ ok tt
    pub reached : Reached x p
    pub inside : p ≤ end x

  walking_start : top_verdict x ≡ ok tt → Walking 0
  walking_start e = record { good = e; reached = reached_start x; inside = omega arith }

  module _ (p : ℕ) (w : Walking p) (h : p < end x) where
    pub walking_whole : Whole x (end x) p
    walking_whole = top_whole x w.good p (reached_mem x p w.reached h)

    pub walking_has : has p (top_units x) ≡ true
    walking_has = top_has x p w.reached h

    walking_next : Walking (next x p)
    walking_next = record { good = w.good; reached = reached_next x p h w.reached; inside = (whole_end x (end x) p walking_whole).1 }

  -- how many bytes are left and listed so far
  pub record Measuring (p left listed : ℕ) : Type 0 where
    pub walking : Walking p
    pub new : left + length (new_from x p) ≡ length (new_content x)
    pub list : listed + length (list_from x p) ≡ length (list_from x 0)
    pub small : left ≤ p
    pub few : listed ≤ change_size * p

  pub measuring_start : top_verdict x ≡ ok tt → Measuring 0 0 0
  measuring_start e = let n = ap length new_start in record { walking = walking_start e; new = omega arith; list = omega arith; small = omega arith; few = omega arith }

  module _ (p left listed : ℕ) (c : Measuring p left listed) where
    pub measuring_end : end x ≤ p → (left ≡ length (new_content x)) × (listed ≡ length (list_from x 0)) × (listed ≤ change_size * end x)
    measuring_end h =
        let n = c.new in let l = c.list in let f = c.few in let i = c.walking.inside in
        let a = ap length (new_end p h) in
        let b = ap length (list_end p h) in
        (omega arith, omega arith, omega arith)

    module _ (h : p < end x) (f : Fate) (e : f ≡ fate x p) where
      fate_small : (left_size f (next x p - p) ≤ next x p - p) × (list_size f ≤ change_size)
      fate_small = by_fate x p
          (λ d g. rw (e, g) (omega arith, omega arith))
          (λ d l g. rw (e, g) (omega arith, omega arith))
          (λ d l g. rw (e, g) (omega arith, omega arith))

      -- the sums stay small
      pub measuring_fits : (left + left_size f (next x p - p) ≤ next x p) × (listed + list_size f ≤ change_size * next x p) × (next x p ≤ end x)
      measuring_fits =
          let s = c.small in let g = c.few in let n = next_after x p in
          let m = fate_small in
          let w = whole_end x (end x) p (walking_whole p c.walking h) in
          (omega arith, omega arith, w.1)

      pub measuring_next : Measuring (next x p) (left + left_size f (next x p - p)) (listed + list_size f)
      measuring_next =
          let n = c.new in let l = c.list in
          let m = measuring_fits in
          let a : length (new_from x p) ≡ length (new_bytes x p) + length (new_from x (next x p)) = ap length (new_step p h) ∙ length-append (new_bytes x p) (new_from x (next x p)) in
          let b : length (list_from x p) ≡ length (change_list_bytes (change_at x p)) + length (list_from x (next x p)) = ap length (list_step p h) ∙ length-append (change_list_bytes (change_at x p)) (list_from x (next x p)) in
          let u : left_size f (next x p - p) ≡ length (new_bytes x p) = rw e (left_size_lem p (walking_whole p c.walking h)) in
          let v : list_size f ≡ length (change_list_bytes (change_at x p)) = rw e (list_size_lem p) in
          record { walking = walking_next p c.walking h; new = omega arith; list = omega arith; small = m.0; few = m.1 }

  -- what is written of both so far: over the buffers a and b, which are now out and list
  module _ (a b : List ℕ) where
    pub record Writing (p o c : ℕ) (out list : List ℕ) : Type 0 where
      pub walking : Walking p
      pub new : Filled a (new_content x) (new_from x p) o out
      pub changed : Filled b (list_from x 0) (list_from x p) c list

    pub writing_start : top_verdict x ≡ ok tt → length (new_content x) ≤ length a → length (list_from x 0) ≤ length b → Writing 0 0 0 a b
    writing_start e h l = record {
      walking = walking_start e;
      new = filled_start a (new_content x) (new_from x 0) new_start h;
      changed = filled_start b (list_from x 0) (list_from x 0) refl l;
    }

    module _ (p o c : ℕ) (out list : List ℕ) (w : Writing p o c out list) where
      pub writing_lengths : (length out ≡ length a) × (length list ≡ length b)
      writing_lengths = (filled_length a (new_content x) (new_from x p) o out w.new, filled_length b (list_from x 0) (list_from x p) c list w.changed)

      pub writing_end : end x ≤ p → (c ≡ length (list_from x 0)) × (out ≡ overwrite a (new_content x)) × (list ≡ overwrite b (list_from x 0))
      writing_end h =
          let l = filled_end b (list_from x 0) (list_from x p) c list w.changed (list_end p h) in
          (l.0, (filled_end a (new_content x) (new_from x p) o out w.new (new_end p h)).1, l.1)

      module _ (h : p < end x) where
        pub writing_room : o + length (new_bytes x p) ≤ length out
        writing_room =
            let n = writing_lengths.0 in
            let r = filled_room a (new_content x) (new_from x p) o out w.new (new_bytes x p) (new_from x (next x p)) (new_step p h) in
            omega arith

        module _ (f : Fate) (e : f ≡ fate x p) where
          left_is : left_size f (next x p - p) ≡ length (new_bytes x p)
          left_is = rw e (left_size_lem p (walking_whole p w.walking h))

          list_is : list_size f ≡ length (change_list_bytes (change_at x p))
          list_is = rw e (list_size_lem p)

          pub writing_fits : (o + left_size f (next x p - p) ≤ length out) × (c + list_size f ≤ length list)
          writing_fits =
              let n = writing_lengths.1 in
              let l = left_is in
              let m = list_is in
              let q = writing_room in
              let r = filled_room b (list_from x 0) (list_from x p) c list w.changed (change_list_bytes (change_at x p)) (list_from x (next x p)) (list_step p h) in
              (omega arith, omega arith)

          pub writing_next : Writing (next x p) (o + left_size f (next x p - p)) (c + list_size f) (put out o (new_bytes x p)) (put list c (change_list_bytes (change_at x p)))
          writing_next = record {
            walking = walking_next p w.walking h;
            new = rw left_is (filled_put a (new_content x) (new_from x p) o out w.new (new_bytes x p) (new_from x (next x p)) (new_step p h));
            changed = rw list_is (filled_put b (list_from x 0) (list_from x p) c list w.changed (change_list_bytes (change_at x p)) (list_from x (next x p)) (list_step p h));
          }
