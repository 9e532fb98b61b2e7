-- A walk over all units of a well-formed sample x that looks for the extractors that name sample s. Assumes nothing.
--
--   names_refused, names_sample_lem                                      an extractor by what it names
--   names_other                                                          no other unit names a sample
--   from_end, from_skip, from_yes, from_no                               what is left from p on
--   namers_formed, namers_not                                            in a well-formed sample they are those of the naming list; in another there are none
--   list_none, list_append                                               entries one after the other
--   Looking, looking_start, -skip, -pass, -take, -few, -count, -written  a loop that looks for them, counts them and writes their entries
use Prim.Native.Nat.{ℕ, suc, ◌+◌, ◌*◌, ◌≤◌, ◌<◌}
use mathlib.Core.Path.{◌≡◌, refl, ap, sym, ◌∙◌}
use mathlib.Core.List.{List, [], ◌∷◌, ◌++◌, map, append_assoc, append-nil, Memᴰ}
use mathlib.Core.Bool.{true, false, ◌&&◌}
use native.Mathlib.Omega.{arith}
use borrow.Author.Tests.{ne_eqb}
use lib.ListN.{length, length-append, length-map}
use Rattle.words.specs.Tests.{◌≡?◌, pick}
use Rattle.words.specs.Refusals.{refused, ok}
use Rattle.words.specs.Lists.{keep, each}
use Rattle.words.specs.Bytes.{bytes}
use Rattle.words.specs.Buffers.{write_at, put}
use Rattle.words.proofs.Tests.{by_bool}
use Rattle.words.proofs.Lists.{keep_mem, each_append}
use Rattle.words.proofs.Kept.{keep_yes, keep_no, keep_same}
use Rattle.words.proofs.Joined.{keep_and}
use Rattle.words.proofs.Entries.{map_append}
use Rattle.words.proofs.Numbered.{put_after}
use Rattle.words.proofs.Bytes.{bytes_length}
use Rattle.words.proofs.Buffers.{write_none, put_length}
use Rattle.numbers.proofs.Laws.{L_some}
use Rattle.units.specs.Units.{Sample, end, next, is_aggregator, is_extractor, unit_fault}
use Rattle.units.specs.Aggregators.{included_start, units, extractors}
use Rattle.units.specs.Steps.{extractor_at}
use Rattle.units.specs.declared.Extractor.{Extractor}
use Rattle.samples.specs.Check.{check}
use Rattle.samples.proofs.Laws.{extractor_step}
use Rattle.bundles.specs.Recordings.{Layout, Recording}
use Rattle.links.specs.Links.{sample_named, name_fault}
use Rattle.copies.proofs.Flat.{flat_aggregator, flat_other, flat_end, flat_step_lem, sample_borders, flat_units, Walking, walking_start}
use Rattle.copies.proofs.Rest.{walking_skip, walking_take}
use Rattle.resolution_rules.specs.Resolving.{own, named, name_fault_at}
use Rattle.resolution_rules.proofs.Delivered.{aggregator_only}
use Rattle.naming_list_rules.specs.Naming.{Namer, namer, names_sample, namers_in, entry_bytes, list_bytes, list_entry_size}
use Rattle.naming_list_rules.proofs.Listing.{list_size_lem}
use Rattle.naming_list.specs.Steps.{names_with, names_at, namers_from, with_entry}

-- an extractor by what it names
module _ (y : Layout) (s n : ℕ) (f : Extractor) where
  pub names_refused : {g : ℕ} → name_fault y n f.track_ref_index f.sample_offset ≡ g → 0 < g → names_with y s n f ≡ false
  unfolding names_with
  names_refused {g} e h = rw (e, ne_eqb g 0 (λ z. omega arith))

  pub names_sample_lem : {m : ℕ} → name_fault y n f.track_ref_index f.sample_offset ≡ 0 → sample_named y n f.track_ref_index f.sample_offset ≡ m → names_with y s n f ≡ (m ≡? s)
  unfolding names_with
  names_sample_lem e g = rw (e, g)

-- no other unit names a sample
pub names_other : (y : Layout) (s n : ℕ) (x : Sample) (p : ℕ) → is_extractor x p ≡ false → names_at y s n x p ≡ false
unfolding names_at extractor_at
names_other y s n x p t = by_bool (unit_fault x (end x) p ≡? 0) (λ u. rw (u, t)) (λ u. rw u)

module _ (y : Layout) (s n : ℕ) (x : Sample) where
  pub from_end : (p : ℕ) → end x ≤ p → namers_from y s n x p ≡ []
  unfolding keep
  from_end p h = rw (flat_end x p (end x) h)

  module _ (p : ℕ) (h : p < end x) where
    pub from_skip : is_aggregator x p ≡ true → namers_from y s n x p ≡ namers_from y s n x (included_start x p)
    from_skip t = rw (flat_step_lem x p (end x) h, flat_aggregator x p t) (keep_no (names_at y s n x) p _ (names_other y s n x p (aggregator_only x p t)))

    module _ (t : is_aggregator x p ≡ false) where
      pub from_yes : names_at y s n x p ≡ true → namers_from y s n x p ≡ p ∷ namers_from y s n x (next x p)
      from_yes g = rw (flat_step_lem x p (end x) h, flat_other x p t) (keep_yes (names_at y s n x) p _ g)

      pub from_no : names_at y s n x p ≡ false → namers_from y s n x p ≡ namers_from y s n x (next x p)
      from_no g = rw (flat_step_lem x p (end x) h, flat_other x p t) (keep_no (names_at y s n x) p _ g)

-- those of the naming list
module _ (r : Recording) (s n : ℕ) where
  at_names : check (own r n) ≡ ok tt → (p : ℕ) → Memᴰ p (units (own r n)) → names_at r.layout s n (own r n) p ≡ (is_extractor (own r n) p && names_sample r s n p)
  unfolding names_at names_with name_fault_at named extractors
  at_names f p m = by_bool (is_extractor (own r n) p)
      (λ t. rw (t, extractor_step (own r n) f p (keep_mem (is_extractor (own r n)) (units (own r n)) m t)))
      (λ t. rw t (names_other r.layout s n (own r n) p t))

  pub namers_formed : (x : Sample) → x ≡ own r n → check x ≡ ok tt → namers_from r.layout s n x 0 ≡ namers_in r s n
  unfolding namers_in extractors
  namers_formed x e f =
      let g : check (own r n) ≡ ok tt = rw e at f in
      rw (e, g)
      (ap (keep (names_at r.layout s n (own r n))) (sym (flat_units (own r n) g))
      ∙ keep_same _ _ (units (own r n)) (at_names g)
      ∙ keep_and (is_extractor (own r n)) (names_sample r s n) (units (own r n)))

  pub namers_not : (x : Sample) → x ≡ own r n → {m q : ℕ} → check x ≡ refused m q → namers_in r s n ≡ []
  unfolding namers_in
  namers_not x e {m} {q} f = let g : check (own r n) ≡ refused m q = rw e at f in rw g

-- entries one after the other
pub list_none : list_bytes [] ≡ []
unfolding list_bytes each
list_none = refl

pub list_append : (xs ys : List Namer) → list_bytes (xs ++ ys) ≡ list_bytes xs ++ list_bytes ys
unfolding list_bytes
list_append xs ys = each_append entry_bytes xs ys

list_one : (e : Namer) → list_bytes (e ∷ []) ≡ bytes 2 e.sample ++ bytes 4 e.place
unfolding list_bytes each
list_one e = append-nil _

-- A loop over all units that has come to p: count entries, those of `done`, are written from `at` on where there is room for all.
module _ (y : Layout) (s n : ℕ) (x : Sample) (o : List ℕ) (at : ℕ) where
  abbrev all : List ℕ
  all = namers_from y s n x 0

  pub record Looking (p count : ℕ) (out : List ℕ) : Type 0 where
    pub walking : Walking x (end x) p
    pub done : List ℕ
    pub number : count ≡ length done
    pub split : namers_from y s n x 0 ≡ done ++ namers_from y s n x p
    pub few : count ≤ p
    pub size : length out ≡ length o
    pub written : at + length (namers_from y s n x 0) * list_entry_size ≤ length o → out ≡ write_at o at (list_bytes (map (namer n) done))

  pub looking_start : check x ≡ ok tt → Looking 0 0 o
  looking_start f =
      record {
        walking = walking_start x 0 (end x) (sample_borders x f);
        done = [];
        number = refl;
        split = refl;
        few = omega arith;
        size = refl;
        written = λ h. rw list_none (write_none o at);
      }

  module _ (p count : ℕ) (out : List ℕ) (c : Looking p count out) where
    pub looking_skip : p < end x → is_aggregator x p ≡ true → Looking (included_start x p) count out
    looking_skip h t =
        record {
          walking = walking_skip x (end x) p c.walking h t;
          done = c.done;
          number = c.number;
          split = rw (from_skip y s n x p h t) at c.split;
          few = omega (arith, c.few);
          size = c.size;
          written = c.written;
        }

    -- no more entries than bytes
    pub looking_few : count ≤ end x
    looking_few = let w = c.walking.inside in let f = c.few in omega arith

    module _ (h : p < end x) (t : is_aggregator x p ≡ false) where
      looking_no : names_at y s n x p ≡ false → Looking (next x p) count out
      looking_no g =
          let l = L_some x.length_size in
          record {
            walking = walking_take x (end x) p c.walking h t;
            done = c.done;
            number = c.number;
            split = rw (from_no y s n x p h t g) at c.split;
            few = omega (arith, c.few);
            size = c.size;
            written = c.written;
          }

      abbrev place : ℕ
      place = at + count * list_entry_size

      abbrev after : List ℕ
      after = with_entry out place n p

      looking_yes : names_at y s n x p ≡ true → Looking (next x p) (count + 1) after
      looking_yes g =
          let l = L_some x.length_size in
          let e = from_yes y s n x p h t g in
          let d : length (c.done ++ (p ∷ [])) ≡ length c.done + 1 = length-append c.done (p ∷ []) in
          let q = c.number in
          record {
            walking = walking_take x (end x) p c.walking h t;
            done = c.done ++ (p ∷ []);
            number = omega arith;
            split = c.split ∙ ap (λ l. c.done ++ l) e ∙ sym (append_assoc c.done (p ∷ []) (namers_from y s n x (next x p)));
            few = omega (arith, c.few);
            size = put_length (put out place (bytes 2 n)) (place + 2) (bytes 4 p) ∙ put_length out place (bytes 2 n) ∙ c.size;
            written = λ r.
                let B = list_bytes (map (namer n) c.done) in
                let a : length (namers_from y s n x 0) ≡ length c.done + suc (length (namers_from y s n x (next x p))) = ap length (c.split ∙ ap (λ l. c.done ++ l) e) ∙ length-append c.done (p ∷ namers_from y s n x (next x p)) in
                let b : length B ≡ length c.done * list_entry_size = list_size_lem (map (namer n) c.done) ∙ rw (length-map c.done (namer n)) in
                let b2 : length (B ++ bytes 2 n) ≡ length B + 2 = length-append B (bytes 2 n) ∙ rw (bytes_length 2 n) in
                let b4 = bytes_length 4 p in
                let u2 = bytes_length 2 n in
                let w : put out place (bytes 2 n) ≡ write_at o at (B ++ bytes 2 n) = rw (c.written r) (put_after o B (bytes 2 n) at place (omega arith) (omega arith)) in
                let v : after ≡ write_at o at (B ++ bytes 2 n ++ bytes 4 p) = rw w (put_after o (B ++ bytes 2 n) (bytes 4 p) at (place + 2) (omega arith) (omega arith)) in
                let z : list_bytes (map (namer n) (c.done ++ (p ∷ []))) ≡ B ++ bytes 2 n ++ bytes 4 p =
                rw (map_append (namer n) c.done (p ∷ []), list_append (map (namer n) c.done) (namer n p ∷ []), list_one (namer n p)) (sym (append_assoc B (bytes 2 n) (bytes 4 p))) in
                v ∙ ap (write_at o at) (sym z);
          }

      pub looking_pass : is_extractor x p ≡ false → Looking (next x p) count out
      looking_pass g = looking_no (names_other y s n x p g)

      pub looking_take : {f : ℕ} → f ≡ pick (names_at y s n x p) 1 0 → Looking (next x p) (count + f) (pick (names_at y s n x p) after out)
      looking_take e = by_bool (names_at y s n x p)
          (λ t. rw (t, rw t at e) (looking_yes t))
          (λ t. let z : count + 0 ≡ count = omega arith in rw (t, rw t at e, z) (looking_no t))

    whole : end x ≤ p → namers_from y s n x 0 ≡ c.done
    whole h = c.split ∙ rw (from_end y s n x p h) (append-nil c.done)

    pub looking_count : end x ≤ p → count ≡ length (namers_from y s n x 0)
    looking_count h = c.number ∙ ap length (sym (whole h))

    pub looking_written : end x ≤ p → at + count * list_entry_size ≤ length o → out ≡ write_at o at (list_bytes (map (namer n) (namers_from y s n x 0)))
    looking_written h f =
        let e = looking_count h in
        c.written (omega arith) ∙ ap (λ (l : List ℕ). write_at o at (list_bytes (map (namer n) l))) (sym (whole h))
