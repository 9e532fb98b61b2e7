-- The list as bytes: how long it is, and that it is read back. Assumes nothing.
--
--   change_length, list_length     5 bytes a change
--   list_read                      a list whose places fit 4 bytes is read back
--   changes_read                   so is the list of a sample of at most 2 ^ 32 bytes
use Prim.Native.Nat.{ℕ, ◌+◌, ◌*◌, ◌/◌, ◌≤◌, ◌<◌}
use mathlib.Core.Path.{◌≡◌, refl, ap, ap₂, ◌∙◌, subst}
use mathlib.Core.List.{List, [], ◌∷◌, ◌++◌, append_assoc, append-nil, Memᴰ}
use native.Mathlib.Omega.{arith}
use lib.ListN.{length, length-append}
use lib.Seq.{drop_at}
use Rattle.words.specs.Lists.{each, ◌∈◌}
use Rattle.words.specs.Bytes.{big, bytes}
use Rattle.words.proofs.Bytes.{big_inside, bytes_length, big_bytes}
use Rattle.numbers.specs.Places.{place_size}
use Rattle.units.specs.Units.{Sample, end}
use Rattle.salvage_rules.specs.Salvage.{Change, changes, change_size, change_bytes, change_list_bytes, first_changes, changes_in}
use Rattle.salvage_rules.specs.Calls.{listable_most}
use Rattle.salvage_rules.proofs.Changes.{changes_inside}
use Rattle.salvage_rules.proofs.Reasons.{Listed, listed_from}

pub change_length : (c : Change) → length (change_bytes c) ≡ change_size
change_length c = length-append (bytes 1 c.what) (bytes place_size c.place) ∙ ap₂ ◌+◌ (bytes_length 1 c.what) (bytes_length place_size c.place)

pub list_length : (cs : List Change) → length (change_list_bytes cs) ≡ change_size * length cs
unfolding change_list_bytes each
list_length [] = refl
list_length (c ∷ cs) =
    let e = change_length c in
    let r = list_length cs in
    length-append (change_bytes c) (each change_bytes cs) ∙ omega arith

-- one change, then others
change_read : (w p : ℕ) (s : List ℕ) → w < 256 → p < listable_most → (big (bytes 1 w ++ bytes place_size p ++ s) 0 1 ≡ w) × (big (bytes 1 w ++ bytes place_size p ++ s) 1 place_size ≡ p)
change_read w p s g h =
    let a = bytes 1 w in
    let b = bytes place_size p in
    let l : length a ≡ 1 = bytes_length 1 w in
    let z : 1 ≡ length a + 0 = omega arith in
    rw (append_assoc a b s) (
      big_bytes 1 w (b ++ s) g,
      ap (λ (q : ℕ). big (a ++ (b ++ s)) q place_size) z ∙ big_inside (a ++ (b ++ s)) (length a) b s (drop_at a (b ++ s) (length a) refl) 0 place_size (rw (bytes_length place_size p) (omega arith)) ∙ first_is,
    )
  where
    first_is : big (bytes place_size p) 0 place_size ≡ p
    first_is = subst (λ (l : List ℕ). big l 0 place_size ≡ p) (append-nil (bytes place_size p)) (big_bytes place_size p [] h)

-- a change whose numbers fit their bytes
abbrev pub ChangeFits : Change → Type 0
ChangeFits c = (c.what < 256) × (c.place < listable_most)

first_read : (cs : List Change) → ((c : Change) → c ∈ cs → ChangeFits c) → first_changes (length cs) (change_list_bytes cs) ≡ cs
unfolding change_list_bytes first_changes each
first_read [] h = refl
first_read (c ∷ cs) h =
    let f = h c (Memᴰ.head refl) in
    let r = change_read c.what c.place (each change_bytes cs) f.0 f.1 in
    let below = first_read cs (λ d m. h d (Memᴰ.tail m)) in
    rw (r.0, r.1, drop_at (change_bytes c) (each change_bytes cs) change_size (change_length c)) (ap (λ (l : List Change). c ∷ l) below)

pub list_read : (cs : List Change) → ((c : Change) → c ∈ cs → ChangeFits c) → changes_in (change_list_bytes cs) ≡ cs
list_read cs h = ap (λ (n : ℕ). first_changes n (change_list_bytes cs)) count ∙ first_read cs h
  where
    count : length (change_list_bytes cs) / change_size ≡ length cs
    count = let e = list_length cs in omega arith

-- the list of a sample
what_fits : (x : Sample) (c : Change) → Listed x c → c.what < 256
what_fits x c (Listed.unit p m e) = omega arith
what_fits x c (Listed.cover p m e) = omega arith
what_fits x c (Listed.tail n v) = omega arith

pub changes_read : (x : Sample) → end x ≤ listable_most → changes_in (change_list_bytes (changes x)) ≡ changes x
changes_read x h = list_read (changes x) (λ c m. (what_fits x c (listed_from x c m), (let i = changes_inside x c m in omega arith)))
