-- Laws for the steps of the check. Assumes nothing.
--
--   at_count, at_entry, at_end               a section's verdict by its steps: refused at its count, refused at an entry, ended
--   walked_fault                             the next entry of a walk is refused
--   ended, refused_there, not_refused        what a section's answer says of its verdict
--   size_some, known_size_lem                L as a number, and as a length size
--   good_size                                L of a track entry without a refusal
--   track_at_lem                             a track by its number
--   Kept, kept_start, kept_next, kept_sizes  the length sizes of the tracks so far
--   size_on                                  the length size of a track that there is
--   total_start, total_next                  the sum of the lengths so far
use Rattle.std.specs.Prelude.{None, Option, Some}
use Prim.Native.Nat.{ℕ, zero, suc, ◌+◌, ◌-◌, ◌≤◌, ◌<◌}
use mathlib.Core.Path.{◌≡◌, refl, ap, sym, ◌∙◌}
use mathlib.Core.Bool.{false}
use mathlib.Core.List.{List, [], ◌∷◌, ◌++◌, map}
use native.Mathlib.Omega.{arith}
use native.Mathlib.Numerals.{add-one}
use borrow.Author.Count.{below_more}
use lib.ListN.{length, set, take, get_or-append}
use lib.Seq.{get_or-set_same, get_or-set_other}
use Rattle.words.specs.Refusals.{Answer, refused, ok, Verdict, ◌and_then◌, ◌at_place◌, first}
use Rattle.words.specs.Lists.{nth, sum, upto}
use Rattle.words.specs.Walks.{skip, entries}
use Rattle.words.specs.Bytes.{byte_at}
use Rattle.words.proofs.Refusals.{at_from, ok_same, ok_refused}
use Rattle.numbers.specs.Sizes.{in_bytes, length_size_of}
use Rattle.numbers.specs.declared.Kind.{Kind}
use Rattle.record_rules.specs.Read.{length_size}
use Rattle.record_rules.proofs.Parsed.{parsed, length_size_most}
use Rattle.bundles.specs.Recordings.{no_track}
use Rattle.bundles.specs.Tracks.{track_count, tracks_at, track_end, kind_at, record_at, record_fault_as, known_kind, known_size, size_at, track_fault, track_on, track_places, tracks}
use Rattle.bundles.specs.References.{no_such_track, length_size_on}
use Rattle.bundles.specs.Samples.{entry_at, length_at}
use Rattle.bundles.specs.Steps.{LengthSizes}
use Rattle.words.proofs.Entries.{Walked, walked_refused, entries_length, entries_at_lem, entries_mem, map_append, map_at, sum_append}
use Rattle.words.proofs.Rows.{upto_more}
use Rattle.bundles.proofs.Sections.{Tracks, track_good, exists}

-- a section's verdict: a count, then its entries, then an answer
module _ {A : Type 0} (f p : ℕ) (v : Verdict) (a : Answer A) where
  pub at_count : {n q : ℕ} → f at_place p ≡ refused n q → refused n q ≡ ((f at_place p and_then v) and_then a)
  at_count e = rw e

  pub at_entry : {n q : ℕ} → f ≡ 0 → v ≡ refused n q → refused n q ≡ ((f at_place p and_then v) and_then a)
  at_entry z g = rw (z, g)

  pub at_end : f ≡ 0 → v ≡ ok tt → a ≡ ((f at_place p and_then v) and_then a)
  at_end z g = rw (z, g)

-- the next entry of a walk is refused
pub walked_fault :
    {next fault : ℕ → ℕ} {start n i p m q : ℕ} → Walked next fault start n i p → i < n → fault p at_place p ≡ refused m q →
    first (λ r. fault r at_place r) (entries next n start) ≡ refused m q
walked_fault {fault = fault} {p = p} w h e = let a = at_from (fault p) p e in rw (← a.1) (walked_refused w h (sym a.0) (λ z. omega arith))

-- what a section's answer says of its verdict
pub ended : {A : Type 0} {e x : A} (v : Verdict) → ok e ≡ (v and_then ok x) → (v ≡ ok tt) × (e ≡ x)
ended (refused n p) h = ok_refused (sym h)
ended (ok u) h = (refl, ok_same h)

pub refused_there : {A : Type 0} (x : A) {n p : ℕ} (v : Verdict) → refused n p ≡ (v and_then ok x) → v ≡ refused n p
refused_there x {n} {p} (refused m q) h = let e : m ≡ n = cc in let f : q ≡ p = cc in rw (e, f)
refused_there x (ok u) h = ok_refused h

pub not_refused : {A G : Type 0} {n p : ℕ} (v : Verdict) (x : A) → refused n p ≡ (v and_then ok x) → v ≡ ok tt → G
not_refused (refused m q) x h z = ok_refused z
not_refused (ok u) x h z = ok_refused h

-- L
pub size_some : (k : Kind) (s : List ℕ) → 1 ≤ length_size k s
size_some k s = omega arith

pub known_size_lem : (n : ℕ) → 1 ≤ n → n ≤ 4 → (n ≡ 3 → ⊥) → in_bytes (known_size (length_size_of n)) ≡ n
known_size_lem zero a b h = absurd (omega arith)
known_size_lem (suc zero) a b h = refl
known_size_lem (suc (suc zero)) a b h = refl
known_size_lem (suc (suc (suc zero))) a b h = absurd (h refl)
known_size_lem (suc (suc (suc (suc zero)))) a b h = refl
known_size_lem (suc (suc (suc (suc (suc n))))) a b h = absurd (omega arith)

as_size : (k : Option Kind) (s : List ℕ) → record_fault_as k s ≡ 0 → in_bytes (known_size (length_size_of (length_size (known_kind k) s))) ≡ length_size (known_kind k) s
as_size (Some k) s e = known_size_lem (length_size k s) (size_some k s) (length_size_most k s) (parsed k s e).head.known
as_size None s e = absurd (omega arith)

pub good_size : (b : List ℕ) (p : ℕ) → track_fault b p ≡ 0 → in_bytes (track_on b p).length_size ≡ size_at b p
unfolding size_at
good_size b p e = as_size (kind_at b p) (record_at b p) (track_good b p e).whole

-- sizes, which start at track 1, hold the length sizes of the first i tracks
pub record Kept (b : List ℕ) (i : ℕ) (sizes : List ℕ) : Type 0 where
  pub at : (k : ℕ) → k < i → byte_at sizes k ≡ size_at b (skip (track_end b) k (tracks_at b))

pub kept_start : (b sizes : List ℕ) → Kept b 0 sizes
kept_start b sizes = record { at = λ k h. absurd (omega arith) }

pub kept_next : (b sizes : List ℕ) (i p v : ℕ) → Kept b i sizes → i < length sizes → p ≡ skip (track_end b) i (tracks_at b) → v ≡ size_at b p → Kept b (i + 1) (set sizes i v)
kept_next b sizes i p v w h e f =
    record {
      at = below_more (λ (k : ℕ). byte_at (set sizes i v) k ≡ size_at b (skip (track_end b) k (tracks_at b))) i
          (λ k l. get_or-set_other sizes i k v 0 (λ q. omega arith) ∙ w.at k l)
          (get_or-set_same sizes i v 0 h ∙ f ∙ ap (size_at b) e);
    }

pub track_at_lem : (b : List ℕ) (i : ℕ) → i < track_count b → nth (tracks b) (i + 1) no_track ≡ track_on b (skip (track_end b) i (tracks_at b))
unfolding nth tracks
track_at_lem b i h =
    let l = entries_length (track_end b) (track_count b) (tracks_at b) in
    rw (add-one i) (map_at (track_on b) (track_places b) i 0 no_track (omega arith) ∙ ap (track_on b) (entries_at_lem (track_end b) (track_count b) (tracks_at b) i h))

past_first : (o sizes rest : List ℕ) (j : ℕ) → 0 < length o → j < length sizes → byte_at (take 1 o ++ (sizes ++ rest)) (j + 1) ≡ byte_at sizes j
past_first [] sizes rest j h l = absurd (omega arith)
past_first (x ∷ o) sizes rest j h l = rw (add-one j) (get_or-append sizes rest 0 j l)

pub kept_sizes : (b o sizes rest : List ℕ) → 0 < length o → Tracks b → Kept b (track_count b) sizes → track_count b ≤ length sizes → LengthSizes b (take 1 o ++ (sizes ++ rest))
kept_sizes b o sizes rest m t w n =
    record {
      at = λ k h l.
          let e : k ≡ k - 1 + 1 = omega arith in
          let q : byte_at (take 1 o ++ (sizes ++ rest)) (k - 1 + 1) ≡ length_size_on b (k - 1 + 1) =
          past_first o sizes rest (k - 1) m (omega arith)
          ∙ w.at (k - 1) (omega arith)
          ∙ sym (good_size b (skip (track_end b) (k - 1) (tracks_at b)) (t.each (entries_mem (track_end b) (track_count b) (tracks_at b) (k - 1) (omega arith))))
          ∙ ap (λ x. in_bytes x.length_size) (sym (track_at_lem b (k - 1) (omega arith))) in
          rw e q;
    }

-- the sum of the lengths of the first i samples
module _ (b : List ℕ) where
  abbrev pub length_of : ℕ → ℕ
  length_of n = length_at b (entry_at b n)

  pub total_start : 0 ≡ sum (map length_of (upto 0))
  unfolding upto sum
  total_start = refl

  pub total_next : (i p total n : ℕ) → total ≡ sum (map length_of (upto i)) → p ≡ entry_at b (i + 1) → n ≡ length_at b p → total + n ≡ sum (map length_of (upto (i + 1)))
  unfolding sum
  total_next i p total n e f g =
      rw (upto_more i, map_append length_of (upto i) ((i + 1) ∷ []), sum_append (map length_of (upto i)) (length_of (i + 1) ∷ []), ← e, g, f) (omega arith)

-- the length size of a track that there is
pub size_on : (b sizes : List ℕ) (k : ℕ) → LengthSizes b sizes → no_such_track b k ≡ false → byte_at sizes k ≡ length_size_on b k
size_on b sizes k w e = let i = exists b k e in w.at k i.0 i.1
