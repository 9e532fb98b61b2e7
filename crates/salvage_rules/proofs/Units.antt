-- The units of a sample y whose top-level units are whole, each as bytes of its own. Assumes nothing.
--
--   inside_ok, dropped_not                         a unit that is not dropped has no fault inside, both ways
--   cover_kept, cover_stays                        an aggregator that keeps its additional_bytes, both ways
--   fate_dropped, fate_zeroed, fate_kept, by_fate  what becomes of a unit, by the two rules
--   dropped_from, zeroed_from, kept_from           and back
--   new_by, change_by                              what is left of it and listed of it
--   kept_bytes, kept_units, content_kept           the new sample as the units that are kept
--   unit_there, unit_length                        the bytes of a unit in the sample
--   unit_piece                                     the bytes of a unit that is not dropped are a piece
--   zeroed_piece                                   so they are with additional_bytes 0
--   zeroed_length, zeroed_none                     which are then as long as before, and cover nothing
--   new_plain, new_zeroed                          the bytes of a unit as it is kept
use Prim.Native.Nat.{ℕ, ◌+◌, ◌-◌, ◌^◌, ◌≤◌}
use mathlib.Core.Path.{◌≡◌, refl, ap, ap₂, sym, ◌∙◌, subst}
use mathlib.Core.List.{List, [], ◌∷◌, ◌++◌, map, append-nil, Memᴰ}
use mathlib.Core.Bool.{true, false, not, ◌||◌}
use native.Mathlib.Omega.{arith}
use native.Mathlib.Nat.{add-zero, pow-zero, pow-le-pow_right}
use borrow.Author.Tests.{eqb-true, eq-eqb}
use lib.Dec.{lit<}
use lib.ListN.{length, take, drop, take-append-drop, length-drop}
use lib.Seq.{drop-drop, drop-append-le, drop_at, length-take-le}
use Rattle.words.specs.Tests.{◌≡?◌, pick}
use Rattle.words.specs.Refusals.{ok, ◌at_place◌, first}
use Rattle.words.specs.Lists.{keep, some, each}
use Rattle.words.specs.Bytes.{big, bytes, splice}
use Rattle.words.proofs.Tests.{by_bool, true_false}
use Rattle.words.proofs.Refusals.{by_verdict, at_ok, first_ok}
use Rattle.words.proofs.Lists.{each_cong}
use Rattle.words.proofs.Kept.{each_keep}
use Rattle.words.proofs.Positions.{split_part, part_length}
use Rattle.words.proofs.Bytes.{big_inside, bytes_length, big_bytes}
use Rattle.words.proofs.Splices.{splice_length}
use Rattle.numbers.specs.Sizes.{header_size, extractor_size}
use Rattle.units.specs.Units.{Sample, L, end, size, first_byte, type, next, aggregator_type, extractor_type, is_aggregator, is_extractor, places, top_units, top_between}
use Rattle.units.specs.Extractors.{extractor_fault}
use Rattle.units.specs.Aggregators.{included_start, included, included_fault, additional_bytes, cover_end, cover_fault}
use Rattle.units.specs.Rules.{Whole, Included}
use Rattle.units.proofs.Units.{next_after, whole_end, whole_aggregator, included_rules, extractor_size_lem}
use Rattle.samples.specs.Check.{inside_verdict}
use Rattle.salvage_rules.specs.declared.Fate.{Fate}
use Rattle.salvage_rules.specs.declared.Fate.TheVariants.{Kept, Dropped, Zeroed}
use Rattle.salvage_rules.specs.Salvage.{holding, is_dropped, loses_cover, fate, unit_bytes, zeroed_bytes, left_by, new_bytes, listed_by, change_at, new_content}
use Rattle.salvage_rules.proofs.Placed.{size_here, first_here, type_here, places_placed, whole_down, included_down}
use Rattle.salvage_rules.proofs.Pieces.{inner, Piece}

-- the three fates differ
abbrev code : Fate → ℕ
code Kept = 0
code Dropped = 1
code Zeroed = 2

dropped_zeroed : Dropped ≡ Zeroed → ⊥
dropped_zeroed e = let n : ◌≡◌ {A = ℕ} 1 2 = ap code e in omega arith

dropped_kept : Dropped ≡ Kept → ⊥
dropped_kept e = let n : ◌≡◌ {A = ℕ} 1 0 = ap code e in omega arith

zeroed_kept : Zeroed ≡ Kept → ⊥
zeroed_kept e = let n : ◌≡◌ {A = ℕ} 2 0 = ap code e in omega arith

module _ (y : Sample) where
  pub inside_ok : (p : ℕ) → is_dropped y p ≡ false → inside_verdict y p ≡ ok tt
  unfolding is_dropped
  inside_ok p h = by_verdict (inside_verdict y p) (λ n q v. true_false _ (rw v) h) (λ v. v)

  pub dropped_not : (p : ℕ) → inside_verdict y p ≡ ok tt → is_dropped y p ≡ false
  unfolding is_dropped
  dropped_not p h = rw h

  pub inside_aggregator : (p : ℕ) → inside_verdict y p ≡ ok tt → is_aggregator y p ≡ true → first (λ q. included_fault y (next y p) q at_place q) (included y p) ≡ ok tt
  unfolding inside_verdict
  inside_aggregator p h t = rw t at h

  pub inside_other : (p : ℕ) → inside_verdict y p ≡ ok tt → is_aggregator y p ≡ false → extractor_fault y p ≡ 0
  unfolding inside_verdict
  inside_other p h t = at_ok _ p (rw t at h)

  -- an aggregator that keeps its additional_bytes
  pub cover_kept : (p : ℕ) → loses_cover y p ≡ false → is_aggregator y p ≡ true → (cover_fault y p ≡ 0) × (some (is_dropped y) (top_between y (next y p) (cover_end y p)) ≡ false)
  unfolding loses_cover
  cover_kept p h t =
      let g : (not (cover_fault y p ≡? 0) || some (is_dropped y) (top_between y (next y p) (cover_end y p))) ≡ false = rw t at h in
      by_bool (cover_fault y p ≡? 0)
      (λ u. (eqb-true _ _ u, rw u at g))
      (λ u. true_false _ (rw u) g)

  pub cover_stays : (p : ℕ) → cover_fault y p ≡ 0 → some (is_dropped y) (top_between y (next y p) (cover_end y p)) ≡ false → loses_cover y p ≡ false
  unfolding loses_cover
  cover_stays p e f = rw (eq-eqb (cover_fault y p) 0 e, f) (by_bool (is_aggregator y p) (λ t. rw t) (λ t. rw t))

  pub cover_other : (p : ℕ) → is_aggregator y p ≡ false → loses_cover y p ≡ false
  unfolding loses_cover
  cover_other p t = rw t

  -- what becomes of a unit, by the two rules; what is left of it and listed of it
  pub fate_dropped : (p : ℕ) → is_dropped y p ≡ true → fate y p ≡ Dropped
  unfolding fate
  fate_dropped p d = rw d

  pub fate_zeroed : (p : ℕ) → is_dropped y p ≡ false → loses_cover y p ≡ true → fate y p ≡ Zeroed
  unfolding fate
  fate_zeroed p d l = rw (d, l)

  pub fate_kept : (p : ℕ) → is_dropped y p ≡ false → loses_cover y p ≡ false → fate y p ≡ Kept
  unfolding fate
  fate_kept p d l = rw (d, l)

  pub new_by : (p : ℕ) (f : Fate) → fate y p ≡ f → new_bytes y p ≡ left_by y f p
  unfolding new_bytes
  new_by p f e = ap (λ (g : Fate). left_by y g p) e

  pub change_by : (p : ℕ) (f : Fate) → fate y p ≡ f → change_at y p ≡ listed_by y f p
  unfolding change_at
  change_by p f e = ap (λ (g : Fate). listed_by y g p) e

  -- the three cases
  pub by_fate : {G : Type 0} (p : ℕ) → (is_dropped y p ≡ true → fate y p ≡ Dropped → G) →
      (is_dropped y p ≡ false → loses_cover y p ≡ true → fate y p ≡ Zeroed → G) →
      (is_dropped y p ≡ false → loses_cover y p ≡ false → fate y p ≡ Kept → G) → G
  by_fate p f g h = by_bool (is_dropped y p)
      (λ d. f d (fate_dropped p d))
      (λ d. by_bool (loses_cover y p)
      (λ l. g d l (fate_zeroed p d l))
      (λ l. h d l (fate_kept p d l)))

  -- and back
  pub dropped_from : (p : ℕ) → fate y p ≡ Dropped → is_dropped y p ≡ true
  dropped_from p e = by_fate p
      (λ d f. d)
      (λ d l f. absurd (dropped_zeroed (sym e ∙ f)))
      (λ d l f. absurd (dropped_kept (sym e ∙ f)))

  pub zeroed_from : (p : ℕ) → fate y p ≡ Zeroed → (is_dropped y p ≡ false) × (loses_cover y p ≡ true)
  zeroed_from p e = by_fate p
      (λ d f. absurd (dropped_zeroed (sym f ∙ e)))
      (λ d l f. (d, l))
      (λ d l f. absurd (zeroed_kept (sym e ∙ f)))

  pub kept_from : (p : ℕ) → fate y p ≡ Kept → (is_dropped y p ≡ false) × (loses_cover y p ≡ false)
  kept_from p e = by_fate p
      (λ d f. absurd (dropped_kept (sym f ∙ e)))
      (λ d l f. absurd (zeroed_kept (sym f ∙ e)))
      (λ d l f. (d, l))

  -- a unit as it is kept; those that are kept
  unfoldable pub kept_bytes : ℕ → List ℕ
  kept_bytes p = pick (loses_cover y p) (zeroed_bytes y p) (unit_bytes y p)

  unfoldable pub kept_units : List ℕ
  kept_units = keep (λ p. not (is_dropped y p)) (top_units y)

  pub new_kept : (p : ℕ) → new_bytes y p ≡ pick (not (is_dropped y p)) (kept_bytes p) []
  unfolding new_bytes fate kept_bytes
  new_kept p = by_bool (is_dropped y p) (λ d. rw d) (λ d. by_bool (loses_cover y p) (λ l. rw (d, l)) (λ l. rw (d, l)))

  pub content_kept : new_content y ≡ each kept_bytes kept_units
  unfolding new_content kept_units
  content_kept = each_cong _ _ (top_units y) (λ p m. new_kept p) ∙ sym (each_keep kept_bytes (λ p. not (is_dropped y p)) (top_units y))

  pub new_plain : (p : ℕ) → loses_cover y p ≡ false → kept_bytes p ≡ unit_bytes y p
  unfolding kept_bytes
  new_plain p h = rw h

  pub new_zeroed : (p : ℕ) → loses_cover y p ≡ true → kept_bytes p ≡ zeroed_bytes y p
  unfolding kept_bytes
  new_zeroed p h = rw h

  pub unit_there : (p : ℕ) → drop p y.content ≡ unit_bytes y p ++ drop (next y p) y.content
  unfolding unit_bytes
  unit_there p = let n = next_after y p in sym (split_part y.content p (next y p) (omega arith))

  whole_own : (e p : ℕ) → Whole y e p → Whole y (next y p) p
  whole_own e p w = record { room = omega arith; inside = omega arith; some = w.some; top = w.top; least = w.least }

  -- a whole unit
  module _ (p : ℕ) (w : Whole y (end y) p) where
    abbrev own : List ℕ
    own = unit_bytes y p

    abbrev after : List ℕ
    after = drop (next y p) y.content

    pub unit_length : length (unit_bytes y p) ≡ L y + size y p
    unfolding unit_bytes
    unit_length = let g = whole_end y (end y) p w in part_length y.content p (next y p - p) (omega arith) ∙ omega arith

    pub unit_size : size y p ≡ size (holding y own) 0
    unit_size = let n = unit_length in size_here y p own after (unit_there p) (omega arith)

    pub unit_type : type y p ≡ type (holding y own) 0
    unit_type = let n = unit_length in let s = w.some in type_here y p own after (unit_there p) (omega arith)

    own_whole : Whole (holding y own) (length own) 0
    own_whole =
        let n = unit_length in
        let e : next y p ≡ p + length own = omega arith in
        whole_down y p own after (unit_there p) (length own) 0 (omega arith) (subst (Whole y (p + length own)) (sym (add-zero p)) (subst (λ (k : ℕ). Whole y k p) e (whole_own (end y) p w)))

    own_head : is_aggregator (holding y own) 0 ≡ true → L y + header_size + L y ≤ length own
    own_head t = let n = unit_length in let s = unit_size in let g = whole_aggregator (holding y own) (length own) 0 own_whole t in omega arith

    own_inside : inside_verdict y p ≡ ok tt → is_aggregator (holding y own) 0 ≡ true → (q : ℕ) → Memᴰ q (places (holding y (inner y own)) 0 (length (inner y own))) → Included (holding y (inner y own)) (length (inner y own)) q
    own_inside v t q m =
        let h = own_head t in
        let n = unit_length in
        let k = L y + header_size + L y in
        let c = inner y own in
        let there : drop (p + k) y.content ≡ c ++ after = sym (drop-drop k p y.content) ∙ ap (drop k) (unit_there p) ∙ drop-append-le k own after h in
        let o : length c ≡ length own - k = length-drop k own in
        let i : p + k + 0 ≡ included_start y p = omega arith in
        let j : p + k + length c ≡ next y p = omega arith in
        let a : is_aggregator y p ≡ true = rw unit_type t in
        let m' : Memᴰ (p + k + q) (included y p) = subst (Memᴰ (p + k + q)) (sym (places_placed y (p + k) c after there (length c) 0 (length c) (omega arith) (omega arith)) ∙ ap₂ (places y) i j) (mathlib.Core.List.Memᴰ.map (λ (u : ℕ). p + k + u) m) in
        let g = included_rules y (next y p) (p + k + q) (at_ok _ _ (first_ok (λ r. included_fault y (next y p) r at_place r) (included y p) (inside_aggregator p v a) m')) in
        included_down y (p + k) c after there (length c) q (omega arith) (subst (λ (z : ℕ). Included y z (p + k + q)) (sym j) g)

    own_extractor : inside_verdict y p ≡ ok tt → is_extractor (holding y own) 0 ≡ true → size (holding y own) 0 ≡ extractor_size y.length_size
    own_extractor v t =
        let u : is_extractor y p ≡ true = rw unit_type t in
        let e = eqb-true (type y p) extractor_type u in
        sym unit_size ∙ by_bool (is_aggregator y p)
        (λ a. let z = eqb-true (type y p) aggregator_type a in absurd (omega arith))
        (λ a. extractor_size_lem y p (inside_other p v a) u)

    pub unit_piece : inside_verdict y p ≡ ok tt → Piece y (unit_bytes y p)
    unit_piece v = let n = unit_length in let s = unit_size in record {
      whole = own_whole;
      ends = omega arith;
      inside = own_inside v;
      extractor = own_extractor v;
    }

  -- an aggregator's bytes with additional_bytes 0
  module _ (b : List ℕ) (u : Piece y b) (t : is_aggregator (holding y b) 0 ≡ true) where
    abbrev zeros : List ℕ
    zeros = bytes (L y) 0

    abbrev cleared : List ℕ
    cleared = splice b (L y + header_size) zeros

    abbrev head : List ℕ
    head = take (L y + header_size) b

    piece_head : L y + header_size + L y ≤ length b
    piece_head = let g = whole_aggregator (holding y b) (length b) 0 u.whole t in let n = u.ends in omega arith

    cleared_length : length cleared ≡ length b
    cleared_length = let z = bytes_length (L y) 0 in let h = piece_head in splice_length b (L y + header_size) zeros (omega arith)

    head_length : length head ≡ L y + header_size
    head_length = let h = piece_head in length-take-le (L y + header_size) b (omega arith)

    cleared_size : size (holding y cleared) 0 ≡ size (holding y b) 0
    cleared_size = let n = head_length in
        size_here (holding y cleared) 0 head (zeros ++ drop (L y + header_size + length zeros) b) refl (omega arith)
        ∙ sym (size_here (holding y b) 0 head (drop (L y + header_size) b) (sym (take-append-drop (L y + header_size) b)) (omega arith))

    cleared_type : type (holding y cleared) 0 ≡ type (holding y b) 0
    cleared_type = let n = head_length in
        type_here (holding y cleared) 0 head (zeros ++ drop (L y + header_size + length zeros) b) refl (omega arith)
        ∙ sym (type_here (holding y b) 0 head (drop (L y + header_size) b) (sym (take-append-drop (L y + header_size) b)) (omega arith))

    cleared_first : first_byte (holding y cleared) 0 ≡ first_byte (holding y b) 0
    cleared_first = let n = head_length in
        first_here (holding y cleared) 0 head (zeros ++ drop (L y + header_size + length zeros) b) refl (omega arith)
        ∙ sym (first_here (holding y b) 0 head (drop (L y + header_size) b) (sym (take-append-drop (L y + header_size) b)) (omega arith))

    cleared_rest : drop (L y + header_size) cleared ≡ zeros ++ drop (L y + header_size + length zeros) b
    cleared_rest = drop_at head (zeros ++ drop (L y + header_size + length zeros) b) (L y + header_size) head_length

    cleared_inner : inner y cleared ≡ inner y b
    cleared_inner =
        sym (drop-drop (L y) (L y + header_size) cleared) ∙ ap (drop (L y)) cleared_rest
        ∙ drop_at zeros (drop (L y + header_size + length zeros) b) (L y) (bytes_length (L y) 0)
        ∙ ap (λ (n : ℕ). drop (L y + header_size + n) b) (bytes_length (L y) 0)

    zeros_none : big zeros 0 (L y) ≡ 0
    zeros_none =
        let h : 256 ^ 0 ≤ 256 ^ L y = pow-le-pow_right (lit< tt) {i = 0} {j = L y} (omega arith) in
        let o = pow-zero 256 in
        subst (λ (l : List ℕ). big l 0 (L y) ≡ 0) (append-nil zeros) (big_bytes (L y) 0 [] (omega arith))

    cleared_none : additional_bytes (holding y cleared) 0 ≡ 0
    cleared_none =
        let z = bytes_length (L y) 0 in
        let a : 0 + L y + header_size ≡ L y + header_size + 0 = omega arith in
        ap (λ (n : ℕ). big cleared n (L y)) a
        ∙ big_inside cleared (L y + header_size) zeros (drop (L y + header_size + length zeros) b) cleared_rest 0 (L y) (omega arith)
        ∙ zeros_none

    cleared_piece : Piece y cleared
    cleared_piece =
        let n = cleared_length in
        let s = cleared_size in
        let w = u.whole in
        record {
          whole = record {
            room = omega (arith, w.room);
            inside = omega (arith, w.inside);
            some = omega (arith, w.some);
            top = rw cleared_first w.top;
            least = rw (s, cleared_type) w.least;
          };
          ends = omega (arith, u.ends);
          inside = λ a. rw cleared_inner (u.inside t);
          extractor = λ a. s ∙ u.extractor (rw (← cleared_type) a);
        }

  module _ (p : ℕ) (w : Whole y (end y) p) (v : inside_verdict y p ≡ ok tt) (t : is_aggregator y p ≡ true) where
    own_aggregator : is_aggregator (holding y (unit_bytes y p)) 0 ≡ true
    own_aggregator = rw (← unit_type p w) t

    pub zeroed_piece : Piece y (zeroed_bytes y p)
    unfolding zeroed_bytes
    zeroed_piece = cleared_piece (unit_bytes y p) (unit_piece p w v) own_aggregator

    pub zeroed_length : length (zeroed_bytes y p) ≡ length (unit_bytes y p)
    unfolding zeroed_bytes
    zeroed_length = cleared_length (unit_bytes y p) (unit_piece p w v) own_aggregator

    pub zeroed_none : additional_bytes (holding y (zeroed_bytes y p)) 0 ≡ 0
    unfolding zeroed_bytes
    zeroed_none = cleared_none (unit_bytes y p) (unit_piece p w v) own_aggregator
