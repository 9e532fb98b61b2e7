-- The sample as if it ended at its first top-level fault. Assumes nothing.
--
--   fault_most                                                the first top-level fault lies in the sample, or is its end
--   fault_none, fault_some                                    without a top-level fault it is the end; with one it is its place
--   cut_end                                                   the cut sample ends there
--   cut_wholes                                                its top-level units have none of 14 to 18
--   cut_all                                                   without a top-level fault it is the sample itself
--   cut_units                                                 its top-level units are those of the sample before that place
--   cut_next, cut_type, cut_additional, cut_unit, cut_inside  each of them, its bytes, its inside fault: as in the sample
--   cut_rest                                                  its bytes, and after them those from the fault on, are those of the sample
use Prim.Native.Nat.{ℕ, zero, suc, ◌+◌, ◌-◌, ◌≤◌, ◌<◌}
use mathlib.Core.Path.{◌≡◌, refl, ap, sym, ◌∙◌, subst}
use mathlib.Core.List.Memᴰ
use mathlib.Core.List.{List, [], ◌∷◌, ◌++◌, Memᴰ}
use mathlib.Core.Logic.{⊎_elim}
use native.Mathlib.Omega.{arith}
use native.Mathlib.Nat.{zero-add}
use borrow.Author.Tests.{leb-true, leb-false, ltb-false, lt-ltb, le-ltb, eqb-true, eqb-false}
use lib.Dec.{leb}
use lib.ListN.{length, take, drop, take-append-drop, length-drop}
use lib.Seq.{take-length, length-take-le, drop-append-le, take-append-le}
use Rattle.words.specs.Tests.{◌<?◌, ◌≡?◌}
use Rattle.words.specs.Refusals.{ok, refused, ◌at_place◌}
use Rattle.words.specs.Lists.{keep}
use Rattle.words.specs.Bytes.{part}
use Rattle.words.proofs.Tests.{by_bool}
use Rattle.words.proofs.Refusals.{by_verdict, at_ok, at_from, first_from, first_cong, or_else_here}
use Rattle.words.proofs.Lists.{keep_nothing}
use Rattle.words.proofs.Kept.{keep_yes}
use Rattle.units.specs.Units.{Sample, L, end, size, first_byte, type, next, is_aggregator, unit_fault, places, top_units}
use mathlib.Core.Bool.{true}
use Rattle.units.specs.Aggregators.{included_start, included, included_fault, additional_bytes}
use Rattle.units.specs.Rules.{Whole, TopUnitsWhole}
use Rattle.units.proofs.Units.{next_after, whole, whole_end, whole_aggregator}
use Rattle.units.proofs.Walks.{places_end, places_step, in_places, walk, walk_none, walk_here, walk_on, in_top}
use Rattle.samples.specs.Check.{inside_verdict, top_verdict}
use Rattle.samples.proofs.Walks.{top_judge}
use Rattle.salvage_rules.specs.Salvage.{holding, place_or, first_fault, cut, whole_units, unit_bytes}
use Rattle.salvage_rules.proofs.Placed.{size_placed, first_placed, type_placed, next_placed, additional_placed, whole_down}

module _ (x : Sample) where
  -- where the walk from a on stops
  abbrev stop : ℕ → ℕ
  stop a = place_or (end x) (walk x (top_judge x) a (end x))

  pub record Way (a : ℕ) : Type 0 where
    pub from : a ≤ stop a
    pub most : stop a ≤ end x
    pub good : a < stop a → Whole x (end x) a
    pub same : a < stop a → stop (next x a) ≡ stop a

  way : (k a : ℕ) → end x - a ≤ k → a ≤ end x → Way a
  way zero a g h = let e : stop a ≡ end x = ap (place_or (end x)) (walk_none x (top_judge x) a (end x) (omega arith)) in
      record { from = omega arith; most = omega arith; good = λ l. absurd (omega arith); same = λ l. absurd (omega arith) }
  way (suc k) a g h = by_bool (leb (end x) a)
      (λ t. let o = leb-true (end x) a t in let e : stop a ≡ end x = ap (place_or (end x)) (walk_none x (top_judge x) a (end x) o) in
      record { from = omega arith; most = omega arith; good = λ l. absurd (omega arith); same = λ l. absurd (omega arith) })
      (λ t. let o = leb-false (end x) a t in by_verdict (top_judge x a)
      (λ n q v. let u = at_from (unit_fault x (end x) a) a v in
      let e : stop a ≡ q = ap (place_or (end x)) (walk_here x (top_judge x) a (end x) o v) in
      let z = u.1 in
      record { from = omega arith; most = omega arith; good = λ l. absurd (omega arith); same = λ l. absurd (omega arith) })
      (λ v. let w = whole x (end x) a (at_ok _ a v) in
      let i = whole_end x (end x) a w in
      let n = next_after x a in
      let below = way k (next x a) (omega arith) i.1 in
      let e : stop a ≡ stop (next x a) = ap (place_or (end x)) (walk_on x (top_judge x) a (end x) o v) in
      let j = below.from in let m = below.most in
      record { from = omega arith; most = omega arith; good = λ l. w; same = λ l. sym e }))

  at_start : stop 0 ≡ first_fault x
  unfolding first_fault top_units
  at_start = refl

  pub fault_most : first_fault x ≤ end x
  fault_most = rw (← at_start) (way (end x) 0 (omega arith) (omega arith)).most

  pub fault_none : top_verdict x ≡ ok tt → first_fault x ≡ end x
  unfolding first_fault
  fault_none e = rw e

  pub fault_some : (n p : ℕ) → top_verdict x ≡ refused n p → (first_fault x ≡ p) × (p < end x)
  unfolding first_fault
  fault_some n p e =
      let w = first_from (top_judge x) (top_units x) e in
      let u = at_from (unit_fault x (end x) w.0) w.0 w.2 in
      let i = in_top x w.0 w.1 in
      (rw e, omega arith)

  pub cut_end : end (cut x) ≡ first_fault x
  unfolding cut
  cut_end = length-take-le (first_fault x) x.content fault_most

  -- what the cut sample has of each unit before the stop f
  module _ (f : ℕ) (l : f ≤ end x) where
    abbrev short : Sample
    short = holding x (take f x.content)

    abbrev rest : List ℕ
    rest = drop f x.content

    there : drop 0 x.content ≡ take f x.content ++ rest
    there = sym (take-append-drop f x.content)

    short_length : length (take f x.content) ≡ f
    short_length = length-take-le f x.content l

    short_next : (a : ℕ) → a + L x ≤ f → next x a ≡ next short a
    short_next a h = let n = short_length in let e = next_placed x 0 (take f x.content) rest there a (omega arith) in subst (λ (k : ℕ). next x k ≡ next short a) (zero-add a) (e ∙ zero-add (next short a))

    short_whole : (a : ℕ) → Whole x f a → Whole short f a
    short_whole a w = let n = short_length in whole_down x 0 (take f x.content) rest there f a (omega arith) (rw (zero-add f, zero-add a) w)

    short_good : (k a q : ℕ) → f - a ≤ k → a ≤ end x → stop a ≡ f → Memᴰ q (places short a f) → Whole short f q
    short_good zero a q g h e m = absurd (Memᴰ.not-nil (rw (places_end short a f (omega arith)) at m))
    short_good (suc k) a q g h e m = by_bool (leb f a)
        (λ t. absurd (Memᴰ.not-nil (rw (places_end short a f (leb-true _ _ t)) at m)))
        (λ t. let o = leb-false f a t in
        let w = way (end x) a (omega arith) h in
        let u = w.good (omega arith) in
        let s = w.same (omega arith) in
        let i = whole_end x (end x) a u in
        let j = (way (end x) (next x a) (omega arith) i.1).from in
        let n = next_after x a in
        let v : Whole x f a = record { room = omega arith; inside = omega arith; some = u.some; top = u.top; least = u.least } in
        let e' = short_next a (omega arith) in
        ⊎_elim
        (λ z. rw z (short_whole a v))
        (λ m'. short_good k (next x a) q (omega arith) i.1 (s ∙ e) (rw e' m'))
        (Memᴰ.cases_cons (rw (places_step short a f o) at m)))

    -- what stands before f reads the same
    pub short_size : (a : ℕ) → a + L x ≤ f → size short a ≡ size x a
    short_size a h = let n = short_length in sym (subst (λ (k : ℕ). size x k ≡ size short a) (zero-add a) (size_placed x 0 (take f x.content) rest there a (omega arith)))

    pub short_first : (a : ℕ) → a + L x < f → first_byte short a ≡ first_byte x a
    short_first a h = let n = short_length in sym (subst (λ (k : ℕ). first_byte x k ≡ first_byte short a) (zero-add a) (first_placed x 0 (take f x.content) rest there a (omega arith)))

    pub short_type : (a : ℕ) → a + L x < f → type short a ≡ type x a
    short_type a h = let n = short_length in sym (subst (λ (k : ℕ). type x k ≡ type short a) (zero-add a) (type_placed x 0 (take f x.content) rest there a (omega arith)))

    short_places : (k a e : ℕ) → e - a ≤ k → e ≤ f → places short a e ≡ places x a e
    short_places zero a e g h = rw (places_end short a e (omega arith), places_end x a e (omega arith))
    short_places (suc k) a e g h = by_bool (leb e a)
        (λ t. let o = leb-true e a t in rw (places_end short a e o, places_end x a e o))
        (λ t. let o = leb-false e a t in
        let n = next_after x a in
        rw (places_step short a e o, places_step x a e o) (ap (λ (l : List ℕ). a ∷ l) (by_bool (leb (a + L x) f)
        (λ u. rw (← short_next a (leb-true _ _ u)) (short_places k (next x a) e (omega arith) h))
        (λ u. let v = leb-false (a + L x) f u in rw (places_end short (next short a) e (omega arith), places_end x (next x a) e (omega arith))))))

    short_fault : (e a : ℕ) → e ≤ f → unit_fault short e a ≡ unit_fault x e a
    unfolding unit_fault
    short_fault e a h = by_bool (e <? a + L x)
        (λ t. rw t)
        (λ t. let o = ltb-false e (a + L x) t in
        let s = short_size a (omega arith) in
        rw (t, s) (by_bool (e <? next x a)
        (λ u. rw u)
        (λ u. rw u (by_bool (size x a ≡? 0)
        (λ z. rw z)
        (λ z. let i = ltb-false e (next x a) u in
        let j = eqb-false (size x a) 0 z in
        rw (z, short_first a (some_size a j i), short_type a (some_size a j i)))))))
      where
        some_size : (a : ℕ) → (size x a ≡ 0 → ⊥) → next x a ≤ e → a + L x < f
        some_size a j i = omega arith

    short_included : (e a : ℕ) → e ≤ f → included_fault short e a ≡ included_fault x e a
    unfolding included_fault
    short_included e a h = rw (short_fault e a h) (by_bool (unit_fault x e a ≡? 0)
        (λ t. let z = eqb-true (unit_fault x e a) 0 t in
        let w = whole x e a z in
        let i = w.inside in let s = w.some in
        rw (short_type a (omega arith), short_size a (omega arith)))
        (λ t. sym (or_else_here _ refl (eqb-false (unit_fault x e a) 0 t)) ∙ or_else_here _ refl (eqb-false (unit_fault x e a) 0 t)))

    -- of a unit that ends by f
    short_inside : (p : ℕ) → Whole x f p → inside_verdict short p ≡ inside_verdict x p
    unfolding inside_verdict
    short_inside p w =
        let s = w.some in
        let i = w.inside in
        let n = short_next p (omega arith) in
        rw (short_type p (omega arith), ← n, short_places (next x p) (included_start x p) (next x p) (omega arith) i, short_size p (omega arith))
        (by_bool (is_aggregator x p)
        (λ t. rw t (first_cong _ _ (included x p) (λ q m. ap (λ (k : ℕ). k at_place q) (short_included (next x p) q i))))
        (λ t. rw t))

  pub cut_wholes : TopUnitsWhole (cut x)
  unfolding cut top_units
  cut_wholes p m =
      let n : length (take (first_fault x) x.content) ≡ first_fault x = short_length (first_fault x) fault_most in
      rw n (short_good (first_fault x) fault_most (first_fault x) 0 p (omega arith) (omega arith) at_start (rw n at m))

  pub cut_all : top_verdict x ≡ ok tt → cut x ≡ x
  unfolding cut
  cut_all e = ap (holding x) (ap (λ (n : ℕ). take n x.content) (fault_none e) ∙ take-length x.content)

  pub cut_rest : (cut x).content ++ drop (first_fault x) x.content ≡ x.content
  unfolding cut
  cut_rest = take-append-drop (first_fault x) x.content

  -- those of x that lie before f
  units_before : (f k a : ℕ) → end x - a ≤ k → f ≤ end x → keep (λ p. p <? f) (places x a (end x)) ≡ places x a f
  units_before f zero a g h = rw (places_end x a (end x) (omega arith), places_end x a f (omega arith)) (keep_nothing (λ p. p <? f) [] (λ q m. absurd (Memᴰ.not-nil m)))
  units_before f (suc k) a g h = by_bool (leb f a)
      (λ t. let o = leb-true f a t in rw (places_end x a f o) (keep_nothing (λ p. p <? f) (places x a (end x)) (λ q m. let i = in_places x a (end x) q m in le-ltb q f (omega arith))))
      (λ t. let o = leb-false f a t in
      let n = next_after x a in
      rw (places_step x a (end x) (omega arith), places_step x a f o, keep_yes (λ p. p <? f) a (places x (next x a) (end x)) (lt-ltb a f o))
      (ap (λ (l : List ℕ). a ∷ l) (units_before f k (next x a) (omega arith) h)))

  pub cut_units : whole_units x ≡ keep (λ p. p <? first_fault x) (top_units x)
  unfolding top_units cut
  cut_units =
      let n : length (take (first_fault x) x.content) ≡ first_fault x = short_length (first_fault x) fault_most in
      rw n (short_places (first_fault x) fault_most (first_fault x) 0 (first_fault x) (omega arith) (omega arith))
      ∙ sym (units_before (first_fault x) (end x) 0 (omega arith) fault_most)

  module _ (p : ℕ) (m : Memᴰ p (whole_units x)) where
    -- a top-level unit of the cut sample
    in_cut : Whole (cut x) (first_fault x) p
    in_cut = rw (← cut_end) (cut_wholes p m)

    pub cut_next : next (cut x) p ≡ next x p
    unfolding cut
    cut_next = let w = in_cut.room in sym (short_next (first_fault x) fault_most p w)

    in_old : Whole x (first_fault x) p
    unfolding cut
    in_old = let w = in_cut in
        let i = w.room in let j = w.inside in let k = w.some in
        let s = short_size (first_fault x) fault_most p i in
        record {
          room = i;
          inside = omega arith;
          some = omega arith;
          top = rw (← short_first (first_fault x) fault_most p (omega arith)) w.top;
          least = rw (← s, ← short_type (first_fault x) fault_most p (omega arith)) w.least;
        }

    pub cut_type : type (cut x) p ≡ type x p
    unfolding cut
    cut_type = let w = in_old in let i = w.some in let j = w.inside in short_type (first_fault x) fault_most p (omega arith)

    pub cut_additional : is_aggregator x p ≡ true → additional_bytes (cut x) p ≡ additional_bytes x p
    unfolding cut
    cut_additional t =
        let g = whole_aggregator x (first_fault x) p in_old t in
        let j = in_old.inside in
        let n = short_length (first_fault x) fault_most in
        sym (subst (λ (k : ℕ). additional_bytes x k ≡ additional_bytes (cut x) p) (zero-add p)
        (additional_placed x 0 (take (first_fault x) x.content) (drop (first_fault x) x.content) (sym (take-append-drop (first_fault x) x.content)) p (omega arith)))

    pub cut_unit : unit_bytes (cut x) p ≡ unit_bytes x p
    unfolding unit_bytes
    cut_unit = let w = in_old.inside in rw cut_next (cut_part (next x p - p) (let n = next_after x p in omega arith))
      where
        cut_part : (n : ℕ) → p + n ≤ first_fault x → part (cut x).content p n ≡ part x.content p n
        cut_part n h = unfold cut in
            let l = short_length (first_fault x) fault_most in
            let d = length-drop p (take (first_fault x) x.content) in
            let b = drop (first_fault x) x.content in
            sym (ap (λ (s : List ℕ). part s p n) (sym (take-append-drop (first_fault x) x.content))
            ∙ ap (take n) (drop-append-le p (take (first_fault x) x.content) b (omega arith))
            ∙ take-append-le n (drop p (take (first_fault x) x.content)) b (omega arith))

    pub cut_inside : inside_verdict (cut x) p ≡ inside_verdict x p
    unfolding cut
    cut_inside = short_inside (first_fault x) fault_most p in_old
