-- How a byte stream is refused, in plain facts. Assumes nothing.
--
--   Sooner                     an answer is a refusal at a place or before it
--   fault_by                   a byte stream that is refused has that fault
--   fault_inside               a fault stands inside the byte stream
--   fault_sooner, fault_not    a byte stream with a fault is refused there or before, and not read
--   refused_exactly            it is refused with its first fault, exactly
use Prim.Native.Nat.{ℕ, zero, suc, ◌+◌, ◌-◌, ◌^◌, ◌≤◌, ◌<◌}
use mathlib.Core.Path.{◌≡◌, refl, ap, ap₂, sym, ◌∙◌, subst}
use mathlib.Core.Bool.{Bool, true, false}
use mathlib.Core.Logic.{◌⊎◌, ◌↔◌, inl, inr}
use mathlib.Core.List.{List, [], ◌∷◌, ◌++◌, map, append_assoc, append-nil}
use native.Mathlib.Omega.{arith}
use native.Mathlib.Nat.{one-le-pow}
use borrow.Author.Tests.{eqb-true, eqb-false, ne_eqb, leb-true, leb-false, le-leb, lt-leb}
use lib.ListN.{length, length-append, length-replicate}
use Rattle.words.specs.Tests.{◌≡?◌, ◌≤?◌}
use Rattle.words.specs.RefusalNumbers.{bad_byte_stream, unit_exceeds_length_size}
use Rattle.words.specs.Refusals.{◌if◌, Answer, refused, ok, Verdict, ◌at_place◌, ◌and_then◌}
use Rattle.words.specs.Lists.{each}
use Rattle.words.proofs.Tests.{by_bool}
use Rattle.words.proofs.Refusals.{ok_refused, refused_same, and_ok, by_answer}
use Rattle.byte_streams.specs.Grammar.{zeros}
use Rattle.byte_streams.specs.Writing.{ends_in_zero}
use Rattle.byte_streams.specs.Reading.{Parts, split, strip, lead_verdict, inside_verdict, unit_verdict, parts_verdict, units_of, units_in}
use Rattle.byte_streams.specs.Faults.{NoStartCode, UnitEnds, StreamFault, FirstFault}
use Rattle.byte_streams.proofs.Units.{no_length, ends_from, ends_to}
use Rattle.byte_streams.proofs.Splits.{coded, CodeFree, AllFree, split_join, split_two, split_code, split_free, none_in, code_free, free_none, free_unit, strip_ends, strip_part, strip_zeros, split_byte, free_byte, strip_byte, unit_part_lem}
use Rattle.byte_streams.proofs.Inside.{BadAfter, Inside, inside_by, inside_found, last_zeros}

-- a refusal of two in a row is one of them
either : {A : Type 0} {n p : ℕ} (P : ℕ → ℕ → Type 0) (v : Verdict) (w : Answer A) → (v ≡ refused n p → P n p) → (v ≡ ok tt → w ≡ refused n p → P n p) → (v and_then w) ≡ refused n p → P n p
either P (refused m q) w f g e = let s = refused_same e in f (ap₂ refused s.0 s.1)
either P (ok u) w f g e = g refl e

at_here : (m : ℕ) (b : Bool) (q : ℕ) {n p : ℕ} → (suc m if b) at_place q ≡ refused n p → (suc m ≡ n) × (q ≡ p) × (b ≡ true)
at_here m true q e = let s = refused_same e in (s.0, s.1, refl)
at_here m false q e = ok_refused (sym e)

-- what stands before the first start code
lead_by : (p : ℕ) (v : List ℕ) {n q : ℕ} → lead_verdict p v ≡ refused n q → (k x : ℕ) × (b : List ℕ) × (n ≡ 33) × (q ≡ p + k) × (v ≡ zeros k ++ (suc x ∷ b))
unfolding lead_verdict
lead_by p [] e = ok_refused (sym e)
lead_by p (zero ∷ v) e = let w = lead_by (suc p) v e in (suc w.0, w.1, w.2, w.3, (let z = w.4 in omega arith), ap (λ l. 0 ∷ l) w.5)
lead_by p (suc x ∷ v) e = let s = refused_same e in (0, x, v, (let z = s.0 in omega arith), (let z = s.1 in omega arith), refl)

front_none : (v a : List ℕ) (w : List ℕ) → NoStartCode v → v ≡ a ++ w → NoStartCode a
front_none v a w h e c d f = h c (d ++ w) (e ∙ ap (λ l. l ++ w) f ∙ append_assoc c (0 ∷ 0 ∷ 1 ∷ d) w)

ends : (vs : List (List ℕ)) → UnitEnds (each coded vs)
unfolding each
ends [] = UnitEnds.end
ends (v ∷ vs) = UnitEnds.start_code (v ++ each coded vs)

-- a fault inside a unit u, with c after it
inside_fault : (L : ℕ) (a u c : List ℕ) {n q : ℕ} → NoStartCode u → Inside 0 (length a + 3) u n q → StreamFault L (a ++ (0 ∷ 0 ∷ 1 ∷ (u ++ c))) n q
inside_fault L a u c {n} {q} f w = go w.bad
  where
    go : BadAfter w.run (suc w.x) → StreamFault L (a ++ (0 ∷ 0 ∷ 1 ∷ (u ++ c))) n q
    go (inl e) =
        let is : u ≡ w.v ++ (0 ∷ 0 ∷ 2 ∷ w.b) = w.is ∙ ap₂ (λ (k y : ℕ). w.v ++ (zeros k ++ (y ∷ w.b))) e.0 e.1 in
        let z : u ++ c ≡ w.v ++ (0 ∷ 0 ∷ 2 ∷ (w.b ++ c)) = ap (λ l. l ++ c) is ∙ append_assoc w.v (0 ∷ 0 ∷ 2 ∷ w.b) c in
        let y : q ≡ length a + 3 + length w.v + 2 = let k = w.place in let j = e.0 in omega arith in
        rw (z, y, w.number) (StreamFault.after_two a w.v (w.b ++ c) (front_none u w.v (0 ∷ 0 ∷ 2 ∷ w.b) f is))
    go (inr e) =
        let v = w.v ++ zeros (w.run - 3) in
        let is : u ≡ v ++ (0 ∷ 0 ∷ 0 ∷ suc w.x ∷ w.b) = w.is ∙ last_zeros w.v 3 w.run (suc w.x ∷ w.b) e.0 in
        let z : u ++ c ≡ v ++ (0 ∷ 0 ∷ 0 ∷ suc w.x ∷ (w.b ++ c)) = ap (λ l. l ++ c) is ∙ append_assoc v (0 ∷ 0 ∷ 0 ∷ suc w.x ∷ w.b) c in
        let l = length-append w.v (zeros (w.run - 3)) in
        let m : length (zeros (w.run - 3)) ≡ w.run - 3 = length-replicate (w.run - 3) 0 in
        let y : q ≡ length a + 3 + length v + 3 = let k = w.place in let j = e.0 in omega arith in
        rw (z, y, w.number) (StreamFault.after_three a v (suc w.x) (w.b ++ c) (front_none u v (0 ∷ 0 ∷ 0 ∷ suc w.x ∷ w.b) f is) (let j = e.1 in omega arith))

-- a unit's fault
unit_by : (L : ℕ) (a v c : List ℕ) {n q : ℕ} → CodeFree v → UnitEnds c → unit_verdict L (length a + 3) (strip v) ≡ refused n q → StreamFault L (a ++ (0 ∷ 0 ∷ 1 ∷ (v ++ c))) n q
unfolding unit_verdict
unit_by L a v c {n} {q} f w e =
    let k = strip_part v in
    let u = strip v in
    let whole : v ++ c ≡ u ++ (zeros k.0 ++ c) = ap (λ l. l ++ c) k.1 ∙ append_assoc u (zeros k.0) c in
    rw whole
    (either (StreamFault L (a ++ (0 ∷ 0 ∷ 1 ∷ (u ++ (zeros k.0 ++ c))))) ((bad_byte_stream if length u ≡? 0) at_place (length a + 3 - 1)) _
    (λ g.
    let h = at_here 32 (length u ≡? 0) (length a + 3 - 1) g in
    let z : length a + 2 ≡ q = let y = h.1 in omega arith in
    let t : u ≡ [] = no_length u (eqb-true (length u) 0 h.2) in
    rw (← h.0, ← z, t) (StreamFault.empty a k.0 c w))
    (λ g h.
    either (StreamFault L (a ++ (0 ∷ 0 ∷ 1 ∷ (u ++ (zeros k.0 ++ c))))) ((unit_exceeds_length_size if 256 ^ L ≤? length u) at_place (length a + 3)) (inside_verdict 0 (length a + 3) u)
    (λ j.
    let m = at_here 33 (256 ^ L ≤? length u) (length a + 3) j in
    rw (← m.0, ← m.1) (StreamFault.long a u k.0 c w (free_unit v f) (λ y i. ends_from u y (strip_ends v) i) (leb-true (256 ^ L) (length u) m.2)))
    (λ j m. inside_fault L a u (zeros k.0 ++ c) (free_unit v f) (inside_by 0 (length a + 3) u m))
    h)
    e)

parts_by_lem : (L : ℕ) (a : List ℕ) (vs : List (List ℕ)) {n q : ℕ} → AllFree vs → parts_verdict L (length a + 3) vs ≡ refused n q → StreamFault L (a ++ each coded vs) n q
unfolding parts_verdict AllFree each
parts_by_lem L a [] f e = ok_refused (sym e)
parts_by_lem L a (v ∷ vs) {n} {q} f e =
    let l = length-append a (coded v) in
    let z : length a + 3 + length v + 3 ≡ length (a ++ coded v) + 3 = omega arith in
    let below : parts_verdict L (length (a ++ coded v) + 3) vs ≡ refused n q → StreamFault L ((a ++ coded v) ++ each coded vs) n q = parts_by_lem L (a ++ coded v) vs f.1 in
    either (StreamFault L (a ++ each coded (v ∷ vs))) (unit_verdict L (length a + 3) (strip v)) (parts_verdict L (length a + 3 + length v + 3) vs)
    (λ g. unit_by L a v (each coded vs) f.0 (ends vs) g)
    (λ g h. subst (λ y. StreamFault L y n q) (append_assoc a (coded v) (each coded vs)) (below (ap (λ (i : ℕ). parts_verdict L i vs) (sym z) ∙ h)))
    e

lead_fault : (L : ℕ) (v c : List ℕ) {n q : ℕ} → CodeFree v → lead_verdict 0 v ≡ refused n q → StreamFault L (v ++ c) n q
lead_fault L v c {n} {q} f g = let w = lead_by 0 v g in here w.0 (suc w.1) w.2 (omega arith) w.3 w.4 w.5
  where
    here : (k x : ℕ) (b : List ℕ) → 0 < x → n ≡ 33 → q ≡ 0 + k → v ≡ zeros k ++ (x ∷ b) → StreamFault L (v ++ c) n q
    here k x b some number place is =
        let m : length (zeros k) ≡ k = length-replicate k 0 in
        let z : q ≡ length (zeros k) = omega arith in
        let whole : v ++ c ≡ zeros k ++ (x ∷ (b ++ c)) = ap (λ l. l ++ c) is ∙ append_assoc (zeros k) (x ∷ b) c in
        let front : v ≡ (zeros k ++ (x ∷ [])) ++ b = is ∙ sym (append_assoc (zeros k) (x ∷ []) b) in
        rw (whole, z, number) (StreamFault.lead (zeros k) x (b ++ c) some (front_none v (zeros k ++ (x ∷ [])) b (free_none v f) front))

pub fault_by : (L : ℕ) (s : List ℕ) {n q : ℕ} → units_in L s ≡ refused n q → StreamFault L s n q
unfolding units_in units_of
fault_by L s {n} {q} e =
    let r = split s in
    let f = split_free s in
    rw (← split_join s)
    (either (StreamFault L (r.before ++ each coded r.after)) (lead_verdict 0 r.before) _
    (λ g. lead_fault L r.before (each coded r.after) f.before g)
    (λ g h.
    either (StreamFault L (r.before ++ each coded r.after)) (parts_verdict L (length r.before + 3) r.after) (ok (map strip r.after))
    (λ k. parts_by_lem L r.before r.after f.after k)
    (λ k m. ok_refused (sym m))
    h)
    e)

-- a fault stands inside
pub fault_inside : (L : ℕ) {s : List ℕ} {n p : ℕ} → StreamFault L s n p → p < length s
fault_inside L (StreamFault.lead a x b h f) = let l = length-append a (x ∷ b) in omega arith
fault_inside L (StreamFault.empty a k c w) = let l = length-append a (0 ∷ 0 ∷ 1 ∷ (zeros k ++ c)) in omega arith
fault_inside L (StreamFault.long a u k c w f g h) =
    let l = length-append a (0 ∷ 0 ∷ 1 ∷ (u ++ (zeros k ++ c))) in
    let m = length-append u (zeros k ++ c) in
    let i = one-le-pow L 256 (omega arith) in
    omega arith
fault_inside L (StreamFault.after_two a v b f) =
    let l = length-append a (0 ∷ 0 ∷ 1 ∷ (v ++ (0 ∷ 0 ∷ 2 ∷ b))) in
    let m = length-append v (0 ∷ 0 ∷ 2 ∷ b) in
    omega arith
fault_inside L (StreamFault.after_three a v x b f h) =
    let l = length-append a (0 ∷ 0 ∷ 1 ∷ (v ++ (0 ∷ 0 ∷ 0 ∷ x ∷ b))) in
    let m = length-append v (0 ∷ 0 ∷ 0 ∷ x ∷ b) in
    omega arith

-- a refusal m at q, or one before it
record Sooner {A : Type 0} (a : Answer A) (m q : ℕ) : Type 0 where
  number : ℕ
  place : ℕ
  is : a ≡ refused number place
  order : (place < q) ⊎ ((place ≡ q) × (number ≡ m))

sooner_and : {A : Type 0} (v : Verdict) (a : Answer A) (m q : ℕ) → Sooner v m q → Sooner (v and_then a) m q
sooner_and v a m q w = record { number = w.number; place = w.place; is = rw w.is; order = w.order }

-- 33 up to a place
up_to : {A : Type 0} (a : Answer A) (p q : ℕ) → a ≡ refused 33 p → p ≤ q → Sooner a 33 q
up_to a p q e h = by_bool (p ≡? q)
    (λ t. record { number = 33; place = p; is = e; order = inr (eqb-true p q t, refl) })
    (λ t. record { number = 33; place = p; is = e; order = inl (let n = eqb-false p q t in le_ne p q h n) })
  where
    le_ne : (p q : ℕ) → p ≤ q → (p ≡ q → ⊥) → p < q
    le_ne p q h n = omega arith

-- a stream a before a start code: what is refused of a is refused of both; else the parts after a are judged
parts_refused : (L p : ℕ) (vs ws : List (List ℕ)) {n q : ℕ} → parts_verdict L p vs ≡ refused n q → parts_verdict L p (vs ++ ws) ≡ refused n q
unfolding parts_verdict
parts_refused L p [] ws e = ok_refused (sym e)
parts_refused L p (v ∷ vs) ws {n} {q} e =
    let below : parts_verdict L (p + length v + 3) vs ≡ refused n q → parts_verdict L (p + length v + 3) (vs ++ ws) ≡ refused n q = parts_refused L (p + length v + 3) vs ws in
    either (λ n q. (unit_verdict L p (strip v) and_then parts_verdict L (p + length v + 3) (vs ++ ws)) ≡ refused n q) (unit_verdict L p (strip v)) (parts_verdict L (p + length v + 3) vs)
    (λ g. rw g)
    (λ g h. rw g (below h))
    e

parts_on : (L p : ℕ) (vs ws : List (List ℕ)) → parts_verdict L p vs ≡ ok tt → parts_verdict L p (vs ++ ws) ≡ parts_verdict L (p + length (each coded vs)) ws
unfolding parts_verdict each
parts_on L p [] ws e = let z : p ≡ p + 0 = omega arith in ap (λ (i : ℕ). parts_verdict L i ws) z
parts_on L p (v ∷ vs) ws e =
    let a = and_ok (unit_verdict L p (strip v)) (parts_verdict L (p + length v + 3) vs) e in
    let l = length-append v (each coded vs) in
    let z : p + length v + 3 + length (each coded vs) ≡ p + suc (suc (suc (length (v ++ each coded vs)))) = omega arith in
    rw a.0 (parts_on L (p + length v + 3) vs ws a.1 ∙ ap (λ (i : ℕ). parts_verdict L i ws) z)

module _ (L : ℕ) (a y : List ℕ) (clear : (split y).before ≡ []) where
  abbrev joined : Answer (List (List ℕ))
  joined =
      lead_verdict 0 (split a).before and_then parts_verdict L (length (split a).before + 3) ((split a).after ++ (split y).after)
      and_then ok (map strip ((split a).after ++ (split y).after))

  both : units_in L (a ++ y) ≡ joined
  unfolding units_in units_of
  both = ap (units_of L) (split_two a y clear)

  prefix_refused : {n p : ℕ} → units_in L a ≡ refused n p → units_in L (a ++ y) ≡ refused n p
  unfolding units_in units_of
  prefix_refused f =
      both ∙ either (λ n p. joined ≡ refused n p) (lead_verdict 0 (split a).before) _
      (λ g. rw g)
      (λ g h. either (λ n p. joined ≡ refused n p) (parts_verdict L (length (split a).before + 3) (split a).after) (ok (map strip (split a).after))
      (λ k. rw (g, parts_refused L (length (split a).before + 3) (split a).after (split y).after k))
      (λ k m. ok_refused (sym m))
      h)
      f

  prefix_on : {us : List (List ℕ)} → units_in L a ≡ ok us → units_in L (a ++ y) ≡ (parts_verdict L (length a + 3) (split y).after and_then ok (map strip ((split a).after ++ (split y).after)))
  unfolding units_in units_of
  prefix_on e =
      let h = and_ok (lead_verdict 0 (split a).before) _ e in
      let k = and_ok (parts_verdict L (length (split a).before + 3) (split a).after) _ h.1 in
      let l = ap length (split_join a) in
      let m = length-append (split a).before (each coded (split a).after) in
      let z : length (split a).before + 3 + length (each coded (split a).after) ≡ length a + 3 = omega arith in
      both ∙ rw (h.0, parts_on L (length (split a).before + 3) (split a).after (split y).after k.0, z)

  after_prefix : (m q : ℕ) → length a ≤ q → Sooner (parts_verdict L (length a + 3) (split y).after) m q → Sooner (units_in L (a ++ y)) m q
  after_prefix m q h w = by_answer (units_in L a)
      (λ n p e. record { number = n; place = p; is = prefix_refused e; order = inl (let i = fault_inside L (fault_by L a e) in omega arith) })
      (λ us e. subst (λ (r : Answer (List (List ℕ))). Sooner r m q) (sym (prefix_on e)) (sooner_and (parts_verdict L (length a + 3) (split y).after) _ m q w))

-- the first of some parts
first_part : (L p : ℕ) (v : List ℕ) (vs : List (List ℕ)) (m q : ℕ) → Sooner (unit_verdict L p (strip v)) m q → Sooner (parts_verdict L p (v ∷ vs)) m q
unfolding parts_verdict
first_part L p v vs m q w = sooner_and (unit_verdict L p (strip v)) (parts_verdict L (p + length v + 3) vs) m q w

-- the part v after the start code that follows a, and t after that start code
module _ (L : ℕ) (a t v : List ℕ) (vs : List (List ℕ)) (is : split t ≡ record { before = v; after = vs }) where
  in_part : (m q : ℕ) → length a ≤ q → Sooner (unit_verdict L (length a + 3) (strip v)) m q → Sooner (units_in L (a ++ (0 ∷ 0 ∷ 1 ∷ t))) m q
  in_part m q h w =
      let y : split (0 ∷ 0 ∷ 1 ∷ t) ≡ record { before = []; after = v ∷ vs } = split_code t ∙ ap (λ (r : Parts). record { before = []; after = r.before ∷ r.after }) is in
      after_prefix L a (0 ∷ 0 ∷ 1 ∷ t) (ap (λ (r : Parts). r.before) y) m q h
      (subst (λ l. Sooner (parts_verdict L (length a + 3) l) m q) (sym (ap (λ (r : Parts). r.after) y)) (first_part L (length a + 3) v vs m q w))

empty_unit_lem : (L p : ℕ) (u : List ℕ) → u ≡ [] → unit_verdict L p u ≡ refused bad_byte_stream (p - 1)
unfolding unit_verdict
empty_unit_lem L p u e = rw e

long_unit : (L p : ℕ) (u : List ℕ) → (length u ≡ 0 → ⊥) → 256 ^ L ≤ length u → unit_verdict L p u ≡ refused unit_exceeds_length_size p
unfolding unit_verdict
long_unit L p u s h = rw (ne_eqb (length u) 0 s, le-leb (256 ^ L) (length u) h)

short_unit : (L p : ℕ) (u : List ℕ) → (length u ≡ 0 → ⊥) → length u < 256 ^ L → unit_verdict L p u ≡ inside_verdict 0 p u
unfolding unit_verdict
short_unit L p u s h = rw (ne_eqb (length u) 0 s, lt-leb (256 ^ L) (length u) h)

-- a byte suc x after v and k zeros in a unit
inside_sooner : (L p : ℕ) (v : List ℕ) (k x : ℕ) (b : List ℕ) → BadAfter k (suc x) → Sooner (unit_verdict L p (v ++ (zeros k ++ (suc x ∷ b)))) 33 (p + length v + k)
inside_sooner L p v k x b h =
    let u = v ++ (zeros k ++ (suc x ∷ b)) in
    let l = length-append v (zeros k ++ (suc x ∷ b)) in
    let j = length-append (zeros k) (suc x ∷ b) in
    let some : length u ≡ 0 → ⊥ = λ e. omega arith in
    by_bool (256 ^ L ≤? length u)
    (λ t. record { number = 34; place = p; is = long_unit L p u some (leb-true (256 ^ L) (length u) t); order = inl (run h) })
    (λ t.
    let w = inside_found 0 p v k x b h in
    up_to (unit_verdict L p u) w.0 (p + length v + k) (short_unit L p u some (leb-false (256 ^ L) (length u) t) ∙ w.1) w.2)
  where
    run : BadAfter k (suc x) → p < p + length v + k
    run (inl e) = let z = e.0 in omega arith
    run (inr e) = let z = e.0 in omega arith

inside_fault_sooner : (L : ℕ) (a v : List ℕ) (k x : ℕ) (b : List ℕ) → NoStartCode v → BadAfter k (suc (suc x)) → Sooner (units_in L (a ++ (0 ∷ 0 ∷ 1 ∷ (v ++ (zeros k ++ (suc (suc x) ∷ b)))))) 33 (length a + 3 + length v + k)
inside_fault_sooner L a v k x b f h =
    let w = v ++ zeros k in
    let is : split (v ++ (zeros k ++ (suc (suc x) ∷ b))) ≡ record { before = w ++ (suc (suc x) ∷ (split b).before); after = (split b).after } =
    ap split (sym (append_assoc v (zeros k) (suc (suc x) ∷ b))) ∙ split_byte w (suc x) b (free_byte w x (code_free v k f)) in
    let u : strip (w ++ (suc (suc x) ∷ (split b).before)) ≡ v ++ (zeros k ++ (suc (suc x) ∷ strip (split b).before)) = strip_byte w (suc x) (split b).before ∙ append_assoc v (zeros k) (suc (suc x) ∷ strip (split b).before) in
    in_part L a (v ++ (zeros k ++ (suc (suc x) ∷ b))) (w ++ (suc (suc x) ∷ (split b).before)) (split b).after is 33 (length a + 3 + length v + k) (omega arith)
    (subst (λ l. Sooner (unit_verdict L (length a + 3) l) 33 (length a + 3 + length v + k)) (sym u) (inside_sooner L (length a + 3) v k (suc x) (strip (split b).before) h))

lead_found : (p : ℕ) (v : List ℕ) (x : ℕ) (b : List ℕ) → (q : ℕ) × (lead_verdict p (v ++ (suc x ∷ b)) ≡ refused 33 q) × (q ≤ p + length v)
unfolding lead_verdict
lead_found p [] x b = (p, refl, omega arith)
lead_found p (zero ∷ v) x b = let w = lead_found (suc p) v x b in (w.0, w.1, let l = w.2 in omega arith)
lead_found p (suc y ∷ v) x b = (p, refl, omega arith)

lead_sooner : (L : ℕ) (a : List ℕ) (x : ℕ) (b : List ℕ) → NoStartCode (a ++ (suc x ∷ [])) → Sooner (units_in L (a ++ (suc x ∷ b))) 33 (length a)
unfolding units_in units_of
lead_sooner L a x b f =
    let c : CodeFree (a ++ (suc x ∷ [])) = subst CodeFree (append-nil (a ++ (suc x ∷ []))) (code_free (a ++ (suc x ∷ [])) 0 f) in
    let w = lead_found 0 a x (split b).before in
    subst (λ (r : Parts). Sooner (units_of L r) 33 (length a)) (sym (split_byte a x b c))
    (sooner_and (lead_verdict 0 (a ++ (suc x ∷ (split b).before))) _ 33 (length a) (up_to _ w.0 (length a) w.1 (let l = w.2 in omega arith)))

fault_sooner : (L : ℕ) {s : List ℕ} {m q : ℕ} → StreamFault L s m q → Sooner (units_in L s) m q
fault_sooner L (StreamFault.lead a zero b h f) = absurd (omega arith)
fault_sooner L (StreamFault.lead a (suc x) b h f) = lead_sooner L a x b f
fault_sooner L (StreamFault.empty a k c w) =
    in_part L a (zeros k ++ c) (zeros k) (split c).after (unit_part_lem [] k c w none_in) 33 (length a + 2) (omega arith)
    (up_to _ (length a + 3 - 1) (length a + 2) (empty_unit_lem L (length a + 3) (strip (zeros k)) (strip_zeros [] k (unfold ends_in_zero in refl))) (omega arith))
fault_sooner L (StreamFault.long a u k c w f g h) =
    let some : length u ≡ 0 → ⊥ = λ e. let i = one-le-pow L 256 (omega arith) in omega arith in
    in_part L a (u ++ (zeros k ++ c)) (u ++ zeros k) (split c).after (unit_part_lem u k c w f) 34 (length a + 3) (omega arith)
    (subst (λ l. Sooner (unit_verdict L (length a + 3) l) 34 (length a + 3)) (sym (strip_zeros u k (ends_to u g)))
    (record { number = 34; place = length a + 3; is = long_unit L (length a + 3) u some h; order = inr (refl, refl) }))
fault_sooner L (StreamFault.after_two a v b f) = inside_fault_sooner L a v 2 0 b f (inl (refl, refl))
fault_sooner L (StreamFault.after_three a v zero b f h) = absurd (omega arith)
fault_sooner L (StreamFault.after_three a v (suc zero) b f h) = absurd (omega arith)
fault_sooner L (StreamFault.after_three a v (suc (suc x)) b f h) = inside_fault_sooner L a v 3 x b f (inr (omega arith, omega arith))

pub fault_not : (L : ℕ) {s : List ℕ} {m q : ℕ} {us : List (List ℕ)} → StreamFault L s m q → units_in L s ≡ ok us → ⊥
fault_not L f e = ok_refused (sym (fault_sooner L f).is ∙ e)

-- the first fault
pub first_by : (L : ℕ) (s : List ℕ) {n p : ℕ} → units_in L s ≡ refused n p → FirstFault L s n p
first_by L s {n} {p} e = record {
  fault = fault_by L s e;
  first = λ m q f. let w = fault_sooner L f in order m q w.number w.place (refused_same (sym w.is ∙ e)) w.order;
}
  where
    order : (m q i j : ℕ) → (i ≡ n) × (j ≡ p) → (j < q) ⊎ ((j ≡ q) × (i ≡ m)) → (p < q) ⊎ ((p ≡ q) × (n ≡ m))
    order m q i j s (inl h) = inl (let k = s.1 in omega arith)
    order m q i j s (inr h) = inr (let k = s.1 in let l = h.0 in omega arith, sym s.0 ∙ h.1)

pub by_first : (L : ℕ) (s : List ℕ) {n p : ℕ} → FirstFault L s n p → units_in L s ≡ refused n p
by_first L s {n} {p} h = let w = fault_sooner L h.fault in go w.number w.place w.is w.order
  where
    go : (i j : ℕ) → units_in L s ≡ refused i j → (j < p) ⊎ ((j ≡ p) × (i ≡ n)) → units_in L s ≡ refused n p
    go i j e (inl k) = absurd (not (h.first i j (fault_by L s e)))
      where
        not : (p < j) ⊎ ((p ≡ j) × (n ≡ i)) → ⊥
        not (inl l) = omega arith
        not (inr l) = let z = l.0 in omega arith
    go i j e (inr k) = e ∙ ap₂ refused k.1 k.0

pub refused_exactly : (L : ℕ) (s : List ℕ) (n p : ℕ) → (units_in L s ≡ refused n p) ↔ FirstFault L s n p
refused_exactly L s n p = (first_by L s, by_first L s)
