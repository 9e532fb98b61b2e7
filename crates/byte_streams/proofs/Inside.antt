-- What `inside_verdict` says of a unit. Assumes nothing.
--
--   bad_from, bad_to             `is_bad_after` as a fact, both ways
--   inside_found                 where a byte may not follow the zeros before it, the verdict is 33 there or before
--   inside_front, inside_run     after bytes without 33; after zeros
--   Inside, inside_by            where the verdict is 33, such a byte stands
--   inside_good, inside_bad_lem  a unit that can stand in a byte stream, and one that holds no start code but cannot
use Prim.Native.Nat.{ℕ, zero, suc, ◌+◌, ◌-◌, ◌≤◌}
use mathlib.Core.Path.{◌≡◌, refl, ap, ap₂, sym, ◌∙◌}
use mathlib.Core.Bool.{true, false, ◌&&◌}
use mathlib.Core.Logic.{◌⊎◌, inl, inr}
use mathlib.Core.List.{List, [], ◌∷◌, ◌++◌, append_assoc}
use native.Mathlib.Omega.{arith}
use borrow.Author.Tests.{eqb-true, le-leb, leb-true}
use lib.ListN.{length, length-append, length-replicate, replicate-append-replicate}
use Rattle.words.specs.Tests.{◌≡?◌}
use Rattle.words.specs.RefusalNumbers.{bad_byte_stream}
use Rattle.words.specs.Refusals.{refused, ok}
use Rattle.words.proofs.Tests.{by_bool, true_false, and_both}
use Rattle.words.proofs.Refusals.{ok_refused, refused_same, by_verdict}
use Rattle.byte_streams.specs.Grammar.{zeros, Streamable}
use Rattle.byte_streams.specs.Writing.{ends_in_zero, is_streamable}
use Rattle.byte_streams.specs.Reading.{is_bad_after, inside_verdict}
use Rattle.byte_streams.specs.Faults.{NoStartCode}
use Rattle.byte_streams.proofs.Forbidden.{or_right}
use Rattle.byte_streams.proofs.Units.{ends_tail, ends_from, streamable_from, streamable_to}

-- `is_bad_after` as a fact
abbrev pub BadAfter : ℕ → ℕ → Type 0
BadAfter z x = ((z ≡ 2) × (x ≡ 2)) ⊎ ((3 ≤ z) × (2 ≤ x))

pub bad_from : (z x : ℕ) → is_bad_after z x ≡ true → BadAfter z x
bad_from z x e = by_bool ((z ≡? 2) && (x ≡? 2))
    (λ t. let a = and_both _ _ t in inl (eqb-true z 2 a.0, eqb-true x 2 a.1))
    (λ t. let a = and_both _ _ (rw t at e) in inr (leb-true 3 z a.0, leb-true 2 x a.1))

pub bad_to : (z x : ℕ) → BadAfter z x → is_bad_after z x ≡ true
bad_to z x (inl h) = rw (h.0, h.1)
bad_to z x (inr h) = rw (le-leb 3 z h.0, le-leb 2 x h.1) (or_right ((z ≡? 2) && (x ≡? 2)) true refl)

bad_more : (j z x : ℕ) → BadAfter z x → BadAfter (j + z) x
bad_more zero z x (inl h) = inl (let k = h.0 in omega arith, h.1)
bad_more (suc j) z x (inl h) = inr (let k = h.0 in omega arith, let k = h.1 in omega arith)
bad_more j z x (inr h) = inr (let k = h.0 in omega arith, h.1)

-- zeros before
inside_zeros : (k z p : ℕ) (u : List ℕ) → inside_verdict z p (zeros k ++ u) ≡ inside_verdict (z + k) (p + k) u
unfolding inside_verdict
inside_zeros zero z p u = let a : z ≡ z + 0 = omega arith in let b : p ≡ p + 0 = omega arith in ap₂ (λ (i j : ℕ). inside_verdict i j u) a b
inside_zeros (suc k) z p u =
    let a : suc z + k ≡ z + suc k = omega arith in
    let b : suc p + k ≡ p + suc k = omega arith in
    inside_zeros k (suc z) (suc p) u ∙ ap₂ (λ (i j : ℕ). inside_verdict i j u) a b

-- 33 at a place, or before it
abbrev pub By : ℕ → ℕ → List ℕ → ℕ → Type 0
By z p u e = (q : ℕ) × (inside_verdict z p u ≡ refused bad_byte_stream q) × (q ≤ e)

by_byte : (z p x : ℕ) (u : List ℕ) → is_bad_after z (suc x) ≡ true → inside_verdict z p (suc x ∷ u) ≡ refused bad_byte_stream p
unfolding inside_verdict
by_byte z p x u t = rw t

by_zero : (z p : ℕ) (u : List ℕ) → inside_verdict z p (0 ∷ u) ≡ inside_verdict (suc z) (suc p) u
unfolding inside_verdict
by_zero z p u = refl

by_next : (z p x : ℕ) (u : List ℕ) → is_bad_after z (suc x) ≡ false → inside_verdict z p (suc x ∷ u) ≡ inside_verdict 0 (suc p) u
unfolding inside_verdict
by_next z p x u t = rw t

pub inside_found : (z p : ℕ) (v : List ℕ) (k x : ℕ) (b : List ℕ) → BadAfter k (suc x) → By z p (v ++ (zeros k ++ (suc x ∷ b))) (p + length v + k)
inside_found z p [] k x b h =
    (p + k, inside_zeros k z p (suc x ∷ b) ∙ by_byte (z + k) (p + k) x b (bad_to (z + k) (suc x) (bad_more z k (suc x) h)), omega arith)
inside_found z p (zero ∷ v) k x b h =
    let w = inside_found (suc z) (suc p) v k x b h in
    (w.0, by_zero z p (v ++ (zeros k ++ (suc x ∷ b))) ∙ w.1, let l = w.2 in omega arith)
inside_found z p (suc y ∷ v) k x b h =
    let w = inside_found 0 (suc p) v k x b h in
    by_bool (is_bad_after z (suc y))
    (λ t. (p, by_byte z p y (v ++ (zeros k ++ (suc x ∷ b))) t, omega arith))
    (λ t. (w.0, by_next z p y (v ++ (zeros k ++ (suc x ∷ b))) t ∙ w.1, let l = w.2 in omega arith))

-- after bytes u without 33 that do not end in 00
inside_on : (z p : ℕ) (u w : List ℕ) → (u ≡ [] → z ≡ 0) → ends_in_zero u ≡ false → inside_verdict z p u ≡ ok tt → inside_verdict z p (u ++ w) ≡ inside_verdict 0 (p + length u) w
unfolding inside_verdict
inside_on z p [] w h f e = let y : p ≡ p + 0 = omega arith in ap₂ (λ (i j : ℕ). inside_verdict i j w) (h refl) y
inside_on z p (zero ∷ []) w h f e = true_false (ends_in_zero (0 ∷ [])) (unfold ends_in_zero in refl) f
inside_on z p (zero ∷ y ∷ u) w h f e =
    let k : suc p + suc (length u) ≡ p + suc (suc (length u)) = omega arith in
    inside_on (suc z) (suc p) (y ∷ u) w (λ g. let q = ap length g in absurd (omega arith)) (sym (ends_tail 0 y u) ∙ f) e ∙ ap (λ (j : ℕ). inside_verdict 0 j w) k
inside_on z p (suc x ∷ u) w h f e =
    let k : suc p + length u ≡ p + suc (length u) = omega arith in
    let below = inside_on 0 (suc p) u w (λ g. refl) in
    by_bool (is_bad_after z (suc x))
    (λ t. ok_refused (rw t at e))
    (λ t. rw t (below (ends_rest x u f) (rw t at e) ∙ ap (λ (j : ℕ). inside_verdict 0 j w) k))
  where
    ends_rest : (x : ℕ) (u : List ℕ) → ends_in_zero (suc x ∷ u) ≡ false → ends_in_zero u ≡ false
    ends_rest x [] f = unfold ends_in_zero in refl
    ends_rest x (y ∷ u) f = sym (ends_tail (suc x) y u) ∙ f

pub inside_front : (p : ℕ) (u w : List ℕ) → ends_in_zero u ≡ false → inside_verdict 0 p u ≡ ok tt → inside_verdict 0 p (u ++ w) ≡ inside_verdict 0 (p + length u) w
inside_front p u w f e = inside_on 0 p u w (λ g. refl) f e

pub inside_run : (p k x : ℕ) (b : List ℕ) → BadAfter k (suc x) → inside_verdict 0 p (zeros k ++ (suc x ∷ b)) ≡ refused bad_byte_stream (p + k)
inside_run p k x b h =
    let z : 0 + k ≡ k = omega arith in
    inside_zeros k 0 p (suc x ∷ b) ∙ ap (λ (i : ℕ). inside_verdict i (p + k) (suc x ∷ b)) z ∙ by_byte k (p + k) x b (bad_to k (suc x) h)

-- where it stands: u starts at p, after z zeros
pub record Inside (z p : ℕ) (u : List ℕ) (n q : ℕ) : Type 0 where
  pub v : List ℕ
  pub run : ℕ
  pub x : ℕ
  pub b : List ℕ
  pub number : n ≡ bad_byte_stream
  pub place : q + z ≡ p + length v + run
  pub is : zeros z ++ u ≡ v ++ (zeros run ++ (suc x ∷ b))
  pub bad : BadAfter run (suc x)

pub more_zeros : (z : ℕ) (u : List ℕ) → zeros z ++ (0 ∷ u) ≡ zeros (suc z) ++ u
more_zeros zero u = refl
more_zeros (suc z) u = ap (λ l. 0 ∷ l) (more_zeros z u)

pub inside_by : (z p : ℕ) (u : List ℕ) {n q : ℕ} → inside_verdict z p u ≡ refused n q → Inside z p u n q
unfolding inside_verdict
inside_by z p [] e = ok_refused (sym e)
inside_by z p (zero ∷ u) e =
    let w = inside_by (suc z) (suc p) u e in
    record { v = w.v; run = w.run; x = w.x; b = w.b; number = w.number; place = let k = w.place in omega arith; is = more_zeros z u ∙ w.is; bad = w.bad }
inside_by z p (suc y ∷ u) {n} {q} e =
    let below : inside_verdict 0 (suc p) u ≡ refused n q → Inside 0 (suc p) u n q = inside_by 0 (suc p) u in
    by_bool (is_bad_after z (suc y))
    (λ t.
    let s = refused_same {n = bad_byte_stream} {m = n} {p = p} {q = q} (rw t at e) in
    record { v = []; run = z; x = y; b = u; number = sym s.0; place = let k = s.1 in omega arith; is = refl; bad = bad_from z (suc y) t })
    (λ t.
    let w = below (rw t at e) in
    let l = length-append (zeros z) (suc y ∷ w.v) in
    let m : length (zeros z) ≡ z = length-replicate z 0 in
    record {
      v = zeros z ++ (suc y ∷ w.v);
      run = w.run;
      x = w.x;
      b = w.b;
      number = w.number;
      place = let k = w.place in omega arith;
      is = ap (λ c. zeros z ++ (suc y ∷ c)) w.is ∙ sym (append_assoc (zeros z) (suc y ∷ w.v) (zeros w.run ++ (suc w.x ∷ w.b)));
      bad = w.bad;
    })

-- a unit that can stand in a byte stream
abbrev NoForbidden : List ℕ → Type 0
NoForbidden u = (a b : List ℕ) (x : ℕ) → u ≡ a ++ (0 ∷ 0 ∷ x ∷ b) → x ≤ 2 → ⊥

pub split_zeros : (a b : ℕ) (u : List ℕ) → zeros (a + b) ++ u ≡ zeros a ++ (zeros b ++ u)
split_zeros a b u = ap (λ l. l ++ u) (sym (replicate-append-replicate a b 0)) ∙ append_assoc (zeros a) (zeros b) u

-- the last j of k zeros
pub last_zeros : (v : List ℕ) (j k : ℕ) (u : List ℕ) → j ≤ k → v ++ (zeros k ++ u) ≡ (v ++ zeros (k - j)) ++ (zeros j ++ u)
last_zeros v j k u h =
    let e : k ≡ k - j + j = omega arith in
    ap (λ (i : ℕ). v ++ (zeros i ++ u)) e ∙ ap (λ l. v ++ l) (split_zeros (k - j) j u) ∙ sym (append_assoc v (zeros (k - j)) (zeros j ++ u))

clear_not : (u : List ℕ) {n q : ℕ} → NoForbidden u → Inside 0 0 u n q → ⊥
clear_not u h w = go w.bad
  where
    go : BadAfter w.run (suc w.x) → ⊥
    go (inl e) = h w.v w.b 2 (w.is ∙ ap₂ (λ (k y : ℕ). w.v ++ (zeros k ++ (y ∷ w.b))) e.0 e.1) (omega arith)
    go (inr e) = h (w.v ++ zeros (w.run - 3)) (suc w.x ∷ w.b) 0 (w.is ∙ last_zeros w.v 3 w.run (suc w.x ∷ w.b) e.0) (omega arith)

-- the place does not matter to whether there is a refusal
moved : (p : ℕ) (u : List ℕ) {n q : ℕ} → Inside 0 p u n q → Inside 0 0 u n (q - p)
moved p u w = record { v = w.v; run = w.run; x = w.x; b = w.b; number = w.number; place = let k = w.place in omega arith; is = w.is; bad = w.bad }

pub inside_good : (p : ℕ) (u : List ℕ) → is_streamable u ≡ true → inside_verdict 0 p u ≡ ok tt
inside_good p u e = by_verdict (inside_verdict 0 p u)
    (λ n q f. absurd (clear_not u (streamable_from u e).no_forbidden (moved p u (inside_by 0 p u f))))
    (λ f. f)

-- and one that cannot: a byte above 00 follows every zero
first_byte : (v : List ℕ) → ends_in_zero (0 ∷ v) ≡ false → (j y : ℕ) × (b : List ℕ) × (v ≡ zeros j ++ (suc y ∷ b))
first_byte [] e = true_false (ends_in_zero (0 ∷ [])) (unfold ends_in_zero in refl) e
first_byte (zero ∷ v) e = let w = first_byte v (sym (ends_tail 0 0 v) ∙ e) in (suc w.0, w.1, w.2, ap (λ l. 0 ∷ l) w.3)
first_byte (suc y ∷ v) e = (0, y, v, refl)

ends_after : (l : List ℕ) (y : ℕ) (m : List ℕ) → ends_in_zero (l ++ (y ∷ m)) ≡ ends_in_zero (y ∷ m)
ends_after [] y m = refl
ends_after (x ∷ []) y m = ends_tail x y m
ends_after (x ∷ w ∷ l) y m = ends_tail x w (l ++ (y ∷ m)) ∙ ends_after (w ∷ l) y m

module _ (p : ℕ) (u : List ℕ) (free : NoStartCode u) (last : ends_in_zero u ≡ false) (good : inside_verdict 0 p u ≡ ok tt) where
  none_of : (v : List ℕ) (k x : ℕ) (b : List ℕ) → u ≡ v ++ (zeros k ++ (suc x ∷ b)) → BadAfter k (suc x) → ⊥
  none_of v k x b e h = let w = inside_found 0 p v k x b h in ok_refused (sym w.1 ∙ ap (inside_verdict 0 p) (sym e) ∙ good)

  -- three zeros, and those after them
  none_zeros : (a b : List ℕ) → u ≡ a ++ (0 ∷ 0 ∷ 0 ∷ b) → ⊥
  none_zeros a b e =
      let l : ends_in_zero (0 ∷ b) ≡ false = sym (ends_tail 0 0 b) ∙ sym (ends_tail 0 0 (0 ∷ b)) ∙ sym (ends_after a 0 (0 ∷ 0 ∷ b)) ∙ ap ends_in_zero (sym e) ∙ last in
      let w = first_byte b l in
      let is : u ≡ a ++ (zeros (suc (suc (suc w.0))) ++ (suc w.1 ∷ w.2)) = e ∙ ap (λ c. a ++ (0 ∷ 0 ∷ 0 ∷ c)) w.3 in
      go w.1 w.0 w.2 is
    where
      go : (y j : ℕ) (c : List ℕ) → u ≡ a ++ (zeros (suc (suc (suc j))) ++ (suc y ∷ c)) → ⊥
      go zero j c is = free (a ++ zeros (suc (suc (suc j)) - 2)) c (is ∙ last_zeros a 2 (suc (suc (suc j))) (1 ∷ c) (omega arith))
      go (suc y) j c is = none_of a (suc (suc (suc j))) (suc y) c is (inr (omega arith, omega arith))

  none_forbidden : NoForbidden u
  none_forbidden a b zero e h = none_zeros a b e
  none_forbidden a b (suc zero) e h = free a b e
  none_forbidden a b (suc (suc zero)) e h = none_of a 2 1 b e (inl (refl, refl))
  none_forbidden a b (suc (suc (suc x))) e h = omega arith

  pub inside_streamable : (u ≡ [] → ⊥) → Streamable u
  inside_streamable some = record { not_empty = some; no_zero_at_end = λ a e. ends_from u a last e; no_forbidden = none_forbidden }

pub inside_bad_lem : (p : ℕ) (u : List ℕ) → NoStartCode u → (length u ≡ 0 → ⊥) → ends_in_zero u ≡ false → is_streamable u ≡ false → (q : ℕ) × (inside_verdict 0 p u ≡ refused bad_byte_stream q)
inside_bad_lem p u free some last not = by_verdict (inside_verdict 0 p u)
    (λ n q f. let w = inside_by 0 p u f in (q, f ∙ ap (λ (m : ℕ). refused m q) w.number))
    (λ f. true_false (is_streamable u) (streamable_to u (inside_streamable p u free last f (λ e. some (ap length e)))) not)
