-- Chains of refusals taken apart and built, and the first refusal of a list. Assumes nothing.
--
--   if_none, if_some                                             a test that named a refusal: it failed where there is none; it held where there is one
--   or_else_none                                                 a chain without a refusal: none in either part
--   or_else_here, or_else_on                                     by a function's result: its refusal is the chain's, or the chain goes on
--   or_else_assoc                                                a chain may be cut anywhere
--   at_ok, at_none, at_from, at_refused                          a number at a place, as a verdict
--   and_ok                                                       a verdict and an answer that is no refusal
--   by_verdict, by_answer                                        cases of a verdict and of an answer, with the equation
--   NoneOr, none_or_if, -orElse, -pick, -firstOf, -some, -wider  refusal numbers of a chain that are none, or one of a set
--   first_of_none, -cong, -map                                   the first refusal number of a list
--   first_ok, first_all, first_from, first_cong                  the first refusal of a list
--   ok_same, ok_refused, refused_same, refused_along             two answers that are equal; what is said of the number and place of the one holds of the other's
use Prim.Native.Nat.{ℕ, zero, suc, ◌<◌}
use mathlib.Core.Path.{◌≡◌, refl, ap, ap₂, sym, ◌∙◌, subst}
use mathlib.Core.List.Memᴰ
use mathlib.Core.List.{List, [], ◌∷◌, map, Memᴰ}
use mathlib.Core.Bool.{Bool, true, false}
use mathlib.Core.Logic.{◌⊎◌, inl, inr}
use native.Mathlib.Omega.{arith}
use Rattle.words.specs.Tests.{pick}
use Rattle.words.specs.Lists.{◌∈◌}
use Rattle.words.specs.Refusals.{◌if◌, ◌or_else◌, first_of, Answer, refused, ok, Verdict, ◌and_then◌, ◌at_place◌, first}

pub if_none : (n : ℕ) (b : Bool) → (suc n if b) ≡ 0 → b ≡ false
if_none n true e = absurd (omega arith)
if_none n false e = refl

pub if_some : (n m : ℕ) (b : Bool) → (suc n if b) ≡ suc m → b ≡ true
if_some n m true e = refl
if_some n m false e = absurd (omega arith)

pub or_else_none : (n m : ℕ) → (n or_else m) ≡ 0 → (n ≡ 0) × (m ≡ 0)
or_else_none zero m e = (refl, e)
or_else_none (suc n) m e = absurd (omega arith)

pub or_else_assoc : (a b c : ℕ) → ((a or_else b) or_else c) ≡ (a or_else b or_else c)
or_else_assoc zero b c = refl
or_else_assoc (suc a) b c = refl

-- by a function's result r, which is the number n
pub or_else_here : {r n : ℕ} (m : ℕ) → r ≡ n → (r ≡ 0 → ⊥) → r ≡ (n or_else m)
or_else_here {r} m e f = rw (← e) (go r f)
  where
    go : (r : ℕ) → (r ≡ 0 → ⊥) → r ≡ (r or_else m)
    go zero f = absurd (f refl)
    go (suc r) f = refl

pub or_else_on : {r n : ℕ} (m : ℕ) → r ≡ n → r ≡ 0 → (n or_else m) ≡ m
or_else_on m e z = rw (sym e ∙ z)

pub at_ok : (n p : ℕ) → n at_place p ≡ ok tt → n ≡ 0
at_ok zero p e = refl
at_ok (suc n) p e = let z : ◌≡◌ {A = ℕ} 0 1 = cc in absurd (omega arith)

pub at_from : (m p : ℕ) {n q : ℕ} → m at_place p ≡ refused n q → (m ≡ n) × (p ≡ q) × (0 < m)
at_from zero p e = let z : ◌≡◌ {A = ℕ} 0 1 = cc in absurd (omega arith)
at_from (suc m) p e = (cc, cc, omega arith)

pub at_none : {n : ℕ} (p : ℕ) → n ≡ 0 → n at_place p ≡ ok tt
at_none p e = rw e

pub at_refused : {r n : ℕ} (p : ℕ) → r ≡ n → (r ≡ 0 → ⊥) → n at_place p ≡ refused r p
at_refused {r} p e f = rw (← e) (go r f)
  where
    go : (r : ℕ) → (r ≡ 0 → ⊥) → r at_place p ≡ refused r p
    go zero f = absurd (f refl)
    go (suc r) f = refl

pub and_ok : {A : Type 0} {a : A} (v : Verdict) (w : Answer A) → (v and_then w) ≡ ok a → (v ≡ ok tt) × (w ≡ ok a)
and_ok (refused n p) w e = let z : ◌≡◌ {A = ℕ} 0 1 = cc in absurd (omega arith)
and_ok (ok u) w e = (refl, e)

pub by_verdict : {G : Type 0} (v : Verdict) → ((n p : ℕ) → v ≡ refused n p → G) → (v ≡ ok tt → G) → G
by_verdict (refused n p) f g = f n p refl
by_verdict (ok u) f g = g refl

pub by_answer : {A G : Type 0} (a : Answer A) → ((n p : ℕ) → a ≡ refused n p → G) → ((x : A) → a ≡ ok x → G) → G
by_answer (refused n p) f g = f n p refl
by_answer (ok x) f g = g x refl

module _ {A : Type 0} where
  pub ok_same : {a b : A} → ok a ≡ ok b → a ≡ b
  ok_same e = cc

  pub ok_refused : {G : Type 0} {a : A} {n p : ℕ} → refused n p ≡ ok a → G
  ok_refused e = let z : ◌≡◌ {A = ℕ} 0 1 = cc in absurd (omega arith)

  pub refused_same : {n m p q : ℕ} → ◌≡◌ {A = Answer A} (refused n p) (refused m q) → (n ≡ m) × (p ≡ q)
  refused_same e = (cc, cc)

  pub refused_along : (P : ℕ → ℕ → Type 0) {n m p q : ℕ} → ◌≡◌ {A = Answer A} (refused n p) (refused m q) → P n p → P m q
  refused_along P {n} {m} {p} {q} e w = let s = refused_same e in subst (λ (x : ℕ). P x q) s.0 (subst (P n) s.1 w)

-- a refusal number that is none, or one of a set
abbrev pub NoneOr : List ℕ → ℕ → Type 0
NoneOr ns n = (n ≡ 0) ⊎ (n ∈ ns)

module _ (ns : List ℕ) where
  pub none_or_if : (n : ℕ) (t : Bool) → n ∈ ns → NoneOr ns (n if t)
  none_or_if n true h = inr h
  none_or_if n false h = inl refl

  pub none_or_or_else : (n m : ℕ) → NoneOr ns n → NoneOr ns m → NoneOr ns (n or_else m)
  none_or_or_else zero m h k = k
  none_or_or_else (suc n) m h k = h

  pub none_or_pick : (t : Bool) (n m : ℕ) → NoneOr ns n → NoneOr ns m → NoneOr ns (pick t n m)
  none_or_pick true n m h k = h
  none_or_pick false n m h k = k

  pub none_or_first_of : (f : ℕ → ℕ) (ps : List ℕ) → ((p : ℕ) → NoneOr ns (f p)) → NoneOr ns (first_of f ps)
  unfolding first_of
  none_or_first_of f [] h = inl refl
  none_or_first_of f (p ∷ ps) h = none_or_or_else (f p) (first_of f ps) (h p) (none_or_first_of f ps h)

  pub none_or_some : {n : ℕ} → NoneOr ns n → 0 < n → n ∈ ns
  none_or_some (inl z) e = absurd (omega arith)
  none_or_some (inr w) e = w

-- a set that is part of another
pub none_or_wider : {ns ms : List ℕ} {n : ℕ} → ((m : ℕ) → m ∈ ns → m ∈ ms) → NoneOr ns n → NoneOr ms n
none_or_wider f (inl z) = inl z
none_or_wider {n = n} f (inr w) = inr (f n w)

-- the first refusal number of a list
pub first_of_none : (f : ℕ → ℕ) {p : ℕ} (ps : List ℕ) → first_of f ps ≡ 0 → Memᴰ p ps → f p ≡ 0
unfolding first_of
first_of_none f [] e m = absurd (Memᴰ.not-nil m)
first_of_none f {p} (q ∷ ps) e m = go (first_of_none f ps) (Memᴰ.cases_cons m)
  where
    go : (first_of f ps ≡ 0 → Memᴰ p ps → f p ≡ 0) → (p ≡ q) ⊎ Memᴰ p ps → f p ≡ 0
    go below (inl h) = ap f h ∙ (or_else_none (f q) (first_of f ps) e).0
    go below (inr h) = below (or_else_none (f q) (first_of f ps) e).1 h

pub first_of_cong : (f g : ℕ → ℕ) (ps : List ℕ) → ((p : ℕ) → Memᴰ p ps → f p ≡ g p) → first_of f ps ≡ first_of g ps
unfolding first_of
first_of_cong f g [] h = refl
first_of_cong f g (p ∷ ps) h = ap₂ ◌or_else◌ (h p (Memᴰ.head refl)) (first_of_cong f g ps (λ y m. h y (Memᴰ.tail m)))

pub first_of_map : (f g : ℕ → ℕ) (ps : List ℕ) → first_of f (map g ps) ≡ first_of (λ p. f (g p)) ps
unfolding first_of
first_of_map f g [] = refl
first_of_map f g (p ∷ ps) = ap (λ (n : ℕ). f (g p) or_else n) (first_of_map f g ps)

-- the first refusal of a list
pub first_cong : (f g : ℕ → Verdict) (ps : List ℕ) → ((p : ℕ) → Memᴰ p ps → f p ≡ g p) → first f ps ≡ first g ps
unfolding first
first_cong f g [] h = refl
first_cong f g (p ∷ ps) h = ap₂ ◌and_then◌ (h p (Memᴰ.head refl)) (first_cong f g ps (λ y m. h y (Memᴰ.tail m)))

pub first_ok : (f : ℕ → Verdict) {p : ℕ} (ps : List ℕ) → first f ps ≡ ok tt → Memᴰ p ps → f p ≡ ok tt
unfolding first
first_ok f [] e m = absurd (Memᴰ.not-nil m)
first_ok f {p} (q ∷ ps) e m = go (first_ok f ps) (Memᴰ.cases_cons m)
  where
    go : (first f ps ≡ ok tt → Memᴰ p ps → f p ≡ ok tt) → (p ≡ q) ⊎ Memᴰ p ps → f p ≡ ok tt
    go below (inl h) = ap f h ∙ (and_ok (f q) (first f ps) e).0
    go below (inr h) = below (and_ok (f q) (first f ps) e).1 h

pub first_all : (f : ℕ → Verdict) (ps : List ℕ) → ((p : ℕ) → Memᴰ p ps → f p ≡ ok tt) → first f ps ≡ ok tt
unfolding first
first_all f [] h = refl
first_all f (p ∷ ps) h = rw (h p (Memᴰ.head refl), first_all f ps (λ q m. h q (Memᴰ.tail m)))

-- the first refusal of a list is the refusal of one of its places
pub first_from : (f : ℕ → Verdict) {n q : ℕ} (ps : List ℕ) → first f ps ≡ refused n q → (p : ℕ) × Memᴰ p ps × (f p ≡ refused n q)
unfolding first
first_from f [] e = let z : ◌≡◌ {A = ℕ} 0 1 = cc in absurd (omega arith)
first_from f {n} {q} (p ∷ ps) e = let below = first_from f {n = n} {q = q} ps in by_verdict (f p)
    (λ m r t. (p, Memᴰ.head refl, t ∙ (rw t at e)))
    (λ t. let b = below (rw t at e) in (b.0, Memᴰ.tail b.1, b.2))
