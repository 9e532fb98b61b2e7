-- Laws of the first fault of a list of places. Assumes nothing.
--
--   Judges f R G                              the number f is 0 exactly if G holds, and else a number that R has and no other
--   at_some, or_else_some                     a refusal number at a place, as a verdict; at the head of a chain
--   in_list                                   the first place at fault is one of the list
--   first_in, in_first                        the first refusal of a list is that of the first place at fault, both ways
--   first_fault_lem, fault_first              the same for numbers at places
--   by_and, and_here                          a chain of two verdicts that refuses
--   Section                                   a count, then entries
--   by_section, section_count, section_entry  a section is refused at its count or at its first entry at fault, both ways
use Prim.Native.Nat.{ℕ, zero, suc, ◌<◌}
use mathlib.Core.Path.{◌≡◌, refl, sym, ◌∙◌, subst}
use mathlib.Core.List.Memᴰ
use mathlib.Core.List.{List, [], ◌∷◌}
use native.Mathlib.Omega.{arith}
use Rattle.words.specs.Refusals.{◌or_else◌, Answer, refused, ok, Verdict, ◌and_then◌, ◌at_place◌, first}
use Rattle.words.specs.Lists.{◌∈◌}
use Rattle.words.proofs.Refusals.{at_ok, at_none, at_from, at_refused, by_verdict, ok_refused, refused_same}
use Rattle.promise_rules.specs.First.{FirstIn}

pub record Judges (f : ℕ) (R : ℕ → Type 0) (G : Type 0) : Type 0 where
  pub good : f ≡ 0 → G
  pub none : G → f ≡ 0
  pub because : 0 < f → R f
  pub refuses : (n : ℕ) → R n → (f ≡ n) × (0 < n)

pub at_some : {n m : ℕ} (p : ℕ) → (n ≡ m) × (0 < m) → n at_place p ≡ refused m p
at_some p w = at_refused p (sym w.0) (λ z. let h = w.1 in omega arith)

pub or_else_some : (n m k : ℕ) → (n ≡ m) × (0 < m) → (n or_else k) ≡ m
or_else_some zero m k w = let e = w.0 in let h = w.1 in absurd (omega arith)
or_else_some (suc n) m k w = w.0

pub in_list : {Good : ℕ → Type 0} {ps : List ℕ} {p : ℕ} → FirstIn Good ps p → p ∈ ps
in_list FirstIn.here = Memᴰ.head refl
in_list (FirstIn.after g w) = Memᴰ.tail (in_list w)

module _ (judge : ℕ → Verdict) (Good : ℕ → Type 0) where
  pub first_in :
      (ps : List ℕ) → ((q : ℕ) → q ∈ ps → judge q ≡ ok tt → Good q) → {m p : ℕ} → first judge ps ≡ refused m p →
      (q : ℕ) × (q ∈ ps) × FirstIn Good ps q × (judge q ≡ refused m p)
  unfolding first
  first_in [] h e = ok_refused (sym e)
  first_in (q ∷ ps) h {m} {p} e =
      let below = first_in ps (λ r k. h r (Memᴰ.tail k)) {m = m} {p = p} in
      by_verdict (judge q)
      (λ n r t. (q, Memᴰ.head refl, FirstIn.here, t ∙ (rw t at e)))
      (λ t. let w = below (rw t at e) in (w.0, Memᴰ.tail w.1, FirstIn.after (h q (Memᴰ.head refl) t) w.2, w.3))

  pub in_first :
      {ps : List ℕ} {q m p : ℕ} → ((r : ℕ) → r ∈ ps → Good r → judge r ≡ ok tt) → FirstIn Good ps q → judge q ≡ refused m p →
      first judge ps ≡ refused m p
  unfolding first
  in_first h FirstIn.here j = rw j
  in_first h (FirstIn.after {q = r} g w) j = rw (h r (Memᴰ.head refl) g) (in_first (λ s k. h s (Memᴰ.tail k)) w j)

module _ (f place : ℕ → ℕ) (Good : ℕ → Type 0) (Fault : ℕ → ℕ → Type 0) (ps : List ℕ) (judges : (q : ℕ) → q ∈ ps → Judges (f q) (Fault q) (Good q)) where
  pub first_fault_lem : {m p : ℕ} → first (λ q. f q at_place place q) ps ≡ refused m p → (q : ℕ) × FirstIn Good ps q × Fault q m × (place q ≡ p)
  first_fault_lem e =
      let w = first_in (λ q. f q at_place place q) Good ps (λ q k t. (judges q k).good (at_ok (f q) (place q) t)) e in
      let a = at_from (f w.0) (place w.0) w.3 in
      (w.0, w.2, subst (Fault w.0) a.0 ((judges w.0 w.1).because a.2), a.1)

  pub fault_first : {q m : ℕ} → FirstIn Good ps q → Fault q m → first (λ q. f q at_place place q) ps ≡ refused m (place q)
  fault_first {q} {m} w x =
      in_first (λ q. f q at_place place q) Good (λ r k g. at_none (place r) ((judges r k).none g)) w
      (at_some (place q) ((judges q (in_list w)).refuses m x))

pub by_and :
    {A G : Type 0} {m p : ℕ} (v : Verdict) (a : Answer A) → (v and_then a) ≡ refused m p → (v ≡ refused m p → G) → (v ≡ ok tt → a ≡ refused m p → G) → G
by_and {A = A} v a e f g = by_verdict v (λ n q t. f (t ∙ same (rw t at e))) (λ t. g t (rw t at e))
  where
    same : {n q m p : ℕ} → ◌≡◌ {A = Answer A} (refused n q) (refused m p) → ◌≡◌ {A = Verdict} (refused n q) (refused m p)
    same h = let s = refused_same h in rw (s.0, s.1)

pub and_here : {A : Type 0} {m p : ℕ} (v : Verdict) (a : Answer A) → v ≡ refused m p → (v and_then a) ≡ refused m p
and_here v a e = rw e

-- a section: its count at a place, then its entries, each with the place where it is refused
pub record Section : Type 1 where
  pub at : ℕ
  pub count : ℕ
  pub Count : Type 0
  pub CountFault : ℕ → Type 0
  pub counts : Judges count CountFault Count
  pub entries : List ℕ
  pub place : ℕ → ℕ
  pub fault : ℕ → ℕ
  pub Good : ℕ → Type 0
  pub Fault : ℕ → ℕ → Type 0
  pub judges : (q : ℕ) → q ∈ entries → Judges (fault q) (Fault q) (Good q)

module _ (s : Section) where
  abbrev verdict : Verdict
  verdict = s.count at_place s.at and_then first (λ q. s.fault q at_place s.place q) s.entries

  pub by_section :
      (G : ℕ → ℕ → Type 0) → ((m : ℕ) → s.CountFault m → G m s.at) →
      ((m q : ℕ) → s.Count → FirstIn s.Good s.entries q → s.Fault q m → G m (s.place q)) →
      {m q : ℕ} → verdict ≡ refused m q → G m q
  by_section G count entry {m} {q} e = by_and (s.count at_place s.at) (first (λ q. s.fault q at_place s.place q) s.entries) e
      (λ v. let a = at_from s.count s.at v in subst (G m) a.1 (count m (subst s.CountFault a.0 (s.counts.because a.2))))
      (λ v w.
      let i = first_fault_lem s.fault s.place s.Good s.Fault s.entries s.judges w in
      subst (G m) i.3 (entry m i.0 (s.counts.good (at_ok s.count s.at v)) i.1 i.2))

  pub section_count : {m : ℕ} → s.CountFault m → verdict ≡ refused m s.at
  section_count {m} w = rw (at_some s.at (s.counts.refuses m w))

  pub section_entry : {m q : ℕ} → s.Count → FirstIn s.Good s.entries q → s.Fault q m → verdict ≡ refused m (s.place q)
  section_entry w i x = rw (s.counts.none w) (fault_first s.fault s.place s.Good s.Fault s.entries s.judges i x)
