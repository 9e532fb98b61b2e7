-- A stream split at its start codes, and the zeros at the end of a part: so the units of a stream are found. Assumes nothing.
--
--   code_from                  what `begins_code` says
--   cons_code, cons_on         a byte before what is split already
--   coded, joined              a part after its start code; parts joined again
--   split_join                 what is split, joined again, is the stream
--   split_most, strip_most     so what stands before the first start code is not longer; what is left of a part is not
--   CodeFree, split_append     a part in which no start code begins is split off whole
--   split_two                  before a start code, a stream is split by itself
--   split_code                 a start code starts a part
--   split_free, AllFree        no start code begins in a part
--   none_in                    no start code stands in the empty list
--   code_free, free_none       no start code begins in a unit that holds none and zeros after it; where none begins, none stands
--   strip_ends                 what is left of a part does not end in 00
--   strip_part                 a part is what is left of it, and zeros
--   split_byte                 a stream split before a byte above 00 that ends no start code
--   free_byte, strip_byte      no start code ends with a byte above 01; a byte above 00 is not stripped
--   ends_clear, unit_part_lem  what follows a unit and its zeros; a unit and its zeros are a part
--   free_unit                  no start code stands in the unit of a part
--   strip_zeros                a unit that does not end in 00 is what is left of it and zeros after it
use Prim.Native.Nat.{ℕ, zero, suc, ◌≤◌}
use mathlib.Core.Path.{◌≡◌, refl, ap, ap₂, sym, ◌∙◌, subst}
use mathlib.Core.Bool.{Bool, true, false, ◌&&◌}
use mathlib.Core.List.{List, [], ◌∷◌, ◌++◌, append_assoc}
use native.Mathlib.Omega.{arith}
use borrow.Author.Tests.{eqb-true, ne_eqb}
use lib.ListN.{length, drop, length-append}
use Rattle.words.specs.Tests.{◌≡?◌}
use Rattle.words.specs.Lists.{each}
use Rattle.words.specs.Bytes.{byte_at}
use Rattle.words.proofs.Tests.{by_bool, true_false, and_both}
use Rattle.byte_streams.specs.Grammar.{zeros}
use Rattle.byte_streams.specs.Writing.{ends_in_zero}
use Rattle.byte_streams.specs.Reading.{begins_code, Parts, split_cons, split, strip_cons, strip}
use Rattle.byte_streams.specs.Faults.{NoStartCode, UnitEnds}
use Rattle.byte_streams.proofs.Units.{ends_tail}

abbrev pub coded : List ℕ → List ℕ
coded v = 0 ∷ 0 ∷ 1 ∷ v

abbrev pub joined : Parts → List ℕ
joined r = r.before ++ each coded r.after

-- what `begins_code` says
code_from : (x : ℕ) (v : List ℕ) → begins_code x v ≡ true → (x ≡ 0) × (byte_at v 0 ≡ 0) × (byte_at v 1 ≡ 1)
unfolding begins_code
code_from x v e =
    let a = and_both _ _ e in
    let b = and_both _ _ a.1 in
    (eqb-true x 0 a.0, eqb-true (byte_at v 0) 0 b.0, eqb-true (byte_at v 1) 1 b.1)

cons_code : (x : ℕ) (r : Parts) → begins_code x r.before ≡ true → split_cons x r ≡ record { before = []; after = drop 2 r.before ∷ r.after }
unfolding split_cons
cons_code x r e = rw e

cons_on : (x : ℕ) (r : Parts) → begins_code x r.before ≡ false → split_cons x r ≡ record { before = x ∷ r.before; after = r.after }
unfolding split_cons
cons_on x r e = rw e

begins : (v : List ℕ) → byte_at v 0 ≡ 0 → byte_at v 1 ≡ 1 → v ≡ 0 ∷ 1 ∷ drop 2 v
begins [] e f = absurd (omega arith)
begins (x ∷ []) e f = absurd (omega arith)
begins (x ∷ y ∷ v) e f = ap₂ (λ (a b : ℕ). a ∷ b ∷ v) e f

cons_join : (x : ℕ) (r : Parts) → joined (split_cons x r) ≡ x ∷ joined r
cons_join x r = by_bool (begins_code x r.before)
    (λ t.
    let c = code_from x r.before t in
    rw (cons_code x r t) (unfold each in sym (ap₂ (λ (y : ℕ) (l : List ℕ). y ∷ (l ++ each coded r.after)) c.0 (begins r.before c.1 c.2))))
    (λ t. rw (cons_on x r t))

pub split_join : (s : List ℕ) → joined (split s) ≡ s
unfolding split
split_join [] = unfold each in refl
split_join (x ∷ s) = cons_join x (split s) ∙ ap (λ l. x ∷ l) (split_join s)

pub split_most : (s : List ℕ) → length (split s).before ≤ length s
split_most s = let e = ap length (split_join s) in let l = length-append (split s).before (each coded (split s).after) in omega arith

-- no start code begins in v
unfoldable pub CodeFree : List ℕ → Type 0
CodeFree [] = Unit {0}
CodeFree (x ∷ v) = (begins_code x v ≡ false) × CodeFree v

pub split_append : (v c : List ℕ) → CodeFree v → (split c).before ≡ [] → split (v ++ c) ≡ record { before = v; after = (split c).after }
unfolding CodeFree split
split_append [] c h e = rw (← e)
split_append (x ∷ v) c h e = ap (split_cons x) (split_append v c h.1 e) ∙ cons_on x (record { before = v; after = (split c).after }) h.0

pub split_two : (s y : List ℕ) → (split y).before ≡ [] → split (s ++ y) ≡ record { before = (split s).before; after = (split s).after ++ (split y).after }
unfolding split
split_two [] y e = rw (← e)
split_two (x ∷ s) y e =
    let below = split_two s y e in
    ap (split_cons x) below ∙ by_bool (begins_code x (split s).before)
    (λ t. rw (cons_code x (split s) t) (cons_code x (record { before = (split s).before; after = (split s).after ++ (split y).after }) t))
    (λ t. rw (cons_on x (split s) t) (cons_on x (record { before = (split s).before; after = (split s).after ++ (split y).after }) t))

pub split_code : (s : List ℕ) → split (0 ∷ 0 ∷ 1 ∷ s) ≡ record { before = []; after = (split s).before ∷ (split s).after }
unfolding split split_cons begins_code
split_code s = refl

zeros_at : (n i : ℕ) → byte_at (zeros n) i ≡ 0
zeros_at zero i = refl
zeros_at (suc n) zero = refl
zeros_at (suc n) (suc i) = zeros_at n i

pub none_in : NoStartCode []
none_in [] b e = let z : ◌≡◌ {A = ℕ} 0 1 = cc in omega arith
none_in (y ∷ a) b e = let z : ◌≡◌ {A = ℕ} 0 1 = cc in omega arith

pub code_free : (u : List ℕ) (n : ℕ) → NoStartCode u → CodeFree (u ++ zeros n)
unfolding CodeFree
code_free [] zero h = tt
code_free [] (suc n) h = (
  by_bool (begins_code 0 (zeros n))
      (λ t. let c = code_from 0 (zeros n) t in let z = zeros_at n 1 in absurd (omega arith))
      (λ t. t),
  code_free [] n h,
)
code_free (x ∷ u) n h = (
  by_bool (begins_code x (u ++ zeros n))
      (λ t. let c = code_from x (u ++ zeros n) t in absurd (here u c h))
      (λ t. t),
  code_free u n (λ a b e. h (x ∷ a) b (ap (λ l. x ∷ l) e)),
)
  where
    here : (u : List ℕ) → (x ≡ 0) × (byte_at (u ++ zeros n) 0 ≡ 0) × (byte_at (u ++ zeros n) 1 ≡ 1) → ((a b : List ℕ) → x ∷ u ≡ a ++ (0 ∷ 0 ∷ 1 ∷ b) → ⊥) → ⊥
    here [] c h = let z = zeros_at n 1 in omega arith
    here (y ∷ []) c h = let z = zeros_at n 0 in omega arith
    here (y ∷ w ∷ u) c h = h [] u (rw (c.0, c.1, c.2))

-- no start code begins in what is split
unfoldable pub AllFree : List (List ℕ) → Type 0
AllFree [] = Unit {0}
AllFree (v ∷ vs) = CodeFree v × AllFree vs

free_tail : (v : List ℕ) → CodeFree v → CodeFree (drop 1 v)
free_tail [] h = h
free_tail (x ∷ v) h = unfold CodeFree in h.1

free_drop : (v : List ℕ) → CodeFree v → CodeFree (drop 2 v)
free_drop [] h = h
free_drop (x ∷ v) h = free_tail v (unfold CodeFree in h.1)

pub record Free (r : Parts) : Type 0 where
  pub before : CodeFree r.before
  pub after : AllFree r.after

cons_free : (x : ℕ) (r : Parts) → Free r → Free (split_cons x r)
unfolding CodeFree AllFree
cons_free x r h = by_bool (begins_code x r.before)
    (λ t. rw (cons_code x r t) (record { before = tt; after = (free_drop r.before h.before, h.after) }))
    (λ t. rw (cons_on x r t) (record { before = (t, h.before); after = h.after }))

pub split_free : (s : List ℕ) → Free (split s)
unfolding split
split_free [] = record { before = unfold CodeFree in tt; after = unfold AllFree in tt }
split_free (x ∷ s) = cons_free x (split s) (split_free s)

pub free_none : (v : List ℕ) → CodeFree v → NoStartCode v
free_none v f a b e = go a b (subst CodeFree e f)
  where
    go : (a b : List ℕ) → CodeFree (a ++ (0 ∷ 0 ∷ 1 ∷ b)) → ⊥
    go [] b h = true_false (begins_code 0 (0 ∷ 1 ∷ b)) (unfold begins_code in refl) (unfold CodeFree in h.0)
    go (x ∷ a) b h = go a b (unfold CodeFree in h.1)

-- the zeros at the end
cons_ends : (x : ℕ) (v : List ℕ) → ends_in_zero v ≡ false → ends_in_zero (strip_cons x v) ≡ false
unfolding ends_in_zero
cons_ends zero [] h = refl
cons_ends (suc x) [] h = refl
cons_ends x (y ∷ v) h = h

pub strip_ends : (v : List ℕ) → ends_in_zero (strip v) ≡ false
unfolding strip
strip_ends [] = unfold ends_in_zero in refl
strip_ends (x ∷ v) = cons_ends x (strip v) (strip_ends v)

cons_zeros : (x n : ℕ) (v : List ℕ) → (m : ℕ) × (x ∷ (v ++ zeros n) ≡ strip_cons x v ++ zeros m)
cons_zeros zero n [] = (suc n, refl)
cons_zeros (suc x) n [] = (n, refl)
cons_zeros x n (y ∷ v) = (n, refl)

pub strip_part : (v : List ℕ) → (n : ℕ) × (v ≡ strip v ++ zeros n)
unfolding strip
strip_part [] = (0, refl)
strip_part (x ∷ v) =
    let b = strip_part v in
    let c = cons_zeros x b.0 (strip v) in
    (c.0, ap (λ l. x ∷ l) b.1 ∙ c.1)

pub strip_most : (v : List ℕ) → length (strip v) ≤ length v
strip_most v = let w = strip_part v in let e = ap length w.1 in let l = length-append (strip v) (zeros w.0) in omega arith

none_left : (n : ℕ) → strip (zeros n) ≡ []
unfolding strip
none_left zero = refl
none_left (suc n) = ap (strip_cons 0) (none_left n)

pub strip_zeros : (u : List ℕ) (n : ℕ) → ends_in_zero u ≡ false → strip (u ++ zeros n) ≡ u
unfolding strip
strip_zeros [] n h = none_left n
strip_zeros (zero ∷ []) n h = true_false (ends_in_zero (0 ∷ [])) (unfold ends_in_zero in refl) h
strip_zeros (suc x ∷ []) n h = ap (strip_cons (suc x)) (none_left n)
strip_zeros (x ∷ y ∷ u) n h = ap (strip_cons x) (strip_zeros (y ∷ u) n (sym (ends_tail x y u) ∙ h))

-- no start code stands in the unit of a part
pub free_unit : (v : List ℕ) → CodeFree v → NoStartCode (strip v)
free_unit v f a b e =
    let k = strip_part v in
    free_none v f a (b ++ zeros k.0) (k.1 ∙ ap (λ l. l ++ zeros k.0) e ∙ append_assoc a (0 ∷ 0 ∷ 1 ∷ b) (zeros k.0))

and_none : (a : Bool) → (a && false) ≡ false
and_none true = refl
and_none false = refl

and_none' : (a b : Bool) → (a && (b && false)) ≡ false
and_none' a b = rw (and_none b) (and_none a)

-- split before a byte that ends no start code
begins_byte : (y : ℕ) (w : List ℕ) (x : ℕ) (t : List ℕ) → begins_code y (w ++ (suc x ∷ t)) ≡ begins_code y (w ++ (suc x ∷ []))
unfolding begins_code
begins_byte y [] x t = rw (ne_eqb (suc x) 0 (λ z. omega arith))
begins_byte y (z ∷ []) x t = refl
begins_byte y (z ∷ z' ∷ w) x t = refl

pub split_byte : (w : List ℕ) (x : ℕ) (b : List ℕ) → CodeFree (w ++ (suc x ∷ [])) → split (w ++ (suc x ∷ b)) ≡ record { before = w ++ (suc x ∷ (split b).before); after = (split b).after }
unfolding split CodeFree
split_byte [] x b f = cons_on (suc x) (split b) (unfold begins_code in rw (ne_eqb (suc x) 0 (λ z. omega arith)))
split_byte (y ∷ w) x b f =
    let below = split_byte w x b f.1 in
    ap (split_cons y) below ∙ cons_on y (record { before = w ++ (suc x ∷ (split b).before); after = (split b).after }) (begins_byte y w x (split b).before ∙ f.0)

pub free_byte : (w : List ℕ) (x : ℕ) → CodeFree w → CodeFree (w ++ (suc (suc x) ∷ []))
unfolding CodeFree
free_byte [] x f = (unfold begins_code in rw (ne_eqb (suc (suc x)) 0 (λ z. omega arith)), tt)
free_byte (y ∷ w) x f = (begins y w f, free_byte w x f.1)
  where
    begins : (y : ℕ) (w : List ℕ) → CodeFree (y ∷ w) → begins_code y (w ++ (suc (suc x) ∷ [])) ≡ false
    begins y [] f = unfold begins_code in rw (ne_eqb (suc (suc x)) 0 (λ z. omega arith)) (and_none (y ≡? 0))
    begins y (z ∷ []) f = unfold begins_code in rw (ne_eqb (suc (suc x)) 1 (λ z. omega arith)) (and_none' (y ≡? 0) (z ≡? 0))
    begins y (z ∷ z' ∷ w) f = unfold begins_code CodeFree in f.0

pub strip_byte : (w : List ℕ) (x : ℕ) (t : List ℕ) → strip (w ++ (suc x ∷ t)) ≡ w ++ (suc x ∷ strip t)
unfolding strip
strip_byte [] x t = cons_byte x (strip t)
  where
    cons_byte : (x : ℕ) (v : List ℕ) → strip_cons (suc x) v ≡ suc x ∷ v
    cons_byte x [] = refl
    cons_byte x (y ∷ v) = refl
strip_byte (y ∷ w) x t = ap (strip_cons y) (strip_byte w x t) ∙ cons_kept y w
  where
    cons_kept : (y : ℕ) (w : List ℕ) → strip_cons y (w ++ (suc x ∷ strip t)) ≡ y ∷ (w ++ (suc x ∷ strip t))
    cons_kept y [] = refl
    cons_kept y (z ∷ w) = refl

-- what follows a unit and its zeros
ends_clear : {c : List ℕ} → UnitEnds c → (split c).before ≡ []
ends_clear UnitEnds.end = unfold split in refl
ends_clear (UnitEnds.start_code t) = ap (λ (r : Parts). r.before) (split_code t)

-- a unit u with zeros after it, up to c
pub unit_part_lem : (u : List ℕ) (k : ℕ) (c : List ℕ) → UnitEnds c → NoStartCode u → split (u ++ (zeros k ++ c)) ≡ record { before = u ++ zeros k; after = (split c).after }
unit_part_lem u k c w f = ap split (sym (append_assoc u (zeros k) c)) ∙ split_append (u ++ zeros k) c (code_free u k f) (ends_clear w)
