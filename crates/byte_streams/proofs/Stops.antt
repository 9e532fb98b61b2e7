-- Where a unit stops, and how the stream goes on there. Assumes nothing.
--
--   stop_none, -here, -on-list a unit stops at the end, or where what is forbidden stands
--   lead_none, -zero, -byte  zeros end there, or at a byte above 00
--   clear_most, lead_most    neither is more than the length
--   clear_length_lem         so many bytes stand before a stop
--   clear_facts, stop_clear  the bytes before a stop hold nothing that is forbidden, and do not end in 00
--   stop_good                so 33 is not inside them
--   streamable_stop          a unit can stand in a byte stream exactly if it does not stop before its end
--   Stop, stop_by            after them: zeros to the end; zeros and a start code; zeros and a byte that may not follow
--   end_split, code_split    how that is split, and
--   bad_unit                 where 33 is then, and how long the unit is, which goes on with that byte
--   Front, front_by          so at the front of a stream
--   byte_lead                and where 33 is there
use Prim.Native.Nat.{ℕ, zero, suc, ◌+◌, ◌≤◌}
use mathlib.Core.Path.{◌≡◌, refl, ap, sym, ◌∙◌, subst}
use mathlib.Core.Bool.{Bool, true, false}
use mathlib.Core.Logic.{inl, inr}
use mathlib.Core.List.{List, [], ◌∷◌, ◌++◌, append_assoc, append-nil}
use native.Mathlib.Omega.{arith}
use borrow.Author.Tests.{eqb-true, eq-eqb, ne_eqb}
use lib.ListN.{length, take, drop, length-append, length-replicate, length-take}
use Rattle.words.specs.Tests.{◌≡?◌}
use Rattle.words.specs.RefusalNumbers.{bad_byte_stream}
use Rattle.words.specs.Refusals.{refused, ok}
use Rattle.words.specs.Bytes.{byte_at}
use Rattle.words.proofs.Tests.{by_bool, true_false}
use Rattle.byte_streams.specs.Grammar.{zeros}
use Rattle.byte_streams.specs.Writing.{ends_in_zero, is_forbidden, holds_forbidden, is_streamable}
use Rattle.byte_streams.specs.Reading.{begins_code, Parts, split, strip, lead_verdict, inside_verdict}
use Rattle.byte_streams.specs.Faults.{NoStartCode, UnitEnds}
use Rattle.byte_streams.specs.Places.{clear_length, leading_zeros}
use Rattle.byte_streams.proofs.Forbidden.{three_from}
use Rattle.byte_streams.proofs.Units.{ends_tail, ends_to, forbidden_from, forbidden_to, streamable_from}
use Rattle.byte_streams.proofs.Splits.{CodeFree, split_code, none_in, code_free, split_byte, free_byte, strip_byte, unit_part_lem}
use Rattle.byte_streams.proofs.Inside.{BadAfter, more_zeros, inside_good, inside_front, inside_run}

-- at the start of a list
abbrev pub begins : ℕ → List ℕ → Bool
begins x v = is_forbidden x (byte_at v 0) (byte_at v 1)

pub stop_none : clear_length [] ≡ 0
unfolding clear_length
stop_none = refl

pub lead_none : leading_zeros [] ≡ 0
unfolding leading_zeros
lead_none = refl

pub lead_zero : (v : List ℕ) → leading_zeros (0 ∷ v) ≡ suc (leading_zeros v)
unfolding leading_zeros
lead_zero v = refl

pub lead_byte : (x : ℕ) (v : List ℕ) → leading_zeros (suc x ∷ v) ≡ 0
unfolding leading_zeros
lead_byte x v = refl

pub stop_here : (x : ℕ) (v : List ℕ) → begins x v ≡ true → clear_length (x ∷ v) ≡ 0
unfolding clear_length
stop_here x v e = rw e

pub stop_on_list : (x : ℕ) (v : List ℕ) → begins x v ≡ false → clear_length (x ∷ v) ≡ suc (clear_length v)
unfolding clear_length
stop_on_list x v e = rw e

pub clear_most : (v : List ℕ) → clear_length v ≤ length v
clear_most [] = let e = stop_none in omega arith
clear_most (x ∷ v) =
    let below = clear_most v in
    by_bool (begins x v)
    (λ t. let e = stop_here x v t in omega arith)
    (λ t. let e = stop_on_list x v t in omega arith)

pub clear_length_lem : (v : List ℕ) → length (take (clear_length v) v) ≡ clear_length v
clear_length_lem v = let a = clear_most v in let b = length-take (clear_length v) v in omega arith

pub lead_most : (v : List ℕ) → leading_zeros v ≤ length v
unfolding leading_zeros
lead_most [] = omega arith
lead_most (zero ∷ v) = let below = lead_most v in omega arith
lead_most (suc x ∷ v) = omega arith

-- the bytes before a stop
record Clear (u : List ℕ) : Type 0 where
  holds : holds_forbidden u ≡ false
  ends : ends_in_zero u ≡ false

nothing : Clear []
nothing = record { holds = unfold holds_forbidden in refl; ends = unfold ends_in_zero in refl }

-- one byte, which is not 00
alone : (x : ℕ) → (x ≡ 0 → ⊥) → Clear (x ∷ [])
alone zero h = absurd (h refl)
alone (suc x) h = record { holds = unfold holds_forbidden in refl; ends = unfold ends_in_zero in refl }

pair : (x y : ℕ) → Clear (y ∷ []) → Clear (x ∷ y ∷ [])
pair x y c = record { holds = unfold holds_forbidden in refl; ends = ends_tail x y [] ∙ c.ends }

more : (x y z : ℕ) (u : List ℕ) → is_forbidden x y z ≡ false → Clear (y ∷ z ∷ u) → Clear (x ∷ y ∷ z ∷ u)
more x y z u e c = record { holds = step x y z u e c.holds; ends = ends_tail x y (z ∷ u) ∙ c.ends }
  where
    step : (x y z : ℕ) (u : List ℕ) → is_forbidden x y z ≡ false → holds_forbidden (y ∷ z ∷ u) ≡ false → holds_forbidden (x ∷ y ∷ z ∷ u) ≡ false
    step x y z u e h = unfold holds_forbidden in rw (e, h)

not_zero : (x y z : ℕ) → is_forbidden x y z ≡ false → y ≡ 0 → z ≡ 0 → x ≡ 0 → ⊥
not_zero x y z e a b c = true_false (is_forbidden x y z) (rw (a, b, c)) e

clear_facts : (v : List ℕ) → Clear (take (clear_length v) v)
clear_facts [] = rw stop_none nothing
clear_facts (x ∷ v) = let below = clear_facts v in by_bool (begins x v)
    (λ t. rw (stop_here x v t) nothing)
    (λ t. rw (stop_on_list x v t) (on x v t below))
  where
    on : (x : ℕ) (v : List ℕ) → begins x v ≡ false → Clear (take (clear_length v) v) → Clear (x ∷ take (clear_length v) v)
    on x [] t c = rw stop_none (alone x (not_zero x 0 0 t refl refl))
    on x (y ∷ v) t c = by_bool (begins y v)
        (λ r. let f = three_from y (byte_at v 0) (byte_at v 1) r in rw (stop_here y v r) (alone x (not_zero x y (byte_at v 0) t f.0 f.1)))
        (λ r. rw (stop_on_list y v r) (two x y v t (rw (stop_on_list y v r) at c)))
      where
        two : (x y : ℕ) (v : List ℕ) → begins x (y ∷ v) ≡ false → Clear (y ∷ take (clear_length v) v) → Clear (x ∷ y ∷ take (clear_length v) v)
        two x y [] t c = rw stop_none (pair x y (rw stop_none at c))
        two x y (z ∷ v) t c = by_bool (begins z v)
            (λ r. rw (stop_here z v r) (pair x y (rw (stop_here z v r) at c)))
            (λ r. rw (stop_on_list z v r) (more x y z (take (clear_length v) v) t (rw (stop_on_list z v r) at c)))

clear_none : (u : List ℕ) → Clear u → NoStartCode u
clear_none u c a b e = forbidden_from u c.holds a b 1 e (omega arith)

pub stop_clear : (v : List ℕ) → NoStartCode (take (clear_length v) v) × (ends_in_zero (take (clear_length v) v) ≡ false)
stop_clear v = let c = clear_facts v in (clear_none (take (clear_length v) v) c, c.ends)

streamable : (u : List ℕ) → Clear u → (length u ≡ 0 → ⊥) → is_streamable u ≡ true
unfolding is_streamable
streamable u c h = rw (ne_eqb (length u) 0 h, c.ends, c.holds)

inside_clear : (u : List ℕ) (p : ℕ) → Clear u → inside_verdict 0 p u ≡ ok tt
inside_clear [] p c = unfold inside_verdict in refl
inside_clear (x ∷ u) p c = inside_good p (x ∷ u) (streamable (x ∷ u) c (λ e. omega arith))

pub stop_good : (v : List ℕ) (p : ℕ) → inside_verdict 0 p (take (clear_length v) v) ≡ ok tt
stop_good v p = inside_clear (take (clear_length v) v) p (clear_facts v)

-- a unit that can stand in a byte stream
held : (x y z : ℕ) (u : List ℕ) → holds_forbidden (x ∷ y ∷ z ∷ u) ≡ false → (is_forbidden x y z ≡ false) × (holds_forbidden (y ∷ z ∷ u) ≡ false)
unfolding holds_forbidden
held x y z u h = by_bool (is_forbidden x y z) (λ t. true_false true refl (rw t at h)) (λ t. (t, rw t at h))

clear_whole : (u : List ℕ) → holds_forbidden u ≡ false → ends_in_zero u ≡ false → clear_length u ≡ length u
clear_whole [] h f = stop_none
clear_whole (x ∷ []) h f = stop_on_list x [] (last x f) ∙ ap suc stop_none
  where
    last : (x : ℕ) → ends_in_zero (x ∷ []) ≡ false → begins x [] ≡ false
    last zero f = true_false (ends_in_zero (0 ∷ [])) (unfold ends_in_zero in refl) f
    last (suc x) f = rw (ne_eqb (suc x) 0 (λ e. omega arith))
clear_whole (x ∷ y ∷ []) h f =
    let below = clear_whole (y ∷ []) (unfold holds_forbidden in refl) (sym (ends_tail x y []) ∙ f) in
    stop_on_list x (y ∷ []) (last x y (sym (ends_tail x y []) ∙ f)) ∙ ap suc below
  where
    last : (x y : ℕ) → ends_in_zero (y ∷ []) ≡ false → begins x (y ∷ []) ≡ false
    last x zero f = true_false (ends_in_zero (0 ∷ [])) (unfold ends_in_zero in refl) f
    last x (suc y) f = rw (ne_eqb (suc y) 0 (λ e. omega arith)) (by_bool (x ≡? 0) (λ t. rw t) (λ t. rw t))
clear_whole (x ∷ y ∷ z ∷ u) h f =
    let s = held x y z u h in
    let below = clear_whole (y ∷ z ∷ u) s.1 (sym (ends_tail x y (z ∷ u)) ∙ f) in
    stop_on_list x (y ∷ z ∷ u) s.0 ∙ ap suc below

not_last : (u : List ℕ) → clear_length u ≡ length u → Clear u
not_last u e = subst Clear (ap (λ (n : ℕ). take n u) e ∙ take_all u) (clear_facts u)
  where
    take_all : (u : List ℕ) → take (length u) u ≡ u
    take_all [] = refl
    take_all (x ∷ u) = ap (λ l. x ∷ l) (take_all u)

pub streamable_stop : (u : List ℕ) → (length u ≡ 0 → ⊥) → is_streamable u ≡ (clear_length u ≡? length u)
streamable_stop u some = by_bool (clear_length u ≡? length u)
    (λ t. streamable u (not_last u (eqb-true _ _ t)) some ∙ sym t)
    (λ t. by_bool (is_streamable u)
    (λ r. let w = streamable_from u r in true_false (clear_length u ≡? length u) (rw (clear_whole u (forbidden_to u w.no_forbidden) (ends_to u w.no_zero_at_end)) (same (length u))) t)
    (λ r. r ∙ sym t))
  where
    same : (n : ℕ) → (n ≡? n) ≡ true
    same n = eq-eqb n n refl

-- zeros, and then nothing, or a byte
data Form : List ℕ → ℕ → Type 0 where
  all : (k : ℕ) → Form (zeros k) k
  some : (k y : ℕ) (t : List ℕ) → Form (zeros k ++ (suc y ∷ t)) k

longer : {w : List ℕ} {k : ℕ} → Form w k → Form (0 ∷ w) (suc k)
longer (Form.all k) = Form.all (suc k)
longer (Form.some k y t) = Form.some (suc k) y t

form : (w : List ℕ) → Form w (leading_zeros w)
unfolding leading_zeros
form [] = Form.all 0
form (zero ∷ w) = longer (form w)
form (suc y ∷ w) = Form.some 0 y w

-- two zeros more
code_form : (j : ℕ) (t : List ℕ) → zeros j ++ (0 ∷ 0 ∷ 1 ∷ t) ≡ zeros (suc (suc j)) ++ (1 ∷ t)
code_form j t = more_zeros j (0 ∷ 1 ∷ t) ∙ more_zeros (suc j) (1 ∷ t)

-- v is u, k zeros, and then
pub data Stop (u : List ℕ) : List ℕ → ℕ → Type 0 where
  end : (k : ℕ) → Stop u (u ++ zeros k) k
  code : (k : ℕ) (t : List ℕ) → Stop u (u ++ (zeros k ++ (0 ∷ 0 ∷ 1 ∷ t))) (k + 2)
  bad : (k x : ℕ) (t : List ℕ) → BadAfter k (suc (suc x)) → Stop u (u ++ (zeros k ++ (suc (suc x) ∷ t))) k

further : {u v : List ℕ} {k : ℕ} (x : ℕ) → Stop u v k → Stop (x ∷ u) (x ∷ v) k
further x (Stop.end k) = Stop.end k
further x (Stop.code k t) = Stop.code k t
further x (Stop.bad k y t h) = Stop.bad k y t h

at_stop : {w : List ℕ} {k : ℕ} → Form w k → is_forbidden (byte_at w 0) (byte_at w 1) (byte_at w 2) ≡ true → Stop [] w k
at_stop (Form.all k) e = Stop.end k
at_stop (Form.some zero y t) e = let f = three_from (suc y) (byte_at t 0) (byte_at t 1) e in absurd (let z = f.0 in omega arith)
at_stop (Form.some (suc zero) y t) e = let f = three_from 0 (suc y) (byte_at t 0) e in absurd (let z = f.1 in omega arith)
at_stop (Form.some (suc (suc j)) zero t) e =
    let z : j + 2 ≡ suc (suc j) = omega arith in
    subst (Stop [] (zeros (suc (suc j)) ++ (1 ∷ t))) z (subst (λ l. Stop [] l (j + 2)) (code_form j t) (Stop.code j t))
at_stop (Form.some (suc (suc zero)) (suc x) t) e =
    let f = three_from 0 0 (suc (suc x)) e in
    Stop.bad 2 x t (inl (refl, let z = f.2 in omega arith))
at_stop (Form.some (suc (suc (suc j))) (suc x) t) e = Stop.bad (suc (suc (suc j))) x t (inr (omega arith, omega arith))

pub stop_by : (v : List ℕ) → Stop (take (clear_length v) v) v (leading_zeros (drop (clear_length v) v))
stop_by [] = rw (stop_none, lead_none) (Stop.end 0)
stop_by (x ∷ v) =
    let below = stop_by v in
    by_bool (begins x v)
    (λ t. rw (stop_here x v t) (at_stop (form (x ∷ v)) t))
    (λ t. rw (stop_on_list x v t) (further x below))

-- how that is split
pub end_split : (u : List ℕ) (k : ℕ) → NoStartCode u → split (u ++ zeros k) ≡ record { before = u ++ zeros k; after = [] }
unfolding split
end_split u k f = ap (λ l. split (u ++ l)) (sym (append-nil (zeros k))) ∙ unit_part_lem u k [] UnitEnds.end f

pub code_split :
    (u : List ℕ) (k : ℕ) (t : List ℕ) → NoStartCode u →
    split (u ++ (zeros k ++ (0 ∷ 0 ∷ 1 ∷ t))) ≡ record { before = u ++ zeros k; after = (split t).before ∷ (split t).after }
code_split u k t f =
    unit_part_lem u k (0 ∷ 0 ∷ 1 ∷ t) (UnitEnds.start_code t) f ∙ ap (λ (r : Parts). record { before = u ++ zeros k; after = r.after }) (split_code t)

-- and where 33 is; the unit goes on with that byte
byte_unit : (x : ℕ) (t : List ℕ) → strip (split (suc (suc x) ∷ t)).before ≡ suc (suc x) ∷ strip (split t).before
byte_unit x t =
    ap (λ (r : Parts). strip r.before) (split_byte [] (suc x) t (free_byte [] x (code_free [] 0 none_in))) ∙ strip_byte [] (suc x) (split t).before

pub bad_unit :
    (v : List ℕ) (k x : ℕ) (t : List ℕ) → v ≡ take (clear_length v) v ++ (zeros k ++ (suc (suc x) ∷ t)) → BadAfter k (suc (suc x)) → (p : ℕ) →
    (inside_verdict 0 p (strip (split v).before) ≡ refused bad_byte_stream (p + clear_length v + k))
    × (length (strip (split v).before) ≡ clear_length v + k + length (strip (split (suc (suc x) ∷ t)).before))
bad_unit v k x t e h p =
    let u = take (clear_length v) v in
    let c = clear_facts v in
    let w = u ++ zeros k in
    let rest = suc (suc x) ∷ strip (split t).before in
    let whole : split v ≡ record { before = w ++ (suc (suc x) ∷ (split t).before); after = (split t).after } =
    ap split (e ∙ sym (append_assoc u (zeros k) (suc (suc x) ∷ t))) ∙ split_byte w (suc x) t (free_byte w x (code_free u k (clear_none u c))) in
    let unit : strip (split v).before ≡ u ++ (zeros k ++ rest) =
    ap (λ (r : Parts). strip r.before) whole ∙ strip_byte w (suc x) (split t).before ∙ append_assoc u (zeros k) rest in
    let size = clear_length_lem v in
    let place : p + length u + k ≡ p + clear_length v + k = omega arith in
    let l = ap length unit ∙ length-append u (zeros k ++ rest) in
    let m = length-append (zeros k) rest in
    let n : length (zeros k) ≡ k = length-replicate k 0 in
    let on = ap length (byte_unit x t) in (
      ap (inside_verdict 0 p) unit ∙ inside_front p u (zeros k ++ rest) c.ends (inside_clear u p c)
          ∙ inside_run (p + length u) k (suc x) (strip (split t).before) h ∙ ap (refused bad_byte_stream) place,
      omega arith,
    )

-- the front of a stream
pub data Front : List ℕ → ℕ → Type 0 where
  none : (k : ℕ) → Front (zeros k) k
  code : (k : ℕ) (t : List ℕ) → Front (zeros k ++ (0 ∷ 0 ∷ 1 ∷ t)) (k + 2)
  byte : (k x : ℕ) (t : List ℕ) → (2 ≤ k → x ≡ 0 → ⊥) → Front (zeros k ++ (suc x ∷ t)) k

in_front : {s : List ℕ} {k : ℕ} → Form s k → Front s k
in_front (Form.all k) = Front.none k
in_front (Form.some (suc (suc j)) zero t) =
    let z : j + 2 ≡ suc (suc j) = omega arith in
    subst (Front (zeros (suc (suc j)) ++ (1 ∷ t))) z (subst (λ l. Front l (j + 2)) (code_form j t) (Front.code j t))
in_front (Form.some zero y t) = Front.byte 0 y t (λ h e. omega arith)
in_front (Form.some (suc zero) y t) = Front.byte 1 y t (λ h e. omega arith)
in_front (Form.some (suc (suc j)) (suc y) t) = Front.byte (suc (suc j)) (suc y) t (λ h e. omega arith)

pub front_by : (s : List ℕ) → Front s (leading_zeros s)
front_by s = in_front (form s)

free_lead : (k x : ℕ) → (2 ≤ k → x ≡ 0 → ⊥) → CodeFree (zeros k ++ (suc x ∷ []))
unfolding CodeFree
free_lead zero x h = (unfold begins_code in rw (ne_eqb (suc x) 0 (λ z. omega arith)), tt)
free_lead (suc k) x h = (first k x h, free_lead k x (λ i j. h (omega arith) j))
  where
    first : (k x : ℕ) → (2 ≤ suc k → x ≡ 0 → ⊥) → begins_code 0 (zeros k ++ (suc x ∷ [])) ≡ false
    first zero x h = unfold begins_code in rw (ne_eqb (suc x) 0 (λ z. omega arith))
    first (suc zero) x h = unfold begins_code in rw (ne_eqb (suc x) 1 (λ z. h (omega arith) (omega arith)))
    first (suc (suc k)) x h = unfold begins_code in refl

lead_zeros : (p k x : ℕ) (b : List ℕ) → lead_verdict p (zeros k ++ (suc x ∷ b)) ≡ refused bad_byte_stream (p + k)
unfolding lead_verdict
lead_zeros p zero x b = let z : p ≡ p + 0 = omega arith in ap (refused bad_byte_stream) z
lead_zeros p (suc k) x b = let z : suc p + k ≡ p + suc k = omega arith in lead_zeros (suc p) k x b ∙ ap (refused bad_byte_stream) z

pub byte_lead : (k x : ℕ) (t : List ℕ) → (2 ≤ k → x ≡ 0 → ⊥) → lead_verdict 0 (split (zeros k ++ (suc x ∷ t))).before ≡ refused bad_byte_stream k
byte_lead k x t h =
    let z : 0 + k ≡ k = omega arith in
    ap (λ (r : Parts). lead_verdict 0 r.before) (split_byte (zeros k) x t (free_lead k x h)) ∙ lead_zeros 0 k x (split t).before ∙ ap (refused bad_byte_stream) z
