-- A range and its samples one by one, by the calls that resolve them. Assumes nothing.
--
--   joins, joins_only     what numbers first to last add, joined: there is such a list, and only one
--   gives, gives_only     what the call that resolves a sample gives, with room: what the sample adds, and nothing else
--   gives_fits, lacks     it fits, or the call is refused with 29
--   part_most             a sample of a range adds no more than the range has
--   joins_range           the output of a range is what the calls give, joined
--   range_only            and nothing else is
use Prim.Native.Nat.{ℕ, zero, suc, ◌+◌, ◌-◌, ◌≤◌, ◌<◌}
use mathlib.Core.Path.{◌≡◌, refl, ap, sym, ◌∙◌}
use mathlib.Core.List.{List, [], ◌++◌}
use native.Mathlib.Omega.{arith}
use borrow.Author.Tests.{leb-true, leb-false, ltb-true, ltb-false}
use lib.Dec.{leb, ltb}
use lib.ListN.{length, length-append}
use Rattle.words.specs.Refusals.{Answer, refused, ok}
use Rattle.words.specs.RefusalNumbers.{output_too_long, sample_refusals}
use Rattle.words.specs.Buffers.{within}
use Rattle.words.specs.Tests.{◌≡?◌}
use Rattle.words.specs.Lists.{each, some, ◌∈◌}
use Rattle.words.proofs.Tests.{by_bool, true_false}
use Rattle.words.proofs.Refusals.{by_verdict, ok_refused, ok_same, refused_same}
use Rattle.words.proofs.Lists.{some_mem}
use Rattle.words.proofs.Buffers.{within_room, within_not}
use Rattle.bundles.specs.Recordings.{Recording, sample_count}
use Rattle.bundles.specs.Readers.{Reader}
use Rattle.resolution_rules.specs.Resolving.{judged}
use Rattle.resolution_rules.specs.Calls.{resolve, resolve_call}
use Rattle.resolution_rules.specs.Ranges.{between, given, joined}
use Rattle.resolution_rules.proofs.Calls.{call_means, call_resolved_because, resolve_sample, resolve_good}
use Rattle.resolution_rules.proofs.Good.{judged_refused}
use Rattle.resolution_rules.proofs.Ranges.{between_none, between_first}
use Rattle.range_rules.specs.Rules.{Joins, Gives, InRange}
use Rattle.range_rules.proofs.Splits.{joined_sample}

-- joined, one after the other
module _ (P : ℕ → List ℕ → Type 0) (f : ℕ → List ℕ) (last : ℕ) where
  pub joins : (k n : ℕ) → last < n + k → 0 < n → ((m : ℕ) → n ≤ m → m ≤ last → P m (f m)) → Joins P last n (each f (between n last))
  unfolding each
  joins zero n l h g = let i : last < n = omega arith in rw (between_none n last i) (Joins.none i)
  joins (suc k) n l h g = by_bool (leb n last)
      (λ t.
      let i = leb-true n last t in
      rw (between_first n last h i) (Joins.next i (g n (omega arith) i) (joins k (n + 1) (omega arith) (omega arith) (λ m a c. g m (omega arith) c))))
      (λ t. let i = leb-false n last t in rw (between_none n last i) (Joins.none i))

  pub joins_only :
      {n : ℕ} {out : List ℕ} → 0 < n → ((m : ℕ) (x : List ℕ) → n ≤ m → m ≤ last → P m x → x ≡ f m) → Joins P last n out →
      out ≡ each f (between n last)
  unfolding each
  joins_only {n} h g (Joins.none l) = rw (between_none n last l)
  joins_only h g (Joins.next {n} {x} {rest} i p w) =
      let e = joins_only (omega arith) (λ m y a c q. g m y (omega arith) c q) w in
      rw (between_first n last h i, g n x (omega arith) i p, e)

-- a sample's refusal is not 29
not_room : {m : ℕ} → m ∈ sample_refusals → m ≡ output_too_long → ⊥
unfolding some
not_room {m} h e = true_false _ (some_mem (λ n. n ≡? output_too_long) sample_refusals h (rw e)) refl

within_given : (room : ℕ) (a : Answer (List ℕ)) {x : List ℕ} → within room a ≡ ok x → given a ≡ x
within_given room (refused n p) e = ok_refused e
within_given room (ok out) e = by_bool (ltb room (length out))
    (λ t. ok_refused (sym (within_not room out (ltb-true _ _ t)) ∙ e))
    (λ t. ok_same (sym (within_room room out (ltb-false _ _ t)) ∙ e))

within_nothing : (room : ℕ) (a : Answer (List ℕ)) {m p : ℕ} → within room a ≡ refused m p → (m ≡ output_too_long → ⊥) → given a ≡ []
within_nothing room (refused n p) e h = refl
within_nothing room (ok out) e h = by_bool (ltb room (length out))
    (λ t. absurd (h (sym (refused_same (sym (within_not room out (ltb-true _ _ t)) ∙ e)).0)))
    (λ t. ok_refused (sym e ∙ within_room room out (ltb-false _ _ t)))

-- an accepted bundle
module _ (reader : Reader) (b : List ℕ) (r : Recording) (e : reader.means b ≡ ok r) where
  pub gives_only : (room n : ℕ) (x : List ℕ) → Gives reader b room n x → x ≡ given (resolve r n)
  gives_only room n x (Gives.output q) = sym (within_given room (resolve r n) (sym (call_means reader b n room e) ∙ q))
  gives_only room n x (Gives.nothing m p q h) = sym (within_nothing room (resolve r n) (sym (call_means reader b n room e) ∙ q) h)

  pub gives : (room n : ℕ) → 0 < n → n ≤ sample_count r.layout → length (given (resolve r n)) ≤ room → Gives reader b room n (given (resolve r n))
  gives room n h l i = by_verdict (judged r n)
      (λ m p j.
      let s = resolve_sample r n h l j in
      rw s (Gives.nothing m p (call_means reader b n room e ∙ ap (within room) s) (not_room (judged_refused r n m p j).0)))
      (λ j.
      let s = resolve_good r n h l j in
      rw s (Gives.output (call_means reader b n room e ∙ ap (within room) s ∙ within_room room _ (rw s at i))))

  pub gives_fits : (room n : ℕ) (x : List ℕ) → Gives reader b room n x → length x ≤ room
  gives_fits room n x (Gives.output q) = (call_resolved_because reader b n room x q).resolves.fits
  gives_fits room n x (Gives.nothing m p q h) = omega arith

  -- 29 is given exactly where it lacks room
  pub lacks : (room n : ℕ) → 0 < n → n ≤ sample_count r.layout → {p : ℕ} → resolve_call reader b n room ≡ refused output_too_long p → room < length (given (resolve r n))
  lacks room n h l {p} q = by_bool (ltb room (length (given (resolve r n))))
      (λ t. ltb-true _ _ t)
      (λ t. absurd (never (gives room n h l (ltb-false _ _ t))))
    where
      never : {x : List ℕ} → Gives reader b room n x → ⊥
      never (Gives.output v) = ok_refused (sym q ∙ v)
      never (Gives.nothing m c v k) = k (refused_same (sym v ∙ q)).0

  module _ (first last : ℕ) (w : InRange (sample_count r.layout) first last) where
    pub part_most : (n : ℕ) → first ≤ n → n ≤ last → length (given (resolve r n)) ≤ length (joined r (between first last))
    part_most n f l =
        let s = w.some in
        let here = given (resolve r n) in
        let rest = joined r (between (n + 1) last) in
        let before = joined r (between first (n - 1)) in
        let x = ap length (joined_sample r first n last (omega arith) f l) in
        let y = length-append before (here ++ rest) in
        let z = length-append here rest in
        omega arith

    pub joins_range : (room : ℕ) → length (joined r (between first last)) ≤ room → Joins (Gives reader b room) last first (joined r (between first last))
    unfolding joined
    joins_range room i =
        let s = w.some in
        let t = w.there in
        joins (Gives reader b room) (λ n. given (resolve r n)) last (last + 1) first (omega arith) s
        (λ n f l. let k = part_most n f l in gives room n (omega arith) (omega arith) (omega arith))

    pub range_only : (room : ℕ) (out : List ℕ) → Joins (Gives reader b room) last first out → out ≡ joined r (between first last)
    unfolding joined
    range_only room out v = joins_only (Gives reader b room) (λ n. given (resolve r n)) last w.some (λ n x f l g. gives_only room n x g) v
