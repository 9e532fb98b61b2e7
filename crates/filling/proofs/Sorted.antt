-- Samples in order: how many have a track below k. Assumes nothing.
--
--   below k es                 how many of the entries es have a track below k
--   below_most, below_more     at most all; at least as many below k + 1
--   above_here, below_here     where the entry at i is below k, and where it is not
--   owner_here                 the track of a sample is the last one that has fewer samples before it
use Prim.Native.Nat.{ℕ, zero, suc, ◌+◌, ◌≤◌, ◌<◌}
use mathlib.Core.Path.{◌≡◌, ap, ◌∙◌}
use mathlib.Core.List.{List, [], ◌∷◌}
use native.Mathlib.Omega.{arith}
use borrow.Author.Tests.{lt-ltb, le-ltb, ltb-true, ltb-false, leb-true, leb-false}
use lib.Dec.{ltb, leb}
use lib.ListN.{length, get_or}
use Rattle.words.specs.Tests.{◌<?◌, ◌≤?◌}
use Rattle.words.specs.Lists.{keep, upto, last_that}
use Rattle.words.proofs.Tests.{by_bool}
use Rattle.words.proofs.Lists.{keep_nothing, Rising}
use Rattle.bundles.specs.Recordings.{Entry, no_entry}
use Rattle.bundles.proofs.Order.{InOrder}
use Rattle.words.proofs.Rows.{last_that_cong, last_that_upto}

abbrev pub below : ℕ → List Entry → ℕ
below k es = length (keep (λ e. e.track <? k) es)

pub below_most : (k : ℕ) (es : List Entry) → below k es ≤ length es
unfolding keep
below_most k [] = omega arith
below_most k (e ∷ es) = let h = below_most k es in by_bool (ltb e.track k) (λ q. rw q (omega arith)) (λ q. rw q (omega arith))

pub below_more : (k : ℕ) (es : List Entry) → below k es ≤ below (k + 1) es
unfolding keep
below_more k [] = omega arith
below_more k (e ∷ es) =
    let h = below_more k es in
    by_bool (ltb e.track k)
    (λ q. let l = ltb-true e.track k q in rw (q, lt-ltb e.track (k + 1) (omega arith)) (omega arith))
    (λ q. rw q (by_bool (ltb e.track (k + 1)) (λ r. rw r (omega arith)) (λ r. rw r h)))

-- an entry that is not below k: nor are those after it
rest_none : (k : ℕ) (e : Entry) (es : List Entry) → Rising InOrder (e ∷ es) → k ≤ e.track → below k es ≡ 0
rest_none k e es r h = ap length (keep_nothing (λ f. f.track <? k) es (λ f m. le-ltb f.track k (omega (arith, (r.0 f m).track))))

pub above_here : (k : ℕ) (es : List Entry) (i : ℕ) → Rising InOrder es → i < length es → (get_or es i no_entry).track < k → i < below k es
unfolding keep
above_here k [] i r h l = absurd (omega arith)
above_here k (e ∷ es) zero r h l = rw (lt-ltb e.track k l) (omega arith)
above_here k (e ∷ es) (suc i) r h l =
    let b = above_here k es i r.1 (omega arith) l in
    by_bool (ltb e.track k)
    (λ q. rw q (omega arith))
    (λ q. let g = ltb-false e.track k q in let z = rest_none k e es r g in absurd (omega arith))

pub below_here : (k : ℕ) (es : List Entry) (i : ℕ) → Rising InOrder es → i < length es → k ≤ (get_or es i no_entry).track → below k es ≤ i
unfolding keep
below_here k [] i r h l = absurd (omega arith)
below_here k (e ∷ es) zero r h l = rw (le-ltb e.track k l) (let z = rest_none k e es r l in omega arith)
below_here k (e ∷ es) (suc i) r h l =
    let b = below_here k es i r.1 (omega arith) l in
    by_bool (ltb e.track k) (λ q. rw q (omega arith)) (λ q. rw q (omega arith))

-- fewer than i + 1 before track k: track k is not after the entry's
test_same : (k : ℕ) (es : List Entry) (i : ℕ) → Rising InOrder es → i < length es → (below k es <? i + 1) ≡ (k ≤? (get_or es i no_entry).track)
test_same k es i r h =
    by_bool (leb k (get_or es i no_entry).track)
    (λ q. let l = leb-true k (get_or es i no_entry).track q in rw (q, lt-ltb (below k es) (i + 1) (let z = below_here k es i r h l in omega arith)))
    (λ q. let l = leb-false k (get_or es i no_entry).track q in rw (q, le-ltb (below k es) (i + 1) (let z = above_here k es i r h l in omega arith)))

pub owner_here : (es : List Entry) (n i : ℕ) → Rising InOrder es → i < length es → (get_or es i no_entry).track ≤ n → last_that (λ k. below k es <? i + 1) (upto n) ≡ (get_or es i no_entry).track
owner_here es n i r h l = last_that_cong (λ k. below k es <? i + 1) (λ k. k ≤? (get_or es i no_entry).track) (upto n) (λ k m. test_same k es i r h) ∙ last_that_upto n (get_or es i no_entry).track l
