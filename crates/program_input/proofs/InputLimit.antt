-- The limit of the programs' input. Assumes nothing.
--
--   small_fits     input below the limit is not too big, whatever comes after it
--   one_tells      whether one byte more could be read says whether there is more, of a reader whose bytes are known
--   none_matters   and below the limit that is all the same
--   known_answer   so the answer is right
use Rattle.std.proofs.Common.{◌≡◌, ℕ, zero, suc, ◌+◌, ◌<◌, ◌≤◌, Bool, false, List, Option, Some, None, IfSome, length, take, arith, sym, ap, ◌∙◌, length-take-le}
use borrow.Author.Tests.{lt-leb, lt-ltb}
use lib.ListN.{length-append}
use Rattle.std.specs.Io.KnownBytes.{Consumes, IsAtEnd}
use Rattle.program_input.specs.Input.{input_most, too_big}

pub small_fits : (n more : ℕ) → n < input_most → too_big n more ≡ false
unfolding too_big
small_fits n more h = rw (lt-leb input_most n h)

more_alike : (n k m : ℕ) → 0 < k → 0 < m → too_big n k ≡ too_big n m
unfolding too_big
more_alike n k m h l = rw (lt-ltb 0 k h, lt-ltb 0 m l)

pub one_tells : (a b : Option (List ℕ)) (n k : ℕ) (next : List ℕ) → 0 < length next → k ≤ length next → Consumes a b (take k next) → (k < length next → IsAtEnd b)
    → IfSome a (λ s. too_big n k ≡ too_big n (length s))
one_tells None b n k next some fits took end = tt
one_tells (Some s) None n k next some fits took end = absurd took
one_tells (Some s) (Some t) n zero next some fits took end = ap (λ l. too_big n (length l)) (sym (took ∙ end some))
one_tells (Some s) (Some t) n (suc k) next some fits took end =
    let size : length s ≡ suc k + length t = ap length took ∙ length-append (take (suc k) next) t ∙ ap (λ l. l + length t) (length-take-le (suc k) next fits) in
    more_alike n (suc k) (length s) (omega arith) (omega arith)

pub none_matters : (a : Option (List ℕ)) (n k : ℕ) → n < input_most → IfSome a (λ s. too_big n k ≡ too_big n (length s))
none_matters None n k h = tt
none_matters (Some s) n k h = small_fits n k h ∙ sym (small_fits n (length s) h)

pub known_answer : (a : Option (List ℕ)) (n k : ℕ) (r : Bool) → r ≡ too_big n k → IfSome a (λ s. too_big n k ≡ too_big n (length s)) → IfSome a (λ s. r ≡ too_big n (length s))
known_answer None n k r e h = tt
known_answer (Some s) n k r e h = e ∙ h
