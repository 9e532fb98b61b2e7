-- What a line says. Assumes nothing.
--
--   first_byte                             the refusal is the first byte
--   says_gone, says_there                  a line that is not there, and one that is
--   from_passed, from_empty, from_refused  the three lines that an audit writes
--   there_none, there_past, there_is       no line 0; a line that is not there whole; one that is
use Prim.Native.Nat.{ℕ, ◌+◌, ◌*◌, ◌≤◌, ◌<◌}
use mathlib.Core.Path.{◌≡◌, refl}
use mathlib.Core.List.{List, []}
use native.Mathlib.Nat.{zero-add}
use borrow.Author.Tests.{eq-eqb, ne_eqb, lt-ltb, le-ltb}
use lib.ListN.{length}
use Rattle.words.specs.Tests.{◌≡?◌}
use Rattle.words.specs.RefusalNumbers.{sample_refusals}
use Rattle.words.specs.Lists.{◌∈◌}
use Rattle.words.proofs.Lists.{some_mem}
use Rattle.words.specs.Bytes.{byte_at, big}
use Rattle.numbers.specs.Places.{place_size}
use Rattle.audit_rules.specs.Auditing.{refusal_size, units_size, line_size}
use Rattle.audit_rules.specs.Rules.{line_at}
use Rattle.audit_lines.specs.Lines.{line_there, good_line, refused_line, line_from, line_says}
use Rattle.audit_lines.specs.declared.Line.TheVariants.{Passed, Empty, Refused, NoLine}

pub first_byte : (s : List ℕ) → big s 0 refusal_size ≡ byte_at s 0
unfolding big
first_byte s = zero-add (byte_at s 0)

pub says_gone : (s : List ℕ) (size : ℕ) → length s ≡ 0 → line_says s size ≡ NoLine
unfolding line_says
says_gone s size e = rw (eq-eqb (length s) 0 e)

pub says_there : (s : List ℕ) (size : ℕ) → (length s ≡ 0 → ⊥) → line_says s size ≡ line_from (big s 0 refusal_size) (big s refusal_size place_size) (big s (refusal_size + place_size) units_size) size
unfolding line_says
says_there s size h = rw (ne_eqb (length s) 0 h)

-- the lines that an audit writes
pub from_passed : (k size : ℕ) → (size ≡ 0 → ⊥) → line_from 0 0 k size ≡ Passed k
unfolding line_from good_line
from_passed k size h = rw (ne_eqb size 0 h)

pub from_empty : (size : ℕ) → size ≡ 0 → line_from 0 0 0 size ≡ Empty
unfolding line_from good_line
from_empty size e = rw (eq-eqb size 0 e)

pub from_refused : (m p size : ℕ) → (m ≡ 0 → ⊥) → m ∈ sample_refusals → p < size → line_from m p 0 size ≡ Refused (record { number = m; place = record { 0 = p } })
unfolding line_from refused_line
from_refused m p size z h g = rw (ne_eqb m 0 z, some_mem (λ n. m ≡? n) sample_refusals h (eq-eqb m m refl), lt-ltb p size g)

module _ (out : List ℕ) (n : ℕ) where
  pub there_none : n ≡ 0 → line_there out n ≡ []
  unfolding line_there
  there_none e = rw (eq-eqb n 0 e)

  module _ (some : n ≡ 0 → ⊥) where
    pub there_past : length out < line_size * n → line_there out n ≡ []
    unfolding line_there
    there_past h = rw (ne_eqb n 0 some, lt-ltb (length out) (line_size * n) h)

    pub there_is : line_size * n ≤ length out → line_there out n ≡ line_at out n
    unfolding line_there
    there_is h = rw (ne_eqb n 0 some, le-ltb (length out) (line_size * n) h)
