-- The answers that the C functions give back (crates/puddockle/specs/Returns says how), one case a function.
--
--   OutputAnswer o a   of a function that writes bytes or numbers to an output buffer, which was o, and returns their count
--   OutputsAnswer os a of one that writes to several, which were os
--   VerdictAnswer a    of a function that only checks
--
-- and what a caller gets for an answer a: the number returned, 0 exactly if accepted; the place; and
--
--   OutputGiven a o n p c o'       the count, and the output buffer, which was o, as o'
--   OutputsGiven a os n p cs os'   the counts, and the output buffers, which were os, as os'
--   NumbersGiven a o n p o'        the numbers of a record, over the start of a lent array
--   VerdictGiven a n p             nothing besides
--   PartGiven a n p start size     a part of the bundle
--   TallyGiven a x y z             the three numbers of a tally
--   ValuesGiven a numbers n p ns   the numbers of what is told of a bundle
use Rattle.std.specs.Prelude.{ℕ, ◌≡◌, List, [], ◌∷◌, ◌++◌, map, length, drop}
use Rattle.words.specs.RefusalNumbers.{refusal_numbers}
use Rattle.words.specs.Refusals.{Answer, refused, ok, Verdict}
use Rattle.words.specs.Lists.{◌∈◌}
use Rattle.words.specs.Buffers.{overwrite_all}
use Rattle.words.specs.Bytes.{Bytes}
use Rattle.byte_streams.specs.Reading as reading
use Rattle.record_numbers.specs.Numbers.{write_numbers}
use Rattle.samples.specs.Check.{check_alone}
use Rattle.bundles.specs.Bundles.{bundle_verdict}
use Rattle.bundles.specs.Readers.{first_layout}
use Rattle.bundles.specs.Parts.{BundlePart}
use Rattle.resolution_rules.specs.Calls.{resolve_call, stream_call, parts_call}
use Rattle.naming_list_rules.specs.Naming.{names_call}
use Rattle.salvage_rules.specs.Calls.{salvage_alone, salvage_call}
use Rattle.tally.specs.declared.Tally.{Tally}
use Rattle.audit_rules.specs.Auditing.{audit_call}
use Rattle.range_rules.specs.Ranges.{range_call}

pub data OutputAnswer (o : List ℕ) : Answer (List ℕ) → Type 0 where
  write :
      (kind : ℕ) (numbers sequences pictures extensions : List ℕ) →
      OutputAnswer o (write_numbers kind numbers sequences pictures extensions (length o))
  resolve : (b : List ℕ) → Bytes b → (n : ℕ) → OutputAnswer o (resolve_call first_layout b n (length o))
  names : (b : List ℕ) → Bytes b → (s : ℕ) → OutputAnswer o (names_call first_layout b s (length o))
  audit : (b : List ℕ) → Bytes b → OutputAnswer o (audit_call first_layout b (length o))
  units : (b : List ℕ) → Bytes b → (n : ℕ) → OutputAnswer o (parts_call first_layout b n (length o))
  stream : (b : List ℕ) → Bytes b → (n : ℕ) → OutputAnswer o (stream_call first_layout b n (length o))
  from_stream : (n : ℕ) (s : List ℕ) → OutputAnswer o (reading.from_stream n s (length o))

pub data OutputsAnswer : List (List ℕ) → Answer (List (List ℕ)) → Type 0 where
  salvage :
      (b : List ℕ) → Bytes b → (n : ℕ) (o c l : List ℕ) →
      OutputsAnswer (o ∷ c ∷ l ∷ []) (salvage_call first_layout b n (length o) (length c) (length l))
  salvage_sample : (kind l : ℕ) (s o c : List ℕ) → OutputsAnswer (o ∷ c ∷ []) (salvage_alone kind l s (length o) (length c))
  range :
      (b : List ℕ) → Bytes b → (first last : ℕ) (o l : List ℕ) →
      OutputsAnswer (o ∷ l ∷ []) (range_call first_layout b first last (length o) (length l))

pub data VerdictAnswer : Verdict → Type 0 where
  bundle : (b : List ℕ) → VerdictAnswer (bundle_verdict b)
  sample : (kind l : ℕ) (s : List ℕ) → VerdictAnswer (check_alone kind l s)

-- accepted: 0 at 0, and what was answered; refused: a number of the table and its place, every other number 0, every buffer as it was
pub data OutputGiven (a : Answer (List ℕ)) (o : List ℕ) : ℕ → ℕ → ℕ → List ℕ → Type 0 where
  accepted : (out : List ℕ) → a ≡ ok out → OutputGiven a o 0 0 (length out) (out ++ drop (length out) o)
  refuses : {n p : ℕ} → n ∈ refusal_numbers → a ≡ refused n p → OutputGiven a o n p 0 o

pub data OutputsGiven (a : Answer (List (List ℕ))) (os : List (List ℕ)) : ℕ → ℕ → List ℕ → List (List ℕ) → Type 0 where
  accepted : (outs : List (List ℕ)) → a ≡ ok outs → OutputsGiven a os 0 0 (map length outs) (overwrite_all os outs)
  refuses : {n p : ℕ} → n ∈ refusal_numbers → a ≡ refused n p → OutputsGiven a os n p (map (λ o. 0) os) os

pub data NumbersGiven (a : Answer (List ℕ)) (o : List ℕ) : ℕ → ℕ → List ℕ → Type 0 where
  accepted : (ns : List ℕ) → a ≡ ok ns → NumbersGiven a o 0 0 (ns ++ drop (length ns) o)
  refuses : {n p : ℕ} → n ∈ refusal_numbers → a ≡ refused n p → NumbersGiven a o n p o

pub data VerdictGiven (a : Verdict) : ℕ → ℕ → Type 0 where
  accepted : a ≡ ok tt → VerdictGiven a 0 0
  refuses : {n p : ℕ} → n ∈ refusal_numbers → a ≡ refused n p → VerdictGiven a n p

pub data PartGiven (a : Answer BundlePart) : ℕ → ℕ → ℕ → ℕ → Type 0 where
  accepted : (start size : ℕ) → a ≡ ok (record { start = start; size = size }) → PartGiven a 0 0 start size
  refuses : {n p : ℕ} → n ∈ refusal_numbers → a ≡ refused n p → PartGiven a n p 0 0

pub data TallyGiven (a : Answer Tally) : ℕ → ℕ → ℕ → Type 0 where
  accepted : (x y z : ℕ) → a ≡ ok (record { passed = x; empty = y; refused = z }) → TallyGiven a x y z
  refuses : {n p : ℕ} → a ≡ refused n p → TallyGiven a 0 0 0

-- all numbers of an answer
pub data ValuesGiven {A : Type 0} (a : Answer A) (numbers : A → List ℕ) : ℕ → ℕ → List ℕ → Type 0 where
  accepted : (x : A) → a ≡ ok x → ValuesGiven a numbers 0 0 (numbers x)
  refuses :
      {n p : ℕ} {ns : List ℕ} → n ∈ refusal_numbers → a ≡ refused n p → ((v : ℕ) → v ∈ ns → v ≡ 0) → ValuesGiven a numbers n p ns
