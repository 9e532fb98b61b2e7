-- Why bytes s are refused as a byte stream (02, [3]), in plain facts, each fault with its place. L is the length size of the sample.
--
--   NoStartCode v          00 00 01 stands nowhere in v
--   UnitEnds c             what follows a unit and its zeros: nothing, or a start code
--   StreamFault L s m p    what the refusal m names stands at the place p of s
--   FirstFault L s m p     that, and nothing that 33 or 34 names stands before it, nor the other number there
use Rattle.std.specs.Prelude.{ℕ, ◌+◌, ◌^◌, ◌≤◌, ◌<◌, ◌≡◌, ◌⊎◌, List, [], ◌∷◌, ◌++◌, length}
use Rattle.byte_streams.specs.Grammar.{zeros}

abbrev pub NoStartCode : List ℕ → Type 0
NoStartCode v = (a b : List ℕ) → v ≡ a ++ (0 ∷ 0 ∷ 1 ∷ b) → ⊥

pub data UnitEnds : List ℕ → Type 0 where
  end : UnitEnds []
  start_code : (t : List ℕ) → UnitEnds (0 ∷ 0 ∷ 1 ∷ t)

-- a is what stands before, b what stands after, c what follows a unit and its zeros; in the last four a start code follows a
pub data StreamFault (L : ℕ) : List ℕ → ℕ → ℕ → Type 0 where
  -- a byte above 00 before the first start code; the 01 that ends one is none
  lead : (a : List ℕ) (x : ℕ) (b : List ℕ) → 0 < x → NoStartCode (a ++ (x ∷ [])) → StreamFault L (a ++ (x ∷ b)) 33 (length a)
  -- an empty unit: at the 01 of its start code
  empty : (a : List ℕ) (k : ℕ) (c : List ℕ) → UnitEnds c → StreamFault L (a ++ (0 ∷ 0 ∷ 1 ∷ (zeros k ++ c))) 33 (length a + 2)
  -- a unit u too long for the length size: at its first byte
  long :
      (a u : List ℕ) (k : ℕ) (c : List ℕ) → UnitEnds c → NoStartCode u → ((w : List ℕ) → u ≡ w ++ (0 ∷ []) → ⊥) →
      256 ^ L ≤ length u → StreamFault L (a ++ (0 ∷ 0 ∷ 1 ∷ (u ++ (zeros k ++ c)))) 34 (length a + 3)
  -- 00 00 02 in a unit, after its bytes v: at the 02
  after_two :
      (a v b : List ℕ) → NoStartCode v → StreamFault L (a ++ (0 ∷ 0 ∷ 1 ∷ (v ++ (0 ∷ 0 ∷ 2 ∷ b)))) 33 (length a + 3 + length v + 2)
  -- three zeros or more and a byte above 01 in a unit: at that byte. Zeros beyond three are the end of v; with 02 it is `after_two` too
  after_three :
      (a v : List ℕ) (x : ℕ) (b : List ℕ) → NoStartCode v → 1 < x →
      StreamFault L (a ++ (0 ∷ 0 ∷ 1 ∷ (v ++ (0 ∷ 0 ∷ 0 ∷ x ∷ b)))) 33 (length a + 3 + length v + 3)

pub record FirstFault (L : ℕ) (s : List ℕ) (m p : ℕ) : Type 0 where
  pub fault : StreamFault L s m p
  pub first : (n q : ℕ) → StreamFault L s n q → (p < q) ⊎ ((p ≡ q) × (m ≡ n))
