-- What a byte stream is (ISO/IEC 14496-10, Annex B, as 02, [3] narrows it), in plain facts. Nothing here says how one is written or read.
--
--   zeros n            n zeros
--   Streamable u       the unit u can stand in a byte stream: it is not empty, does not end in 00, and holds none of 00 00 00, 00 00 01 and
--                      00 00 02
--   StartCoded us s    s is, for each unit of us, in order: 00 00 01, the unit, zeros
--   ByteStream us s    s is zeros, then that: a byte stream of the units us
use Rattle.std.specs.Prelude.{ℕ, ◌≤◌, ◌≡◌, List, [], ◌∷◌, ◌++◌, replicate}

abbrev pub zeros : ℕ → List ℕ
zeros n = replicate n 0

pub record Streamable (u : List ℕ) : Type 0 where
  pub not_empty : u ≡ [] → ⊥
  pub no_zero_at_end : (a : List ℕ) → u ≡ a ++ (0 ∷ []) → ⊥
  pub no_forbidden : (a b : List ℕ) (x : ℕ) → u ≡ a ++ (0 ∷ 0 ∷ x ∷ b) → x ≤ 2 → ⊥

pub data StartCoded : List (List ℕ) → List ℕ → Type 0 where
  none : StartCoded [] []
  unit :
      {us : List (List ℕ)} {s : List ℕ} (u : List ℕ) → Streamable u → (n : ℕ) → StartCoded us s →
      StartCoded (u ∷ us) (0 ∷ 0 ∷ 1 ∷ (u ++ (zeros n ++ s)))

pub data ByteStream : List (List ℕ) → List ℕ → Type 0 where
  stream : {us : List (List ℕ)} {s : List ℕ} (n : ℕ) → StartCoded us s → ByteStream us (zeros n ++ s)
