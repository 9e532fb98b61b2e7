-- A byte as flags, fixed bits and a value; and what holds of each kind's row. Assumes nothing.
--
--   byte_rest, plain_byte                        a byte with its fixed bits is made by its value, below its flags
--   byte_below                                   the byte of a value lies below the flags
--   fixed_back, value_back                       a byte gives back the fixed bits and the value that made it
--   plain_rest, plain_below                      the same of a byte without flags
--   value_below, value_byte                      a value is below its bits, and below 256
--   sound_chroma, sound_depth, Row, row          every shape is sound: a new kind is one more clause
--   Flagged, flagged, flags_made, flags_fit_lem  the flags of the length size's byte: a new kind is one more clause in each
--   flag_back                                    a flag that fits is read back from its bit
use Prim.Native.Nat.{ℕ, ◌+◌, ◌*◌, ◌/◌, ◌%◌, ◌≤◌, ◌<◌}
use mathlib.Core.Path.{◌≡◌, refl, ap, sym, ◌∙◌}
use mathlib.Core.Bool.{Bool, true, false}
use mathlib.Core.List.{[], ◌∷◌}
use native.Mathlib.Omega.{arith}
use native.Mathlib.Nat.{div-add-mod', mul-add-div_right, mul-add-mod_self_right, div-eq_of_lt, mod-eq_of_lt, mod-lt, add-zero}
use lib.Dec.{lit<, lit≤}
use borrow.Author.Tests.{eqb-true, eqb-false}
use Rattle.words.specs.Tests.{◌≡?◌}
use Rattle.words.proofs.Tests.{by_bool, true_false}
use Rattle.numbers.specs.declared.Kind.{Kind}
use Rattle.numbers.specs.declared.Kind.TheVariants.{Avc, Svc}
use Rattle.record_rules.specs.Layout.{SoundShape, record_layout, byte_of, fixed_in, value_in, bit, flag_of, flag_in, flags_byte, flags_fit}
use Rattle.record_rules.specs.Trailers.{chroma_shape, depth_shape}
use Rattle.record_rules.specs.declared.Shape.{Shape}
use Rattle.record_rules.specs.declared.RecordLayout.{RecordLayout}
use Rattle.record_rules.specs.declared.Flag.{Flag}
use Rattle.record_rules.specs.declared.Flag.TheVariants.{Absent, Clear, Set}

pub byte_rest : (h : Shape) (b : ℕ) → fixed_in h b ≡ h.fixed → byte_of h (value_in h b) ≡ b % h.unit
byte_rest h b e =
    ap (λ (x : ℕ). x * h.low + b % h.unit % h.low) (sym e)
    ∙ div-add-mod' (b % h.unit) h.low

-- a byte with no flags
pub plain_byte : (h : Shape) (b : ℕ) → h.unit ≡ 256 → b < 256 → fixed_in h b ≡ h.fixed → byte_of h (value_in h b) ≡ b
plain_byte h b u l e = byte_rest h b e ∙ rw u (mod-eq_of_lt l)

module _ (h : Shape) (g : SoundShape h) (v : ℕ) (l : v < h.low) where
  pub byte_below : byte_of h v < h.unit
  byte_below = omega (arith, g.fixed)

  pub plain_rest : byte_of h v % h.unit ≡ byte_of h v
  plain_rest = mod-eq_of_lt byte_below

  pub plain_below : byte_of h v < 256
  plain_below = omega (arith, g.byte, byte_below)

  -- a byte that is this below its flags
  module _ (b : ℕ) (rest : b % h.unit ≡ byte_of h v) where
    pub fixed_back : fixed_in h b ≡ h.fixed
    fixed_back = ap (λ (x : ℕ). x / h.low) rest ∙ mul-add-div_right g.low h.fixed v ∙ ap (λ (x : ℕ). h.fixed + x) (div-eq_of_lt l) ∙ add-zero h.fixed

    pub value_back : value_in h b ≡ v
    value_back = ap (λ (x : ℕ). x % h.low) rest ∙ mul-add-mod_self_right h.fixed h.low v ∙ mod-eq_of_lt l

pub value_below : (h : Shape) (b : ℕ) → SoundShape h → value_in h b < h.low
value_below h b g = mod-lt _ g.low

pub value_byte : (h : Shape) (b : ℕ) → SoundShape h → value_in h b < 256
value_byte h b g = omega (arith, value_below h b g, g.fixed, g.byte)

sound : (h : Shape) → 0 < h.unit → 0 < h.low → h.fixed * h.low + h.low ≤ h.unit → h.unit ≤ 256 → SoundShape h
sound h a b c d = record { unit = a; low = b; fixed = c; byte = d }

pub sound_chroma : SoundShape chroma_shape
sound_chroma = sound chroma_shape (lit< tt) (lit< tt) (lit≤ tt) (lit≤ tt)

pub sound_depth : SoundShape depth_shape
sound_depth = sound depth_shape (lit< tt) (lit< tt) (lit≤ tt) (lit≤ tt)

-- What holds of each kind's row: its shapes are sound, a length size is at most 4, and no flags stand before the number of sequence sets.
pub record Row (l : RecordLayout) : Type 0 where
  pub length_size : SoundShape l.length_size
  pub low : l.length_size.low ≡ 4
  pub count : SoundShape l.count
  pub unit : l.count.unit ≡ 256

pub row : (k : Kind) → Row (record_layout k)
row Avc =
    record {
      length_size = sound (record_layout Avc).length_size (lit< tt) (lit< tt) (lit≤ tt) (lit≤ tt);
      low = refl;
      count = sound (record_layout Avc).count (lit< tt) (lit< tt) (lit≤ tt) (lit≤ tt);
      unit = refl;
    }
row Svc =
    record {
      length_size = sound (record_layout Svc).length_size (lit< tt) (lit< tt) (lit≤ tt) (lit≤ tt);
      low = refl;
      count = sound (record_layout Svc).count (lit< tt) (lit< tt) (lit≤ tt) (lit≤ tt);
      unit = refl;
    }

-- complete_representation c before r, which lies below the flags: r is what is left, c is read back, and both fit a byte
pub record Flagged (k : Kind) (c : Flag) (r : ℕ) : Type 0 where
  pub rest : (flags_byte 0 (c ∷ []) + r) % (record_layout k).length_size.unit ≡ r
  pub read : flag_in (record_layout k).flags 0 (flags_byte 0 (c ∷ []) + r) ≡ c
  pub below : flags_byte 0 (c ∷ []) + r < 256

pub flagged : (k : Kind) (c : Flag) (r : ℕ) → flags_fit (record_layout k).flags 0 (c ∷ []) ≡ true → r < (record_layout k).length_size.unit → Flagged k c r
unfolding flags_byte flags_fit
flagged Avc Absent r e l = record { rest = omega arith; read = refl; below = omega arith }
flagged Avc Clear r e l = true_false false e refl
flagged Avc Set r e l = true_false false e refl
flagged Svc Absent r e l = true_false false e refl
flagged Svc Clear r e l = record { rest = omega arith; read = (let z : (0 + r) / 128 % 2 ≡ 0 = omega arith in rw z); below = omega arith }
flagged Svc Set r e l = record { rest = omega arith; read = (let z : (128 + r) / 128 % 2 ≡ 1 = omega arith in rw z); below = omega arith }

-- a byte is made by the flags that are read from it, and what lies below them
pub flags_made : (k : Kind) (b : ℕ) → b < 256 → flags_byte 0 (flag_in (record_layout k).flags 0 b ∷ []) + b % (record_layout k).length_size.unit ≡ b
unfolding flags_byte
flags_made Avc b h = omega arith
flags_made Svc b h =
    by_bool (b / 128 % 2 ≡? 0)
    (λ t. let z = eqb-true (b / 128 % 2) 0 t in rw t (omega arith))
    (λ t. let z = eqb-false (b / 128 % 2) 0 t in rw t (omega arith))

pub flags_fit_lem : (k : Kind) (b : ℕ) → flags_fit (record_layout k).flags 0 (flag_in (record_layout k).flags 0 b ∷ []) ≡ true
unfolding flags_fit
flags_fit_lem Avc b = refl
flags_fit_lem Svc b = by_bool (b / 128 % 2 ≡? 0) (λ t. rw t) (λ t. rw t)

-- one flag, without its byte
pub flag_back : (c : Bool) (n : ℕ) → flag_of c (bit (flag_of c n)) ≡ flag_of c n
flag_back false n = refl
flag_back true n = by_bool (n ≡? 0) (λ t. rw t) (λ t. rw t)

-- what one flag counts in its byte
pub flags_one : (c : Flag) → flags_byte 0 (c ∷ []) ≡ bit c * 128
unfolding flags_byte
flags_one c = add-zero (bit c * 128)
