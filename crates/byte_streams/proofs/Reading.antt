-- Which byte streams are read, and as what. Assumes nothing.
--
--   AllFit L us             every unit of a list has a length that L bytes can hold
--   unit_from_lem, unit_to  a unit of which nothing is refused, both ways
--   lead_from, lead_to      so the zeros before the first start code
--   read_from, read_to      what is read is a byte stream of the units, and they fit; and the other way
--   read_exactly            both
--   read_written            units that can stand in a byte stream and fit: what is written of them is read as them
use Prim.Native.Nat.{ℕ, zero, suc, ◌+◌, ◌-◌, ◌^◌, ◌<◌}
use mathlib.Core.Path.{◌≡◌, refl, ap, sym, ◌∙◌, subst}
use mathlib.Core.Logic.{◌↔◌, ⊎_elim}
use mathlib.Core.List.Memᴰ
use mathlib.Core.List.{List, [], ◌∷◌, ◌++◌, map, append_assoc}
use borrow.Author.Tests.{eqb-false, ne_eqb, leb-false, lt-leb}
use lib.ListN.{length}
use Rattle.words.specs.Tests.{◌≡?◌, ◌≤?◌}
use Rattle.words.specs.RefusalNumbers.{bad_byte_stream, unit_exceeds_length_size}
use Rattle.words.specs.Refusals.{◌if◌, ok, ◌at_place◌}
use Rattle.words.specs.Lists.{each, ◌∈◌}
use Rattle.words.proofs.Refusals.{if_none, at_ok, and_ok, ok_same, ok_refused}
use Rattle.byte_streams.specs.Grammar.{zeros, Streamable, StartCoded, ByteStream}
use Rattle.byte_streams.specs.Writing.{stream_of}
use Rattle.byte_streams.specs.Reading.{split, strip, lead_verdict, inside_verdict, unit_verdict, parts_verdict, units_of, units_in}
use Rattle.byte_streams.proofs.Units.{no_length, streamable_to}
use Rattle.byte_streams.proofs.Splits.{coded, CodeFree, AllFree, split_join, split_free, free_unit, strip_ends, strip_part}
use Rattle.byte_streams.proofs.Inside.{inside_good, inside_streamable}
use Rattle.byte_streams.proofs.Streams.{AllStreamable, stream_written, stream_all, stream_split}

abbrev pub AllFit : ℕ → List (List ℕ) → Type 0
AllFit L us = (u : List ℕ) → u ∈ us → length u < 256 ^ L

-- a unit's verdict
pub unit_from_lem : (L p : ℕ) (v : List ℕ) → CodeFree v → unit_verdict L p (strip v) ≡ ok tt → Streamable (strip v) × (length (strip v) < 256 ^ L)
unfolding unit_verdict
unit_from_lem L p v f e =
    let a = and_ok ((bad_byte_stream if length (strip v) ≡? 0) at_place (p - 1)) _ e in
    let b = and_ok ((unit_exceeds_length_size if 256 ^ L ≤? length (strip v)) at_place p) (inside_verdict 0 p (strip v)) a.1 in (
      inside_streamable p (strip v) (free_unit v f) (strip_ends v) b.1 (λ z. eqb-false _ _ (if_none 32 _ (at_ok _ (p - 1) a.0)) (ap length z)),
      leb-false _ _ (if_none 33 _ (at_ok _ p b.0)),
    )

pub unit_to : (L p : ℕ) (u : List ℕ) → Streamable u → length u < 256 ^ L → unit_verdict L p u ≡ ok tt
unfolding unit_verdict
unit_to L p u h f =
    rw (ne_eqb (length u) 0 (λ z. h.not_empty (no_length u z)), lt-leb (256 ^ L) (length u) f, inside_good p u (streamable_to u h))

-- all of them: any parts without a fault are the parts of a stream of what is left of them
coded_from : (L p : ℕ) (vs : List (List ℕ)) → AllFree vs → parts_verdict L p vs ≡ ok tt → StartCoded (map strip vs) (each coded vs) × AllFit L (map strip vs)
unfolding parts_verdict AllFree each
coded_from L p [] f e = (StartCoded.none, λ u m. absurd (Memᴰ.not-nil m))
coded_from L p (v ∷ vs) f e =
    let a = and_ok (unit_verdict L p (strip v)) (parts_verdict L (p + length v + 3) vs) e in
    let below = coded_from L (p + length v + 3) vs f.1 a.1 in
    let here = unit_from_lem L p v f.0 a.0 in
    let b = strip_part v in
    let z : coded (strip v ++ (zeros b.0 ++ each coded vs)) ≡ coded (v ++ each coded vs) =
    sym (ap (λ l. coded (l ++ each coded vs)) b.1 ∙ ap coded (append_assoc (strip v) (zeros b.0) (each coded vs))) in (
      subst (λ l. StartCoded (map strip (v ∷ vs)) l) z (StartCoded.unit (strip v) here.0 b.0 below.0),
      (λ u m. ⊎_elim (λ g. rw g here.1) (λ k. below.1 u k) (Memᴰ.cases_cons m)),
    )

parts_to : (L p : ℕ) (us vs : List (List ℕ)) → map strip vs ≡ us → AllStreamable us → AllFit L us → parts_verdict L p vs ≡ ok tt
unfolding parts_verdict
parts_to L p us [] e f g = refl
parts_to L p us (v ∷ vs) e f g =
    let here : strip v ∈ us = rw (← e) (Memᴰ.head refl) in
    let below = parts_to L (p + length v + 3) (map strip vs) vs refl (λ u m. f u (rw (← e) (Memᴰ.tail m))) (λ u m. g u (rw (← e) (Memᴰ.tail m))) in
    rw (unit_to L p (strip v) (f (strip v) here) (g (strip v) here), below)

-- before the first start code
pub lead_from : (p : ℕ) (v : List ℕ) → lead_verdict p v ≡ ok tt → v ≡ zeros (length v)
unfolding lead_verdict
lead_from p [] e = refl
lead_from p (zero ∷ v) e = ap (λ l. 0 ∷ l) (lead_from (suc p) v e)
lead_from p (suc x ∷ v) e = ok_refused e

pub lead_to : (p n : ℕ) → lead_verdict p (zeros n) ≡ ok tt
unfolding lead_verdict
lead_to p zero = refl
lead_to p (suc n) = lead_to (suc p) n

module _ (L : ℕ) (us : List (List ℕ)) (s : List ℕ) where
  pub read_from : units_in L s ≡ ok us → ByteStream us s × AllFit L us
  unfolding units_in units_of
  read_from e =
      let r = split s in
      let a = and_ok (lead_verdict 0 r.before) _ e in
      let b = and_ok (parts_verdict L (length r.before + 3) r.after) _ a.1 in
      let z : map strip r.after ≡ us = ok_same b.1 in
      let all = coded_from L (length r.before + 3) r.after (split_free s).after b.0 in
      let whole : zeros (length r.before) ++ each coded r.after ≡ s = ap (λ l. l ++ each coded r.after) (sym (lead_from 0 r.before a.0)) ∙ split_join s in
      rw (← z) (subst (λ l. ByteStream (map strip r.after) l) whole (ByteStream.stream (length r.before) all.0), all.1)

  pub read_to : ByteStream us s → AllFit L us → units_in L s ≡ ok us
  unfolding units_in units_of
  read_to c f =
      let b = stream_split c in
      let r = split s in
      let a = ap (lead_verdict 0) b.1 ∙ lead_to 0 b.0 in
      let p = parts_to L (length r.before + 3) us r.after b.2 (stream_all c) f in
      rw (a, p) (ap ok b.2)

  pub read_exactly : (units_in L s ≡ ok us) ↔ (ByteStream us s × AllFit L us)
  read_exactly = (read_from, λ h. read_to h.0 h.1)

pub read_written : (L : ℕ) (us : List (List ℕ)) → AllStreamable us → AllFit L us → units_in L (stream_of us) ≡ ok us
read_written L us h f = read_to L us (stream_of us) (stream_written us h) f
