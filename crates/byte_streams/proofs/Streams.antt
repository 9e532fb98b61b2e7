-- What writing a byte stream promises. Assumes nothing.
--
--   AllStreamable                           every unit of a list can stand in a byte stream
--   stream_written                          what is written is a byte stream of the units
--   stream_all                              every unit of a byte stream can stand in one
--   stream_split                            a byte stream split at its start codes: zeros, and its units with the zeros after them
--   stream_unique                           a byte stream is that of one list of units only
--   stream_joined                           two byte streams, one after the other, are that of the units of both
--   verdict_append                          32 in two lists of units, one after the other
--   verdict_ok, verdict_all                 no 32 exactly where all units can stand in a byte stream
--   held_streamable, streamable_held        a unit can stand in a byte stream exactly if one holds it
--   FirstBad, verdict_first, first_verdict  32 at the first unit that cannot, exactly
--   stream_none, -append, -size             the byte stream of no unit, of two lists of units; its length
use Prim.Native.Nat.{ℕ, ◌+◌}
use mathlib.Core.Path.{◌≡◌, refl, ap, ap₂, sym, ◌∙◌}
use mathlib.Core.Bool.{false, not}
use mathlib.Core.Logic.{⊎_elim}
use mathlib.Core.List.Memᴰ
use mathlib.Core.List.{List, [], ◌∷◌, ◌++◌, map, append_assoc}
use native.Mathlib.Omega.{arith}
use lib.ListN.{length, length-append, replicate-append-replicate}
use Rattle.words.specs.RefusalNumbers.{unit_not_streamable}
use Rattle.words.specs.Refusals.{◌if◌, refused, ok, Verdict, ◌at_place◌, ◌and_then◌}
use Rattle.words.specs.Lists.{each, ◌∈◌}
use Rattle.words.proofs.Tests.{by_bool, true_false, not-false}
use Rattle.words.proofs.Lists.{each_append}
use Rattle.words.proofs.Entries.{and_assoc}
use Rattle.words.proofs.Refusals.{and_ok, at_ok, if_none, ok_refused, refused_same}
use Rattle.byte_streams.specs.Grammar.{zeros, Streamable, StartCoded, ByteStream}
use Rattle.byte_streams.specs.Writing.{start_code, is_streamable, stream_of, stream_verdict}
use Rattle.byte_streams.proofs.Units.{ends_to, streamable_from, streamable_to}
use Rattle.byte_streams.proofs.Coded.{with_unit}
use Rattle.byte_streams.specs.Reading.{Parts, split, strip}
use Rattle.byte_streams.specs.Faults.{NoStartCode}
use Rattle.byte_streams.proofs.Splits.{split_append, split_code, none_in, code_free, strip_zeros}

abbrev pub AllStreamable : List (List ℕ) → Type 0
AllStreamable us = (u : List ℕ) → u ∈ us → Streamable u

-- written
pub stream_written : (us : List (List ℕ)) → AllStreamable us → ByteStream us (stream_of us)
unfolding stream_of each
stream_written [] h = ByteStream.stream 0 StartCoded.none
stream_written (u ∷ us) h =
    let below = stream_written us (λ w m. h w (Memᴰ.tail m)) in
    with_unit u (h u (Memᴰ.head refl)) below

-- the units of a stream
coded_all : {us : List (List ℕ)} {s : List ℕ} → StartCoded us s → (u : List ℕ) → u ∈ us → Streamable u
coded_all StartCoded.none w m = absurd (Memᴰ.not-nil m)
coded_all (StartCoded.unit u h n c) w m = ⊎_elim (λ e. rw e h) (λ k. coded_all c w k) (Memᴰ.cases_cons m)

pub stream_all : {us : List (List ℕ)} {s : List ℕ} → ByteStream us s → AllStreamable us
stream_all (ByteStream.stream n c) = coded_all c

no_start_code : (u : List ℕ) → Streamable u → NoStartCode u
no_start_code u h a b e = h.no_forbidden a b 1 e (omega arith)

coded_units : {us : List (List ℕ)} {s : List ℕ} → StartCoded us s → ((split s).before ≡ []) × (map strip (split s).after ≡ us)
coded_units StartCoded.none = (unfold split in refl, unfold split in refl)
coded_units (StartCoded.unit {us} {s} u h n c) =
    let below = coded_units c in
    let t : split (u ++ (zeros n ++ s)) ≡ record { before = u ++ zeros n; after = (split s).after } =
    ap split (sym (append_assoc u (zeros n) s)) ∙ split_append (u ++ zeros n) s (code_free u n (no_start_code u h)) below.0 in
    let w : split (0 ∷ 0 ∷ 1 ∷ (u ++ (zeros n ++ s))) ≡ record { before = []; after = (u ++ zeros n) ∷ (split s).after } = split_code (u ++ (zeros n ++ s)) ∙ ap (λ (r : Parts). record { before = []; after = r.before ∷ r.after }) t in
    (ap (λ (r : Parts). r.before) w, ap (λ (r : Parts). map strip r.after) w ∙ ap₂ ◌∷◌ (strip_zeros u n (ends_to u h.no_zero_at_end)) below.1)

pub stream_split : {us : List (List ℕ)} {s : List ℕ} → ByteStream us s → (n : ℕ) × ((split s).before ≡ zeros n) × (map strip (split s).after ≡ us)
stream_split (ByteStream.stream {us} {s} n c) =
    let b = coded_units c in
    let t = split_append (zeros n) s (code_free [] n none_in) b.0 in
    (n, ap (λ (r : Parts). r.before) t, ap (λ (r : Parts). map strip r.after) t ∙ b.1)

pub stream_unique : {us vs : List (List ℕ)} {s : List ℕ} → ByteStream us s → ByteStream vs s → us ≡ vs
stream_unique a b = sym (stream_split a).2 ∙ (stream_split b).2

-- two byte streams, after n zeros: the zeros between go to the unit before them
zeros_join : (n k : ℕ) (t : List ℕ) → zeros n ++ (zeros k ++ t) ≡ zeros (n + k) ++ t
zeros_join n k t = sym (append_assoc (zeros n) (zeros k) t) ∙ ap (λ l. l ++ t) (replicate-append-replicate n k 0)

record Joined (us : List (List ℕ)) (s : List ℕ) : Type 0 where
  count : ℕ
  rest : List ℕ
  coded : StartCoded us rest
  same : s ≡ zeros count ++ rest

coded_joined : {us vs : List (List ℕ)} {s t : List ℕ} (n : ℕ) → StartCoded us s → (k : ℕ) → StartCoded vs t → Joined (us ++ vs) (zeros n ++ (s ++ (zeros k ++ t)))
coded_joined {us} {vs} {s} {t} n StartCoded.none k d = record { count = n + k; rest = t; coded = d; same = zeros_join n k t }
coded_joined {us} {vs} {s} {t} n (StartCoded.unit {us = ws} {s = x} u h j c) k d =
    let w = coded_joined j c k d in
    record {
      count = n;
      rest = 0 ∷ 0 ∷ 1 ∷ (u ++ (zeros w.count ++ w.rest));
      coded = StartCoded.unit u h w.count w.coded;
      same = ap (λ l. zeros n ++ (0 ∷ 0 ∷ 1 ∷ l)) (append_assoc u (zeros j ++ x) (zeros k ++ t) ∙ ap (λ l. u ++ l) (append_assoc (zeros j) x (zeros k ++ t) ∙ w.same));
    }

pub stream_joined : {us vs : List (List ℕ)} {s t : List ℕ} → ByteStream us s → ByteStream vs t → ByteStream (us ++ vs) (s ++ t)
stream_joined (ByteStream.stream {s = x} n c) (ByteStream.stream {s = y} k d) =
    let w = coded_joined n c k d in
    rw (append_assoc (zeros n) x (zeros k ++ y), w.same) (ByteStream.stream w.count w.coded)

-- sizes
pub stream_none : length (stream_of []) ≡ 0
unfolding stream_of each
stream_none = refl

pub stream_append : (us vs : List (List ℕ)) → stream_of (us ++ vs) ≡ stream_of us ++ stream_of vs
unfolding stream_of
stream_append us vs = each_append (λ u. start_code ++ u) us vs

pub stream_size_lem : (u : List ℕ) (us : List (List ℕ)) → length (stream_of (u ∷ us)) ≡ 4 + length u + length (stream_of us)
unfolding stream_of each
stream_size_lem u us = let l = length-append (start_code ++ u) (stream_of us) in omega arith

-- 32
abbrev one_verdict : ℕ → List ℕ → Verdict
one_verdict p u = (unit_not_streamable if not (is_streamable u)) at_place p

verdict_none : (p : ℕ) → stream_verdict p [] ≡ ok tt
unfolding stream_verdict
verdict_none p = refl

verdict_step : (p : ℕ) (u : List ℕ) (us : List (List ℕ)) → stream_verdict p (u ∷ us) ≡ (one_verdict p u and_then stream_verdict (p + (4 + length u)) us)
unfolding stream_verdict
verdict_step p u us = refl

pub verdict_append : (p : ℕ) (us vs : List (List ℕ)) → stream_verdict p (us ++ vs) ≡ (stream_verdict p us and_then stream_verdict (p + length (stream_of us)) vs)
verdict_append p [] vs = unfold stream_verdict in unfold stream_of in unfold each in ap (λ (q : ℕ). stream_verdict q vs) (omega arith)
verdict_append p (u ∷ us) vs =
    let below = verdict_append (p + (4 + length u)) us vs in
    let q : p + (4 + length u) + length (stream_of us) ≡ p + length (stream_of (u ∷ us)) = let l = stream_size_lem u us in omega arith in
    verdict_step p u (us ++ vs) ∙ ap (λ (v : Verdict). one_verdict p u and_then v) (below ∙ ap (λ (r : ℕ). stream_verdict (p + (4 + length u)) us and_then stream_verdict r vs) q)
    ∙ sym (and_assoc (one_verdict p u) (stream_verdict (p + (4 + length u)) us) _) ∙ ap (λ (v : Verdict). v and_then stream_verdict (p + length (stream_of (u ∷ us))) vs) (sym (verdict_step p u us))

pub verdict_ok : (p : ℕ) (us : List (List ℕ)) → stream_verdict p us ≡ ok tt → AllStreamable us
verdict_ok p [] e u m = absurd (Memᴰ.not-nil m)
verdict_ok p (w ∷ us) e u m =
    let a = and_ok (one_verdict p w) (stream_verdict (p + (4 + length w)) us) (sym (verdict_step p w us) ∙ e) in
    let below = verdict_ok (p + (4 + length w)) us a.1 u in
    ⊎_elim
    (λ g. rw g (streamable_from w (not-false (is_streamable w) (if_none 31 _ (at_ok _ p a.0)))))
    below
    (Memᴰ.cases_cons m)

pub verdict_all : (p : ℕ) (us : List (List ℕ)) → AllStreamable us → stream_verdict p us ≡ ok tt
verdict_all p [] h = verdict_none p
verdict_all p (w ∷ us) h = verdict_step p w us ∙ rw (streamable_to w (h w (Memᴰ.head refl)), verdict_all (p + (4 + length w)) us (λ u m. h u (Memᴰ.tail m)))

-- a unit can stand in a byte stream exactly if one holds it
pub held_streamable : {u : List ℕ} {us : List (List ℕ)} {s : List ℕ} → ByteStream us s → u ∈ us → Streamable u
held_streamable {u} b m = stream_all b u m

pub streamable_held : (u : List ℕ) → Streamable u → ByteStream (u ∷ []) (stream_of (u ∷ []))
streamable_held u h = stream_written (u ∷ []) (λ w m. ⊎_elim (λ e. rw e h) (λ k. absurd (Memᴰ.not-nil k)) (Memᴰ.cases_cons m))

-- the first unit that cannot, in the list from p on: where it would stand after those before it
pub record FirstBad (us : List (List ℕ)) (p q : ℕ) : Type 0 where
  pub before : List (List ℕ)
  pub unit : List ℕ
  pub after : List (List ℕ)
  pub split : us ≡ before ++ (unit ∷ after)
  pub place : q ≡ p + length (stream_of before)
  pub good : AllStreamable before
  pub bad : Streamable unit → ⊥

pub verdict_first : (p : ℕ) (us : List (List ℕ)) {n q : ℕ} → stream_verdict p us ≡ refused n q → (n ≡ unit_not_streamable) × FirstBad us p q
verdict_first p [] e = ok_refused (sym e ∙ verdict_none p)
verdict_first p (u ∷ us) {n} {q} e =
    let f : (one_verdict p u and_then stream_verdict (p + (4 + length u)) us) ≡ refused n q = sym (verdict_step p u us) ∙ e in
    let below : stream_verdict (p + (4 + length u)) us ≡ refused n q → (n ≡ unit_not_streamable) × FirstBad us (p + (4 + length u)) q = λ g. verdict_first (p + (4 + length u)) us g in
    by_bool (is_streamable u)
    (λ t.
    let b = below (rw t at f) in
    let w = b.1 in
    let l = stream_size_lem u w.before in
    let r = w.place in (
      b.0,
      record {
        before = u ∷ w.before;
        unit = w.unit;
        after = w.after;
        split = ap (λ l. u ∷ l) w.split;
        place = omega arith;
        good = λ v m. ⊎_elim (λ g. rw g (streamable_from u t)) (λ k. w.good v k) (Memᴰ.cases_cons m);
        bad = w.bad;
      },
    ))
    (λ t.
    let s = refused_same {n = unit_not_streamable} {m = n} {p = p} {q = q} (rw t at f) in
    let z = stream_none in (
      sym s.0,
      record {
        before = [];
        unit = u;
        after = us;
        split = refl;
        place = let r = s.1 in omega arith;
        good = λ v m. absurd (Memᴰ.not-nil m);
        bad = λ h. true_false (is_streamable u) (streamable_to u h) t;
      },
    ))

pub first_verdict : (p : ℕ) (us : List (List ℕ)) {q : ℕ} → FirstBad us p q → stream_verdict p us ≡ refused unit_not_streamable q
first_verdict p us {q} w =
    let t : is_streamable w.unit ≡ false = by_bool (is_streamable w.unit) (λ t. absurd (w.bad (streamable_from w.unit t))) (λ t. t) in
    ap (stream_verdict p) w.split ∙ verdict_append p w.before (w.unit ∷ w.after) ∙ rw (verdict_all p w.before w.good, ← w.place)
    (verdict_step q w.unit w.after ∙ rw t)
