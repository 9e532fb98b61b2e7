-- The bytes of a naming list read back. Assumes nothing, but where a line says that numbers and places fit their bytes.
--
--   big_after            a number after other bytes
--   big_before           a number before other bytes
--   entry_read           what stands at the start of an entry's bytes
--   entries_read         what stands at an entry's number of bytes each
--   Fits, sound_fits     numbers and places fit their bytes, in every bundle that a sound reader accepts
--   entries_fit          so do the entries of a naming list
--   list_read            so they are read back
--   unlisted_read        a sample whose number is read from no entry is not in the list
use Prim.Native.Nat.{ℕ, zero, suc, ◌+◌, ◌*◌, ◌^◌, ◌≤◌, ◌<◌}
use mathlib.Core.Path.{◌≡◌, refl, ap, sym, ◌∙◌}
use mathlib.Core.List.{List, [], ◌∷◌, ◌++◌, append_assoc, append-nil, Memᴰ}
use native.Mathlib.Omega.{arith}
use native.Mathlib.Nat.{zero-add}
use lib.ListN.{length, get_or, length-append}
use lib.Seq.{drop_at}
use Rattle.words.specs.Refusals.{ok}
use Rattle.words.specs.Lists.{each, nth}
use Rattle.words.specs.Bytes.{big, bytes}
use Rattle.words.proofs.Bytes.{bytes_length, big_bytes, big_inside}
use Rattle.bundles.specs.Recordings.{Recording, sample_count, content_of}
use Rattle.bundles.specs.Readers.{Reader}
use Rattle.links.proofs.Words.{mem_nth}
use Rattle.resolution_rules.specs.Readers.{Sound}
use Rattle.resolution_rules.proofs.Good.{extractor_inside}
use Rattle.numbers.specs.Places.{place_size}
use Rattle.naming_list_rules.specs.Naming.{Namer, namer, naming_list, sample_size, list_entry_size, entry_bytes, list_bytes}
use Rattle.naming_list_rules.specs.Rules.{Unlisted}
use Rattle.naming_list_rules.proofs.Listing.{list_only, entry_size, list_size_lem}

pub big_after : (a s : List ℕ) (q n : ℕ) → q + n ≤ length s → big (a ++ s) (length a + q) n ≡ big s q n
big_after a s q n h = big_inside (a ++ s) (length a) s [] (drop_at a s (length a) refl ∙ sym (append-nil s)) q n h

pub big_before : (a s : List ℕ) (q n : ℕ) → q + n ≤ length a → big (a ++ s) q n ≡ big a q n
big_before a s q n h = ap (λ (p : ℕ). big (a ++ s) p n) (sym (zero-add q)) ∙ big_inside (a ++ s) 0 a s refl q n h

-- an entry fits its bytes
abbrev pub EntryFits : Namer → Type 0
EntryFits e = (e.sample < 256 ^ sample_size) × (e.place < 256 ^ place_size)

-- two numbers, one after the other
pair_read : (v w : ℕ) (s : List ℕ) → v < 256 ^ sample_size → w < 256 ^ place_size →
    (big (bytes sample_size v ++ bytes place_size w ++ s) 0 sample_size ≡ v) × (big (bytes sample_size v ++ bytes place_size w ++ s) sample_size place_size ≡ w)
pair_read v w s g h =
    let a = bytes sample_size v in
    let b = bytes place_size w in
    let l : length a ≡ sample_size = bytes_length sample_size v in
    let z : sample_size ≡ length a + 0 = omega arith in
    rw (append_assoc a b s) (
      big_bytes sample_size v (b ++ s) g,
      ap (λ (q : ℕ). big (a ++ (b ++ s)) q place_size) z ∙ big_after a (b ++ s) 0 place_size (rw (length-append b s, bytes_length place_size w) (omega arith)) ∙ big_bytes place_size w s h,
    )

pub entry_read : (e : Namer) (s : List ℕ) → EntryFits e → (big (entry_bytes e ++ s) 0 sample_size ≡ e.sample) × (big (entry_bytes e ++ s) sample_size place_size ≡ e.place)
entry_read e s h = pair_read e.sample e.place s h.0 h.1

abbrev pub no_namer : Namer
no_namer = namer 0 0

pub entries_read : (es : List Namer) → ((e : Namer) → Memᴰ e es → EntryFits e) → (i : ℕ) → i < length es →
    (big (list_bytes es) (i * list_entry_size) sample_size ≡ (get_or es i no_namer).sample) × (big (list_bytes es) (i * list_entry_size + sample_size) place_size ≡ (get_or es i no_namer).place)
unfolding list_bytes each
entries_read [] h i l = absurd (omega arith)
entries_read (e ∷ es) h zero l = entry_read e (list_bytes es) (h e (Memᴰ.head refl))
entries_read (e ∷ es) h (suc i) l =
    let below = entries_read es (λ x m. h x (Memᴰ.tail m)) i (omega arith) in
    let k = entry_size e in
    let z : length (list_bytes es) ≡ length es * list_entry_size = list_size_lem es in
    let u : suc i * list_entry_size ≡ length (entry_bytes e) + i * list_entry_size = omega arith in
    let v : suc i * list_entry_size + sample_size ≡ length (entry_bytes e) + (i * list_entry_size + sample_size) = omega arith in (
      ap (λ (q : ℕ). big (entry_bytes e ++ list_bytes es) q sample_size) u ∙ big_after (entry_bytes e) (list_bytes es) (i * list_entry_size) sample_size (omega arith) ∙ below.0,
      ap (λ (q : ℕ). big (entry_bytes e ++ list_bytes es) q place_size) v ∙ big_after (entry_bytes e) (list_bytes es) (i * list_entry_size + sample_size) place_size (omega arith) ∙ below.1,
    )

-- numbers of samples fit their bytes, and so do places, which lie in a sample
abbrev pub Fits : Recording → Type 0
Fits r = (sample_count r.layout < 256 ^ sample_size) × ((n : ℕ) → length (content_of r n) ≤ 256 ^ place_size)

pub sound_fits : (reader : Reader) → Sound reader → (b : List ℕ) (r : Recording) → reader.means b ≡ ok r → Fits r
sound_fits reader sound b r e = let k = sound.samples b r e in (omega arith, λ n. let c = sound.contents b r e n in omega arith)

module _ (r : Recording) (s : ℕ) (fits : Fits r) where
  pub entries_fit : (e : Namer) → Memᴰ e (naming_list r s) → EntryFits e
  entries_fit e m =
      let w = list_only r s e m in
      let a = w.there in
      let b = extractor_inside r e.sample w.formed e.place w.extractor in
      let c = fits.0 in
      let d = fits.1 e.sample in
      (omega arith, omega arith)

  pub list_read : (i : ℕ) → i < length (naming_list r s) →
      (big (list_bytes (naming_list r s)) (i * list_entry_size) sample_size ≡ (get_or (naming_list r s) i no_namer).sample) × (big (list_bytes (naming_list r s)) (i * list_entry_size + sample_size) place_size ≡ (get_or (naming_list r s) i no_namer).place)
  list_read i l = entries_read (naming_list r s) entries_fit i l

  pub unlisted_read : (n : ℕ) → ((i : ℕ) → i < length (naming_list r s) → big (list_bytes (naming_list r s)) (i * list_entry_size) sample_size ≡ n → ⊥) → Unlisted r s n
  unlisted_read n h p m = let w = mem_nth (naming_list r s) (namer n p) no_namer m in at w.0 w.1.0 w.1.1 w.2
    where
      at : (i : ℕ) → 0 < i → i ≤ length (naming_list r s) → nth (naming_list r s) i no_namer ≡ namer n p → ⊥
      at zero j l e = absurd (omega arith)
      at (suc i) j l e =
          let e' : get_or (naming_list r s) i no_namer ≡ namer n p = unfold nth in e in
          h i (omega arith) ((list_read i (omega arith)).0 ∙ ap (λ (x : Namer). x.sample) e')
