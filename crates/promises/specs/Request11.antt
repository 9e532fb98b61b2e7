-- Request [11] of document 02, 'Salvage', nearly in its words, as theorems in plain facts. The proofs stand in
-- crates/promise_rules/proofs, FateLaws and SalvageLaws, and in crates/salvage_rules/proofs. Assumes nothing.
--
--   salvage_call, salvage_alone           the call on a sample of a bundle, and on one outside (salvage_rules/specs/Calls)
--   salvaged x, changes x                 the new sample of the sample x, and the list of changes (salvage_rules/specs/Salvage)
--   first_fault x, whole_units x          where the first top-level fault is, or the end; the top-level units before it (the same)
--   fate (cut x) p                        what becomes of the unit at p: Kept, Dropped or Zeroed; cut x is x up to that fault (the same)
--   unit_bytes, zeroed_bytes x p          the unit at p with its length field; the same with additional_bytes 0 (the same)
--   left_by x f p, listed_by x f p        what is left of it, and what is listed, by what becomes of it (the same)
--   change_list_bytes, changes_in         a list as bytes; the list that bytes say (the same)
--   listed w p cs, applied x cs           whether the list cs has a change w at p; what cs makes of the old sample x (the same)
--   StopsAt, InsideFault, Becomes         the rules in plain facts (promise_rules/specs/Salvaging)
--   SalvageRefused, SampleSalvageRefused  with which number, and where, the calls are refused (the same)
--   Formed x, Given kind l s x            x is well formed; x is what a call outside a bundle is given, as in Demands (.. /Samples)
--   Tiles x a b ps                        the units ps lie without gap or overlap from a to b (units/specs/Rules)
--   WroteAll, OutputsGiven                what a call did to several lent buffers (words/specs/Buffers, promise_rules/specs/Returns)
use Rattle.std.specs.Prelude.{ℕ, ◌+◌, ◌-◌, ◌*◌, ◌≤◌, ◌<◌, ◌≡◌, false, List, [], ◌∷◌, ◌++◌, ◌⊎◌, ◌↔◌, length, drop, get_or}
use Rattle.std.proofs.Math.Path.{refl}
use Rattle.words.specs.Tests.{◌<?◌, pick}
use Rattle.words.specs.Lists.{◌∈◌, keep, each}
use Rattle.words.specs.Bytes.{Bytes, byte_at, bytes, part, splice}
use Rattle.words.specs.Refusals.{Answer, refused, ok, passed}
use Rattle.words.specs.Buffers.{WroteAll}
use Rattle.words.proofs.Buffers.{refused_leaves_all}
use Rattle.units.specs.Units.{Sample, L, type, next, top_units}
use Rattle.units.specs.Aggregators.{additional_bytes}
use Rattle.units.specs.Rules.{Tiles}
use Rattle.samples.specs.Check.{check_alone}
use Rattle.bundles.specs.Recordings.{Recording, sample_count}
use Rattle.bundles.specs.Readers.{first_layout}
use Rattle.resolution_rules.specs.Resolving.{sample_of}
use Rattle.naming_list_rules.specs.Naming.{naming_list, list_bytes, names_call}
use Rattle.salvage_rules.specs.declared.Fate.TheVariants.{Kept, Dropped, Zeroed}
use Rattle.salvage_rules.specs.Salvage.{Change, change, first_fault, cut, whole_units, fate, unit_bytes, zeroed_bytes}
use Rattle.salvage_rules.specs.Salvage.{left_by, listed_by, change_at, tail_drop, salvaged, changes}
use Rattle.salvage_rules.specs.Salvage.{listed, listed_end, applied, change_list_bytes, changes_in}
use Rattle.salvage_rules.specs.Calls.{salvage_alone, salvage_call}
use Rattle.salvage_rules.proofs.Cut.{cut_units}
use Rattle.salvage_rules.proofs.Where as where_listed
use Rattle.salvage_rules.proofs.Sizes.{new_most, changes_most}
use Rattle.salvage_rules.proofs.Promises as salvage
use Rattle.puddockle.specs.Returns.{ReturnedOutputs}
use Rattle.promise_rules.specs.Samples.{Formed, Given}
use Rattle.promise_rules.specs.Salvaging.{StopsAt, InsideFault, Becomes, SalvageRefused, SampleSalvageRefused}
use Rattle.promise_rules.specs.Returns.{OutputsAnswer, OutputsGiven}
use Rattle.promise_rules.proofs.FateLaws as fates
use Rattle.promise_rules.proofs.SalvageLaws as laws

-- Of any sample x, of any kind and length size
module _ (x : Sample) where
  -- The top-level units before the first top-level fault, 14 to 18; without one, all of them
  pub stops : StopsAt x (first_fault x)
  stops = fates.stops x

  pub before_it : whole_units x ≡ keep (λ p. p <? first_fault x) (top_units x)
  before_it = cut_units x

  -- each of them is dropped exactly if it has an inside fault, 14 to 20 or 22; an aggregator that is kept gets additional_bytes 0
  -- exactly if 21 arises, judged as if the sample ended at the first top-level fault, or if a unit is dropped that it covers
  pub becomes : (p : ℕ) → p ∈ whole_units x → Becomes x (first_fault x) p (fate (cut x) p)
  becomes = fates.becomes x

  -- the new sample, of the same track, is what is left of them: nothing, the unit, or the unit with additional_bytes 0
  pub new_sample :
      salvaged x ≡ record {
        kind = x.kind;
        length_size = x.length_size;
        content = each (λ p. left_by x (fate (cut x) p) p) (whole_units x);
      }
  new_sample = laws.new_sample x

  pub left_by_lem :
      (p : ℕ) → (left_by x Dropped p ≡ []) × (left_by x Kept p ≡ part x.content p (next x p - p))
      × (left_by x Zeroed p ≡ splice (part x.content p (next x p - p)) (L x + 4) (bytes (L x) 0))
  unfolding unit_bytes zeroed_bytes
  left_by_lem p = (refl, refl, refl)

  -- the list is what is listed of them: a drop, 1, or a zeroing, 2, at its place; then one drop of all bytes from the fault on
  pub change_list :
      changes x ≡ each (λ p. listed_by x (fate (cut x) p) p) (whole_units x)
      ++ pick (first_fault x <? length x.content) (change 1 (first_fault x) ∷ []) []
  unfolding changes change_at tail_drop
  change_list = refl

  pub listed_by_lem :
      (p : ℕ) → (listed_by x Dropped p ≡ change 1 p ∷ []) × (listed_by x Kept p ≡ []) × (listed_by x Zeroed p ≡ change 2 p ∷ [])
  listed_by_lem p = (refl, refl, refl)

  -- (a) The new sample is well formed
  pub new_formed : Formed (salvaged x)
  new_formed = laws.formed x

  -- (b) a well-formed sample, and only such a one, comes back unchanged; the list is empty of such a one, and only of it
  pub unchanged_exactly : (salvaged x ≡ x) ↔ Formed x
  unchanged_exactly = laws.unchanged_exactly x

  pub empty_exactly : (changes x ≡ []) ↔ Formed x
  empty_exactly = laws.empty_exactly x

  -- (c) salvaging twice equals once
  pub twice : (salvaged (salvaged x) ≡ salvaged x) × (changes (salvaged x) ≡ [])
  twice = salvage.salvaged_twice x

  -- (d) The old sample's bytes are exactly these units, kept or dropped, in order, without gap or overlap, and the bytes from the
  -- first top-level fault on
  pub old_tiles : Tiles x 0 (first_fault x) (whole_units x)
  old_tiles = salvage.old_tiles x

  pub old_bytes : x.content ≡ each (unit_bytes x) (whole_units x) ++ drop (first_fault x) x.content
  old_bytes = salvage.old_bytes x

  -- every place from which bytes are missing or changed is in the list: a unit exactly if what is left of it is not what it was;
  -- and nothing else is: a place is that of such a unit, or of the first top-level fault
  pub listed_where :
      (p : ℕ) → p ∈ whole_units x → ((w : ℕ) × (change w p ∈ changes x)) ↔ (left_by x (fate (cut x) p) p ≡ unit_bytes x p → ⊥)
  listed_where = where_listed.listed_where x

  pub listed_places :
      (c : Change) → c ∈ changes x →
      (c.place ∈ whole_units x) ⊎ ((c.place ≡ first_fault x) × (first_fault x < length x.content))
  listed_places = where_listed.listed_places x

  -- by place, and so each once: change i, from 0 on, stands before every later one, j
  pub in_order :
      (i j : ℕ) (d : Change) → i < j → j < length (changes x) → (get_or (changes x) i d).place < (get_or (changes x) j d).place
  in_order = laws.in_order x

  -- the new sample is the old one with the listed drops cut out and the listed additional_bytes 0
  pub list_gives : applied x (changes x) ≡ (salvaged x).content
  list_gives = salvage.list_gives x

  -- for any list: a drop at the first top-level fault cuts off all from there on, else all stays; of a unit before it nothing is
  -- left where its drop is listed, and additional_bytes are 0 where a zeroing is
  pub applied_is :
      (cs : List Change) → applied x cs ≡ each
      (λ p. pick (listed 1 p cs) [] (pick (listed 2 p cs) (zeroed_bytes x p) (unit_bytes x p)))
      (keep (λ p. p <? pick (listed 1 (first_fault x) cs) (first_fault x) (length x.content)) (top_units x))
  unfolding applied listed_end
  applied_is cs = refl

  -- and the old sample and the list's bytes alone give it
  pub list_bytes_give :
      length x.content ≤ 4294967296 → (changes_in (change_list_bytes (changes x)) ≡ changes x)
      × (applied x (changes_in (change_list_bytes (changes x))) ≡ (salvaged x).content)
  list_bytes_give = laws.list_back x

  -- (e) Nothing good is lost: no unit is dropped without a fault of its own, by the old sample's own rules
  pub dropped_faulty : (p : ℕ) → p ∈ whole_units x → fate (cut x) p ≡ Dropped → (m : ℕ) × (q : ℕ) × InsideFault x p m q
  dropped_faulty = fates.dropped_faulty x

  -- and a zeroing changes additional_bytes, which were not 0, and no other byte of the unit
  pub zeroed_only :
      (p : ℕ) → p ∈ whole_units x → fate (cut x) p ≡ Zeroed → (type x p ≡ 30) × (0 < additional_bytes x p)
      × (length (zeroed_bytes x p) ≡ length (unit_bytes x p))
      × ((i : ℕ) → (i < L x + 4) ⊎ (L x + 4 + L x ≤ i) → byte_at (zeroed_bytes x p) i ≡ byte_at (unit_bytes x p) i)
  zeroed_only = fates.zeroed_only x

  -- how much room always serves: that of the old sample, and for the list 4 bytes more
  pub room_enough :
      (length (salvaged x).content ≤ length x.content) × (5 * length (changes x) ≤ length x.content + 4)
  room_enough = (new_most x, changes_most x)

-- The call on sample n of a bundle: refused with 1 to 13 of the bundle; 30; then 29 if any of the three lent buffers lacks room
module _ (b : List ℕ) (bytes : Bytes b) (n room changes_room names_room : ℕ) where
  pub salvage_refused :
      (m p : ℕ) → (salvage_call first_layout b n room changes_room names_room ≡ refused m p)
      ↔ SalvageRefused b n room changes_room names_room m p
  salvage_refused = laws.salvage_refused b bytes n room changes_room names_room

  module _ (r : Recording) (accepted : first_layout.means b ≡ ok r) (some : 0 < n) (there : n ≤ sample_count r.layout) where
    -- else the new sample, the list and (f) the naming list of the old sample, whatever of these is empty
    pub salvage_exactly :
        (outs : List (List ℕ)) → (salvage_call first_layout b n room changes_room names_room ≡ ok outs)
        ↔ ((outs ≡ (salvaged (sample_of r n)).content ∷ change_list_bytes (changes (sample_of r n)) ∷ list_bytes (naming_list r n) ∷ [])
        × (length (salvaged (sample_of r n)).content ≤ room) × (length (change_list_bytes (changes (sample_of r n))) ≤ changes_room)
        × (length (list_bytes (naming_list r n)) ≤ names_room))
    salvage_exactly = laws.salvage_exactly b bytes n room changes_room names_room r accepted some there

    pub names_of_old :
        (new list names : List ℕ) → salvage_call first_layout b n room changes_room names_room ≡ ok (new ∷ list ∷ names ∷ []) →
        names_call first_layout b n names_room ≡ ok names
    names_of_old = laws.names_of_old b bytes n room changes_room names_room r accepted some there

-- The call on a sample outside a bundle: 4, 11, 29, all at 0, or the new sample and the list. 29 also for a sample of more than
-- 2 ^ 32 bytes, well formed or not, whose places the list could not say
module _ (kind l : ℕ) (s : List ℕ) (room changes_room : ℕ) where
  pub sample_refused :
      (m p : ℕ) → (salvage_alone kind l s room changes_room ≡ refused m p) ↔ SampleSalvageRefused kind l s room changes_room m p
  sample_refused = laws.sample_refused kind l s room changes_room

  pub sample_exactly :
      (outs : List (List ℕ)) → (salvage_alone kind l s room changes_room ≡ ok outs)
      ↔ ((x : Sample) × Given kind l s x × (outs ≡ (salvaged x).content ∷ change_list_bytes (changes x) ∷ [])
      × (length s ≤ 4294967296) × (length (salvaged x).content ≤ room) × (length (change_list_bytes (changes x)) ≤ changes_room))
  sample_exactly = laws.sample_exactly kind l s room changes_room

  -- what comes out is well formed, and comes back as it is; the list is empty exactly if the old sample was well formed
  pub again :
      (new list : List ℕ) → salvage_alone kind l s room changes_room ≡ ok (new ∷ list ∷ []) →
      (check_alone kind l new ≡ ok tt) × (salvage_alone kind l new room 0 ≡ ok (new ∷ [] ∷ []))
      × ((list ≡ []) ↔ (check_alone kind l s ≡ ok tt))
  again = laws.again kind l s room changes_room

-- A change is 5 bytes: 1, then the place in 4
pub five_bytes :
    (c : Change) (cs : List Change) → (change_list_bytes [] ≡ [])
    × (change_list_bytes (c ∷ cs) ≡ bytes 1 c.what ++ bytes 4 c.place ++ change_list_bytes cs)
five_bytes = laws.five_bytes

-- After a refusal all lent buffers are as they were; after an answer each has its output over its start
pub refusal_leaves :
    {os os' : List (List ℕ)} {a : Answer (List ℕ)} {is : Answer (List (List ℕ))} → WroteAll os os' a is →
    passed a ≡ false → os' ≡ os
refusal_leaves = refused_leaves_all

pub answer_leaves :
    {o c l o' c' l' x y z : List ℕ} {a : Answer (List ℕ)} →
    WroteAll (o ∷ c ∷ l ∷ []) (o' ∷ c' ∷ l' ∷ []) a (ok (x ∷ y ∷ z ∷ [])) → (a ≡ ok (length x ∷ length y ∷ length z ∷ []))
    × ((o' ∷ c' ∷ l' ∷ []) ≡ ((x ++ drop (length x) o) ∷ (y ++ drop (length y) c) ∷ (z ++ drop (length z) l) ∷ []))
answer_leaves = laws.answers_leave

pub sample_answer_leaves :
    {o c o' c' x y : List ℕ} {a : Answer (List ℕ)} → WroteAll (o ∷ c ∷ []) (o' ∷ c' ∷ []) a (ok (x ∷ y ∷ [])) →
    (a ≡ ok (length x ∷ length y ∷ [])) × ((o' ∷ c' ∷ []) ≡ ((x ++ drop (length x) o) ∷ (y ++ drop (length y) c) ∷ []))
sample_answer_leaves = laws.both_leave

-- The C functions: 0 at 0 and the counts, or a number of the table with its place, every count 0 and every buffer as it was
pub c_outputs :
    {os : List (List ℕ)} {a : Answer (List (List ℕ))} → OutputsAnswer os a → {n p : ℕ} {cs : List ℕ} {os' : List (List ℕ)} →
    ReturnedOutputs n p cs os os' a → OutputsGiven a os n p cs os'
c_outputs = laws.outputs_returned

-- In bytes, with length size 1: a well-formed sample; an empty unit half way; an extractor of 7 bytes; an aggregator whose
-- included unit is too long for it; additional_bytes past the end; that end at the empty unit, and so stay; that end past it, at
-- the old end, and so become 0; that cover an extractor which is dropped; a slice in an aggregator of an AVC track; 4 before 11;
-- 29 for either buffer
pub in_bytes :
    (salvage_alone 1 1 (2 ∷ 0x65 ∷ 0x88 ∷ []) 3 0 ≡ ok ((2 ∷ 0x65 ∷ 0x88 ∷ []) ∷ [] ∷ []))
    × (salvage_alone 1 1 (2 ∷ 0x65 ∷ 0x88 ∷ 0 ∷ 1 ∷ 0x65 ∷ []) 9 9 ≡ ok ((2 ∷ 0x65 ∷ 0x88 ∷ []) ∷ (1 ∷ 0 ∷ 0 ∷ 0 ∷ 3 ∷ []) ∷ []))
    × (salvage_alone 1 1 (7 ∷ 0x7f ∷ 0x80 ∷ 0 ∷ 3 ∷ 1 ∷ 0 ∷ 0 ∷ 1 ∷ 0x65 ∷ []) 9 9
    ≡ ok ((1 ∷ 0x65 ∷ []) ∷ (1 ∷ 0 ∷ 0 ∷ 0 ∷ 0 ∷ []) ∷ []))
    × (salvage_alone 1 1 (1 ∷ 0x65 ∷ 7 ∷ 0x7e ∷ 0x80 ∷ 0 ∷ 3 ∷ 0 ∷ 2 ∷ 0x65 ∷ []) 9 9
    ≡ ok ((1 ∷ 0x65 ∷ []) ∷ (1 ∷ 0 ∷ 0 ∷ 0 ∷ 2 ∷ []) ∷ []))
    × (salvage_alone 1 1 (5 ∷ 0x7e ∷ 0x80 ∷ 0 ∷ 3 ∷ 5 ∷ 1 ∷ 0x65 ∷ []) 9 9
    ≡ ok ((5 ∷ 0x7e ∷ 0x80 ∷ 0 ∷ 3 ∷ 0 ∷ 1 ∷ 0x65 ∷ []) ∷ (2 ∷ 0 ∷ 0 ∷ 0 ∷ 0 ∷ []) ∷ []))
    × (salvage_alone 1 1 (5 ∷ 0x7e ∷ 0x80 ∷ 0 ∷ 3 ∷ 2 ∷ 1 ∷ 0x65 ∷ 0 ∷ 1 ∷ 0x65 ∷ []) 9 9
    ≡ ok ((5 ∷ 0x7e ∷ 0x80 ∷ 0 ∷ 3 ∷ 2 ∷ 1 ∷ 0x65 ∷ []) ∷ (1 ∷ 0 ∷ 0 ∷ 0 ∷ 8 ∷ []) ∷ []))
    × (salvage_alone 1 1 (5 ∷ 0x7e ∷ 0x80 ∷ 0 ∷ 3 ∷ 5 ∷ 1 ∷ 0x65 ∷ 0 ∷ 1 ∷ 0x65 ∷ []) 9 10
    ≡ ok ((5 ∷ 0x7e ∷ 0x80 ∷ 0 ∷ 3 ∷ 0 ∷ 1 ∷ 0x65 ∷ []) ∷ (2 ∷ 0 ∷ 0 ∷ 0 ∷ 0 ∷ 1 ∷ 0 ∷ 0 ∷ 0 ∷ 8 ∷ []) ∷ []))
    × (salvage_alone 1 1 (5 ∷ 0x7e ∷ 0x80 ∷ 0 ∷ 3 ∷ 8 ∷ 7 ∷ 0x7f ∷ 0x80 ∷ 0 ∷ 3 ∷ 1 ∷ 0 ∷ 0 ∷ 1 ∷ 0x65 ∷ []) 9 10
    ≡ ok ((5 ∷ 0x7e ∷ 0x80 ∷ 0 ∷ 3 ∷ 0 ∷ 1 ∷ 0x65 ∷ []) ∷ (2 ∷ 0 ∷ 0 ∷ 0 ∷ 0 ∷ 1 ∷ 0 ∷ 0 ∷ 0 ∷ 6 ∷ []) ∷ []))
    × (salvage_alone 0 1 (7 ∷ 0x7e ∷ 0x80 ∷ 0 ∷ 3 ∷ 0 ∷ 1 ∷ 0x65 ∷ []) 0 5 ≡ ok ([] ∷ (1 ∷ 0 ∷ 0 ∷ 0 ∷ 0 ∷ []) ∷ []))
    × (salvage_alone 2 3 (1 ∷ []) 0 0 ≡ refused 4 0)
    × (salvage_alone 1 3 (1 ∷ []) 0 0 ≡ refused 11 0)
    × (salvage_alone 1 1 (1 ∷ 0x65 ∷ 0 ∷ []) 1 5 ≡ refused 29 0)
    × (salvage_alone 1 1 (1 ∷ 0x65 ∷ 0 ∷ []) 2 4 ≡ refused 29 0)
in_bytes = laws.in_bytes
