-- What the tally counts. Assumes nothing.
--
--   kept_count      as many outcomes pass a test as samples with such an outcome
--   counts          each number of the tally, and their sum
use Prim.Native.Nat.{ℕ}
use mathlib.Core.Path.{◌≡◌, ap, ◌∙◌}
use mathlib.Core.Bool.{Bool}
use mathlib.Core.List.{List, map}
use lib.ListN.{length, length-map}
use Rattle.words.specs.Lists.{keep, upto}
use Rattle.words.proofs.Joined.{map_keep}
use Rattle.words.proofs.Rows.{upto_length}
use Rattle.bundles.specs.Recordings.{Recording, sample_count}
use Rattle.tally.specs.Tallies.{is_passed, is_empty, is_refused, tallied}
use Rattle.tally.proofs.Laws.{tallied_sum}
use Rattle.audit_rules.specs.Auditing.{outcome_of, tally}
use Rattle.audit_rules.specs.Rules.{Counts}

pub kept_count : {A : Type 0} (t : A → Bool) (f : ℕ → A) (ns : List ℕ) → length (keep t (map f ns)) ≡ length (keep (λ n. t (f n)) ns)
kept_count t f ns = ap length (map_keep t f ns) ∙ length-map (keep (λ n. t (f n)) ns) f

pub counts : (r : Recording) → Counts r (tally r)
unfolding tally tallied
counts r =
    let ns = upto (sample_count r.layout) in
    record {
      passed = kept_count is_passed (outcome_of r) ns;
      empty = kept_count is_empty (outcome_of r) ns;
      refused = kept_count is_refused (outcome_of r) ns;
      all = tallied_sum (map (outcome_of r) ns) ∙ length-map ns (outcome_of r) ∙ upto_length (sample_count r.layout);
    }
