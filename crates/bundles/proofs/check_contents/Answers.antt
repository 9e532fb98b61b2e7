-- Section three's refusal, or its sum handed on to section four, which starts after the entries. Assumes nothing.
use native.Mathlib.Omega.{arith}
use mathlib.Core.Path.{◌≡◌}
use Prim.Native.Nat.{◌+◌, ◌≤◌}
use lib.ListN.{length}
use Rattle.bundles.specs.Limits.{sample_most}
use Rattle.bundles.specs.Fields.{sample_count_size}
use Rattle.bundles.specs.Samples.{entry_count, samples_verdict, lengths, byte_count_at}
use Rattle.bundles.specs.Bundles.{bytes_verdict}
use Rattle.words.specs.Lists.{sum}
use Rattle.words.specs.Refusals.{ok}
use Rattle.bundles.proofs.Sections.{samples_good}
use Rattle.bundles.proofs.Checking.{ended}
use Rattle.bundles.proofs.check_contents.Goals as goal
use Rattle.bundles.proofs.check_contents.Goals.{After-number-n, In_ok-total}

-- section three is accepted, and its sum
total-is : (c : In_ok-total) → (samples_verdict c.args.b.now ≡ ok tt) × (c.in_ok-total.total ≡ sum (lengths c.args.b.now))
total-is c = ended (samples_verdict c.args.b.now) (rw c.in_ok-total.was at c.check_samples.ensures)

few : (c : In_ok-total) → (c.args.at + sample_count_size ≤ length c.args.b.now) × (entry_count c.args.b.now ≤ sample_most)
few c = let s = (samples_good c.args.b.now (total-is c).0).count in rw c.requires (s.inside, s.few)

counted : (c : After-number-n) → c.number-n.result ≡ entry_count c.args.b.now
counted c = rw (← c.requires) c.number-n.ensures

pub overflow_add-at : goal.overflow_add-at
overflow_add-at c = let h = few (goal.at.overflow_add-at c).In_ok-total in omega arith

pub overflow_mul-n : goal.overflow_mul-n
overflow_mul-n c = let h = few (goal.at.overflow_mul-n c).In_ok-total in let e = counted (goal.at.overflow_mul-n c).After-number-n in omega arith

pub overflow_add-at-2 : goal.overflow_add-at-2
overflow_add-at-2 c = let h = few (goal.at.overflow_add-at-2 c).In_ok-total in let e = counted (goal.at.overflow_add-at-2 c).After-number-n in omega arith

pub returns : goal.returns
unfolding bytes_verdict byte_count_at
returns c = let t = total-is (goal.at.returns c).In_ok-total in
    rw (t.0, ← t.1, ← counted (goal.at.returns c).After-number-n, ← c.requires) c.check_bytes.ensures
