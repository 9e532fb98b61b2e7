-- Samples first to last of a recording, resolved one after the other (02, [6]). No rule of a sample stands here: what each adds is what
-- `resolve` gives for it.
--
--   between first last            the numbers first, first + 1, .. last
--   range_fault count first last  30
--   on_range r first last a       30 for the numbers first and last, else a
--   given a                       the bytes of an answer, none of a refusal
--   joined r ns                   what resolving gives for each of the samples ns, joined
use Rattle.std.specs.Prelude.{ℕ, List, [], ◌||◌}
use Rattle.words.specs.Tests.{◌<?◌, ◌≤?◌, ◌≡?◌}
use Rattle.words.specs.RefusalNumbers.{no_such_number}
use Rattle.words.specs.Refusals.{◌if◌, Answer, refused, ok, ◌and_then◌, ◌at_place◌}
use Rattle.words.specs.Lists.{keep, each, upto}
use Rattle.bundles.specs.Recordings.{Recording, sample_count}
use Rattle.resolution_rules.specs.Calls.{resolve}

unfoldable pub between : ℕ → ℕ → List ℕ
between first last = keep (λ n. first ≤? n) (upto last)

-- 30: first is 0, last is past the last sample, or first exceeds last
unfoldable pub range_fault : ℕ → ℕ → ℕ → ℕ
range_fault count first last = no_such_number if (first ≡? 0 || count <? last || last <? first)

abbrev pub on_range : {A : Type 0} → Recording → ℕ → ℕ → Answer A → Answer A
on_range r first last a = range_fault (sample_count r.layout) first last at_place 0 and_then a

abbrev pub given : Answer (List ℕ) → List ℕ
given (refused n p) = []
given (ok out) = out

-- a refused sample adds no bytes
unfoldable pub joined : Recording → List ℕ → List ℕ
joined r ns = each (λ n. given (resolve r n)) ns
