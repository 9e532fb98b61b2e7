-- What `line_of` answers.
--
--   line_there out n          line n; nothing where it is not there whole
--   line_from m p k size      what a line with the refusal m, the place p and k units says of a sample of so many bytes
--   line_says s size          what the line s says of it
use Rattle.std.specs.Prelude.{ℕ, ◌+◌, ◌*◌, List, [], length}
use Rattle.words.specs.Tests.{◌<?◌, ◌≡?◌, pick}
use Rattle.words.specs.RefusalNumbers.{sample_refusals}
use Rattle.words.specs.Lists.{has}
use Rattle.words.specs.Bytes.{big}
use Rattle.numbers.specs.Places.{place_size}
use Rattle.audit_rules.specs.Auditing.{refusal_size, units_size, line_size}
use Rattle.audit_rules.specs.Rules.{line_at}
use Rattle.audit_lines.specs.declared.Line as line
use Rattle.audit_lines.specs.declared.Line.TheVariants.{Passed, Empty, Refused, NoLine}

unfoldable pub line_there : List ℕ → ℕ → List ℕ
line_there out n = pick (n ≡? 0) [] (pick (length out <? line_size * n) [] (line_at out n))

-- No audit writes: a place without a refusal; units of a sample without bytes.
unfoldable pub good_line : ℕ → ℕ → ℕ → line.Line
good_line p k size = pick (p ≡? 0) (pick (size ≡? 0) (pick (k ≡? 0) Empty NoLine) (Passed k)) NoLine

-- No audit writes: another refusal than 14 to 28; a place past the sample; units of a refused sample.
unfoldable pub refused_line : ℕ → ℕ → ℕ → ℕ → line.Line
refused_line m p k size =
    pick (has m sample_refusals)
    (pick (p <? size) (pick (k ≡? 0) (Refused (record { number = m; place = record { 0 = p } })) NoLine) NoLine) NoLine

unfoldable pub line_from : ℕ → ℕ → ℕ → ℕ → line.Line
line_from m p k size = pick (m ≡? 0) (good_line p k size) (refused_line m p k size)

unfoldable pub line_says : List ℕ → ℕ → line.Line
line_says s size =
    pick (length s ≡? 0) NoLine
    (line_from (big s 0 refusal_size) (big s refusal_size place_size) (big s (refusal_size + place_size) units_size) size)
