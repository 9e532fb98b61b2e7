-- `program_input::limit::is_too_big`: what `too_big` answers is no where n is below the limit, and else goes by the byte that was tried. Assumes nothing.
use Rattle.std.proofs.Common.{rules, arith, ◌≡◌, Ok, IfSome, length, ap, subst, sym, ◌∙◌}
use Rattle.program_input.specs.Input.{too_big}
use Rattle.program_input.proofs.InputLimit.{small_fits, one_tells, none_matters, known_answer}
use Rattle.program_input.proofs.limit.is_too_big.Goals as goal
use Rattle.program_input.proofs.limit.is_too_big.Goals.{then-n-ge-MOST+in_ok-more, else-n-ge-MOST}

pub returns-clause-small : goal.returns-clause-small
returns-clause-small g c = λ less. ap Ok (c.too_big.ensures ∙ small_fits _ _ less)

pub returns-clause-known : goal.returns-clause-known
returns-clause-known g c =
    let a = c.args in
    known_answer _ a.n c.if-n-ge-MOST.more _ c.too_big.ensures (elim c.if-n-ge-MOST.branch [
      | then-n-ge-MOST+in_ok-more w ↦
          let read = w.in_ok-more.ensures in
          subst (λ k. IfSome (g.R.Read.remaining a.reader.now) (λ s. too_big a.n k ≡ too_big a.n (length s))) (sym w.more-is) (one_tells _ _ a.n w.in_ok-more.more w.read_full.new.buffer (search rules) (search rules) read.bytes read.end)
      | else-n-ge-MOST w ↦ none_matters _ a.n c.if-n-ge-MOST.more (omega arith)
    ])
