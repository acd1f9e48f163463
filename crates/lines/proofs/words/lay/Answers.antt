-- The invariant: what was said of the digits so far stands in the buffer (`Laying`).
use Rattle.std.proofs.Common.{sym, ◌∙◌, subst, Option, ℕ, arith}
use Rattle.lines.specs.Words.{paired, Laid}
use Rattle.lines.proofs.Spelled.{laying-turn, laying-ends, not-laid, laid-odd, laid-long}
use Rattle.lines.proofs.words.lay.Goals.{then-word-eq1-via-then-word-eq1, then-word-eq1-via-else-word-eq1+then-n-to}
use Rattle.lines.proofs.words.lay.Goals as goal

pub returns-then-word-eq1 : goal.returns-then-word-eq1
returns-then-word-eq1 c =
    elim c.then-word-eq1.branch [
      | then-word-eq1-via-then-word-eq1 w ↦ laid-odd _ _ _ w.if-word-eq1.true
      | then-word-eq1-via-else-word-eq1+then-n-to w ↦ laid-long _ _ _ w.if-n-to.true
    ]

pub returns-in_err-to : goal.returns-in_err-to
returns-in_err-to c =
    subst (λ (r : Option ℕ). Laid (paired c.args.word.now) c.args.to.now c.loop-k.to r) (sym c.from_residual.ensures)
    (not-laid _ _ c.loop-k.k _ c.loop-k.invariant (omega arith) (sym c.pair.ensures ∙ c.in_err-to.was))

pub loop-k-preserved : goal.loop-k-preserved
loop-k-preserved c =
    laying-turn _ _ c.loop-k.k _ c.loop-k.invariant (omega arith) _ (sym c.pair.ensures ∙ c.in_ok-to.was) (omega arith)

pub returns : goal.returns
returns c = laying-ends _ _ c.loop-k.k _ _ c.loop-k.invariant (omega arith) (omega arith)
