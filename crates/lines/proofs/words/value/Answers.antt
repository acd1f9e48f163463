-- The invariant: the digits from here on, behind the number so far, say what the whole word says.
use Rattle.std.proofs.Common.{sym, ◌∙◌, arith}
use Rattle.lines.proofs.Spelled.{digits-turn, digits-stop, digits-end, number-some, number-none}
use Rattle.lines.proofs.words.value.Goals as goal

pub returns-then-is_empty : goal.returns-then-is_empty
returns-then-is_empty c = number-none _ (sym c.is_empty.ensures ∙ c.if-is_empty.true)

pub returns-in_err-n : goal.returns-in_err-n
returns-in_err-n c =
    number-some _ _ (sym c.is_empty.ensures ∙ c.if-is_empty.false)
    (c.from_residual.ensures ∙ digits-stop _ c.loop-b.n c.loop-b.b-index _ c.loop-b.invariant (omega arith) (sym c.with_digit.ensures ∙ c.in_err-n.was))

pub loop-b-preserved : goal.loop-b-preserved
loop-b-preserved c =
    digits-turn _ c.loop-b.n c.loop-b.b-index _ c.loop-b.invariant c.in_ok-n.n (omega arith) (sym c.with_digit.ensures ∙ c.in_ok-n.was)

pub returns : goal.returns
returns c =
    number-some _ _ (sym c.is_empty.ensures ∙ c.if-is_empty.false)
    (digits-end _ c.loop-b.n c.loop-b.b-index _ c.loop-b.invariant (omega arith))
