-- By whether the word is a -.
use Rattle.std.proofs.Common.{sym, ◌∙◌, ap, subst, List, ℕ, Some}
use Rattle.std.specs.Str.{bytes_eq}
use Rattle.lines.specs.Words.{bytes_said, Laid}
use Rattle.lines.proofs.Spelled.{said-dash, said-digits}
use Rattle.lines.proofs.words.bytes.Goals as goal

pub returns-then-eq : goal.returns-then-eq
returns-then-eq c =
    subst (λ (w : List ℕ). Laid (bytes_said w) c.args.to.now c.args.to.now (Some 0)) c.word-word.ensures
    (said-dash _ _ (ap (bytes_eq c.word-word.result.now) (sym c.as_slice.ensures) ∙ sym c.eq.ensures ∙ c.if-eq.true))

pub returns : goal.returns
returns c =
    subst (λ (w : List ℕ). Laid (bytes_said w) c.args.to.now c.lay.new.to c.lay.result) c.word-word.ensures
    (said-digits _ _ _ _ (ap (bytes_eq c.word-word.result.now) (sym c.as_slice.ensures) ∙ sym c.eq.ensures ∙ c.if-eq.false) c.lay.ensures)
