-- The operands as a set: the machine's shifted ones are sets of one line, and `|` puts the second in.
use Rattle.std.specs.Prelude.{ℕ, ◌<◌, ◌*◌, ◌%◌, ◌^◌, ◌≡◌}
use Rattle.std.proofs.Common.{sym, ◌∙◌, ap, ⊎_elim}
use Rattle.std.specs.Int.Bits.{bit_or}
use Rattle.std.proofs.lemmas.Bool.{ltb-true}
use Rattle.alc.specs.Bits.{put}
use Rattle.alc.specs.Sheet.{operands_below}
use Rattle.alc.proofs.Theorems.Bits.{put_word}
use Rattle.alc.proofs.Theorems.Lists.{and_left, and_right}
use Rattle.plan.specs.Prepared.{operand_set}
use Rattle.plan.proofs.Told.{own-word}
use Rattle.plan.proofs.operand_set.Goals as goal

two-lines : (i j : ℕ) → i < 32 → j < 32 → bit_or (1 * 2 ^ i % 2 ^ 32) (1 * 2 ^ j % 2 ^ 32) ≡ put (put 0 i) j
two-lines i j a b = ap (λ (x : ℕ). bit_or x (1 * 2 ^ j % 2 ^ 32)) (own-word i a) ∙ put_word 32 j (put 0 i) b

pub returns-in-Not : goal.returns-in-Not
returns-in-Not c = own-word c.in-Not.i (ltb-true c.in-Not.i 32 (ap (operands_below 32) (sym c.in-Not.is) ∙ c.requires)) ∙ sym (ap operand_set c.in-Not.is)

pub returns-in-And : goal.returns-in-And
returns-in-And c =
    let i = c.in-And.i in
    let j = c.in-And.j in
    ⊎_elim
    (λ e. let h = ap (operands_below 32) (sym e) ∙ c.requires in
    two-lines i j (ltb-true i 32 (and_left _ _ h)) (ltb-true j 32 (and_right _ _ h)) ∙ sym (ap operand_set e))
    (λ e. let h = ap (operands_below 32) (sym e) ∙ c.requires in
    two-lines i j (ltb-true i 32 (and_left _ _ h)) (ltb-true j 32 (and_right _ _ h)) ∙ sym (ap operand_set e))
    c.in-And.is
