-- The list that the buffer of a query ends as.
use Rattle.std.specs.Prelude.{ℕ, ◌-◌, ◌≤◌, ◌≡◌, List, ◌++◌, length, drop, replicate}
use Rattle.std.proofs.Common.{◌∙◌, ap, take_all, arith}
use Rattle.std.proofs.lemmas.List.{drop-replicate, length-replicate}
use Rattle.alc.specs.Sheet.{Sheet}
use Rattle.alc.specs.Causes.{slots as cause_slots, causes_answer}
use Rattle.answers.specs.declared.Answer.TheVariants.{Causes}
use Rattle.sets.specs.Sets.{laid_over}
use Rattle.answers.specs.Answers.{Queried}

-- a slot for each cause, and zeros in the rest of a list that was cleared
pub listed : (s : Sheet) (port class room slots n : ℕ) (before after : List ℕ) → before ≡ replicate slots 0
    → (causes_answer s port class room ≡ record { number = 14; out = cause_slots s port class }) × (n ≡ length (cause_slots s port class))
    × (after ≡ laid_over (cause_slots s port class) before)
    → length after ≡ length before → n ≤ length after → Queried (causes_answer s port class room) slots (Causes n) after
listed s port class room slots n before after blank (answer, many, laid) same h =
    let xs : List ℕ = cause_slots s port class in
    let wide : length before ≡ slots = ap length blank ∙ length-replicate slots 0 in
    let behind : drop (length xs) before ≡ replicate (slots - length xs) 0 = ap (drop (length xs)) blank ∙ drop-replicate (length xs) slots 0 in
    rw answer (record {
      fits = λ f g. (ap Causes many, laid ∙ λ i. take_all (length before) xs (omega arith) i ++ behind i);
      long = λ f g. absurd (omega arith);
      thirteen = λ f. absurd (omega arith);
    })
