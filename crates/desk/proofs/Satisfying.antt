-- The replies of `satisfy`: each of its ways out keeps alc's promise. What holds of any reply stands first; `causes` uses it too.
use Prim.Native.Nat.{ℕ, suc, ◌-◌, ◌≤◌, ◌<◌}
use mathlib.Core.Path.{◌≡◌, refl, sym, ◌∙◌, ap}
use mathlib.Core.Logic.{⊎_elim}
use mathlib.Core.List.{List, [], ◌++◌}
use lib.ListN.{length, replicate, length-replicate}
use native.Mathlib.Omega.{arith}
use Rattle.alc.specs.Sheet.{Sheet}
use Rattle.alc.specs.Bytes.{Read, refused, taken}
use Rattle.alc.specs.Model as theory
use Rattle.alc.specs.Model.{satisfy_answer}
use Rattle.alc.specs.Replies.{Reply, untouched, finished, cleared, satisfy_read, satisfy_reply}
use Rattle.alc.specs.Promises.{SatisfyPromise}
use Rattle.alc.proofs.Theorems.Answers.{three-only}
use Rattle.alc.proofs.Theorems.Promises.{fits, long, none, finished-cases, zeros-alone, satisfy-kept}
use Rattle.answers.specs.declared.Answer.{Answer}
use Rattle.answers.specs.declared.Answer.TheVariants.{Model, LongModel, Unsatisfiable, OutOfSpace}
use Rattle.answers.specs.Answers.{answer_number, answer_value, reply_of, Decided}
use Rattle.desk.specs.Desk.{lent_read}
use Rattle.desk.proofs.Opens.{checked-read}
use Rattle.std.proofs.lemmas.List.{drop-replicate}

-- ---- of any reply
module _ (rs ms os : List ℕ) where
  module _ (r : Answer) (out : List ℕ) where
    abbrev pub reply : Reply
    reply = reply_of r (replicate (length rs) 0) (replicate (length ms) 0) out

    -- an answer that leaves words in its buffer and zeros behind them
    pub ends : (x : Answer) (ws : List ℕ) → (r ≡ x) × (out ≡ ws ++ replicate (length os - length ws) 0) → reply ≡ cleared rs ms os (answer_number x) (answer_value x) ws
    ends x ws (e, f) = λ i. reply_of (e i) (replicate (length rs) 0) (replicate (length ms) 0) (f i)

    -- one that leaves it cleared
    pub alone : (x : Answer) → (r ≡ x) × (out ≡ replicate (length os) 0) → reply ≡ cleared rs ms os (answer_number x) (answer_value x) []
    alone x (e, f) = ends x [] (e, f ∙ sym (zeros-alone rs ms os 0 0))

    -- one of this number that carries nothing
    pub bare : (x : Answer) {k : ℕ} → k ≡ answer_number x → answer_value x ≡ 0 → (r ≡ x) × (out ≡ replicate (length os) 0) → reply ≡ cleared rs ms os k 0 []
    bare x e z h = alone x h ∙ λ i. cleared rs ms os (sym e i) (z i) []

    -- a result where it fits its buffer, where it does not, and none
    pub finished-reply : (n : ℕ) (a : theory.Finding) → (a.number ≡ n → length a.out ≤ length os → reply ≡ cleared rs ms os n (length a.out) a.out)
        → (a.number ≡ n → length os < length a.out → reply ≡ cleared rs ms os (suc n) (length a.out) [])
        → ((a.number ≡ n → ⊥) → reply ≡ cleared rs ms os a.number 0 []) → reply ≡ finished rs ms os n a
    finished-reply n a x y z = elim (finished-cases rs ms os n a) [ fits e f q ↦ x e f ∙ sym q | long e f q ↦ y e f ∙ sym q | none e q ↦ z e ∙ sym q ]

-- the decision over a cleared model buffer, with records and marks cleared behind it
decided-reply : (rs ms os : List ℕ) (s : Sheet) (r : Answer) (out : List ℕ)
    → Decided (satisfy_answer s (length rs)) (replicate (length os) 0) r out → reply rs ms os r out ≡ finished rs ms os 10 (satisfy_answer s (length rs))
decided-reply rs ms os s r out d =
    let a = satisfy_answer s (length rs) in
    let wide : length (replicate {A = ℕ} (length os) 0) ≡ length os = length-replicate (length os) 0 in
    finished-reply rs ms os r out 10 a
    (λ e f. ends rs ms os r out (Model (length a.out)) a.out (rw (← drop-replicate {X = ℕ} (length a.out) (length os) 0) ((d.ten e).fits (omega arith))))
    (λ e f. alone rs ms os r out (LongModel (length a.out)) ((d.ten e).long (omega arith)))
    (λ e. ⊎_elim
    (λ h. ⊎_elim (λ f. absurd (e f)) (λ f. bare rs ms os r out Unsatisfiable f refl (d.twelve f)) h)
    (λ f. bare rs ms os r out OutOfSpace f refl (d.thirteen f))
    (three-only s (length rs)))

-- ---- both ways to a reply keep the promise
module _ (bs rs ms os : List ℕ) where
  satisfy-read : {x : Read Sheet} → x ≡ lent_read bs (length rs) (length ms) → satisfy_read rs ms os x ≡ satisfy_reply bs rs ms os
  unfolding satisfy_reply
  satisfy-read e = ap (satisfy_read rs ms os) e ∙ checked-read bs rs ms os (satisfy_read rs ms os) (λ n p. refl)

  pub kept-refused : {n p : ℕ} → refused n p ≡ lent_read bs (length rs) (length ms) → SatisfyPromise bs rs ms os (untouched rs ms os n p)
  kept-refused e = satisfy-kept bs rs ms os (satisfy-read e)

  -- a sheet decided over a cleared model buffer, then records and marks cleared
  pub kept-decided : {s : Sheet} {p : ℕ} → taken s p ≡ lent_read bs (length rs) (length ms)
      → {r : Answer} {before out rs' ms' : List ℕ} → before ≡ replicate (length os) 0 → Decided (satisfy_answer s (length rs)) before r out
      → rs' ≡ replicate (length rs) 0 → ms' ≡ replicate (length ms) 0 → SatisfyPromise bs rs ms os (reply_of r rs' ms' out)
  kept-decided {s} e {r} {out = out} blank d zr zm =
      let decided : Decided (satisfy_answer s (length rs)) (replicate (length os) 0) r out = rw (← blank) d in
      satisfy-kept bs rs ms os ((λ i. reply_of r (zr i) (zm i) out) ∙ decided-reply rs ms os s r out decided ∙ satisfy-read e)
