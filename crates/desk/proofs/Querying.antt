-- The replies of `causes`: each of its ways out keeps alc's promise.
use Prim.Native.Nat.{ℕ}
use mathlib.Core.Bool.{true, false, ◌&&◌}
use mathlib.Core.Path.{◌≡◌, refl, ◌∙◌, ap}
use mathlib.Core.Logic.{⊎_elim}
use mathlib.Core.List.{List}
use lib.ListN.{length, replicate}
use Rattle.std.specs.Prelude.{ltb}
use Rattle.std.proofs.lemmas.Bool.{ltb-true, lt-ltb}
use Rattle.alc.specs.Sheet.{Sheet, count}
use Rattle.alc.specs.Bytes.{Read, refused, taken}
use Rattle.alc.specs.Causes.{causes_answer}
use Rattle.alc.specs.Replies.{untouched, finished, causes_read, causes_reply}
use Rattle.alc.specs.Promises.{CausesPromise}
use Rattle.alc.proofs.Theorems.Lists.{cases, and_left, and_right, and_both}
use Rattle.alc.proofs.Theorems.Answers.{two-only}
use Rattle.alc.proofs.Theorems.Promises.{causes-kept}
use Rattle.answers.specs.declared.Answer.{Answer}
use Rattle.answers.specs.declared.Answer.TheVariants.{OutOfSpace, Causes, LongList}
use Rattle.answers.specs.Answers.{reply_of, Queried}
use Rattle.desk.specs.Desk.{lent_read}
use Rattle.sets.specs.Sets.{OnSheet}
use Rattle.desk.proofs.Opens.{checked-read}
use Rattle.desk.proofs.Satisfying.{reply, ends, alone, bare, finished-reply}

-- ---- port and class on the sheet, as alc tests it
module _ (s : Sheet) (port class : ℕ) where
  on-sheet : OnSheet s port class → (ltb port s.individuals && ltb class (count s)) ≡ true
  on-sheet (a, b) = and_both (ltb port s.individuals) (ltb class (count s)) (lt-ltb port s.individuals a) (lt-ltb class (count s) b)

  off-sheet : (OnSheet s port class → ⊥) → (ltb port s.individuals && ltb class (count s)) ≡ false
  off-sheet off =
      ⊎_elim
      (λ (e : (ltb port s.individuals && ltb class (count s)) ≡ true). absurd (off (
        ltb-true port s.individuals (and_left (ltb port s.individuals) (ltb class (count s)) e),
        ltb-true class (count s) (and_right (ltb port s.individuals) (ltb class (count s)) e),
      )))
      (λ e. e)
      (cases (ltb port s.individuals && ltb class (count s)))

-- the answer over a cleared list buffer, with records and marks cleared behind it
queried-reply : (rs ms os : List ℕ) (s : Sheet) (port class : ℕ) (r : Answer) (out : List ℕ)
    → Queried (causes_answer s port class (length rs)) (length os) r out → reply rs ms os r out ≡ finished rs ms os 14 (causes_answer s port class (length rs))
queried-reply rs ms os s port class r out q =
    let a = causes_answer s port class (length rs) in
    finished-reply rs ms os r out 14 a
    (λ e f. ends rs ms os r out (Causes (length a.out)) a.out (q.fits e f))
    (λ e f. alone rs ms os r out (LongList (length a.out)) (q.long e f))
    (λ e. ⊎_elim (λ f. bare rs ms os r out OutOfSpace f refl (q.thirteen f)) (λ f. absurd (e f)) (two-only s port class (length rs)))

-- ---- the three ways to a reply keep the promise
module _ (bs : List ℕ) (port class : ℕ) (rs ms os : List ℕ) where
  causes-read : {x : Read Sheet} → x ≡ lent_read bs (length rs) (length ms) → causes_read rs ms os port class x ≡ causes_reply bs port class rs ms os
  unfolding causes_reply
  causes-read e = ap (causes_read rs ms os port class) e ∙ checked-read bs rs ms os (causes_read rs ms os port class) (λ n p. refl)

  pub kept-refused : {n p : ℕ} → refused n p ≡ lent_read bs (length rs) (length ms) → CausesPromise bs port class rs ms os (untouched rs ms os n p)
  kept-refused e = causes-kept bs port class rs ms os (causes-read e)

  module _ {s : Sheet} {p : ℕ} (e : taken s p ≡ lent_read bs (length rs) (length ms)) where
    -- port or class is not on the sheet
    pub kept-off-sheet : (OnSheet s port class → ⊥) → CausesPromise bs port class rs ms os (untouched rs ms os 8 0)
    kept-off-sheet off =
        let eight : untouched rs ms os 8 0 ≡ causes_read rs ms os port class (taken s p) = rw (off-sheet s port class off, causes_read) in
        causes-kept bs port class rs ms os (eight ∙ causes-read e)

    -- a sheet queried over a cleared list buffer, then records and marks cleared
    pub kept-queried : OnSheet s port class → {r : Answer} {out rs' ms' : List ℕ} → Queried (causes_answer s port class (length rs)) (length os) r out
        → rs' ≡ replicate (length rs) 0 → ms' ≡ replicate (length ms) 0 → CausesPromise bs port class rs ms os (reply_of r rs' ms' out)
    kept-queried on {r} {out} q zr zm =
        let answered : finished rs ms os 14 (causes_answer s port class (length rs)) ≡ causes_read rs ms os port class (taken s p) = rw (on-sheet s port class on, causes_read) in
        causes-kept bs port class rs ms os ((λ i. reply_of r (zr i) (zm i) out) ∙ queried-reply rs ms os s port class r out q ∙ answered ∙ causes-read e)
