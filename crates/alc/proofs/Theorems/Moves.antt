-- The laws of adding marks, of joint labels, and of what is in the list of moves.
use Rattle.std.specs.Prelude.{ℕ, suc, ◌<◌, true, false, ◌≡◌, ◌⊎◌, List, [], ◌∷◌, map, length, ltb}
use Rattle.std.proofs.Common.{sym, inl, inr, get_or-set_same, get_or-set_other, ltb-true, ltb-false, arith}
use Rattle.std.proofs.Math.Path.{subst}
use Rattle.std.proofs.Math.Logic.{⊎_elim}
use mathlib.Core.List.Memᴰ
use Rattle.std.proofs.Math.Seq.{set_out}
use Rattle.alc.specs.Lists.{◌∈◌, up_to, each}
use Rattle.alc.specs.Sheet.{count, RoleAssertion, Sheet}
use Rattle.alc.specs.Label.{add_all, line_of, add, blank, Label, holds, Mark, has, fails}
use Rattle.alc.specs.Settle.{moves, Move, push, label, moves_of, own, Joint, mark_at, rule}
use Rattle.alc.proofs.Theorems.Lists.{cases, each-elim, same?, here, there, get_or-in, each-intro, up_to-intro, up_to-elim}
use Rattle.alc.proofs.Theorems.Label.{has-add, has-add-cases, has-add-keeps}

-- ---- adding several marks
pub add_all-keeps : (l : Label) (ms : List Mark) (m : Mark) → has l m ≡ true → has (add_all l ms) m ≡ true
add_all-keeps l [] m e = e
add_all-keeps l (n ∷ ns) m e = add_all-keeps (add l n) ns m (has-add-keeps l n m e)

pub add_all-has : (l : Label) (ms : List Mark) (m : Mark) → m ∈ ms → has (add_all l ms) m ≡ true
add_all-has l [] m h = absurd (Memᴰ.not-nil h)
add_all-has l (n ∷ ns) m h =
    ⊎_elim (λ q. add_all-keeps (add l n) ns m (rw q (has-add l n))) (λ k. add_all-has (add l n) ns m k) (Memᴰ.cases_cons h)

pub add_all-cases : (l : Label) (ms : List Mark) (m : Mark) → has (add_all l ms) m ≡ true → (m ∈ ms) ⊎ (has l m ≡ true)
add_all-cases l [] m e = inr e
add_all-cases l (n ∷ ns) m e =
    ⊎_elim (λ k. inl (there k)) (λ k. ⊎_elim (λ q. inl (Memᴰ.head q)) (λ q. inr q) (has-add-cases l n m k)) (add_all-cases (add l n) ns m e)

-- ---- the labels of a joint label
pub label-of : (J : Joint) (l : Label) → l ∈ J → (a : ℕ) × (a < length J) × (label J a ≡ l)
label-of [] l h = absurd (Memᴰ.not-nil h)
label-of (k ∷ J) l h =
    ⊎_elim
    (λ q. (0, omega arith, sym q))
    (λ m. let r = label-of J l m in (suc r.0, omega (arith, r.1), r.2))
    (Memᴰ.cases_cons h)

pub label-in : (J : Joint) (a : ℕ) → a < length J → label J a ∈ J
label-in J a h = get_or-in J a blank h

pub label-mark : (J : Joint) (a : ℕ) (ms : List Mark) → a < length J → label (mark_at J a ms) a ≡ add_all (label J a) ms
label-mark J a ms h = get_or-set_same J a (add_all (label J a) ms) blank h

pub label-mark-other : (J : Joint) (a b : ℕ) (ms : List Mark) → (b ≡ a → ⊥) → label (mark_at J a ms) b ≡ label J b
label-mark-other J a b ms h = get_or-set_other J a b (add_all (label J a) ms) blank h

pub mark-cases : (J : Joint) (a : ℕ) (ms : List Mark) (b : ℕ) (m : Mark) → has (label (mark_at J a ms) b) m ≡ true → ((b ≡ a) × (m ∈ ms))
    ⊎ (has (label J b) m ≡ true)
mark-cases J a ms b m e = ⊎_elim at_a elsewhere (same? b a)
  where
    elsewhere : (b ≡ a → ⊥) → ((b ≡ a) × (m ∈ ms)) ⊎ (has (label J b) m ≡ true)
    elsewhere h = inr (rw (label-mark-other J a b ms h) at e)

    at_a : b ≡ a → ((b ≡ a) × (m ∈ ms)) ⊎ (has (label J b) m ≡ true)
    at_a q = ⊎_elim inside outside (cases (ltb a (length J)))
      where
        e' : has (label (mark_at J a ms) a) m ≡ true
        e' = rw q at e

        inside : ltb a (length J) ≡ true → ((b ≡ a) × (m ∈ ms)) ⊎ (has (label J b) m ≡ true)
        inside t =
            ⊎_elim (λ k. inl (q, k)) (λ k. inr (rw q k))
            (add_all-cases (label J a) ms m (rw (label-mark J a ms (ltb-true a (length J) t)) at e'))

        outside : ltb a (length J) ≡ false → ((b ≡ a) × (m ∈ ms)) ⊎ (has (label J b) m ≡ true)
        outside t = inr (rw q (rw (set_out J a (add_all (label J a) ms) (ltb-false a (length J) t)) at e'))

-- ---- what is in the list of moves
abbrev pub Listed : Sheet → List RoleAssertion → ℕ → Move → Type 0
Listed s es k (own a m) = (a < k) × (line_of m < count s)
Listed s es k (rule a r) = (a < k) × (r ∈ s.rules)
Listed s es k (push e) = e ∈ es

module _ (s : Sheet) (es : List RoleAssertion) (k : ℕ) where
  pub moves-elim : (m : Move) → m ∈ moves s es k → Listed s es k m
  unfolding moves
  moves-elim m h =
      ⊎_elim
      (λ h₁. let (a, a_in, h₂) = each-elim (moves_of s) (up_to k) h₁ in
      let a< : a < k = up_to-elim k a a_in in
      ⊎_elim
      (λ h₃. let (i, i-in, h₄) = each-elim (λ i. own a (holds i) ∷ own a (fails i) ∷ []) (up_to (count s)) h₃ in
      let i< : i < count s = up_to-elim (count s) i i-in in
      ⊎_elim
      (λ q. subst (Listed s es k) (sym q) (a<, i<))
      (λ h₅. ⊎_elim (λ q. subst (Listed s es k) (sym q) (a<, i<)) (λ h₆. absurd (Memᴰ.not-nil h₆)) (Memᴰ.cases_cons h₅))
      (Memᴰ.cases_cons h₄))
      (λ h₃. let (r, r-in, q) = Memᴰ.of_map (rule a) s.rules h₃ in subst (Listed s es k) q (a<, r-in))
      (Memᴰ.append_cases (each (λ i. own a (holds i) ∷ own a (fails i) ∷ []) (up_to (count s))) h₂))
      (λ h₁. let (e, e-in, q) = Memᴰ.of_map push es h₁ in subst (Listed s es k) q e-in)
      (Memᴰ.append_cases (each (moves_of s) (up_to k)) h)

  of_one : (a : ℕ) (m : Move) → a < k → m ∈ moves_of s a → m ∈ moves s es k
  unfolding moves
  of_one a m h q = Memᴰ.append_left (map push es) (each-intro (moves_of s) (up_to k) (up_to-intro k a h) q)

  own_in : (a i : ℕ) (m : Move) → a < k → i < count s → m ∈ (own a (holds i) ∷ own a (fails i) ∷ []) → m ∈ moves s es k
  own_in a i m h g q =
      of_one a m h
      (Memᴰ.append_left (map (rule a) s.rules)
      (each-intro (λ i. own a (holds i) ∷ own a (fails i) ∷ []) (up_to (count s)) (up_to-intro (count s) i g) q))

  pub moves-intro : (m : Move) → Listed s es k m → m ∈ moves s es k
  unfolding moves
  moves-intro (own a (holds i)) h = own_in a i (own a (holds i)) h.0 h.1 here
  moves-intro (own a (fails i)) h = own_in a i (own a (fails i)) h.0 h.1 (there here)
  moves-intro (rule a r) h =
      of_one a (rule a r) h.0
      (Memᴰ.append_right (each (λ i. own a (holds i) ∷ own a (fails i) ∷ []) (up_to (count s))) (Memᴰ.map (rule a) h.1))
  moves-intro (push e) h = Memᴰ.append_right (each (moves_of s) (up_to k)) (Memᴰ.map push h)
