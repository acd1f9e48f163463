-- No model is lost: where all marks of a joint label are true in an interpretation that meets the rules, they do not clash,
-- and all marks of some settled label that it leads to are true there too.
use Rattle.std.specs.Prelude.{ℕ, zero, suc, ◌*◌, ◌<◌, Bool, false, not as flip, ◌&&◌, ◌||◌, ◌≡◌, refl, List, [], ◌∷◌, eqb}
use Rattle.std.proofs.Math.Bool.{true}
use Rattle.std.proofs.lemmas.Bool.{false≢true, not-true, not-false}
use Rattle.std.proofs.Common.{sym, ◌∙◌, ap, subst, length-set, eqb-true, arith}
use Rattle.std.proofs.Math.Logic.{⊎_elim}
use mathlib.Core.List.Memᴰ
use Rattle.std.proofs.Math.ListN.{length}
use Rattle.alc.specs.Lists.{all, ◌∈◌, any, up_to}
use Rattle.alc.specs.Sheet.{some, or, RoleAssertion, and, line, count, Line, only, negation, name, Sheet, top, bottom}
use Rattle.alc.specs.Meaning.{meets_rules, value, truth, Interpretation}
use Rattle.alc.specs.Label.{TrueAt, when_fails, every, when_holds, clashes, pushed, Mark, fails, handed, line_of, is_name, demand, same_name, Demand}
use Rattle.alc.specs.Label.{mark_true, either, is_top, Label, holds, has, is_bottom, clashes_at}
use Rattle.alc.specs.Settle.{who, rule, label, settle, follow, Move, meet, push, own, closes, settle_within, Joint, wanted, mark_at}
use Rattle.alc.proofs.Theorems.Lists.{not-and, each-elim, all-elim, one-true, up_to-intro, and_left, and_right, clashing, implies, here, both_true}
use Rattle.alc.proofs.Theorems.Lists.{up_to-elim, all-intro, or_cases, not-or, cond-elim, not-and-left, any-elim, any_none}
use Rattle.alc.proofs.Theorems.Sheet.{WellFormed}
use Rattle.alc.proofs.Theorems.Meaning.{rules-elim, truth-law}
use Rattle.alc.proofs.Theorems.Moves.{Listed, label-of, mark-cases}
use Rattle.alc.proofs.Theorems.Steps.{view, is-clashed, unset_all-bound, is-step, unset_all, is-settled}
use Rattle.alc.proofs.Theorems.Settle.{step_less, Less, Fits}

abbrev pub demand_true : Sheet → Interpretation → Demand → ℕ → Bool
demand_true s I (every ms) x = all (λ m. mark_true s I m x) ms
demand_true s I (either m n) x = mark_true s I m x || mark_true s I n x

abbrev pub AllTrue : Sheet → Interpretation → (ℕ → ℕ) → Joint → Type 0
AllTrue s I p J = (a : ℕ) → TrueAt s I (label J a) (p a)

-- ---- a label whose marks are all true does not clash
bottom-false : (I : Interpretation) (v : ℕ → ℕ → Bool) (c : Line) (x : ℕ) → is_bottom c ≡ true → value I v c x ≡ false
bottom-false I v top x e = absurd (false≢true e)
bottom-false I v bottom x e = refl
bottom-false I v (name a) x e = absurd (false≢true e)
bottom-false I v (negation i) x e = absurd (false≢true e)
bottom-false I v (and i j) x e = absurd (false≢true e)
bottom-false I v (or i j) x e = absurd (false≢true e)
bottom-false I v (some r i) x e = absurd (false≢true e)
bottom-false I v (only r i) x e = absurd (false≢true e)

top-true : (I : Interpretation) (v : ℕ → ℕ → Bool) (c : Line) (x : ℕ) → is_top c ≡ true → value I v c x ≡ true
top-true I v top x e = refl
top-true I v bottom x e = absurd (false≢true e)
top-true I v (name a) x e = absurd (false≢true e)
top-true I v (negation i) x e = absurd (false≢true e)
top-true I v (and i j) x e = absurd (false≢true e)
top-true I v (or i j) x e = absurd (false≢true e)
top-true I v (some r i) x e = absurd (false≢true e)
top-true I v (only r i) x e = absurd (false≢true e)

name-value : (I : Interpretation) (v : ℕ → ℕ → Bool) (a : ℕ) (d : Line) (x : ℕ) → is_name a d ≡ true → value I v d x ≡ I.in_name a x
name-value I v a top x e = absurd (false≢true e)
name-value I v a bottom x e = absurd (false≢true e)
name-value I v a (name b) x e = ap (λ (k : ℕ). I.in_name k x) (sym (eqb-true a b e))
name-value I v a (negation i) x e = absurd (false≢true e)
name-value I v a (and i j) x e = absurd (false≢true e)
name-value I v a (or i j) x e = absurd (false≢true e)
name-value I v a (some r i) x e = absurd (false≢true e)
name-value I v a (only r i) x e = absurd (false≢true e)

same-value : (I : Interpretation) (v : ℕ → ℕ → Bool) (c d : Line) (x : ℕ) → same_name c d ≡ true → value I v c x ≡ value I v d x
same-value I v top d x e = absurd (false≢true e)
same-value I v bottom d x e = absurd (false≢true e)
same-value I v (name a) d x e = sym (name-value I v a d x e)
same-value I v (negation i) d x e = absurd (false≢true e)
same-value I v (and i j) d x e = absurd (false≢true e)
same-value I v (or i j) d x e = absurd (false≢true e)
same-value I v (some r i) d x e = absurd (false≢true e)
same-value I v (only r i) d x e = absurd (false≢true e)

module _ (s : Sheet) (wf : WellFormed s) (I : Interpretation) where
  -- what a true mark says of the value of its line
  pub value-holds : (l : Label) (x i : ℕ) → i < count s → TrueAt s I l x → has l (holds i) ≡ true → value I (truth s I) (line s i) x ≡ true
  value-holds l x i b t e = sym (truth-law s wf I i x) ∙ t (holds i) b e

  pub value-fails : (l : Label) (x i : ℕ) → i < count s → TrueAt s I l x → has l (fails i) ≡ true → value I (truth s I) (line s i) x ≡ false
  value-fails l x i b t e = sym (truth-law s wf I i x) ∙ not-true (truth s I i x) (t (fails i) b e)

  -- Theorem A': a label that clashes is true at no element
  pub clash-false : (l : Label) (x : ℕ) → TrueAt s I l x → clashes s l ≡ true → ⊥
  unfolding clashes clashes_at
  clash-false l x t e =
      let (i, i-in, c) = any-elim (clashes_at s l) (up_to (count s)) e in
      let i< : i < count s = up_to-elim (count s) i i-in in
      let H = has l (holds i) in
      let F = has l (fails i) in
      let N = any (λ j. has l (fails j) && same_name (line s i) (line s j)) (up_to (count s)) in
      let no-bottom : (H && is_bottom (line s i)) ≡ true → ⊥ = λ k.
      clashing _ (value-holds l x i i< t (and_left H _ k)) (bottom-false I (truth s I) (line s i) x (and_right H _ k)) in
      let no_top : (F && is_top (line s i)) ≡ true → ⊥ = λ k.
      clashing _ (top-true I (truth s I) (line s i) x (and_right F _ k)) (value-fails l x i i< t (and_left F _ k)) in
      let no_both : (H && F) ≡ true → ⊥ = λ k.
      clashing _ (value-holds l x i i< t (and_left H F k)) (value-fails l x i i< t (and_right H F k)) in
      let no_name : (H && N) ≡ true → ⊥ = λ k.
      let (j, j-in, q) = any-elim (λ j. has l (fails j) && same_name (line s i) (line s j)) (up_to (count s)) (and_right H N k) in
      clashing _ (value-holds l x i i< t (and_left H N k))
      (same-value I (truth s I) (line s i) (line s j) x (and_right (has l (fails j)) _ q)
      ∙ value-fails l x j (up_to-elim (count s) j j-in) t (and_left (has l (fails j)) _ q)) in
      ⊎_elim (λ k. ⊎_elim (λ k. ⊎_elim no-bottom no_top (or_cases _ _ k)) no_both (or_cases _ _ k)) no_name (or_cases _ _ c)

  -- what a true mark demands is true
  holds-true : (c : Line) (x : ℕ) → value I (truth s I) c x ≡ true → demand_true s I (when_holds c) x ≡ true
  holds-true top x e = refl
  holds-true bottom x e = refl
  holds-true (name a) x e = refl
  holds-true (negation i) x e = one-true (flip (truth s I i x)) e
  holds-true (and i j) x e = both_true (truth s I i x) (truth s I j x) e
  holds-true (or i j) x e = e
  holds-true (some r i) x e = refl
  holds-true (only r i) x e = refl

  fails-true : (c : Line) (x : ℕ) → value I (truth s I) c x ≡ false → demand_true s I (when_fails c) x ≡ true
  fails-true top x e = refl
  fails-true bottom x e = refl
  fails-true (name a) x e = refl
  fails-true (negation i) x e = one-true (truth s I i x) (not-false (truth s I i x) e)
  fails-true (and i j) x e = not-and (truth s I i x) (truth s I j x) e
  fails-true (or i j) x e = not-or (truth s I i x) (truth s I j x) e
  fails-true (some r i) x e = refl
  fails-true (only r i) x e = refl

  demand-true : (l : Label) (x : ℕ) → TrueAt s I l x → (m : Mark) → line_of m < count s → has l m ≡ true → demand_true s I (demand s m) x ≡ true
  demand-true l x t (holds i) b e = holds-true (line s i) x (value-holds l x i b t e)
  demand-true l x t (fails i) b e = fails-true (line s i) x (value-fails l x i b t e)

  -- what is handed along a role is true at the other end
  handed-true : (c : Line) (r x y : ℕ) (h f : Bool) → y < I.size → I.in_role r x y ≡ true
      → (h ≡ true → value I (truth s I) c x ≡ true) → (f ≡ true → value I (truth s I) c x ≡ false)
      → (m : Mark) → m ∈ handed r h f c → mark_true s I m y ≡ true
  handed-true top r x y h f b e p q m k = absurd (Memᴰ.not-nil k)
  handed-true bottom r x y h f b e p q m k = absurd (Memᴰ.not-nil k)
  handed-true (name a) r x y h f b e p q m k = absurd (Memᴰ.not-nil k)
  handed-true (negation i) r x y h f b e p q m k = absurd (Memᴰ.not-nil k)
  handed-true (and i j) r x y h f b e p q m k = absurd (Memᴰ.not-nil k)
  handed-true (or i j) r x y h f b e p q m k = absurd (Memᴰ.not-nil k)
  handed-true (some t i) r x y h f b e p q m k =
      let (c, n) = cond-elim (eqb t r && f) k in
      let t-r : t ≡ r = eqb-true t r (and_left (eqb t r) f c) in
      let no : (I.in_role t x y && truth s I i y) ≡ false = any_none (λ y. I.in_role t x y && truth s I i y) (up_to I.size) (q (and_right (eqb t r) f c)) y
      (up_to-intro I.size y b) in
      let e' : I.in_role t x y ≡ true = rw t-r e in
      rw n (not-and-left (I.in_role t x y) (truth s I i y) no e')
  handed-true (only t i) r x y h f b e p q m k =
      let (c, n) = cond-elim (eqb t r && h) k in
      let t-r : t ≡ r = eqb-true t r (and_left (eqb t r) h c) in
      let all-y : (flip (I.in_role t x y) || truth s I i y) ≡ true = all-elim (λ y. flip (I.in_role t x y) || truth s I i y) (up_to I.size)
      (p (and_right (eqb t r) h c)) y (up_to-intro I.size y b) in
      rw n (implies (I.in_role t x y) (truth s I i y) all-y (rw t-r e))

  pub pushed-true : (l : Label) (r x y : ℕ) → TrueAt s I l x → y < I.size → I.in_role r x y ≡ true → (m : Mark) → m ∈ pushed s r l → mark_true s I m y ≡ true
  unfolding pushed
  pushed-true l r x y t b e m k =
      let (i, i-in, h) = each-elim (λ i. handed r (has l (holds i)) (has l (fails i)) (line s i)) (up_to (count s)) k in
      let i< : i < count s = up_to-elim (count s) i i-in in
      handed-true (line s i) r x y (has l (holds i)) (has l (fails i)) b e (value-holds l x i i< t) (value-fails l x i i< t) m h

  -- ---- and at the elements of the individuals
  module _ (meets : meets_rules s I ≡ true) (es : List RoleAssertion) (p : ℕ → ℕ) (inside : (a : ℕ) → p a < I.size)
      (edges : (e : RoleAssertion) → e ∈ es → I.in_role e.role (p e.source) (p e.target) ≡ true) where
    pub closes-false : (J : Joint) → AllTrue s I p J → closes s J ≡ true → ⊥
    closes-false J t e =
        let (l, l-in, c) = any-elim (clashes s) J e in
        let (a, a<, q) = label-of J l l-in in
        clash-false l (p a) (subst (λ (k : Label). TrueAt s I k (p a)) q (t a)) c

    pub mark-true : (J : Joint) (a : ℕ) (ms : List Mark) → AllTrue s I p J → ((m : Mark) → m ∈ ms → mark_true s I m (p a) ≡ true) → AllTrue s I p (mark_at J a ms)
    mark-true J a ms t h b m i e = ⊎_elim (λ k. rw k.0 (h m k.1)) (λ k. t b m i k) (mark-cases J a ms b m e)

    mark-one-true : (J : Joint) (a : ℕ) (m : Mark) → AllTrue s I p J → mark_true s I m (p a) ≡ true → AllTrue s I p (mark_at J a (m ∷ []))
    mark-one-true J a m t e = mark-true J a (m ∷ []) t (λ n i. rw (Memᴰ.eq_of_singleton i) e)

    wanted-true : (J : Joint) (k : ℕ) (m : Move) → Listed s es k m → AllTrue s I p J → demand_true s I (wanted s J m) (p (who m)) ≡ true
    wanted-true J k (own a m) h t = go (has (label J a) m) refl
      where
        go : (b : Bool) → has (label J a) m ≡ b → demand_true s I (elim b [ true ↦ demand s m | false ↦ every [] ]) (p a) ≡ true
        go true e = demand-true (label J a) (p a) (t a) m h.1 e
        go false e = refl
    wanted-true J k (rule a r) h t = rules-elim s I meets r h.1 (p a) (inside a)
    wanted-true J k (push e) h t =
        all-intro (λ m. mark_true s I m (p e.target)) (pushed s e.role (label J e.source))
        (pushed-true (label J e.source) e.role (p e.source) (p e.target) (t e.source) (inside e.target) (edges e h))

    module _ (k : ℕ) (fits : Fits es k) where
      follow-keeps : (F : Joint → List Joint) (J : Joint) (a : ℕ) (d : Demand) → length J ≡ k → AllTrue s I p J → demand_true s I d (p a) ≡ true
          → Less (count s) J a d
          → ((L : Joint) → length L ≡ k → unset_all (count s) L < unset_all (count s) J → AllTrue s I p L → (K : Joint) × (K ∈ F L) × AllTrue s I p K)
          → (K : Joint) × (K ∈ follow F J (meet J a d)) × AllTrue s I p K
      follow-keeps F J a (every ms) len t w less ih =
          ih (mark_at J a ms) (length-set J a _ ∙ len) less (mark-true J a ms t (all-elim (λ m. mark_true s I m (p a)) ms w))
      follow-keeps F J a (either x y) len t w less ih =
          ⊎_elim
          (λ e. let (K, i, u) = ih (mark_at J a (x ∷ [])) (length-set J a _ ∙ len) less.0 (mark-one-true J a x t e) in
          (K, Memᴰ.append_left (F (mark_at J a (y ∷ []))) i, u))
          (λ e. let (K, i, u) = ih (mark_at J a (y ∷ [])) (length-set J a _ ∙ len) less.1 (mark-one-true J a y t e) in
          (K, Memᴰ.append_right (F (mark_at J a (x ∷ []))) i, u))
          (or_cases (mark_true s I x (p a)) (mark_true s I y (p a)) w)

      within-keeps : (f : ℕ) (J : Joint) → length J ≡ k → unset_all (count s) J < f → AllTrue s I p J → (K : Joint) × (K ∈ settle_within s es f J)
          × AllTrue s I p K
      within-keeps zero J len b t = absurd (omega arith)
      within-keeps (suc f) J len b t =
          elim (view s es J) [
            | is-clashed c e ↦ absurd (closes-false J t c)
            | is-settled c e ↦ (J, rw e here, t)
            | is-step m i a e ↦
                rw e (follow-keeps (settle_within s es f) J (who m) (wanted s J m) len t (wanted-true J (length J) m i t)
                (step_less s wf es J (subst (Fits es) (sym len) fits) m i a) (λ L l less u. within-keeps f L l (omega arith) u))
          ]

      -- Theorem A: no model is lost
      pub settle-keeps : (J : Joint) → length J ≡ k → AllTrue s I p J → (K : Joint) × (K ∈ settle s es J) × AllTrue s I p K
      unfolding settle
      settle-keeps J len t = within-keeps (suc (2 * count s * length J)) J len (omega (arith, unset_all-bound (count s) J)) t
