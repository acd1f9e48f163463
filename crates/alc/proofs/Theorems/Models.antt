-- A family of settled labels in which each seed that is asked for is found is an interpretation, in which every mark of every label is true.
use Prim.Native.Nat.{ℕ, zero, suc, ◌≤◌, ◌<◌}
use Rattle.std.specs.Prelude.{Bool, false, ◌&&◌, ◌||◌, ◌≡◌, ◌∷◌, ltb, eqb}
use Rattle.std.proofs.Math.Bool.{true, not as flip}
use Rattle.std.proofs.lemmas.Bool.{false≢true, not-true}
use Rattle.std.proofs.Math.Path.{refl, ap}
use Rattle.std.proofs.Common.{sym, ◌∙◌, ltb-true, eqb-true, eq-eqb}
use Rattle.std.proofs.Math.Logic.{⊎_elim}
use native.Mathlib.Omega.{arith}
use Rattle.alc.specs.Lists.{◌∈◌, up_to}
use Rattle.alc.specs.Sheet.{some, or, and, line, operands_below, count, Line, only, Rule, negation, name, Sheet, top, bottom}
use Rattle.alc.specs.Meaning.{meets_rules, value, truth, Interpretation}
use Rattle.alc.specs.Label.{when_fails, when_holds, clashes, pushed, Mark, fails, handed, line_of, blank, is_name, demand, same_name, ◌⊆◌, mark_true, either}
use Rattle.alc.specs.Label.{met, is_top, Label, holds, has, is_bottom, clashes_at}
use Rattle.alc.specs.Seeds.{asks_of, seed_of, Ask, asks}
use Rattle.alc.specs.Model.{named}
use Rattle.alc.proofs.Theorems.Lists.{cond-intro, all-false, any-intro, or-false-both, up_to-intro, and_left, and_right, clashing, here, up_to-elim}
use Rattle.alc.proofs.Theorems.Lists.{and_both, or_right, cases, all-intro, or_cases, each-intro, or_left, and-false-left, and-false-right, any_false}
use Rattle.alc.proofs.Theorems.Sheet.{WellFormed}
use Rattle.alc.proofs.Theorems.Meaning.{truth-law, operands, rules-intro}
use Rattle.alc.proofs.Theorems.Moves.{add_all-has}

-- a settled label: no clash, and nothing is left to add
pub record Quiet (s : Sheet) (l : Label) : Type 0 where
  pub clear : clashes s l ≡ false
  pub marks : (m : Mark) → line_of m < count s → has l m ≡ true → met l (demand s m) ≡ true
  pub rules : (r : Rule) → r ∈ s.rules → met l (either (fails r.sub) (holds r.sup)) ≡ true

is_name_lem : (a : ℕ) (c : Line) → is_name a c ≡ true → c ≡ name a
is_name_lem a top e = absurd (false≢true e)
is_name_lem a bottom e = absurd (false≢true e)
is_name_lem a (name b) e = ap name (sym (eqb-true a b e))
is_name_lem a (negation i) e = absurd (false≢true e)
is_name_lem a (and i j) e = absurd (false≢true e)
is_name_lem a (or i j) e = absurd (false≢true e)
is_name_lem a (some r i) e = absurd (false≢true e)
is_name_lem a (only r i) e = absurd (false≢true e)

-- what a settled label cannot have
module _ (s : Sheet) (l : Label) (quiet : clashes s l ≡ false) where
  no-clash : (i : ℕ) → i < count s → clashes_at s l i ≡ true → ⊥
  unfolding clashes
  no-clash i h e = clashing _ (any-intro (clashes_at s l) (up_to (count s)) (up_to-intro (count s) i h) e) quiet

  no-bottom : (i : ℕ) → i < count s → line s i ≡ bottom → has l (holds i) ≡ true → ⊥
  unfolding clashes_at
  no-bottom i h q e = no-clash i h (or_left _ _ (or_left _ _ (or_left _ _ (and_both (has l (holds i)) _ e (ap is_bottom q)))))

  no_top : (i : ℕ) → i < count s → line s i ≡ top → has l (fails i) ≡ true → ⊥
  unfolding clashes_at
  no_top i h q e = no-clash i h (or_left _ _ (or_left _ _ (or_right (has l (holds i) && is_bottom (line s i)) _ (and_both (has l (fails i)) _ e (ap is_top q)))))

  pub no_both : (i : ℕ) → i < count s → has l (holds i) ≡ true → has l (fails i) ≡ true → ⊥
  unfolding clashes_at
  no_both i h e f = no-clash i h (or_left _ _ (or_right (has l (holds i) && is_bottom (line s i) || has l (fails i) && is_top (line s i)) _
      (and_both (has l (holds i)) _ e f)))

  no_name : (i j a : ℕ) → i < count s → j < count s → is_name a (line s i) ≡ true → line s j ≡ name a → has l (holds i) ≡ true → has l (fails j) ≡ true → ⊥
  unfolding clashes_at
  no_name i j a h g p q e f =
      let same : same_name (line s i) (line s j) ≡ true = rw (is_name_lem a (line s i) p, q) (eq-eqb a a refl) in
      no-clash i h
      (or_right
      (has l (holds i) && is_bottom (line s i) || has l (fails i) && is_top (line s i) || has l (holds i) && has l (fails i)) _
      (and_both (has l (holds i)) _ e
      (any-intro (λ j. has l (fails j) && same_name (line s i) (line s j)) (up_to (count s)) (up_to-intro (count s) j g) (and_both (has l (fails j)) _ f same))))

module _ (s : Sheet) (lab : ℕ → Label) (edge : ℕ → ℕ → ℕ → Bool) (size : ℕ) (some_one : 0 < size) (place : ℕ → ℕ) (denoted : (a : ℕ) → place a < size) where
  abbrev pub model : Interpretation
  model = record {
    size = size;
    inhabited = some_one;
    in_name = λ a x. named s (lab x) a;
    in_role = edge;
    denotes = place;
    denoted = denoted;
  }

  module _ (wf : WellFormed s)
      (quiet : (x : ℕ) → x < size → Quiet s (lab x))
      (asked : (x : ℕ) → x < size → (q : Ask) → q ∈ asks s (lab x) → (y : ℕ) × (y < size) × (edge q.role x y ≡ true) × (q.seed ⊆ lab y))
      (given : (r x y : ℕ) → x < size → y < size → edge r x y ≡ true → (m : Mark) → m ∈ pushed s r (lab x) → has (lab y) m ≡ true) where
    -- a mark's truth follows from that of smaller lines
    True : ℕ → Type 0
    True n = (x : ℕ) → x < size → (m : Mark) → line_of m < n → has (lab x) m ≡ true → mark_true s model m x ≡ true

    module _ (i : ℕ) (i< : i < count s) (below : True i) (x : ℕ) (x< : x < size) where
      -- what line i asks for and hands on
      asks-in : (a : Ask) → a ∈ asks_of s (lab x) (has (lab x) (holds i)) (has (lab x) (fails i)) (line s i) → a ∈ asks s (lab x)
      unfolding asks
      asks-in a h = each-intro (λ i. asks_of s (lab x) (has (lab x) (holds i)) (has (lab x) (fails i)) (line s i)) (up_to (count s)) (up_to-intro (count s) i i<) h

      pushed-in : (r : ℕ) (m : Mark) → m ∈ handed r (has (lab x) (holds i)) (has (lab x) (fails i)) (line s i) → m ∈ pushed s r (lab x)
      unfolding pushed
      pushed-in r m h = each-intro (λ i. handed r (has (lab x) (holds i)) (has (lab x) (fails i)) (line s i)) (up_to (count s)) (up_to-intro (count s) i i<) h

      -- the element that was asked for
      witness : (r : ℕ) (m : Mark) → line_of m < i → record { role = r; seed = seed_of s (lab x) r m } ∈ asks s (lab x)
          → (y : ℕ) × (y < size) × (edge r x y ≡ true) × (mark_true s model m y ≡ true)
      unfolding True seed_of
      witness r m b h =
          let (y, y<, e, sub) = asked x x< (record { role = r; seed = seed_of s (lab x) r m }) h in
          (y, y<, e, below y y< m b (sub m (add_all-has blank (m ∷ pushed s r (lab x)) m here)))

      handed-on : (r y : ℕ) (m : Mark) → y < size → line_of m < i → m ∈ pushed s r (lab x) → edge r x y ≡ true → mark_true s model m y ≡ true
      unfolding True
      handed-on r y m y< b h e = below y y< m b (given r x y x< y< e m h)

      holds-value : has (lab x) (holds i) ≡ true → (c : Line) → line s i ≡ c → operands_below i c ≡ true → met (lab x) (when_holds c) ≡ true
          → value model (truth s model) c x ≡ true
      unfolding True named
      holds-value e top q b d = refl
      holds-value e bottom q b d = absurd (no-bottom s (lab x) (quiet x x<).clear i i< q e)
      holds-value e (name a) q b d =
          any-intro (λ i. is_name a (line s i) && has (lab x) (holds i)) (up_to (count s)) (up_to-intro (count s) i i<)
          (and_both (is_name a (line s i)) _ (rw q (eq-eqb a a refl)) e)
      holds-value e (negation j) q b d = below x x< (fails j) (ltb-true j i b) (and_left (has (lab x) (fails j)) true d)
      holds-value e (and j k) q b d =
          let hj = has (lab x) (holds j) in
          let hk = has (lab x) (holds k) in
          and_both (truth s model j x) _
          (below x x< (holds j) (ltb-true j i (and_left (ltb j i) (ltb k i) b)) (and_left hj (hk && true) d))
          (below x x< (holds k) (ltb-true k i (and_right (ltb j i) (ltb k i) b)) (and_left hk true (and_right hj (hk && true) d)))
      holds-value e (or j k) q b d =
          ⊎_elim
          (λ h. or_left (truth s model j x) _ (below x x< (holds j) (ltb-true j i (and_left (ltb j i) (ltb k i) b)) h))
          (λ h. or_right (truth s model j x) _ (below x x< (holds k) (ltb-true k i (and_right (ltb j i) (ltb k i) b)) h))
          (or_cases (has (lab x) (holds j)) (has (lab x) (holds k)) d)
      holds-value e (some r j) q b d =
          let (y, y<, ey, t) = witness r (holds j) (ltb-true j i b) (asks-in _ (rw q (cond-intro (has (lab x) (holds i)) e))) in
          any-intro (λ y. edge r x y && truth s model j y) (up_to size) (up_to-intro size y y<) (and_both (edge r x y) _ ey t)
      holds-value e (only r j) q b d =
          all-intro (λ y. flip (edge r x y) || truth s model j y) (up_to size)
          (λ y m. ⊎_elim
          (λ ey. or_right (flip (edge r x y)) _
          (handed-on r y (holds j) (up_to-elim size y m) (ltb-true j i b)
          (pushed-in r (holds j) (rw q (cond-intro (eqb r r && has (lab x) (holds i)) (and_both (eqb r r) _ (eq-eqb r r refl) e)))) ey))
          (λ ey. or_left _ (truth s model j y) (ap flip ey))
          (cases (edge r x y)))

      fails-value : has (lab x) (fails i) ≡ true → (c : Line) → line s i ≡ c → operands_below i c ≡ true → met (lab x) (when_fails c) ≡ true
          → value model (truth s model) c x ≡ false
      unfolding True named
      fails-value e top q b d = absurd (no_top s (lab x) (quiet x x<).clear i i< q e)
      fails-value e bottom q b d = refl
      fails-value e (name a) q b d =
          any_false (λ k. is_name a (line s k) && has (lab x) (holds k)) (up_to (count s))
          (λ k m. ⊎_elim
          (λ t. absurd (no_name s (lab x) (quiet x x<).clear k i a (up_to-elim (count s) k m) i< (and_left _ (has (lab x) (holds k)) t) q
          (and_right (is_name a (line s k)) _ t) e))
          (λ t. t)
          (cases (is_name a (line s k) && has (lab x) (holds k))))
      fails-value e (negation j) q b d = ap flip (below x x< (holds j) (ltb-true j i b) (and_left (has (lab x) (holds j)) true d))
      fails-value e (and j k) q b d =
          ⊎_elim
          (λ h. and-false-left (truth s model j x) _ (not-true (truth s model j x) (below x x< (fails j) (ltb-true j i (and_left (ltb j i) (ltb k i) b)) h)))
          (λ h. and-false-right (truth s model j x) _ (not-true (truth s model k x) (below x x< (fails k) (ltb-true k i (and_right (ltb j i) (ltb k i) b)) h)))
          (or_cases (has (lab x) (fails j)) (has (lab x) (fails k)) d)
      fails-value e (or j k) q b d =
          let hj = has (lab x) (fails j) in
          let hk = has (lab x) (fails k) in
          or-false-both (truth s model j x) _
          (not-true _ (below x x< (fails j) (ltb-true j i (and_left (ltb j i) (ltb k i) b)) (and_left hj (hk && true) d)))
          (not-true _ (below x x< (fails k) (ltb-true k i (and_right (ltb j i) (ltb k i) b)) (and_left hk true (and_right hj (hk && true) d))))
      fails-value e (some r j) q b d =
          any_false (λ y. edge r x y && truth s model j y) (up_to size)
          (λ y m. ⊎_elim
          (λ ey. and-false-right (edge r x y) _
          (not-true (truth s model j y) (handed-on r y (fails j) (up_to-elim size y m) (ltb-true j i b)
          (pushed-in r (fails j) (rw q (cond-intro (eqb r r && has (lab x) (fails i)) (and_both (eqb r r) _ (eq-eqb r r refl) e)))) ey)))
          (λ ey. and-false-left _ (truth s model j y) ey)
          (cases (edge r x y)))
      fails-value e (only r j) q b d =
          let (y, y<, ey, t) = witness r (fails j) (ltb-true j i b) (asks-in _ (rw q (cond-intro (has (lab x) (fails i)) e))) in
          all-false (λ y. flip (edge r x y) || truth s model j y) (up_to size) (up_to-intro size y y<)
          (or-false-both (flip (edge r x y)) _ (ap flip ey) (not-true _ t))

    -- Theorem B: every mark of every label is true
    truth-below : (n : ℕ) → n ≤ count s → True n
    unfolding True
    truth-below zero h x x< m b e = absurd (omega arith)
    truth-below (suc n) h x x< (holds i) b e =
        let i< : i < count s = omega arith in
        let ih : True n = truth-below n (omega arith) in
        truth-law s wf model i x
        ∙ holds-value i i< (λ y y< m c. ih y y< m (omega arith)) x x< e (line s i) refl (operands s wf i) ((quiet x x<).marks (holds i) i< e)
    truth-below (suc n) h x x< (fails i) b e =
        let i< : i < count s = omega arith in
        let ih : True n = truth-below n (omega arith) in
        ap flip (truth-law s wf model i x
        ∙ fails-value i i< (λ y y< m c. ih y y< m (omega arith)) x x< e (line s i) refl (operands s wf i) ((quiet x x<).marks (fails i) i< e))

    pub marks-true : (x : ℕ) → x < size → (m : Mark) → line_of m < count s → has (lab x) m ≡ true → mark_true s model m x ≡ true
    unfolding True
    marks-true = truth-below (count s) (omega arith)

    -- and the rules are met
    pub rules-met : meets_rules s model ≡ true
    rules-met =
        rules-intro s model (λ r r-in x x<.
        ⊎_elim
        (λ h. or_left (flip (truth s model r.sub x)) _ (marks-true x x< (fails r.sub) (wf.rules r r-in).0 h))
        (λ h. or_right (flip (truth s model r.sub x)) _ (marks-true x x< (holds r.sup) (wf.rules r r-in).1 h))
        (or_cases (has (lab x) (fails r.sub)) (has (lab x) (holds r.sup)) ((quiet x x<).rules r r-in)))
