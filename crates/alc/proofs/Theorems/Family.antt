-- The model of a settled joint label: its individuals, and a list of seeds that holds every seed that is asked for, each with a chosen expansion.
use Rattle.std.specs.Prelude.{ℕ, ◌+◌, ◌-◌, ◌≤◌, ◌<◌, ◌&&◌, ◌≡◌, refl, List, ltb, leb}
use Rattle.std.proofs.Math.Bool.{true}
use Rattle.std.proofs.Common.{◌∙◌, ap}
use Rattle.std.proofs.Math.Logic.{⊎_elim}
use Rattle.std.proofs.Math.ListN.{length}
use Rattle.std.proofs.Math.Dec.{eqb}
use borrow.Author.Tests.{ltb-true, ltb-false, leb-true, le-leb, lt-ltb, le-ltb, eqb-true, eq-eqb}
use native.Mathlib.Omega.{arith}
use Rattle.alc.specs.Lists.{◌∈◌, any}
use Rattle.alc.specs.Sheet.{RoleAssertion, Sheet}
use Rattle.alc.specs.Meaning.{meets_rules, Interpretation}
use Rattle.alc.specs.Label.{TrueAt, Label, pushed, Mark, has, ◌⊆◌}
use Rattle.alc.specs.Settle.{label, Joint}
use Rattle.alc.specs.Seeds.{same, asks, expansions, Ask}
use Rattle.alc.specs.Model.{leads, element_of, edge_at, asserted, label_at, element-below}
use Rattle.alc.proofs.Theorems.Lists.{and_both, or_right, cases, or_cases, any-intro, or_left, and_left, and_right, any-elim}
use Rattle.alc.proofs.Theorems.Sheet.{WellFormed}
use Rattle.alc.proofs.Theorems.Moves.{label-in, label-of}
use Rattle.alc.proofs.Theorems.Steps.{Settled}
use Rattle.alc.proofs.Theorems.Seeds.{seed-pushed, same_true, same_refl}
use Rattle.alc.proofs.Theorems.Models.{Quiet, rules-met, marks-true, model}
use Rattle.alc.proofs.Theorems.Expand.{settled-pushed, settled-quiet, expand-finds}

module _ (J : Joint) (B : List Label) (ch : Label → Label) where
  at-individual : (x : ℕ) → x < length J → label_at J B ch x ≡ label J x
  unfolding label_at
  at-individual x h = rw (lt-ltb x (length J) h)

  at-seed : (x : ℕ) → length J ≤ x → label_at J B ch x ≡ ch (label B (x - length J))
  unfolding label_at
  at-seed x h = rw (le-ltb x (length J) h)

-- named, so that it is the same proof wherever the interpretation is written
pub some_one : (J : Joint) (B : List Label) → 0 < length J → 0 < length J + length B
some_one J B pos = omega arith

module _ (s : Sheet) (wf : WellFormed s) (es : List RoleAssertion) (J : Joint) (pos : 0 < length J) (done : Settled s es J)
    (fits : (e : RoleAssertion) → e ∈ es → (e.source < length J) × (e.target < length J))
    (B : List Label) (ch : Label → Label)
    (chosen : (l : Label) → l ∈ B → ch l ∈ expansions s l)
    (closed : (l : Label) → l ∈ B → (q : Ask) → q ∈ asks s (ch l) → q.seed ∈ B)
    (start : (a : ℕ) → a < length J → (q : Ask) → q ∈ asks s (label J a) → q.seed ∈ B) where
  abbrev pub family : Interpretation
  family = model s (label_at J B ch) (edge_at s es J B ch) (length J + length B) (some_one J B pos) (element_of (length J + length B))
      (element-below (length J + length B) (some_one J B pos))

  -- an element is an individual or a seed
  data Kind (x : ℕ) : Type 0 where
    individual : x < length J → label_at J B ch x ≡ label J x → Kind x
    seed : length J ≤ x → label B (x - length J) ∈ B → label_at J B ch x ≡ ch (label B (x - length J)) → Kind x

  kind : (x : ℕ) → x < length J + length B → Kind x
  kind x h =
      ⊎_elim
      (λ e. let b = ltb-true x (length J) e in individual b (at-individual J B ch x b))
      (λ e. let b = ltb-false x (length J) e in seed b (label-in B (x - length J) (omega arith)) (at-seed J B ch x b))
      (cases (ltb x (length J)))

  all_quiet : (x : ℕ) → x < length J + length B → Quiet s (label_at J B ch x)
  all_quiet x h =
      elim (kind x h) [
        | individual b e ↦ rw e (settled-quiet s es J done x b)
        | seed b i e ↦ rw e (expand-finds s (label B (x - length J)) (ch (label B (x - length J))) (chosen (label B (x - length J)) i)).0
      ]

  seed-kept : (x : ℕ) → x < length J + length B → (q : Ask) → q ∈ asks s (label_at J B ch x) → q.seed ∈ B
  seed-kept x h q i =
      elim (kind x h) [
        | individual b e ↦ start x b q (rw e at i)
        | seed b k e ↦ closed (label B (x - length J)) k q (rw e at i)
      ]

  -- the element of a seed
  seed-there : (l : Label) → l ∈ B → (y : ℕ) × (y < length B) × (label B y ≡ l) × (l ⊆ label_at J B ch (length J + y))
  seed-there l h =
      let (y, y<, e) = label-of B l h in
      let more : l ⊆ ch l = (expand-finds s l (ch l) (chosen l h)).1 in
      let q : label_at J B ch (length J + y) ≡ ch l = at-seed J B ch (length J + y) (omega arith) ∙ ap (λ (k : ℕ). ch (label B k)) (omega arith) ∙ ap ch e in
      (y, y<, e, λ m t. rw q (more m t))

  all_asked : (x : ℕ) → x < length J + length B → (q : Ask) → q ∈ asks s (label_at J B ch x)
      → (y : ℕ) × (y < length J + length B) × (edge_at s es J B ch q.role x y ≡ true) × (q.seed ⊆ label_at J B ch y)
  unfolding edge_at leads
  all_asked x h q i =
      let (y, y<, e, sub) = seed-there q.seed (seed-kept x h q i) in
      let back : length J + y - length J ≡ y = omega arith in
      let found : same q.seed (label B (length J + y - length J)) ≡ true = rw (back, e) (same_refl q.seed) in (
        length J + y,
        omega arith,
        or_left _ (any (asserted q.role x (length J + y)) es)
            (any-intro (leads J B q.role (length J + y)) (asks s (label_at J B ch x)) i
            (and_both (eqb q.role q.role) _ (eq-eqb q.role q.role refl)
            (and_both (leb (length J) (length J + y)) _ (le-leb (length J) (length J + y) (omega arith)) found))),
        sub,
      )

  along-seed : (r x y : ℕ) → x < length J + length B → y < length J + length B → any (leads J B r y) (asks s (label_at J B ch x)) ≡ true
      → (m : Mark) → m ∈ pushed s r (label_at J B ch x) → has (label_at J B ch y) m ≡ true
  unfolding leads
  along-seed r x y hx hy e m i =
      let (q, q-in, t) = any-elim (leads J B r y) (asks s (label_at J B ch x)) e in
      let role : q.role ≡ r = eqb-true q.role r (and_left (eqb q.role r) _ t) in
      let t' = and_right (eqb q.role r) (leb (length J) y && same q.seed (label B (y - length J))) t in
      let b : length J ≤ y = leb-true (length J) y (and_left (leb (length J) y) (same q.seed (label B (y - length J))) t') in
      let seed : q.seed ≡ label B (y - length J) = same_true q.seed _ (and_right (leb (length J) y) (same q.seed (label B (y - length J))) t') in
      let in-B : label B (y - length J) ∈ B = label-in B (y - length J) (omega arith) in
      let more : label B (y - length J) ⊆ ch (label B (y - length J)) = (expand-finds s (label B (y - length J)) _ (chosen (label B (y - length J)) in-B)).1 in
      rw (at-seed J B ch y b) (more m (rw seed at (seed-pushed s (label_at J B ch x) q q-in m (rw role i))))

  along-role : (r x y : ℕ) → any (asserted r x y) es ≡ true → (m : Mark) → m ∈ pushed s r (label_at J B ch x) → has (label_at J B ch y) m ≡ true
  unfolding asserted
  along-role r x y e m i =
      let (d, d-in, t) = any-elim (asserted r x y) es e in
      let role : d.role ≡ r = eqb-true d.role r (and_left (eqb d.role r) _ t) in
      let t' = and_right (eqb d.role r) (eqb d.source x && eqb d.target y) t in
      let source : d.source ≡ x = eqb-true d.source x (and_left (eqb d.source x) (eqb d.target y) t') in
      let target : d.target ≡ y = eqb-true d.target y (and_right (eqb d.source x) (eqb d.target y) t') in
      let (s<, t<) = fits d d-in in
      let i' : m ∈ pushed s d.role (label J d.source) = rw (role, source, ← at-individual J B ch x (omega arith)) i in
      rw (at-individual J B ch y (omega arith), ← target) (settled-pushed s es J done d d-in m i')

  all-given : (r x y : ℕ) → x < length J + length B → y < length J + length B → edge_at s es J B ch r x y ≡ true
      → (m : Mark) → m ∈ pushed s r (label_at J B ch x) → has (label_at J B ch y) m ≡ true
  unfolding edge_at
  all-given r x y hx hy e m i =
      ⊎_elim (λ t. along-seed r x y hx hy t m i) (λ t. along-role r x y t m i)
      (or_cases (any (leads J B r y) (asks s (label_at J B ch x))) (any (asserted r x y) es) e)

  -- Theorem B, for a settled joint label
  pub family-rules : meets_rules s family ≡ true
  family-rules = rules-met s (label_at J B ch) (edge_at s es J B ch) (length J + length B) (some_one J B pos) (element_of (length J + length B))
      (element-below (length J + length B) (some_one J B pos)) wf all_quiet all_asked all-given

  pub family-true : (a : ℕ) → a < length J → TrueAt s family (label J a) a
  family-true a h m b e =
      marks-true s (label_at J B ch) (edge_at s es J B ch) (length J + length B) (some_one J B pos) (element_of (length J + length B))
      (element-below (length J + length B) (some_one J B pos)) wf all_quiet all_asked all-given
      a (omega arith) m b (rw (at-individual J B ch a h) e)

  pub family-element : (a : ℕ) → a < length J → element_of (length J + length B) a ≡ a
  unfolding element_of
  family-element a h = rw (lt-ltb a (length J + length B) (omega arith))

  pub family-roles : (e : RoleAssertion) → e ∈ es → family.in_role e.role (element_of (length J + length B) e.source)
      (element_of (length J + length B) e.target) ≡ true
  unfolding edge_at asserted
  family-roles e h =
      let (s<, t<) = fits e h in
      rw (family-element e.source s<, family-element e.target t<)
      (or_right (any (leads J B e.role e.target) (asks s (label_at J B ch e.source))) _
      (any-intro (asserted e.role e.source e.target) es h
      (and_both (eqb e.role e.role) _ (eq-eqb e.role e.role refl)
      (and_both (eqb e.source e.source) _ (eq-eqb e.source e.source refl) (eq-eqb e.target e.target refl)))))
