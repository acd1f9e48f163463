-- Where a label is true, each seed that it asks for is true at some element.
use Rattle.std.specs.Prelude.{ℕ, ◌<◌, true, false, not as flip, ◌&&◌, ◌||◌, ◌≡◌}
use Rattle.std.proofs.Common.{ap, ⊎_elim}
use Rattle.std.proofs.lemmas.Bool.{not-false}
use Rattle.alc.specs.Lists.{◌∈◌, up_to}
use Rattle.alc.specs.Sheet.{some, count, only, Sheet}
use Rattle.alc.specs.Meaning.{truth, Interpretation, value}
use Rattle.alc.specs.Label.{TrueAt, mark_true, Label, Mark}
use Rattle.alc.specs.Seeds.{asks, Ask}
use Rattle.alc.proofs.Theorems.Lists.{and_right, all-fails, or-false-right, any-elim, or-false-left, and_left, up_to-elim}
use Rattle.alc.proofs.Theorems.Sheet.{WellFormed}
use Rattle.alc.proofs.Theorems.Keeps.{value-fails, value-holds, pushed-true}
use Rattle.alc.proofs.Theorems.Seeds.{Asking, by-some, by_only, seed-cases, asks-elim}

module _ (s : Sheet) (wf : WellFormed s) (I : Interpretation) (l : Label) (x : ℕ) (t : TrueAt s I l x) where
  -- an element along the role where the asked mark is true
  asked-mark : (by r : ℕ) (m : Mark) → by < count s → Asking s l by r m → (y : ℕ) × (y < I.size) × (I.in_role r x y ≡ true) × (mark_true s I m y ≡ true)
  asked-mark by r m b (by-some j e h q) =
      let v : value I (truth s I) (some r j) x ≡ true = rw e at (value-holds s wf I l x by b t h) in
      let (y, y-in, k) = any-elim (λ y. I.in_role r x y && truth s I j y) (up_to I.size) v in
      (y, up_to-elim I.size y y-in, and_left (I.in_role r x y) (truth s I j y) k, rw q (and_right (I.in_role r x y) (truth s I j y) k))
  asked-mark by r m b (by_only j e h q) =
      let v : value I (truth s I) (only r j) x ≡ false = rw e at (value-fails s wf I l x by b t h) in
      let (y, y-in, k) = all-fails (λ y. flip (I.in_role r x y) || truth s I j y) (up_to I.size) v in (
        y,
        up_to-elim I.size y y-in,
        not-false (I.in_role r x y) (or-false-left (flip (I.in_role r x y)) (truth s I j y) k),
        rw q (ap flip (or-false-right (flip (I.in_role r x y)) (truth s I j y) k)),
      )

  pub asked-true : (q : Ask) → q ∈ asks s l → (y : ℕ) × (y < I.size) × TrueAt s I q.seed y
  asked-true q h =
      let a = asks-elim s l q h in
      let (y, y<, e, k) = asked-mark a.by q.role a.mark a.below a.asking in
      (y, y<, λ m b i. ⊎_elim (λ p. rw p k) (λ p. pushed-true s wf I l q.role x y t y< e m p) (seed-cases s l q.role a.mark m (rw a.seed at i)))
