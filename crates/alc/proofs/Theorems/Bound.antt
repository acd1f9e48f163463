-- Why e·2^(e-1) records suffice: a seed is fixed by the line that asked for it and by which other some and only lines contributed.
use Prim.Native.Nat.{ℕ, ◌-◌, ◌^◌, ◌<◌}
use Rattle.std.specs.Prelude.{Bool, true, cond, ◌&&◌, ◌≡◌, refl, length, eqb}
use Rattle.std.proofs.Math.Bool.{false}
use Rattle.std.proofs.Math.Path.{sym, ap, fun_ext}
use Rattle.std.proofs.Common.{◌∙◌, arith}
use Rattle.std.proofs.Math.Logic.{⊎_elim}
use mathlib.Core.List.Memᴰ
use mathlib.Core.List.{List, [], ◌∷◌, map}
use Rattle.std.proofs.lemmas.List.{length-map}
use Rattle.alc.specs.Lists.{◌∈◌, up_to, filter, each, sublists, remove_one}
use Rattle.alc.specs.Sheet.{some, count, Line, top, or, bottom, negation, only, name, and, line, Sheet}
use Rattle.alc.specs.Label.{add_all, handed, blank, Label, holds, clashes, Mark, pushed, has, fails}
use Rattle.alc.specs.Seeds.{asked_mark, handed_mark, seed_from, universe_of, universe, bound, quantifiers, asks, seed_of, quantified, Ask, is_quantified}
use Rattle.alc.proofs.Theorems.Lists.{filter-intro, cases, each-intro, up_to-intro, and-false-right}
use Rattle.alc.proofs.Theorems.Counting.{each-cond, length-remove_one, filter-sublist, length-each, length-sublists, filter-remove_one}
use Rattle.alc.proofs.Theorems.Counting.{filter-filter}
use Rattle.alc.proofs.Theorems.Seeds.{Asking, by-some, by_only, asks-elim}
use Rattle.alc.proofs.Theorems.Models.{no_both}

abbrev contributes : ℕ → Bool → Bool → Line → Bool
contributes r h f top = false
contributes r h f bottom = false
contributes r h f (name a) = false
contributes r h f (negation i) = false
contributes r h f (and i j) = false
contributes r h f (or i j) = false
contributes r h f (some q i) = eqb q r && f
contributes r h f (only q i) = eqb q r && h

handed-is : (r : ℕ) (h f : Bool) (c : Line) → handed r h f c ≡ cond (contributes r h f c) (handed_mark c ∷ []) []
handed-is r h f top = refl
handed-is r h f bottom = refl
handed-is r h f (name a) = refl
handed-is r h f (negation i) = refl
handed-is r h f (and i j) = refl
handed-is r h f (or i j) = refl
handed-is r h f (some q i) = refl
handed-is r h f (only q i) = refl

contributes-quantified : (r : ℕ) (h f : Bool) (c : Line) → contributes r h f c ≡ true → is_quantified c ≡ true
contributes-quantified r h f top e = e
contributes-quantified r h f bottom e = e
contributes-quantified r h f (name a) e = e
contributes-quantified r h f (negation i) e = e
contributes-quantified r h f (and i j) e = e
contributes-quantified r h f (or i j) e = e
contributes-quantified r h f (some q i) e = refl
contributes-quantified r h f (only q i) e = refl

pub length-universe : (s : Sheet) → length (universe s) ≡ bound s
unfolding universe universe_of bound
length-universe s =
    length-each (universe_of s) (2 ^ (quantifiers s - 1)) (quantified s) (λ i h.
    length-map (sublists (remove_one i (quantified s))) (seed_from s i)
    ∙ length-sublists (remove_one i (quantified s))
    ∙ ap (λ (k : ℕ). 2 ^ k) (less i h))
  where
    less : (i : ℕ) → i ∈ quantified s → length (remove_one i (quantified s)) ≡ quantifiers s - 1
    less i h = omega (arith, length-remove_one i (quantified s) h)

module _ (s : Sheet) (l : Label) (clear : clashes s l ≡ false) where
  gives : ℕ → ℕ → Bool
  gives r i = contributes r (has l (holds i)) (has l (fails i)) (line s i)

  pushed-is : (r : ℕ) → pushed s r l ≡ map (λ j. handed_mark (line s j)) (filter (gives r) (up_to (count s)))
  unfolding pushed gives
  pushed-is r =
      ap (λ (f : ℕ → List Mark). each f (up_to (count s))) (fun_ext (λ i. handed-is r (has l (holds i)) (has l (fails i)) (line s i)))
      ∙ each-cond (gives r) (λ j. handed_mark (line s j)) (up_to (count s))

  pushed-others : (r i : ℕ) → gives r i ≡ false → pushed s r l ≡ map (λ j. handed_mark (line s j)) (filter (gives r) (remove_one i (quantified s)))
  unfolding gives quantified
  pushed-others r i e =
      pushed-is r ∙ ap (map (λ j. handed_mark (line s j)))
      (sym (filter-remove_one (gives r) i e (quantified s)
      ∙ filter-filter (gives r) (λ i. is_quantified (line s i)) (λ i. contributes-quantified r (has l (holds i)) (has l (fails i)) (line s i)) (up_to (count s))))

  -- the asking line is a some or only line, and does not contribute
  asking-is : (i r : ℕ) (m : Mark) → i < count s → Asking s l i r m → (i ∈ quantified s) × (gives r i ≡ false) × (m ≡ asked_mark (line s i))
  unfolding gives quantified
  asking-is i r m b (by-some j e h q) =
      let no : has l (fails i) ≡ false = ⊎_elim (λ f. absurd (no_both s l clear i b h f)) (λ f. f) (cases (has l (fails i))) in (
        filter-intro (λ i. is_quantified (line s i)) (up_to (count s)) (up_to-intro (count s) i b) (ap is_quantified e),
        rw e (and-false-right (eqb r r) _ no),
        q ∙ sym (ap asked_mark e),
      )
  asking-is i r m b (by_only j e h q) =
      let no : has l (holds i) ≡ false = ⊎_elim (λ f. absurd (no_both s l clear i b f h)) (λ f. f) (cases (has l (holds i))) in (
        filter-intro (λ i. is_quantified (line s i)) (up_to (count s)) (up_to-intro (count s) i b) (ap is_quantified e),
        rw e (and-false-right (eqb r r) _ no),
        q ∙ sym (ap asked_mark e),
      )

  pub seed-in-universe : (q : Ask) → q ∈ asks s l → q.seed ∈ universe s
  unfolding universe universe_of seed_from seed_of
  seed-in-universe q h =
      let a = asks-elim s l q h in
      let (i-in, out, mk) = asking-is a.by q.role a.mark a.below a.asking in
      let is : q.seed ≡ seed_from s a.by (filter (gives q.role) (remove_one a.by (quantified s))) =
      a.seed ∙ ap (λ (m : Mark). add_all blank (m ∷ pushed s q.role l)) mk
      ∙ ap (λ (ms : List Mark). add_all blank (asked_mark (line s a.by) ∷ ms)) (pushed-others q.role a.by out) in
      Memᴰ.cast is
      (each-intro (universe_of s) (quantified s) i-in
      (Memᴰ.map (seed_from s a.by) (filter-sublist (gives q.role) (remove_one a.by (quantified s)))))
