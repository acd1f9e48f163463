-- Records in a buffer: a label is found by its word, what it means that a buffer has grown, which records stand. Assumes nothing.
use Rattle.std.proofs.Common.{◌≡◌, ℕ, zero, suc, ◌+◌, ◌/◌, ◌%◌, ◌<◌, ◌≤◌, Bool, true, false, ◌&&◌, cond, eqb, ltb, List, [], ◌∷◌, ◌++◌, map, length, get_or, take, set, Result, Ok, Err, sym, refl, ap, ◌∙◌, subst, ⊎_elim, add-one, arith, length-append, length-set, length-take-le, get_or-take, take-suc-set, ltb-true, ltb-false, eq-eqb, eqb-true}
use Rattle.std.specs.Prelude.{None as nothing, Some as just}
use Rattle.std.specs.List.{position_or_len, list_all}
use Rattle.std.specs.Option.{is_some}
use Rattle.std.specs.Result.{IsErr}
use Rattle.std.proofs.lemmas.List.Sums.{position_or_len_is}
use Rattle.std.proofs.lemmas.Bool.{false_from_ne_true}
use mathlib.Core.List.Memᴰ
use mathlib.Core.List.{map-append}
use lib.ListN.{length-map, get_or-map}
use borrow.Author.Tests.{eqb-false}
use Rattle.alc.specs.Lists.{◌∈◌, all, Distinct, filter, up_to}
use Rattle.alc.specs.declared.Ask.{Ask}
use Rattle.alc.specs.declared.Label.{Label}
use Rattle.alc.specs.Settle.{label}
use Rattle.alc.specs.Seeds.{include, include_all, among}
use Rattle.alc.proofs.Theorems.Lists.{cases, tests_same, filter-intro, filter-elim, up_to-intro, up_to-elim, same?}
use Rattle.alc.proofs.Theorems.Moves.{label-of, label-in}
use Rattle.alc.proofs.Theorems.Seeds.{among_in, among-true}
use Rattle.alc.proofs.Theorems.Reach.{include-step}
use Rattle.tableau.specs.declared.records.Full.{Full}
use Rattle.tableau.specs.Records.{word_of, label_of, recorded, place_from, found_at, found, GrownTo}
use Rattle.tableau.specs.Walks.{Lent, standing}

-- ---- labels and words
pub label-word : (l : Label) → l.holding < 4294967296 → label_of (word_of l) ≡ l
label-word l h =
    let p : word_of l % 4294967296 ≡ l.holding = omega arith in
    let q : word_of l / 4294967296 ≡ l.failing = omega arith in
    λ i. record { holding = p i; failing = q i }

pub word-label : (w : ℕ) → word_of (label_of w) ≡ w
word-label w = omega arith

-- ---- the search for a word
module _ (buf : List ℕ) (w : ℕ) where
  -- what is found is there, and nothing stands before it
  place-has : (i k : ℕ) → place_from buf w i k < i + k → get_or buf (place_from buf w i k) 0 ≡ w
  place-has i zero h = absurd (omega arith)
  place-has i (suc k) h =
      ⊎_elim
      (λ (e : eqb (get_or buf i 0) w ≡ true). rw (e, place_from) (eqb-true (get_or buf i 0) w e))
      (λ (e : eqb (get_or buf i 0) w ≡ false). rw (e, place_from) (place-has (suc i) k (let g = rw (e, place_from) at h in omega arith)))
      (cases (eqb (get_or buf i 0) w))

  place-before : (i k j : ℕ) → i ≤ j → j < i + k → get_or buf j 0 ≡ w → place_from buf w i k ≤ j
  place-before i zero j h g e = absurd (omega arith)
  place-before i (suc k) j h g e =
      ⊎_elim
      (λ (t : eqb (get_or buf i 0) w ≡ true). rw (t, place_from) h)
      (λ (t : eqb (get_or buf i 0) w ≡ false). rw (t, place_from)
      (⊎_elim
      (λ (q : i ≡ j). absurd (eqb-false (get_or buf i 0) w t (ap (λ (x : ℕ). get_or buf x 0) q ∙ e)))
      (λ q. place-before (suc i) k j (omega arith) (omega arith) e)
      (same? i j)))
      (cases (eqb (get_or buf i 0) w))

  place-most : (i k : ℕ) → place_from buf w i k ≤ i + k
  place-most i zero = omega arith
  place-most i (suc k) =
      ⊎_elim
      (λ (e : eqb (get_or buf i 0) w ≡ true). rw (e, place_from) (omega arith))
      (λ (e : eqb (get_or buf i 0) w ≡ false). rw (e, place_from) (omega (arith, place-most (suc i) k)))
      (cases (eqb (get_or buf i 0) w))

  module _ (used : ℕ) (fits : used ≤ length buf) where
    -- std's search among the first `used` finds that place
    pub place-is : position_or_len (λ x. eqb x w) (take used buf) ≡ found_at buf used w
    unfolding found_at
    place-is =
        let size : length (take used buf) ≡ used = length-take-le used buf fits in
        let p = place_from buf w 0 used in
        position_or_len_is (λ x. eqb x w) (take used buf) p 0 (omega (arith, place-most 0 used))
        (λ k h. false_from_ne_true (eqb (get_or (take used buf) k 0) w) (λ e.
        let k< : k < used = omega (arith, place-most 0 used) in
        let q : get_or buf k 0 ≡ w = sym (get_or-take used buf k 0 k<) ∙ eqb-true (get_or (take used buf) k 0) w e in
        omega (arith, place-before 0 used k (omega arith) (omega arith) q)))
        (λ h. let p< : p < used = omega arith in eq-eqb (get_or (take used buf) p 0) w (get_or-take used buf p 0 p< ∙ place-has 0 used (omega arith)))

    pub found-is : found buf used w ≡ cond (ltb (found_at buf used w) used) (just (found_at buf used w)) nothing
    found-is = rw (place-is, length-take-le used buf fits) refl

    pub found_some-is : is_some (found buf used w) ≡ ltb (found_at buf used w) used
    found_some-is =
        rw found-is (⊎_elim (λ (t : ltb (found_at buf used w) used ≡ true). rw t refl) (λ (t : ltb (found_at buf used w) used ≡ false). rw t refl) (cases (ltb (found_at buf used w) used)))

    -- what is found, and that nothing is
    pub found-some : (i : ℕ) → found buf used w ≡ just i → (found_at buf used w ≡ i) × (i < used)
    found-some i f =
        let e = sym found-is ∙ f in
        ⊎_elim
        (λ (t : ltb (found_at buf used w) used ≡ true). let q : just (found_at buf used w) ≡ just i = rw t at e in
        let r : found_at buf used w ≡ i = cc in (r, omega (arith, ltb-true (found_at buf used w) used t)))
        (λ (t : ltb (found_at buf used w) used ≡ false). let q : nothing ≡ just i = rw t at e in cc)
        (cases (ltb (found_at buf used w) used))

    pub found-none : found buf used w ≡ nothing → found_at buf used w ≡ used
    unfolding found_at
    found-none f =
        let e = sym found-is ∙ f in
        ⊎_elim
        (λ (t : ltb (place_from buf w 0 used) used ≡ true). let q : just (place_from buf w 0 used) ≡ nothing = rw t at e in cc)
        (λ (t : ltb (place_from buf w 0 used) used ≡ false). omega (arith, ltb-false (place_from buf w 0 used) used t, place-most 0 used))
        (cases (ltb (place_from buf w 0 used) used))

-- ---- the records of a buffer
pub length-recorded : (used : ℕ) (buf : List ℕ) → used ≤ length buf → length (recorded used buf) ≡ used
length-recorded used buf h = length-map (take used buf) label_of ∙ length-take-le used buf h

pub record-at : (used : ℕ) (buf : List ℕ) (j : ℕ) → j < used → label (recorded used buf) j ≡ label_of (get_or buf j 0)
record-at used buf j h = get_or-map label_of (take used buf) j 0 ∙ ap label_of (get_or-take used buf j 0 h)

recorded-set : (used : ℕ) (buf : List ℕ) (w : ℕ) → used < length buf → recorded (suc used) (set buf used w) ≡ recorded used buf ++ (label_of w ∷ [])
recorded-set used buf w h = ap (map label_of) (take-suc-set buf used w h) ∙ map-append label_of (take used buf) (w ∷ [])

-- a label is recorded exactly if its word is found
module _ (buf : List ℕ) (used : ℕ) (fits : used ≤ length buf) (l : Label) where
  pub found-label : l.holding < 4294967296 → found_at buf used (word_of l) < used → label_of (get_or buf (found_at buf used (word_of l)) 0) ≡ l
  unfolding found_at
  found-label h g = ap label_of (place-has buf (word_of l) 0 used (omega arith)) ∙ label-word l h

  pub found_in : l.holding < 4294967296 → found_at buf used (word_of l) < used → l ∈ recorded used buf
  found_in h g =
      let p = found_at buf used (word_of l) in
      Memᴰ.cast (sym (record-at used buf p g ∙ found-label h g)) (label-in (recorded used buf) p (omega (arith, length-recorded used buf fits)))

  pub in-found : l ∈ recorded used buf → found_at buf used (word_of l) < used
  unfolding found_at
  in-found m =
      let (j, j<, e) = label-of (recorded used buf) l m in
      let b : j < used = omega (arith, length-recorded used buf fits) in
      let q : get_or buf j 0 ≡ word_of l = sym (word-label (get_or buf j 0)) ∙ ap word_of (sym (record-at used buf j b) ∙ e) in
      omega (arith, place-before buf (word_of l) 0 used j (omega arith) (omega arith) q)

-- ---- growing
pub include_all-length : (C ls : List Label) → length C ≤ length (include_all C ls)
include_all-length C [] = omega arith
include_all-length C (l ∷ ls) =
    ⊎_elim
    (λ t. omega (arith, include_all-length (include C l) ls, ap length t.1))
    (λ t. omega (arith, include_all-length (include C l) ls, ap length t.1, length-append C (l ∷ [])))
    (include-step C l)

-- the buffer as it is
pub grown-none : (used : ℕ) (buf : List ℕ) → used ≤ length buf → GrownTo (recorded used buf) buf (Ok used) buf
grown-none used buf h = record { size = refl; holds = (sym (length-recorded used buf h), h, refl) }

-- what was too much stays too much
pub grown-full : (D more : List Label) (before after : List ℕ) (e : Full) → GrownTo D before (Err e) after → GrownTo (include_all D more) before (Err e) after
grown-full D more before after e g = record { size = g.size; holds = omega (arith, include_all-length D more, g.holds) }

-- by whatever error it is told
pub grown-err : (D : List Label) (before after : List ℕ) (d : Full) (r : Result ℕ Full) → IsErr r → GrownTo D before (Err d) after → GrownTo D before r after
grown-err D before after d (Ok n) h g = cc
grown-err D before after d (Err e) h g = record { size = g.size; holds = g.holds }

-- one after the other
pub grown-more : (D more : List Label) (n : ℕ) (before mid after : List ℕ) (r : Result ℕ Full)
    → GrownTo D before (Ok n) mid → GrownTo (include_all (recorded n mid) more) mid r after → GrownTo (include_all D more) before r after
grown-more D more n before mid after r g h =
    subst (λ (C : List Label). GrownTo (include_all C more) before r after) g.holds.2 (record { size = h.size ∙ g.size; holds = h.holds })

-- one label more, found or not
module _ (used : ℕ) (buf : List ℕ) (fits : used ≤ length buf) (l : Label) (h : l.holding < 4294967296) where
  pub grown-found : found_at buf used (word_of l) < used → GrownTo (include (recorded used buf) l) buf (Ok used) buf
  grown-found g =
      ⊎_elim
      (λ t. rw t.1 (grown-none used buf fits))
      (λ t. absurd (t.0 (found_in buf used fits l h g)))
      (include-step (recorded used buf) l)

  missing : used ≤ found_at buf used (word_of l) → include (recorded used buf) l ≡ recorded used buf ++ (l ∷ [])
  missing g = ⊎_elim (λ t. absurd (omega (arith, in-found buf used fits l t.0))) (λ t. t.1) (include-step (recorded used buf) l)

  longer : length (recorded used buf ++ (l ∷ [])) ≡ used + 1
  longer = length-append (recorded used buf) (l ∷ []) ∙ omega (arith, length-recorded used buf fits)

  pub grown-new : used ≤ found_at buf used (word_of l) → used < length buf → GrownTo (include (recorded used buf) l) buf (Ok (used + 1)) (set buf used (word_of l))
  grown-new g b = rw (missing g) (record {
    size = length-set buf used (word_of l);
    holds = (
      sym longer,
      omega (arith, length-set buf used (word_of l)),
      rw (add-one used) (recorded-set used buf (word_of l) b ∙ ap (λ (k : Label). recorded used buf ++ (k ∷ [])) (label-word l h)),
    );
  })

  pub grown-over : used ≤ found_at buf used (word_of l) → length buf ≤ used → (e : Full) → GrownTo (include (recorded used buf) l) buf (Err e) buf
  grown-over g b e = rw (missing g) (record { size = refl; holds = omega (arith, longer) })

-- ---- a loop that includes labels: what is left to include, more, is the whole
pub record Including (whole : List Label) (start : ℕ) (before : List ℕ) (more : List Label) (used : ℕ) (buf : List ℕ) : Type 0 where
  pub size : length buf ≡ length before
  pub fits : used ≤ length buf
  pub rest : include_all (recorded used buf) more ≡ include_all (recorded start before) whole

module _ {whole : List Label} {start : ℕ} {before : List ℕ} {more : List Label} {used : ℕ} {buf : List ℕ} (g : Including whole start before more used buf) where
  pub included : more ≡ [] → GrownTo (include_all (recorded start before) whole) before (Ok used) buf
  included e =
      let all_in : recorded used buf ≡ include_all (recorded start before) whole = ap (include_all (recorded used buf)) (sym e) ∙ g.rest in
      rw (← all_in) (record { size = g.size; holds = (grown-none used buf g.fits).holds })

  module _ {l : Label} {rest : List Label} (next : more ≡ l ∷ rest) (after : List ℕ) where
    pub include-on : (n : ℕ) → GrownTo (include (recorded used buf) l) buf (Ok n) after → Including whole start before rest n after
    include-on n t = record {
      size = t.size ∙ g.size;
      fits = t.holds.1;
      rest = ap (λ (C : List Label). include_all C rest) t.holds.2 ∙ ap (include_all (recorded used buf)) (sym next) ∙ g.rest;
    }

    pub include-full : (e : Full) → GrownTo (include (recorded used buf) l) buf (Err e) after → GrownTo (include_all (recorded start before) whole) before (Err e) after
    include-full e t =
        let u = grown-full (include (recorded used buf) l) rest buf after e t in
        rw (← (ap (include_all (recorded used buf)) (sym next) ∙ g.rest)) (record { size = t.size ∙ g.size; holds = u.holds })

-- ---- the records that stand
module _ (used : ℕ) (recs marks : List ℕ) where
  stands-in : (i : ℕ) → i < used → eqb (get_or marks i 0) 0 ≡ true → label_of (get_or recs i 0) ∈ standing used recs marks
  unfolding standing
  stands-in i h e = Memᴰ.map (λ j. label_of (get_or recs j 0)) (filter-intro (λ j. eqb (get_or marks j 0) 0) (up_to used) (up_to-intro used i h) e)

  in-stands : (q : Label) → q ∈ standing used recs marks → (i : ℕ) × (i < used) × (eqb (get_or marks i 0) 0 ≡ true) × (label_of (get_or recs i 0) ≡ q)
  unfolding standing
  in-stands q m =
      let (i, k, e) = Memᴰ.of_map (λ j. label_of (get_or recs j 0)) (filter (λ j. eqb (get_or marks j 0) 0) (up_to used)) m in
      let (b, z) = filter-elim (λ j. eqb (get_or marks j 0) 0) (up_to used) k in
      (i, up_to-elim used i b, z, e)

-- in a list that has no label twice, a label has one place
pub distinct-place : (C : List Label) → Distinct C → (i j : ℕ) → i < length C → j < length C → label C i ≡ label C j → i ≡ j
distinct-place [] d i j h g e = absurd (omega arith)
distinct-place (l ∷ C) d zero zero h g e = refl
distinct-place (l ∷ C) d zero (suc j) h g e = absurd (d.0 (Memᴰ.cast e (label-in C j (omega arith))))
distinct-place (l ∷ C) d (suc i) zero h g e = absurd (d.0 (Memᴰ.cast (sym e) (label-in C i (omega arith))))
distinct-place (l ∷ C) d (suc i) (suc j) h g e = ap suc (distinct-place C d.1 i j (omega arith) (omega arith) e)

-- a label stands exactly if its word is found where the mark is 0
module _ {used : ℕ} {recs marks : List ℕ} (lent : Lent used recs marks) (q : Label) (h : q.holding < 4294967296) where
  pub stands-at : (p : ℕ) → found recs used (word_of q) ≡ just p → eqb (get_or marks p 0) 0 ≡ among q (standing used recs marks)
  stands-at p f =
      let (e, p<) = found-some recs (word_of q) used lent.enough p f in
      let size = length-recorded used recs lent.enough in
      let there : label_of (get_or recs p 0) ≡ q = ap (λ (x : ℕ). label_of (get_or recs x 0)) (sym e) ∙ found-label recs used lent.enough q h (omega (arith, e)) in
      tests_same (eqb (get_or marks p 0) 0) (among q (standing used recs marks))
      (λ t. among_in q (standing used recs marks) (Memᴰ.cast (sym there) (stands-in used recs marks p p< t)))
      (λ t. let (i, i<, z, w) = in-stands used recs marks q (among-true q (standing used recs marks) t) in
      let one : i ≡ p = distinct-place (recorded used recs) lent.distinct i p (omega arith) (omega arith) (record-at used recs i i< ∙ w ∙ sym (record-at used recs p p< ∙ there)) in
      subst (λ (x : ℕ). eqb (get_or marks x 0) 0 ≡ true) one z)

  pub stands-not : found recs used (word_of q) ≡ nothing → false ≡ among q (standing used recs marks)
  stands-not f =
      sym (false_from_ne_true (among q (standing used recs marks)) (λ t.
      let (i, i<, z, w) = in-stands used recs marks q (among-true q (standing used recs marks) t) in
      let size = length-recorded used recs lent.enough in
      let m : q ∈ recorded used recs = Memᴰ.cast (sym (record-at used recs i i< ∙ w)) (label-in (recorded used recs) i (omega arith)) in
      omega (arith, in-found recs used lent.enough q m, found-none recs (word_of q) used lent.enough f)))

-- std's test of all asks is the definition's of all seeds
pub all-is : (p : Label → Bool) (qs : List Ask) → list_all (λ (q : Ask). p q.seed) qs ≡ all p (map (λ (q : Ask). q.seed) qs)
all-is p [] = refl
all-is p (q ∷ qs) = ap (λ (b : Bool). p q.seed && b) (all-is p qs)
