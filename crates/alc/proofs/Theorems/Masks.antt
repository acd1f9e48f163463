-- The laws of the masks: what whole words say of a label is what `clashes` says of it line by line. Over sets of any width.
use Rattle.std.specs.Prelude.{ℕ, ◌^◌, ◌<◌, Bool, false, ◌&&◌, ◌||◌, ◌≡◌, refl, get_or, eqb, ltb}
use Rattle.std.proofs.Math.Bool.{true, not as flip}
use Rattle.std.proofs.Common.{true≢false, ◌∙◌, ⊎_elim, arith}
use Rattle.std.proofs.Math.Path.{sym, ap}
use Rattle.std.proofs.Math.Decide.{dec_lt}
use Rattle.std.proofs.Math.ListN.{get_or-eq_default}
use Rattle.std.specs.Int.Bits.{bit_or, bit_and}
use borrow.Author.Tests.{eqb-true, eqb-false, eq-eqb, not-true, lt-ltb, le-ltb, ne_eqb}
use Rattle.alc.specs.Bits.{bit, meets, members}
use Rattle.alc.specs.Lists.{any, filter, up_to}
use Rattle.alc.specs.Sheet.{Line, top, bottom, name, negation, and, or, some, only, Sheet, count, line}
use Rattle.alc.specs.declared.Masks.{Masks}
use Rattle.alc.specs.Label.{Label, is_top, is_bottom, same_name, clashes_at, clashes}
use Rattle.alc.specs.Masks.{shares_name, MasksOf}
use Rattle.alc.proofs.Theorems.Bits.{bit-none, bit-or, bit-and, bit_below}
use Rattle.alc.proofs.Theorems.Lists.{cases, clashing, tests_same, and_left, and_right, and_both, or_left}
use Rattle.alc.proofs.Theorems.Lists.{any-intro, any-elim, any-cong, filter-intro, filter-elim, up_to-intro, up_to-elim}
use Rattle.alc.proofs.Theorems.Members.{some-member, meets-intro, meets-elim}

-- ---- names
pub nameless : (c : Line) → same_name c top ≡ false
nameless top = refl
nameless bottom = refl
nameless (name a) = refl
nameless (negation i) = refl
nameless (and i j) = refl
nameless (or i j) = refl
nameless (some r i) = refl
nameless (only r i) = refl

same_back : (c d : Line) → same_name c d ≡ true → same_name d c ≡ true
same_back top d e = absurd (true≢false (sym e))
same_back bottom d e = absurd (true≢false (sym e))
same_back (name a) top e = absurd (true≢false (sym e))
same_back (name a) bottom e = absurd (true≢false (sym e))
same_back (name a) (name b) e = eq-eqb b a (sym (eqb-true a b e))
same_back (name a) (negation i) e = absurd (true≢false (sym e))
same_back (name a) (and i j) e = absurd (true≢false (sym e))
same_back (name a) (or i j) e = absurd (true≢false (sym e))
same_back (name a) (some r i) e = absurd (true≢false (sym e))
same_back (name a) (only r i) e = absurd (true≢false (sym e))
same_back (negation i) d e = absurd (true≢false (sym e))
same_back (and i j) d e = absurd (true≢false (sym e))
same_back (or i j) d e = absurd (true≢false (sym e))
same_back (some r i) d e = absurd (true≢false (sym e))
same_back (only r i) d e = absurd (true≢false (sym e))

module _ (s : Sheet) where
  -- lines of one name are lines of the sheet
  named-inside : (i j : ℕ) → same_name (line s i) (line s j) ≡ true → j < count s
  named-inside i j e =
      elim (dec_lt j (count s)) [
        | yes b ↦ b
        | no b ↦ clashing (same_name (line s i) (line s j)) e
            (ap (same_name (line s i)) (get_or-eq_default s.lines top (omega arith)) ∙ nameless (line s i))
      ]

  pub shares-intro : (i j : ℕ) → (i ≡ j → ⊥) → same_name (line s i) (line s j) ≡ true → shares_name s i ≡ true
  unfolding shares_name
  shares-intro i j ne e =
      any-intro (λ j. flip (eqb i j) && same_name (line s i) (line s j)) (up_to (count s)) (up_to-intro (count s) j (named-inside i j e))
      (and_both (flip (eqb i j)) (same_name (line s i) (line s j)) (ap flip (ne_eqb i j ne)) e)

  pub shares-elim : (i : ℕ) → shares_name s i ≡ true → (j : ℕ) × (i ≡ j → ⊥) × (same_name (line s i) (line s j) ≡ true)
  unfolding shares_name
  shares-elim i e =
      let (j, _, both) = any-elim (λ j. flip (eqb i j) && same_name (line s i) (line s j)) (up_to (count s)) e in
      let ne : flip (eqb i j) ≡ true = and_left (flip (eqb i j)) (same_name (line s i) (line s j)) both in
      (j, eqb-false i j (not-true (eqb i j) ne), and_right (flip (eqb i j)) (same_name (line s i) (line s j)) both)

  pub shares-inside : (i : ℕ) → shares_name s i ≡ true → i < count s
  shares-inside i e = let (j, _, same) = shares-elim i e in named-inside j i (same_back (line s i) (line s j) same)

-- ---- other masks with the same words, or of another sheet with the same lines
-- the words of q are those of m
pub record SameWords (q m : Masks) : Type 0 where
  pub lines : q.lines ≡ m.lines
  pub bottoms : q.bottoms ≡ m.bottoms
  pub tops : q.tops ≡ m.tops
  pub shared : q.shared ≡ m.shared
  pub groups : (i : ℕ) → get_or q.groups i 0 ≡ get_or m.groups i 0

pub masks-moved : {s : Sheet} {m : Masks} (t : Sheet) (q : Masks) → MasksOf s m → t.lines ≡ s.lines → SameWords q m → MasksOf t q
unfolding shares_name
masks-moved t q right lines word = rw lines record {
  lines = λ i. rw word.lines (right.lines i);
  bottoms = λ i. rw word.bottoms (right.bottoms i);
  tops = λ i. rw word.tops (right.tops i);
  shared = λ i. rw word.shared (right.shared i);
  groups = λ i j b. rw (word.groups i) (right.groups i j b);
}

-- ---- the masks of a sheet, and a label
four : (h f b t u : Bool) → (h && b || f && t || h && f || h && u) ≡ ((((h && f) && true || h && (true && b)) || f && (true && t)) || h && u)
four true true true t u = refl
four true true false true u = refl
four true true false false u = refl
four true false true t u = refl
four true false false t u = refl
four false true b true u = refl
four false true b false u = refl
four false false b t u = refl

outside : (h f b t : Bool) → (((h && f) && false || h && (false && b)) || f && (false && t)) ≡ false
outside true true b t = refl
outside true false b t = refl
outside false true b t = refl
outside false false b t = refl

module _ {s : Sheet} {m : Masks} (right : MasksOf s m) (l : Label) where
  -- marks that clash whatever the names: both on one line, bottom holding, top failing
  abbrev pub plain : ℕ
  plain = bit_or (bit_or (bit_and (bit_and l.holding l.failing) m.lines) (bit_and l.holding m.bottoms)) (bit_and l.failing m.tops)

  abbrev held : ℕ → Bool
  held i = bit l.holding i

  abbrev failed : ℕ → Bool
  failed i = bit l.failing i

  -- a name that holds on line i and fails on another
  abbrev twin : ℕ → Bool
  twin i = any (λ j. failed j && same_name (line s i) (line s j)) (up_to (count s))

  plain-is : (i : ℕ) → bit plain i
      ≡ (((held i && failed i) && ltb i (count s) || held i && (ltb i (count s) && is_bottom (line s i))) || failed i && (ltb i (count s) && is_top (line s i)))
  plain-is i =
      bit-or (bit_or (bit_and (bit_and l.holding l.failing) m.lines) (bit_and l.holding m.bottoms)) (bit_and l.failing m.tops) i
      ∙ rw (
        bit-or (bit_and (bit_and l.holding l.failing) m.lines) (bit_and l.holding m.bottoms) i,
        bit-and (bit_and l.holding l.failing) m.lines i,
        bit-and l.holding l.failing i,
        bit-and l.holding m.bottoms i,
        bit-and l.failing m.tops i,
        right.lines i,
        right.bottoms i,
        right.tops i,
      ) refl

  -- the definition's tests of a line: the word has three, the last goes by names
  clash-at : (i : ℕ) → i < count s → clashes_at s l i ≡ (bit plain i || held i && twin i)
  unfolding clashes_at
  clash-at i b = rw (plain-is i, lt-ltb i (count s) b) (four (held i) (failed i) (is_bottom (line s i)) (is_top (line s i)) (twin i))

  plain-inside : (i : ℕ) → bit plain i ≡ true → i < count s
  plain-inside i e =
      elim (dec_lt i (count s)) [
        | yes b ↦ b
        | no b ↦ clashing (bit plain i) e
            (rw (plain-is i, le-ltb i (count s) (omega arith)) (outside (held i) (failed i) (is_bottom (line s i)) (is_top (line s i))))
      ]

  -- a word that is not empty is a clash
  pub plain-clashes : (plain ≡ 0 → ⊥) → clashes s l ≡ true
  unfolding clashes
  plain-clashes full =
      let (i, e) = some-member plain full in
      let b : i < count s = plain-inside i e in
      any-intro (clashes_at s l) (up_to (count s)) (up_to-intro (count s) i b) (clash-at i b ∙ or_left (bit plain i) (held i && twin i) e)

  module _ (none : plain ≡ 0) where
    no_plain : (i : ℕ) → bit plain i ≡ false
    no_plain i = ap (λ (x : ℕ). bit x i) none ∙ bit-none i

    -- then a name has to hold on one line and to fail on another
    by-twins : clashes s l ≡ any (λ i. held i && twin i) (up_to (count s))
    unfolding clashes
    by-twins =
        any-cong (clashes_at s l) (λ i. held i && twin i) (up_to (count s))
        (λ i k. clash-at i (up_to-elim (count s) i k) ∙ ap (λ (b : Bool). b || held i && twin i) (no_plain i))

    apart : (i j : ℕ) → held i ≡ true → failed j ≡ true → same_name (line s i) (line s j) ≡ true → i ≡ j → ⊥
    apart i j h f e q =
        let b : j < count s = named-inside s i j e in
        let h' : held j ≡ true = rw (← q) h in
        let both : bit plain j ≡ true =
        rw (plain-is j, h', f, lt-ltb j (count s) b)
        (or_left ((true && true) && true || true && (true && is_bottom (line s j))) (true && (true && is_top (line s j))) refl) in
        clashing (bit plain j) both (no_plain j)

    -- the two lines, which share their name
    record Pair : Type 0 where
      on : ℕ
      off : ℕ
      holds : held on ≡ true
      fails : failed off ≡ true
      same : same_name (line s on) (line s off) ≡ true

    pair : clashes s l ≡ true → Pair
    pair e =
        let (i, _, both) = any-elim (λ i. held i && twin i) (up_to (count s)) (sym by-twins ∙ e) in
        let (j, _, named) = any-elim (λ j. failed j && same_name (line s i) (line s j)) (up_to (count s)) (and_right (held i) (twin i) both) in
        record {
          on = i;
          off = j;
          holds = and_left (held i) (twin i) both;
          fails = and_left (failed j) (same_name (line s i) (line s j)) named;
          same = and_right (failed j) (same_name (line s i) (line s j)) named;
        }

    pair-clashes : Pair → clashes s l ≡ true
    pair-clashes q =
        let i = q.on in
        let j = q.off in
        by-twins
        ∙ any-intro (λ i. held i && twin i) (up_to (count s)) (up_to-intro (count s) i (named-inside s j i (same_back (line s i) (line s j) q.same)))
        (and_both (held i) (twin i) q.holds
        (any-intro (λ j. failed j && same_name (line s i) (line s j)) (up_to (count s)) (up_to-intro (count s) j (named-inside s i j q.same))
        (and_both (failed j) (same_name (line s i) (line s j)) q.fails q.same)))

    on-shares : (q : Pair) → bit m.shared q.on ≡ true
    on-shares q = right.shared q.on ∙ shares-intro s q.on q.off (apart q.on q.off q.holds q.fails q.same) q.same

    off-shares : (q : Pair) → bit m.shared q.off ≡ true
    off-shares q =
        right.shared q.off
        ∙ shares-intro s q.off q.on (λ e. apart q.on q.off q.holds q.fails q.same (sym e))
        (same_back (line s q.on) (line s q.off) q.same)

    nowhere : (t : ℕ) → bit_and t m.shared ≡ 0 → (i : ℕ) → bit t i ≡ true → bit m.shared i ≡ true → ⊥
    nowhere t e i a b = eqb-false (bit_and t m.shared) 0 (not-true (eqb (bit_and t m.shared) 0) (meets-intro t m.shared i a b)) e

    -- so no name is looked at where none of those that hold, or none of those that fail, is shared
    pub none-holds : bit_and l.holding m.shared ≡ 0 → clashes s l ≡ false
    none-holds e = ⊎_elim (λ c. let q = pair c in absurd (nowhere l.holding e q.on q.holds (on-shares q))) (λ c. c) (cases (clashes s l))

    pub none-fails : bit_and l.failing m.shared ≡ 0 → clashes s l ≡ false
    none-fails e = ⊎_elim (λ c. let q = pair c in absurd (nowhere l.failing e q.off q.fails (off-shares q))) (λ c. c) (cases (clashes s l))

    -- a line that holds and shares its name has one of its group failing
    pub by-groups : (n : ℕ) → l.holding < 2 ^ n → clashes s l ≡ any (λ i. meets l.failing (get_or m.groups i 0)) (members n (bit_and l.holding m.shared))
    unfolding members
    by-groups n fits =
        let sharing = bit_and l.holding m.shared in
        tests_same (clashes s l) (any (λ i. meets l.failing (get_or m.groups i 0)) (filter (bit sharing) (up_to n)))
        (λ e.
        let q = pair e in
        let i = q.on in
        let j = q.off in
        let b : i < count s = named-inside s j i (same_back (line s i) (line s j) q.same) in
        any-intro (λ i. meets l.failing (get_or m.groups i 0)) (filter (bit sharing) (up_to n))
        (filter-intro (bit sharing) (up_to n) (up_to-intro n i (bit_below l.holding n i fits q.holds))
        (bit-and l.holding m.shared i ∙ and_both (held i) (bit m.shared i) q.holds (on-shares q)))
        (meets-intro l.failing (get_or m.groups i 0) j q.fails (right.groups i j b ∙ q.same)))
        (λ e.
        let (i, k, met) = any-elim (λ i. meets l.failing (get_or m.groups i 0)) (filter (bit sharing) (up_to n)) e in
        let both : (held i && bit m.shared i) ≡ true = sym (bit-and l.holding m.shared i) ∙ (filter-elim (bit sharing) (up_to n) k).1 in
        let b : i < count s = shares-inside s i (sym (right.shared i) ∙ and_right (held i) (bit m.shared i) both) in
        let (j, f, g) = meets-elim l.failing (get_or m.groups i 0) met in
        pair-clashes (record { on = i; off = j; holds = and_left (held i) (bit m.shared i) both; fails = f; same = sym (right.groups i j b) ∙ g }))
