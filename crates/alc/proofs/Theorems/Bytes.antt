-- What the reader accepts and what it refuses: exactly the bytes of well-formed sheets within the limits are accepted, and each byte list has one outcome.
use Prim.Native.Nat.{ℕ, zero, suc, ◌+◌, ◌*◌, ◌-◌, ◌≤◌, ◌<◌}
use Rattle.std.specs.Prelude.{Bool, ◌&&◌, ◌||◌, ◌≡◌, refl, ◌↔◌, ◌⊎◌, take, eqb}
use Rattle.std.proofs.Math.Bool.{true, false}
use Rattle.std.proofs.Common.{sym, ◌∙◌, ap, subst, length-append, length-take, take_all, take-suc, take_at, take-take, get_or-take, length-take-le}
use Rattle.std.proofs.Math.Logic.{inl, inr, ⊎_elim}
use mathlib.Core.List.{List, [], ◌∷◌, ◌++◌, append_assoc, append-nil}
use Rattle.std.proofs.Math.ListN.{length, get_or}
use Rattle.std.proofs.Math.Seq.{append_snoc}
use Rattle.std.proofs.lemmas.List.{take-append-le, get_or_at}
use Rattle.std.proofs.Math.Dec.{ltb}
use borrow.Author.Tests.{ltb-true, ltb-false, lt-ltb, le-ltb, eqb-true, eqb-false}
use Rattle.std.proofs.Math.Decide.{dec_lt}
use native.Mathlib.Omega.{arith}
use Rattle.alc.specs.Lists.{each, all, from}
use Rattle.alc.specs.Sheet.{Line, top, bottom, name, negation, and, or, some, only, Rule, ClassAssertion, RoleAssertion, Sheet, name_count, role_count, count}
use Rattle.alc.specs.Sheet.{most_lines, most_rules, most_individuals, most_classes, most_roles, operands_below, line_in_limits, lines_well, rules_well}
use Rattle.alc.specs.Sheet.{classes_well, roles_well, well_formed, in_limits}
use Rattle.alc.specs.Bytes.{Read, refused, taken, then, number_at, below_at, operands_at, line_at, rule_at, class_at, role_at, several_at, counted_at, sections_at}
use Rattle.alc.specs.Bytes.{read_sheet, line_bytes, rule_bytes, class_bytes, role_bytes, bytes_of}
use Rattle.alc.specs.Promises.{LaidOut, Ends, BadlyFormed, FaultsOf}
use Rattle.alc.proofs.Theorems.Lists.{cases, or_cases, or-false-left, or-false-right, and_left, and_right, and_both, one-true}

-- from place p to place q the bytes are xs
record Spells (bs : List ℕ) (p : ℕ) (xs : List ℕ) (q : ℕ) : Type 0 where
  long : p + length xs ≡ q
  inside : q ≤ length bs
  spelled : take p bs ++ xs ≡ take q bs

module _ (bs : List ℕ) where
  -- one byte
  spells_one : (p : ℕ) → p < length bs → Spells bs p (get_or bs p 0 ∷ []) (suc p)
  spells_one p h = record { long = omega arith; inside = h; spelled = sym (take-suc bs p 0 h) }

  -- and what it tells
  one-spelled : (p v q : ℕ) → Spells bs p (v ∷ []) q → (p < length bs) × (get_or bs p 0 ≡ v) × (suc p ≡ q)
  one-spelled p v q w =
      let h : p < length bs = omega arith in
      let e : suc p ≡ q = omega arith in
      let there : get_or (take q bs) p 0 ≡ v = ap (λ (l : List ℕ). get_or l p 0) (sym w.spelled)
      ∙ get_or_at (take p bs) v [] 0 p (length-take-le p bs (omega arith)) in
      (h, sym (get_or-take q bs p 0 (omega arith)) ∙ there, e)

  -- what is spelled in two parts
  spells-append : (p q t : ℕ) (xs ys : List ℕ) → Spells bs p xs q → Spells bs q ys t → Spells bs p (xs ++ ys) t
  spells-append p q t xs ys v w =
      record {
        long = omega (arith, length-append xs ys);
        inside = w.inside;
        spelled = sym (append_assoc (take p bs) xs ys) ∙ ap (λ (r : List ℕ). r ++ ys) v.spelled ∙ w.spelled;
      }

  -- and taken apart again
  spells-split : (p t : ℕ) (xs ys : List ℕ) → Spells bs p (xs ++ ys) t → Spells bs p xs (p + length xs) × Spells bs (p + length xs) ys t
  spells-split p t xs ys w =
      let whole : (take p bs ++ xs) ++ ys ≡ take t bs = append_assoc (take p bs) xs ys ∙ w.spelled in
      let end : p + length xs ≤ t = omega (arith, length-append xs ys) in
      let front : take p bs ++ xs ≡ take (p + length xs) bs =
      sym (take_at (take p bs ++ xs) ys (p + length xs) (omega (arith, length-append (take p bs) xs, length-take p bs)))
      ∙ ap (take (p + length xs)) whole ∙ take-take (p + length xs) t bs end in (
        record { long = refl; inside = omega arith; spelled = front },
        record { long = omega (arith, length-append xs ys); inside = w.inside; spelled = ap (λ (r : List ℕ). r ++ ys) (sym front) ∙ whole },
      )

  -- other bytes behind place m, and the same in front of it
  same-front : (m : ℕ) (more : List ℕ) (j : ℕ) → j ≤ m → j ≤ length bs → (take j (take m bs ++ more) ≡ take j bs) × (j ≤ length (take m bs ++ more))
  same-front m more j h g = (
    take-append-le j (take m bs) more (omega (arith, length-take m bs)) ∙ take-take j m bs h,
    omega (arith, length-append (take m bs) more, length-take m bs),
  )

  -- what bs spells there, they spell
  spells-early : (p q m : ℕ) (xs more : List ℕ) → q ≤ m → Spells bs p xs q → Spells (take m bs ++ more) p xs q
  spells-early p q m xs more h w =
      let (e, _) = same-front m more p (omega arith) (omega arith) in
      let (f, inside) = same-front m more q h w.inside in
      record { long = w.long; inside = inside; spelled = rw (e, f) w.spelled }

  -- and what they spell, bs spells
  early-spells : (p q m : ℕ) (xs more : List ℕ) → q ≤ m → m ≤ length bs → Spells (take m bs ++ more) p xs q → Spells bs p xs q
  early-spells p q m xs more h g w =
      let (e, _) = same-front m more p (omega arith) (omega arith) in
      let (f, _) = same-front m more q h (omega arith) in
      record { long = w.long; inside = omega arith; spelled = rw (← e, ← f) w.spelled }

-- ---- readers, which have a place p: F reads the bytes, and R a xs says that value a may be read, from the bytes xs
module _ {A : Type 0} where
  -- what a refusal with number n at place k tells
  record Refusal (p : ℕ) (F : List ℕ → Read A) (bs : List ℕ) (n k : ℕ) : Type 0 where
    low : 0 < n
    high : n < 6
    after : p ≤ k
    within : k ≤ length bs
    ends : (n ≡ 1) ↔ Ends bs k
    badly : (n ≡ 2) ↔ BadlyFormed bs k
    early : 1 < n → (more : List ℕ) → F (take (2 + k) bs ++ more) ≡ refused n k
    before : (more : List ℕ) (m j : ℕ) → F (take k bs ++ more) ≡ refused m j → k ≤ j

  -- what a reading of bs at place p tells
  abbrev Outcome : ℕ → (A → List ℕ → Type 0) → (List ℕ → Read A) → List ℕ → Read A → Type 0
  Outcome p R F bs (refused n k) = Refusal p F bs n k
  Outcome p R F bs (taken a q) = (xs : List ℕ) × R a xs × Spells bs p xs q

  -- a reading takes exactly what R allows
  record Reads (p : ℕ) (R : A → List ℕ → Type 0) (F : List ℕ → Read A) : Type 0 where
    outcome : (bs : List ℕ) → p ≤ length bs → Outcome p R F bs (F bs)
    complete : (bs : List ℕ) (a : A) (xs : List ℕ) (q : ℕ) → R a xs → Spells bs p xs q → F bs ≡ taken a q

  -- a value that Ok allows, with its bytes
  abbrev Exactly : (A → Type 0) → (A → List ℕ) → A → List ℕ → Type 0
  Exactly Ok bytes a xs = Ok a × (xs ≡ bytes a)

  -- nothing is read
  reads_none : (p : ℕ) (a : A) → Reads p (Exactly (λ b. b ≡ a) (λ b. [])) (λ bs. taken a p)
  reads_none p a =
      record {
        outcome = λ bs h. ([], (refl, refl), record { long = omega arith; inside = h; spelled = append-nil (take p bs) });
        complete = λ bs b xs q r w. let e : p ≡ q = omega (arith, ap length r.1) in cc r.0;
      }

  -- the same values and bytes, said otherwise
  reads_same : {p : ℕ} {R S : A → List ℕ → Type 0} {F : List ℕ → Read A}
      → ((a : A) (xs : List ℕ) → R a xs → S a xs) → ((a : A) (xs : List ℕ) → S a xs → R a xs) → Reads p R F → Reads p S F
  reads_same {p} {R} {S} {F} to back f =
      record {
        outcome = λ bs h. go bs (F bs) (f.outcome bs h);
        complete = λ bs a xs q s w. f.complete bs a xs q (back a xs s) w;
      }
    where
      go : (bs : List ℕ) (r : Read A) → Outcome p R F bs r → Outcome p S F bs r
      go bs (refused n k) o = o
      go bs (taken a q) (xs, r, w) = (xs, to a xs r, w)

module _ {A B : Type 0} where
  -- a refusal by a part is one by the whole
  passed : {p q n k : ℕ} {F : List ℕ → Read A} {G : List ℕ → Read B} {bs : List ℕ}
      → p ≤ q → Refusal q F bs n k → ((more : List ℕ) → F (take (2 + k) bs ++ more) ≡ refused n k → G (take (2 + k) bs ++ more) ≡ refused n k)
      → ((more : List ℕ) (m j : ℕ) → G (take k bs ++ more) ≡ refused m j → k ≤ j) → Refusal p G bs n k
  passed h o g b =
      record {
        low = o.low;
        high = o.high;
        after = omega arith;
        within = o.within;
        ends = o.ends;
        badly = o.badly;
        early = λ u more. g more (o.early u more);
        before = b;
      }

module _ {A B : Type 0} where
  -- the bytes of an a, and behind them what is read after it
  abbrev Then : (A → Type 0) → (A → List ℕ) → (A → B → List ℕ → Type 0) → B → List ℕ → Type 0
  Then Ok bytes R b zs = (a : A) × (ys : List ℕ) × Ok a × R a b ys × (zs ≡ bytes a ++ ys)

  -- first one reader, then another
  reads_then : {p : ℕ} {Ok : A → Type 0} {bytes : A → List ℕ} {R : A → B → List ℕ → Type 0} {F : List ℕ → Read A} {G : A → ℕ → List ℕ → Read B}
      → Reads p (Exactly Ok bytes) F → ((a : A) (q : ℕ) → Ok a → Reads q (R a) (G a q))
      → Reads p (Then Ok bytes R) (λ bs. then (F bs) (λ a q. G a q bs))
  reads_then {p} {Ok} {bytes} {R} {F} {G} f g =
      record {
        outcome = λ bs h. first bs (F bs) refl (f.outcome bs h);
        complete = λ bs b zs t (a, ys, v, r, e) w.
            let (w₁, w₂) = spells-split bs p t (bytes a) ys (rw e at w) in
            rw (f.complete bs a (bytes a) (p + length (bytes a)) (v, refl) w₁) ((g a (p + length (bytes a)) v).complete bs b ys t r w₂);
      }
    where
      both : List ℕ → Read B
      both bs = then (F bs) (λ a q. G a q bs)

      second : (bs : List ℕ) (a : A) (q : ℕ) → Ok a → Spells bs p (bytes a) q → (r : Read B) → Outcome q (R a) (G a q) bs r
          → Outcome p (Then Ok bytes R) both bs r
      second bs a q v w (refused n k) o =
          passed (omega arith) o
          (λ more e.
          let w' = spells-early bs p q (2 + k) (bytes a) more (omega arith) w in
          rw (f.complete (take (2 + k) bs ++ more) a (bytes a) q (v, refl) w') e)
          (λ more m j e.
          let w' = spells-early bs p q k (bytes a) more o.after w in
          let read = f.complete (take k bs ++ more) a (bytes a) q (v, refl) w' in
          o.before more m j (sym (ap (λ (x : Read A). then x (λ a q. G a q (take k bs ++ more))) read) ∙ e))
      second bs a q v w (taken b t) (ys, r, z) = (bytes a ++ ys, (a, ys, v, r, refl), spells-append bs p q t (bytes a) ys w z)

      -- with other bytes from the first reader's fault on, no fault comes earlier
      earlier : (bs : List ℕ) (n k : ℕ) → F bs ≡ refused n k → Refusal p F bs n k → (more : List ℕ) (m j : ℕ) (r : Read A) → F (take k bs ++ more) ≡ r
          → Outcome p (Exactly Ok bytes) F (take k bs ++ more) r → then r (λ a q. G a q (take k bs ++ more)) ≡ refused m j → k ≤ j
      earlier bs n k is o more m j (refused i h) eq _ e = let same : h ≡ j = cc in omega (arith, o.before more i h eq)
      earlier bs n k is o more m j (taken a q) eq (xs, (v, x), w) e =
          let behind : Refusal q (G a q) (take k bs ++ more) m j = subst (Outcome q (R a) (G a q) (take k bs ++ more)) e ((g a q v).outcome _ w.inside) in
          elim (dec_lt q k) [
            | no far ↦ omega (arith, behind.after)
            | yes near ↦
                let read = f.complete bs a xs q (v, x) (early-spells bs p q k xs more (omega arith) o.within w) in
                absurd (let z : ◌≡◌ {A = ℕ} 0 1 = cc in omega arith)
          ]

      first : (bs : List ℕ) (r : Read A) → F bs ≡ r → Outcome p (Exactly Ok bytes) F bs r → Outcome p (Then Ok bytes R) both bs (then r (λ a q. G a q bs))
      first bs (refused n k) is o =
          passed (omega arith) o (λ more e. rw e)
          (λ more m j e. earlier bs n k is o more m j (F (take k bs ++ more)) refl
          (f.outcome (take k bs ++ more) (omega (arith, o.after, (same-front bs k more k (omega arith) o.within).1))) e)
      first bs (taken a q) _ (xs, (v, e), w) = second bs a q v (rw e at w) (G a q bs) ((g a q v).outcome bs w.inside)

-- ---- numbers
-- a number of one byte, or of two that are there
abbrev Whole : List ℕ → ℕ → Type 0
Whole bs p = (p < length bs) × ((get_or bs p 0 < 128) ⊎ ((suc p < length bs) × (128 ≤ get_or bs p 0)))

-- a well-formed number; below 128 it is its one byte
abbrev Value : List ℕ → ℕ → Type 0
Value bs p = (v : ℕ) × (q : ℕ) × (number_at bs p ≡ taken v q) × (v < 128 → (v ≡ get_or bs p 0) × (q ≡ suc p)) × (BadlyFormed bs p → ⊥)

-- a number of two bytes b and c
two : ℕ → ℕ → ℕ → Read ℕ
two p b c = elim (eqb c 0 || ltb 127 c) [ true ↦ refused 2 p | false ↦ taken (b - 128 + 128 * c) (suc (suc p)) ]

module _ (bs : List ℕ) (p : ℕ) where
  -- the two kinds of numbers
  number-one : p < length bs → get_or bs p 0 < 128 → number_at bs p ≡ taken (get_or bs p 0) (suc p)
  unfolding number_at
  number-one h g = rw (lt-ltb p (length bs) h, lt-ltb (get_or bs p 0) 128 g, number_at)

  number-two : p < length bs → suc p < length bs → 128 ≤ get_or bs p 0 → number_at bs p ≡ two p (get_or bs p 0) (get_or bs (suc p) 0)
  unfolding number_at two
  number-two h k g = rw (lt-ltb p (length bs) h, le-ltb (get_or bs p 0) 128 g, lt-ltb (suc p) (length bs) k, number_at)

  -- what a whole number gives: two bytes may be badly formed, and are 128 or more
  number-whole : Whole bs p → ((number_at bs p ≡ refused 2 p) × BadlyFormed bs p) ⊎ Value bs p
  unfolding two
  number-whole (h, inl g) = inr (get_or bs p 0, suc p, number-one h g, (λ _. (refl, refl)), λ (_, b, _). omega arith)
  number-whole (h, inr (k, g)) =
      let c = get_or bs (suc p) 0 in
      ⊎_elim
      (λ (e : (eqb c 0 || ltb 127 c) ≡ true). inl (
        rw (number-two h k g, two, e),
        (k, g, ⊎_elim (λ z. inl (eqb-true c 0 z)) (λ z. inr (ltb-true 127 c z)) (or_cases (eqb c 0) (ltb 127 c) e)),
      ))
      (λ (e : (eqb c 0 || ltb 127 c) ≡ false).
      inr (
        get_or bs p 0 - 128 + 128 * c,
        suc (suc p),
        rw (number-two h k g, two, e),
        (λ u. absurd (omega (arith, not-zero e))),
        λ (_, _, b). ⊎_elim (not-zero e) (λ z. omega (arith, ltb-false 127 c (or-false-right (eqb c 0) (ltb 127 c) e))) b,
      ))
      (cases (eqb c 0 || ltb 127 c))
    where
      not-zero : (eqb (get_or bs (suc p) 0) 0 || ltb 127 (get_or bs (suc p) 0)) ≡ false → get_or bs (suc p) 0 ≡ 0 → ⊥
      not-zero e = eqb-false (get_or bs (suc p) 0) 0 (or-false-left (eqb (get_or bs (suc p) 0) 0) (ltb 127 (get_or bs (suc p) 0)) e)

  -- and does not end the sheet
  whole-goes-on : Whole bs p → Ends bs p → ⊥
  whole-goes-on (h, w) (inl e) = omega arith
  whole-goes-on (h, w) (inr (e, g)) = ⊎_elim (λ b. omega arith) (λ (k, _). omega arith) w

  -- a number is whole, or the sheet ends
  number_is : p ≤ length bs → Whole bs p ⊎ (Ends bs p × (number_at bs p ≡ refused 1 p))
  unfolding number_at
  number_is h = elim (dec_lt p (length bs)) [
    | no a ↦ let end : length bs ≡ p = omega arith in inr (inl (sym end), rw (le-ltb p (length bs) (omega arith), number_at) (ap (refused 1) end))
    | yes a ↦ elim (dec_lt (get_or bs p 0) 128) [
      | yes b ↦ inl (a, inl b)
      | no b ↦ elim (dec_lt (suc p) (length bs)) [
        | yes c ↦ inl (a, inr (c, omega arith))
        | no c ↦ inr (
          inr (omega arith, omega arith),
          rw (lt-ltb p (length bs) a, le-ltb (get_or bs p 0) 128 (omega arith), le-ltb (suc p) (length bs) (omega arith), number_at),
        )
      ]
    ]
  ]

-- nothing behind a whole number matters
number-early : (bs : List ℕ) (p : ℕ) (more : List ℕ) → Whole bs p → number_at (take (2 + p) bs ++ more) p ≡ number_at bs p
number-early bs p more (h, w) =
    let (a, e, _) = byte p h (omega arith) in
    ⊎_elim
    (λ (g : get_or bs p 0 < 128). rw (number-one bs p h g, number-one cut p a (omega arith), e))
    (λ ((k, g) : (suc p < length bs) × (128 ≤ get_or bs p 0)).
    let (b, f, _) = byte (suc p) k (omega arith) in rw (number-two bs p h k g, number-two cut p a b (omega arith), e, f))
    w
  where
    cut : List ℕ
    cut = take (2 + p) bs ++ more

    byte : (j : ℕ) → j < length bs → j < 2 + p → (j < length cut) × (get_or cut j 0 ≡ get_or bs j 0) × (suc j ≡ suc j)
    byte j h g = one-spelled cut j (get_or bs j 0) (suc j) (spells-early bs j (suc j) (2 + p) (get_or bs j 0 ∷ []) more g (spells_one bs j h))

-- a number below n has one byte, for the limits are small
module _ (n why : ℕ) (fit : (n ≤ 128) × (2 < why) × (why < 6)) where
  -- the test against the limit
  below-test : (bs : List ℕ) (p v q : ℕ) → number_at bs p ≡ taken v q → (b : Bool) → ltb v n ≡ b
      → below_at bs n why p ≡ elim b [ true ↦ taken v q | false ↦ refused why p ]
  unfolding below_at
  below-test bs p v q e b t = rw (e, then, t)

  reads-below : (p : ℕ) → Reads p (Exactly (λ v. ltb v n ≡ true) (λ v. v ∷ [])) (λ bs. below_at bs n why p)
  unfolding below_at
  reads-below p =
      record {
        outcome = λ bs h. ⊎_elim (begun bs h) (ended bs h) (number_is bs p h);
        complete = λ bs v xs q (t, e) w.
            let (h, g, k) = one-spelled bs p v q (rw e at w) in
            let l : v < n = ltb-true v n t in
            below-test bs p v q (number-one bs p h (omega arith) ∙ (λ i. taken (g i) (k i))) true t;
      }
    where
      Out : List ℕ → Type 0
      Out bs = Outcome p (Exactly (λ v. ltb v n ≡ true) (λ v. v ∷ [])) (λ bs. below_at bs n why p) bs (below_at bs n why p)

      -- a refusal is nowhere before p
      not-before : (bs : List ℕ) (m j : ℕ) → p ≤ length bs → below_at bs n why p ≡ refused m j → p ≤ j
      not-before bs m j h e =
          ⊎_elim
          (λ w. ⊎_elim
          (λ ((f, _) : (number_at bs p ≡ refused 2 p) × BadlyFormed bs p). at 2 (rw f))
          (λ ((v, q, f, _, _) : Value bs p).
          ⊎_elim
          (λ t. absurd (let z : ◌≡◌ {A = ℕ} 0 1 = cc (below-test bs p v q f true t) in omega arith))
          (λ t. at why (below-test bs p v q f false t))
          (cases (ltb v n)))
          (number-whole bs p w))
          (λ ((_, f) : Ends bs p × (number_at bs p ≡ refused 1 p)). at 1 (rw f))
          (number_is bs p h)
        where
          at : (i : ℕ) → below_at bs n why p ≡ refused i p → p ≤ j
          at i f = let same : p ≡ j = cc in omega arith

      nothing-before : (bs : List ℕ) → p ≤ length bs → (more : List ℕ) (m j : ℕ) → below_at (take p bs ++ more) n why p ≡ refused m j → p ≤ j
      nothing-before bs h more m j = not-before (take p bs ++ more) m j (same-front bs p more p (omega arith) h).1

      ended : (bs : List ℕ) → p ≤ length bs → Ends bs p × (number_at bs p ≡ refused 1 p) → Out bs
      ended bs h (c, e) = rw e (record {
        low = omega arith;
        high = omega arith;
        after = omega arith;
        within = h;
        ends = (λ _. c, λ _. refl);
        badly = (λ z. absurd (omega arith), λ (b, _, _). absurd (⊎_elim (λ e. omega arith) (λ (e, _). omega arith) c));
        early = λ z more. absurd (omega arith);
        before = nothing-before bs h;
      })

      -- a whole number that is refused
      faulty : (bs : List ℕ) (k : ℕ) → p ≤ length bs → Whole bs p → (1 < k) × (k < 6) → ((k ≡ 2) ↔ BadlyFormed bs p) → below_at bs n why p ≡ refused k p → Out bs
      faulty bs k h w g b e =
          rw e (record {
            low = omega arith;
            high = g.1;
            after = omega arith;
            within = h;
            ends = (λ z. absurd (omega arith), λ z. absurd (whole-goes-on bs p w z));
            badly = b;
            early = λ _ more. rw (number-early bs p more w) e;
            before = nothing-before bs h;
          })

      begun : (bs : List ℕ) → p ≤ length bs → Whole bs p → Out bs
      begun bs h w =
          ⊎_elim
          (λ (e, b). faulty bs 2 h w (omega arith) (λ _. b, λ _. refl) (rw e))
          (λ ((v, q, e, k, well) : Value bs p).
          ⊎_elim
          (λ (t : ltb v n ≡ true).
          let (a, b) = k (omega (arith, ltb-true v n t)) in
          rw (below-test bs p v q e true t) (v ∷ [], (t, refl), rw (a, b) (spells_one bs p w.0)))
          (λ t. faulty bs why h w (omega arith) (λ z. absurd (omega arith), λ b. absurd (well b)) (below-test bs p v q e false t))
          (cases (ltb v n)))
          (number-whole bs p w)

-- ---- entries
and-swap : (a b : Bool) → (a && b) ≡ true → (b && a) ≡ true
and-swap a b t = and_both b a (and_right a b t) (and_left a b t)

module _ {A : Type 0} where
  -- made of one number below m
  abbrev One : ℕ → (ℕ → A) → A → List ℕ → Type 0
  One m con a zs = (i : ℕ) × (ltb i m ≡ true) × (a ≡ con i) × (zs ≡ i ∷ [])

  -- made of two, below m and n
  abbrev Two : ℕ → ℕ → (ℕ → ℕ → A) → A → List ℕ → Type 0
  Two m n con a zs = (i : ℕ) × (j : ℕ) × ((ltb i m && ltb j n) ≡ true) × (a ≡ con i j) × (zs ≡ i ∷ j ∷ [])

module _ {A : Type 0} (m why : ℕ) (fit : (m ≤ 128) × (2 < why) × (why < 6)) where
  reads-one : (con : ℕ → A) (p : ℕ) → Reads p (One m con) (λ bs. then (below_at bs m why p) (λ i q. taken (con i) q))
  reads-one con p =
      reads_same
      (λ a zs (i, ys, t, (ea, ey), ez). (i, t, ea, cc))
      (λ a zs (i, t, ea, ez). (i, [], t, (ea, refl), ez))
      (reads_then (reads-below m why fit p) (λ i q _. reads_none q (con i)))

  reads_two : (n : ℕ) → n ≤ 128 → (con : ℕ → ℕ → A) (p : ℕ)
      → Reads p (Two m n con) (λ bs. then (below_at bs m why p) (λ i q. then (below_at bs n 5 q) (λ j t. taken (con i j) t)))
  reads_two n h con p =
      reads_same
      (λ a zs (i, ys, ti, (j, us, tj, (ea, eu), ey), ez). (i, j, and_both (ltb i m) (ltb j n) ti tj, ea, cc))
      (λ a zs (i, j, t, ea, ez). (i, j ∷ [], and_left (ltb i m) (ltb j n) t, (j, [], and_right (ltb i m) (ltb j n) t, (ea, refl), refl), ez))
      (reads_then (reads-below m why fit p) (λ i q _. reads_then (reads-below n 5 (omega arith) q) (λ j t _. reads_none t (con i j))))

-- a rule over n lines
abbrev rule_ok : ℕ → Rule → Bool
rule_ok n r = ltb r.sub n && ltb r.sup n

reads-rule : (n i p : ℕ) → n ≤ 128 → Reads p (Exactly (λ r. rule_ok n r ≡ true) rule_bytes) (λ bs. rule_at bs n i p)
unfolding rule_at
reads-rule n i p h =
    reads_same
    (λ r zs (c, d, t, e, ez). rw e (t, ez))
    (λ r zs (t, ez). (r.sub, r.sup, t, refl, ez))
    (reads_two n 5 (omega arith) n h (λ c d. record { sub = c; sup = d }) p)

-- a class assertion over n lines and k individuals
abbrev class_ok : ℕ → ℕ → ClassAssertion → Bool
class_ok n k a = ltb a.individual k && ltb a.class n

reads-class : (n k i p : ℕ) → n ≤ 128 → k ≤ 128 → Reads p (Exactly (λ a. class_ok n k a ≡ true) class_bytes) (λ bs. class_at bs n k i p)
unfolding class_at
reads-class n k i p h g =
    reads_same
    (λ a zs (c, d, t, e, ez). rw e (t, ez))
    (λ a zs (t, ez). (a.individual, a.class, t, refl, ez))
    (reads_two k 5 (omega arith) n h (λ c d. record { individual = c; class = d }) p)

-- a role assertion over k individuals
abbrev role_ok : ℕ → RoleAssertion → Bool
role_ok k e = ltb e.source k && ltb e.target k

abbrev role_in_limits : RoleAssertion → Bool
role_in_limits e = ltb e.role role_count

reads-role : (k i p : ℕ) → k ≤ 128 → Reads p (Exactly (λ e. (role_ok k e && role_in_limits e) ≡ true) role_bytes) (λ bs. role_at bs k i p)
unfolding role_at
reads-role k i p h =
    reads_same
    (λ e zs (r, ys, t, (a, b, u, ee, ey), ez). rw ee (and_both (ltb a k && ltb b k) (ltb r role_count) u t, cc))
    (λ e zs (t, ez).
    let u = and_right (role_ok k e) (role_in_limits e) t in
    (e.role, e.source ∷ e.target ∷ [], u, (e.source, e.target, and_left (role_ok k e) (role_in_limits e) t, refl, refl), ez))
    (reads_then (reads-below role_count 4 (omega arith) p) (λ r q _. reads_two k 5 (omega arith) k h (λ a b. record { role = r; source = a; target = b }) q))

-- ---- lines
-- what may stand behind kind k
abbrev Operands : ℕ → ℕ → Line → List ℕ → Type 0
Operands own zero = Exactly (λ l. l ≡ top) (λ l. [])
Operands own (suc zero) = Exactly (λ l. l ≡ bottom) (λ l. [])
Operands own (suc (suc zero)) = One name_count name
Operands own (suc (suc (suc zero))) = One own negation
Operands own (suc (suc (suc (suc zero)))) = Two own own and
Operands own (suc (suc (suc (suc (suc zero))))) = Two own own or
Operands own (suc (suc (suc (suc (suc (suc zero)))))) = Two role_count own some
Operands own (suc (suc (suc (suc (suc (suc (suc k))))))) = Two role_count own only

-- the line with number `own`
abbrev line_ok : ℕ → Line → Bool
line_ok own l = operands_below own l && line_in_limits l

module _ (own : ℕ) (small : own ≤ 128) where
  reads-operands : (k p : ℕ) → Reads p (Operands own k) (λ bs. operands_at bs own k p)
  unfolding operands_at
  reads-operands zero p = reads_none p top
  reads-operands (suc zero) p = reads_none p bottom
  reads-operands (suc (suc zero)) p = reads-one name_count 4 (omega arith) name p
  reads-operands (suc (suc (suc zero))) p = reads-one own 5 (omega arith) negation p
  reads-operands (suc (suc (suc (suc zero)))) p = reads_two own 5 (omega arith) own small and p
  reads-operands (suc (suc (suc (suc (suc zero))))) p = reads_two own 5 (omega arith) own small or p
  reads-operands (suc (suc (suc (suc (suc (suc zero)))))) p = reads_two role_count 4 (omega arith) own small some p
  reads-operands (suc (suc (suc (suc (suc (suc (suc k))))))) p = reads_two role_count 4 (omega arith) own small only p

  -- kind and operands are the bytes of a line that may stand there
  operands-line : (k : ℕ) (l : Line) (ys : List ℕ) → k < 8 → Operands own k l ys → (line_ok own l ≡ true) × (k ∷ ys ≡ line_bytes l)
  operands-line zero l ys h (e, ey) = rw e (refl, rw ey)
  operands-line (suc zero) l ys h (e, ey) = rw e (refl, rw ey)
  operands-line (suc (suc zero)) l ys h (a, t, e, ey) = rw e (t, rw ey)
  operands-line (suc (suc (suc zero))) l ys h (i, t, e, ey) = rw e (one-true (ltb i own) t, rw ey)
  operands-line (suc (suc (suc (suc zero)))) l ys h (i, j, t, e, ey) = rw e (one-true (ltb i own && ltb j own) t, rw ey)
  operands-line (suc (suc (suc (suc (suc zero))))) l ys h (i, j, t, e, ey) = rw e (one-true (ltb i own && ltb j own) t, rw ey)
  operands-line (suc (suc (suc (suc (suc (suc zero)))))) l ys h (r, i, t, e, ey) = rw e (and-swap (ltb r role_count) (ltb i own) t, rw ey)
  operands-line (suc (suc (suc (suc (suc (suc (suc zero))))))) l ys h (r, i, t, e, ey) = rw e (and-swap (ltb r role_count) (ltb i own) t, rw ey)
  operands-line (suc (suc (suc (suc (suc (suc (suc (suc k)))))))) l ys h o = absurd (omega arith)

  -- and every such line has a kind and operands
  line-operands : (l : Line) → line_ok own l ≡ true → (k : ℕ) × (ys : List ℕ) × (ltb k 8 ≡ true) × Operands own k l ys × (line_bytes l ≡ k ∷ ys)
  line-operands top t = (0, [], refl, (refl, refl), refl)
  line-operands bottom t = (1, [], refl, (refl, refl), refl)
  line-operands (name a) t = (2, a ∷ [], refl, (a, t, refl, refl), refl)
  line-operands (negation i) t = (3, i ∷ [], refl, (i, and_left (ltb i own) true t, refl, refl), refl)
  line-operands (and i j) t = (4, i ∷ j ∷ [], refl, (i, j, and_left (ltb i own && ltb j own) true t, refl, refl), refl)
  line-operands (or i j) t = (5, i ∷ j ∷ [], refl, (i, j, and_left (ltb i own && ltb j own) true t, refl, refl), refl)
  line-operands (some r i) t = (6, r ∷ i ∷ [], refl, (r, i, and-swap (ltb i own) (ltb r role_count) t, refl, refl), refl)
  line-operands (only r i) t = (7, r ∷ i ∷ [], refl, (r, i, and-swap (ltb i own) (ltb r role_count) t, refl, refl), refl)

  reads-line : (p : ℕ) → Reads p (Exactly (λ l. line_ok own l ≡ true) line_bytes) (λ bs. line_at bs own p)
  unfolding line_at
  reads-line p =
      reads_same
      (λ l zs (k, ys, t, o, e). let (u, c) = operands-line k l ys (ltb-true k 8 t) o in (u, e ∙ c))
      (λ l zs (t, e). let (k, ys, u, o, c) = line-operands l t in (k, ys, u, o, e ∙ c))
      (reads_then (reads-below 8 4 (omega arith) p) (λ k q _. reads-operands k q))

-- ---- several entries
and-four : (a b c d : Bool) → ((a && b) && (c && d)) ≡ ((a && c) && (b && d))
and-four false b c d = refl
and-four true true c d = refl
and-four true false false d = refl
and-four true false true d = refl

module _ {A : Type 0} where
  -- all pass, where the first has number i
  abbrev all_from : (ℕ → A → Bool) → ℕ → List A → Bool
  all_from t i [] = true
  all_from t i (a ∷ l) = t i a && all_from t (suc i) l

  -- the bytes of a section
  abbrev section : (A → List ℕ) → List A → List ℕ
  section bytes l = length l ∷ each bytes l

  -- the number does not matter
  all_from-same : (t : A → Bool) (i : ℕ) (l : List A) → all_from (λ j. t) i l ≡ all t l
  all_from-same t i [] = refl
  all_from-same t i (a ∷ l) = ap (λ b. t a && b) (all_from-same t (suc i) l)

  -- two tests, of which one does not ask for the number
  all_from-both : (t : ℕ → A → Bool) (u : A → Bool) (i : ℕ) (l : List A) → all_from (λ j a. t j a && u a) i l ≡ (all_from t i l && all u l)
  all_from-both t u i [] = refl
  all_from-both t u i (a ∷ l) = ap (λ b. (t i a && u a) && b) (all_from-both t u (suc i) l) ∙ and-four (t i a) (u a) (all_from t (suc i) l) (all u l)

  -- as `lines_well` says it, by number
  all_from_at : (t : ℕ → A → Bool) (d : A) (before l : List A) (i : ℕ) → length before ≡ i
      → all (λ j. t j (get_or (before ++ l) j d)) (from i (length l)) ≡ all_from t i l
  all_from_at t d before [] i e = refl
  all_from_at t d before (a ∷ l) i e =
      let rest = all_from_at t d (before ++ (a ∷ [])) l (suc i) (omega (arith, length-append before (a ∷ []))) in
      rw (get_or_at before a l d i e)
      (ap (λ b. t i a && b) (subst (λ (w : List A). all (λ j. t j (get_or w j d)) (from (suc i) (length l)) ≡ all_from t (suc i) l) (append_snoc before a l) rest))

module _ {A : Type 0} (ok : ℕ → A → Bool) (bytes : A → List ℕ) (one : List ℕ → ℕ → ℕ → Read A)
    (reads : (i p : ℕ) → i < 128 → Reads p (Exactly (λ a. ok i a ≡ true) bytes) (λ bs. one bs i p)) where
  -- k of them, the first with number i
  reads-several : (i k p : ℕ) → i + k ≤ 128 → Reads p (Exactly (λ l. (length l ≡ k) × (all_from ok i l ≡ true)) (each bytes)) (λ bs. several_at (one bs) i k p)
  reads-several i zero p h = reads_same (λ l zs (e, ez). rw e ((refl, refl), ez)) none (reads_none p [])
    where
      none : (l : List A) (zs : List ℕ) → Exactly (λ l. (length l ≡ 0) × (all_from ok i l ≡ true)) (each bytes) l zs → (l ≡ []) × (zs ≡ [])
      none [] zs r = (refl, r.1)
      none (a ∷ l) zs r = absurd (omega (arith, r.0.0))
  reads-several i (suc k) p h =
      reads_same
      (λ l zs (a, ys, t, (m, us, (n, u), (el, eu), ey), ez). rw el ((ap suc n, and_both (ok i a) (all_from ok (suc i) m) t u), cc (append-nil (each bytes m))))
      back
      (reads_then (reads i p (omega arith)) (λ a q _. reads_then (reads-several (suc i) k q (omega arith)) (λ l t _. reads_none t (a ∷ l))))
    where
      back : (l : List A) (zs : List ℕ) → Exactly (λ l. (length l ≡ suc k) × (all_from ok i l ≡ true)) (each bytes) l zs
          → Then (λ a. ok i a ≡ true) bytes (λ a. Then (λ m. (length m ≡ k) × (all_from ok (suc i) m ≡ true)) (each bytes)
          (λ m. Exactly (λ b. b ≡ a ∷ m) (λ b. []))) l zs
      back [] zs ((n, t), e) = absurd (omega arith)
      back (a ∷ l) zs ((n, t), e) = (
        a,
        each bytes l,
        and_left (ok i a) (all_from ok (suc i) l) t,
        (l, [], (omega arith, and_right (ok i a) (all_from ok (suc i) l) t), (refl, refl), sym (append-nil (each bytes l))),
        e,
      )

  -- their count, and then they themselves
  reads-counted : (n p : ℕ) → n < 128
      → Reads p (Exactly (λ l. (ltb (length l) (suc n) ≡ true) × (all_from ok 0 l ≡ true)) (section bytes)) (λ bs. counted_at bs n (one bs) p)
  reads-counted n p h =
      reads_same
      (λ l zs (k, ys, t, ((e, u), ey), ez). ((rw e t, u), cc))
      (λ l zs ((t, u), ez). (length l, each bytes l, t, ((refl, u), refl), ez))
      (reads_then (reads-below (suc n) 3 (omega arith) p) (λ k q t. reads-several 0 k q (omega (arith, ltb-true k (suc n) t))))

-- ---- the whole sheet
-- what the reader tests, section by section
record Checked (s : Sheet) : Type 0 where
  lines : (ltb (count s) (suc most_lines) ≡ true) × (all_from line_ok 0 s.lines ≡ true)
  rules : (ltb (length s.rules) (suc most_rules) ≡ true) × (all_from (λ i. rule_ok (count s)) 0 s.rules ≡ true)
  individuals : ltb s.individuals (suc most_individuals) ≡ true
  classes : (ltb (length s.classes) (suc most_classes) ≡ true) × (all_from (λ i. class_ok (count s) s.individuals) 0 s.classes ≡ true)
  roles : (ltb (length s.roles) (suc most_roles) ≡ true) × (all_from (λ i e. role_ok s.individuals e && role_in_limits e) 0 s.roles ≡ true)

-- the reader's tests are those of `well_formed` and `in_limits`
lines_are : (s : Sheet) → all_from line_ok 0 s.lines ≡ (lines_well s && all line_in_limits s.lines)
unfolding lines_well
lines_are s = all_from-both operands_below line_in_limits 0 s.lines
    ∙ ap (λ b. b && all line_in_limits s.lines) (sym (all_from_at operands_below top [] s.lines 0 refl))

rules-are : (s : Sheet) → all_from (λ i. rule_ok (count s)) 0 s.rules ≡ rules_well s
unfolding rules_well
rules-are s = all_from-same (rule_ok (count s)) 0 s.rules

classes-are : (s : Sheet) → all_from (λ i. class_ok (count s) s.individuals) 0 s.classes ≡ classes_well s
unfolding classes_well
classes-are s = all_from-same (class_ok (count s) s.individuals) 0 s.classes

roles-are : (s : Sheet) → all_from (λ i e. role_ok s.individuals e && role_in_limits e) 0 s.roles ≡ (roles_well s && all role_in_limits s.roles)
unfolding roles_well
roles-are s =
    all_from-both (λ i. role_ok s.individuals) role_in_limits 0 s.roles
    ∙ ap (λ b. b && all role_in_limits s.roles) (all_from-same (role_ok s.individuals) 0 s.roles)

checked-well : (s : Sheet) → Checked s → (well_formed s ≡ true) × (in_limits s ≡ true)
unfolding in_limits
checked-well s t =
    let l : (lines_well s && all line_in_limits s.lines) ≡ true = sym (lines_are s) ∙ t.lines.1 in
    let l₁ : lines_well s ≡ true = search and_left in
    let l₂ : all line_in_limits s.lines ≡ true = search and_right in
    let r : rules_well s ≡ true = sym (rules-are s) ∙ t.rules.1 in
    let c : classes_well s ≡ true = sym (classes-are s) ∙ t.classes.1 in
    let e : (roles_well s && all role_in_limits s.roles) ≡ true = sym (roles-are s) ∙ t.roles.1 in
    let e₁ : roles_well s ≡ true = search and_left in
    let e₂ : all role_in_limits s.roles ≡ true = search and_right in
    (search and_both, search and_both depth 9)

well-checked : (s : Sheet) → well_formed s ≡ true → in_limits s ≡ true → Checked s
unfolding in_limits
well-checked s w l =
    let l₁ : lines_well s ≡ true = search (and_left, and_right) in
    let l₂ : all line_in_limits s.lines ≡ true = search (and_left, and_right) depth 9 in
    let r : rules_well s ≡ true = search (and_left, and_right) in
    let c : classes_well s ≡ true = search (and_left, and_right) in
    let e₁ : roles_well s ≡ true = search (and_left, and_right) in
    let e₂ : all role_in_limits s.roles ≡ true = search (and_left, and_right) depth 9 in
    record {
      lines = (search (and_left, and_right) depth 9, lines_are s ∙ and_both _ _ l₁ l₂);
      rules = (search (and_left, and_right) depth 9, rules-are s ∙ r);
      individuals = search (and_left, and_right) depth 9;
      classes = (search (and_left, and_right) depth 9, classes-are s ∙ c);
      roles = (search (and_left, and_right) depth 9, roles-are s ∙ and_both _ _ e₁ e₂);
    }

-- the bytes, section by section
bytes-are : (s : Sheet)
    → bytes_of s
    ≡ section line_bytes s.lines ++ (section rule_bytes s.rules
    ++ ((s.individuals ∷ []) ++ (section class_bytes s.classes ++ (section role_bytes s.roles ++ []))))
unfolding bytes_of
bytes-are s = simp (append_assoc, append-nil)

-- a sheet that may stand, and its bytes
abbrev Laid : Sheet → List ℕ → Type 0
Laid = Exactly (λ s. (well_formed s ≡ true) × (in_limits s ≡ true)) bytes_of

reads-sections : Reads 0 Laid sections_at
unfolding sections_at
reads-sections =
    reads_same
    (λ s zs (ls, y₁, l, (rs, y₂, r, (k, y₃, i, (cs, y₄, c, (es, y₅, e, (q, q₅), q₄), q₃), q₂), q₁), q₀).
    let s' : Sheet = record { lines = ls; rules = rs; individuals = k; classes = cs; roles = es } in
    rw q (checked-well s' (record { lines = l; rules = r; individuals = i; classes = c; roles = e }), cc (bytes-are s')))
    (λ s zs ((w, l), e).
    let t = well-checked s w l in (
      s.lines,
      _,
      t.lines,
      (
        s.rules,
        _,
        t.rules,
        (s.individuals, _, t.individuals, (s.classes, _, t.classes, (s.roles, [], t.roles, (refl, refl), refl), refl), refl),
        refl,
      ),
      e ∙ bytes-are s,
    ))
    (reads_then (reads-counted line_ok line_bytes line_at (λ i p h. reads-line i (omega arith) p) most_lines 0 (omega arith)) (λ ls p l.
    let n = length ls in
    let h : n ≤ 128 = omega (arith, ltb-true n (suc most_lines) l.0) in
    reads_then (reads-counted (λ i. rule_ok n) rule_bytes (λ bs. rule_at bs n) (λ i p _. reads-rule n i p h) most_rules p (omega arith)) (λ rs q _.
    reads_then (reads-below (suc most_individuals) 3 (omega arith) q) (λ k t i.
    let g : k ≤ 128 = omega (arith, ltb-true k (suc most_individuals) i) in
    reads_then (reads-counted (λ i. class_ok n k) class_bytes (λ bs. class_at bs n k) (λ i p _. reads-class n k i p h g) most_classes t (omega arith)) (λ cs u _.
    reads_then (reads-counted (λ i e. role_ok k e && role_in_limits e) role_bytes (λ bs. role_at bs k) (λ i p _. reads-role k i p g) most_roles u (omega arith))
    (λ es v _.
    reads_none v (record { lines = ls; rules = rs; individuals = k; classes = cs; roles = es })))))))

module _ (bs : List ℕ) where
  -- the five sections, read from the front
  front-outcome : Outcome 0 Laid sections_at bs (sections_at bs)
  front-outcome = reads-sections.outcome bs (omega arith)

  front-refused : (n k : ℕ) → sections_at bs ≡ refused n k → Refusal 0 sections_at bs n k
  front-refused n k e = subst (Outcome 0 Laid sections_at bs) e front-outcome

  -- a whole sheet stands in front
  front-taken : (s : Sheet) (p : ℕ) → (sections_at bs ≡ taken s p) ↔ ((well_formed s ≡ true) × (in_limits s ≡ true) × (take p bs ≡ bytes_of s) × (p ≤ length bs))
  front-taken s p = (
    λ e. let (xs, ((w, l), x), z) = subst (Outcome 0 Laid sections_at bs) e front-outcome in (w, l, sym z.spelled ∙ x, z.inside),
    λ (w, l, e, h).
        let z : Spells bs 0 (bytes_of s) p = record { long = omega (arith, ap length e, length-take-le p bs h); inside = h; spelled = sym e } in
        reads-sections.complete bs s (bytes_of s) p ((w, l), refl) z,
  )

  -- the whole reading: a fault, a sheet with bytes behind it, or a sheet
  read-fault : (n k : ℕ) → sections_at bs ≡ refused n k → read_sheet bs ≡ refused n k
  unfolding read_sheet
  read-fault n k e = rw e

  read-spare : (s : Sheet) (p : ℕ) → sections_at bs ≡ taken s p → p < length bs → read_sheet bs ≡ refused 6 p
  unfolding read_sheet
  read-spare s p e h = rw (e, then, lt-ltb p (length bs) h)

  read_whole : (s : Sheet) (p : ℕ) → sections_at bs ≡ taken s p → length bs ≤ p → read_sheet bs ≡ taken s p
  unfolding read_sheet
  read_whole s p e h = rw (e, then, le-ltb p (length bs) h)

  -- and there is no other way
  data Reading : Type 0 where
    fault : (n k : ℕ) → sections_at bs ≡ refused n k → Reading
    spare : (s : Sheet) (p : ℕ) → sections_at bs ≡ taken s p → p < length bs → Reading
    whole : (s : Sheet) (p : ℕ) → sections_at bs ≡ taken s p → length bs ≤ p → Reading

  reading : Reading
  reading = go (sections_at bs) refl
    where
      go : (r : Read Sheet) → sections_at bs ≡ r → Reading
      go (refused n k) e = fault n k e
      go (taken s p) e = ⊎_elim (λ t. spare s p e (ltb-true p (length bs) t)) (λ t. whole s p e (ltb-false p (length bs) t)) (cases (ltb p (length bs)))

  read-refused : (n p : ℕ) → read_sheet bs ≡ refused n p → (sections_at bs ≡ refused n p)
      ⊎ ((s : Sheet) × (n ≡ 6) × (p < length bs) × (sections_at bs ≡ taken s p))
  read-refused n p e = elim reading [
    | fault m k a ↦ inl (a ∙ sym (read-fault m k a) ∙ e)
    | spare s q a h ↦
        let six : n ≡ 6 = cc (read-spare s q a h) in
        let at : q ≡ p = cc (read-spare s q a h) in
        inr (s, six, omega arith, rw at at a)
    | whole s q a h ↦ absurd (let z : ◌≡◌ {A = ℕ} 0 1 = cc (read_whole s q a h) in omega arith)
  ]

  read_taken : (s : Sheet) (p : ℕ) → read_sheet bs ≡ taken s p → (sections_at bs ≡ taken s p) × (length bs ≤ p)
  read_taken s p e = elim reading [
    | fault m k a ↦ absurd (let z : ◌≡◌ {A = ℕ} 0 1 = cc (read-fault m k a) in omega arith)
    | spare t q a h ↦ absurd (let z : ◌≡◌ {A = ℕ} 0 1 = cc (read-spare t q a h) in omega arith)
    | whole t q a h ↦ let at : q ≡ p = cc (read_whole t q a h) in (a ∙ sym (read_whole t q a h) ∙ e, omega arith)
  ]

-- accepted exactly the bytes of well-formed sheets within the limits, each from one byte string only
pub accepted-is : (bs : List ℕ) (s : Sheet) (p : ℕ)
    → (read_sheet bs ≡ taken s p) ↔ ((well_formed s ≡ true) × (in_limits s ≡ true) × (bs ≡ bytes_of s) × (p ≡ length bs))
accepted-is bs s p = (
  λ e.
      let (f, h) = read_taken bs s p e in
      let (w, l, x, g) = (front-taken bs s p).0 f in
      (w, l, sym (take_all p bs h) ∙ x, omega arith),
  λ (w, l, e, g). read_whole bs s p ((front-taken bs s p).1 (w, l, take_all p bs (omega arith) ∙ e, omega arith)) (omega arith),
)

-- every byte list gets one outcome: it is refused, with one number and place, or accepted, as one sheet
pub one-outcome : (bs : List ℕ) → ((n : ℕ) × (p : ℕ) × (read_sheet bs ≡ refused n p)) ⊎ ((s : Sheet) × (p : ℕ) × (read_sheet bs ≡ taken s p))
one-outcome bs = elim (reading bs) [
  | fault n k a ↦ inl (n, k, read-fault bs n k a)
  | spare s p a h ↦ inl (6, p, read-spare bs s p a h)
  | whole s p a h ↦ inr (s, p, read_whole bs s p a h)
]

-- and never both
pub not-both : (bs : List ℕ) (n p q : ℕ) (s : Sheet) → read_sheet bs ≡ refused n p → read_sheet bs ≡ taken s q → ⊥
not-both bs n p q s e f = let z : ◌≡◌ {A = ℕ} 0 1 = cc in omega arith

-- a refusal has one of the six numbers, and its place is in the sheet or at its end
pub refused-range : (bs : List ℕ) (n p : ℕ) → read_sheet bs ≡ refused n p → (0 < n) × (n < 7) × (p ≤ length bs)
refused-range bs n p e =
    ⊎_elim
    (λ a. let r = front-refused bs n p a in (r.low, omega arith, r.within))
    (λ (s, six, h, a). (omega arith, omega arith, omega arith))
    (read-refused bs n p e)

-- nothing behind the faulty number matters
pub refused-early : (bs more : List ℕ) (n p : ℕ) → 1 < n → n < 6 → read_sheet bs ≡ refused n p → read_sheet (take (2 + p) bs ++ more) ≡ refused n p
refused-early bs more n p h g e =
    ⊎_elim
    (λ a. read-fault (take (2 + p) bs ++ more) n p ((front-refused bs n p a).early h more))
    (λ (s, six, h, a). absurd (omega arith))
    (read-refused bs n p e)

-- and no bytes from its place on bring a fault in front of it
pub refused-before : (bs more : List ℕ) (n p : ℕ) → read_sheet bs ≡ refused n p → (m q : ℕ) → read_sheet (take p bs ++ more) ≡ refused m q → p ≤ q
refused-before bs more n p e m q f =
    ⊎_elim
    (λ a. let r = front-refused bs n p a in ⊎_elim (λ b. r.before more m q b) (λ (s, _, _, b). whole-sheet s a b) (read-refused changed m q f))
    (λ (s, _, h, a).
    let (w, l, x, _) = (front-taken bs s p).0 a in
    let (same, inside) = same-front bs p more p (omega arith) (omega arith) in
    let c : sections_at changed ≡ taken s p = (front-taken changed s p).1 (w, l, same ∙ x, inside) in
    ⊎_elim
    (λ b. absurd (let z : ◌≡◌ {A = ℕ} 0 1 = cc in omega arith))
    (λ (t, _, _, b). let same : p ≡ q = cc in omega arith)
    (read-refused changed m q f))
    (read-refused bs n p e)
  where
    changed : List ℕ
    changed = take p bs ++ more

    -- a whole sheet in front of the fault would have been read
    whole-sheet : (s : Sheet) → sections_at bs ≡ refused n p → sections_at changed ≡ taken s q → p ≤ q
    whole-sheet s a b =
        let within = (front-refused bs n p a).within in
        let (w, l, x, _) = (front-taken changed s q).0 b in
        elim (dec_lt q p) [
          | no far ↦ omega arith
          | yes near ↦
              let c = (front-taken bs s q).1 (w, l, sym (same-front bs p more q (omega arith) (omega arith)).0 ∙ x, omega arith) in
              absurd (let z : ◌≡◌ {A = ℕ} 0 1 = cc in omega arith)
        ]

-- of 1 to 5 it is 1 exactly if the sheet ends before the number, or inside one that was begun
end_is : (bs : List ℕ) (n p : ℕ) → n < 6 → read_sheet bs ≡ refused n p → (n ≡ 1) ↔ Ends bs p
end_is bs n p h e = ⊎_elim (λ a. (front-refused bs n p a).ends) (λ (s, six, _, a). absurd (omega arith)) (read-refused bs n p e)

pub refused_end : (bs : List ℕ) (p : ℕ) → read_sheet bs ≡ refused 1 p → Ends bs p
refused_end bs p e = (end_is bs 1 p (omega arith) e).0 refl

-- and 2 exactly if the number is badly formed
badly-is : (bs : List ℕ) (n p : ℕ) → n < 6 → read_sheet bs ≡ refused n p → (n ≡ 2) ↔ BadlyFormed bs p
badly-is bs n p h e = ⊎_elim (λ a. (front-refused bs n p a).badly) (λ (s, six, _, a). absurd (omega arith)) (read-refused bs n p e)

-- 6: a whole sheet, and bytes behind it
pub refused-spare : (bs : List ℕ) (p : ℕ)
    → (read_sheet bs ≡ refused 6 p) ↔ ((s : Sheet) × (well_formed s ≡ true) × (in_limits s ≡ true) × (take p bs ≡ bytes_of s) × (p < length bs))
refused-spare bs p = (
  λ e. ⊎_elim
      (λ a. absurd (let r = front-refused bs 6 p a in omega arith))
      (λ (s, six, h, a). let (w, l, x, _) = (front-taken bs s p).0 a in (s, w, l, x, h))
      (read-refused bs 6 p e),
  λ (s, w, l, e, h). read-spare bs s p ((front-taken bs s p).1 (w, l, e, omega arith)) h,
)

-- the bytes of a sheet are read as that sheet
pub laid-read : (bs : List ℕ) (s : Sheet) → LaidOut s bs → read_sheet bs ≡ taken s (length bs)
laid-read bs s (w, l, e) = (accepted-is bs s (length bs)).1 (w, l, e, refl)

-- refused exactly if they are those of no sheet
refused-is : (bs : List ℕ) → ((n : ℕ) × (p : ℕ) × (read_sheet bs ≡ refused n p)) ↔ ((s : Sheet) → LaidOut s bs → ⊥)
refused-is bs = (
  λ (n, p, e) s h. not-both bs n p (length bs) s e (laid-read bs s h),
  λ none. ⊎_elim (λ r. r) (λ (s, p, e). let (w, l, x, _) = (accepted-is bs s p).0 e in absurd (none s (w, l, x))) (one-outcome bs),
)

-- all this of an answer that says what the reading says
pub faults-of : (bs : List ℕ) (R : ℕ → ℕ → Type 0) → ((n p : ℕ) → n < 7 → R n p ↔ (read_sheet bs ≡ refused n p)) → FaultsOf bs R
faults-of bs R is =
    record {
      as_read = is;
      no-sheet = (
        λ (n, p, h, r). (refused-is bs).0 (n, p, (is n p h).0 r),
        λ none.
            let (n, p, e) = (refused-is bs).1 none in
            let (_, h, _) = refused-range bs n p e in
            (n, p, h, (is n p h).1 e),
      );
      place = λ n p h r. let (low, _, within) = refused-range bs n p ((is n p h).0 r) in (low, within);
      one = λ n p h r. end_is bs n p h ((is n p (omega arith)).0 r);
      two = λ n p h r. badly-is bs n p h ((is n p (omega arith)).0 r);
      six = λ p. (
        λ r. let (s, w, l, x, h) = (refused-spare bs p).0 ((is 6 p (omega arith)).0 r) in (s, (w, l, x), h),
        λ (s, (w, l, x), h). (is 6 p (omega arith)).1 ((refused-spare bs p).1 (s, w, l, x, h)),
      );
      first = λ n p h r more. refused-before bs more n p ((is n p h).0 r);
      behind = λ n p low high r more. refused-early bs more n p low high ((is n p (omega arith)).0 r);
    }
