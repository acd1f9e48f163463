-- The writer: how many groups a number has, that an accepted sheet has one-byte numbers only and few of them, that reading undoes writing and writing undoes
-- reading.
use Prim.Native.Nat.{ℕ, zero, suc, ◌+◌, ◌*◌, ◌-◌, ◌/◌, ◌%◌, ◌≤◌, ◌<◌}
use Rattle.std.specs.Prelude.{Bool, ◌||◌, ◌↔◌, ◌⊎◌, List, [], ◌∷◌, ◌++◌, length, get_or, take, drop, leb, eqb}
use Rattle.std.proofs.Math.Bool.{true, false}
use Rattle.std.proofs.Math.Path.{◌≡◌, refl, sym, ap, ap₂}
use Rattle.std.proofs.Common.{◌∙◌, subst, append_assoc, take-append-drop, take_at}
use Rattle.std.proofs.Math.Logic.{inl, inr, ⊎_elim}
use Rattle.std.proofs.Math.ListN.{length-append, length-drop}
use Rattle.std.proofs.Math.Seq.{drop_at}
use Rattle.std.proofs.lemmas.List.{take-append-le}
use Rattle.std.proofs.Math.Dec.{ltb}
use borrow.Author.Tests.{eqb-false, ltb-true, ltb-false, lt-ltb, le-ltb, leb-true, leb-false, le-leb, lt-leb}
use native.Mathlib.Omega.{arith}
use Rattle.alc.specs.Sheet.{name, negation, and, or, some, only, Sheet, name_count, role_count}
use Rattle.alc.specs.Sheet.{most_lines, most_rules, most_individuals, most_classes, most_roles}
use Rattle.alc.specs.Bytes.{Read, refused, taken, then, number_at, below_at, operands_at, line_at, rule_at, class_at, role_at, several_at, counted_at, sections_at}
use Rattle.alc.specs.Bytes.{read_sheet, bytes_of}
use Rattle.alc.specs.Writing.{groups_within, groups, bytes_for, Wrote, put_if, put_bytes, write_read, write_reply, Accepted, WritePromise}
use Rattle.alc.proofs.Theorems.Lists.{cases, or-false-left}
use Rattle.alc.proofs.Theorems.Bytes.{accepted-is, one-outcome, refused-range, refused-early, refused_end, refused-spare, not-both}

-- ---- the groups of a number
within-last : (f n : ℕ) → n < 128 → groups_within (suc f) n ≡ n ∷ []
within-last f n h = rw (lt-ltb n 128 h, groups_within) refl

within_more : (f n : ℕ) → 128 ≤ n → groups_within (suc f) n ≡ (n % 128 + 128) ∷ groups_within f (n / 128)
within_more f n h = rw (le-ltb n 128 h, groups_within) refl

pub groups-one : (n : ℕ) → n < 128 → groups n ≡ n ∷ []
unfolding groups
groups-one n h = within-last n n h

pub groups-two : (n : ℕ) → 128 ≤ n → n < 16384 → groups n ≡ (n % 128 + 128) ∷ (n / 128) ∷ []
unfolding groups
groups-two zero h k = absurd (omega arith)
groups-two (suc m) h k = within_more (suc m) (suc m) h ∙ ap (λ (l : List ℕ). (suc m % 128 + 128) ∷ l) (within-last m (suc m / 128) (omega arith))

-- a number that needs a third group begins with two that have their high bit set
pub more-groups : (n : ℕ) → 16384 ≤ n → (rest : List ℕ) × (groups n ≡ (n % 128 + 128) ∷ (n / 128 % 128 + 128) ∷ rest)
unfolding groups
more-groups zero h = absurd (omega arith)
more-groups (suc m) h = (
  groups_within m (suc m / 128 / 128),
  within_more (suc m) (suc m) (omega arith) ∙ ap (λ (l : List ℕ). (suc m % 128 + 128) ∷ l) (within_more m (suc m / 128) (omega arith)),
)

-- those of 16 bits have no fourth
pub groups-three : (n : ℕ) → 16384 ≤ n → n < 65536 → groups n ≡ (n % 128 + 128) ∷ (n / 128 % 128 + 128) ∷ (n / 16384) ∷ []
unfolding groups
groups-three zero h k = absurd (omega arith)
groups-three (suc zero) h k = absurd (omega arith)
groups-three (suc (suc m)) h k =
    let n : ℕ = suc (suc m) in
    within_more n n (omega arith)
    ∙ ap (λ (l : List ℕ). (n % 128 + 128) ∷ l) (within_more (suc m) (n / 128) (omega arith))
    ∙ ap (λ (l : List ℕ). (n % 128 + 128) ∷ (n / 128 % 128 + 128) ∷ l) (within-last m (n / 128 / 128) (omega arith))
    ∙ ap (λ (x : ℕ). (n % 128 + 128) ∷ (n / 128 % 128 + 128) ∷ x ∷ []) (omega arith)

-- k times w, by steps
abbrev times : ℕ → ℕ → ℕ
times zero w = 0
times (suc k) w = w + times k w

times-le : (k n w : ℕ) → k ≤ n → times k w ≤ times n w
times-le zero n w h = omega arith
times-le (suc k) zero w h = absurd (omega arith)
times-le (suc k) (suc n) w h = omega (arith, times-le k n w (omega arith))

-- ---- how far a reading goes: over at most k numbers; what it takes has one byte each; and what is known of the value
module _ (bs : List ℕ) where
  -- from place p to place q stand one-byte numbers
  record Short (p q : ℕ) : Type 0 where
    onward : p ≤ q
    small : (i : ℕ) → p ≤ i → i < q → get_or bs i 0 < 128

  abbrev Walks : {A : Type 0} → (A → Type 0) → ℕ → ℕ → Read A → Type 0
  Walks P k p (refused n q) = q ≤ p + k
  Walks P k p (taken a q) = (q ≤ p + k) × Short p q × P a

  -- nothing is known
  abbrev Any : {A : Type 0} → A → Type 0
  Any a = Unit {0}

  either_way : {A : Type 0} (P : Read A → Type 0) {r t : Read A} (b : Bool) → (b ≡ true → P r) → (b ≡ false → P t) → P (elim b [ true ↦ r | false ↦ t ])
  either_way P true f g = f refl
  either_way P false f g = g refl

  short_none : (p : ℕ) → Short p p
  short_none p = record { onward = omega arith; small = λ i h g. absurd (omega arith) }

  short-both : (p q t : ℕ) → Short p q → Short q t → Short p t
  short-both p q t a b = record {
    onward = omega arith;
    small = λ i h g. ⊎_elim (λ e. a.small i h (ltb-true i q e)) (λ e. b.small i (ltb-false i q e) g) (cases (ltb i q));
  }

  module _ {A : Type 0} (P : A → Type 0) where
    -- so many more places
    walks_more : (k m p : ℕ) (r : Read A) → k ≤ m → Walks P k p r → Walks P m p r
    walks_more k m p (refused n q) h w = omega arith
    walks_more k m p (taken a q) h w = (omega arith, w.1, w.2)

    walks-then : {B : Type 0} (Q : B → Type 0) (k m p : ℕ) (r : Read B) (f : B → ℕ → Read A) → Walks Q k p r
        → ((b : B) (q : ℕ) → Q b → Walks P m q (f b q)) → Walks P (k + m) p (then r f)
    walks-then Q k m p (refused n q) f w g = omega arith
    walks-then Q k m p (taken b q) f w g = go (f b q) (g b q w.2)
      where
        go : (r : Read A) → Walks P m q r → Walks P (k + m) p r
        go (refused n t) v = omega arith
        go (taken a t) v = (omega arith, short-both p q t w.1 v.1, v.2)

  module _ {A B : Type 0} (P : A → Type 0) (Q : B → Type 0) (k p : ℕ) (g : B → A) (h : (b : B) → Q b → P (g b)) where
    -- the same over another value
    walks-as : (r : Read B) → Walks Q k p r → Walks P k p (then r (λ b q. taken (g b) q))
    walks-as (refused n q) w = w
    walks-as (taken b q) w = (w.0, w.1, h b w.2)

  -- what a number tells: refused no later than its place, or one byte, or at least 128
  abbrev Told : ℕ → Read ℕ → Type 0
  Told p (refused n q) = q ≤ p
  Told p (taken v q) = ((q ≡ suc p) × (get_or bs p 0 < 128)) ⊎ (128 ≤ v)

  -- a second byte is worth at least 128
  second-worth : (x b : ℕ) → (b ≡ 0 → ⊥) → 128 ≤ x + 128 * b
  second-worth x zero h = absurd (h refl)
  second-worth x (suc b) h = omega arith

  number-told : (p : ℕ) → Told p (number_at bs p)
  unfolding number_at
  number-told p =
      either_way (Told p) (ltb p (length bs))
      (λ _. either_way (Told p) (ltb (get_or bs p 0) 128)
      (λ e. inl (refl, ltb-true (get_or bs p 0) 128 e))
      (λ _. either_way (Told p) (ltb (suc p) (length bs))
      (λ _. either_way (Told p) (eqb (get_or bs (suc p) 0) 0 || ltb 127 (get_or bs (suc p) 0))
      (λ _. omega arith)
      (λ e. inr (second-worth (get_or bs p 0 - 128) (get_or bs (suc p) 0) (eqb-false (get_or bs (suc p) 0) 0 (or-false-left _ _ e)))))
      (λ _. omega arith)))
      (λ e. ltb-false p (length bs) e)

  -- a number with a limit of at most 128 has one byte
  walks-below : (n why p : ℕ) → n ≤ 128 → Walks (λ v. v < n) 1 p (below_at bs n why p)
  unfolding below_at
  walks-below n why p h = go (number_at bs p) (number-told p)
    where
      go : (r : Read ℕ) → Told p r → Walks (λ v. v < n) 1 p (then {B = ℕ} r (λ v q. elim (ltb v n) [ true ↦ taken v q | false ↦ refused why p ]))
      go (refused m q) w = omega arith
      go (taken v q) w = either_way (Walks {A = ℕ} (λ v. v < n) 1 p) (ltb v n)
          (λ e. let close = ltb-true v n e in ⊎_elim
          (λ (next, small). (omega arith, record { onward = omega arith; small = λ i a b. let at : i ≡ p = omega arith in rw at small }, close))
          (λ far. absurd (omega arith)) w)
          (λ _. omega arith)

  -- ---- entries
  module _ {A : Type 0} where
    walks-one : (n why p : ℕ) → n ≤ 128 → (f : ℕ → A) → Walks Any 1 p (then (below_at bs n why p) (λ a q. taken (f a) q))
    walks-one n why p h f = walks-as Any (λ v. v < n) 1 p f (λ a _. tt) (below_at bs n why p) (walks-below n why p h)

    walks-two : (m n w v p : ℕ) → m ≤ 128 → n ≤ 128 → (f : ℕ → ℕ → A)
        → Walks Any 2 p (then (below_at bs m w p) (λ a q. then (below_at bs n v q) (λ b t. taken (f a b) t)))
    walks-two m n w v p h g f =
        walks-then Any (λ x. x < m) 1 1 p (below_at bs m w p) (λ a q. then (below_at bs n v q) (λ b t. taken (f a b) t)) (walks-below m w p h)
        (λ a q _. walks-one n v q g (f a))

  walks-operands : (own k p : ℕ) → own ≤ 128 → Walks Any 2 p (operands_at bs own k p)
  unfolding operands_at
  walks-operands own zero p h = (omega arith, short_none p, tt)
  walks-operands own (suc zero) p h = (omega arith, short_none p, tt)
  walks-operands own (suc (suc zero)) p h = walks_more Any 1 2 p (then (below_at bs name_count 4 p) (λ a q. taken (name a) q)) (omega arith)
      (walks-one name_count 4 p (omega arith) name)
  walks-operands own (suc (suc (suc zero))) p h = walks_more Any 1 2 p (then (below_at bs own 5 p) (λ i q. taken (negation i) q)) (omega arith)
      (walks-one own 5 p h negation)
  walks-operands own (suc (suc (suc (suc zero)))) p h = walks-two own own 5 5 p h h and
  walks-operands own (suc (suc (suc (suc (suc zero))))) p h = walks-two own own 5 5 p h h or
  walks-operands own (suc (suc (suc (suc (suc (suc zero)))))) p h = walks-two role_count own 4 5 p (omega arith) h some
  walks-operands own (suc (suc (suc (suc (suc (suc (suc k))))))) p h = walks-two role_count own 4 5 p (omega arith) h only

  walks-line : (own p : ℕ) → own < 32 → Walks Any 3 p (line_at bs own p)
  unfolding line_at
  walks-line own p h =
      walks-then Any (λ k. k < 8) 1 2 p (below_at bs 8 4 p) (λ k q. operands_at bs own k q) (walks-below 8 4 p (omega arith))
      (λ k q _. walks-operands own k q (omega arith))

  walks-rule : (n i p : ℕ) → n ≤ 128 → Walks Any 2 p (rule_at bs n i p)
  unfolding rule_at
  walks-rule n i p h = walks-two n n 5 5 p h h (λ c d. record { sub = c; sup = d })

  walks-class : (n k i p : ℕ) → n ≤ 128 → k ≤ 128 → Walks Any 2 p (class_at bs n k i p)
  unfolding class_at
  walks-class n k i p h g = walks-two k n 5 5 p g h (λ a c. record { individual = a; class = c })

  walks-role : (k i p : ℕ) → k ≤ 128 → Walks Any 3 p (role_at bs k i p)
  unfolding role_at
  walks-role k i p h =
      walks-then Any (λ r. r < role_count) 1 2 p (below_at bs role_count 4 p) _ (walks-below role_count 4 p (omega arith))
      (λ r q _. walks-two k k 5 5 q h h (λ a b. record { role = r; source = a; target = b }))

  -- ---- sections
  module _ {A : Type 0} (one : ℕ → ℕ → Read A) (w m : ℕ) (h : (i p : ℕ) → i < m → Walks Any w p (one i p)) where
    abbrev Many : ℕ → List A → Type 0
    Many k l = length l ≡ k

    -- k of them, of at most w numbers each, numbered from i on and below m
    walks-several : (i k p : ℕ) → i + k ≤ m → Walks (Many k) (times k w) p (several_at one i k p)
    walks-several i zero p g = (omega arith, short_none p, refl)
    walks-several i (suc k) p g =
        walks-then (Many (suc k)) Any w (times k w) p (one i p) (λ a q. then (several_at one (suc i) k q) (λ l t. taken (a ∷ l) t)) (h i p (omega arith))
        (λ a q _. walks-as (Many (suc k)) (Many k) (times k w) q (λ l. a ∷ l) (λ l e. omega arith) (several_at one (suc i) k q)
        (walks-several (suc i) k q (omega arith)))

    -- a count, and that many
    walks-counted : (p : ℕ) → m < 128 → Walks (λ l. length l ≤ m) (1 + times m w) p (counted_at bs m one p)
    walks-counted p small =
        walks-then (λ l. length l ≤ m) (λ k. k < suc m) 1 (times m w) p (below_at bs (suc m) 3 p) (λ k q. several_at one 0 k q) (walks-below (suc m) 3 p small)
        (λ k q g. on k q g (several_at one 0 k q) (walks-several 0 k q (omega arith)))
      where
        on : (k q : ℕ) → k < suc m → (r : Read (List A)) → Walks (Many k) (times k w) q r → Walks (λ l. length l ≤ m) (times m w) q r
        on k q g (refused n t) u = omega (arith, times-le k m w (omega arith))
        on k q g (taken l t) u = (omega (arith, times-le k m w (omega arith)), u.1, omega arith)

  -- ---- the sheet: 32 lines of at most three numbers, 12 rules of two, 16 assertions of two and 16 of three, and five counts
  walks-sections : Walks Any 205 0 (sections_at bs)
  unfolding sections_at
  walks-sections =
      walks-then Any _ 97 108 0 (counted_at bs most_lines (line_at bs) 0) _ (walks-counted (line_at bs) 3 most_lines walks-line 0 (omega arith)) (λ ls p n.
      walks-then Any _ 25 83 p (counted_at bs most_rules (rule_at bs (length ls)) p) _
      (walks-counted (rule_at bs (length ls)) 2 most_rules (λ i q _. walks-rule (length ls) i q (omega arith)) p (omega arith)) (λ rs q _.
      walks-then Any _ 1 82 q (below_at bs (suc most_individuals) 3 q) _ (walks-below (suc most_individuals) 3 q (omega arith)) (λ k t g.
      walks-then Any _ 33 49 t (counted_at bs most_classes (class_at bs (length ls) k) t) _
      (walks-counted (class_at bs (length ls) k) 2 most_classes (λ i q _. walks-class (length ls) k i q (omega arith) (omega arith)) t (omega arith)) (λ cs u _.
      walks-then Any _ 49 0 u (counted_at bs most_roles (role_at bs k) u) _
      (walks-counted (role_at bs k) 3 most_roles (λ i q _. walks-role k i q (omega arith)) u (omega arith)) (λ es v _. (omega arith, short_none v, tt))))))

  walks-sheet : Walks Any 205 0 (read_sheet bs)
  unfolding read_sheet
  walks-sheet =
      walks-then Any Any 205 0 0 (sections_at bs) _ walks-sections (λ s p _.
      either_way (Walks {A = Sheet} Any 0 p) (ltb p (length bs)) (λ _. omega arith) (λ _. (omega arith, short_none p, tt)))

  -- no refusal stands further behind than the numbers that a sheet can have
  pub refused-near : (n p : ℕ) → read_sheet bs ≡ refused n p → p ≤ 205
  refused-near n p e = let w : Walks {A = Sheet} Any 205 0 (refused n p) = subst (Walks {A = Sheet} Any 205 0) e walks-sheet in omega arith

  -- an accepted sheet is short, and has one-byte numbers only
  pub accepted-short : (s : Sheet) (p : ℕ) → read_sheet bs ≡ taken s p → (length bs ≤ 205) × ((i : ℕ) → i < length bs → get_or bs i 0 < 128)
  accepted-short s p e =
      let w : Walks {A = Sheet} Any 205 0 (taken s p) = subst (Walks {A = Sheet} Any 205 0) e walks-sheet in
      let (_, _, _, long) = (accepted-is bs s p).0 e in
      (omega arith, λ i h. w.1.small i (omega arith) (omega arith))

  -- so what stands behind more bytes than that is never looked at
  pub same-verdict : (more : List ℕ) → 206 < length bs → read_sheet (bs ++ more) ≡ read_sheet bs
  same-verdict more far = ⊎_elim (λ (n, p, e). refusal n p e) (λ (s, p, e). absurd (let (short, _) = accepted-short s p e in omega arith)) (one-outcome bs)
    where
      refusal : (n p : ℕ) → read_sheet bs ≡ refused n p → read_sheet (bs ++ more) ≡ read_sheet bs
      refusal n p e =
          let near = refused-near n p e in
          let (low, high, _) = refused-range bs n p e in
          ⊎_elim
          (λ (a : ltb n 2 ≡ true). absurd (
          let one : n ≡ 1 = (let l = ltb-true n 2 a in omega arith) in
          ⊎_elim (λ g. omega arith) (λ (g, _). omega arith) (refused_end bs p (e ∙ ap (λ (m : ℕ). refused m p) one))))
          (λ (a : ltb n 2 ≡ false). ⊎_elim
          (λ (b : ltb n 6 ≡ true).
          subst (λ (l : List ℕ). read_sheet l ≡ read_sheet bs) (sym (append_assoc (take (2 + p) bs) (drop (2 + p) bs) more)
          ∙ ap (λ (l : List ℕ). l ++ more) (take-append-drop (2 + p) bs))
          (refused-early bs (drop (2 + p) bs ++ more) n p (ltb-false n 2 a) (ltb-true n 6 b) e ∙ sym e))
          (λ (b : ltb n 6 ≡ false).
          let six : n ≡ 6 = (let l = ltb-false n 6 b in omega arith) in
          let (s, w, l, front, inside) = (refused-spare bs p).0 (e ∙ ap (λ (m : ℕ). refused m p) six) in
          (refused-spare (bs ++ more) p).1 (s, w, l, take-append-le p bs more (omega arith) ∙ front, omega (arith, length-append bs more))
          ∙ ap (λ (m : ℕ). refused m p) (sym six) ∙ sym e)
          (cases (ltb n 6)))
          (cases (ltb n 2))

-- ---- numbers of one byte are their own bytes
groups-high : (n : ℕ) → 128 ≤ n → (rest : List ℕ) × (groups n ≡ (n % 128 + 128) ∷ rest)
unfolding groups
groups-high n h = (groups_within n (n / 128), within_more n n h)

abbrev Small : List ℕ → Type 0
Small l = (i : ℕ) → i < length l → get_or l i 0 < 128

small-tail : (x : ℕ) (l : List ℕ) → Small (x ∷ l) → Small l
small-tail x l h i g = h (suc i) (omega arith)

plain : (ns : List ℕ) → Small ns → bytes_for ns ≡ ns
unfolding bytes_for
plain [] h = refl
plain (n ∷ ns) h = ap₂ {C = List ℕ} (λ x l. x ++ l) (groups-one n (h 0 (omega arith))) (plain ns (small-tail n ns h))

plain_back : (ns : List ℕ) → Small (bytes_for ns) → bytes_for ns ≡ ns
unfolding bytes_for
plain_back [] h = refl
plain_back (n ∷ ns) h =
    ⊎_elim
    (λ e. let one = groups-one n (ltb-true n 128 e) in
    ap₂ {C = List ℕ} (λ x l. x ++ l) one (plain_back ns (small-tail n (bytes_for ns) (subst (λ (l : List ℕ). Small (l ++ bytes_for ns)) one h))))
    (λ e. absurd (
    let (rest, q) = groups-high n (ltb-false n 128 e) in
    let high : n % 128 + 128 < 128 = subst (λ (l : List ℕ). Small (l ++ bytes_for ns)) q h 0 (omega arith) in
    omega arith))
    (cases (ltb n 128))

-- ---- "Reading what it wrote gives the same counts, lines, rules and assertions back"
pub reads-back : (ns : List ℕ) (s : Sheet) (p : ℕ) → read_sheet (bytes_for ns) ≡ taken s p → bytes_of s ≡ ns
reads-back ns s p e =
    let (_, _, is, _) = (accepted-is (bytes_for ns) s p).0 e in
    let (_, small) = accepted-short (bytes_for ns) s p e in
    sym is ∙ plain_back ns small

-- ---- "writing what was read gives the same bytes"
pub writes-back : (bs : List ℕ) (s : Sheet) (p : ℕ) → read_sheet bs ≡ taken s p → bytes_for (bytes_of s) ≡ bs
writes-back bs s p e =
    let (_, _, is, _) = (accepted-is bs s p).0 e in
    let (_, small) = accepted-short bs s p e in
    ap bytes_for (sym is) ∙ plain bs small

-- ---- bytes that fit a buffer, and bytes that do not
pub put-fits : (buf bs : List ℕ) → length bs ≤ length buf → put_bytes buf bs ≡ record { number = 0; carries = length bs; out = bs ++ drop (length bs) buf }
put-fits buf bs h = ap (λ (b : Bool). put_if buf b bs) (le-leb (length bs) (length buf) h)

pub put-long : (buf bs : List ℕ) → length buf < length bs → put_bytes buf bs ≡ record { number = 16; carries = length bs; out = buf }
put-long buf bs h = ap (λ (b : Bool). put_if buf b bs) (lt-leb (length bs) (length buf) h)

-- ---- the writer's reply keeps its promise, and no other reply does
module _ (ns buf : List ℕ) where
  abbrev bytes : List ℕ
  bytes = bytes_for ns

  not-accepted : (n p : ℕ) → read_sheet bytes ≡ refused n p → Accepted ns → ⊥
  not-accepted n p e (s, q, f) = not-both bytes n p q s e f

  promise-refused : (n p : ℕ) → read_sheet bytes ≡ refused n p → WritePromise ns buf (record { number = n; carries = p; out = buf })
  unfolding write_reply
  promise-refused n p e =
      let (low, high, _) = refused-range bytes n p e in
      record {
        exact = ap (write_read buf bytes) (sym e);
        faults = λ m q _ _. (
          λ (a, b). e ∙ ap₂ {C = Read Sheet} refused a b,
          λ f. let same : ◌≡◌ {A = Read Sheet} (refused n p) (refused m q) = sym e ∙ f in
              (cc, cc),
        );
        success = (λ z. absurd (omega arith), λ (a, _). absurd (not-accepted n p e a));
        sixteen = (λ z. absurd (omega arith), λ (a, _). absurd (not-accepted n p e a));
        one_of = inr (inl high);
        told = λ h. absurd (⊎_elim (λ z. omega arith) (λ z. omega arith) h);
        alone = λ _. refl;
        read_back = λ z. absurd (omega arith);
        behind = λ z. absurd (omega arith);
      }

  module _ (s : Sheet) (p : ℕ) (e : read_sheet bytes ≡ taken s p) where
    no-fault : (n v : ℕ) → (n ≡ 0) ⊎ (n ≡ 16) → (m q : ℕ) → 0 < m → m < 7 → ((n ≡ m) × (v ≡ q)) ↔ (read_sheet bytes ≡ refused m q)
    no-fault n v h m q low high = (
      λ (a, _). absurd (⊎_elim (λ z. omega arith) (λ z. omega arith) h),
      λ f. absurd (not-both bytes m q p s f e),
    )

    promise-fits : length bytes ≤ length buf → WritePromise ns buf (record { number = 0; carries = length bytes; out = bytes ++ drop (length bytes) buf })
    unfolding write_reply
    promise-fits h = record {
      exact = sym (ap (write_read buf bytes) e ∙ put-fits buf bytes h);
      faults = no-fault 0 (length bytes) (inl refl);
      success = (λ _. ((s, p, e), h), λ _. refl);
      sixteen = (λ z. absurd (omega arith), λ (_, g). absurd (omega arith));
      one_of = inl refl;
      told = λ _. refl;
      alone = λ z. absurd (z refl);
      read_back = λ _. (
        s,
        reads-back ns s p e,
        ap read_sheet (take_at bytes (drop (length bytes) buf) (length bytes) refl) ∙ e
            ∙ ap (taken s) ((accepted-is bytes s p).0 e).3,
      );
      behind = λ _. (
        drop_at bytes (drop (length bytes) buf) (length bytes) refl,
        omega
            (arith, length-append bytes (drop (length bytes) buf), length-drop (length bytes) buf),
      );
    }

    promise-long : length buf < length bytes → WritePromise ns buf (record { number = 16; carries = length bytes; out = buf })
    unfolding write_reply
    promise-long h = record {
      exact = sym (ap (write_read buf bytes) e ∙ put-long buf bytes h);
      faults = no-fault 16 (length bytes) (inr refl);
      success = (λ z. absurd (omega arith), λ (_, g). absurd (omega arith));
      sixteen = (λ _. ((s, p, e), h), λ _. refl);
      one_of = inr (inr refl);
      told = λ _. refl;
      alone = λ _. refl;
      read_back = λ z. absurd (omega arith);
      behind = λ z. absurd (omega arith);
    }

  pub write-promise : WritePromise ns buf (write_reply ns buf)
  write-promise =
      ⊎_elim
      (λ (n, p, e). kept (promise-refused n p e))
      (λ (s, p, e). ⊎_elim (λ t. kept (promise-fits s p e (leb-true _ _ t))) (λ t. kept (promise-long s p e (leb-false _ _ t)))
      (cases (leb (length bytes) (length buf))))
      (one-outcome bytes)
    where
      kept : {o : Wrote} → WritePromise ns buf o → WritePromise ns buf (write_reply ns buf)
      kept w = subst (WritePromise ns buf) w.exact w

  pub write-unique : (o t : Wrote) → WritePromise ns buf o → WritePromise ns buf t → o ≡ t
  write-unique o t a b = a.exact ∙ sym b.exact

-- what was read, written into a buffer that is long enough
pub written_back : (bs : List ℕ) (s : Sheet) (p : ℕ) (buf : List ℕ) → read_sheet bs ≡ taken s p → length bs ≤ length buf
    → write_reply (bytes_of s) buf ≡ record { number = 0; carries = length bs; out = bs ++ drop (length bs) buf }
unfolding write_reply
written_back bs s p buf e h =
    ap (λ (l : List ℕ). write_read buf l (read_sheet l)) (writes-back bs s p e) ∙ ap (write_read buf bs) e ∙ put-fits buf bs h
