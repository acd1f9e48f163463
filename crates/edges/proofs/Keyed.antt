-- Edges from one element as ascending keys: what a list has with a key more, the loop that puts it there, and that the keys are the model's edges.
use Prim.Native.Nat.{ℕ, zero, suc, ◌+◌, ◌-◌, ◌/◌, ◌%◌, ◌≤◌, ◌<◌}
use mathlib.Core.Bool.{Bool, true, false, cond, ◌&&◌, ◌||◌}
use mathlib.Core.Path.{◌≡◌, refl, sym, ◌∙◌, ap, ap₂, subst}
use mathlib.Core.Logic.{◌⊎◌, inl, inr, ⊎_elim, ∥∥₁_elim, ∥∥₁_map}
use mathlib.Core.List.Memᴰ
use mathlib.Core.List.{List, [], ◌∷◌, ◌++◌, map, append_assoc}
use native.Mathlib.Numerals.{add-one}
use native.Mathlib.Bridge.{le_prop}
use native.Mathlib.Decide.{dec_lt}
use native.Mathlib.Omega.{arith}
use lib.ListN.{length, get_or, take, drop, set, length-append, length-set, take-append-drop, drop_of_length-le}
use lib.Seq.{slice, slice-cons, length-take-le, take-suc, take-suc-set, take-take, take-set-lt, drop-set-lt, drop-cons}
use lib.Dec.{ltb, leb, eqb}
use borrow.Author.Tests.{leb-true, le-leb, ltb-true, ltb-false, eqb-true, eqb-false, lt-ltb, le-ltb, eq-eqb, ne_eqb}
use Rattle.std.specs.Prelude.{Option as Maybe}
use Rattle.std.specs.Option.{unwrap_or}
use Rattle.alc.specs.Lists.{◌∈◌, Ascending, Distinct, any, each, up_to}
use Rattle.alc.specs.declared.Line.{Line}
use Rattle.alc.specs.declared.Line.TheVariants.{Top as top, Bottom as bottom, Name as name, Not as negation, And as and, Or as or, Some as some, Only as only}
use Rattle.alc.specs.declared.RoleAssertion.{RoleAssertion}
use Rattle.alc.specs.Sheet.{Sheet, count, line, role_assertion, line_in_limits, well_formed, in_limits, role_count}
use Rattle.alc.specs.declared.Label.{Label}
use Rattle.alc.specs.declared.Mark.TheVariants.{Holds as holds, Fails as fails}
use Rattle.alc.specs.Label.{has}
use Rattle.alc.specs.Settle.{Joint, label}
use Rattle.alc.specs.declared.Ask.{Ask}
use Rattle.alc.specs.Seeds.{seed_of, asks_of, asks, same}
use Rattle.alc.specs.Model.{leads, asserted}
use Rattle.alc.proofs.Theorems.Lists.{cases, and_left, and_right, and_both, or_left, or_right, or_cases, here, there, cond-elim, cond-intro, any-intro, any-elim, each-intro, each-elim, up_to-elim, length_from, get_or-in}
use Rattle.alc.proofs.Theorems.Sheet.{WellFormed, lines-limited, roles-limited}
use Rattle.alc.proofs.Theorems.Moves.{label-of}
use Rattle.alc.proofs.Theorems.Seeds.{same_true, same_refl}
use Rattle.alc.proofs.Theorems.Sorted.{Sorted, sorted-unique}
use Rattle.alc.proofs.Theorems.Words.{Earlier, earlier-once, leaving, leaving-elim, leaving-intro, leaving-sorted}
use Rattle.edges.specs.declared.keys.Edges.{Edges}
use Rattle.edges.specs.declared.recorded.Recorded.{Recorded}
use Rattle.tableau.specs.Records.{word_of, recorded, place_from, found_at, found}
use Rattle.edges.specs.Keys.{SeedsIn, key_of, keys_of, insert_key, insert_keys, ask_key, keys_along, edge_of, edges_from}
use Rattle.plan.proofs.Lines.{few, role-inside}
use Rattle.tableau.proofs.Buffers.{length-recorded, record-at, found-is, found-label, in-found, distinct-place}

-- ---- one key more
insert-before : (k x : ℕ) (xs : List ℕ) → k < x → insert_key k (x ∷ xs) ≡ k ∷ x ∷ xs
insert-before k x xs h = rw (lt-ltb k x h, insert_key)

insert-same : (k x : ℕ) (xs : List ℕ) → k ≡ x → insert_key k (x ∷ xs) ≡ x ∷ xs
insert-same k x xs e = rw (le-ltb k x (omega arith), eq-eqb k x e, insert_key)

insert-behind : (k x : ℕ) (xs : List ℕ) → x < k → insert_key k (x ∷ xs) ≡ x ∷ insert_key k xs
insert-behind k x xs h = rw (le-ltb k x (omega arith), ne_eqb k x (λ e. omega arith), insert_key)

-- the three cases, for a proof
insert-cases : (C : List ℕ → Type 0) (k x : ℕ) (xs : List ℕ) → (k < x → C (k ∷ x ∷ xs)) → (k ≡ x → C (x ∷ xs)) → (x < k → C (x ∷ insert_key k xs)) → C (insert_key k (x ∷ xs))
insert-cases C k x xs before same behind =
    ⊎_elim
    (λ e. let h = ltb-true k x e in subst C (sym (insert-before k x xs h)) (before h))
    (λ e. ⊎_elim
    (λ q. let h = eqb-true k x q in subst C (sym (insert-same k x xs h)) (same h))
    (λ q. let h : x < k = omega (arith, ltb-false k x e, eqb-false k x q) in subst C (sym (insert-behind k x xs h)) (behind h))
    (cases (eqb k x)))
    (cases (ltb k x))

-- its members are the key and those that were there
insert-elim : (k : ℕ) (xs : List ℕ) (y : ℕ) → y ∈ insert_key k xs → (y ≡ k) ⊎ (y ∈ xs)
insert-elim k [] y m = Memᴰ.cases_cons m
insert-elim k (x ∷ xs) y n =
    insert-cases (λ l. y ∈ l → (y ≡ k) ⊎ (y ∈ (x ∷ xs))) k x xs
    (λ h m. Memᴰ.cases_cons m)
    (λ h m. inr m)
    (λ h m. ⊎_elim (λ e. inr (Memᴰ.head e)) (λ i. ⊎_elim inl (λ j. inr (there j)) (insert-elim k xs y i)) (Memᴰ.cases_cons m))
    n

insert-intro : (k : ℕ) (xs : List ℕ) (y : ℕ) → (y ≡ k) ⊎ (y ∈ xs) → y ∈ insert_key k xs
insert-intro k [] y h = ⊎_elim Memᴰ.head (λ m. absurd (Memᴰ.not-nil m)) h
insert-intro k (x ∷ xs) y h =
    insert-cases (λ l. y ∈ l) k x xs
    (λ b. ⊎_elim Memᴰ.head there h)
    (λ b. ⊎_elim (λ e. Memᴰ.head (e ∙ b)) (λ m. m) h)
    (λ b. ⊎_elim
    (λ e. there (insert-intro k xs y (inl e)))
    (λ m. ⊎_elim Memᴰ.head (λ i. there (insert-intro k xs y (inr i))) (Memᴰ.cases_cons m))
    h)

insert-rises : (k : ℕ) (xs : List ℕ) → Ascending xs → Ascending (insert_key k xs)
insert-rises k [] a = ((λ y m. absurd (Memᴰ.not-nil m)), tt)
insert-rises k (x ∷ xs) a =
    insert-cases Ascending k x xs
    (λ h. ((λ y m. ⊎_elim (λ e. omega arith) (λ i. omega (arith, a.0 y i)) (Memᴰ.cases_cons m)), a))
    (λ h. a)
    (λ h. ((λ y m. ⊎_elim (λ e. omega arith) (λ i. a.0 y i) (insert-elim k xs y m)), insert-rises k xs a.1))

-- a key below all others stands in front
insert-front : (x : ℕ) (xs : List ℕ) → Ascending (x ∷ xs) → insert_key x xs ≡ x ∷ xs
insert-front x [] a = refl
insert-front x (y ∷ ys) a = insert-before x y ys (a.0 y here)

-- the edges' fact, which is one at most
pub ascending-of : (xs : List ℕ) → ∥ Ascending xs ∥₁ → Ascending xs
ascending-of [] t = tt
ascending-of (x ∷ xs) t = ((λ y m. ∥∥₁_elim t le_prop (λ a. a.0 y m)), ascending-of xs (∥∥₁_map t (λ a. a.1)))

pub rises-as : (key : ℕ) (xs ys : List ℕ) → Ascending xs → ys ≡ insert_key key xs → ∥ Ascending ys ∥₁
rises-as key xs ys a e = ∣ subst Ascending (sym e) (insert-rises key xs a) ∣₁

-- ---- many keys more
inserts-append : (ks xs ys : List ℕ) → insert_keys ks (xs ++ ys) ≡ insert_keys (insert_keys ks xs) ys
inserts-append ks [] ys = refl
inserts-append ks (x ∷ xs) ys = inserts-append (insert_key x ks) xs ys

inserts-rise : (ks more : List ℕ) → Ascending ks → Ascending (insert_keys ks more)
inserts-rise ks [] a = a
inserts-rise ks (k ∷ more) a = inserts-rise (insert_key k ks) more (insert-rises k ks a)

inserts-elim : (ks more : List ℕ) (y : ℕ) → y ∈ insert_keys ks more → (y ∈ ks) ⊎ (y ∈ more)
inserts-elim ks [] y m = inl m
inserts-elim ks (k ∷ more) y m =
    ⊎_elim
    (λ i. ⊎_elim (λ e. inr (Memᴰ.head e)) inl (insert-elim k ks y i))
    (λ i. inr (there i))
    (inserts-elim (insert_key k ks) more y m)

inserts-intro : (ks more : List ℕ) (y : ℕ) → (y ∈ ks) ⊎ (y ∈ more) → y ∈ insert_keys ks more
inserts-intro ks [] y h = ⊎_elim (λ m. m) (λ m. absurd (Memᴰ.not-nil m)) h
inserts-intro ks (k ∷ more) y h =
    inserts-intro (insert_key k ks) more y
    (⊎_elim (λ m. inl (insert-intro k ks y (inr m))) (λ m. ⊎_elim (λ e. inl (insert-intro k ks y (inl e))) inr (Memᴰ.cases_cons m)) h)

-- ---- the loop of one key, over the keys xs: those before place i are laid, and `more` is to go among those from there on
pub record Shifting (key : ℕ) (xs keys : List ℕ) (more i : ℕ) : Type 0 where
  pub room : length xs < length keys
  pub behind : slice i (length xs) keys ≡ drop i xs
  pub rises : Ascending (drop i xs)
  pub rest : take i keys ++ insert_key more (drop i xs) ≡ insert_key key xs

pub shifting : (key : ℕ) (xs keys : List ℕ) (n : ℕ) → xs ≡ take n keys → n < length keys → Ascending xs → Shifting key xs keys key 0
shifting key xs keys n e b a =
    let long : length xs ≡ n = ap length e ∙ length-take-le n keys (omega arith) in
    record { room = omega arith; behind = ap (λ (k : ℕ). take k keys) long ∙ sym e; rises = a; rest = refl }

module _ {key : ℕ} {xs keys : List ℕ} {more i : ℕ} (g : Shifting key xs keys more i) where
  -- the end: `more` is the last
  pub shifted : i ≡ length xs → (n : ℕ) → n ≡ length xs → take (n + 1) (set keys n more) ≡ insert_key key xs
  shifted e n q =
      let none : drop i xs ≡ [] = drop_of_length-le xs (omega arith) in
      let here : n ≡ i = omega arith in
      rw (add-one n) (take-suc-set keys n more (omega (arith, g.room)) ∙ ap (λ (k : ℕ). take k keys ++ (more ∷ [])) here ∙ ap (λ (l : List ℕ). take i keys ++ insert_key more l) (sym none) ∙ g.rest)

  module _ (h : i < length xs) where
    parts : drop i xs ≡ get_or xs i 0 ∷ drop (suc i) xs
    parts = drop-cons xs i 0 h

    both : ◌≡◌ {A = List ℕ} (get_or keys i 0 ∷ slice (suc i) (length xs) keys) (get_or xs i 0 ∷ drop (suc i) xs)
    both = sym (slice-cons i (length xs) keys 0 h (omega (arith, g.room))) ∙ g.behind ∙ parts

    whole : take i keys ++ insert_key more (get_or xs i 0 ∷ drop (suc i) xs) ≡ insert_key key xs
    whole = ap (λ (l : List ℕ). take i keys ++ insert_key more l) (sym parts) ∙ g.rest

    rises-on : Ascending (get_or xs i 0 ∷ drop (suc i) xs)
    rises-on = subst Ascending parts g.rises

    -- place i is laid, by x
    laid : (new : List ℕ) (x : ℕ) (ys : List ℕ) → take (suc i) new ≡ take i keys ++ (x ∷ []) → x ∷ ys ≡ insert_key more (get_or xs i 0 ∷ drop (suc i) xs)
        → take (suc i) new ++ ys ≡ insert_key key xs
    laid new x ys p q = ap (λ (l : List ℕ). l ++ ys) p ∙ append_assoc (take i keys) (x ∷ []) ys ∙ ap (λ (l : List ℕ). take i keys ++ l) q ∙ whole

    -- the key is there
    pub shift-there : get_or xs i 0 ≡ more → (n : ℕ) → n ≡ length xs → take n keys ≡ insert_key key xs
    shift-there q n e =
        ap (λ (k : ℕ). take k keys) e
        ∙ sym (take-append-drop i (take (length xs) keys))
        ∙ ap (λ (l : List ℕ). l ++ slice i (length xs) keys) (take-take i (length xs) keys (omega arith))
        ∙ ap (λ (l : List ℕ). take i keys ++ l) (g.behind ∙ parts ∙ sym (insert-same more (get_or xs i 0) (drop (suc i) xs) (sym q)))
        ∙ whole

    -- the key stands behind this one
    pub shift-on : (get_or xs i 0 ≡ more → ⊥) → get_or xs i 0 ≤ more → Shifting key xs keys more (i + 1)
    shift-on q b =
        let ys = insert_key more (drop (suc i) xs) in
        rw (add-one i) (record {
          room = g.room;
          behind = ap (drop 1) both;
          rises = rises-on.1;
          rest = laid keys (get_or keys i 0) ys (take-suc keys i 0 (omega (arith, g.room)))
              (ap (λ (l : List ℕ). get_or l 0 0 ∷ ys) both ∙ sym (insert-behind more (get_or xs i 0) (drop (suc i) xs) (omega arith)));
        })

    -- it goes here, and this one further on
    pub shift-here : more < get_or xs i 0 → Shifting key xs (set keys i more) (get_or xs i 0) (i + 1)
    shift-here b =
        let x = get_or xs i 0 in
        let others = drop (suc i) xs in
        rw (add-one i) (record {
          room = omega (arith, g.room, length-set keys i more);
          behind = ap (drop (suc i)) (take-set-lt (length xs) keys i more h) ∙ drop-set-lt (suc i) (take (length xs) keys) i more (omega arith) ∙ ap (drop 1) both;
          rises = rises-on.1;
          rest = laid (set keys i more) more (insert_key x others) (take-suc-set keys i more (omega (arith, g.room)))
              (ap {B = List ℕ} (λ l. more ∷ l) (insert-front x others rises-on) ∙ sym (insert-before more x others b));
        })

-- ---- what a label asks for
-- a word is found within, or at the end
found_within : (buf : List ℕ) (used w : ℕ) → found_at buf used w ≤ used
unfolding found_at
found_within buf used w = omega (arith, go 0 used)
  where
    go : (i k : ℕ) → place_from buf w i k ≤ i + k
    go i zero = omega arith
    go i (suc k) =
        ⊎_elim
        (λ (e : eqb (get_or buf i 0) w ≡ true). rw (e, place_from) (omega arith))
        (λ (e : eqb (get_or buf i 0) w ≡ false). rw (e, place_from) (omega (arith, go (suc i) k)))
        (cases (eqb (get_or buf i 0) w))

-- the place that is found, or else the end
pub found_place : (buf : List ℕ) (used w : ℕ) → used ≤ length buf → (unwrap_or (found buf used w) used ≡ found_at buf used w) × (found_at buf used w ≤ used)
found_place buf used w fits =
    let p = found_at buf used w in
    let h = found_within buf used w in (
      ap (λ (o : Maybe ℕ). unwrap_or o used) (found-is buf w used fits)
          ∙ ⊎_elim
          (λ (e : ltb p used ≡ true). rw e refl)
          (λ (e : ltb p used ≡ false). rw e (omega (arith, h, ltb-false p used e)))
          (cases (ltb p used)),
      h,
    )

-- roles are below 8
line-role : (s : Sheet) (l : Label) (h f : Bool) (c : Line) → line_in_limits c ≡ true → (q : Ask) → q ∈ asks_of s l h f c → q.role < role_count
line-role s l h f top e q m = absurd (Memᴰ.not-nil m)
line-role s l h f bottom e q m = absurd (Memᴰ.not-nil m)
line-role s l h f (name a) e q m = absurd (Memᴰ.not-nil m)
line-role s l h f (negation i) e q m = absurd (Memᴰ.not-nil m)
line-role s l h f (and i j) e q m = absurd (Memᴰ.not-nil m)
line-role s l h f (or i j) e q m = absurd (Memᴰ.not-nil m)
line-role s l h f (some r i) e q m = rw (cond-elim h m).1 (ltb-true r role_count e)
line-role s l h f (only r i) e q m = rw (cond-elim f m).1 (ltb-true r role_count e)

one-most : {A : Type 0} (b : Bool) (x : A) → length (cond b (x ∷ []) []) ≤ 1
one-most true x = omega arith
one-most false x = omega arith

-- a line asks for one seed at most
line-asks : (s : Sheet) (l : Label) (h f : Bool) (c : Line) → length (asks_of s l h f c) ≤ 1
line-asks s l h f top = omega arith
line-asks s l h f bottom = omega arith
line-asks s l h f (name a) = omega arith
line-asks s l h f (negation i) = omega arith
line-asks s l h f (and i j) = omega arith
line-asks s l h f (or i j) = omega arith
line-asks s l h f (some r i) = one-most h (record { role = r; seed = seed_of s l r (holds i) })
line-asks s l h f (only r i) = one-most f (record { role = r; seed = seed_of s l r (fails i) })

each-most-one : {A B : Type 0} (f : A → List B) (xs : List A) → ((x : A) → length (f x) ≤ 1) → length (each f xs) ≤ length xs
each-most-one f [] h = omega arith
each-most-one f (x ∷ xs) h = omega (arith, length-append (f x) (each f xs), h x, each-most-one f xs h)

module _ (s : Sheet) (lim : in_limits s ≡ true) (l : Label) where
  asks-role : (q : Ask) → q ∈ asks s l → q.role < role_count
  unfolding asks
  asks-role q m =
      let (i, i-in, k) = each-elim (λ i. asks_of s l (has l (holds i)) (has l (fails i)) (line s i)) (up_to (count s)) m in
      line-role s l (has l (holds i)) (has l (fails i)) (line s i) (lines-limited s lim (line s i) (get_or-in s.lines i top (up_to-elim (count s) i i-in))) q k

  asks-few : length (asks s l) ≤ 32
  unfolding asks
  asks-few = omega (
    arith,
    (few lim).lines,
    length_from 0 (count s),
    each-most-one (λ i. asks_of s l (has l (holds i)) (has l (fails i)) (line s i)) (up_to (count s)) (λ i. line-asks s l (has l (holds i)) (has l (fails i)) (line s i)),
  )

-- ---- the loop over what is asked for: what is left to put in is the whole
pub record Asking (key : Ask → ℕ) (all rest : List Ask) (edges : Edges) : Type 0 where
  pub few : edges.count + length rest ≤ 32
  pub roles : (q : Ask) → q ∈ rest → q.role < role_count
  pub whole : insert_keys (keys_of edges) (map key rest) ≡ insert_keys [] (map key all)

pub asking : (s : Sheet) → in_limits s ≡ true → (l : Label) (key : Ask → ℕ) (rest : List Ask) → rest ≡ asks s l → (edges : Edges) → keys_of edges ≡ [] → edges.count ≡ 0
    → Asking key (asks s l) rest edges
asking s lim l key rest is edges e z = record {
  few = omega (arith, asks-few s lim l, ap length is);
  roles = λ q m. asks-role s lim l q (subst (λ (qs : List Ask). q ∈ qs) is m);
  whole = ap₂ (λ (ks : List ℕ) (qs : List Ask). insert_keys ks (map key qs)) e is;
}

module _ {key : Ask → ℕ} {all rest : List Ask} {edges : Edges} (g : Asking key all rest edges) where
  pub asked-all : rest ≡ [] → (edges.count ≤ 32) × (keys_of edges ≡ insert_keys [] (map key all))
  asked-all e = (omega (arith, g.few), sym (ap (λ (qs : List Ask). insert_keys (keys_of edges) (map key qs)) e) ∙ g.whole)

  module _ (q : Ask) (others : List Ask) (is : rest ≡ q ∷ others) where
    pub asked-role : q.role < role_count
    asked-role = g.roles q (subst (λ (qs : List Ask). q ∈ qs) (sym is) here)

    pub ask-on : (next : Edges) → keys_of next ≡ insert_key (key q) (keys_of edges) → next.count ≤ edges.count + 1 → Asking key all others next
    ask-on next e c = record {
      few = omega (arith, g.few, ap length is);
      roles = λ k m. g.roles k (subst (λ (qs : List Ask). k ∈ qs) (sym is) (there m));
      whole = ap (λ (ks : List ℕ). insert_keys ks (map key others)) e ∙ ap (λ (qs : List Ask). insert_keys (keys_of edges) (map key qs)) (sym is) ∙ g.whole;
    }

-- ---- the loop over the role assertions: what is left to put in is the whole
keys_from : (x : ℕ) (a : RoleAssertion) → a.source ≡ x → keys_along x a ≡ key_of a.role a.target ∷ []
keys_from x a e = rw (eq-eqb a.source x e)

keys-other : (x : ℕ) (a : RoleAssertion) → (a.source ≡ x → ⊥) → keys_along x a ≡ []
keys-other x a e = rw (ne_eqb a.source x e)

pub record Along (s : Sheet) (x : ℕ) (start edges : Edges) (e : ℕ) : Type 0 where
  pub few : edges.count ≤ 32 + e
  pub rest : insert_keys (keys_of edges) (each (keys_along x) (drop e s.roles)) ≡ insert_keys (keys_of start) (each (keys_along x) s.roles)

pub along-start : (s : Sheet) (x : ℕ) (start : Edges) → start.count ≤ 32 → Along s x start start 0
along-start s x start c = record { few = omega arith; rest = refl }

module _ {s : Sheet} {x : ℕ} {start edges : Edges} {e : ℕ} (g : Along s x start edges e) where
  pub along-end : length s.roles ≤ e → (ks : List ℕ) → keys_of start ≡ insert_keys [] ks → keys_of edges ≡ insert_keys [] (ks ++ each (keys_along x) s.roles)
  along-end b ks q =
      let none : drop e s.roles ≡ [] = drop_of_length-le s.roles b in
      sym (ap (λ (rs : List RoleAssertion). insert_keys (keys_of edges) (each (keys_along x) rs)) none)
      ∙ g.rest
      ∙ ap (λ (k : List ℕ). insert_keys k (each (keys_along x) s.roles)) q
      ∙ sym (inserts-append [] ks (each (keys_along x) s.roles))

  module _ (b : e < length s.roles) where
    along-on : (next : Edges) → keys_of next ≡ insert_keys (keys_of edges) (keys_along x (role_assertion s e)) → next.count ≤ edges.count + 1 → Along s x start next (e + 1)
    along-on next q c =
        let now = keys_along x (role_assertion s e) in
        let others = each (keys_along x) (drop (suc e) s.roles) in
        let parts : drop e s.roles ≡ role_assertion s e ∷ drop (suc e) s.roles = drop-cons s.roles e (record { role = 0; source = 0; target = 0 }) b in
        rw (add-one e) (record {
          few = omega (arith, g.few);
          rest =
              ap (λ (ks : List ℕ). insert_keys ks others) q
              ∙ sym (inserts-append (keys_of edges) now others)
              ∙ ap (λ (rs : List RoleAssertion). insert_keys (keys_of edges) (each (keys_along x) rs)) (sym parts)
              ∙ g.rest;
        })

    pub along-other : ((role_assertion s e).source ≡ x → ⊥) → Along s x start edges (e + 1)
    along-other q = along-on edges (ap (insert_keys (keys_of edges)) (sym (keys-other x (role_assertion s e) q))) (omega arith)

    pub along_one : (role_assertion s e).source ≡ x → (next : Edges) → keys_of next ≡ insert_key (key_of (role_assertion s e).role (role_assertion s e).target) (keys_of edges)
        → next.count ≤ edges.count + 1 → Along s x start next (e + 1)
    along_one q next r c = along-on next (r ∙ ap (insert_keys (keys_of edges)) (sym (keys_from x (role_assertion s e) q))) c

-- the numbers of a role assertion
pub role-small : (s : Sheet) → well_formed s ≡ true → in_limits s ≡ true → (e : ℕ) → e < length s.roles → ((role_assertion s e).role < role_count) × ((role_assertion s e).target < 8)
role-small s wf lim e b =
    (roles-limited s lim (role_assertion s e) (get_or-in s.roles e _ b), omega (arith, (role-inside s wf e b).1, (few lim).individuals))

-- ---- the keys as edges
earlier-key : (x k j : ℕ) → k < j → Earlier (edge_of x k) (edge_of x j)
earlier-key x k j h = elim (dec_lt (k / 8192) (j / 8192)) [
  | yes b ↦ inr (refl, inl b)
  | no b ↦ inr (refl, inr (omega arith, omega arith))
]

rising-sorted : (x : ℕ) (ks : List ℕ) → Ascending ks → Sorted Earlier (map (edge_of x) ks)
rising-sorted x [] a = tt
rising-sorted x (k ∷ ks) a = (
  λ f m. let (j, j-in, e) = Memᴰ.of_map (edge_of x) ks m in subst (Earlier (edge_of x k)) e (earlier-key x k j (a.0 j j-in)),
  rising-sorted x ks a.1,
)

key-parts : (x r y : ℕ) → y < 8192 → edge_of x (key_of r y) ≡ x ∷ r ∷ y ∷ []
key-parts x r y h =
    let p : key_of r y / 8192 ≡ r = omega arith in
    let q : key_of r y % 8192 ≡ y = omega arith in
    λ i. x ∷ p i ∷ q i ∷ []

module _ (s : Sheet) (wf : WellFormed s) (lim : in_limits s ≡ true) (J : Joint) (R : Recorded) (long : length J ≡ R.first) (ones : s.individuals ≤ R.first)
    (l : Label) (all_in : SeedsIn s l (recorded R.seeds R.records.now)) (d : Distinct (recorded R.seeds R.records.now)) (x : ℕ) where
  abbrev first : ℕ
  first = R.first

  abbrev seeds : ℕ
  seeds = R.seeds

  abbrev recs : List ℕ
  recs = R.records.now

  abbrev B : List Label
  B = recorded seeds recs

  abbrev n : ℕ
  n = length J + length B

  size : length B ≡ seeds
  size = length-recorded seeds recs R.fits

  abbrev edge : ℕ → ℕ → ℕ → Bool
  edge r z y = any (leads J B r y) (asks s l) || any (asserted r z y) s.roles

  abbrev keys : List ℕ
  keys = map (ask_key R) (asks s l) ++ each (keys_along x) s.roles

  abbrev place : Ask → ℕ
  place q = found_at recs seeds (word_of q.seed)

  -- a seed stands at its place
  seat : (q : Ask) → q ∈ asks s l → (place q < seeds) × (label B (place q) ≡ q.seed)
  seat q m =
      let i : q.seed ∈ B = all_in q.seed (Memᴰ.map (λ (k : Ask). k.seed) m) in
      let (j, j<, e) = label-of B q.seed i in
      let b : j < seeds = omega (arith, size) in
      let word : get_or recs j 0 % 4294967296 < 4294967296 = omega arith in
      let word_small : q.seed.holding < 4294967296 = subst (λ (k : Label). k.holding < 4294967296) (sym (record-at seeds recs j b) ∙ e) word in
      let p = in-found recs seeds R.fits q.seed i in
      (p, record-at seeds recs (place q) p ∙ found-label recs seeds R.fits q.seed word_small p)

  leads-there : (q : Ask) → q ∈ asks s l → leads J B q.role (first + place q) q ≡ true
  unfolding leads
  leads-there q m =
      let y = first + place q in
      let back : y - length J ≡ place q = omega arith in
      and_both (eqb q.role q.role) _ (eq-eqb q.role q.role refl)
      (and_both (leb (length J) y) _ (le-leb (length J) y (omega arith))
      (subst (λ (k : Label). same q.seed k ≡ true) (sym (ap (label B) back ∙ (seat q m).1)) (same_refl q.seed)))

  leads-only : (r y : ℕ) → y < n → (q : Ask) → q ∈ asks s l → leads J B r y q ≡ true → (q.role ≡ r) × (first + place q ≡ y)
  unfolding leads
  leads-only r y y< q m t =
      let rest = and_right (eqb q.role r) (leb (length J) y && same q.seed (label B (y - length J))) t in
      let from = leb-true (length J) y (and_left (leb (length J) y) (same q.seed (label B (y - length J))) rest) in
      let seed = same_true q.seed (label B (y - length J)) (and_right (leb (length J) y) (same q.seed (label B (y - length J))) rest) in
      let (p, e) = seat q m in
      let one : y - length J ≡ place q = distinct-place B d (y - length J) (place q) (omega arith) (omega (arith, size)) (sym seed ∙ sym e) in
      (eqb-true q.role r (and_left (eqb q.role r) (leb (length J) y && same q.seed (label B (y - length J))) t), omega arith)

  asserted-there : (a : RoleAssertion) → a.source ≡ x → asserted a.role x a.target a ≡ true
  unfolding asserted
  asserted-there a e =
      and_both (eqb a.role a.role) _ (eq-eqb a.role a.role refl)
      (and_both (eqb a.source x) _ (eq-eqb a.source x e) (eq-eqb a.target a.target refl))

  asserted-only : (r y : ℕ) (a : RoleAssertion) → asserted r x y a ≡ true → (a.role ≡ r) × (a.source ≡ x) × (a.target ≡ y)
  unfolding asserted
  asserted-only r y a t =
      let rest = and_right (eqb a.role r) (eqb a.source x && eqb a.target y) t in (
        eqb-true a.role r (and_left (eqb a.role r) (eqb a.source x && eqb a.target y) t),
        eqb-true a.source x (and_left (eqb a.source x) (eqb a.target y) rest),
        eqb-true a.target y (and_right (eqb a.source x) (eqb a.target y) rest),
      )

  key-edge : (k : ℕ) → k ∈ keys → edge_of x k ∈ leaving n edge x
  key-edge k m = ⊎_elim
      (λ i. let (q, q-in, e) = Memᴰ.of_map (ask_key R) (asks s l) i in
      let y = first + place q in
      let (p, _) = seat q q-in in
      Memᴰ.cast (ap (edge_of x) (sym e) ∙ key-parts x q.role y (omega arith))
      (leaving-intro n edge x q.role y (asks-role s lim l q q-in) (omega (arith, size))
      (or_left (any (leads J B q.role y) (asks s l)) _ (any-intro (leads J B q.role y) (asks s l) q-in (leads-there q q-in)))))
      (λ i. let (a, a_in, c) = each-elim (keys_along x) s.roles i in
      let (t, e) = cond-elim (eqb a.source x) c in
      let (_, b) = wf.roles a a_in in
      Memᴰ.cast (ap (edge_of x) e ∙ key-parts x a.role a.target (omega arith))
      (leaving-intro n edge x a.role a.target (roles-limited s lim a a_in) (omega arith)
      (or_right (any (leads J B a.role a.target) (asks s l)) _
      (any-intro (asserted a.role x a.target) s.roles a_in (asserted-there a (eqb-true a.source x t))))))
      (Memᴰ.append_cases (map (ask_key R) (asks s l)) m)

  edge-key : (r y : ℕ) → y < n → edge r x y ≡ true → (k : ℕ) × (k ∈ keys) × (edge_of x k ≡ x ∷ r ∷ y ∷ [])
  edge-key r y y< t = ⊎_elim
      (λ u. let (q, q-in, v) = any-elim (leads J B r y) (asks s l) u in
      let (e, f) = leads-only r y y< q q-in v in (
        ask_key R q,
        Memᴰ.append_left (each (keys_along x) s.roles) (Memᴰ.map (ask_key R) q-in),
        key-parts x q.role (first + place q) (omega (arith, size)) ∙ (λ i. x ∷ e i ∷ f i ∷ []),
      ))
      (λ u. let (a, a_in, v) = any-elim (asserted r x y) s.roles u in
      let (e, h, f) = asserted-only r y a v in
      let (_, b) = wf.roles a a_in in (
        key_of a.role a.target,
        Memᴰ.append_right (map (ask_key R) (asks s l))
            (each-intro (keys_along x) s.roles a_in (cond-intro (eqb a.source x) (eq-eqb a.source x h))),
        key-parts x a.role a.target (omega arith) ∙ (λ i. x ∷ e i ∷ f i ∷ []),
      ))
      (or_cases (any (leads J B r y) (asks s l)) (any (asserted r x y) s.roles) t)

  pub edges_are : map (edge_of x) (insert_keys [] keys) ≡ edges_from s J B l x
  unfolding edges_from
  edges_are = sorted-unique Earlier earlier-once (map (edge_of x) (insert_keys [] keys)) (leaving n edge x)
      (rising-sorted x (insert_keys [] keys) (inserts-rise [] keys tt))
      (leaving-sorted n edge x)
      (λ f. (
        λ m. let (k, k-in, e) = Memᴰ.of_map (edge_of x) (insert_keys [] keys) m in
            Memᴰ.cast (sym e) (key-edge k (⊎_elim (λ i. absurd (Memᴰ.not-nil i)) (λ i. i) (inserts-elim [] keys k k-in))),
        λ m. let (r, y, _, y<, t, e) = leaving-elim n edge x f m in
            let (k, k-in, p) = edge-key r y y< t in
            Memᴰ.cast (e ∙ sym p) (Memᴰ.map (edge_of x) (inserts-intro [] keys k (inr k-in))),
      ))
