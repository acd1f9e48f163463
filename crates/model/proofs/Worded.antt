-- The words of a model as its writer lays them: rows one behind the other, the label and the edges of each element, the names that hold. Assumes nothing.
use Prim.Native.Nat.{ℕ, zero, suc, ◌+◌, ◌-◌, ◌*◌, ◌/◌, ◌%◌, ◌^◌, ◌≤◌, ◌<◌}
use mathlib.Core.Bool.{Bool, true, false, ◌&&◌, ◌||◌, cond}
use mathlib.Core.HLevel.{⊥_prop}
use mathlib.Core.Path.{◌≡◌, refl, sym, ◌∙◌, ap, ap₂, subst}
use mathlib.Core.Logic.{◌⊎◌, inl, inr, ⊎_elim, ∥∥₁_elim, ∥∥₁_map}
use mathlib.Core.List.Memᴰ
use mathlib.Core.List.{List, [], ◌∷◌, ◌++◌, map, map-append, append_assoc, append-nil}
use native.Mathlib.Bridge.{le_prop}
use native.Mathlib.Nat.{mul-le-mul}
use native.Mathlib.Omega.{arith}
use lib.ListN.{length, drop_of_length-le, get_or, take, drop, set, length-append, length-drop, length-map, take-append-drop}
use lib.Seq.{length-take-le, take_all, drop-cons, set_at, append_snoc, take-suc, take_at, take-add, drop_at, drop-drop, sets, sets-eq}
use lib.Dec.{eqb, ltb}
use lib.Bits.{bit_or, or_lt}
use borrow.Author.Tests.{ltb-true, ltb-false, eq-eqb, ne_eqb}
use Rattle.std.specs.Prelude.{max}
use Rattle.alc.specs.Bits.{bit, put}
use Rattle.alc.specs.Lists.{◌∈◌, Distinct, any, each, up_to}
use Rattle.alc.specs.declared.Line.{Line}
use Rattle.alc.specs.declared.Line.TheVariants.{Top as top, Bottom as bottom, Name as name, Not as negation, And as and, Or as or, Some as some, Only as only}
use Rattle.alc.specs.Sheet.{Sheet, count, line, line_in_limits, in_limits, role_count}
use Rattle.alc.specs.declared.Label.{Label}
use Rattle.alc.specs.Label.{is_name}
use Rattle.alc.specs.Settle as theory
use Rattle.alc.specs.Settle.{label}
use Rattle.alc.specs.Seeds.{among, asks, seed_survives, universe}
use Rattle.alc.specs.Model.{leads, asserted, chosen, label_at, edge_at, model_edges, name_mask, model_seeds, model_words}
use Rattle.alc.specs.Model as model
use Rattle.alc.proofs.Theorems.Lists.{cases, clashing, and_both, and-false-left, and-false-right, or_right, cond-elim, each_append, each-elim, get_or-in, length_from, same?, up_to-more}
use Rattle.alc.proofs.Theorems.Counting.{length-each}
use Rattle.alc.proofs.Theorems.Bits.{bit-none, bit-put, bit-put-other, put_word, bit-ext-below}
use Rattle.alc.proofs.Theorems.Seeds.{among_in, among-true}
use Rattle.alc.proofs.Theorems.Sheet.{lines-limited}
use Rattle.alc.proofs.Theorems.Words.{mask-small, mask-bit}
use Rattle.tableau.specs.declared.labels.Labels.{Labels}
use Rattle.edges.specs.declared.keys.Edges.{Edges}
use Rattle.tableau.specs.Records.{label_of, recorded}
use Rattle.tableau.specs.Joints.{joint_of}
use Rattle.edges.specs.Keys.{SeedsIn, keys_of, edge_of, edges_from}
use Rattle.model.specs.Laid.{Ready, mask_of, masks_of, words_of}
use Rattle.engine.proofs.Ledgers.{recorded-at, length-recorded}

-- ---- one more of a range
module _ {B : Type 0} (f : ℕ → List B) where
  pub each_more : (n : ℕ) → each f (up_to (n + 1)) ≡ each f (up_to n) ++ f n
  each_more n = ap (each f) (up_to-more n) ∙ each_append f (up_to n) (n ∷ []) ∙ ap (λ (r : List B). each f (up_to n) ++ r) (append-nil (f n))

  pub length_more : (n : ℕ) → length (each f (up_to (n + 1))) ≡ length (each f (up_to n)) + length (f n)
  length_more n = ap length (each_more n) ∙ length-append (each f (up_to n)) (f n)

  -- fewer rows are no longer
  length-below : (n k : ℕ) → length (each f (up_to n)) ≤ length (each f (up_to (n + k)))
  length-below n zero = let e : n + 0 ≡ n = omega arith in rw e (omega arith)
  length-below n (suc k) = let e : n + suc k ≡ n + k + 1 = omega arith in rw e (omega (arith, length-below n k, length_more (n + k)))

-- rows of at most k each
each-most : {B : Type 0} (f : ℕ → List B) (n k : ℕ) → ((x : ℕ) → length (f x) ≤ k) → length (each f (up_to n)) ≤ n * k
each-most f zero k h = omega arith
each-most f (suc n) k h =
    let e : suc n ≡ n + 1 = omega arith in
    omega (arith, ap (λ (m : ℕ). length (each f (up_to m))) e, length_more f n, each-most f n k h, h n)

one-most : {A : Type 0} (b : Bool) (x : A) → length (cond b (x ∷ []) []) ≤ 1
one-most true x = omega arith
one-most false x = omega arith

-- ---- rows laid one behind the other
-- the rows below n stand in the buffer from `start` on, up to `at`, and the rest is as it was
pub record Laying (row : ℕ → List ℕ) (start : ℕ) (buf : List ℕ) (n at : ℕ) (out : List ℕ) : Type 0 where
  pub behind : at ≡ start + length (each row (up_to n))
  pub words : out ≡ take start buf ++ (each row (up_to n) ++ drop at buf)
  pub size : length out ≡ length buf

module _ (row : ℕ → List ℕ) (start : ℕ) (buf : List ℕ) where
  pub laying : Laying row start buf 0 start buf
  laying = record { behind = omega arith; words = sym (take-append-drop start buf); size = refl }

  -- row n is laid as the words w
  pub lay-on : {n at : ℕ} {out : List ℕ} → Laying row start buf n at out → (w out' : List ℕ) (at' : ℕ) → row n ≡ w → at' ≡ at + length w → at' ≤ length buf
      → out' ≡ take at out ++ (w ++ drop at' out) → Laying row start buf (n + 1) at' out'
  lay-on {n} {at} {out} g w out' at' is further fits e =
      let A = take start buf in
      let R = each row (up_to n) in
      let b : start ≤ length buf = omega (arith, g.behind) in
      let parts : out ≡ (A ++ R) ++ drop at buf = g.words ∙ sym (append_assoc A R (drop at buf)) in
      let long : length (A ++ R) ≡ at = omega (arith, length-append A R, length-take-le start buf b, g.behind) in
      let front : take at out ≡ A ++ R = ap (take at) parts ∙ take_at (A ++ R) (drop at buf) at long in
      let rest : drop at out ≡ drop at buf = ap (drop at) parts ∙ drop_at (A ++ R) (drop at buf) at long in
      let back : drop at' out ≡ drop at' buf =
      rw further (sym (drop-drop (length w) at out) ∙ ap (drop (length w)) rest ∙ drop-drop (length w) at buf) in
      let here : out' ≡ (A ++ R) ++ (w ++ drop at' buf) = e ∙ ap₂ (λ (p q : List ℕ). p ++ (w ++ q)) front back in
      record {
        behind = omega (arith, length_more row n, ap length is, g.behind);
        words = here ∙ rw (each_more row n, is, append_assoc, append_assoc);
        size = ap length here ∙ simp (length-append, length-drop) (omega (arith, length-take-le start buf b));
      }

  -- so it is where w is stored word by word
  lay-sets : {n at : ℕ} {out : List ℕ} → Laying row start buf n at out → (w : List ℕ) (at' : ℕ) → row n ≡ w → at' ≡ at + length w → at' ≤ length buf
      → Laying row start buf (n + 1) at' (sets out at w)
  lay-sets {n} {at} {out} g w at' is further fits =
      lay-on g w (sets out at w) at' is further fits
      (sets-eq w out at (omega (arith, g.size)) ∙ append_assoc (take at out) w (drop (at + length w) out) ∙ rw further)

-- the rows of a list's first members
each-taken : (f : ℕ → List ℕ) (l : List ℕ) (n : ℕ) → n ≤ length l → each (λ i. f (get_or l i 0)) (up_to n) ≡ each f (take n l)
each-taken f l zero b = refl
each-taken f l (suc n) b =
    let e : suc n ≡ n + 1 = omega arith in
    ap (λ (k : ℕ). each (λ i. f (get_or l i 0)) (up_to k)) e ∙ each_more (λ i. f (get_or l i 0)) n
    ∙ ap₂ ◌++◌ (each-taken f l n (omega arith)) (sym (append-nil (f (get_or l n 0))))
    ∙ sym (each_append f (take n l) (get_or l n 0 ∷ [])) ∙ ap (each f) (sym (take-suc l n 0 b))

-- ---- the edges from an element, by their keys: a row of three words for each
module _ (x : ℕ) (keys : List ℕ) {start i at : ℕ} {buf out : List ℕ} (g : Laying (λ k. edge_of x (get_or keys k 0)) start buf i at out) where
  pub edge-place : at ≡ start + 3 * i
  edge-place = omega (arith, g.behind, length-each (λ k. edge_of x (get_or keys k 0)) 3 (up_to i) (λ _ _. refl), length_from 0 i)

  pub lay-edge : at + 3 ≤ length buf
      → Laying (λ k. edge_of x (get_or keys k 0)) start buf (i + 1) (at + 3) (set (set (set out at x) (at + 1) (get_or keys i 0 / 8192)) (at + 2) (get_or keys i 0 % 8192))
  lay-edge fits =
      let one : at + 1 ≡ suc at = omega arith in
      let two : at + 2 ≡ suc (suc at) = omega arith in
      rw (one, two) (lay-sets (λ k. edge_of x (get_or keys k 0)) start buf g (edge_of x (get_or keys i 0)) (at + 3) refl refl fits)

  -- all are laid: n of them, the keys ks
  pub laid-edges : i ≡ length keys → (n : ℕ) → n ≡ length keys → (ks : List ℕ) → keys ≡ ks
      → (at ≡ start + 3 * n) × (out ≡ take start buf ++ (each (edge_of x) ks ++ drop (start + 3 * n) buf))
  laid-edges e n b ks q =
      let place : at ≡ start + 3 * n = omega (arith, edge-place) in
      let all : each (λ k. edge_of x (get_or keys k 0)) (up_to i) ≡ each (edge_of x) ks =
      each-taken (edge_of x) keys i (omega arith) ∙ ap (each (edge_of x)) (take_all i keys (omega arith) ∙ q) in
      (place, g.words ∙ ap₂ (λ (r : List ℕ) (k : ℕ). take start buf ++ (r ++ drop k buf)) all place)

-- ---- sections of words, each in the part of the buffer behind the last
abbrev pub written : List ℕ → List ℕ → List ℕ
written xs buf = xs ++ drop (length xs) buf

pub length-written : (xs buf : List ℕ) → length xs ≤ length buf → length (written xs buf) ≡ length buf
length-written xs buf b = simp (length-append, length-drop) (omega arith)

module _ (xs buf : List ℕ) (n : ℕ) (e : n ≡ length xs) where
  -- one word more
  pub written_next : (v : ℕ) → n < length buf → set (written xs buf) n v ≡ written (xs ++ (v ∷ [])) buf
  written_next v b =
      let more : length (xs ++ (v ∷ [])) ≡ suc (length xs) = omega (arith, length-append xs (v ∷ [])) in
      rw (more, drop-cons buf (length xs) 0 (omega arith)) (set_at xs (get_or buf (length xs) 0) (drop (suc (length xs)) buf) v n (sym e) ∙ sym (append_snoc xs v (drop (suc (length xs)) buf)))

  -- `mid` is what a function leaves of the part behind them: as the borrow checker has it, that is lent as `take k (drop n out)`, with k as many as are left
  pub written-part : (ys out mid : List ℕ) → out ≡ written xs buf → mid ≡ written ys (take (length out - n) (drop n out))
      → take n out ++ (mid ++ drop (length out - n) (drop n out)) ≡ written (xs ++ ys) buf
  written-part ys out mid one two =
      let none : drop (length out - n) (drop n out) ≡ [] = drop_of_length-le (drop n out) {i = length out - n} (simp length-drop (omega arith)) in
      let all : take (length out - n) (drop n out) ≡ drop n out = take_all (length out - n) (drop n out) (simp length-drop (omega arith)) in
      let behind : drop n out ≡ drop (length xs) buf = rw (e, one) (drop_at xs (drop (length xs) buf) (length xs) refl) in
      let front : take n out ≡ xs = rw (e, one) (take_at xs (drop (length xs) buf) (length xs) refl) in
      rw (none, two, all, behind, front, append-nil, drop-drop, length-append, append_assoc)

-- ---- the words of a model, by the rows of its elements
module _ {A B : Type 0} where
  each-flat : (f : A → List (List B)) (l : List A) → each (λ e. e) (each f l) ≡ each (λ x. each (λ e. e) (f x)) l
  each-flat f [] = refl
  each-flat f (x ∷ xs) = each_append (λ e. e) (f x) (each f xs) ∙ ap (λ (r : List B). each (λ e. e) (f x) ++ r) (each-flat f xs)

  each_map : (f : A → List B) (l : List A) → each f l ≡ each (λ e. e) (map f l)
  each_map f [] = refl
  each_map f (x ∷ xs) = ap (λ (r : List B). f x ++ r) (each_map f xs)

  each-one : (f : A → B) (l : List A) → map f l ≡ each (λ x. f x ∷ []) l
  each-one f [] = refl
  each-one f (x ∷ xs) = ap (λ (r : List B). f x ∷ r) (each-one f xs)

module _ (s : Sheet) (J : theory.Joint) (B : List Label) where
  abbrev pub size : ℕ
  size = length J + length B

  -- the edges from x; the words of them; the word of its names
  abbrev pub edges_at : ℕ → List (List ℕ)
  edges_at x = edges_from s J B (label_at J B (chosen s) x) x

  abbrev pub edge_words : ℕ → List ℕ
  edge_words x = each (λ e. e) (edges_at x)

  abbrev pub mask_words : ℕ → List ℕ
  mask_words x = mask_of s (label_at J B (chosen s) x) ∷ []

  edges-by-rows : model_edges s J B (chosen s) ≡ each edges_at (up_to size)
  unfolding model_edges edges_from edge_at
  edges-by-rows = refl

  pub edge-words : each (λ e. e) (model_edges s J B (chosen s)) ≡ each edge_words (up_to size)
  edge-words = ap (each (λ (e : List ℕ). e)) edges-by-rows ∙ each-flat edges_at (up_to size)

  masks-by-rows : masks_of s J B ≡ each mask_words (up_to size)
  unfolding masks_of
  masks-by-rows = each-one (λ x. mask_of s (label_at J B (chosen s) x)) (up_to size)

  -- an edge is three words
  threes : (l : Label) (x : ℕ) (e : List ℕ) → e ∈ edges_from s J B l x → length e ≡ 3
  unfolding edges_from
  threes l x e m =
      let leads_to : ℕ → ℕ → Bool = λ r y. any (leads J B r y) (asks s l) || any (asserted r x y) s.roles in
      let (r, _, i) = each-elim (λ r. each (λ y. cond (leads_to r y) ((x ∷ r ∷ y ∷ []) ∷ []) []) (up_to size)) (up_to role_count) m in
      let (y, _, k) = each-elim (λ y. cond (leads_to r y) ((x ∷ r ∷ y ∷ []) ∷ []) []) (up_to size) i in
      ap length (cond-elim (leads_to r y) k).1

  pub edges-length : length (each edge_words (up_to size)) ≡ 3 * length (model_edges s J B (chosen s))
  edges-length =
      ap length (sym edge-words)
      ∙ length-each (λ e. e) 3 (model_edges s J B (chosen s)) (λ e m.
      let (x, _, i) = each-elim edges_at (up_to size) (subst (λ (es : List (List ℕ)). e ∈ es) edges-by-rows m) in
      threes (label_at J B (chosen s) x) x e i)
      ∙ omega arith

  pub counted-all : (n total : ℕ) → total ≡ length (each edges_at (up_to n)) → n ≡ size → total ≡ length (model_edges s J B (chosen s))
  counted-all n total e f = e ∙ ap (λ (k : ℕ). length (each edges_at (up_to k))) f ∙ sym (ap length edges-by-rows)

  -- from each element at most one edge for each role and element: few enough for a word
  pub edges_few : size ≤ 4104 → length (model_edges s J B (chosen s)) < 4294967296
  unfolding model_edges
  edges_few b =
      let edge = edge_at s s.roles J B (chosen s) in
      let most = each-most (λ x. each (λ r. each (λ y. cond (edge r x y) ((x ∷ r ∷ y ∷ []) ∷ []) []) (up_to size)) (up_to role_count)) size (role_count * (size * 1))
      (λ x. each-most (λ r. each (λ y. cond (edge r x y) ((x ∷ r ∷ y ∷ []) ∷ []) []) (up_to size)) role_count (size * 1)
      (λ r. each-most (λ y. cond (edge r x y) ((x ∷ r ∷ y ∷ []) ∷ []) []) size 1 (λ y. one-most (edge r x y) (x ∷ r ∷ y ∷ [])))) in
      let row : role_count * (size * 1) ≤ 32832 = omega arith in
      omega (arith, most, mul-le-mul b row)

  pub masks-length : length (masks_of s J B) ≡ size
  unfolding masks_of
  masks-length = length-map (up_to size) (λ x. mask_of s (label_at J B (chosen s) x)) ∙ length_from 0 size

  pub words-length : length (words_of s J B) ≡ 2 + size + 3 * length (model_edges s J B (chosen s))
  unfolding words_of
  words-length =
      let es = model_edges s J B (chosen s) in
      omega (arith, length-append (masks_of s J B) (length es ∷ each (λ e. e) es), masks-length, edges-length, ap length edge-words)

  -- the words as the writer lays them, section by section
  pub words-by-parts : ((size ∷ []) ++ masks_of s J B) ++ (length (model_edges s J B (chosen s)) ∷ []) ++ each (λ e. e) (model_edges s J B (chosen s)) ≡ words_of s J B
  unfolding words_of
  words-by-parts = append_snoc (size ∷ masks_of s J B) (length (model_edges s J B (chosen s))) (each (λ e. e) (model_edges s J B (chosen s)))

-- at the model's seeds they are the model's words
pub words_are : (s : Sheet) (J : theory.Joint) → words_of s J (model_seeds s J) ≡ model_words s J
unfolding words_of masks_of mask_of model_words
words_are s J = refl

-- ---- the fact of the elements: it is stored as one at most, and each of its parts can be told
in? : (l : Label) (C : List Label) → (l ∈ C) ⊎ (l ∈ C → ⊥)
in? l C = ⊎_elim (λ (e : among l C ≡ true). inl (among-true l C e)) (λ (e : among l C ≡ false). inr (λ m. clashing (among l C) (among_in l C m) e)) (cases (among l C))

is_true? : (b : Bool) → (b ≡ true) ⊎ (b ≡ true → ⊥)
is_true? b = ⊎_elim inl (λ (e : b ≡ false). inr (λ t. clashing b t e)) (cases b)

told : {P : Type 0} → P ⊎ (P → ⊥) → ∥ P ∥₁ → P
told o t = ⊎_elim (λ p. p) (λ n. absurd (∥∥₁_elim t ⊥_prop n)) o

distinct-of : {A : Type 0} (C : List A) → ∥ Distinct C ∥₁ → Distinct C
distinct-of [] t = tt
distinct-of (l ∷ C) t = (λ m. ∥∥₁_elim t ⊥_prop (λ d. d.0 m), distinct-of C (∥∥₁_map t (λ d. d.1)))

module _ {s : Sheet} {j : Labels} {used seeds : ℕ} {recs marks : List ℕ} (t : ∥ Ready s j used seeds recs marks ∥₁) where
  abbrev told-in : (l : Label) (C : List Label) → (Ready s j used seeds recs marks → l ∈ C) → l ∈ C
  told-in l C h = told (in? l C) (∥∥₁_map t h)

  pub ready-of : Ready s j used seeds recs marks
  ready-of = record {
    sound = record {
      lent = record {
        enough = ∥∥₁_elim t le_prop (λ r. r.sound.lent.enough);
        marked = ∥∥₁_elim t le_prop (λ r. r.sound.lent.marked);
        distinct = distinct-of (recorded used recs) (∥∥₁_map t (λ r. r.sound.lent.distinct));
      };
      known = record {
        distinct = distinct-of (recorded used recs) (∥∥₁_map t (λ r. r.sound.known.distinct));
        known = λ l m. told-in l (universe s) (λ r. r.sound.known.known l m);
      };
      closed = λ l m k n q o. told-in q.seed (recorded used recs) (λ r. r.sound.closed l m k n q o);
      right = λ i b. (
        λ z. told (is_true? (seed_survives s (label_of (get_or recs i 0)))) (∥∥₁_map t (λ r. (r.sound.right i b).0 z)),
        λ e. told (same? (get_or marks i 0) 0) (∥∥₁_map t (λ r. (r.sound.right i b).1 e)),
      );
    };
    fit = record { each-one = told (same? j.count (max 1 s.individuals)) (∥∥₁_map t (λ r. r.fit.each-one)) };
    front = ∥∥₁_elim t le_prop (λ r. r.front);
    few = ∥∥₁_elim t le_prop (λ r. r.few);
    complete = record {
      asked = λ k m q n. told-in q (recorded seeds recs) (λ r. r.complete.asked k m q n);
      onward = λ l m q n. told-in q (recorded seeds recs) (λ r. r.complete.onward l m q n);
    };
  }

-- ---- the label of an element
pub long : (j : Labels) → length j.labels ≡ 8 → length (joint_of j) ≡ j.count
long j full = length-take-le j.count j.labels (omega (arith, j.small))

-- what stands in front of a list without repeats
distinct-front : {A : Type 0} (xs ys : List A) → Distinct (xs ++ ys) → Distinct xs
distinct-front [] ys d = tt
distinct-front (x ∷ xs) ys (new, d) = (λ m. new (Memᴰ.append_left ys m), distinct-front xs ys d)

module _ {s : Sheet} {j : Labels} {used seeds : ℕ} {recs marks : List ℕ} (r : Ready s j used seeds recs marks) (long : length (joint_of j) ≡ j.count) where
  abbrev first-ones : List Label
  first-ones = recorded seeds recs

  pub seeds-length : length first-ones ≡ seeds
  seeds-length = length-recorded seeds recs (omega (arith, r.front, r.sound.lent.enough))

  pub seeds-distinct : Distinct first-ones
  seeds-distinct =
      let more : used ≡ seeds + (used - seeds) = omega (arith, r.front) in
      let parts : recorded used recs ≡ first-ones ++ map label_of (take (used - seeds) (drop seeds recs)) =
      ap (λ (n : ℕ). recorded n recs) more ∙ ap (map label_of) (take-add seeds (used - seeds) recs) ∙ map-append label_of (take seeds recs) (take (used - seeds) (drop seeds recs)) in
      distinct-front first-ones (map label_of (take (used - seeds) (drop seeds recs))) (subst (λ (C : List Label). Distinct C) parts r.sound.lent.distinct)

  module _ (x : ℕ) (b : x < j.count + seeds) where
    -- the label of element x by all the records: the model's seeds stand in front
    pub element-label : label_at (joint_of j) (recorded used recs) (chosen s) x ≡ label_at (joint_of j) first-ones (chosen s) x
    unfolding label_at
    element-label = go (ltb x (length (joint_of j))) refl
      where
        go : (t : Bool) → ltb x (length (joint_of j)) ≡ t
            → cond t (label (joint_of j) x) (chosen s (label (recorded used recs) (x - length (joint_of j))))
            ≡ cond t (label (joint_of j) x) (chosen s (label first-ones (x - length (joint_of j))))
        go true e = refl
        go false e =
            let h = ltb-false x (length (joint_of j)) e in
            ap (chosen s) (recorded-at used recs (x - length (joint_of j)) (omega (arith, long, r.front))
            ∙ sym (recorded-at seeds recs (x - length (joint_of j)) (omega (arith, long))))

    pub element-seeds : SeedsIn s (label_at (joint_of j) first-ones (chosen s) x) first-ones
    unfolding label_at
    element-seeds = go (ltb x (length (joint_of j))) refl
      where
        go : (t : Bool) → ltb x (length (joint_of j)) ≡ t → SeedsIn s (cond t (label (joint_of j) x) (chosen s (label first-ones (x - length (joint_of j))))) first-ones
        go true e = r.complete.asked (label (joint_of j) x) (get_or-in (joint_of j) x _ (ltb-true x (length (joint_of j)) e))
        go false e =
            let h = ltb-false x (length (joint_of j)) e in
            r.complete.onward (label first-ones (x - length (joint_of j))) (get_or-in first-ones (x - length (joint_of j)) _ (omega (arith, long, seeds-length)))

-- the edges from x, as the code has them: the keys of an array of 48
module _ (e : Edges) (full : length e.keys ≡ 48) (x : ℕ) (rows : List (List ℕ)) (is : map (edge_of x) (keys_of e) ≡ rows) where
  keys_length : length (keys_of e) ≡ e.count
  keys_length = length-take-le e.count e.keys (omega (arith, e.few))

  pub row_count : length rows ≡ e.count
  row_count = ap length (sym is) ∙ length-map (keys_of e) (edge_of x) ∙ keys_length

  row_words : each (λ r. r) rows ≡ each (edge_of x) (keys_of e)
  row_words = ap (each (λ (r : List ℕ). r)) (sym is) ∙ sym (each_map (edge_of x) (keys_of e))

  word_count : length (each (edge_of x) (keys_of e)) ≡ 3 * e.count
  word_count = length-each (edge_of x) 3 (keys_of e) (λ _ _. refl) ∙ omega (arith, keys_length)

-- ---- the loops over all elements
module _ (s : Sheet) (J : theory.Joint) (B : List Label) {buf : List ℕ} {x : ℕ} {out : List ℕ} where
  pub lay-mask : Laying (mask_words s J B) 0 buf x x out → x < length buf → (v : ℕ) → v ≡ mask_of s (label_at J B (chosen s) x) → Laying (mask_words s J B) 0 buf (x + 1) (x + 1) (set out x v)
  lay-mask g b v e = lay-sets (mask_words s J B) 0 buf g (v ∷ []) (x + 1) (ap (λ (w : ℕ). w ∷ []) (sym e)) refl (omega arith)

  pub laid-masks : Laying (mask_words s J B) 0 buf x x out → (n : ℕ) → x ≡ n → n ≡ size s J B → out ≡ masks_of s J B ++ drop n buf
  laid-masks g n e f =
      g.words ∙ ap₂ (λ (r : List ℕ) (k : ℕ). r ++ drop k buf) (ap (λ (k : ℕ). each (mask_words s J B) (up_to k)) (e ∙ f) ∙ sym (masks-by-rows s J B)) e

module _ (s : Sheet) (J : theory.Joint) (B : List Label) {buf : List ℕ} {x at : ℕ} {out : List ℕ} (g : Laying (edge_words s J B) 0 buf x at out) where
  pub laid-rows : x ≡ size s J B → out ≡ each (λ e. e) (model_edges s J B (chosen s)) ++ drop (3 * length (model_edges s J B (chosen s))) buf
  laid-rows e =
      let all : each (edge_words s J B) (up_to x) ≡ each (edge_words s J B) (up_to (size s J B)) = ap (λ (n : ℕ). each (edge_words s J B) (up_to n)) e in
      let end : at ≡ 3 * length (model_edges s J B (chosen s)) = omega (arith, g.behind, ap length all, edges-length s J B) in
      g.words ∙ ap₂ (λ (r : List ℕ) (k : ℕ). r ++ drop k buf) (all ∙ sym (edge-words s J B)) end

  module _ (e : Edges) (full : length e.keys ≡ 48) (is : map (edge_of x) (keys_of e) ≡ edges_at s J B x)
      (inside : x < size s J B) (fits : 3 * length (model_edges s J B (chosen s)) ≤ length buf) where
    pub row_room : at + 3 * e.count ≤ length buf
    row_room =
        let n = size s J B - (x + 1) in
        let whole : x + 1 + n ≡ size s J B = omega arith in
        let upon : length (each (edge_words s J B) (up_to (x + 1))) ≤ length (each (edge_words s J B) (up_to (size s J B))) =
        subst (λ (k : ℕ). length (each (edge_words s J B) (up_to (x + 1))) ≤ length (each (edge_words s J B) (up_to k))) whole (length-below (edge_words s J B) (x + 1) n) in
        omega (arith, g.behind, length_more (edge_words s J B) x, edges-length s J B, ap length (row_words e full x (edges_at s J B x) is), word_count e full x (edges_at s J B x) is)

    pub lay-row : (at' : ℕ) (out' : List ℕ) → at' ≡ at + 3 * e.count → out' ≡ take at out ++ (each (edge_of x) (keys_of e) ++ drop (at + 3 * e.count) out)
        → Laying (edge_words s J B) 0 buf (x + 1) at' out'
    lay-row at' out' further laid =
        lay-on (edge_words s J B) 0 buf g (each (edge_of x) (keys_of e)) out' at' (row_words e full x (edges_at s J B x) is)
        (omega (arith, word_count e full x (edges_at s J B x) is)) (omega (arith, row_room)) (laid ∙ rw further)

-- ---- the names that hold
pub name-inside : (s : Sheet) → in_limits s ≡ true → (i : ℕ) → i < count s → (a : ℕ) → line s i ≡ name a → a < 32
name-inside s lim i b a e = ltb-true a 32 (sym (ap line_in_limits e) ∙ lines-limited s lim (line s i) (get_or-in s.lines i _ b))

no-name : (c : Line) → ((n : ℕ) → c ≡ name n → ⊥) → (a : ℕ) → is_name a c ≡ false
no-name top h a = refl
no-name bottom h a = refl
no-name (name n) h a = absurd (h n refl)
no-name (negation i) h a = refl
no-name (and i j) h a = refl
no-name (or i j) h a = refl
no-name (some r i) h a = refl
no-name (only r i) h a = refl

or-none : (a b : Bool) → b ≡ false → a ≡ (a || b)
or-none true b e = refl
or-none false b e = sym e

or-more : (a b c : Bool) → (a || b || c) ≡ (a || (b || c))
or-more true b c = refl
or-more false b c = refl

any_append : {A : Type 0} (p : A → Bool) (xs ys : List A) → any p (xs ++ ys) ≡ (any p xs || any p ys)
any_append p [] ys = refl
any_append p (x ∷ xs) ys = ap (λ (b : Bool). p x || b) (any_append p xs ys) ∙ sym (or-more (p x) (any p xs) (any p ys))

-- line i is of name a, and holds
abbrev pub names_at : Sheet → Label → ℕ → ℕ → Bool
names_at s l a i = is_name a (line s i) && bit l.holding i

-- the mask has the names of the lines below i that hold
pub record Naming (s : Sheet) (l : Label) (i mask : ℕ) : Type 0 where
  pub small : mask < 2 ^ 32
  pub names : (a : ℕ) → bit mask a ≡ any (names_at s l a) (up_to i)

pub naming : (s : Sheet) (l : Label) → Naming s l 0 0
naming s l = record { small = omega arith; names = bit-none }

pub all_named : {s : Sheet} {l : Label} {i mask : ℕ} → Naming s l i mask → i ≡ count s → mask ≡ mask_of s l
unfolding model.named mask_of
all_named {s} {l} {i} {mask} g e =
    bit-ext-below 32 mask (name_mask s l 32) g.small (mask-small s l 32)
    (λ a b. g.names a ∙ ap (λ (n : ℕ). any (names_at s l a) (up_to n)) e ∙ sym (mask-bit s l 32 a b))

module _ {s : Sheet} {l : Label} {i mask : ℕ} (g : Naming s l i mask) where
  name-on : (new : ℕ) → new < 2 ^ 32 → ((a : ℕ) → bit new a ≡ (bit mask a || names_at s l a i)) → Naming s l (i + 1) new
  name-on new b is = record {
    small = b;
    names = λ a. let q = names_at s l a in
        is a ∙ ap₂ (λ (x y : Bool). x || y) (g.names a) (or-none (q i) false refl) ∙ sym (any_append q (up_to i) (i ∷ [])) ∙ ap (any q) (sym (up_to-more i));
  }

  name-skip : ((a : ℕ) → names_at s l a i ≡ false) → Naming s l (i + 1) mask
  name-skip none = name-on mask g.small (λ a. or-none (bit mask a) (names_at s l a i) (none a))

  -- line i does not hold
  pub skip-unset : bit l.holding i ≡ false → Naming s l (i + 1) mask
  skip-unset e = name-skip (λ a. and-false-right (is_name a (line s i)) (bit l.holding i) e)

  -- it is no name
  pub skip-other : ((n : ℕ) → line s i ≡ name n → ⊥) → Naming s l (i + 1) mask
  skip-other differs = name-skip (λ a. and-false-left (is_name a (line s i)) (bit l.holding i) (no-name (line s i) differs a))

  -- it is a name
  pub name-put : (n : ℕ) → line s i ≡ name n → n < 32 → bit l.holding i ≡ true → Naming s l (i + 1) (bit_or mask (1 * 2 ^ n % 2 ^ 32))
  name-put n is b e =
      let same : (a : ℕ) → is_name a (line s i) ≡ eqb a n = λ a. ap (is_name a) is in
      name-on (bit_or mask (1 * 2 ^ n % 2 ^ 32)) (or_lt 32 mask (1 * 2 ^ n % 2 ^ 32) g.small (omega arith)) (λ a.
      ap (λ (x : ℕ). bit x a) (put_word 32 n mask b)
      ∙ ⊎_elim
      (λ (q : n ≡ a). ap (bit (put mask n)) (sym q) ∙ bit-put mask n
      ∙ sym (or_right (bit mask a) (names_at s l a i) (and_both (is_name a (line s i)) (bit l.holding i) (same a ∙ eq-eqb a n (sym q)) e)))
      (λ q. bit-put-other mask n a q
      ∙ or-none (bit mask a) (names_at s l a i) (and-false-left (is_name a (line s i)) (bit l.holding i) (same a ∙ ne_eqb a n (λ r. q (sym r)))))
      (same? n a))
