-- The words of answer 10, read back: they have the document's shape, they are a model of the sheet, and no other words say the same.
use Rattle.std.specs.Prelude.{ℕ, zero, suc, ◌+◌, ◌-◌, ◌*◌, ◌/◌, ◌%◌, ◌^◌, ◌<◌, Bool, true, false, ◌&&◌, cond, ◌≡◌, refl, ◌↔◌, ◌⊎◌, length, get_or, eqb}
use Rattle.std.proofs.Math.Path.{sym}
use Rattle.std.proofs.Common.{◌∙◌, ap, subst, subst₂, inl, inr, ⊎_elim, length-append, get_or-append-add, ext_get_or, eqb-true, eq-eqb, arith}
use mathlib.Core.List.Memᴰ
use mathlib.Core.List.{List, [], ◌∷◌, ◌++◌, map}
use Rattle.std.proofs.lemmas.List.{length-map, get_or_at}
use Rattle.std.proofs.Math.ListN.{get_or-append}
use Rattle.std.proofs.Math.Nat.{pow-succ'}
use Rattle.std.proofs.Math.Decide.{dec_lt}
use Rattle.alc.specs.Bits.{bit}
use Rattle.alc.specs.Lists.{◌∈◌, each, up_to, just}
use Rattle.alc.specs.Sheet.{Sheet, well_formed, in_limits, name_count, role_count}
use Rattle.alc.specs.Label.{Label}
use Rattle.alc.specs.Settle.{Joint}
use Rattle.alc.specs.Judge.{first_fine}
use Rattle.alc.specs.Model.{chosen, model_seeds, label_at, edge_at, model_edges, named, name_mask, model_words, satisfy_answer, word, elements, mask, edges}
use Rattle.alc.specs.Model.{edge_from, edge_role, edge_to, decoded, Shaped, TenMeans}
use Rattle.alc.proofs.Theorems.Lists.{and_left, and_right, and_both, here, there, cond-elim, cond-intro, any-elim, any-intro, each-elim, each-intro}
use Rattle.alc.proofs.Theorems.Lists.{up_to-elim, up_to-intro, same?, tests_same, get_or-in, length_from, map-from}
use Rattle.alc.proofs.Theorems.Sorted.{Sorted, sorted-at, each-sorted, map-sorted, cond-sorted, sorted-unique}
use Rattle.alc.proofs.Theorems.Counting.{length-each}
use Rattle.alc.proofs.Theorems.Bits.{bit-put, bit-put-other, put-false, bit-small, bit-ext-below}
use Rattle.alc.proofs.Theorems.Sheet.{WellFormed, well-formed}
use Rattle.alc.proofs.Theorems.Meaning.{meets-agrees}
use Rattle.alc.proofs.Theorems.Family.{some_one}
use Rattle.alc.proofs.Theorems.Decides.{EntriesFit, first-in, start-length, more, pos, written, written-meets}
use Rattle.alc.proofs.Theorems.Answers.{ten-found}

-- ---- edges, as lists of three words: from, role, to
-- by from, then role, then to
abbrev pub Earlier : List ℕ → List ℕ → Type 0
Earlier e f = (get_or e 0 0 < get_or f 0 0) ⊎ ((get_or e 0 0 ≡ get_or f 0 0) × ((get_or e 1 0 < get_or f 1 0) ⊎ ((get_or e 1 0 ≡ get_or f 1 0) × (get_or e 2 0 < get_or f 2 0))))

-- from and to are among n elements, and the role among those there are
abbrev Inside : ℕ → List ℕ → Type 0
Inside n e = (get_or e 0 0 < n) × (get_or e 1 0 < role_count) × (get_or e 2 0 < n)

abbrev Threes : List (List ℕ) → Type 0
Threes es = (e : List ℕ) → e ∈ es → length e ≡ 3

pub earlier-once : (e f : List ℕ) → Earlier e f → Earlier f e → ⊥
earlier-once e f (inl a) (inl b) = omega arith
earlier-once e f (inl a) (inr b) = omega arith
earlier-once e f (inr a) (inl b) = omega arith
earlier-once e f (inr (a, inl c)) (inr (b, inl d)) = omega arith
earlier-once e f (inr (a, inl c)) (inr (b, inr d)) = omega arith
earlier-once e f (inr (a, inr c)) (inr (b, inl d)) = omega arith
earlier-once e f (inr (a, inr c)) (inr (b, inr d)) = omega arith

edge_test : (a b c x r y : ℕ) → ((eqb a x && eqb b r && eqb c y) ≡ true) ↔ (◌≡◌ {A = List ℕ} (a ∷ b ∷ c ∷ []) (x ∷ r ∷ y ∷ []))
edge_test a b c x r y = (
  λ e. let two = and_left (eqb a x && eqb b r) (eqb c y) e in
      let p = eqb-true a x (and_left (eqb a x) (eqb b r) two) in
      let q = eqb-true b r (and_right (eqb a x) (eqb b r) two) in
      let u = eqb-true c y (and_right (eqb a x && eqb b r) (eqb c y) e) in λ i. p i ∷ q i ∷ u i ∷ [],
  λ e. and_both (eqb a x && eqb b r) _
      (and_both (eqb a x) _ (eq-eqb a x (ap (λ (l : List ℕ). get_or l 0 0) e)) (eq-eqb b r (ap (λ (l : List ℕ). get_or l 1 0) e)))
      (eq-eqb c y (ap (λ (l : List ℕ). get_or l 2 0) e)),
)

-- edge k of words, and all their edges
abbrev edge_of : List ℕ → ℕ → List ℕ
edge_of ws k = edge_from ws k ∷ edge_role ws k ∷ edge_to ws k ∷ []

abbrev edge_list : List ℕ → List (List ℕ)
edge_list ws = map (edge_of ws) (up_to (edges ws))

module _ (ws : List ℕ) where
  edge-word : (k i : ℕ) → i < 3 → word ws (2 + elements ws + (3 * k + i)) ≡ get_or (edge_of ws k) i 0
  edge-word k zero h = ap (word ws) (omega arith)
  edge-word k (suc zero) h = ap (word ws) (omega arith)
  edge-word k (suc (suc zero)) h = ap (word ws) (omega arith)
  edge-word k (suc (suc (suc i))) h = absurd (omega arith)

  edges-length : length (edge_list ws) ≡ edges ws
  edges-length = length-map (up_to (edges ws)) (edge_of ws) ∙ length_from 0 (edges ws)

  edge-at : (k : ℕ) → k < edges ws → get_or (edge_list ws) k [] ≡ edge_of ws k
  edge-at k h = map-from (edge_of ws) [] 0 (edges ws) k h ∙ ap (edge_of ws) (omega arith)

  -- a role leads where an edge says so
  role-in : (p : 0 < elements ws) (r x y : ℕ) → ((decoded ws p).in_role r x y ≡ true) ↔ ((x ∷ r ∷ y ∷ []) ∈ edge_list ws)
  unfolding decoded
  role-in p r x y = (
    λ e. let (k, k-in, t) = any-elim _ (up_to (edges ws)) e in
        Memᴰ.cast (sym ((edge_test (edge_from ws k) (edge_role ws k) (edge_to ws k) x r y).0 t)) (Memᴰ.map (edge_of ws) k-in),
    λ m. let (k, k-in, e) = Memᴰ.of_map (edge_of ws) (up_to (edges ws)) m in
        any-intro _ (up_to (edges ws)) k-in ((edge_test (edge_from ws k) (edge_role ws k) (edge_to ws k) x r y).1 e),
  )

-- ---- words that are laid out: the number of elements, their masks, the number of edges, the edges
abbrev laid : ℕ → List ℕ → List (List ℕ) → List ℕ
laid n masks es = n ∷ masks ++ (length es ∷ each (λ e. e) es)

-- word i of edge k
flat-at : (es : List (List ℕ)) → Threes es → (k i : ℕ) → i < 3 → get_or (each (λ e. e) es) (3 * k + i) 0 ≡ get_or (get_or es k []) i 0
flat-at [] t k i h = refl
flat-at (e ∷ es) t zero i h =
    let at : 3 * 0 + i ≡ i = omega arith in
    rw at (get_or-append e (each (λ e. e) es) 0 i (omega (arith, t e here)))
flat-at (e ∷ es) t (suc k) i h =
    let at : 3 * suc k + i ≡ length e + (3 * k + i) = omega (arith, t e here) in
    rw at (get_or-append-add e (each (λ e. e) es) (3 * k + i) 0 ∙ flat-at es (λ f m. t f (there m)) k i h)

module _ (n : ℕ) (masks : List ℕ) (len : length masks ≡ n) (es : List (List ℕ)) (threes : Threes es) where
  laid-mask : (x : ℕ) → x < n → mask (laid n masks es) x ≡ get_or masks x 0
  laid-mask x h = let at : 1 + x ≡ suc x = omega arith in rw at (get_or-append masks (length es ∷ each (λ e. e) es) 0 x (omega arith))

  laid-edges : edges (laid n masks es) ≡ length es
  laid-edges = let at : 1 + n ≡ suc n = omega arith in rw at (get_or_at masks (length es) (each (λ e. e) es) 0 n len)

  laid-edge : (k : ℕ) → k < length es → edge_of (laid n masks es) k ≡ get_or es k []
  laid-edge k h = ext_get_or 0 (edge_of (laid n masks es) k) (get_or es k []) (sym (threes (get_or es k []) (get_or-in es k [] h))) (λ i b.
      let at : 2 + n + (3 * k + i) ≡ suc (length masks + suc (3 * k + i)) = omega arith in
      let behind : word (laid n masks es) (2 + n + (3 * k + i)) ≡ get_or (each (λ e. e) es) (3 * k + i) 0 =
      rw at (get_or-append-add masks (length es ∷ each (λ e. e) es) (suc (3 * k + i)) 0) in
      sym (edge-word (laid n masks es) k i b) ∙ behind ∙ flat-at es threes k i b)

  laid-list : edge_list (laid n masks es) ≡ es
  laid-list =
      let as_many = edges-length (laid n masks es) ∙ laid-edges in
      ext_get_or [] (edge_list (laid n masks es)) es as_many (λ k h. edge-at (laid n masks es) k (omega (arith, laid-edges)) ∙ laid-edge k (omega arith))

  laid-shaped : ((x : ℕ) → x < n → mask (laid n masks es) x < 2 ^ name_count) → ((e : List ℕ) → e ∈ es → Inside n e) → Sorted Earlier es
      → Shaped (laid n masks es)
  laid-shaped small fit sort = record {
    whole = omega (arith, length-append masks (length es ∷ each (λ e. e) es), length-each (λ e. e) 3 es threes, laid-edges);
    masks = small;
    inside = λ k h. let b : k < length es = omega (arith, laid-edges) in
        subst (Inside n) (sym (laid-edge k b)) (fit (get_or es k []) (get_or-in es k [] b));
    sorted = λ j k b h. let c : k < length es = omega (arith, laid-edges) in
        subst₂ Earlier (sym (laid-edge j (omega arith))) (sym (laid-edge k c)) (sorted-at Earlier es [] sort j k b c);
  }

-- ---- the mask of true names
module _ (s : Sheet) (l : Label) where
  pub mask-small : (n : ℕ) → name_mask s l n < 2 ^ n
  mask-small zero = omega arith
  mask-small (suc n) = go (named s l n) (mask-small n)
    where
      go : (b : Bool) → name_mask s l n < 2 ^ n → name_mask s l n + cond b (2 ^ n) 0 < 2 ^ suc n
      go true h = omega (arith, pow-succ' 2 n)
      go false h = omega (arith, pow-succ' 2 n)

  pub mask-bit : (n a : ℕ) → a < n → bit (name_mask s l n) a ≡ named s l a
  mask-bit zero a h = absurd (omega arith)
  mask-bit (suc n) a h = go (named s l n) refl (mask-bit n a)
    where
      none : bit (name_mask s l n) n ≡ false
      none = bit-small n (name_mask s l n) n (mask-small n) (omega arith)

      go : (b : Bool) → named s l n ≡ b → (a < n → bit (name_mask s l n) a ≡ named s l a) → bit (name_mask s l n + cond b (2 ^ n) 0) a ≡ named s l a
      go true e smaller =
          rw (← put-false (name_mask s l n) n none)
          (⊎_elim
          (λ (q : a ≡ n). rw q (bit-put (name_mask s l n) n ∙ sym e))
          (λ q. bit-put-other (name_mask s l n) n a (λ r. q (sym r)) ∙ smaller (omega arith))
          (same? a n))
      go false e smaller =
          let at : name_mask s l n + 0 ≡ name_mask s l n = omega arith in
          rw at (⊎_elim (λ (q : a ≡ n). rw q (none ∙ sym e)) (λ q. smaller (omega arith)) (same? a n))

-- ---- the edges of the model that is written
module _ (n : ℕ) (edge : ℕ → ℕ → ℕ → Bool) where
  -- those from x along r, those from x, and all
  abbrev pub along : ℕ → ℕ → List (List ℕ)
  along x r = each (λ y. cond (edge r x y) ((x ∷ r ∷ y ∷ []) ∷ []) []) (up_to n)

  abbrev pub leaving : ℕ → List (List ℕ)
  leaving x = each (along x) (up_to role_count)

  abbrev everywhere : List (List ℕ)
  everywhere = each leaving (up_to n)

  along-elim : (x r : ℕ) (e : List ℕ) → e ∈ along x r → (y : ℕ) × (y < n) × (edge r x y ≡ true) × (e ≡ x ∷ r ∷ y ∷ [])
  along-elim x r e m =
      let (y, y-in, i) = each-elim (λ y. cond (edge r x y) ((x ∷ r ∷ y ∷ []) ∷ []) []) (up_to n) m in
      let (t, q) = cond-elim (edge r x y) i in
      (y, up_to-elim n y y-in, t, q)

  pub leaving-elim : (x : ℕ) (e : List ℕ) → e ∈ leaving x → (r y : ℕ) × (r < role_count) × (y < n) × (edge r x y ≡ true) × (e ≡ x ∷ r ∷ y ∷ [])
  leaving-elim x e m =
      let (r, r-in, i) = each-elim (along x) (up_to role_count) m in
      let (y, y<, t, q) = along-elim x r e i in
      (r, y, up_to-elim role_count r r-in, y<, t, q)

  everywhere-elim : (e : List ℕ) → e ∈ everywhere → (x r y : ℕ) × (x < n) × (r < role_count) × (y < n) × (edge r x y ≡ true) × (e ≡ x ∷ r ∷ y ∷ [])
  everywhere-elim e m =
      let (x, x-in, i) = each-elim leaving (up_to n) m in
      let (r, y, r<, y<, t, q) = leaving-elim x e i in
      (x, r, y, up_to-elim n x x-in, r<, y<, t, q)

  pub leaving-intro : (x r y : ℕ) → r < role_count → y < n → edge r x y ≡ true → (x ∷ r ∷ y ∷ []) ∈ leaving x
  leaving-intro x r y r< y< t =
      each-intro (along x) (up_to role_count) (up_to-intro role_count r r<)
      (each-intro (λ y. cond (edge r x y) ((x ∷ r ∷ y ∷ []) ∷ []) []) (up_to n) (up_to-intro n y y<) (cond-intro (edge r x y) t))

  everywhere-intro : (x r y : ℕ) → x < n → r < role_count → y < n → edge r x y ≡ true → (x ∷ r ∷ y ∷ []) ∈ everywhere
  everywhere-intro x r y x< r< y< t = each-intro leaving (up_to n) (up_to-intro n x x<) (leaving-intro x r y r< y< t)

  pub leaving-sorted : (x : ℕ) → Sorted Earlier (leaving x)
  leaving-sorted x = each-sorted Earlier (along x) 0 role_count
      (λ r _. each-sorted Earlier (λ y. cond (edge r x y) ((x ∷ r ∷ y ∷ []) ∷ []) []) 0 n (λ y _. cond-sorted Earlier (edge r x y) (x ∷ r ∷ y ∷ []))
      (λ y z b _ e f i j. subst₂ Earlier (sym (cond-elim (edge r x y) i).1) (sym (cond-elim (edge r x z) j).1) (inr (refl, inr (refl, b)))))
      (λ r q b _ e f i j. subst₂ Earlier (sym (along-elim x r e i).3) (sym (along-elim x q f j).3) (inr (refl, inl b)))

  everywhere-sorted : Sorted Earlier everywhere
  everywhere-sorted = each-sorted Earlier leaving 0 n
      (λ x _. leaving-sorted x)
      (λ x z b _ e f i j. subst₂ Earlier (sym (leaving-elim x e i).5) (sym (leaving-elim z f j).5) (inl b))

-- ---- the words of the model
module _ (s : Sheet) (K : Joint) where
  abbrev seed_list : List Label
  seed_list = model_seeds s K

  abbrev size : ℕ
  size = length K + length seed_list

  abbrev mask_at : ℕ → ℕ
  mask_at x = name_mask s (label_at K seed_list (chosen s) x) name_count

  abbrev edge : ℕ → ℕ → ℕ → Bool
  edge = edge_at s s.roles K seed_list (chosen s)

  abbrev laid_out : List ℕ
  laid_out = laid size (map mask_at (up_to size)) (everywhere size edge)

  as_many : length (map mask_at (up_to size)) ≡ size
  as_many = length-map (up_to size) mask_at ∙ length_from 0 size

  threes : Threes (everywhere size edge)
  threes e m = let (_, _, _, _, _, _, _, q) = everywhere-elim size edge e m in ap length q

  mask_is : (x : ℕ) → x < size → mask laid_out x ≡ mask_at x
  mask_is x h =
      laid-mask size (map mask_at (up_to size)) as_many (everywhere size edge) threes x h
      ∙ map-from mask_at 0 0 size x h ∙ ap mask_at (omega arith)

  model-shaped : Shaped laid_out
  model-shaped = laid-shaped size (map mask_at (up_to size)) as_many (everywhere size edge) threes
      (λ x h. rw (mask_is x h) (mask-small s (label_at K seed_list (chosen s) x) name_count))
      (λ e m. let (_, _, _, x<, r<, y<, _, q) = everywhere-elim size edge e m in subst (Inside size) (sym q) (x<, r<, y<))
      (everywhere-sorted size edge)

  -- what is read back is the model
  names-agree : (p : 0 < size) (a x : ℕ) → a < name_count → x < size → named s (label_at K seed_list (chosen s) x) a ≡ (decoded laid_out p).in_name a x
  unfolding decoded
  names-agree p a x a< x< = sym (rw (mask_is x x<) (mask-bit s (label_at K seed_list (chosen s) x) name_count a a<))

  roles-agree : (p : 0 < size) (r x y : ℕ) → r < role_count → x < size → y < size → edge r x y ≡ (decoded laid_out p).in_role r x y
  roles-agree p r x y r< x< y< = tests_same (edge r x y) ((decoded laid_out p).in_role r x y)
      (λ t. (role-in laid_out p r x y).1 (rw list (everywhere-intro size edge x r y x< r< y< t)))
      (λ t. let (_, _, _, _, _, _, u, q) = everywhere-elim size edge (x ∷ r ∷ y ∷ []) (rw list at ((role-in laid_out p r x y).0 t)) in
      subst (λ (e : List ℕ). edge (get_or e 1 0) (get_or e 0 0) (get_or e 2 0) ≡ true) (sym q) u)
    where
      list : edge_list laid_out ≡ everywhere size edge
      list = laid-list size (map mask_at (up_to size)) as_many (everywhere size edge) threes

  ten-means : WellFormed s → in_limits s ≡ true → first_fine s [] ≡ just K → TenMeans s (model_words s K)
  unfolding decoded model_words model_edges
  ten-means wf limits found =
      let none : EntriesFit s [] = λ x h. absurd (Memᴰ.not-nil h) in
      let (K-in, ok) = first-in s wf [] K found in
      let p : 0 < size = some_one K seed_list (pos s wf [] none K K-in ok) in
      record {
        shaped = model-shaped;
        inhabited = p;
        meets-all = sym (meets-agrees s limits (written s wf [] none K K-in ok) _ _ (names-agree p) (roles-agree p)) ∙ written-meets s wf [] none K K-in ok;
        apart = omega (arith, (more s wf [] none K K-in ok).size, start-length s []);
      }

pub ten-model : (s : Sheet) → well_formed s ≡ true → in_limits s ≡ true → (room : ℕ) → (satisfy_answer s room).number ≡ 10 → TenMeans s (satisfy_answer s room).out
ten-model s wf lim room e = let (K, found, out) = ten-found s room e in rw out (ten-means s K (well-formed s wf) lim found)

-- ---- one list of words only
words-sorted : (ws : List ℕ) → Shaped ws → Sorted Earlier (edge_list ws)
words-sorted ws f = map-sorted Earlier (edge_of ws) 0 (edges ws) (λ j k b c. f.sorted j k b (omega arith))

edges-in : (ws vs : List ℕ) (p : 0 < elements ws) (q : 0 < elements vs) → ((r x y : ℕ) → (decoded ws p).in_role r x y ≡ (decoded vs q).in_role r x y)
    → (e : List ℕ) → e ∈ edge_list ws → e ∈ edge_list vs
edges-in ws vs p q h e m =
    let (k, k-in, t) = Memᴰ.of_map (edge_of ws) (up_to (edges ws)) m in
    Memᴰ.cast (sym t) ((role-in vs q (edge_role ws k) (edge_from ws k) (edge_to ws k)).0
    (sym (h (edge_role ws k) (edge_from ws k) (edge_to ws k)) ∙ (role-in ws p (edge_role ws k) (edge_from ws k) (edge_to ws k)).1 (Memᴰ.map (edge_of ws) k-in)))

module _ (ws vs : List ℕ) (f : Shaped ws) (g : Shaped vs) (size : elements ws ≡ elements vs)
    (masks : (x : ℕ) → x < elements ws → mask ws x ≡ mask vs x) (lists : edge_list ws ≡ edge_list vs) where
  as-many-edges : edges ws ≡ edges vs
  as-many-edges = sym (edges-length ws) ∙ ap length lists ∙ edges-length vs

  edge_same : (k : ℕ) → k < edges ws → edge_of ws k ≡ edge_of vs k
  edge_same k h = sym (edge-at ws k h) ∙ ap (λ (l : List (List ℕ)). get_or l k []) lists ∙ edge-at vs k (omega (arith, as-many-edges))

  words_same : ws ≡ vs
  words_same = ext_get_or 0 ws vs (omega (arith, f.whole, g.whole, as-many-edges)) at
    where
      -- place i, where it is place j of the one and place k of the other
      moved : (i j k : ℕ) → i ≡ j → i ≡ k → word ws j ≡ word vs k → word ws i ≡ word vs i
      moved i j k p q e = ap (word ws) p ∙ e ∙ sym (ap (word vs) q)

      at : (i : ℕ) → i < length ws → word ws i ≡ word vs i
      at zero h = size
      at (suc x) h =
          elim (dec_lt x (elements ws)) [
            | yes b ↦ moved (suc x) (1 + x) (1 + x) (omega arith) (omega arith) (masks x b)
            | no b ↦ elim (dec_lt (elements ws) x) [
              | yes c ↦
                  let k = (x - 1 - elements ws) / 3 in
                  let i = (x - 1 - elements ws) % 3 in
                  let i< : i < 3 = omega arith in
                  let k< : k < edges ws = omega (arith, f.whole) in
                  moved (suc x) (2 + elements ws + (3 * k + i)) (2 + elements vs + (3 * k + i)) (omega arith) (omega arith)
                  (edge-word ws k i i< ∙ ap (λ (e : List ℕ). get_or e i 0) (edge_same k k<) ∙ sym (edge-word vs k i i<))
              | no c ↦ moved (suc x) (1 + elements ws) (1 + elements vs) (omega arith) (omega arith) as-many-edges
            ]
          ]

-- the words of a structure are one list only
pub words-unique : (ws vs : List ℕ) → Shaped ws → Shaped vs → (p : 0 < elements ws) (q : 0 < elements vs) → elements ws ≡ elements vs
    → ((a x : ℕ) → a < name_count → x < elements ws → (decoded ws p).in_name a x ≡ (decoded vs q).in_name a x)
    → ((r x y : ℕ) → (decoded ws p).in_role r x y ≡ (decoded vs q).in_role r x y) → ws ≡ vs
unfolding decoded
words-unique ws vs f g p q e n r =
    words_same ws vs f g e
    (λ x h. bit-ext-below name_count (mask ws x) (mask vs x) (f.masks x h) (g.masks x (omega arith)) (λ a b. n a x b h))
    (sorted-unique Earlier earlier-once (edge_list ws) (edge_list vs) (words-sorted ws f) (words-sorted vs g)
    (λ t. (edges-in ws vs p q r t, edges-in vs ws q p (λ r' x y. sym (r r' x y)) t)))
