-- What the cause list speaks of: `forces` is what its name says; and that leaving out one rule at a time tells whether any proper subset forces.
use Rattle.std.specs.Prelude.{ℕ, zero, suc, ◌+◌, ◌-◌, ◌^◌, ◌<◌, max, Bool, ◌&&◌, ◌||◌, cond, ◌≡◌, refl, ◌↔◌, List, [], ◌∷◌, eqb}
use Rattle.std.proofs.Math.Bool.{true, false, not as flip}
use Rattle.std.proofs.lemmas.Bool.{false≢true}
use Rattle.std.proofs.Common.{sym, ◌∙◌, pow_pos, arith}
use Rattle.std.proofs.Math.Path.{ap, subst}
use Rattle.std.proofs.Math.Logic.{⊎_elim}
use mathlib.Core.List.Memᴰ
use Rattle.std.proofs.Math.ListN.{length, get_or}
use borrow.Author.Tests.{not-true, eqb-false, ne_eqb}
use Rattle.alc.specs.Bits.{bit}
use Rattle.alc.specs.Lists.{◌∈◌, nothing, Maybe, just, filter, up_to, any, all}
use Rattle.alc.specs.Sheet.{count, Rule, ClassAssertion, Sheet}
use Rattle.alc.specs.Meaning.{truth, SheetSatisfiable, Forces, meets_rules, meets_classes, meets_roles}
use Rattle.alc.specs.Label.{line_of, mark_true, fails}
use Rattle.alc.specs.Settle.{Joint}
use Rattle.alc.specs.Judge.{Entry, EntriesTrue, first_fine}
use Rattle.alc.specs.Causes.{contradictory, keep_rules, denial, within, NoSubsetForces, forcing, no_subset_forces, Cause, listed, is_nothing, with_rules}
use Rattle.alc.specs.Causes.{rule_sets, forces}
use Rattle.alc.proofs.Theorems.Lists.{and_both, and_right, filter-intro, implies, implied, tests_same, same?, all-fails, not_of_false, or-false-left}
use Rattle.alc.proofs.Theorems.Lists.{or-false-right, cond-intro, cond-elim, clashing, cases, all-intro, here, all-elim, up_to-intro, filter-elim}
use Rattle.alc.proofs.Theorems.Lists.{and_left, up_to-elim, map-from, any-elim, any_none}
use Rattle.alc.proofs.Theorems.Sheet.{WellFormed}
use Rattle.alc.proofs.Theorems.Bits.{bit_le, bit_below, bit-ext, bit-without-other}
use Rattle.alc.proofs.Theorems.Meaning.{truth-lines, rules-intro, rules-elim}
use Rattle.alc.proofs.Theorems.Decides.{found-satisfiable, EntriesFit, satisfiable-found}

module _ (s : Sheet) (wf : WellFormed s) (port class : ℕ) (p< : port < s.individuals) (c< : class < count s) where
  fit : EntriesFit s (denial port class)
  fit x h = subst (λ (y : Entry). (y.individual < max 1 s.individuals) × (line_of y.mark < count s)) (sym (Memᴰ.eq_of_singleton h)) (omega arith, c<)

  pub forces-is : (forces s port class ≡ true) ↔ Forces s port class
  unfolding forces
  forces-is = (there, back)
    where
      there : is_nothing (first_fine s (denial port class)) ≡ true → Forces s port class
      there e I m =
          ⊎_elim
          (λ t. t)
          (λ (f : truth s I class (I.denotes port) ≡ false).
          let denied : EntriesTrue s I (denial port class) = λ x h.
          subst (λ (y : Entry). mark_true s I y.mark (I.denotes y.individual) ≡ true) (sym (Memᴰ.eq_of_singleton h)) (ap flip f) in
          let (K, q) = satisfiable-found s wf (denial port class) (I, m, denied) in
          absurd (false≢true (sym (ap is_nothing q) ∙ e)))
          (cases (truth s I class (I.denotes port)))

      back : Forces s port class → is_nothing (first_fine s (denial port class)) ≡ true
      back f = go (first_fine s (denial port class)) refl
        where
          go : (o : Maybe Joint) → first_fine s (denial port class) ≡ o → is_nothing o ≡ true
          go nothing e = refl
          go (just K) e =
              let (I, m, t) = found-satisfiable s wf (denial port class) fit K e in
              clashing (truth s I class (I.denotes port)) (f I m) (not-true _ (t (record { individual = port; mark = fails class }) here))

-- ---- sets of rules
keep_rules-in : (n i : ℕ) (rs : List Rule) (r : Rule) → r ∈ keep_rules n i rs → r ∈ rs
keep_rules-in n i [] r h = h
keep_rules-in n i (q ∷ rs) r h =
    ⊎_elim
    (λ m. Memᴰ.head (cond-elim (bit n i) m).1)
    (λ m. Memᴰ.tail (keep_rules-in n (suc i) rs r m))
    (Memᴰ.append_cases (cond (bit n i) (q ∷ []) []) h)

-- a rule is kept by every set that has the numbers of a set that keeps it
keep_rules-mono : (m n i : ℕ) (rs : List Rule) → ((j : ℕ) → j < i + length rs → bit m j ≡ true → bit n j ≡ true) → (r : Rule) → r ∈ keep_rules m i rs
    → r ∈ keep_rules n i rs
keep_rules-mono m n i [] h r k = k
keep_rules-mono m n i (q ∷ rs) h r k =
    ⊎_elim
    (λ a. let (e, p) = cond-elim (bit m i) a in Memᴰ.append_left (keep_rules n (suc i) rs) (Memᴰ.cast p (cond-intro (bit n i) (h i (omega arith) e))))
    (λ a. Memᴰ.append_right (cond (bit n i) (q ∷ []) []) (keep_rules-mono m n (suc i) rs (λ j j<. h j (omega arith)) r a))
    (Memᴰ.append_cases (cond (bit m i) (q ∷ []) []) k)

pub kept-well-formed : (s : Sheet) → WellFormed s → (n : ℕ) → WellFormed (with_rules s n)
kept-well-formed s wf n = record {
  operands = wf.operands;
  rules = λ r h. wf.rules r
      (keep_rules-in n 0 s.rules r h);
  classes = wf.classes;
  roles = wf.roles;
}

-- the flags say which sets force
pub forcing-at : (s : Sheet) (port class n : ℕ) → n < 2 ^ length s.rules → get_or (forcing s port class) n false ≡ forces (with_rules s n) port class
forcing-at s port class n h =
    map-from (λ n. forces (with_rules s n) port class) false 0 (2 ^ length s.rules) n h ∙ ap (λ (k : ℕ). forces (with_rules s k) port class) (omega arith)

module _ (s : Sheet) (wf : WellFormed s) (port class : ℕ) (p< : port < s.individuals) (c< : class < count s) where
  pub forces-at : (n : ℕ) → (forces (with_rules s n) port class ≡ true) ↔ Forces (with_rules s n) port class
  forces-at n = forces-is (with_rules s n) (kept-well-formed s wf n) port class p< c<

  pub no-subset-elim : (n : ℕ) → no_subset_forces s (forcing s port class) n ≡ true → (m : ℕ) → m < 2 ^ length s.rules
      → within (length s.rules) m n ≡ true → (m ≡ n → ⊥)
      → forces (with_rules s m) port class ≡ true → ⊥
  unfolding no_subset_forces
  no-subset-elim n e m h w ne f =
      let t : (within (length s.rules) m n && flip (eqb m n) && get_or (forcing s port class) m false) ≡ false =
      not-true _ (all-elim (λ m. flip (within (length s.rules) m n && flip (eqb m n) && get_or (forcing s port class) m false)) (rule_sets s) e m
      (up_to-intro (2 ^ length s.rules) m h)) in
      clashing _ (and_both (within (length s.rules) m n && flip (eqb m n)) _ (and_both (within (length s.rules) m n) _ w (ap flip (ne_eqb m n ne)))
      (forcing-at s port class m h ∙ f)) t

  pub no-subset-intro : (n : ℕ) → ((m : ℕ) → m < 2 ^ length s.rules → within (length s.rules) m n ≡ true → (m ≡ n → ⊥)
      → forces (with_rules s m) port class ≡ true → ⊥)
      → no_subset_forces s (forcing s port class) n ≡ true
  unfolding no_subset_forces
  no-subset-intro n h =
      all-intro (λ m. flip (within (length s.rules) m n && flip (eqb m n) && get_or (forcing s port class) m false)) (rule_sets s) (λ m i.
      let W = within (length s.rules) m n in
      let E = flip (eqb m n) in
      let G = get_or (forcing s port class) m false in
      let m< : m < 2 ^ length s.rules = up_to-elim (2 ^ length s.rules) m i in
      ⊎_elim
      (λ (t : (W && E && G) ≡ true).
      absurd (h m m< (and_left W E (and_left (W && E) G t)) (eqb-false m n (not-true (eqb m n) (and_right W E (and_left (W && E) G t))))
      (sym (forcing-at s port class m m<) ∙ and_right (W && E) G t)))
      (λ t. ap flip t)
      (cases (W && E && G)))

  -- the list has the causes, and nothing else
  pub listed-is : (n : ℕ) → (n ∈ listed s port class) ↔ Cause s port class n
  unfolding listed
  listed-is n = (there, back)
    where
      there : n ∈ filter (λ n. no_subset_forces s (forcing s port class) n && get_or (forcing s port class) n false) (rule_sets s) → Cause s port class n
      there h =
          let (i, t) = filter-elim (λ n. no_subset_forces s (forcing s port class) n && get_or (forcing s port class) n false) (rule_sets s) h in
          let n< : n < 2 ^ length s.rules = up_to-elim (2 ^ length s.rules) n i in
          let sm = and_left (no_subset_forces s (forcing s port class) n) (get_or (forcing s port class) n false) t in
          record {
            is_set = n<;
            forced = (forces-at n).0 (sym (forcing-at s port class n n<)
                ∙ and_right (no_subset_forces s (forcing s port class) n) (get_or (forcing s port class) n false) t);
            least = λ m m< w ne f. no-subset-elim n sm m m< w ne ((forces-at m).1 f);
          }

      back : Cause s port class n → n ∈ filter (λ n. no_subset_forces s (forcing s port class) n && get_or (forcing s port class) n false) (rule_sets s)
      back c =
          filter-intro (λ n. no_subset_forces s (forcing s port class) n && get_or (forcing s port class) n false) (rule_sets s)
          (up_to-intro (2 ^ length s.rules) n c.is_set)
          (and_both (no_subset_forces s (forcing s port class) n) _ (no-subset-intro n (λ m m< w ne f. c.least m m< w ne ((forces-at m).0 f)))
          (forcing-at s port class n c.is_set ∙ (forces-at n).1 c.forced))

-- ---- more rules force more
within-elim : (t m n : ℕ) → within t m n ≡ true → (j : ℕ) → j < t → bit m j ≡ true → bit n j ≡ true
within-elim t m n w j j< = implies (bit m j) (bit n j) (all-elim (λ i. flip (bit m i) || bit n i) (up_to t) w j (up_to-intro t j j<))

within-intro : (t m n : ℕ) → ((j : ℕ) → bit m j ≡ true → bit n j ≡ true) → within t m n ≡ true
within-intro t m n h = all-intro (λ i. flip (bit m i) || bit n i) (up_to t) (λ j i. implied (bit m j) (bit n j) (h j))

-- two sets of the first t rules, each within the other, are one
within_both : (t m n : ℕ) → m < 2 ^ t → n < 2 ^ t → within t m n ≡ true → within t n m ≡ true → m ≡ n
within_both t m n m< n< w v = bit-ext m n (λ j.
    tests_same (bit m j) (bit n j) (λ e. within-elim t m n w j (bit_below m t j m< e) e) (λ e. within-elim t n m v j (bit_below n t j n< e) e))

-- a set without one of its rules is within it
without-within : (t n i : ℕ) → bit n i ≡ true → within t (n - 2 ^ i) n ≡ true
without-within t n i e =
    within-intro t (n - 2 ^ i) n (λ j q. ⊎_elim (λ p. ap (bit n) (sym p) ∙ e) (λ p. sym (bit-without-other n i j e p) ∙ q) (same? i j))

within-trans : (t m k n : ℕ) → m < 2 ^ t → within t m k ≡ true → within t k n ≡ true → within t m n ≡ true
within-trans t m k n m< w v = within-intro t m n (λ j e. let j< = bit_below m t j m< e in within-elim t k n v j j< (within-elim t m k w j j< e))

-- what a set of rules forces, a set that has all of them forces
pub forces-mono : (s : Sheet) (port class m n : ℕ) → within (length s.rules) m n ≡ true → Forces (with_rules s m) port class
    → Forces (with_rules s n) port class
unfolding meets_classes meets_roles
forces-mono s port class m n w f I e =
    let few = with_rules s m in
    let many = with_rules s n in
    let same : truth many I ≡ truth few I = truth-lines many few refl I in
    let rules : meets_rules many I ≡ true = search (and_left, and_right) in
    let classes : meets_classes many I ≡ true = search (and_left, and_right) in
    let roles : meets_roles many I ≡ true = search (and_left, and_right) in
    let rules' : meets_rules few I ≡ true = rules-intro few I (λ r k x x<.
    subst (λ (v : ℕ → ℕ → Bool). (flip (v r.sub x) || v r.sup x) ≡ true) same
    (rules-elim many I rules r (keep_rules-mono m n 0 s.rules (λ j j<. within-elim (length s.rules) m n w j (omega arith)) r k) x x<)) in
    let classes' : meets_classes few I ≡ true = subst (λ (v : ℕ → ℕ → Bool). all (λ (c : ClassAssertion). v c.class (I.denotes c.individual))
    s.classes ≡ true) same classes in
    subst (λ (v : ℕ → ℕ → Bool). v class (I.denotes port) ≡ true) (sym same)
    (f I (and_both (meets_rules few I && meets_classes few I) _ (and_both (meets_rules few I) _ rules' classes') roles))

-- a set has a forcing proper subset exactly if leaving out one of its rules forces
pub drop-one : (s : Sheet) (port class n : ℕ) → n < 2 ^ length s.rules
    → NoSubsetForces s port class n ↔ ((i : ℕ) → i < length s.rules → bit n i ≡ true → Forces (with_rules s (n - 2 ^ i)) port class → ⊥)
drop-one s port class n n< = (there, back)
  where
    there : NoSubsetForces s port class n → (i : ℕ) → i < length s.rules → bit n i ≡ true → Forces (with_rules s (n - 2 ^ i)) port class → ⊥
    there h i i< e =
        h (n - 2 ^ i) (omega arith)
        (without-within (length s.rules) n i e)
        (λ q. omega (arith, bit_le n i e, pow_pos i))

    back : ((i : ℕ) → i < length s.rules → bit n i ≡ true → Forces (with_rules s (n - 2 ^ i)) port class → ⊥) → NoSubsetForces s port class n
    back h m m< w ne f =
        ⊎_elim
        (λ v. ne (within_both (length s.rules) m n m< n< w v))
        (λ v.
        let (i, i-in, q) = all-fails (λ i. flip (bit n i) || bit m i) (up_to (length s.rules)) v in
        let e : bit n i ≡ true = not_of_false (bit n i) (or-false-left (flip (bit n i)) (bit m i) q) in
        let no : bit m i ≡ false = or-false-right (flip (bit n i)) (bit m i) q in
        h i (up_to-elim (length s.rules) i i-in) e
        (forces-mono s port class m (n - 2 ^ i) (within-intro (length s.rules) m (n - 2 ^ i) (λ j j-in.
        bit-without-other n i j e (λ p. clashing (bit m j) j-in (ap (bit m) (sym p) ∙ no))
        ∙ within-elim (length s.rules) m n w j (bit_below m (length s.rules) j m< j-in) j-in)) f))
        (cases (within (length s.rules) n m))

-- ---- contradictory sets
-- `contradictory` is what its name says
pub contradictory-is : (s : Sheet) → WellFormed s → (contradictory s ≡ true) ↔ (SheetSatisfiable s → ⊥)
unfolding contradictory
contradictory-is s wf = (there, back)
  where
    there : is_nothing (first_fine s []) ≡ true → SheetSatisfiable s → ⊥
    there e (I, m) =
        let (K, q) = satisfiable-found s wf [] (I, m, λ x h. absurd (Memᴰ.not-nil h)) in
        false≢true (sym (ap is_nothing q) ∙ e)

    back : (SheetSatisfiable s → ⊥) → is_nothing (first_fine s []) ≡ true
    back none = go (first_fine s []) refl
      where
        go : (o : Maybe Joint) → first_fine s [] ≡ o → is_nothing o ≡ true
        go nothing e = refl
        go (just K) e = absurd (let (I, m, _) = found-satisfiable s wf [] (λ x h. absurd (Memᴰ.not-nil h)) K e in none (I, m))

-- a contradictory set forces every class at every port, so that its mark depends on neither
pub contradiction-forces : (s : Sheet) → (SheetSatisfiable s → ⊥) → (port class : ℕ) → Forces s port class
contradiction-forces s none port class I m = absurd (none (I, m))

module _ (s : Sheet) (wf : WellFormed s) (port class : ℕ) (p< : port < s.individuals) (c< : class < count s) where
  -- a set that forces has a cause within it: rules are left out as long as what is left forces
  cause-below : (f n : ℕ) → n < f → n < 2 ^ length s.rules → Forces (with_rules s n) port class
      → (m : ℕ) × (within (length s.rules) m n ≡ true) × Cause s port class m
  cause-below zero n low n< forced = absurd (omega arith)
  cause-below (suc f) n low n< forced =
      ⊎_elim
      (λ (t : any smaller (up_to (length s.rules)) ≡ true).
      let (i, i-in, both) = any-elim smaller (up_to (length s.rules)) t in
      let e : bit n i ≡ true = and_left (bit n i) (forces (with_rules s (n - 2 ^ i)) port class) both in
      let less : n - 2 ^ i < n = omega (arith, bit_le n i e, pow_pos i) in
      let (m, w, c) = cause-below f (n - 2 ^ i) (omega arith) (omega arith)
      ((forces-at s wf port class p< c< (n - 2 ^ i)).0 (and_right (bit n i) (forces (with_rules s (n - 2 ^ i)) port class) both)) in
      (m, within-trans (length s.rules) m (n - 2 ^ i) n c.is_set w (without-within (length s.rules) n i e), c))
      (λ (t : any smaller (up_to (length s.rules)) ≡ false). (
        n,
        within-intro (length s.rules) n n (λ j h. h),
        record {
          is_set = n<;
          forced = forced;
          least = (drop-one s port class n n<).1 (λ i i< e g.
              clashing (smaller i) (and_both (bit n i) _ e ((forces-at s wf port class p< c< (n - 2 ^ i)).1 g))
              (any_none smaller (up_to (length s.rules)) t i (up_to-intro (length s.rules) i i<)));
        },
      ))
      (cases (any smaller (up_to (length s.rules))))
    where
      smaller : ℕ → Bool
      smaller i = bit n i && forces (with_rules s (n - 2 ^ i)) port class

  -- within a contradictory set every class has a cause
  pub contradiction-has-cause : (n : ℕ) → n < 2 ^ length s.rules → (SheetSatisfiable (with_rules s n) → ⊥)
      → (m : ℕ) × (within (length s.rules) m n ≡ true) × Cause s port class m
  contradiction-has-cause n n< none = cause-below (suc n) n (omega arith) n< (contradiction-forces (with_rules s n) none port class)
