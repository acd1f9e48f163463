-- What the replies mean, in the demands' own words.
use Rattle.std.specs.Prelude.{ℕ, zero, suc, ◌+◌, ◌^◌, ◌≤◌, ◌<◌, true, false, ◌&&◌, ◌||◌, ◌≡◌, refl, ◌↔◌, ◌⊎◌, List, [], ◌∷◌, map, length, get_or, ltb}
use Rattle.std.proofs.Math.Bool.{Bool}
use Rattle.std.proofs.Common.{sym, ◌∙◌, ap, ap₂, pow_mono}
use Rattle.std.proofs.Math.Path.{subst}
use Rattle.std.proofs.Math.Logic.{inl, inr, ⊎_elim}
use mathlib.Core.List.Memᴰ
use borrow.Author.Tests.{ltb-true, ltb-false, lt-ltb, le-ltb}
use native.Mathlib.Omega.{arith}
use Rattle.alc.specs.Lists.{◌∈◌, any, Ascending, from, nothing, Maybe, just, filter}
use Rattle.alc.specs.Sheet.{Sheet, count, most_rules}
use Rattle.alc.specs.Meaning.{SheetSatisfiable, Forces}
use Rattle.alc.specs.Settle.{Joint}
use Rattle.alc.specs.Seeds.{bound, quantified}
use Rattle.alc.specs.Judge.{records_needed, Entry, first_fine}
use Rattle.alc.specs.Model.{satisfy_answer, Finding, told, model_words}
use Rattle.alc.specs.Causes.{denial, causes_answer, forcing, no_subset_forces, rule_sets, NoSubsetForces, listed, with_rules, contradictory, top_bit, rules_of}
use Rattle.alc.specs.Causes.{slot_of, slots, lacks_room}
use Rattle.alc.specs.Promises.{MarkedRight}
use Rattle.alc.proofs.Theorems.Lists.{and_both, cases, any-intro, up_to-intro, filter-elim, and_left, and_right, from-elim, any-elim, filter-step}
use Rattle.alc.proofs.Theorems.Lists.{up_to-elim, here, there, clashing, or_cases, or_left, or_right}
use Rattle.alc.proofs.Theorems.Sorted.{Sorted, sorted-unique}
use Rattle.alc.proofs.Theorems.Sheet.{WellFormed}
use Rattle.alc.proofs.Theorems.Decides.{satisfiable-found}
use Rattle.alc.proofs.Theorems.Records.{records-bound}
use Rattle.alc.proofs.Theorems.Causes.{forces-at, forcing-at, no-subset-elim, no-subset-intro, kept-well-formed, contradictory-is}

-- ---- demand 2, over the reply itself
no_extra : (x : Entry) → x ∈ [] → ⊥
no_extra x h = Memᴰ.not-nil h

module _ (s : Sheet) (room : ℕ) where
  pub reply-short : room < length (records_needed s []) → satisfy_answer s room ≡ record { number = 13; out = [] }
  unfolding satisfy_answer
  reply-short h = rw (lt-ltb room (length (records_needed s [])) h, satisfy_answer)

  pub reply-told : length (records_needed s []) ≤ room → satisfy_answer s room ≡ told s (first_fine s [])
  unfolding satisfy_answer
  reply-told h = rw (le-ltb room (length (records_needed s [])) h, satisfy_answer)

  told-not-13 : (o : Maybe Joint) → (told s o).number ≡ 13 → ⊥
  told-not-13 nothing e = omega arith
  told-not-13 (just K) e = omega arith

  -- out of space exactly when the records needed outnumber those lent
  pub thirteen-is : ((satisfy_answer s room).number ≡ 13) ↔ (room < length (records_needed s []))
  thirteen-is = (there-, λ h. ap (λ (r : Finding). r.number) (reply-short h))
    where
      there- : (satisfy_answer s room).number ≡ 13 → room < length (records_needed s [])
      there- e =
          ⊎_elim
          (λ (t : ltb room (length (records_needed s [])) ≡ true). ltb-true room _ t)
          (λ (t : ltb room (length (records_needed s [])) ≡ false). absurd
          (told-not-13 (first_fine s []) (sym (ap (λ (r : Finding). r.number) (reply-told (ltb-false room _ t))) ∙ e)))
          (cases (ltb room (length (records_needed s []))))

  -- and never when e·2^(e-1) are lent
  pub thirteen-never : bound s ≤ room → (satisfy_answer s room).number ≡ 13 → ⊥
  thirteen-never h e = let a = thirteen-is.0 e in omega (arith, records-bound s [])

  enough : (satisfy_answer s room).number ≡ 13 ⊎ (length (records_needed s []) ≤ room)
  enough = ⊎_elim (λ t. inl (thirteen-is.1 (ltb-true room _ t))) (λ t. inr (ltb-false room _ t)) (cases (ltb room (length (records_needed s []))))

  -- at 10, a joint label is found, and its model is written
  pub ten-found : (satisfy_answer s room).number ≡ 10 → (K : Joint) × (first_fine s [] ≡ just K) × ((satisfy_answer s room).out ≡ model_words s K)
  ten-found e =
      ⊎_elim
      (λ t. absurd (let a : ◌≡◌ {A = ℕ} 13 10 = sym t ∙ e in omega arith))
      (λ t. rw (reply-told t) (go (first_fine s []) refl (sym (ap (λ (r : Finding). r.number) (reply-told t)) ∙ e)))
      enough
    where
      go : (o : Maybe Joint) → first_fine s [] ≡ o → (told s o).number ≡ 10 → (K : Joint) × (first_fine s [] ≡ just K)
          × ((told s (first_fine s [])).out ≡ model_words s K)
      go nothing q e = absurd (omega arith)
      go (just K) q e = (K, q, ap (λ (o : Maybe Joint). (told s o).out) q)

  module _ (wf : WellFormed s) where
    go12 : (o : Maybe Joint) → first_fine s [] ≡ o → (told s o).number ≡ 12 → SheetSatisfiable s → ⊥
    go12 nothing q e (I, m) =
        let (K, p) = satisfiable-found s wf [] (I, m, λ x h. absurd (no_extra x h)) in
        let z : ◌≡◌ {A = Maybe Joint} nothing (just K) = sym q ∙ p in
        let y : ◌≡◌ {A = ℕ} 0 1 = cc in omega arith
    go12 (just K) q e sat = omega arith

    pub twelve-only : (satisfy_answer s room).number ≡ 12 → SheetSatisfiable s → ⊥
    twelve-only e =
        ⊎_elim
        (λ t. absurd (let a : ◌≡◌ {A = ℕ} 13 12 = sym t ∙ e in omega arith))
        (λ t. go12 (first_fine s []) refl (sym (ap (λ (r : Finding). r.number) (reply-told t)) ∙ e))
        enough

  -- there is no other number
  pub three-only : (((satisfy_answer s room).number ≡ 10) ⊎ ((satisfy_answer s room).number ≡ 12)) ⊎ ((satisfy_answer s room).number ≡ 13)
  three-only =
      ⊎_elim
      (λ (t : ltb room (length (records_needed s [])) ≡ true). inr (thirteen-is.1 (ltb-true room _ t)))
      (λ (t : ltb room (length (records_needed s [])) ≡ false). inl (rw (reply-told (ltb-false room _ t)) (go (first_fine s []))))
      (cases (ltb room (length (records_needed s []))))
    where
      go : (o : Maybe Joint) → ((told s o).number ≡ 10) ⊎ ((told s o).number ≡ 12)
      go nothing = inr refl
      go (just K) = inl refl

filter-ascending : (p : ℕ → Bool) (a k : ℕ) → Ascending (filter p (from a k))
filter-ascending p a zero = tt
filter-ascending p a (suc k) =
    ⊎_elim
    (λ t. rw t.1 (
      (λ y h. let (i, _) = filter-elim p (from (suc a) k) h in let (l, _) = from-elim (suc a) k y i in omega arith),
      filter-ascending p
          (suc a) k,
    ))
    (λ t. rw t.1 (filter-ascending p (suc a) k))
    (filter-step p a (from (suc a) k))

pub listed-ascending : (s : Sheet) (port class : ℕ) → Ascending (listed s port class)
unfolding listed
listed-ascending s port class = filter-ascending (λ n. no_subset_forces s (forcing s port class) n && get_or (forcing s port class) n false) 0
    (2 ^ length s.rules)

ascending-sorted : (xs : List ℕ) → Ascending xs → Sorted ◌<◌ xs
ascending-sorted [] p = tt
ascending-sorted (x ∷ xs) p = (p.0, ascending-sorted xs p.1)

pub ascending-unique : (xs ys : List ℕ) → Ascending xs → Ascending ys → ((n : ℕ) → (n ∈ xs) ↔ (n ∈ ys)) → xs ≡ ys
ascending-unique xs ys p q h = sorted-unique ◌<◌ (λ x y a b. omega arith) xs ys (ascending-sorted xs p) (ascending-sorted ys q) h

-- ---- slots
module _ (s : Sheet) (wf : WellFormed s) (n : ℕ) (n< : n < top_bit) where
  -- a slot has its set, and its mark says whether the set is contradictory
  slot_is : (rules_of (slot_of s n) ≡ n) × MarkedRight s (slot_of s n)
  unfolding slot_of
  slot_is =
      ⊎_elim
      (λ (e : contradictory (with_rules s n) ≡ true).
      let rules : rules_of (n + top_bit) ≡ n = omega arith in
      rw e (
        rules,
        (
          omega arith,
          (
            λ _. subst (λ (m : ℕ). SheetSatisfiable (with_rules s m) → ⊥) (sym rules)
                ((contradictory-is (with_rules s n) (kept-well-formed s wf n)).0 e),
            λ _. omega arith,
          ),
        ),
      ))
      (λ (e : contradictory (with_rules s n) ≡ false).
      let rules : rules_of n ≡ n = omega arith in
      rw e (
        rules,
        (
          omega arith,
          (
            (λ h. absurd (omega arith)),
            λ none. absurd (clashing (contradictory (with_rules s n))
                ((contradictory-is (with_rules s n) (kept-well-formed s wf n)).1 (subst (λ (m : ℕ). SheetSatisfiable (with_rules s m) → ⊥) rules none)) e),
          ),
        ),
      ))
      (cases (contradictory (with_rules s n)))

module _ (s : Sheet) (wf : WellFormed s) where
  slots-rules : (l : List ℕ) → ((n : ℕ) → n ∈ l → n < top_bit) → map rules_of (map (slot_of s) l) ≡ l
  slots-rules [] h = refl
  slots-rules (n ∷ l) h = ap₂ {C = List ℕ} (λ x r. x ∷ r) (slot_is s wf n (h n here)).0 (slots-rules l (λ m i. h m (there i)))

  pub slots-marked : (l : List ℕ) → ((n : ℕ) → n ∈ l → n < top_bit) → (x : ℕ) → x ∈ map (slot_of s) l → MarkedRight s x
  slots-marked l h x i = let (n, n-in, e) = Memᴰ.of_map (slot_of s) l i in subst (MarkedRight s) e (slot_is s wf n (h n n-in)).1

listed_below : (s : Sheet) (port class n : ℕ) → n ∈ listed s port class → n < 2 ^ length s.rules
unfolding listed
listed_below s port class n h =
    let (i, _) = filter-elim (λ n. no_subset_forces s (forcing s port class) n && get_or (forcing s port class) n false) (rule_sets s) h in
    up_to-elim (2 ^ length s.rules) n i

-- the slots without their marks are the list
pub slots-are : (s : Sheet) → WellFormed s → (port class : ℕ) → length s.rules ≤ most_rules
    → (map rules_of (slots s port class) ≡ listed s port class) × ((x : ℕ) → x ∈ slots s port class → MarkedRight s x)
unfolding slots
slots-are s wf port class few = (slots-rules s wf (listed s port class) small, slots-marked s wf (listed s port class) small)
  where
    small : (n : ℕ) → n ∈ listed s port class → n < top_bit
    small n h = let inside = listed_below s port class n h in let most : 2 ^ length s.rules ≤ 4096 = pow_mono few in omega arith

module _ (s : Sheet) (port class room : ℕ) where
  -- a set that would have to be judged needs more records than there are
  abbrev pub short : ℕ → Bool
  short n = lacks_room s port class room (forcing s port class) n

  pub causes-short : any short (rule_sets s) ≡ true → causes_answer s port class room ≡ record { number = 13; out = [] }
  unfolding causes_answer
  causes-short h = rw (h, causes_answer)

  pub causes-listed : any short (rule_sets s) ≡ false → causes_answer s port class room ≡ record { number = 14; out = slots s port class }
  unfolding causes_answer
  causes-listed h = rw (h, causes_answer)

  short-iff : ((causes_answer s port class room).number ≡ 13) ↔ (any short (rule_sets s) ≡ true)
  short-iff = (
    λ e. ⊎_elim (λ t. t) (λ t. absurd (let a : ◌≡◌ {A = ℕ} 14 13 = sym (ap (λ (r : Finding). r.number) (causes-listed t)) ∙ e in omega arith))
        (cases (any short (rule_sets s))),
    λ t. ap (λ (r : Finding). r.number) (causes-short t),
  )

  pub causes-fourteen : (causes_answer s port class room).number ≡ 14 → (causes_answer s port class room).out ≡ slots s port class
  causes-fourteen e =
      ⊎_elim
      (λ (t : any short (rule_sets s) ≡ true). absurd (let a : ◌≡◌ {A = ℕ} 13 14 = sym (ap (λ (r : Finding). r.number) (causes-short t)) ∙ e in omega arith))
      (λ (t : any short (rule_sets s) ≡ false). ap (λ (r : Finding). r.out) (causes-listed t))
      (cases (any short (rule_sets s)))

  -- there is no other number
  pub two-only : ((causes_answer s port class room).number ≡ 13) ⊎ ((causes_answer s port class room).number ≡ 14)
  two-only =
      ⊎_elim
      (λ (t : any short (rule_sets s) ≡ true). inl (ap (λ (r : Finding). r.number) (causes-short t)))
      (λ (t : any short (rule_sets s) ≡ false). inr (ap (λ (r : Finding). r.number) (causes-listed t)))
      (cases (any short (rule_sets s)))

  module _ (wf : WellFormed s) (p< : port < s.individuals) (c< : class < count s) where
    -- set n needs more records than lent: with "class fails", or, where it forces, without
    abbrev pub Lacks : ℕ → Type 0
    Lacks n = (room < length (records_needed (with_rules s n) (denial port class)))
        ⊎ (Forces (with_rules s n) port class × (room < length (records_needed (with_rules s n) [])))

    lacks-is : (n : ℕ) → n < 2 ^ length s.rules → (short n ≡ true) ↔ (NoSubsetForces s port class n × Lacks n)
    unfolding lacks_room
    lacks-is n n< = (
      λ t.
          let rest = and_right none (more || listed? && again) t in (
            (λ m m< w ne f. no-subset-elim s wf port class p< c< n (and_left none (more || listed? && again) t) m m< w ne
                ((forces-at s wf port class p< c< m).1 f)),
            ⊎_elim
                (λ h. inl (ltb-true room _ h))
                (λ h. inr (
                  (forces-at s wf port class p< c< n).0 (sym (forcing-at s port class n n<) ∙ and_left listed? again h),
                  ltb-true room _
                      (and_right listed? again h),
                ))
                (or_cases more (listed? && again) rest),
          ),
      λ (least, lacks). and_both none _ (no-subset-intro s wf port class p< c< n (λ m m< w ne f. least m m< w ne ((forces-at s wf port class p< c< m).0 f)))
          (⊎_elim
          (λ h. or_left more (listed? && again) (lt-ltb room _ h))
          (λ (f, h). or_right more (listed? && again) (and_both listed? again (forcing-at s port class n n< ∙ (forces-at s wf port class p< c< n).1 f)
          (lt-ltb room _ h)))
          lacks),
    )
      where
        none : Bool
        none = no_subset_forces s (forcing s port class) n

        more : Bool
        more = ltb room (length (records_needed (with_rules s n) (denial port class)))

        listed? : Bool
        listed? = get_or (forcing s port class) n false

        again : Bool
        again = ltb room (length (records_needed (with_rules s n) []))

    -- 13 exactly when some set, none of whose proper subsets forces, needs more records than lent
    pub causes-thirteen : ((causes_answer s port class room).number ≡ 13)
        ↔ ((n : ℕ) × (n < 2 ^ length s.rules) × NoSubsetForces s port class n × Lacks n)
    causes-thirteen = (
      λ e.
          let (n, i, t) = any-elim short (rule_sets s) (short-iff.0 e) in
          let n< = up_to-elim (2 ^ length s.rules) n i in
          let (least, lacks) = (lacks-is n n<).0 t in
          (n, n<, least, lacks),
      λ (n, n<, least, lacks). short-iff.1 (any-intro short (rule_sets s) (up_to-intro (2 ^ length s.rules) n n<) ((lacks-is n n<).1 (least, lacks))),
    )

-- the lines are the same, so e is
bound-same : (s : Sheet) (n : ℕ) → bound (with_rules s n) ≡ bound s
unfolding bound quantified
bound-same s n = refl

-- never 13 when e·2^(e-1) are lent, for causes too
pub causes-never : (s : Sheet) → WellFormed s → (port class room : ℕ) → port < s.individuals → class < count s → bound s ≤ room
    → (causes_answer s port class room).number ≡ 13 → ⊥
causes-never s wf port class room p< c< h e =
    let (n, n<, _, lacks) = (causes-thirteen s port class room wf p< c<).0 e in
    ⊎_elim
    (λ lt. omega (arith, records-bound (with_rules s n) (denial port class), bound-same s n))
    (λ (_, lt). omega (arith, records-bound (with_rules s n) [], bound-same s n))
    lacks
