-- What is known of the sets below a number, and what one more set adds: their flags, the list of the causes among them, and that there was room.
use Rattle.std.specs.Prelude.{ℕ, suc, ◌+◌, ◌-◌, ◌*◌, ◌%◌, ◌^◌, ◌≤◌, ◌<◌, Bool, true, false, not as flip, ◌&&◌, ◌||◌, cond, ◌≡◌, refl, List, [], ◌∷◌, ◌++◌, map, length, get_or, set}
use Rattle.std.specs.Prelude.{Option as Maybe, None as nothing, Some as just, Result, Ok, Err, IfOk}
use Rattle.std.proofs.Common.{sym, ◌∙◌, ap, subst, ⊎_elim, arith, lit<, shl_exact, pow_pos, one-mul, append-nil, length-append}
use mathlib.Core.List.{map-append}
use lib.ListN.{length-map}
use lib.Seq.{take-nil, get_or-set_same, get_or-set_other}
use lib.Pow.{pow_mono}
use Rattle.std.proofs.lemmas.Bool.{not-true}
use Rattle.alc.specs.Bits.{bit, members}
use Rattle.alc.specs.Lists.{◌∈◌, any, filter, up_to}
use Rattle.alc.specs.Sheet.{Sheet}
use Rattle.alc.specs.Judge.{first_fine}
use Rattle.alc.specs.Causes.{with_rules, rule_sets, denial, is_nothing, forces, forcing, no_subset_forces, listed, contradictory, top_bit, slot_of, slots, needs_more, lacks_room}
use Rattle.alc.proofs.Theorems.Lists.{cases, clashing, tests_same, or_left, any-intro, any-elim, any_none, any_false, filter-append, filter-length, filter-intro, filter-elim, up_to-intro, up_to-elim, up_to-more, length_from, same?}
use Rattle.alc.proofs.Theorems.Bits.{bit_le, bit_below}
use Rattle.alc.proofs.Theorems.Sheet.{WellFormed}
use Rattle.alc.proofs.Theorems.Causes.{drop-one, forces-at, forces-mono, forcing-at, no-subset-elim, no-subset-intro}
use Rattle.alc.proofs.Theorems.Answers.{short, causes-short, causes-listed}
use Rattle.plan.proofs.Walking.{Each}
use Rattle.tableau.specs.declared.records.Full.{Full}
use Rattle.sets.specs.declared.list.Cause.{Cause}
use Rattle.sets.specs.declared.list.Cause.TheVariants.{Catching, Contradictory}
use Rattle.sets.specs.Sets.{OnSheet, full, judged_by, forced_by, contradicted_by, Flagged, marked_by, as_cause, taken_by, taken_of, TakenTo, slot_by, laid_over, ListedTo}

-- ---- numbers
-- the machine's one, shifted
pub one_shifted : (i : ℕ) → i < 32 → 1 * 2 ^ i % 4294967296 ≡ 2 ^ i
one_shifted i h = shl_exact 1 i 32 (lit< tt) (omega (arith, h)) ∙ one-mul (2 ^ i)

-- twelve rules have 4096 sets
pub few-sets : (k : ℕ) → k ≤ 12 → 2 ^ k ≤ 4096
few-sets k h = pow_mono {i = k} {j = 12} h

-- ---- lists
-- the members of a set
pub members-are : (n : ℕ) → Each (λ i. bit n i ≡ true) (members 32 n)
unfolding members
members-are n i m = (filter-elim (bit n) (up_to 32) m).1

members-in : (n i : ℕ) → i < 32 → bit n i ≡ true → i ∈ members 32 n
unfolding members
members-in n i b e = filter-intro (bit n) (up_to 32) (up_to-intro 32 i b) e

-- whether any passes, at the first of them
module _ (p : ℕ → Bool) {i : ℕ} {is js : List ℕ} (e : is ≡ i ∷ js) where
  pub any-here : p i ≡ true → any p is ≡ true
  any-here h = rw e (or_left (p i) (any p js) h)

  pub any-later : p i ≡ false → any p js ≡ any p is
  any-later h = rw (e, h) refl

-- those that pass below k + 1: those below k, and k if it passes
module _ (p : ℕ → Bool) (k : ℕ) where
  range-more : filter p (up_to (k + 1)) ≡ filter p (up_to k) ++ filter p (k ∷ [])
  range-more = ap (filter p) (up_to-more k) ∙ filter-append p (up_to k) (k ∷ [])

  passes : p k ≡ true → filter p (up_to (k + 1)) ≡ filter p (up_to k) ++ (k ∷ [])
  passes e = range-more ∙ rw (e, filter)

  fails : p k ≡ false → filter p (up_to (k + 1)) ≡ filter p (up_to k)
  fails e = range-more ∙ rw (e, filter) (append-nil (filter p (up_to k)))

-- nothing laid over a list leaves it; one more element is a store behind those before it; the length stays
laid_none : (before : List ℕ) → laid_over [] before ≡ before
laid_none before = ap (λ (r : List ℕ). r ++ before) (take-nil (length before))

laid_more : (xs : List ℕ) (x : ℕ) (before : List ℕ) → laid_over (xs ++ (x ∷ [])) before ≡ set (laid_over xs before) (length xs) x
laid_more [] x [] = refl
laid_more [] x (y ∷ ys) = ap (λ (r : List ℕ). x ∷ (r ++ ys)) (take-nil (length ys))
laid_more (z ∷ xs) x [] = refl
laid_more (z ∷ xs) x (y ∷ ys) = ap (λ (r : List ℕ). z ∷ r) (laid_more xs x ys)

laid-length : (xs before : List ℕ) → length (laid_over xs before) ≡ length before
laid-length [] before = ap length (laid_none before)
laid-length (x ∷ xs) [] = refl
laid-length (x ∷ xs) (y ∷ ys) = ap suc (laid-length xs ys)

-- ---- what a set turns out to be, by five tests: no proper subset of it forces; there is no room to judge it with class fails, it forces;
-- there is no room to judge it without, it is contradictory
abbrev verdict_by : Bool → Bool → Result Bool Full
verdict_by b c = elim b [ true ↦ Err full | false ↦ Ok c ]

abbrev told : Bool → Bool → Bool → Bool → Bool → Result (Maybe Cause) Full
told a b c d e = elim a [ true ↦ taken_by (verdict_by b c) (verdict_by d e) | false ↦ Ok nothing ]

-- no room for either judgement
abbrev lacks : Bool → Bool → Bool → Bool → Bool
lacks a b c d = a && (b || c && d)

told-full : {f : Full} (a b c d e : Bool) → Err f ≡ told a b c d e → lacks a b c d ≡ true
told-full true true c d e q = refl
told-full true false true true e q = refl
told-full true false true false true q = cc
told-full true false true false false q = cc
told-full true false false d e q = cc
told-full false b c d e q = cc

-- which kind of cause
abbrev kind : Bool → Cause
kind true = Contradictory
kind false = Catching

-- a cause, of which the last test says what kind it is
told-cause : (x : Bool) (a b c d e : Bool) → Ok (just (kind x)) ≡ told a b c d e → (lacks a b c d ≡ false) × ((a && c) ≡ true) × (e ≡ x)
told-cause true true true c d e q = (cc, cc, cc)
told-cause false true true c d e q = (cc, cc, cc)
told-cause true true false true true e q = (cc, cc, cc)
told-cause false true false true true e q = (cc, cc, cc)
told-cause true true false true false true q = (refl, refl, refl)
told-cause true true false true false false q = (cc, cc, cc)
told-cause false true false true false true q = (cc, cc, cc)
told-cause false true false true false false q = (refl, refl, refl)
told-cause true true false false d e q = (cc, cc, cc)
told-cause false true false false d e q = (cc, cc, cc)
told-cause true false b c d e q = (cc, cc, cc)
told-cause false false b c d e q = (cc, cc, cc)

told-other : (a b c d e : Bool) → Ok nothing ≡ told a b c d e → (lacks a b c d ≡ false) × ((a && c) ≡ false)
told-other true true c d e q = (cc, cc)
told-other true false true true e q = (cc, cc)
told-other true false true false true q = (cc, cc)
told-other true false true false false q = (cc, cc)
told-other true false false d e q = (refl, refl)
told-other false b c d e q = (refl, refl)

-- the set n forces without rule i, by the flags
abbrev pub less_forces : List Bool → ℕ → ℕ → Bool
less_forces flags n i = get_or flags (n - 2 ^ i) false

-- the same room and the same outcome by other names
pub taken-so : {s : Sheet} {port class room room' n : ℕ} {r r' : Result (Maybe Cause) Full} {flags : List Bool} → TakenTo s port class room n r flags → room ≡ room' → r ≡ r' → TakenTo s port class room' n r' flags
taken-so {s} {port} {class} {room} {room'} {n} {r} {r'} {flags} t p q =
    subst (λ (k : ℕ). TakenTo s port class k n r' flags) p (subst (λ (x : Result (Maybe Cause) Full). TakenTo s port class room n x flags) q t)

-- what holds anyway holds where there is a cause
if-cause : {P : Type 0} (r : Result Cause Full) → P → IfOk (as_cause r) (λ c. P)
if-cause (Err e) p = tt
if-cause (Ok c) p = p

module _ (s : Sheet) (port class : ℕ) where
  -- no proper subset of n forces; n forces
  abbrev pub alone : ℕ → Bool
  alone n = no_subset_forces s (forcing s port class) n

  abbrev own : ℕ → Bool
  own n = forces (with_rules s n) port class

  -- ---- the parts of a set
  module _ (wf : WellFormed s) (on : OnSheet s port class) (n : ℕ) where
    -- where a proper subset forces, the set does
    part-forces : alone n ≡ false → own n ≡ true
    part-forces e =
        ⊎_elim
        (λ t. t)
        (λ (f : own n ≡ false).
        clashing (alone n)
        (no-subset-intro s wf port class on.0 on.1 n (λ m m< w ne g.
        clashing (own n) ((forces-at s wf port class on.0 on.1 n).1 (forces-mono s port class m n w ((forces-at s wf port class on.0 on.1 m).0 g))) f))
        e)
        (cases (own n))

    module _ (few : length s.rules ≤ 12) (n< : n < 2 ^ length s.rules) (flags : List Bool) (known : Flagged s port class n flags) where
      -- the flag of n without a rule of its own is right
      less-flag : (i : ℕ) → bit n i ≡ true → get_or flags (n - 2 ^ i) false ≡ own (n - 2 ^ i)
      less-flag i e = known (n - 2 ^ i) (omega (arith, bit_le n i e, pow_pos i))

      -- a proper subset forces exactly if n without one of its rules does
      pub parts-told : any (less_forces flags n) (members 32 n) ≡ flip (alone n)
      parts-told = tests_same (any (less_forces flags n) (members 32 n)) (flip (alone n)) there- back
        where
          there- : any (less_forces flags n) (members 32 n) ≡ true → flip (alone n) ≡ true
          there- e =
              let (i, i-in, t) = any-elim (less_forces flags n) (members 32 n) e in
              let has : bit n i ≡ true = members-are n i i-in in
              let less : own (n - 2 ^ i) ≡ true = sym (less-flag i has) ∙ t in
              ⊎_elim
              (λ (a : alone n ≡ true).
              absurd ((drop-one s port class n n<).0
              (λ m m< w ne f. no-subset-elim s wf port class on.0 on.1 n a m m< w ne ((forces-at s wf port class on.0 on.1 m).1 f))
              i (bit_below n (length s.rules) i n< has) has ((forces-at s wf port class on.0 on.1 (n - 2 ^ i)).0 less)))
              (λ a. ap flip a)
              (cases (alone n))

          back : flip (alone n) ≡ true → any (less_forces flags n) (members 32 n) ≡ true
          back e =
              ⊎_elim
              (λ t. t)
              (λ (none : any (less_forces flags n) (members 32 n) ≡ false).
              let least = (drop-one s port class n n<).1 (λ i i< has f.
              clashing (less_forces flags n i)
              (less-flag i has ∙ (forces-at s wf port class on.0 on.1 (n - 2 ^ i)).1 f)
              (any_none (less_forces flags n) (members 32 n) none i (members-in n i (omega arith) has))) in
              clashing (alone n)
              (no-subset-intro s wf port class on.0 on.1 n (λ m m< w ne f. least m m< w ne ((forces-at s wf port class on.0 on.1 m).0 f)))
              (not-true (alone n) e))
              (cases (any (less_forces flags n) (members 32 n)))

  module _ (room : ℕ) where
    -- the set n needs more records than there are, with class fails and without
    abbrev too_many : ℕ → Bool
    too_many n = needs_more s room n (denial port class)

    abbrev too_many_again : ℕ → Bool
    too_many_again n = needs_more s room n []

    -- ---- one set
    module _ (n : ℕ) where
      taken-told : taken_of s port class room n ≡ told (alone n) (too_many n) (own n) (too_many_again n) (contradictory (with_rules s n))
      unfolding taken_of judged_by forces contradictory
      taken-told = refl

      -- it lacks room exactly if one of its judgements does
      lacks-told : n < 2 ^ length s.rules → short s port class room n ≡ lacks (alone n) (too_many n) (own n) (too_many_again n)
      unfolding lacks_room
      lacks-told n< = ap (λ (c : Bool). lacks (alone n) (too_many n) c (too_many_again n)) (forcing-at s port class n n<)

      -- a verdict tells whether the set forces
      forces-told : (x : Bool) → Ok x ≡ forced_by (with_rules s n) port class room → x ≡ own n
      unfolding judged_by forces
      forces-told x = go x (too_many n) (is_nothing (first_fine (with_rules s n) (denial port class)))
        where
          go : (x b c : Bool) → Ok x ≡ elim b as (λ _. Result Bool Full) [ true ↦ Err full | false ↦ Ok c ] → x ≡ c
          go true true c e = cc
          go false true c e = cc
          go true false true e = refl
          go true false false e = cc
          go false false true e = cc
          go false false false e = refl

      module _ (flags : List Bool) (known : Flagged s port class n flags) (fits : n < length flags) where
        -- one more flag
        flag-more : (b : Bool) → b ≡ own n → Flagged s port class (suc n) (set flags n b)
        flag-more b e m m< =
            ⊎_elim
            (λ (q : m ≡ n). rw q (get_or-set_same flags n b false fits ∙ e))
            (λ q. get_or-set_other flags n m b false q ∙ known m (omega arith))
            (same? m n)

        -- a set one of whose parts forces is not judged, and forces
        pub take_part : WellFormed s → OnSheet s port class → alone n ≡ false → TakenTo s port class room n (Ok nothing) (set flags n true)
        take_part wf on e =
            record { is = sym (taken-told ∙ ap (λ (a : Bool). told a (too_many n) (own n) (too_many_again n) (contradictory (with_rules s n))) e); flagged = flag-more true (sym (part-forces wf on n e)) }

        -- any other is what its verdict says
        module _ (e : alone n ≡ true) where
          judged : {r : Result Bool Full} → r ≡ forced_by (with_rules s n) port class room → taken_by r (contradicted_by (with_rules s n) room) ≡ taken_of s port class room n
          unfolding taken_of
          judged v = rw (e, taken_of) (ap (λ (r : Result Bool Full). taken_by r (contradicted_by (with_rules s n) room)) v)

          pub take-full : {f : Full} → Err f ≡ forced_by (with_rules s n) port class room → {out : List Bool} → TakenTo s port class room n (Err f) out
          take-full v = record { is = judged v; flagged = tt }

          -- it forces, and what it is besides the second judgement says
          pub take-yes : Ok true ≡ forced_by (with_rules s n) port class room → {r : Result Cause Full} → r ≡ marked_by (contradicted_by (with_rules s n) room)
              → TakenTo s port class room n (as_cause r) (set flags n true)
          take-yes v {r} m = record { is = ap as_cause m ∙ judged v; flagged = if-cause r (flag-more true (forces-told true v)) }

          pub take_no : Ok false ≡ forced_by (with_rules s n) port class room → TakenTo s port class room n (Ok nothing) (set flags n false)
          take_no v = record { is = judged v; flagged = flag-more false (forces-told false v) }

  -- ---- the list
  -- n is in it
  abbrev in_list : ℕ → Bool
  in_list n = alone n && get_or (forcing s port class) n false

  -- what it has below n
  abbrev pub slots_below : ℕ → List ℕ
  slots_below n = map (slot_of s) (filter in_list (up_to n))

  slots-all : slots_below (2 ^ length s.rules) ≡ slots s port class
  unfolding slots listed
  slots-all = refl

  -- one more, or as before
  slots-more : (n : ℕ) → in_list n ≡ true → slots_below (n + 1) ≡ slots_below n ++ (slot_of s n ∷ [])
  slots-more n e = ap (map (slot_of s)) (passes in_list n e) ∙ map-append (slot_of s) (filter in_list (up_to n)) (n ∷ [])

  slots_same : (n : ℕ) → in_list n ≡ false → slots_below (n + 1) ≡ slots_below n
  slots_same n e = ap (map (slot_of s)) (fails in_list n e)

-- the flags of the sets below n are right, the list has the causes among them, and none of them was short of room
pub record Listing (s : Sheet) (port class room : ℕ) (before : List ℕ) (n : ℕ) (flags : List Bool) (found : ℕ) (list : List ℕ) : Type 0 where
  pub bounded : n ≤ 2 ^ length s.rules
  pub flagged : Flagged s port class n flags
  pub counted : found ≡ length (slots_below s port class n)
  pub laid : list ≡ laid_over (slots_below s port class n) before
  pub roomy : (m : ℕ) → m < n → short s port class room m ≡ false

module _ (s : Sheet) (port class room : ℕ) (before : List ℕ) where
  module _ {n found : ℕ} {flags : List Bool} {list : List ℕ} (g : Listing s port class room before n flags found list) where
    list_length : length list ≡ length before
    list_length = ap length g.laid ∙ laid-length (slots_below s port class n) before

    pub found-few : found ≤ n
    found-few = omega (arith, g.counted, length-map (filter (in_list s port class) (up_to n)) (slot_of s), filter-length (in_list s port class) (up_to n), length_from 0 n)

    -- at the end
    pub all_listed : 2 ^ length s.rules ≤ n → ListedTo s port class room before (Ok found) list
    all_listed h =
        let end : n ≡ 2 ^ length s.rules = omega (arith, g.bounded) in
        let same : slots_below s port class n ≡ slots s port class = ap (slots_below s port class) end ∙ slots-all s port class in (
          causes-listed s port class room (any_false (short s port class room) (rule_sets s) (λ m i. g.roomy m (omega (arith, up_to-elim (2 ^ length s.rules) m i)))),
          g.counted ∙ ap length same,
          g.laid ∙ ap (λ (xs : List ℕ). laid_over xs before) same,
        )

    module _ (n< : n < 2 ^ length s.rules) where
      -- there was no room to judge n
      pub was-full : {f : Full} {after : List Bool} → TakenTo s port class room n (Err f) after → ListedTo s port class room before (Err f) list
      was-full t =
          let full : short s port class room n ≡ true =
          lacks-told s port class room n n< ∙ told-full (alone s port class n) (too_many s port class room n) (own s port class n) (too_many_again s port class room n)
          (contradictory (with_rules s n)) (t.is ∙ taken-told s port class room n) in
          (causes-short s port class room (any-intro (short s port class room) (rule_sets s) (up_to-intro (2 ^ length s.rules) n n<) full), list_length)

      -- there was room for n too
      roomy-more : short s port class room n ≡ false → (m : ℕ) → m < n + 1 → short s port class room m ≡ false
      roomy-more e m h = ⊎_elim (λ (q : m ≡ n). rw q e) (λ q. g.roomy m (omega arith)) (same? m n)

      in_list_lem : (b : Bool) → (alone s port class n && own s port class n) ≡ b → in_list s port class n ≡ b
      in_list_lem b e = ap (λ (f : Bool). alone s port class n && f) (forcing-at s port class n n<) ∙ e

      -- its slot, by its kind
      slot-as : (x : Bool) → contradictory (with_rules s n) ≡ x → slot_of s n ≡ cond x (n + top_bit) n
      unfolding slot_of
      slot-as x e = ap (λ (b : Bool). cond b (n + top_bit) n) e

      -- n is a cause, and is laid behind the others
      with-kind : (x : Bool) {after : List Bool} → TakenTo s port class room n (Ok (just (kind x))) after
          → Listing s port class room before (n + 1) after (found + 1) (set list found (cond x (n + top_bit) n))
      with-kind x t =
          let (enough, cause, mark) = told-cause x (alone s port class n) (too_many s port class room n) (own s port class n) (too_many_again s port class room n)
          (contradictory (with_rules s n)) (t.is ∙ taken-told s port class room n) in
          let xs = slots_below s port class n in
          let slot = cond x (n + top_bit) n in
          let more : slots_below s port class (n + 1) ≡ xs ++ (slot ∷ []) =
          slots-more s port class n (in_list_lem true cause) ∙ ap (λ (k : ℕ). xs ++ (k ∷ [])) (slot-as x mark) in
          record {
            bounded = omega arith;
            flagged = λ m h. t.flagged m (omega arith);
            counted = ap (λ (k : ℕ). k + 1) g.counted ∙ sym (ap length more ∙ length-append xs (slot ∷ []));
            laid =
                ap (λ (l : List ℕ). set l found slot) g.laid
                ∙ ap (λ (k : ℕ). set (laid_over xs before) k slot) g.counted
                ∙ sym (ap (λ (l : List ℕ). laid_over l before) more ∙ laid_more xs slot before);
            roomy = roomy-more (lacks-told s port class room n n< ∙ enough);
          }

      pub with-cause : (k : Cause) {after : List Bool} → TakenTo s port class room n (Ok (just k)) after
          → Listing s port class room before (n + 1) after (found + 1) (set list found (slot_by k n))
      with-cause Catching t = with-kind false t
      with-cause Contradictory t = with-kind true t

      -- n is none
      pub with-other : {after : List Bool} → TakenTo s port class room n (Ok nothing) after → Listing s port class room before (n + 1) after found list
      with-other t =
          let (enough, other) = told-other (alone s port class n) (too_many s port class room n) (own s port class n) (too_many_again s port class room n)
          (contradictory (with_rules s n)) (t.is ∙ taken-told s port class room n) in
          let same : slots_below s port class (n + 1) ≡ slots_below s port class n = slots_same s port class n (in_list_lem false other) in
          record {
            bounded = omega arith;
            flagged = λ m h. t.flagged m (omega arith);
            counted = g.counted ∙ sym (ap length same);
            laid = g.laid ∙ sym (ap (λ (l : List ℕ). laid_over l before) same);
            roomy = roomy-more (lacks-told s port class room n n< ∙ enough);
          }
