-- The replies keep the promises of Promises.antt, and two replies that keep one are equal.
use Rattle.std.specs.Prelude.{ℕ, suc, ◌-◌, ◌≤◌, ◌<◌, true, false, ◌&&◌, ◌||◌, ◌≡◌, ◌↔◌, ◌⊎◌, List, [], ◌++◌, length, take, drop, replicate, leb, eqb, pos, ◌-ℤ◌}
use Rattle.std.proofs.Math.Path.{refl, ap, subst}
use Rattle.std.proofs.Common.{sym, ◌∙◌, length-append, take_at, drop_at, ltb-true, ltb-false, lt-ltb, leb-true, leb-false, eqb-true, arith}
use Rattle.std.proofs.Math.Logic.{inl, inr, ⊎_elim}
use Rattle.std.proofs.lemmas.List.{length-replicate}
use Rattle.std.proofs.Math.Dec.{ltb}
use Rattle.std.proofs.Math.IntN.{ -ℤ-+ℤ_cancel}
use Rattle.std.proofs.lemmas.Bool.{eqb-false}
use Rattle.alc.specs.Sheet.{Sheet, count, most_rules, well_formed, in_limits}
use Rattle.alc.specs.Bytes.{Read, refused, taken, read_sheet}
use Rattle.alc.specs.Seeds.{bound}
use Rattle.alc.specs.Model.{Finding, satisfy_answer, TenMeans}
use Rattle.alc.specs.Judge.{Entry, records_needed}
use Rattle.alc.specs.Causes.{causes_answer, with_rules, denial}
use Rattle.alc.specs.Replies.{Reply, most_records, untouched, cleared, finished, checked, satisfy_read, causes_read, satisfy_reply, causes_reply, Balance}
use Rattle.alc.specs.Replies.{faulty, balance_read, balance_reply}
use Rattle.alc.specs.Promises.{LaidOut, MoreSeeds, LentWell, Refusals, ZerosBehind, SatisfyMeans, SatisfyPromise, CauseList, CausesMeans}
use Rattle.alc.specs.Promises.{CausesPromise, BalancePromise}
use Rattle.alc.proofs.Theorems.Lists.{cases, or_cases, or-false-left, or-false-right, and_left, and_right, and_both, clashing}
use Rattle.alc.proofs.Theorems.Sheet.{WellFormed, well-formed}
use Rattle.alc.proofs.Theorems.Records.{more-seeds}
use Rattle.alc.proofs.Theorems.Causes.{listed-is, kept-well-formed}
use Rattle.alc.proofs.Theorems.Answers.{thirteen-is, thirteen-never, twelve-only, three-only, listed-ascending, causes-fourteen, causes-thirteen}
use Rattle.alc.proofs.Theorems.Answers.{causes-never, two-only, slots-are}
use Rattle.alc.proofs.Theorems.Bytes.{refused-range, laid-read, faults-of}
use Rattle.alc.proofs.Theorems.Words.{ten-model}

module _ (rs ms os : List ℕ) where
  -- ---- 7 is tested first
  lent-badly : (ltb most_records (length rs) || ltb (length ms) (length rs)) ≡ true → LentWell rs ms → ⊥
  lent-badly e (a, b) =
      ⊎_elim (λ t. let h = ltb-true most_records (length rs) t in omega arith) (λ t. let h = ltb-true (length ms) (length rs) t in omega arith)
      (or_cases (ltb most_records (length rs)) (ltb (length ms) (length rs)) e)

  pub lent-well : (ltb most_records (length rs) || ltb (length ms) (length rs)) ≡ false → LentWell rs ms
  lent-well e = (
    ltb-false most_records (length rs) (or-false-left (ltb most_records (length rs)) (ltb (length ms) (length rs)) e),
    ltb-false (length ms) (length rs) (or-false-right (ltb most_records (length rs)) (ltb (length ms) (length rs)) e),
  )

  checked-cases : (o : Reply) → ((LentWell rs ms → ⊥) × (checked rs ms os o ≡ untouched rs ms os 7 0)) ⊎ (LentWell rs ms × (checked rs ms os o ≡ o))
  checked-cases o =
      ⊎_elim
      (λ (e : (ltb most_records (length rs) || ltb (length ms) (length rs)) ≡ true). inl (lent-badly e, rw (e, checked)))
      (λ (e : (ltb most_records (length rs) || ltb (length ms) (length rs)) ≡ false). inr (lent-well e, rw (e, checked)))
      (cases (ltb most_records (length rs) || ltb (length ms) (length rs)))

  -- ---- a result where it fits its buffer, where it does not, and none
  pub data Finished (n : ℕ) (r : Finding) : Type 0 where
    fits : r.number ≡ n → length r.out ≤ length os → finished rs ms os n r ≡ cleared rs ms os n (length r.out) r.out → Finished n r
    long : r.number ≡ n → length os < length r.out → finished rs ms os n r ≡ cleared rs ms os (suc n) (length r.out) [] → Finished n r
    none : (r.number ≡ n → ⊥) → finished rs ms os n r ≡ cleared rs ms os r.number 0 [] → Finished n r

  pub finished-cases : (n : ℕ) (r : Finding) → Finished n r
  finished-cases n r =
      ⊎_elim
      (λ (e : eqb r.number n ≡ true). ⊎_elim
      (λ (f : leb (length r.out) (length os) ≡ true). fits (eqb-true r.number n e) (leb-true (length r.out) (length os) f) (rw (e, f, finished)))
      (λ (f : leb (length r.out) (length os) ≡ false). long (eqb-true r.number n e) (leb-false (length r.out) (length os) f) (rw (e, f, finished)))
      (cases (leb (length r.out) (length os))))
      (λ (e : eqb r.number n ≡ false). none (eqb-false r.number n e) (rw (e, finished)))
      (cases (eqb r.number n))

  pub zeros-alone : (k v : ℕ) → (cleared rs ms os k v []).out ≡ replicate (length os) 0
  zeros-alone k v = let all : length os - 0 ≡ length os = omega arith in ap (λ (n : ℕ). replicate n 0) all

  zeros-behind : (k : ℕ) (ws : List ℕ) → length ws ≤ length os → ZerosBehind os (cleared rs ms os k (length ws) ws)
  zeros-behind k ws h =
      let zs : List ℕ = replicate (length os - length ws) 0 in
      let behind : drop (length ws) (ws ++ zs) ≡ zs = drop_at ws zs (length ws) refl in (
        h,
        length-append ws zs ∙ omega (arith, length-replicate {A = ℕ} (length os - length ws) 0),
        behind ∙ ap (λ (n : ℕ). replicate n 0) (sym (ap length behind ∙ length-replicate {A = ℕ} (length os - length ws) 0)),
      )

  module _ (n : ℕ) (r : Finding) where
    -- the numbers that are neither n nor the next are the answer's own
    own-number : (k : ℕ) → (k ≡ n → ⊥) → (k ≡ suc n → ⊥) → ((finished rs ms os n r).number ≡ k) ↔ (r.number ≡ k)
    own-number k a b =
        elim (finished-cases n r) [
          | fits e f q ↦ (λ h. absurd (a (sym h ∙ ap (λ (o : Reply). o.number) q)), λ h. absurd (a (sym h ∙ e)))
          | long e f q ↦ (λ h. absurd (b (sym h ∙ ap (λ (o : Reply). o.number) q)), λ h. absurd (a (sym h ∙ e)))
          | none e q ↦ (λ h. sym (ap (λ (o : Reply). o.number) q) ∙ h, λ h. ap (λ (o : Reply). o.number) q ∙ h)
        ]

    when-fits : (finished rs ms os n r).number ≡ n
        → (r.number ≡ n) × (length r.out ≤ length os) × (finished rs ms os n r ≡ cleared rs ms os n (length r.out) r.out)
    when-fits h =
        elim (finished-cases n r) [
          | fits e f q ↦ (e, f, q)
          | long e f q ↦ absurd (omega (arith, ap (λ (o : Reply). o.number) q))
          | none e q ↦ absurd (e (sym (ap (λ (o : Reply). o.number) q) ∙ h))
        ]

    when-long : (r.number ≡ suc n → ⊥) → (finished rs ms os n r).number ≡ suc n
        → (r.number ≡ n) × (length os < length r.out) × (finished rs ms os n r ≡ cleared rs ms os (suc n) (length r.out) [])
    when-long other h =
        elim (finished-cases n r) [
          | fits e f q ↦ absurd (omega (arith, ap (λ (o : Reply). o.number) q))
          | long e f q ↦ (e, f, q)
          | none e q ↦ absurd (other (sym (ap (λ (o : Reply). o.number) q) ∙ h))
        ]

    when-none : (k : ℕ) → (k ≡ n → ⊥) → (k ≡ suc n → ⊥) → (finished rs ms os n r).number ≡ k → finished rs ms os n r ≡ cleared rs ms os k 0 []
    when-none k a b h =
        elim (finished-cases n r) [
          | fits e f q ↦ absurd (a (sym h ∙ ap (λ (o : Reply). o.number) q))
          | long e f q ↦ absurd (b (sym h ∙ ap (λ (o : Reply). o.number) q))
          | none e q ↦ q ∙ ap (λ (m : ℕ). cleared rs ms os m 0 []) (sym (ap (λ (o : Reply). o.number) q) ∙ h)
        ]

    -- it is one of three numbers, and records and marks are zero
    finished-late : 9 < n → 9 < r.number
        → (9 < (finished rs ms os n r).number) × ((finished rs ms os n r).records ≡ replicate (length rs) 0)
        × ((finished rs ms os n r).marks ≡ replicate (length ms) 0)
    finished-late a b =
        elim (finished-cases n r) [
          | fits e f q ↦ rw q (a, refl, refl)
          | long e f q ↦ rw q (omega arith, refl, refl)
          | none e q ↦ rw q (b, refl, refl)
        ]

-- ---- the answers 1 to 8, once for both functions
module _ (bs rs ms os : List ℕ) where
  -- what follows where the sheet is read: the answer is 8 and touches nothing, or later and ends in zeros
  record Beyond (o : Reply) : Type 0 where
    late : 7 < o.number
    alone : o.number < 9 → (o.records ≡ rs) × (o.marks ≡ ms) × (o.out ≡ os)
    zeroed : 9 < o.number → (o.records ≡ replicate (length rs) 0) × (o.marks ≡ replicate (length ms) 0)

  data Outcome (o : Reply) : Type 0 where
    seven : (LentWell rs ms → ⊥) → o ≡ untouched rs ms os 7 0 → Outcome o
    fault : LentWell rs ms → (n p : ℕ) → read_sheet bs ≡ refused n p → o ≡ untouched rs ms os n p → Outcome o
    beyond : LentWell rs ms → (s : Sheet) (p : ℕ) → read_sheet bs ≡ taken s p → Beyond o → Outcome o

  refused-once : (m n p q : ℕ) → read_sheet bs ≡ refused m p → read_sheet bs ≡ refused n q → (m ≡ n) × (p ≡ q)
  refused-once m n p q e f = (cc, cc)

  refused-or-taken {ℓ} : {C : Type ℓ} (n p q : ℕ) (s : Sheet) → read_sheet bs ≡ refused n p → read_sheet bs ≡ taken s q → C
  refused-or-taken n p q s e f = absurd (let z : ◌≡◌ {A = ℕ} 0 1 = cc in omega arith)

  refusals-of : (o : Reply) → Outcome o → Refusals bs rs ms os o
  refusals-of o (seven bad e) = rw e (record {
    seven = ((λ h. bad), λ h. refl);
    faults = λ lent. absurd (bad lent);
    alone = λ h. (refl, refl, refl);
    zeroed = λ h. absurd (omega arith);
  })
  refusals-of o (fault lent n p r e) =
      let range = refused-range bs n p r in
      rw e (record {
        seven = ((λ h. absurd (omega arith)), λ h. absurd (h lent));
        faults = λ _. faults-of bs _ (λ m q m<. ((λ h. r ∙ λ i. refused (h.0 i) (h.1 i)), λ f. refused-once n m p q r f));
        alone = λ h. (refl, refl, refl);
        zeroed = λ h. absurd (omega arith);
      })
  refusals-of o (beyond lent s p r b) = record {
    seven = ((λ h. absurd (omega (arith))), λ h. absurd (h lent));
    faults = λ _. faults-of bs _ (λ m q m<. ((λ h. absurd (omega (arith, b.late, h.0))), λ f. refused-or-taken m q p s f r));
    alone = b.alone;
    zeroed = b.zeroed;
  }

  finished-beyond : (n : ℕ) (r : Finding) → 9 < n → 9 < r.number → Beyond (finished rs ms os n r)
  finished-beyond n r a b =
      let (late, z, m) = finished-late rs ms os n r a b in
      record { late = omega arith; alone = λ h. absurd (omega arith); zeroed = λ h. (z, m) }

-- ---- demand 2
answer-late : (s : Sheet) (room : ℕ) → 9 < (satisfy_answer s room).number
answer-late s room = ⊎_elim (λ h. ⊎_elim (λ e. omega arith) (λ e. omega arith) h) (λ e. omega arith) (three-only s room)

module _ (rs ms os : List ℕ) (s : Sheet) (well : well_formed s ≡ true) (lim : in_limits s ≡ true) where
  abbrev verdict : Finding
  verdict = satisfy_answer s (length rs)

  abbrev given : Reply
  given = finished rs ms os 10 verdict

  not-eleven : verdict.number ≡ 11 → ⊥
  not-eleven e = ⊎_elim (λ h. ⊎_elim (λ f. omega arith) (λ f. omega arith) h) (λ f. omega arith) (three-only s (length rs))

  words-mean : verdict.number ≡ 10 → TenMeans s verdict.out
  words-mean = ten-model s well lim (length rs)

  satisfy-means : SatisfyMeans s (length rs) os given
  satisfy-means = record {
    ten = λ h.
        let (e, f, q) = when-fits rs ms os 10 verdict h in
        subst (λ (o : Reply). TenMeans s (take o.carries o.out) × ZerosBehind os o) (sym q) (
          rw (take_at verdict.out (replicate (length os - length verdict.out) 0) (length verdict.out) refl) (words-mean e),
          zeros-behind rs ms os 10
              verdict.out f,
        );
    eleven = λ h.
        let (e, f, q) = when-long rs ms os 10 verdict not-eleven h in
        (verdict.out, words-mean e, ap (λ (o : Reply). o.carries) q, f, ap (λ (o : Reply). o.out) q ∙ zeros-alone rs ms os 11 (length verdict.out));
    twelve = λ h.
        let q = when-none rs ms os 10 verdict 12 (λ e. omega arith) (λ e. omega arith) h in (
          twelve-only s (length rs) (well-formed s well) ((own-number rs ms os 10 verdict 12 (λ e. omega arith) (λ e. omega arith)).0 h),
          ap
              (λ (o : Reply). o.carries) q,
          ap (λ (o : Reply). o.out) q ∙ zeros-alone rs ms os 12 0,
        );
    thirteen = (λ h. counted.0 ((thirteen-is s (length rs)).0 (thirteen-own.0 h)), λ h. thirteen-own.1 ((thirteen-is s (length rs)).1 (counted.1 h)));
    thirteen-alone = λ h.
        let q = when-none rs ms os 10 verdict 13 (λ e. omega arith) (λ e. omega arith) h in
        (ap (λ (o : Reply). o.carries) q, ap (λ (o : Reply). o.out) q ∙ zeros-alone rs ms os 13 0);
    never-thirteen = λ b h. thirteen-never s (length rs) b (thirteen-own.0 h);
    one_of = numbers;
  }
    where
      counted : (length rs < length (records_needed s [])) ↔ MoreSeeds s [] (length rs)
      counted = more-seeds s [] (well-formed s well) (length rs)

      thirteen-own : (given.number ≡ 13) ↔ (verdict.number ≡ 13)
      thirteen-own = own-number rs ms os 10 verdict 13 (λ e. omega arith) (λ e. omega arith)

      numbers : (((given.number ≡ 10) ⊎ (given.number ≡ 11)) ⊎ (given.number ≡ 12)) ⊎ (given.number ≡ 13)
      numbers =
          elim (finished-cases rs ms os 10 verdict) [
            | fits e f q ↦ inl (inl (inl (ap (λ (o : Reply). o.number) q)))
            | long e f q ↦ inl (inl (inr (ap (λ (o : Reply). o.number) q)))
            | none e q ↦ ⊎_elim (λ h. ⊎_elim (λ f. absurd (e f)) (λ f. inl (inr (ap (λ (o : Reply). o.number) q ∙ f))) h)
                (λ f. inr (ap (λ (o : Reply). o.number) q ∙ f)) (three-only s (length rs))
          ]

module _ (bs rs ms os : List ℕ) where
  read-cases : (x : Read Sheet) → read_sheet bs ≡ x → LentWell rs ms → Outcome bs rs ms os (satisfy_read rs ms os x)
  read-cases (refused n p) e lent = fault lent n p e refl
  read-cases (taken s p) e lent = beyond lent s p e (finished-beyond bs rs ms os 10 (satisfy_answer s (length rs)) (omega arith) (answer-late s (length rs)))

  pub satisfy-promise : SatisfyPromise bs rs ms os (satisfy_reply bs rs ms os)
  unfolding satisfy_reply
  satisfy-promise = record {
    exact = refl;
    refusals = ⊎_elim
        (λ (bad, e). refusals-of bs rs ms os (satisfy_reply bs rs ms os) (seven bad e))
        (λ (lent, e). subst (λ (o : Reply). Refusals bs rs ms os o) (sym e) (refusals-of bs rs ms os _ (read-cases (read_sheet bs) refl lent)))
        (checked-cases rs ms os (satisfy_read rs ms os (read_sheet bs)));
    means = λ lent s (well, lim, is). ⊎_elim
        (λ (bad, e). absurd (bad lent))
        (λ (_, e). subst (λ (o : Reply). SatisfyMeans s (length rs) os o) (sym (e ∙ ap (satisfy_read rs ms os) (laid-read bs s (well, lim, is))))
        (satisfy-means rs ms os s well lim))
        (checked-cases rs ms os (satisfy_read rs ms os (read_sheet bs)));
  }

  -- what equals the reply keeps the promise
  pub satisfy-kept : {o : Reply} → o ≡ satisfy_reply bs rs ms os → SatisfyPromise bs rs ms os o
  satisfy-kept e = subst (λ (x : Reply). SatisfyPromise bs rs ms os x) (sym e) satisfy-promise

  pub satisfy-unique : (o o' : Reply) → SatisfyPromise bs rs ms os o → SatisfyPromise bs rs ms os o' → o ≡ o'
  satisfy-unique o o' p q = p.exact ∙ sym q.exact

-- ---- demand 3
few-rules : (s : Sheet) → in_limits s ≡ true → length s.rules ≤ most_rules
unfolding in_limits
few-rules s lim =
    let few : ltb (length s.rules) (suc most_rules) ≡ true = search (and_left, and_right) in
    let less = ltb-true (length s.rules) (suc most_rules) few in
    omega arith

module _ (rs ms os : List ℕ) (s : Sheet) (wf : WellFormed s) (few : length s.rules ≤ most_rules) (port class : ℕ) (p< : port < s.individuals)
    (c< : class < count s) where
  abbrev causes : Finding
  causes = causes_answer s port class (length rs)

  abbrev shown : Reply
  shown = finished rs ms os 14 causes

  not-fifteen : causes.number ≡ 15 → ⊥
  not-fifteen e = ⊎_elim (λ f. omega arith) (λ f. omega arith) (two-only s port class (length rs))

  list-means : causes.number ≡ 14 → CauseList s port class causes.out
  list-means e =
      let (rules, marked) = slots-are s wf port class few in
      rw (causes-fourteen s port class (length rs) e)
      (rw rules (listed-ascending s port class, listed-is s wf port class p< c<, marked))

  causes-means : CausesMeans s port class (length rs) os shown
  causes-means = record {
    thirteen = (
      λ h. let (n, n<, least, lacks) = (causes-thirteen s port class (length rs) wf p< c<).0 (thirteen-own.0 h) in
          (n, n<, least, ⊎_elim (λ l. inl ((counted n (denial port class)).0 l)) (λ (f, l). inr (f, (counted n []).0 l)) lacks),
      λ (n, n<, least, more). thirteen-own.1 ((causes-thirteen s port class (length rs) wf p< c<).1
          (n, n<, least, ⊎_elim (λ l. inl ((counted n (denial port class)).1 l)) (λ (f, l). inr (f, (counted n []).1 l)) more)),
    );
    thirteen-alone = λ h.
        let q = when-none rs ms os 14 causes 13 (λ e. omega arith) (λ e. omega arith) h in
        (ap (λ (o : Reply). o.carries) q, ap (λ (o : Reply). o.out) q ∙ zeros-alone rs ms os 13 0);
    never-thirteen = λ b h. causes-never s wf port class (length rs) p< c< b (thirteen-own.0 h);
    fourteen = λ h.
        let (e, f, q) = when-fits rs ms os 14 causes h in
        subst (λ (o : Reply). CauseList s port class (take o.carries o.out) × ZerosBehind os o) (sym q) (
          rw (take_at causes.out (replicate (length os - length causes.out) 0) (length causes.out) refl) (list-means e),
          zeros-behind rs ms os 14
              causes.out f,
        );
    fifteen = λ h.
        let (e, f, q) = when-long rs ms os 14 causes not-fifteen h in
        (causes.out, list-means e, ap (λ (o : Reply). o.carries) q, f, ap (λ (o : Reply). o.out) q ∙ zeros-alone rs ms os 15 (length causes.out));
    one_of = numbers;
  }
    where
      counted : (n : ℕ) (xs : List Entry) → (length rs < length (records_needed (with_rules s n) xs)) ↔ MoreSeeds (with_rules s n) xs (length rs)
      counted n xs = more-seeds (with_rules s n) xs (kept-well-formed s wf n) (length rs)

      thirteen-own : (shown.number ≡ 13) ↔ (causes.number ≡ 13)
      thirteen-own = own-number rs ms os 14 causes 13 (λ e. omega arith) (λ e. omega arith)

      numbers : ((shown.number ≡ 13) ⊎ (shown.number ≡ 14)) ⊎ (shown.number ≡ 15)
      numbers =
          elim (finished-cases rs ms os 14 causes) [
            | fits e f q ↦ inl (inr (ap (λ (o : Reply). o.number) q))
            | long e f q ↦ inr (ap (λ (o : Reply). o.number) q)
            | none e q ↦ ⊎_elim (λ f. inl (inl (ap (λ (o : Reply). o.number) q ∙ f))) (λ f. absurd (e f)) (two-only s port class (length rs))
          ]

causes-late : (s : Sheet) (port class room : ℕ) → 9 < (causes_answer s port class room).number
causes-late s port class room = ⊎_elim (λ e. omega arith) (λ e. omega arith) (two-only s port class room)

module _ (bs : List ℕ) (port class : ℕ) (rs ms os : List ℕ) where
  -- 8, or what the sheet and the query give
  query-cases : (s : Sheet) (p : ℕ)
      → (((port < s.individuals) × (class < count s) → ⊥) × (causes_read rs ms os port class (taken s p) ≡ untouched rs ms os 8 0))
      ⊎ ((port < s.individuals) × (class < count s) × (causes_read rs ms os port class (taken s p) ≡ finished rs ms os 14
      (causes_answer s port class (length rs))))
  query-cases s p =
      ⊎_elim
      (λ (e : (ltb port s.individuals && ltb class (count s)) ≡ true). inr (
        ltb-true port s.individuals (and_left (ltb port s.individuals) (ltb class (count s)) e),
        ltb-true class (count s) (and_right (ltb port s.individuals) (ltb class (count s)) e),
        rw (e, causes_read),
      ))
      (λ (e : (ltb port s.individuals && ltb class (count s)) ≡ false). inl (
        (λ (a, b). clashing (ltb port s.individuals && ltb class (count s))
            (and_both (ltb port s.individuals) _ (lt-ltb port s.individuals a) (lt-ltb class (count s) b)) e),
        rw (e, causes_read),
      ))
      (cases (ltb port s.individuals && ltb class (count s)))

  query-beyond : (s : Sheet) (p : ℕ) → Beyond bs rs ms os (causes_read rs ms os port class (taken s p))
  query-beyond s p =
      ⊎_elim
      (λ (_, e). subst (λ (o : Reply). Beyond bs rs ms os o) (sym e)
      (record { late = omega arith; alone = λ h. (refl, refl, refl); zeroed = λ h. absurd (omega arith) }))
      (λ (_, _, e). subst (λ (o : Reply). Beyond bs rs ms os o) (sym e)
      (finished-beyond bs rs ms os 14 (causes_answer s port class (length rs)) (omega arith) (causes-late s port class (length rs))))
      (query-cases s p)

  query-read : (x : Read Sheet) → read_sheet bs ≡ x → LentWell rs ms → Outcome bs rs ms os (causes_read rs ms os port class x)
  query-read (refused n p) e lent = fault lent n p e refl
  query-read (taken s p) e lent = beyond lent s p e (query-beyond s p)

  -- where the buffers are in order and the sheet is read
  causes-reply : LentWell rs ms → (s : Sheet) → LaidOut s bs → causes_reply bs port class rs ms os ≡ causes_read rs ms os port class (taken s (length bs))
  unfolding causes_reply
  causes-reply lent s is =
      ⊎_elim (λ (bad, e). absurd (bad lent)) (λ (_, e). e ∙ ap (causes_read rs ms os port class) (laid-read bs s is))
      (checked-cases rs ms os (causes_read rs ms os port class (read_sheet bs)))

  eight_is : (s : Sheet) (p : ℕ) → (((causes_read rs ms os port class (taken s p)).number ≡ 8) × ((causes_read rs ms os port class (taken s p)).carries ≡ 0))
      ↔ ((port < s.individuals) × (class < count s) → ⊥)
  eight_is s p =
      ⊎_elim
      (λ (off, e). ((λ h. off), λ h. (ap (λ (o : Reply). o.number) e, ap (λ (o : Reply). o.carries) e)))
      (λ (a, b, e). (
        (λ h. absurd (let (late, _, _) = finished-late rs ms os 14 (causes_answer s port class (length rs)) (omega arith)
            (causes-late s port class (length rs)) in omega (arith, ap (λ (o : Reply). o.number) e, h.0))),
        λ h. absurd (h (a, b)),
      ))
      (query-cases s p)

  pub causes-promise : CausesPromise bs port class rs ms os (causes_reply bs port class rs ms os)
  unfolding causes_reply
  causes-promise = record {
    exact = refl;
    refusals = ⊎_elim
        (λ (bad, e). refusals-of bs rs ms os (causes_reply bs port class rs ms os) (seven bad e))
        (λ (lent, e). subst (λ (o : Reply). Refusals bs rs ms os o) (sym e) (refusals-of bs rs ms os _ (query-read (read_sheet bs) refl lent)))
        (checked-cases rs ms os (causes_read rs ms os port class (read_sheet bs)));
    eight = λ lent s is.
        subst (λ (o : Reply). ((o.number ≡ 8) × (o.carries ≡ 0)) ↔ ((port < s.individuals) × (class < count s) → ⊥)) (sym (causes-reply lent s is))
        (eight_is s (length bs));
    means = λ lent s is p< c<.
        subst (λ (o : Reply). CausesMeans s port class (length rs) os o) (sym (causes-reply lent s is))
        (⊎_elim
        (λ (off, e). absurd (off (p<, c<)))
        (λ (_, _, e). subst (λ (o : Reply). CausesMeans s port class (length rs) os o) (sym e)
        (causes-means rs ms os s (well-formed s is.0) (few-rules s is.1) port class p< c<))
        (query-cases s (length bs)));
  }

  pub causes-kept : {o : Reply} → o ≡ causes_reply bs port class rs ms os → CausesPromise bs port class rs ms os o
  causes-kept e = subst (λ (x : Reply). CausesPromise bs port class rs ms os x) (sym e) causes-promise

  pub causes-unique : (o o' : Reply) → CausesPromise bs port class rs ms os o → CausesPromise bs port class rs ms os o' → o ≡ o'
  causes-unique o o' p q = p.exact ∙ sym q.exact

-- ---- the balance
module _ (bs : List ℕ) (room : ℕ) where
  room-cases : ((most_records < room) × (balance_reply bs room ≡ faulty 7 0)) ⊎ ((room ≤ most_records) × (balance_reply bs room ≡ balance_read room (read_sheet bs)))
  unfolding balance_reply
  room-cases =
      ⊎_elim
      (λ (e : ltb most_records room ≡ true). inl (ltb-true most_records room e, rw (e, balance_reply)))
      (λ (e : ltb most_records room ≡ false). inr (ltb-false most_records room e, rw (e, balance_reply)))
      (cases (ltb most_records room))

  faults-are : (x : Read Sheet) (n p : ℕ) → (balance_read room x ≡ faulty n p) ↔ (x ≡ refused n p)
  faults-are (refused m q) n p = (
    (λ e. let a : m ≡ n = cc in let b : q ≡ p = cc in λ i. refused (a i) (b i)),
    λ e. let a : m ≡ n = cc in let b : q ≡ p = cc in
        λ i. faulty (a i) (b i),
  )
  faults-are (taken s q) n p = ((λ e. absurd (let z : ◌≡◌ {A = ℕ} 0 1 = cc in omega arith)), λ e. absurd (let z : ◌≡◌ {A = ℕ} 0 1 = cc in omega arith))

  -- no fault of the sheet is numbered 7
  no_seven : read_sheet bs ≡ refused 7 0 → ⊥
  no_seven e = let range = refused-range bs 7 0 e in omega arith

  pub balance-promise : BalancePromise bs room (balance_reply bs room)
  balance-promise = record {
    exact = refl;
    seven = ⊎_elim
        (λ (h, e). ((λ _. h), λ _. e))
        (λ (h, e). ((λ f. absurd (no_seven ((faults-are (read_sheet bs) 7 0).0 (sym e ∙ f)))), λ g. absurd (omega arith)))
        room-cases;
    faults = λ lent. ⊎_elim
        (λ (h, e). absurd (omega arith))
        (λ (h, e). faults-of bs _ (λ n p _. ((λ f. (faults-are (read_sheet bs) n p).0 (sym e ∙ f)), λ f. e ∙ (faults-are (read_sheet bs) n p).1 f)))
        room-cases;
    means = λ lent s is. ⊎_elim
        (λ (h, e). absurd (omega arith))
        (λ (h, e). (pos room -ℤ pos (bound s), e ∙ ap (balance_read room) (laid-read bs s is), -ℤ-+ℤ_cancel (pos room) (pos (bound s))))
        room-cases;
  }

  -- what equals the reply keeps the promise
  pub balance-kept : {b : Balance} → b ≡ balance_reply bs room → BalancePromise bs room b
  balance-kept e = subst (λ (x : Balance). BalancePromise bs room x) (sym e) balance-promise

  pub balance-unique : (b b' : Balance) → BalancePromise bs room b → BalancePromise bs room b' → b ≡ b'
  balance-unique b b' p q = p.exact ∙ sym q.exact
