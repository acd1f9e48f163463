-- What a line demands of a label, and the choice that is made of it. Assumes nothing.
use Rattle.std.specs.Prelude.{ℕ, ◌<◌, Bool, true, false, ◌||◌, ◌≡◌, refl, List, [], ◌∷◌}
use Rattle.std.proofs.Common.{sym, ◌∙◌, ap, ⊎_elim, arith}
use Rattle.std.specs.Prelude.{Option as Maybe}
use Rattle.alc.specs.Lists.{all, first}
use Rattle.alc.specs.declared.Line.{Line}
use Rattle.alc.specs.declared.Line.TheVariants.{And as and, Or as or}
use Rattle.alc.specs.Sheet.{Sheet, count, line}
use Rattle.alc.specs.declared.Label.{Label}
use Rattle.alc.specs.declared.Mark.{Mark}
use Rattle.alc.specs.declared.Mark.TheVariants.{Holds as holds, Fails as fails}
use Rattle.alc.specs.Label.{blank, has, add_all, join, Demand, every, met, clashes}
use Rattle.alc.specs.Seeds.{same}
use Rattle.alc.proofs.Theorems.Bits.{bit-ext}
use Rattle.alc.proofs.Theorems.Lists.{cases, clashing, tests_same, or_right, all-intro, all-elim}
use Rattle.alc.proofs.Theorems.Label.{has-blank, has_join}
use Rattle.alc.proofs.Theorems.Models.{no_both}
use Rattle.alc.proofs.Theorems.Moves.{add_all-has, add_all-cases}
use Rattle.alc.proofs.Theorems.Seeds.{same_true, same_refl}
use Rattle.plan.specs.declared.Plan.{Plan}
use Rattle.plan.specs.Prepared.{operand_set}
use Rattle.plan.specs.Plan.{plan_sheet}
use Rattle.plan.proofs.Lines.{lines_fit, and-inside, or-inside}
use Rattle.steps.specs.declared.step.Choice.{Choice}
use Rattle.steps.specs.Choice.{unmet, choice_of}

-- ---- marks that are all to be there
or-absorbed : (a b : Bool) → (b ≡ true → a ≡ true) → (a || b) ≡ a
or-absorbed true b k = refl
or-absorbed false true k = sym (k refl)
or-absorbed false false k = refl

-- marks that are there add nothing
adds-nothing : (l k : Label) → ((m : Mark) → has k m ≡ true → has l m ≡ true) → join l k ≡ l
adds-nothing l k h =
    let same-bits : (m : Mark) → has (join l k) m ≡ has l m = λ m. has_join l k m ∙ or-absorbed (has l m) (has k m) (h m) in
    let p = bit-ext (join l k).holding l.holding (λ i. same-bits (holds i)) in
    let q = bit-ext (join l k).failing l.failing (λ i. same-bits (fails i)) in
    λ i. record { holding = p i; failing = q i }

-- so the label with them is the label exactly where the demand is met
pub met-by-join : (l : Label) (ms : List Mark) → met l (every ms) ≡ same (join l (add_all blank ms)) l
met-by-join l ms =
    let k = add_all blank ms in
    tests_same (all (has l) ms) (same (join l k) l)
    (λ e. ap (λ (j : Label). same j l) (adds-nothing l k
    (λ m h. ⊎_elim (λ i. all-elim (has l) ms e m i) (λ b. clashing (has blank m) b (has-blank m)) (add_all-cases blank ms m h)))
    ∙ same_refl l)
    (λ e. all-intro (has l) ms
    (λ m i. ap (λ (j : Label). has j m) (sym (same_true (join l k) l e)) ∙ has_join l k m ∙ or_right (has l m) (has k m) (add_all-has blank ms m i)))

-- ---- the marks that a line demands, by its operands
abbrev pub all_hold : ℕ → Label
all_hold set = record { holding = set; failing = 0 }

abbrev pub all_fail : ℕ → Label
all_fail set = record { holding = 0; failing = set }

-- of a line c that demands the marks ms, where the code takes them from the set of its operands
pub by-operands : (l : Label) (demand : Line → Demand) (marks : ℕ → Label) (ms : List Mark) {c n : Line} {set : ℕ} {r : Maybe Choice} → demand c ≡ every ms
    → marks (operand_set c) ≡ add_all blank ms → c ≡ n → set ≡ operand_set n
    → ((ms : List Mark) → marks set ≡ add_all blank ms → r ≡ choice_of (first (unmet l) (every ms ∷ []))) → r ≡ choice_of (first (unmet l) (demand n ∷ []))
by-operands l demand marks ms e f is prepared answer =
    answer ms (ap marks (prepared ∙ ap operand_set (sym is)) ∙ f)
    ∙ ap (λ (d : Demand). choice_of (first (unmet l) (d ∷ []))) (sym e)
    ∙ ap (λ (n : Line). choice_of (first (unmet l) (demand n ∷ []))) is

-- the operands are lines, of which there are 32 at most
module _ (p : Plan) (i : ℕ) (b : i < count (plan_sheet p)) where
  pub line-fits : i < 32
  line-fits = omega (arith, lines_fit p)

  pub and-fits : {a d : ℕ} → and a d ≡ line (plan_sheet p) i → (a < 32) × (d < 32)
  and-fits e = let h = and-inside (plan_sheet p) p.prepared.well i b (sym e) in omega (arith, line-fits)

  pub or-fits : {a d : ℕ} → or a d ≡ line (plan_sheet p) i → (a < 32) × (d < 32)
  or-fits e = let h = or-inside (plan_sheet p) p.prepared.well i b (sym e) in omega (arith, line-fits)

-- ---- a label that does not clash has one mark of a line at most
pub held-only : (s : Sheet) (l : Label) (i : ℕ) → clashes s l ≡ false → i < count s → has l (holds i) ≡ true → has l (fails i) ≡ false
held-only s l i quiet b e = ⊎_elim (λ f. absurd (no_both s l quiet i b e f)) (λ f. f) (cases (has l (fails i)))
