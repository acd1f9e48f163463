-- Reading an entry: the numbers that the code reads are those of alc's lines, rules and assertions. Assumes nothing.
use Rattle.std.specs.Prelude.{◌≡◌, refl, List}
use Rattle.std.proofs.Common.{sym, arith}
use Prim.Native.Nat.{ℕ, zero, suc, ◌<◌}
use Rattle.alc.specs.Bytes.{Read, taken, then, below_at, operands_at, rule_at, class_at}
use Rattle.sheet.specs.declared.Reason.{Reason}
use Rattle.sheet.specs.declared.Entry.{Entry as Triple}
use Rattle.sheet.specs.Form.{operand_count, triple, line_triple, rule_triple, class_triple, reason_number}
use Rattle.numbers.proofs.Reading.{given, below-gives}
use Rattle.reader.specs.Parts.{first_operand, reading, pair_at}
use Rattle.reader.proofs.Reading.{then-then}

-- a number that was read is below its limit
pub below_limit : (bs : List ℕ) (n why p v q : ℕ) → taken v q ≡ below_at bs n why p → v < n
below_limit bs n why p v q e = (given (below-gives bs n why p) (sym e)).0

-- a line of kind k from its operands, so many of them
abbrev pub operands_by : ℕ → ℕ × Reason → List ℕ → ℕ → ℕ → ℕ → Read Triple
operands_by zero f bs own k p = taken (triple k 0 0) p
operands_by (suc zero) f bs own k p = then (below_at bs f.0 (reason_number f.1) p) (λ a q. taken (triple k a 0) q)
operands_by (suc (suc c)) f bs own k p =
    then (below_at bs f.0 (reason_number f.1) p) (λ a q. then (below_at bs own 5 q) (λ b t. taken (triple k a b) t))

-- the table's count, and what the first operand may be, say what `operands_at` says by kinds
pub operands_by_count : (bs : List ℕ) (own k p : ℕ) → k < 8 → reading line_triple (operands_at bs own k p) ≡ operands_by (operand_count k) (first_operand k own) bs own k p
unfolding operands_at
operands_by_count bs own zero p h = refl
operands_by_count bs own (suc zero) p h = refl
operands_by_count bs own (suc (suc zero)) p h = simp then-then
operands_by_count bs own (suc (suc (suc zero))) p h = simp then-then
operands_by_count bs own (suc (suc (suc (suc zero)))) p h = simp then-then
operands_by_count bs own (suc (suc (suc (suc (suc zero))))) p h = simp then-then
operands_by_count bs own (suc (suc (suc (suc (suc (suc zero)))))) p h = simp then-then
operands_by_count bs own (suc (suc (suc (suc (suc (suc (suc zero))))))) p h = simp then-then
operands_by_count bs own (suc (suc (suc (suc (suc (suc (suc (suc k)))))))) p h = absurd (omega arith)

-- ---- rules and class assertions are pairs
pub rule_by_pair : (bs : List ℕ) (n i p : ℕ) → reading rule_triple (rule_at bs n i p) ≡ pair_at bs n n p
unfolding rule_at pair_at
rule_by_pair bs n i p = simp then-then

pub class_by_pair : (bs : List ℕ) (n k i p : ℕ) → reading class_triple (class_at bs n k i p) ≡ pair_at bs k n p
unfolding class_at pair_at
class_by_pair bs n k i p = simp then-then
