-- The plan of an accepted sheet: its limits bound the loops, and each set and row is what is to be prepared.
use Rattle.std.specs.Prelude.{◌≤◌, ◌<◌, ℕ, ◌≡◌, refl, true}
use Rattle.std.proofs.Common.{rules, arith, sym, ◌∙◌, ap}
use Rattle.alc.specs.Sheet.{count, in_limits, well_formed, line, operands_below}
use Rattle.alc.specs.Seeds.{is_quantified}
use Rattle.sheet.specs.declared.Sheet.{Sheet as Form}
use Rattle.sheet.specs.Form.{entry_of, line_of, sheet_of}
use Rattle.plan.specs.Prepared.{is_working, operand_set}
use Rattle.plan.proofs.Lines.{few, line-count, line-is, operands-smaller, operands-further}
use Rattle.plan.proofs.Masks.{told-lines}
use Rattle.plan.proofs.prepare.Goals as goal

lines-few : (f : Form) → in_limits (sheet_of f) ≡ true → f.lines.count ≤ 32
lines-few f l = omega (arith, line-count f, (few l).lines)

-- the operands of an entry are lines
entries-well : (f : Form) → well_formed (sheet_of f) ≡ true → in_limits (sheet_of f) ≡ true → (i : ℕ) → i < f.lines.count → operands_below 32 (line_of (entry_of f.lines i)) ≡ true
entries-well f w l i b =
    let b' : i < count (sheet_of f) = omega (arith, line-count f, b) in
    rw (← line-is f i b') (operands-further i 32 (omega (arith, b, lines-few f l)) (line (sheet_of f) i) (operands-smaller (sheet_of f) w i b'))

pub lines_where-working_set-requires : goal.lines_where-working_set-requires
lines_where-working_set-requires c = let l = lines-few c.args.sheet c.requires.1 in search rules

pub lines_where-asking_set-requires : goal.lines_where-asking_set-requires
lines_where-asking_set-requires c = let l = lines-few c.args.sheet c.requires.1 in search rules

pub operand_sets-operand_sets-requires : goal.operand_sets-operand_sets-requires
operand_sets-operand_sets-requires c = (lines-few c.args.sheet c.requires.1, entries-well c.args.sheet c.requires.0 c.requires.1)

pub masks_of-masks-requires : goal.masks_of-masks-requires
masks_of-masks-requires c = lines-few c.args.sheet c.requires.1

pub invariant_of-result : goal.invariant_of-result
invariant_of-result c =
    let f = c.args.sheet in
    record {
      prepared = record {
        well = c.requires.0;
        limited = c.requires.1;
        working = told-lines f is_working refl c.lines_where-working_set.result (λ i b. search rules) (λ i. (c.lines_where-working_set.ensures i).1);
        asking = told-lines f is_quantified refl c.lines_where-asking_set.result (λ i b. search rules) (λ i. (c.lines_where-asking_set.ensures i).1);
        operands = λ i b. c.operand_sets-operand_sets.ensures i (omega (arith, line-count f, b)) ∙ sym (ap operand_set (line-is f i b));
        masks = c.masks_of-masks.ensures;
      };
    }
