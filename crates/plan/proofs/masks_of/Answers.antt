-- The masks: each set by what its test says of the entries.
use Rattle.std.specs.Prelude.{ℕ, ◌<◌, ◌≤◌, ◌≡◌, true, get_or, ltb}
use Rattle.std.proofs.Common.{rules, arith, ◌∙◌}
use Rattle.alc.specs.Bits.{bit}
use Rattle.alc.specs.Sheet.{line, count}
use Rattle.alc.specs.Label.{is_top, is_bottom, same_name}
use Rattle.sheet.specs.Form.{sheet_of}
use Rattle.plan.proofs.Lines.{line-count, and-true}
use Rattle.plan.proofs.Masks.{told-inside, group-is, shares_at, told-shares}
use Rattle.plan.proofs.masks_of.Goals as goal

pub returns : goal.returns
returns c =
    let f = c.args.sheet.now in
    let s = sheet_of f in
    let n = line-count f in
    let few : count s ≤ 32 = omega (arith, n, c.requires) in
    let groups : (i j : ℕ) → i < count s → bit (get_or c.groups-groups.result i 0) j ≡ same_name (line s i) (line s j) =
    λ i j b. group-is f i (get_or c.groups-groups.result i 0) b (c.groups-groups.ensures i (omega (arith, n, b))) j in
    let shared : (i : ℕ) → i < f.lines.count → bit c.lines_where-4.result i ≡ shares_at s few c.groups-groups.result groups i = λ i b. search rules in
    record {
      lines = λ i. told-inside f (λ l. true) c.lines_where.result (λ i b. search rules) (λ i. (c.lines_where.ensures i).1) i ∙ and-true (ltb i (count s));
      bottoms = told-inside f is_bottom c.lines_where-2.result (λ i b. search rules) (λ i. (c.lines_where-2.ensures i).1);
      tops = told-inside f is_top c.lines_where-3.result (λ i b. search rules) (λ i. (c.lines_where-3.ensures i).1);
      shared = told-shares s few c.groups-groups.result groups c.lines_where-4.result
          (λ i b. shared i (omega (arith, n, b))) (λ i b. (c.lines_where-4.ensures i).1 (omega (arith, n, b)));
      groups = groups;
    }
