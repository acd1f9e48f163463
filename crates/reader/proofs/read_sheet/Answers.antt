-- The whole sheet: each way out is that of `by_sections`.
use Rattle.std.specs.Prelude.{◌≡◌}
use Rattle.std.proofs.Common.{rules, tests}
use Rattle.sheet.specs.declared.Kind.TheVariants.{Lines, Rules, Classes, Roles}
use Rattle.reader.specs.Parts.{filled}
use Rattle.reader.proofs.Sheets.{form_at, by_sections, kept}
use Rattle.reader.proofs.read_sheet.Goals as goal
use Rattle.reader.proofs.read_sheet.Goals.{After-fill_section, After-fill_section-2, After-fill_section-3, After-fill_section-4}

lines_read : (d : After-fill_section) → filled d.fill_section.result d.fill_section.new.section ≡ form_at Lines d.args.s.now 0 0 0
unfolding form_at
lines_read d = d.fill_section.ensures

rules_read : (d : After-fill_section-2)
    → filled d.fill_section-2.result d.fill_section-2.new.section ≡ form_at Rules d.args.s.now d.fill_section.new.section.count 0 d.in_ok-p.p
unfolding form_at
rules_read d = d.fill_section-2.ensures

classes_read : (d : After-fill_section-3)
    → filled d.fill_section-3.result d.fill_section-3.new.section ≡ form_at Classes d.args.s.now d.fill_section.new.section.count d.in_ok-individuals.individuals d.in_ok-individuals.t
unfolding form_at
classes_read d = d.fill_section-3.ensures

roles_read : (d : After-fill_section-4)
    → filled d.fill_section-4.result d.fill_section-4.new.section ≡ form_at Roles d.args.s.now d.fill_section.new.section.count d.in_ok-individuals.individuals d.in_ok-u.u
unfolding form_at
roles_read d = d.fill_section-4.ensures

pub returns-in_err-p : goal.returns-in_err-p
returns-in_err-p c = kept _ _ 0 (rw by_sections (let l = lines_read (goal.at.returns-in_err-p c).After-fill_section in search (rules, tests)))

pub returns-in_err-q : goal.returns-in_err-q
returns-in_err-q c = kept _ _ 0 (rw by_sections (
    let l = lines_read (goal.at.returns-in_err-q c).After-fill_section in
    let r = rules_read (goal.at.returns-in_err-q c).After-fill_section-2 in search (rules, tests)))

pub returns-in_err-individuals : goal.returns-in_err-individuals
returns-in_err-individuals c = kept _ _ 0 (rw by_sections (
    let l = lines_read (goal.at.returns-in_err-individuals c).After-fill_section in
    let r = rules_read (goal.at.returns-in_err-individuals c).After-fill_section-2 in search (rules, tests)))

pub returns-in_err-u : goal.returns-in_err-u
returns-in_err-u c = kept _ _ 0 (rw by_sections (
    let l = lines_read (goal.at.returns-in_err-u c).After-fill_section in
    let r = rules_read (goal.at.returns-in_err-u c).After-fill_section-2 in
    let k = classes_read (goal.at.returns-in_err-u c).After-fill_section-3 in search (rules, tests)))

pub returns-in_err-v : goal.returns-in_err-v
returns-in_err-v c = kept _ _ 0 (rw by_sections (
    let l = lines_read (goal.at.returns-in_err-v c).After-fill_section in
    let r = rules_read (goal.at.returns-in_err-v c).After-fill_section-2 in
    let k = classes_read (goal.at.returns-in_err-v c).After-fill_section-3 in
    let e = roles_read (goal.at.returns-in_err-v c).After-fill_section-4 in search (rules, tests)))

pub returns-then-v-s : goal.returns-then-v-s
returns-then-v-s c = kept _ _ 0 (rw by_sections (
    let l = lines_read (goal.at.returns-then-v-s c).After-fill_section in
    let r = rules_read (goal.at.returns-then-v-s c).After-fill_section-2 in
    let k = classes_read (goal.at.returns-then-v-s c).After-fill_section-3 in
    let e = roles_read (goal.at.returns-then-v-s c).After-fill_section-4 in search (rules, tests)))

pub returns : goal.returns
returns c = kept _ _ c.in_ok-v.v (rw by_sections (
    let l = lines_read (goal.at.returns c).After-fill_section in
    let r = rules_read (goal.at.returns c).After-fill_section-2 in
    let k = classes_read (goal.at.returns c).After-fill_section-3 in
    let e = roles_read (goal.at.returns c).After-fill_section-4 in search (rules, tests)))
