-- A section by its kind: each entry is what its closure reads.
use Rattle.std.proofs.Common.{rules, of_calls}
use Rattle.reader.specs.Parts.{section_at}
use Rattle.reader.proofs.Entries.{rule_by_pair, class_by_pair}
use Rattle.reader.proofs.sections.fill_section.Goals as goal

pub returns-in-Lines : goal.returns-in-Lines
unfolding section_at
returns-in-Lines c = rw c.in-Lines.is (c.read_counted.ensures _ (λ p i r e. search (rules, of_calls)))

pub returns-in-Rules : goal.returns-in-Rules
unfolding section_at
returns-in-Rules c = rw c.in-Rules.is (c.read_counted-in-Rules.ensures _ (λ p i r e. search (rules, of_calls, rule_by_pair)))

pub returns-in-Classes : goal.returns-in-Classes
unfolding section_at
returns-in-Classes c = rw c.in-Classes.is (c.read_counted-in-Classes.ensures _ (λ p i r e. search (rules, of_calls, class_by_pair)))

pub returns-in-Roles : goal.returns-in-Roles
unfolding section_at
returns-in-Roles c = rw c.in-Roles.is (c.read_counted-in-Roles.ensures _ (λ p i r e. search (rules, of_calls)))
