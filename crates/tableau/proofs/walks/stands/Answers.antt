-- `walks::stands`: the seed stands where its word is found and the mark there is 0.
use Rattle.std.proofs.Common.{◌≡◌, ◌<◌, ap, sym, ◌∙◌, arith, rules}
use Rattle.tableau.specs.Records.{word_of, found}
use Rattle.tableau.proofs.Buffers.{found-some, stands-at, stands-not}
use Rattle.tableau.proofs.walks.stands.Goals as goal
use Rattle.tableau.proofs.walks.stands.Goals.{After-find}

fits : (c : After-find) → c.args.seed.holding < 4294967296
fits c = search rules

looked : (c : After-find) → c.find.result ≡ found c.args.records.now c.args.used (word_of c.args.seed)
looked c = c.find.ensures ∙ ap (found c.args.records.now c.args.used) c.word_of.ensures

pub bounds-marks-at : goal.bounds-marks-at
bounds-marks-at c =
    omega (arith, (found-some c.args.records.now _ c.args.used c.requires.enough c.in-Some.at (sym (looked (goal.at.bounds-marks-at c).After-find) ∙ c.in-Some.is)).1, c.requires.marked)

pub returns-in-Some : goal.returns-in-Some
returns-in-Some c = stands-at c.requires c.args.seed (fits (goal.at.returns-in-Some c).After-find) c.in-Some.at (sym (looked (goal.at.returns-in-Some c).After-find) ∙ c.in-Some.is)

pub returns-in-None : goal.returns-in-None
returns-in-None c = stands-not c.requires c.args.seed (fits (goal.at.returns-in-None c).After-find) (sym (looked (goal.at.returns-in-None c).After-find) ∙ c.in-None.is)
