-- `edges::recorded::Recorded::element`: a seed's place behind the individuals.
use Rattle.std.proofs.Common.{ℕ, ◌≡◌, ◌≤◌, ◌+◌, ap, ◌∙◌, arith}
use Rattle.std.specs.Option.{unwrap_or}
use Rattle.std.specs.Prelude.{Option as Maybe}
use Rattle.tableau.specs.Records.{word_of, found_at, found}
use Rattle.edges.proofs.Keyed.{found_place}
use Rattle.edges.proofs.recorded.Recorded.element.Goals as goal
use Rattle.edges.proofs.recorded.Recorded.element.Goals.{After-unwrap_or}

place : (c : After-unwrap_or) → c.unwrap_or.result ≡ found_at c.args.self.now.records.now c.args.self.now.seeds (word_of c.args.seed)
place c =
    let r = c.args.self.now in
    c.unwrap_or.ensures
    ∙ ap (λ (o : Maybe ℕ). unwrap_or o r.seeds) (c.find.ensures ∙ ap (found r.records.now r.seeds) c.word_of.ensures)
    ∙ (found_place r.records.now r.seeds (word_of c.args.seed) r.fits).0

within : (c : After-unwrap_or) → c.unwrap_or.result ≤ c.args.self.now.seeds
within c = let r = c.args.self.now in omega (arith, place c, (found_place r.records.now r.seeds (word_of c.args.seed) r.fits).1)

pub returns : goal.returns
returns c =
    let r = c.args.self.now in
    (ap (λ (n : ℕ). r.first + n) (place (goal.at.returns c).After-unwrap_or), omega (arith, within (goal.at.returns c).After-unwrap_or, r.few, r.behind))
