-- `edges::keys::Edges::with`: what is laid, and the key in hand among what is left, is the whole.
use Rattle.std.proofs.Common.{◌≡◌, ◌+◌, ◌<◌, length, take, set, sym, ap, subst, ◌∙◌, arith}
use Rattle.std.proofs.Math.Seq.{length-take-le}
use Rattle.alc.specs.Lists.{Ascending}
use Rattle.edges.specs.Keys.{insert_key}
use Rattle.edges.proofs.Keyed.{ascending-of, rises-as, shifting, shifted, shift-there, shift-on, shift-here}
use Rattle.edges.proofs.keys.Edges.with.Goals as goal
use Rattle.edges.proofs.keys.Edges.with.Goals.{After-as_slice-here-items, Then-here-more, After-loop-i, then-more-here, else-more-here}

-- there are 48 places, and as many keys as are counted
room : (c : After-as_slice-here-items) → c.args.self.count < length c.args.self.keys
room c = omega arith

long : (c : After-as_slice-here-items) → length c.as_slice-here-items.result.now ≡ c.args.self.count
long c = ap length c.as_slice-here-items.ensures ∙ length-take-le c.args.self.count c.args.self.keys (omega (arith, room c))

rises : (c : After-as_slice-here-items) → Ascending c.as_slice-here-items.result.now
rises c = subst Ascending (sym c.as_slice-here-items.ensures) (ascending-of (take c.args.self.count c.args.self.keys) c.args.self.sorted)

pub loop-i-init : goal.loop-i-init
loop-i-init c = shifting c.args.key c.as_slice-here-items.result.now c.args.self.keys c.args.self.count c.as_slice-here-items.ensures (room c) (rises c)

-- the key was there
there : (c : Then-here-more) → take c.args.self.count c.loop-i.keys ≡ insert_key c.args.key c.as_slice-here-items.result.now
there c =
    shift-there c.loop-i.invariant c.loop-i-test.true c.if-here-more.true c.args.self.count (sym (long (goal.at.Then-here-more c).After-as_slice-here-items))

pub invariant_of-result : goal.invariant_of-result
invariant_of-result c =
    record { few = c.args.self.few; sorted = rises-as c.args.key c.as_slice-here-items.result.now _ (rises (goal.at.invariant_of-result c).After-as_slice-here-items) (there c) }

pub returns-then-here-more : goal.returns-then-here-more
returns-then-here-more c =
    (there (goal.at.returns-then-here-more c).Then-here-more ∙ ap (insert_key c.args.key) c.as_slice-here-items.ensures, omega arith)

pub loop-i-preserved : goal.loop-i-preserved
loop-i-preserved c = elim c.if-more-here.branch [
  | then-more-here w ↦ rw (w.keys-is, w.more-is) (shift-here c.loop-i.invariant c.loop-i-test.true w.if-more-here.true)
  | else-more-here w ↦ rw (w.keys-is, w.more-is) (shift-on c.loop-i.invariant c.loop-i-test.true c.if-here-more.false w.if-more-here.false)
]

-- it is one more
more : (c : After-loop-i) → take (c.args.self.count + 1) (set c.loop-i.keys c.args.self.count c.loop-i.more) ≡ insert_key c.args.key c.as_slice-here-items.result.now
more c = shifted c.loop-i.invariant (omega arith) c.args.self.count (sym (long (goal.at.After-loop-i c).After-as_slice-here-items))

pub invariant_of-result-2 : goal.invariant_of-result-2
invariant_of-result-2 c =
    record { few = omega arith; sorted = rises-as c.args.key c.as_slice-here-items.result.now _ (rises (goal.at.invariant_of-result-2 c).After-as_slice-here-items) (more c) }
