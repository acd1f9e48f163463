-- `list::part_forces`: each member is taken out of the set once, and its flag looked up.
use Rattle.std.specs.Prelude.{ℕ, ◌≡◌, ◌<◌, ◌≤◌, ◌*◌, ◌%◌, ◌^◌, ◌-◌, false, refl, get_or}
use Rattle.std.proofs.Common.{sym, ◌∙◌, ap, arith}
use Rattle.alc.proofs.Theorems.Bits.{bit_le}
use Rattle.alc.proofs.Theorems.Members.{member-below}
use Rattle.plan.proofs.Walking.{each-next, each-rest}
use Rattle.sets.proofs.Listing.{one_shifted, members-are, less_forces, any-here, any-later}
use Rattle.sets.proofs.list.part_forces.Goals as goal
use Rattle.sets.proofs.list.part_forces.Goals.{In-Some}

inside : (c : In-Some) → c.in-Some.i < 32
inside c = member-below _ c.in-Some.ensures.steps

shifted : (c : In-Some) → 1 * 2 ^ c.in-Some.i % 4294967296 ≡ 2 ^ c.in-Some.i
shifted c = one_shifted c.in-Some.i (inside c)

worth : (c : In-Some) → 1 * 2 ^ c.in-Some.i % 4294967296 ≤ c.args.set
worth c = rw (shifted c) (bit_le c.args.set c.in-Some.i (each-next c.in-Some.ensures.steps c.loop-i.invariant.1))

-- the flag that is looked up
flag : (c : In-Some) → get_or c.args.flags.now (c.args.set - 1 * 2 ^ c.in-Some.i % 4294967296) false ≡ less_forces c.args.flags.now c.args.set c.in-Some.i
flag c = ap (λ (x : ℕ). get_or c.args.flags.now (c.args.set - x) false) (shifted c)

pub loop-i-init : goal.loop-i-init
loop-i-init c = rw (c.into_iter-i-iterator.ensures.into_iter_gives, c.of-i-items.ensures) (refl, members-are c.args.set)

pub overflow_cast-less : goal.overflow_cast-less
overflow_cast-less c = omega (arith, inside c)

pub overflow_shl-less : goal.overflow_shl-less
overflow_shl-less c = inside c

pub overflow_sub-less : goal.overflow_sub-less
overflow_sub-less c = worth c

pub returns-then-flags-less : goal.returns-then-flags-less
returns-then-flags-less c =
    let at = (goal.at.returns-then-flags-less c).In-Some in
    sym (any-here (less_forces c.args.flags.now c.args.set) c.in-Some.ensures.steps (sym (flag at) ∙ c.if-flags-less.true)) ∙ c.loop-i.invariant.0

pub loop-i-preserved : goal.loop-i-preserved
loop-i-preserved c =
    let at = (goal.at.loop-i-preserved c).In-Some in (
      any-later (less_forces c.args.flags.now c.args.set) c.in-Some.ensures.steps (sym (flag at) ∙ c.if-flags-less.false) ∙ c.loop-i.invariant.0,
      each-rest c.in-Some.ensures.steps c.loop-i.invariant.1,
    )
