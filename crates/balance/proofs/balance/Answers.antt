-- The balance: each way out is a case of alc's `balance_reply`.
use mathlib.Core.Path.{ap, ◌∙◌}
use Prim.Native.Nat.{ℕ, ◌*◌, ◌-◌, ◌^◌}
use Rattle.std.proofs.Common.{rules, tests}
use lib.IntN.{pos, ◌-ℤ◌}
use mir.Syntax.{w64}
use mir.ValLaws.{to_z-of_z}
use borrow.Author.Tests.{lt-ltb, le-ltb}
use Rattle.alc.specs.Seeds.{bound}
use Rattle.alc.specs.Replies.{Balance, left, most_records, balance_reply}
use Rattle.alc.proofs.Theorems.Promises.{balance-kept}
use Rattle.reader.proofs.Theorems.{read-counts}
use Rattle.balance.proofs.balance.Goals as goal

pub returns-then-room-gt4096 : goal.returns-then-room-gt4096
unfolding balance_reply
returns-then-room-gt4096 c = balance-kept _ _ (rw (lt-ltb most_records _ c.if-room-gt4096.true, balance_reply))

pub quantifiers-requires : goal.quantifiers-requires
quantifiers-requires c = (read-counts _ _ c.read_sheet.ensures _ c.in_ok-form.was).lines

pub returns-in_err-form : goal.returns-in_err-form
unfolding balance_reply
returns-in_err-form c =
    balance-kept _ _ (rw (le-ltb most_records _ c.if-room-gt4096.false, ← c.in_err-form.ensures.exact, balance_reply) (search (rules, tests)))

pub returns : goal.returns
unfolding balance_reply bound
returns c =
    let bounded = c.worst_of.ensures.0 ∙ ap (λ (e : ℕ). e * 2 ^ (e - 1)) c.quantifiers.ensures.0 in
    let exact = to_z-of_z w64 c.left_over.result (record { sfits = c.left_over.type_inv }) in
    balance-kept _ _ (rw (exact, le-ltb most_records _ c.if-room-gt4096.false, ← c.in_ok-form.ensures.exact, balance_reply)
    (ap {B = Balance} left (c.left_over.ensures ∙ ap (λ (n : ℕ). pos c.args.room -ℤ pos n) bounded)))
