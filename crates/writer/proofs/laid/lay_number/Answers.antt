-- Three ways out: one group, two, three.
use Rattle.std.proofs.Common.{ℕ, ◌+◌, ◌%◌, ◌/◌, ◌∷◌, [], arith, rules}
use Rattle.std.proofs.lemmas.List.{take_more_set, length-set}
use Rattle.alc.proofs.Theorems.Writing.{groups-one, groups-two, groups-three}
use Rattle.writer.proofs.Bytes.{byte-onward}
use Rattle.writer.proofs.laid.lay_number.Goals as goal

pub returns-then-n-lt128 : goal.returns-then-n-lt128
returns-then-n-lt128 c =
    (rw (groups-one c.args.n (omega arith)) (take_more_set _ _ _ (omega arith)), omega arith)

pub returns-then-n-lt16384 : goal.returns-then-n-lt16384
returns-then-n-lt16384 c =
    let first : ℕ = c.args.n % 128 + 128 in
    let one = take_more_set c.args.bytes.now c.args.at first (omega arith) in
    (rw (groups-two c.args.n (omega arith) (omega arith)) (byte-onward _ (first ∷ []) _ _ _ _ one (omega (arith, length-set {A = ℕ})) (omega arith)), omega arith)

pub returns : goal.returns
returns c =
    let first : ℕ = c.args.n % 128 + 128 in
    let second : ℕ = c.args.n / 128 % 128 + 128 in
    let one = take_more_set c.args.bytes.now c.args.at first (omega arith) in
    let two = byte-onward _ (first ∷ []) _ (c.args.at + 1) second (c.args.at + 2) one (omega (arith, length-set {A = ℕ})) (omega arith) in (
      rw (groups-three c.args.n (omega arith) (search rules))
          (byte-onward _ (first ∷ second ∷ []) _ _ _ _ two (omega (arith, length-set {A = ℕ})) (omega arith)),
      omega arith,
    )
