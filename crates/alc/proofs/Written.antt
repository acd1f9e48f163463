-- The writer on a few lists of numbers, with whole replies: one table, one theorem, by computation. Document 02, request 01.
use Rattle.std.specs.Prelude.{ℕ, ◌≡◌, refl, List, [], ◌∷◌, ◌++◌, map}
use Rattle.alc.specs.Writing.{groups, bytes_for, Wrote, write_reply}
use Rattle.alc.proofs.Bench.{computing, P1, P6}

pub record WriteRow : Type 0 where
  pub numbers : List ℕ
  pub buffer : List ℕ
  pub expected : Wrote

abbrev writes : List ℕ → List ℕ → ℕ → ℕ → List ℕ → WriteRow
writes ns buf n v out = record { numbers = ns; buffer = buf; expected = record { number = n; carries = v; out = out } }

-- what the buffer holds before
abbrev rubbish : List ℕ
rubbish = 71 ∷ 72 ∷ 73 ∷ 74 ∷ 75 ∷ 76 ∷ 77 ∷ []

abbrev keeps : List ℕ → ℕ → ℕ → WriteRow
keeps ns n v = writes ns rubbish n v rubbish

pub write_rows : List WriteRow
write_rows =
    -- the empty sheet: longer buffer, exact fit, one byte too few, none at all
    writes P1 rubbish 0 5 (0 ∷ 0 ∷ 0 ∷ 0 ∷ 0 ∷ 76 ∷ 77 ∷ [])
    ∷ writes P1 (71 ∷ 72 ∷ 73 ∷ 74 ∷ 75 ∷ []) 0 5 (0 ∷ 0 ∷ 0 ∷ 0 ∷ 0 ∷ [])
    ∷ writes P1 (71 ∷ 72 ∷ 73 ∷ 74 ∷ []) 16 5 (71 ∷ 72 ∷ 73 ∷ 74 ∷ [])
    ∷ writes P1 [] 16 5 []
    ∷ keeps P6 16 31
    -- too few numbers, and too many
    ∷ keeps [] 1 0
    ∷ keeps (0 ∷ 0 ∷ 0 ∷ 0 ∷ []) 1 4
    ∷ keeps (P1 ++ (0 ∷ [])) 6 5
    ∷ keeps (P1 ++ (65535 ∷ [])) 6 5
    -- two groups are over every limit; a third group is badly formed, whatever the value; each behind as many bytes as stand before it
    ∷ keeps (127 ∷ []) 3 0
    ∷ keeps (128 ∷ []) 3 0
    ∷ keeps (16383 ∷ []) 3 0
    ∷ keeps (16384 ∷ []) 2 0
    ∷ keeps (65535 ∷ []) 2 0
    ∷ keeps (1 ∷ 300 ∷ []) 4 1
    ∷ keeps (1 ∷ 20000 ∷ []) 2 1
    ∷ keeps (1 ∷ 2 ∷ 128 ∷ []) 4 2
    ∷ keeps (1 ∷ 2 ∷ 16384 ∷ []) 2 2
    ∷ keeps (2 ∷ 0 ∷ 4 ∷ 0 ∷ 200 ∷ []) 5 4
    ∷ keeps (1 ∷ 0 ∷ 1 ∷ 0 ∷ 65535 ∷ []) 2 4
    ∷ keeps (0 ∷ 0 ∷ 9 ∷ []) 3 2
    ∷ keeps (0 ∷ 0 ∷ 1 ∷ 0 ∷ 1 ∷ 7 ∷ 0 ∷ 1 ∷ []) 5 7
    -- a count over its limit answers before its entries, a kind before its operands, and a limit before the length
    ∷ keeps (33 ∷ 65535 ∷ []) 3 0
    ∷ keeps (1 ∷ 8 ∷ 65535 ∷ []) 4 1
    ∷ writes (1 ∷ 2 ∷ 32 ∷ 0 ∷ 0 ∷ 0 ∷ 0 ∷ []) [] 4 2 []
    ∷ []

pub written : map (λ (r : WriteRow). write_reply r.numbers r.buffer) write_rows ≡ map (λ (r : WriteRow). r.expected) write_rows
unfolding write_rows groups bytes_for write_reply P1 P6 computing
written = refl
