-- What P1 to P11 leave open: sheets that tell the readings in force from others, every limit at and over its edge, every fault and its place,
-- buffers too short, queries off the sheet, and balances around zero. A second table under a second theorem, by computation.
use Rattle.std.specs.Prelude.{ℕ, zero, suc, ◌≡◌, refl, List, [], ◌∷◌, ◌++◌, map, length, replicate, pos, negsuc}
use Rattle.alc.specs.Lists.{each}
use Rattle.alc.specs.Replies.{Balance, faulty, left, balance_reply}
use Rattle.alc.proofs.Bench.{Query, judged, caused, lending, Row, ends, answers, expectations, computing, P1, P5, P6, P9, P11, lent_to}

-- a sheet, the records that it needs, and its answer with exactly those; with one record less it is 13
pub record Witness : Type 0 where
  pub bytes : List ℕ
  pub need : ℕ
  pub number : ℕ
  pub words : List ℕ

abbrev less : List ℕ → ℕ → List Row
less bs zero = []
less bs (suc k) = ends bs (judged (lending k 1)) 13 0 (0 ∷ []) ∷ []

abbrev shown : Witness → List Row
shown w = ends w.bytes (judged (lending w.need (length w.words))) w.number (length w.words) w.words ∷ less w.bytes w.need

abbrev tells : List ℕ → ℕ → ℕ → List ℕ → Witness
tells bs k n ws = record { bytes = bs; need = k; number = n; words = ws }

-- Each with its short name, the reading that holds and in brackets one that does not and answers otherwise, and the sheet in words: lines from 0 on,
-- named by their numbers; 3(a) is line 3 asserted of a
pub witnesses : List Witness
witnesses =
    -- open splits. Holds: the second branch of a split does not deny the first (no exclusive splits).
    -- Sheet: lines top, top, A, 2 or 1; rule 3 ⊑ 0; nobody
    tells (4 ∷ 0 ∷ 0 ∷ 2 ∷ 0 ∷ 5 ∷ 2 ∷ 1 ∷ 1 ∷ 3 ∷ 0 ∷ 0 ∷ 0 ∷ 0 ∷ []) 0 10 (1 ∷ 0 ∷ 0 ∷ [])
    -- marks of lines. Holds: a step looks at the marks of the lines it names (not at other lines of the same name).
    -- Sheet: lines A, A, only 0 1; rule 2 ⊑ 0; a, b; 1(b)
    ∷ tells (3 ∷ 2 ∷ 0 ∷ 2 ∷ 0 ∷ 7 ∷ 0 ∷ 1 ∷ 1 ∷ 2 ∷ 0 ∷ 2 ∷ 1 ∷ 1 ∷ 1 ∷ 0 ∷ []) 1 10 (3 ∷ 0 ∷ 1 ∷ 0 ∷ 3 ∷ 0 ∷ 0 ∷ 2 ∷ 1 ∷ 0 ∷ 2 ∷ 2 ∷ 0 ∷ 2 ∷ [])
    -- line by line. Holds: lines are taken one by one, whatever their kind (not one bullet of the paper after another).
    -- Sheet: lines A, B, 1 or 0, not 0, not 3, some 7 2, only 7 4; a; 5(a), 6(a)
    ∷ tells (7 ∷ 2 ∷ 0 ∷ 2 ∷ 1 ∷ 5 ∷ 1 ∷ 0 ∷ 3 ∷ 0 ∷ 3 ∷ 3 ∷ 6 ∷ 7 ∷ 2 ∷ 7 ∷ 7 ∷ 4 ∷ 0 ∷ 1 ∷ 2 ∷ 0 ∷ 5 ∷ 0 ∷ 6 ∷ 0 ∷ []) 1 10 (2 ∷ 0 ∷ 3 ∷ 1 ∷ 0 ∷ 7 ∷ 1 ∷ [])
    -- holds and fails of a line. Holds: at each line holds, then fails (not all holds, then all fails), and after each step from the first line again (not on
    -- from there).
    -- Sheet: lines A, B, C, 0 and 1, not 3, 0 or 2; a; 4(a), 5(a)
    ∷ tells (6 ∷ 2 ∷ 0 ∷ 2 ∷ 1 ∷ 2 ∷ 2 ∷ 4 ∷ 0 ∷ 1 ∷ 3 ∷ 3 ∷ 5 ∷ 0 ∷ 2 ∷ 0 ∷ 1 ∷ 2 ∷ 0 ∷ 4 ∷ 0 ∷ 5 ∷ 0 ∷ []) 0 10 (1 ∷ 4 ∷ 0 ∷ [])
    -- lowest line. Holds: lines ascending (not descending).
    -- Sheet: lines B, C, not 1, 2 or 1, 1 or 0; a; 3(a), 4(a)
    ∷ tells (5 ∷ 2 ∷ 1 ∷ 2 ∷ 2 ∷ 3 ∷ 1 ∷ 5 ∷ 2 ∷ 1 ∷ 5 ∷ 1 ∷ 0 ∷ 0 ∷ 1 ∷ 2 ∷ 0 ∷ 3 ∷ 0 ∷ 4 ∷ 0 ∷ []) 0 10 (1 ∷ 2 ∷ 0 ∷ [])
    -- lines before rules. Holds: an individual's rules come behind its lines (not before).
    -- Sheet: lines A, top, 0 or 1; rule 0 ⊑ 0; a, b, c; 2(b)
    ∷ tells (3 ∷ 2 ∷ 0 ∷ 0 ∷ 5 ∷ 0 ∷ 1 ∷ 1 ∷ 0 ∷ 0 ∷ 3 ∷ 1 ∷ 1 ∷ 2 ∷ 0 ∷ []) 0 10 (3 ∷ 0 ∷ 1 ∷ 0 ∷ 0 ∷ [])
    -- rules in order. Holds: rules in the order of the sheet (not in reverse).
    -- Sheet: lines A, top, 0 or 1; rules 2 ⊑ 1, 2 ⊑ 2; a, b, c
    ∷ tells (3 ∷ 2 ∷ 0 ∷ 0 ∷ 5 ∷ 0 ∷ 1 ∷ 2 ∷ 2 ∷ 1 ∷ 2 ∷ 2 ∷ 3 ∷ 0 ∷ 0 ∷ []) 0 10 (3 ∷ 0 ∷ 0 ∷ 0 ∷ 0 ∷ [])
    -- first branch. Holds: c fails is tried before d holds (not the second branch first).
    -- Sheet: lines L; rule 0 ⊑ 0; a, b, c, d
    ∷ tells (1 ∷ 2 ∷ 11 ∷ 1 ∷ 0 ∷ 0 ∷ 4 ∷ 0 ∷ 0 ∷ []) 0 10 (4 ∷ 0 ∷ 0 ∷ 0 ∷ 0 ∷ 0 ∷ [])
    -- rule c ⊑ c. Holds: a rule c ⊑ c splits as any other (it is not skipped).
    -- Sheet: lines bottom, only 3 0; rule 1 ⊑ 1; nobody
    ∷ tells (2 ∷ 1 ∷ 7 ∷ 3 ∷ 0 ∷ 1 ∷ 1 ∷ 1 ∷ 0 ∷ 0 ∷ 0 ∷ []) 1 10 (2 ∷ 0 ∷ 0 ∷ 2 ∷ 0 ∷ 3 ∷ 1 ∷ 1 ∷ 3 ∷ 1 ∷ [])
    -- both hold. Holds: both operands are added in one step (not the first alone, nor the second alone, and then from the first line again).
    -- Sheet: lines A, B, 1 or 0, 2 and 0, 0 and 2; a, b; 3(a), 4(b)
    ∷ tells (5 ∷ 2 ∷ 0 ∷ 2 ∷ 1 ∷ 5 ∷ 1 ∷ 0 ∷ 4 ∷ 2 ∷ 0 ∷ 4 ∷ 0 ∷ 2 ∷ 0 ∷ 2 ∷ 2 ∷ 0 ∷ 3 ∷ 1 ∷ 4 ∷ 0 ∷ []) 0 10 (2 ∷ 1 ∷ 1 ∷ 0 ∷ [])
    -- both fail. Holds: the same for fails.
    -- Sheet: lines A, B, not 0, not 1, 3 and 2, 4 or 2, 2 or 4, not 5, not 6; a, b; 7(a), 8(b)
    ∷ tells (9 ∷ 2 ∷ 0 ∷ 2 ∷ 1 ∷ 3 ∷ 0 ∷ 3 ∷ 1 ∷ 4 ∷ 3 ∷ 2 ∷ 5 ∷ 4 ∷ 2 ∷ 5 ∷ 2 ∷ 4 ∷ 3 ∷ 5 ∷ 3 ∷ 6 ∷ 0 ∷ 2 ∷ 2 ∷ 0 ∷ 7 ∷ 1 ∷ 8 ∷ 0 ∷ []) 0 10
    (2 ∷ 1 ∷ 1 ∷ 0 ∷ [])
    -- own steps first. Holds: an individual's own steps, splits included, come before any push.
    -- Sheet: lines A, not 0, top, only 2 2; rule 1 ⊑ 2; a, b, c; 3(a); role 2 (a,a)
    ∷ tells (4 ∷ 2 ∷ 0 ∷ 3 ∷ 0 ∷ 0 ∷ 7 ∷ 2 ∷ 2 ∷ 1 ∷ 1 ∷ 2 ∷ 3 ∷ 1 ∷ 0 ∷ 3 ∷ 1 ∷ 2 ∷ 0 ∷ 0 ∷ []) 0 10 (3 ∷ 1 ∷ 1 ∷ 1 ∷ 1 ∷ 0 ∷ 2 ∷ 0 ∷ [])
    -- lowest individual. Holds: the lowest individual with a step (not the highest), its rules before the next individual's lines.
    -- Sheet: lines name 29, top, some 1 0, 0 or 2; rule 2 ⊑ 1; a, b; 3(b); role 1 (a,b)
    ∷ tells (4 ∷ 2 ∷ 29 ∷ 0 ∷ 6 ∷ 1 ∷ 0 ∷ 5 ∷ 0 ∷ 2 ∷ 1 ∷ 2 ∷ 1 ∷ 2 ∷ 1 ∷ 1 ∷ 3 ∷ 1 ∷ 1 ∷ 0 ∷ 1 ∷ []) 1 10
    (3 ∷ 0 ∷ 0 ∷ 536870912 ∷ 2 ∷ 0 ∷ 1 ∷ 1 ∷ 1 ∷ 1 ∷ 2 ∷ [])
    -- whole push. Holds: a push adds all its marks at once (not one at a time, in the order of the demanding lines).
    -- Sheet: lines A, C, 1 or 0, only 2 2, only 2 0; a, b, c, d; 3(c), 4(c); role 2 (c,b)
    ∷ tells (5 ∷ 2 ∷ 0 ∷ 2 ∷ 2 ∷ 5 ∷ 1 ∷ 0 ∷ 7 ∷ 2 ∷ 2 ∷ 7 ∷ 2 ∷ 0 ∷ 0 ∷ 4 ∷ 2 ∷ 2 ∷ 3 ∷ 2 ∷ 4 ∷ 1 ∷ 2 ∷ 2 ∷ 1 ∷ []) 0 10
    (4 ∷ 0 ∷ 1 ∷ 0 ∷ 0 ∷ 1 ∷ 2 ∷ 2 ∷ 1 ∷ [])
    -- push order. Holds: role assertions push in the order of the sheet (not in reverse, by source or by role), and behind each the individuals are looked at
    -- again.
    -- Sheet: lines A, B, 0 or 1, only 1 2, only 0 1; a, b, c; 3(b), 4(a); role 1 (b,c), role 0 (a,c)
    ∷ tells (5 ∷ 2 ∷ 0 ∷ 2 ∷ 1 ∷ 5 ∷ 0 ∷ 1 ∷ 7 ∷ 1 ∷ 2 ∷ 7 ∷ 0 ∷ 1 ∷ 0 ∷ 3 ∷ 2 ∷ 1 ∷ 3 ∷ 0 ∷ 4 ∷ 2 ∷ 1 ∷ 1 ∷ 2 ∷ 0 ∷ 0 ∷ 2 ∷ []) 0 10
    (3 ∷ 0 ∷ 0 ∷ 3 ∷ 2 ∷ 0 ∷ 0 ∷ 2 ∷ 1 ∷ 1 ∷ 2 ∷ [])
    -- push targets. Holds: and not by target; and a push goes to one individual (not along all assertions of its role and source at once).
    -- Sheet: lines A, B, not 0, only 1 2, 0 and 3, 4 or 1, only 0 5; a, b, c; 6(c); role 0 (c,b), role 0 (c,a), role 1 (a,b)
    ∷ tells (7 ∷ 2 ∷ 0 ∷ 2 ∷ 1 ∷ 3 ∷ 0 ∷ 7 ∷ 1 ∷ 2 ∷ 4 ∷ 0 ∷ 3 ∷ 5 ∷ 4 ∷ 1 ∷ 7 ∷ 0 ∷ 5 ∷ 0 ∷ 3 ∷ 1 ∷ 2 ∷ 6 ∷ 3 ∷ 0 ∷ 2 ∷ 1 ∷ 0 ∷ 2 ∷ 0 ∷ 1 ∷ 0 ∷ 1 ∷ []) 0 10
    (3 ∷ 2 ∷ 1 ∷ 0 ∷ 3 ∷ 0 ∷ 1 ∷ 1 ∷ 2 ∷ 0 ∷ 0 ∷ 2 ∷ 0 ∷ 1 ∷ [])
    -- push of one role. Holds: a push goes along its own role (not along every role from a to b at once).
    -- Sheet: lines A, B, 0 or 1, only 1 2, only 0 1; a, b; 3(a), 4(a); role 1 (a,b), role 0 (a,b)
    ∷ tells (5 ∷ 2 ∷ 0 ∷ 2 ∷ 1 ∷ 5 ∷ 0 ∷ 1 ∷ 7 ∷ 1 ∷ 2 ∷ 7 ∷ 0 ∷ 1 ∷ 0 ∷ 2 ∷ 2 ∷ 0 ∷ 3 ∷ 0 ∷ 4 ∷ 2 ∷ 1 ∷ 0 ∷ 1 ∷ 0 ∷ 0 ∷ 1 ∷ []) 0 10
    (2 ∷ 0 ∷ 3 ∷ 2 ∷ 0 ∷ 0 ∷ 1 ∷ 0 ∷ 1 ∷ 1 ∷ [])
    -- clash at the start. Holds: a seed that clashes by itself takes a record.
    -- Sheet: lines bottom, some 1 0; a, b; 1(a)
    ∷ tells (2 ∷ 1 ∷ 6 ∷ 1 ∷ 0 ∷ 0 ∷ 2 ∷ 1 ∷ 0 ∷ 1 ∷ 0 ∷ []) 1 12 ([])
    -- one seed. Holds: equal seeds along two roles, or by two lines, are one record and one element, and one edge for each role.
    -- Sheet: lines A, some 1 0, some 0 0, some 0 0; a, b; 1(a), 2(a), 3(a)
    ∷ tells (4 ∷ 2 ∷ 0 ∷ 6 ∷ 1 ∷ 0 ∷ 6 ∷ 0 ∷ 0 ∷ 6 ∷ 0 ∷ 0 ∷ 0 ∷ 2 ∷ 3 ∷ 0 ∷ 1 ∷ 0 ∷ 2 ∷ 0 ∷ 3 ∷ 0 ∷ []) 1 10 (3 ∷ 0 ∷ 0 ∷ 1 ∷ 2 ∷ 0 ∷ 0 ∷ 2 ∷ 0 ∷ 1 ∷ 2 ∷ [])
    -- seeds, not labels. Holds: two seeds that settle as the same label stay two elements.
    -- Sheet: lines A, B, some 0 0, only 0 1; rule 0 ⊑ 1; a, b; 2(a), 2(b), 3(b)
    ∷ tells (4 ∷ 2 ∷ 0 ∷ 2 ∷ 1 ∷ 6 ∷ 0 ∷ 0 ∷ 7 ∷ 0 ∷ 1 ∷ 1 ∷ 0 ∷ 1 ∷ 2 ∷ 3 ∷ 0 ∷ 2 ∷ 1 ∷ 2 ∷ 1 ∷ 3 ∷ 0 ∷ []) 2 10
    (4 ∷ 0 ∷ 0 ∷ 3 ∷ 3 ∷ 2 ∷ 0 ∷ 0 ∷ 2 ∷ 1 ∷ 0 ∷ 3 ∷ [])
    -- no stand-in. Holds: no individual takes the place of a seed, though b is a neighbour with the same label.
    -- Sheet: lines A, some 0 0; a, b; 1(a), 0(b); role 0 (a,b)
    ∷ tells (2 ∷ 2 ∷ 0 ∷ 6 ∷ 0 ∷ 0 ∷ 0 ∷ 2 ∷ 2 ∷ 0 ∷ 1 ∷ 1 ∷ 0 ∷ 1 ∷ 0 ∷ 0 ∷ 1 ∷ []) 1 10 (3 ∷ 0 ∷ 1 ∷ 1 ∷ 2 ∷ 0 ∷ 0 ∷ 1 ∷ 0 ∷ 0 ∷ 2 ∷ [])
    -- every expansion. Holds: records go on from every settled expansion of a seed (not up to the first good one); the model has the seeds of the first good
    -- one only.
    -- Sheet: lines A, top, some 2 1, only 2 0; rule 3 ⊑ 2; nobody
    ∷ tells (4 ∷ 2 ∷ 0 ∷ 0 ∷ 6 ∷ 2 ∷ 1 ∷ 7 ∷ 2 ∷ 0 ∷ 1 ∷ 3 ∷ 2 ∷ 0 ∷ 0 ∷ 0 ∷ []) 2 10 (2 ∷ 0 ∷ 0 ∷ 2 ∷ 0 ∷ 2 ∷ 1 ∷ 1 ∷ 2 ∷ 1 ∷ [])
    -- every seed. Holds: all seeds of a settled label count (not up to the first unsatisfiable one).
    -- Sheet: lines top, bottom, some 0 1, some 0 0; a, b; 2(b), 3(b)
    ∷ tells (4 ∷ 0 ∷ 1 ∷ 6 ∷ 0 ∷ 1 ∷ 6 ∷ 0 ∷ 0 ∷ 0 ∷ 2 ∷ 2 ∷ 1 ∷ 2 ∷ 1 ∷ 3 ∷ 0 ∷ []) 2 12 ([])
    -- behind unsatisfiable seeds. Holds: records go on from unsatisfiable seeds too.
    -- Sheet: lines bottom, some 0 0, some 0 1; a; 2(a)
    ∷ tells (3 ∷ 1 ∷ 6 ∷ 0 ∷ 0 ∷ 6 ∷ 0 ∷ 1 ∷ 0 ∷ 1 ∷ 1 ∷ 0 ∷ 2 ∷ 0 ∷ []) 2 12 ([])
    -- up to the good one. Holds: joint labels behind the first good one do not count.
    -- Sheet: lines bottom, some 0 0; rule 0 ⊑ 1; a, b
    ∷ tells (2 ∷ 1 ∷ 6 ∷ 0 ∷ 0 ∷ 1 ∷ 0 ∷ 1 ∷ 2 ∷ 0 ∷ 0 ∷ []) 0 10 (2 ∷ 0 ∷ 0 ∷ 0 ∷ [])
    -- before the good one. Holds: joint labels before the first good one count.
    -- Sheet: lines top, only 0 0; rule 1 ⊑ 0; nobody
    ∷ tells (2 ∷ 0 ∷ 7 ∷ 0 ∷ 0 ∷ 1 ∷ 1 ∷ 0 ∷ 0 ∷ 0 ∷ 0 ∷ []) 1 10 (1 ∷ 0 ∷ 0 ∷ [])
    -- asking lines. Holds: asking lines ascending (not descending).
    -- Sheet: lines A, some 0 0, only 0 1; rule 2 ⊑ 2; a; 1(a)
    ∷ tells (3 ∷ 2 ∷ 0 ∷ 6 ∷ 0 ∷ 0 ∷ 7 ∷ 0 ∷ 1 ∷ 1 ∷ 2 ∷ 2 ∷ 1 ∷ 1 ∷ 0 ∷ 1 ∷ 0 ∷ []) 3 10
    (4 ∷ 0 ∷ 1 ∷ 0 ∷ 0 ∷ 5 ∷ 0 ∷ 0 ∷ 1 ∷ 0 ∷ 0 ∷ 2 ∷ 1 ∷ 0 ∷ 2 ∷ 2 ∷ 0 ∷ 3 ∷ 3 ∷ 0 ∷ 3 ∷ [])
    -- order of elements. Holds: the seeds of a, by asking line, then those of b (not b first, nor in turn, by role, or those of some lines first).
    -- Sheet: lines A, B, C, only 1 0, some 0 1, some 0 2, not 3; a, b; 6(a), 4(a), 5(b)
    ∷ tells (7 ∷ 2 ∷ 0 ∷ 2 ∷ 1 ∷ 2 ∷ 2 ∷ 7 ∷ 1 ∷ 0 ∷ 6 ∷ 0 ∷ 1 ∷ 6 ∷ 0 ∷ 2 ∷ 3 ∷ 3 ∷ 0 ∷ 2 ∷ 3 ∷ 0 ∷ 6 ∷ 0 ∷ 4 ∷ 1 ∷ 5 ∷ 0 ∷ []) 3 10
    (5 ∷ 0 ∷ 0 ∷ 0 ∷ 2 ∷ 4 ∷ 3 ∷ 0 ∷ 0 ∷ 3 ∷ 0 ∷ 1 ∷ 2 ∷ 1 ∷ 0 ∷ 4 ∷ [])
    -- breadth first. Holds: elements breadth first (not depth first).
    -- Sheet: lines P, some 0 0, some 0 1, only 0 2; rule 3 ⊑ 3; a; 2(a)
    ∷ tells (4 ∷ 2 ∷ 15 ∷ 6 ∷ 0 ∷ 0 ∷ 6 ∷ 0 ∷ 1 ∷ 7 ∷ 0 ∷ 2 ∷ 1 ∷ 3 ∷ 3 ∷ 1 ∷ 1 ∷ 0 ∷ 2 ∷ 0 ∷ []) 7 10
    (6 ∷ 0 ∷ 0 ∷ 0 ∷ 32768 ∷ 0 ∷ 0 ∷ 8 ∷ 0 ∷ 0 ∷ 1 ∷ 0 ∷ 0 ∷ 2 ∷ 1 ∷ 0 ∷ 2 ∷ 1 ∷ 0 ∷ 3 ∷ 2 ∷ 0 ∷ 4 ∷ 3 ∷ 0 ∷ 2 ∷ 4 ∷ 0 ∷ 5 ∷ 5 ∷ 0 ∷ 5 ∷ [])
    -- name of two lines. Holds: a name is true where some line of that name holds (not the first alone, nor the last).
    -- Sheet: lines A, A; a, b; 0(a), 1(b)
    ∷ tells (2 ∷ 2 ∷ 0 ∷ 2 ∷ 0 ∷ 0 ∷ 2 ∷ 2 ∷ 0 ∷ 0 ∷ 1 ∷ 1 ∷ 0 ∷ []) 0 10 (2 ∷ 1 ∷ 1 ∷ 0 ∷ [])
    ∷ []

pub readings : answers (each shown witnesses) ≡ expectations (each shown witnesses)
unfolding witnesses computing
readings = refl

-- ---- faults, limits, buffers and queries
-- a refusal touches nothing
abbrev refuses : List ℕ → Query → ℕ → ℕ → Row
refuses bs q n p = record {
  bytes = bs;
  asked = q;
  expected = record {
    number = n;
    carries = p;
    records = replicate (lent_to q).records 77;
    marks = replicate (lent_to q).marks 78;
    out = replicate
        (lent_to q).out 79;
  };
}

abbrev faulty_at : List ℕ → ℕ → ℕ → Row
faulty_at bs n p = refuses bs (judged (lending 1 1)) n p

-- P9 with a second port, of which nothing is asserted
two_ports : List ℕ
two_ports = 3 ∷ 2 ∷ 0 ∷ 2 ∷ 1 ∷ 2 ∷ 2 ∷ 3 ∷ 0 ∷ 1 ∷ 1 ∷ 2 ∷ 0 ∷ 2 ∷ 2 ∷ 1 ∷ 0 ∷ 0 ∷ 0 ∷ []

-- A(a) and not A(a), and one rule
contradicted : List ℕ
contradicted = 3 ∷ 2 ∷ 0 ∷ 3 ∷ 0 ∷ 2 ∷ 1 ∷ 1 ∷ 0 ∷ 2 ∷ 1 ∷ 2 ∷ 0 ∷ 0 ∷ 0 ∷ 1 ∷ 0 ∷ []

-- lines A, only 0 A; one port, of which nothing is asserted
denied : List ℕ
denied = 2 ∷ 2 ∷ 0 ∷ 7 ∷ 0 ∷ 0 ∷ 0 ∷ 1 ∷ 0 ∷ 0 ∷ []

-- lines A, B, bottom, some 0 bottom, some 1 B; rules A ⊑ some 0 bottom, A ⊑ some 1 B; one port, in A
overshadowed : List ℕ
overshadowed = 5 ∷ 2 ∷ 0 ∷ 2 ∷ 1 ∷ 1 ∷ 6 ∷ 0 ∷ 2 ∷ 6 ∷ 1 ∷ 1 ∷ 2 ∷ 0 ∷ 3 ∷ 0 ∷ 4 ∷ 1 ∷ 1 ∷ 0 ∷ 0 ∷ 0 ∷ []

-- lines A, B, some 0 0; rules 0 ⊑ 1, 0 ⊑ 2; one port, in A: rule 0 forces B, and rule 1, which does not, needs a record
crowded : List ℕ
crowded = 3 ∷ 2 ∷ 0 ∷ 2 ∷ 1 ∷ 6 ∷ 0 ∷ 0 ∷ 2 ∷ 0 ∷ 1 ∷ 0 ∷ 2 ∷ 1 ∷ 1 ∷ 0 ∷ 0 ∷ 0 ∷ []

-- lines A, only 0 0, B, 1 and 2, not 3; one port, in not 3: where B fails at once, 1 and 2 fails by it, and only 0 0 need not
settled_by_denial : List ℕ
settled_by_denial = 5 ∷ 2 ∷ 0 ∷ 7 ∷ 0 ∷ 0 ∷ 2 ∷ 1 ∷ 4 ∷ 1 ∷ 2 ∷ 3 ∷ 3 ∷ 0 ∷ 1 ∷ 1 ∷ 0 ∷ 4 ∷ 0 ∷ []

-- lines A, not 0, B, some 0 2, C; rules 0 ⊑ 2, 1 ⊑ 3; one port, of which nothing is asserted
kept_in_order : List ℕ
kept_in_order = 5 ∷ 2 ∷ 0 ∷ 3 ∷ 0 ∷ 2 ∷ 1 ∷ 6 ∷ 0 ∷ 2 ∷ 2 ∷ 2 ∷ 2 ∷ 0 ∷ 2 ∷ 1 ∷ 3 ∷ 1 ∷ 0 ∷ 0 ∷ []

-- lines A, B; the rule 0 ⊑ 1 twice; one port, in A
written_twice : List ℕ
written_twice = 2 ∷ 2 ∷ 0 ∷ 2 ∷ 1 ∷ 2 ∷ 0 ∷ 1 ∷ 0 ∷ 1 ∷ 1 ∷ 1 ∷ 0 ∷ 0 ∷ 0 ∷ []

-- lines A, B, bottom; rules A ⊑ bottom, A ⊑ B; one port, in A
both_kinds : List ℕ
both_kinds = 3 ∷ 2 ∷ 0 ∷ 2 ∷ 1 ∷ 1 ∷ 2 ∷ 0 ∷ 2 ∷ 0 ∷ 1 ∷ 1 ∷ 1 ∷ 0 ∷ 0 ∷ 0 ∷ []

-- lines top, some 0 top; one port, in the second: denied, it clashes at once; not denied, it asks for a seed
judged_again : List ℕ
judged_again = 2 ∷ 0 ∷ 6 ∷ 0 ∷ 0 ∷ 0 ∷ 1 ∷ 1 ∷ 0 ∷ 1 ∷ 0 ∷ []

-- lines top, some 0 top, A, 1 or 2; one port, in the last: denied the second line, it is in A and asks for nothing; not denied, it asks for a seed
judged_once : List ℕ
judged_once = 4 ∷ 0 ∷ 6 ∷ 0 ∷ 0 ∷ 2 ∷ 0 ∷ 5 ∷ 1 ∷ 2 ∷ 0 ∷ 1 ∷ 1 ∷ 0 ∷ 3 ∷ 0 ∷ []

pub limit_rows : List Row
limit_rows =
    -- cut short. 1 stands at the first byte of the number that was begun, else at the sheet's length
    faulty_at [] 1 0
    ∷ faulty_at (128 ∷ []) 1 0
    ∷ faulty_at (1 ∷ []) 1 1
    ∷ faulty_at (0 ∷ 0 ∷ 0 ∷ 0 ∷ []) 1 4
    ∷ faulty_at (0 ∷ 129 ∷ []) 1 1
    ∷ faulty_at (1 ∷ 6 ∷ 7 ∷ []) 1 3
    -- badly formed. 2 for a second byte of 0 or with its high bit set, also at the end of the sheet, at the number's first byte
    ∷ faulty_at (128 ∷ 0 ∷ []) 2 0
    ∷ faulty_at (128 ∷ 128 ∷ []) 2 0
    ∷ faulty_at (255 ∷ 255 ∷ []) 2 0
    ∷ faulty_at (1 ∷ 2 ∷ 160 ∷ 0 ∷ []) 2 2
    -- two bytes. A second byte of 1 to 127 is well formed, and such a number is over every limit
    ∷ faulty_at (128 ∷ 1 ∷ []) 3 0
    ∷ faulty_at (128 ∷ 100 ∷ []) 3 0
    ∷ faulty_at (255 ∷ 127 ∷ []) 3 0
    -- counts. 3, each count one over its limit
    ∷ faulty_at (33 ∷ []) 3 0
    ∷ faulty_at (0 ∷ 13 ∷ []) 3 1
    ∷ faulty_at (0 ∷ 0 ∷ 9 ∷ []) 3 2
    ∷ faulty_at (0 ∷ 0 ∷ 0 ∷ 17 ∷ []) 3 3
    ∷ faulty_at (0 ∷ 0 ∷ 0 ∷ 0 ∷ 17 ∷ []) 3 4
    -- kinds, names, roles. 4, each one over its limit: a kind, a name, the role of a some, of an only and of a role assertion
    ∷ faulty_at (1 ∷ 8 ∷ []) 4 1
    ∷ faulty_at (1 ∷ 2 ∷ 32 ∷ []) 4 2
    ∷ faulty_at (2 ∷ 0 ∷ 6 ∷ 8 ∷ 0 ∷ []) 4 3
    ∷ faulty_at (2 ∷ 0 ∷ 7 ∷ 8 ∷ 0 ∷ []) 4 3
    ∷ faulty_at (0 ∷ 0 ∷ 1 ∷ 0 ∷ 1 ∷ 8 ∷ 0 ∷ 0 ∷ []) 4 5
    -- lines and individuals. 5, each operand that may not be named there: of not, the two of and, the two of or, the line of some and of only;
    -- c and d of a rule; individual and line of a class assertion; from and to of a role assertion
    ∷ faulty_at (1 ∷ 3 ∷ 0 ∷ []) 5 2
    ∷ faulty_at (2 ∷ 0 ∷ 4 ∷ 1 ∷ 0 ∷ []) 5 3
    ∷ faulty_at (2 ∷ 0 ∷ 4 ∷ 0 ∷ 1 ∷ []) 5 4
    ∷ faulty_at (2 ∷ 0 ∷ 5 ∷ 1 ∷ 0 ∷ []) 5 3
    ∷ faulty_at (2 ∷ 0 ∷ 5 ∷ 0 ∷ 1 ∷ []) 5 4
    ∷ faulty_at (2 ∷ 0 ∷ 6 ∷ 7 ∷ 1 ∷ []) 5 4
    ∷ faulty_at (2 ∷ 0 ∷ 7 ∷ 7 ∷ 1 ∷ []) 5 4
    ∷ faulty_at (1 ∷ 0 ∷ 1 ∷ 1 ∷ 0 ∷ []) 5 3
    ∷ faulty_at (1 ∷ 0 ∷ 1 ∷ 0 ∷ 1 ∷ []) 5 4
    ∷ faulty_at (1 ∷ 0 ∷ 0 ∷ 1 ∷ 1 ∷ 1 ∷ 0 ∷ []) 5 5
    ∷ faulty_at (1 ∷ 0 ∷ 0 ∷ 1 ∷ 1 ∷ 0 ∷ 1 ∷ []) 5 6
    ∷ faulty_at (0 ∷ 0 ∷ 1 ∷ 0 ∷ 1 ∷ 7 ∷ 1 ∷ 0 ∷ []) 5 6
    ∷ faulty_at (0 ∷ 0 ∷ 1 ∷ 0 ∷ 1 ∷ 7 ∷ 0 ∷ 1 ∷ []) 5 7
    -- none there. Where there are no lines or no individuals, whatever names one is 5
    ∷ faulty_at (0 ∷ 1 ∷ 0 ∷ 0 ∷ []) 5 2
    ∷ faulty_at (1 ∷ 0 ∷ 0 ∷ 0 ∷ 1 ∷ 0 ∷ 0 ∷ []) 5 5
    ∷ faulty_at (0 ∷ 0 ∷ 1 ∷ 1 ∷ 0 ∷ 0 ∷ []) 5 5
    ∷ faulty_at (0 ∷ 0 ∷ 0 ∷ 0 ∷ 1 ∷ 7 ∷ 0 ∷ 0 ∷ []) 5 6
    -- judged whole. The first number is too large, the next badly formed, and the first answers: a kind before its operands and before the next line,
    -- the first operand of and, or, some, only before the second, a count before its entries, c before d, individual before line, role before from, from
    -- before to
    ∷ faulty_at (1 ∷ 8 ∷ 128 ∷ 0 ∷ []) 4 1
    ∷ faulty_at (2 ∷ 8 ∷ 128 ∷ 0 ∷ []) 4 1
    ∷ faulty_at (2 ∷ 0 ∷ 4 ∷ 1 ∷ 128 ∷ 0 ∷ []) 5 3
    ∷ faulty_at (2 ∷ 0 ∷ 5 ∷ 1 ∷ 128 ∷ 0 ∷ []) 5 3
    ∷ faulty_at (2 ∷ 0 ∷ 6 ∷ 8 ∷ 128 ∷ 0 ∷ []) 4 3
    ∷ faulty_at (2 ∷ 0 ∷ 7 ∷ 8 ∷ 128 ∷ 0 ∷ []) 4 3
    ∷ faulty_at (0 ∷ 13 ∷ 128 ∷ 0 ∷ []) 3 1
    ∷ faulty_at (1 ∷ 0 ∷ 1 ∷ 1 ∷ 128 ∷ 0 ∷ []) 5 3
    ∷ faulty_at (1 ∷ 0 ∷ 0 ∷ 1 ∷ 1 ∷ 1 ∷ 128 ∷ 0 ∷ []) 5 5
    ∷ faulty_at (0 ∷ 0 ∷ 1 ∷ 0 ∷ 1 ∷ 8 ∷ 128 ∷ 0 ∷ []) 4 5
    ∷ faulty_at (0 ∷ 0 ∷ 1 ∷ 0 ∷ 1 ∷ 7 ∷ 1 ∷ 128 ∷ 0 ∷ []) 5 6
    -- left over. 6 stands at the first spare byte, and spare bytes are not read as numbers
    ∷ faulty_at (P1 ++ (0 ∷ [])) 6 5
    ∷ faulty_at (P1 ++ (128 ∷ 0 ∷ [])) 6 5
    -- lent badly. 7 comes before every fault of the sheet and before 8; as many mark bytes as records are enough, and so are 4,096 records
    ∷ refuses [] (judged (record { records = 2; marks = 1; out = 1 })) 7 0
    ∷ refuses P1 (judged (record { records = 4097; marks = 4097; out = 1 })) 7 0
    ∷ refuses P9 (caused 9 9 (record { records = 2; marks = 1; out = 1 })) 7 0
    ∷ ends P1 (judged (record { records = 4096; marks = 4096; out = 3 })) 10 3 (1 ∷ 0 ∷ 0 ∷ [])
    -- off the sheet. 8 comes behind every fault and before 13; port and class may be any numbers; the unnamed element is no port
    ∷ refuses [] (caused 0 0 (lending 0 1)) 1 0
    ∷ refuses P9 (caused 1 2 (lending 0 1)) 8 0
    ∷ refuses P9 (caused 0 3 (lending 0 1)) 8 0
    ∷ refuses P9 (caused 18446744073709551615 18446744073709551615 (lending 0 1)) 8 0
    ∷ refuses P11 (caused 1 3 (lending 0 1)) 8 0
    ∷ refuses P11 (caused 0 4 (lending 0 1)) 8 0
    ∷ refuses P1 (caused 0 0 (lending 0 1)) 8 0
    -- limits met. Each count at its limit: 32 lines, 12 rules, 8 individuals, 16 class assertions, 16 role assertions; and each operand: name 31, role 7,
    -- the line before for not, and, or, only, some (lines name 31, not 0, 1 and 1, 2 or 2, only 7 3, some 7 4; a; role 7 (a,a))
    ∷ ends (32 ∷ replicate 32 0 ++ replicate 4 0) (judged (lending 0 3)) 10 3 (1 ∷ 0 ∷ 0 ∷ [])
    ∷ ends (1 ∷ 2 ∷ 31 ∷ 0 ∷ 1 ∷ 1 ∷ 0 ∷ 0 ∷ 0 ∷ []) (judged (lending 0 3)) 10 3 (1 ∷ 2147483648 ∷ 0 ∷ [])
    ∷ ends (1 ∷ 0 ∷ 12 ∷ replicate 24 0 ++ (0 ∷ 0 ∷ 0 ∷ [])) (judged (lending 0 3)) 10 3 (1 ∷ 0 ∷ 0 ∷ [])
    ∷ ends (0 ∷ 0 ∷ 8 ∷ 0 ∷ 0 ∷ []) (judged (lending 0 10)) 10 10 (8 ∷ replicate 9 0)
    ∷ ends (1 ∷ 0 ∷ 0 ∷ 1 ∷ 16 ∷ replicate 32 0 ++ (0 ∷ [])) (judged (lending 0 3)) 10 3 (1 ∷ 0 ∷ 0 ∷ [])
    ∷ ends (0 ∷ 0 ∷ 1 ∷ 0 ∷ 16 ∷ replicate 45 0 ++ (7 ∷ 0 ∷ 0 ∷ [])) (judged (lending 0 9)) 10 9 (1 ∷ 0 ∷ 2 ∷ 0 ∷ 0 ∷ 0 ∷ 0 ∷ 7 ∷ 0 ∷ [])
    ∷ ends (6 ∷ 2 ∷ 31 ∷ 3 ∷ 0 ∷ 4 ∷ 1 ∷ 1 ∷ 5 ∷ 2 ∷ 2 ∷ 7 ∷ 7 ∷ 3 ∷ 6 ∷ 7 ∷ 4 ∷ 0 ∷ 1 ∷ 0 ∷ 1 ∷ 7 ∷ 0 ∷ 0 ∷ []) (judged (lending 0 6)) 10 6
    (1 ∷ 0 ∷ 1 ∷ 0 ∷ 7 ∷ 0 ∷ [])
    -- no buffers. No mark bytes at all, and a buffer with no words
    ∷ ends P1 (judged (record { records = 0; marks = 0; out = 0 })) 11 3 []
    -- exact fit. A result that fits exactly is 10 or 14; one too long is 11 or 15, and zeros alone are left; 13 comes before 15
    ∷ ends P6 (judged (lending 2 10)) 11 11 (replicate 10 0)
    ∷ ends P9 (caused 0 2 (lending 0 1)) 15 2 (0 ∷ [])
    ∷ ends P9 (caused 0 2 (lending 0 2)) 14 2 (3 ∷ 4 ∷ [])
    ∷ ends P11 (caused 0 3 (lending 1 0)) 15 1 []
    ∷ ends P11 (caused 0 3 (lending 0 0)) 13 0 []
    -- sets that count. A set that does not force counts for 13, the empty set too, and so does the seed of class fails; a set with a forcing subset does not
    ∷ ends denied (caused 0 1 (lending 0 1)) 13 0 (0 ∷ [])
    ∷ ends denied (caused 0 1 (lending 1 1)) 14 0 (0 ∷ [])
    ∷ ends overshadowed (caused 0 1 (lending 0 1)) 13 0 (0 ∷ [])
    ∷ ends overshadowed (caused 0 1 (lending 1 1)) 14 1 (32769 ∷ [])
    -- all sets. Every set is judged, also where the list is already too long
    ∷ ends crowded (caused 0 1 (lending 0 0)) 13 0 []
    ∷ ends crowded (caused 0 1 (lending 1 0)) 15 1 []
    -- class fails first. Class fails stands in the port's first label, so that nothing is split that it settles
    ∷ ends settled_by_denial (caused 0 2 (lending 0 1)) 14 0 (0 ∷ [])
    -- rules of a set. They keep the order of the sheet (not the reverse); a rule written twice gives two sets
    ∷ ends kept_in_order (caused 0 4 (lending 0 1)) 13 0 (0 ∷ [])
    ∷ ends kept_in_order (caused 0 4 (lending 1 1)) 14 0 (0 ∷ [])
    ∷ ends written_twice (caused 0 1 (lending 0 2)) 14 2 (1 ∷ 2 ∷ [])
    -- no rule at all. Nothing forces a port of which nothing is said; contradictory assertions force everything, by no rule at all
    ∷ ends two_ports (caused 1 2 (lending 0 1)) 14 0 (0 ∷ [])
    ∷ ends contradicted (caused 0 2 (lending 0 2)) 14 1 (32768 ∷ 0 ∷ [])
    -- marks. A contradictory set is marked and a catching one is not, whichever has the lower number; the order is that of the rules
    ∷ ends both_kinds (caused 0 1 (lending 0 3)) 14 2 (32769 ∷ 2 ∷ 0 ∷ [])
    -- judged again. A listed set is judged without class fails too, and lacks room by either; a set that is not listed is not judged again
    ∷ ends judged_again (caused 0 1 (lending 0 1)) 13 0 (0 ∷ [])
    ∷ ends judged_again (caused 0 1 (lending 1 1)) 14 1 (0 ∷ [])
    ∷ ends judged_once (caused 0 1 (lending 0 1)) 14 0 (0 ∷ [])
    ∷ []

pub limits : answers limit_rows ≡ expectations limit_rows
unfolding limit_rows two_ports contradicted denied overshadowed crowded settled_by_denial kept_in_order written_twice both_kinds judged_again judged_once P1 P6
    P9 P11 computing
limits = refl

-- ---- balances around zero
pub record BalanceRow : Type 0 where
  pub bytes : List ℕ
  pub room : ℕ
  pub expected : Balance

abbrev leaves : List ℕ → ℕ → Balance → BalanceRow
leaves bs room b = record { bytes = bs; room = room; expected = b }

-- lines top, some 0 0, some 1 0, only 7 0: e is 3, and e·2^(e-1) is 12
three_quantifiers : List ℕ
three_quantifiers = 4 ∷ 0 ∷ 6 ∷ 0 ∷ 0 ∷ 6 ∷ 1 ∷ 0 ∷ 7 ∷ 7 ∷ 0 ∷ 0 ∷ 0 ∷ 0 ∷ 0 ∷ []

pub balance_rows : List BalanceRow
balance_rows =
    leaves three_quantifiers 0 (left (negsuc 11))
    ∷ leaves three_quantifiers 11 (left (negsuc 0))
    ∷ leaves three_quantifiers 12 (left (pos 0))
    ∷ leaves three_quantifiers 13 (left (pos 1))
    ∷ leaves three_quantifiers 4096 (left (pos 4084))
    ∷ leaves three_quantifiers 4097 (faulty 7 0)
    ∷ leaves P5 0 (left (negsuc 0))
    ∷ leaves P5 1 (left (pos 0))
    ∷ leaves P1 0 (left (pos 0))
    ∷ leaves P1 4096 (left (pos 4096))
    ∷ leaves (1 ∷ 3 ∷ 0 ∷ []) 4096 (faulty 5 2)
    ∷ leaves [] 4097 (faulty 7 0)
    ∷ []

pub balances : map (λ (r : BalanceRow). balance_reply r.bytes r.room) balance_rows ≡ map (λ (r : BalanceRow). r.expected) balance_rows
unfolding balance_rows three_quantifiers P1 P5 balance_reply computing
balances = refl
