-- The bench sheets P1 to P11 of document 01, from their bytes, with whole replies: one table, one theorem, by computation.
use Rattle.std.specs.Prelude.{ℕ, suc, ◌≡◌, refl, List, [], ◌∷◌, map, replicate}
use Rattle.alc.specs.Bits.{bit, put}
use Rattle.alc.specs.Bytes.{number_at, below_at, operands_at, line_at, rule_at, class_at, role_at, sections_at, read_sheet}
use Rattle.alc.specs.Label.{clashes, clashes_at, pushed}
use Rattle.alc.specs.Settle.{next, settle, moves}
use Rattle.alc.specs.Seeds.{seed_of, asks, expansions, successors, quantified, bound, survivors, seed_survives, fine}
use Rattle.alc.specs.Judge.{start, settled_joints, first_fine, records_needed}
use Rattle.alc.specs.Model.{chosen, model_seeds, label_at, leads, asserted, edge_at, model_edges, named, model_words, satisfy_answer}
use Rattle.alc.specs.Causes.{forces, no_subset_forces, listed, contradictory, slot_of, slots, lacks_room, causes_answer}
use Rattle.alc.specs.Replies.{Reply, satisfy_reply, causes_reply}

-- how much is lent: records, mark bytes, and words or slots
pub record Lent : Type 0 where
  pub records : ℕ
  pub marks : ℕ
  pub out : ℕ

-- what is asked: a model; or the causes of a class at a port
pub data Query : Type 0 where
  judged : Lent → Query
  caused : ℕ → ℕ → Lent → Query

-- with a mark byte more than there are records
abbrev pub lending : ℕ → ℕ → Lent
lending room out = record { records = room; marks = suc room; out = out }

abbrev pub lent_to : Query → Lent
lent_to (judged l) = l
lent_to (caused port class l) = l

-- what is lent is rubbish, so that a buffer left alone shows
abbrev pub answer_to : List ℕ → Query → Reply
answer_to bs (judged l) = satisfy_reply bs (replicate l.records 77) (replicate l.marks 78) (replicate l.out 79)
answer_to bs (caused port class l) = causes_reply bs port class (replicate l.records 77) (replicate l.marks 78) (replicate l.out 79)

pub record Row : Type 0 where
  pub bytes : List ℕ
  pub asked : Query
  pub expected : Reply

-- records and marks end as zero; given are the number, what it carries, and the model or list buffer as it ends
abbrev pub ends : List ℕ → Query → ℕ → ℕ → List ℕ → Row
ends bs q n v o = record {
  bytes = bs;
  asked = q;
  expected = record {
    number = n;
    carries = v;
    records = replicate (lent_to q).records 0;
    marks = replicate
        (lent_to q).marks 0;
    out = o;
  };
}

-- the definitions that have to open for a sheet to compute, under one name
unfoldable pub computing : Unit {0}
unfolding number_at below_at operands_at line_at rule_at class_at role_at sections_at read_sheet bit put clashes clashes_at pushed next settle moves seed_of asks
    expansions successors quantified bound survivors seed_survives fine start settled_joints first_fine records_needed chosen model_seeds label_at leads
    asserted edge_at model_edges named model_words satisfy_answer forces no_subset_forces listed contradictory slot_of slots lacks_room causes_answer
    satisfy_reply causes_reply
computing = tt

unfoldable pub P1 : List ℕ
P1 = 0 ∷ 0 ∷ 0 ∷ 0 ∷ 0 ∷ []

-- A ⊑ ¬B, A(a), B(a)
unfoldable pub P2 : List ℕ
P2 = 3 ∷ 2 ∷ 0 ∷ 2 ∷ 1 ∷ 3 ∷ 1 ∷ 1 ∷ 0 ∷ 2 ∷ 1 ∷ 2 ∷ 0 ∷ 0 ∷ 0 ∷ 1 ∷ 0 ∷ []

-- the same with two individuals and B(b)
unfoldable pub P3 : List ℕ
P3 = 3 ∷ 2 ∷ 0 ∷ 2 ∷ 1 ∷ 3 ∷ 1 ∷ 1 ∷ 0 ∷ 2 ∷ 2 ∷ 2 ∷ 0 ∷ 0 ∷ 1 ∷ 1 ∷ 0 ∷ []

-- top ⊑ bottom, no individuals
unfoldable pub P4 : List ℕ
P4 = 2 ∷ 0 ∷ 1 ∷ 1 ∷ 0 ∷ 1 ∷ 0 ∷ 0 ∷ 0 ∷ []

-- lines top, some 0 0; rule 0 ⊑ 1; no individuals
unfoldable pub P5 : List ℕ
P5 = 2 ∷ 0 ∷ 6 ∷ 0 ∷ 0 ∷ 1 ∷ 0 ∷ 1 ∷ 0 ∷ 0 ∷ 0 ∷ []

-- names 0, 1; some 0 0; some 0 1; and 0 1; some 0 4; not 5; and 2 3; and 7 6; one individual, line 8
unfoldable pub P6 : List ℕ
P6 = 9 ∷ 2 ∷ 0 ∷ 2 ∷ 1 ∷ 6 ∷ 0 ∷ 0 ∷ 6 ∷ 0 ∷ 1 ∷ 4 ∷ 0 ∷ 1 ∷ 6 ∷ 0 ∷ 4 ∷ 3 ∷ 5 ∷ 4 ∷ 2 ∷ 3 ∷ 4 ∷ 7 ∷ 6 ∷ 0 ∷ 1 ∷ 1 ∷ 0 ∷ 8 ∷ 0 ∷ []

-- only 0 B at a, only 1 (not B) at c, role 0 from a to b, role 1 from c to b; a, b, c are 0, 1, 2
unfoldable pub P7 : List ℕ
P7 = 4 ∷ 2 ∷ 0 ∷ 3 ∷ 0 ∷ 7 ∷ 0 ∷ 0 ∷ 7 ∷ 1 ∷ 1 ∷ 0 ∷ 3 ∷ 2 ∷ 0 ∷ 2 ∷ 2 ∷ 3 ∷ 2 ∷ 0 ∷ 0 ∷ 1 ∷ 1 ∷ 2 ∷ 1 ∷ []

-- lines name 5, name 5, not 1, and 0 2, the last asserted
unfoldable pub P8 : List ℕ
P8 = 4 ∷ 2 ∷ 5 ∷ 2 ∷ 5 ∷ 3 ∷ 1 ∷ 4 ∷ 0 ∷ 2 ∷ 0 ∷ 1 ∷ 1 ∷ 0 ∷ 3 ∷ 0 ∷ []

-- names 0, 1, 2; rules 0 ⊑ 1, 1 ⊑ 2, 0 ⊑ 2; port 0 in line 0
unfoldable pub P9 : List ℕ
P9 = 3 ∷ 2 ∷ 0 ∷ 2 ∷ 1 ∷ 2 ∷ 2 ∷ 3 ∷ 0 ∷ 1 ∷ 1 ∷ 2 ∷ 0 ∷ 2 ∷ 1 ∷ 1 ∷ 0 ∷ 0 ∷ 0 ∷ []

-- P9 with class 2 asserted of the port too
unfoldable pub P10 : List ℕ
P10 = 3 ∷ 2 ∷ 0 ∷ 2 ∷ 1 ∷ 2 ∷ 2 ∷ 3 ∷ 0 ∷ 1 ∷ 1 ∷ 2 ∷ 0 ∷ 2 ∷ 1 ∷ 2 ∷ 0 ∷ 0 ∷ 0 ∷ 2 ∷ 0 ∷ []

-- names 0, 1, some 0 1, bottom; rules 0 ⊑ 2, 1 ⊑ 3; port 0 in line 0
unfoldable pub P11 : List ℕ
P11 = 4 ∷ 2 ∷ 0 ∷ 2 ∷ 1 ∷ 6 ∷ 0 ∷ 1 ∷ 1 ∷ 2 ∷ 0 ∷ 2 ∷ 1 ∷ 3 ∷ 1 ∷ 1 ∷ 0 ∷ 0 ∷ 0 ∷ []

abbrev pub answers : List Row → List Reply
answers rows = map (λ (r : Row). answer_to r.bytes r.asked) rows

abbrev pub expectations : List Row → List Reply
expectations rows = map (λ (r : Row). r.expected) rows

pub table : List Row
table =
    ends P1 (judged (lending 0 4)) 10 3 (1 ∷ 0 ∷ 0 ∷ 0 ∷ [])
    ∷ ends P2 (judged (lending 0 1)) 12 0 (0 ∷ [])
    ∷ ends P3 (judged (lending 0 4)) 10 4 (2 ∷ 1 ∷ 2 ∷ 0 ∷ [])
    ∷ ends P4 (judged (lending 0 1)) 12 0 (0 ∷ [])
    ∷ ends P5 (judged (lending 0 1)) 13 0 (0 ∷ [])
    ∷ ends P5 (judged (lending 1 10)) 10 10 (2 ∷ 0 ∷ 0 ∷ 2 ∷ 0 ∷ 0 ∷ 1 ∷ 1 ∷ 0 ∷ 1 ∷ [])
    ∷ ends P6 (judged (lending 1 2)) 13 0 (0 ∷ 0 ∷ [])
    ∷ ends P6 (judged (lending 2 12)) 10 11 (3 ∷ 0 ∷ 1 ∷ 2 ∷ 2 ∷ 0 ∷ 0 ∷ 1 ∷ 0 ∷ 0 ∷ 2 ∷ 0 ∷ [])
    ∷ ends P7 (judged (lending 0 1)) 12 0 (0 ∷ [])
    ∷ ends P8 (judged (lending 0 1)) 12 0 (0 ∷ [])
    ∷ ends P9 (caused 0 2 (lending 0 3)) 14 2 (3 ∷ 4 ∷ 0 ∷ [])
    ∷ ends P10 (caused 0 2 (lending 0 2)) 14 1 (0 ∷ 0 ∷ [])
    ∷ ends P11 (judged (lending 1 1)) 12 0 (0 ∷ [])
    ∷ ends P11 (judged (lending 0 1)) 13 0 (0 ∷ [])
    ∷ ends P11 (caused 0 3 (lending 1 2)) 14 1 (32771 ∷ 0 ∷ [])
    ∷ []

pub bench : answers table ≡ expectations table
unfolding table P1 P2 P3 P4 P5 P6 P7 P8 P9 P10 P11 computing
bench = refl
