-- Reading the entries of a section one after the other: what the loop keeps, and what it says in the end. Assumes nothing.
use Rattle.std.specs.Prelude.{◌≡◌, refl, List, [], ◌∷◌, ◌++◌, length, set}
use Rattle.std.proofs.Common.{ap, ◌∙◌, add-one, arith, length-append}
use Prim.Native.Nat.{ℕ, suc, ◌+◌, ◌-◌, ◌≤◌, ◌<◌}
use native.Mathlib.Nat.{sub-zero, sub-eq-zero_of_le}
use mathlib.Core.List.{append-nil}
use lib.Seq.{append_snoc, set-append_seam}
use Rattle.alc.specs.Sheet.{most_lines}
use Rattle.alc.specs.Bytes.{Read, refused, taken, then, several_at}
use Rattle.sheet.specs.declared.Section.{Section}
use Rattle.sheet.specs.declared.Entry.{Entry as Triple}
use Rattle.sheet.specs.Form.{padded, section_form}
use Rattle.reader.specs.Parts.{reading}

-- one entry more in front of the zeros
set-padded : (ts : List Triple) (t : Triple) (i : ℕ) → length ts ≡ i → i < most_lines → set (padded ts) i t ≡ padded (ts ++ (t ∷ []))
unfolding padded
set-padded ts t i e h =
    let less : most_lines - length ts ≡ suc (most_lines - suc (length ts)) = omega arith in
    let left : most_lines - length (ts ++ (t ∷ [])) ≡ most_lines - suc (length ts) = simp length-append (omega arith) in
    rw (← e, less, left, set-append_seam, append_snoc)

-- ---- the loop
pub record Going (one : ℕ → ℕ → Read Triple) (count start : ℕ) (entries : List Triple) (at i : ℕ) : Type 0 where
  pub done : List Triple
  pub many : length done ≡ i
  pub filled : entries ≡ padded done
  -- what is left to read from here, behind what is done, is the whole
  pub rest : then (several_at one i (count - i) at) (λ l p. taken (done ++ l) p) ≡ several_at one 0 count start

module _ {A : Type 0} where
  then-taken : (r : Read A) → then r (λ l p. taken l p) ≡ r
  then-taken (refused n p) = refl
  then-taken (taken l p) = refl

-- an entry moves from what is left to what is done
behind : (ts : List Triple) (t : Triple) (r : Read (List Triple))
    → then r (λ l p. taken (ts ++ (t ∷ []) ++ l) p) ≡ then (then r (λ l p. taken (t ∷ l) p)) (λ l p. taken (ts ++ l) p)
behind ts t (refused n p) = refl
behind ts t (taken l p) = ap {B = Read (List Triple)} (λ x. taken x p) (append_snoc ts t l)

module _ (one : ℕ → ℕ → Read Triple) (count start : ℕ) where
  pub begin : {s : Section} → s ≡ section_form [] → Going one count start s.entries start 0
  unfolding section_form
  begin {s} e = record { done = []; many = refl; filled = ap (λ (x : Section). x.entries) e; rest = rw (sub-zero count) (then-taken (several_at one 0 count start)) }

  module _ {entries : List Triple} {at i : ℕ} (g : Going one count start entries at i) where
    pub ended : {k : ℕ} → k ≡ count → i ≡ count → taken (record { entries = entries; count = k }) at ≡ reading section_form (several_at one 0 count start)
    unfolding section_form
    ended {k} e h =
        let all : k ≡ length g.done = omega (arith, g.many) in
        rw (← g.rest, sub-eq-zero_of_le {n = count} {m = i} (omega arith), append-nil)
        (λ j. taken (record { entries = g.filled j; count = all j }) at)

    module _ (h : i < count) where
      left : count - i ≡ suc (count - suc i)
      left = omega arith

      pub fault : {n p : ℕ} → refused n p ≡ one i at → refused n p ≡ reading section_form (several_at one 0 count start)
      fault e = rw (← g.rest, left, ← e)

      pub turn : (t : Triple) {next : ℕ} → count ≤ most_lines → taken t next ≡ one i at → Going one count start (set entries i t) next (i + 1)
      turn t {next} k e = record {
        done = g.done ++ (t ∷ []);
        many = simp length-append (omega (arith, g.many));
        filled = rw g.filled (set-padded g.done t i g.many (omega arith));
        rest = rw (add-one i) (behind g.done t (several_at one (suc i) (count - suc i) next) ∙ (rw (left, ← e) at g.rest));
      }
