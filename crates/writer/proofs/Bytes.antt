-- The bytes of numbers: one number's groups behind what stands there, one number more, as many as are judged. Assumes nothing.
use Rattle.std.specs.Prelude.{ℕ, ◌+◌, ◌≤◌, ◌<◌, true, false, ◌≡◌, refl, List, [], ◌∷◌, ◌++◌, length, get_or, take, drop, min, ltb, leb}
use Rattle.std.proofs.Common.{sym, ap, ◌∙◌, ⊎_elim, subst, append_assoc, append-nil, take_all, take-append-drop, arith, leb-true, leb-false}
use Rattle.std.proofs.lemmas.List.{take_more, take_more_set, length-append, length-take-le}
use Rattle.std.proofs.Math.ListN.{set}
use Rattle.alc.specs.Sheet.{Sheet}
use Rattle.alc.specs.Bytes.{Read, refused, taken, read_sheet}
use Rattle.alc.specs.Writing.{groups_within, groups, bytes_for, Wrote, put_bytes, write_read, write_reply, WritePromise}
use Rattle.alc.proofs.Theorems.Lists.{cases, each_append}
use Rattle.alc.proofs.Theorems.Writing.{accepted-short, same-verdict, write-promise}

-- more behind what stands behind old
pub onward : (old xs mid ys now : List ℕ) → mid ≡ old ++ xs → now ≡ mid ++ ys → now ≡ old ++ (xs ++ ys)
onward old xs mid ys now e f = f ∙ ap (λ (l : List ℕ). l ++ ys) e ∙ append_assoc old xs ys

-- one byte more, at a place, and k is the place behind it
pub byte-onward : (old xs bs : List ℕ) (at x k : ℕ) → take at bs ≡ old ++ xs → at < length bs → k ≡ at + 1 → take k (set bs at x) ≡ old ++ (xs ++ x ∷ [])
byte-onward old xs bs at x k e h s = rw s (onward old xs (take at bs) (x ∷ []) _ e (take_more_set bs at x h))

-- ---- several
pub bytes-append : (ns ms : List ℕ) → bytes_for (ns ++ ms) ≡ bytes_for ns ++ bytes_for ms
unfolding bytes_for
bytes-append ns ms = each_append groups ns ms

pub bytes_one : (n : ℕ) → bytes_for (n ∷ []) ≡ groups n
unfolding bytes_for
bytes_one n = append-nil (groups n)

-- one number more
pub bytes-more : (ns : List ℕ) (i : ℕ) → i < length ns → bytes_for (take (i + 1) ns) ≡ bytes_for (take i ns) ++ groups (get_or ns i 0)
bytes-more ns i h = rw (take_more ns i 0 h, bytes-append, bytes_one) refl

-- ---- as many numbers as are judged
-- a number has a byte at least
groups-some : (n : ℕ) → 1 ≤ length (groups n)
unfolding groups
groups-some n =
    ⊎_elim
    (λ (e : ltb n 128 ≡ true). rw (e, groups_within) (omega arith))
    (λ (e : ltb n 128 ≡ false). rw (e, groups_within) (omega arith))
    (cases (ltb n 128))

length-bytes : (ns : List ℕ) → length ns ≤ length (bytes_for ns)
unfolding bytes_for
length-bytes [] = omega arith
length-bytes (n ∷ ns) = omega (arith, length-append (groups n) (bytes_for ns), groups-some n, length-bytes ns)

-- the first 341 numbers are judged as all are
module _ (ns : List ℕ) where
  abbrev front : List ℕ
  front = take 341 ns

  all-judged : length ns ≤ 341 → bytes_for front ≡ bytes_for ns
  all-judged h = ap bytes_for (take_all 341 ns h)

  enough-judged : 341 ≤ length ns → 341 ≤ length (bytes_for front)
  enough-judged h = omega (arith, length-bytes front, length-take-le 341 ns h)

  judged-whole : read_sheet (bytes_for front) ≡ read_sheet (bytes_for ns)
  judged-whole =
      ⊎_elim
      (λ (e : leb (length ns) 341 ≡ true). ap read_sheet (all-judged (leb-true (length ns) 341 e)))
      (λ (e : leb (length ns) 341 ≡ false).
      let far = leb-false (length ns) 341 e in
      let enough = enough-judged (omega arith) in
      sym (same-verdict (bytes_for front) (bytes_for (drop 341 ns)) (omega arith))
      ∙ ap read_sheet (sym (bytes-append front (drop 341 ns)) ∙ ap bytes_for (take-append-drop 341 ns)))
      (cases (leb (length ns) 341))

  -- and if they are a sheet, then they are all
  judged-all : (s : Sheet) (p : ℕ) → read_sheet (bytes_for front) ≡ taken s p → bytes_for front ≡ bytes_for ns
  judged-all s p e =
      ⊎_elim
      (λ (t : leb (length ns) 341 ≡ true). all-judged (leb-true (length ns) 341 t))
      (λ (t : leb (length ns) 341 ≡ false). absurd (
      let far = leb-false (length ns) 341 t in
      let enough = enough-judged (omega arith) in
      let (short, _) = accepted-short (bytes_for front) s p e in
      omega arith))
      (cases (leb (length ns) 341))

  -- so they are answered as all are
  same-reply : (buf : List ℕ) (r : Read Sheet) → read_sheet (bytes_for front) ≡ r → write_read buf (bytes_for front) r ≡ write_read buf (bytes_for ns) r
  same-reply buf (refused n p) e = refl
  same-reply buf (taken s p) e = ap (put_bytes buf) (judged-all s p e)

  front-reply : (buf : List ℕ) → write_read buf (bytes_for front) (read_sheet (bytes_for front)) ≡ write_reply ns buf
  unfolding write_reply
  front-reply buf = same-reply buf (read_sheet (bytes_for front)) refl ∙ ap (write_read buf (bytes_for ns)) judged-whole

  -- all of them, if they are fewer
  front-as : (k : ℕ) → k ≡ min (length ns) 341 → take k ns ≡ front
  front-as k e =
      ⊎_elim
      (λ (t : leb (length ns) 341 ≡ true).
      let few = leb-true (length ns) 341 t in
      take_all k ns (omega arith) ∙ sym (take_all 341 ns few))
      (λ (t : leb (length ns) 341 ≡ false).
      let many = leb-false (length ns) 341 t in
      let n : k ≡ 341 = omega arith in
      ap (λ (m : ℕ). take m ns) n)
      (cases (leb (length ns) 341))

-- what is said of the bytes of a list's front is promised of the list
pub numbers-written : (ns buf bs : List ℕ) (k : ℕ) (o : Wrote) → k ≡ min (length ns) 341 → bs ≡ bytes_for (take k ns) → o ≡ write_read buf bs (read_sheet bs)
    → WritePromise ns buf o
numbers-written ns buf bs k o e laid said =
    let e : bs ≡ bytes_for (take 341 ns) = laid ∙ ap bytes_for (front-as ns k e) in
    subst (WritePromise ns buf) (sym (said ∙ ap (λ (l : List ℕ). write_read buf l (read_sheet l)) e ∙ front-reply ns buf)) (write-promise ns buf)

-- and what is said of the bytes of all, at once
pub all-written : (ns buf bs : List ℕ) (o : Wrote) → bs ≡ bytes_for ns → o ≡ write_read buf bs (read_sheet bs) → WritePromise ns buf o
unfolding write_reply
all-written ns buf bs o laid said =
    subst (WritePromise ns buf) (sym (said ∙ ap (λ (l : List ℕ). write_read buf l (read_sheet l)) laid)) (write-promise ns buf)
