-- The words of a line of bytes, and what a word says: a number in decimal digits, or bytes in hexadecimal ones. Definitions only.
use Rattle.std.specs.Prelude.{ℕ, zero, suc, ◌+◌, ◌-◌, ◌*◌, ◌^◌, ◌≤◌, ◌≡◌, Bool, true, false, cond, not, Option, Some, None, List, [], ◌∷◌, ◌++◌, length, get_or, take, drop, ltb, leb, eqb}
use Rattle.std.specs.List.{prefix_len}
use Rattle.std.specs.Str.{bytes_eq}

-- ---- words
-- whether a byte belongs to these: blanks and tabs (true), or all others (false)
unfoldable pub passed : Bool → ℕ → Bool
passed blanks b = cond (eqb b 32) blanks (cond (eqb b 9) blanks (not blanks))

-- how many bytes at the front do
abbrev pub run : Bool → List ℕ → ℕ
run blanks = prefix_len (passed blanks)

-- a line without the carriage return at its end
unfoldable pub trimmed_line : List ℕ → List ℕ
trimmed_line s = cond (eqb (get_or s (length s - 1) 0) 13) (take (length s - 1) s) s

-- where the blanks from a place on end; and where what is not blank does
abbrev pub word_from : List ℕ → ℕ → ℕ
word_from s at = at + run true (drop at s)

abbrev pub word_end : List ℕ → ℕ → ℕ
word_end s at = at + run false (drop at s)

-- where the n-th word starts, counted from 0; the line's length where there is none
unfoldable pub start_of : List ℕ → ℕ → ℕ
start_of s zero = word_from s 0
start_of s (suc n) = word_from s (word_end s (start_of s n))

-- the n-th word; empty where there is none
unfoldable pub word_at : List ℕ → ℕ → List ℕ
word_at s n = take (run false (drop (start_of s n) s)) (drop (start_of s n) s)

-- whether a first word lets its line be passed over: none at all, or one that starts with #
unfoldable pub remark : List ℕ → Bool
remark w = cond (ltb 0 (length w)) (eqb (get_or w 0 0) 35) true

-- ---- digits
-- the value of a digit, 0 to 9, A to F or a to f
unfoldable pub digit_of : ℕ → Option ℕ
digit_of b =
    cond (ltb b 48) None
    (cond (leb b 57) (Some (b - 48))
    (cond (ltb b 65) None
    (cond (leb b 70) (Some (b - 55))
    (cond (ltb b 97) None
    (cond (leb b 102) (Some (b - 87)) None)))))

-- ---- numbers
-- a number with one more digit, where that is decimal and the number still fits 64 bits
unfoldable pub with_digit : ℕ → Option ℕ → Option ℕ
with_digit n None = None
with_digit n (Some d) = cond (ltb d 10) (cond (ltb (n * 10 + d) (2 ^ 64)) (Some (n * 10 + d)) None) None

abbrev pub then_digit : Option ℕ → Option ℕ → Option ℕ
then_digit None d = None
then_digit (Some n) d = with_digit n d

-- digits behind what was said before them
unfoldable pub and_digits : List ℕ → Option ℕ → Option ℕ
and_digits [] r = r
and_digits (b ∷ s) r = and_digits s (then_digit r (digit_of b))

-- a word says a number if it is one decimal digit or more, and the number fits 64 bits
unfoldable pub number_said : List ℕ → Option ℕ
number_said w = cond (eqb (length w) 0) None (and_digits w (Some 0))

-- a number that is not above the most
unfoldable pub within : ℕ → Option ℕ → Option ℕ
within most None = None
within most (Some n) = cond (leb n most) (Some n) None

-- ---- bytes
-- the byte that two hexadecimal digits say
abbrev pub two_digits : Option ℕ → Option ℕ → Option ℕ
two_digits None l = None
two_digits (Some h) None = None
two_digits (Some h) (Some l) = Some (h * 16 + l)

unfoldable pub pair_said : ℕ → ℕ → Option ℕ
pair_said h l = two_digits (digit_of h) (digit_of l)

abbrev pub in_front : Option ℕ → Option (List ℕ) → Option (List ℕ)
in_front None bs = None
in_front (Some b) None = None
in_front (Some b) (Some bs) = Some (b ∷ bs)

-- the bytes of hexadecimal digits, two each
unfoldable pub paired : List ℕ → Option (List ℕ)
paired [] = Some []
paired (h ∷ []) = None
paired (h ∷ l ∷ s) = in_front (pair_said h l) (paired s)

-- the bytes that a word says; a - says that there are none
unfoldable pub bytes_said : List ℕ → Option (List ℕ)
bytes_said w = cond (bytes_eq w (45 ∷ [])) (Some []) (paired w)

-- they stand at the front of the buffer, and r is how many they are; or they do not fit it or none are said, and r is none
abbrev pub Laid : Option (List ℕ) → List ℕ → List ℕ → Option ℕ → Type 0
Laid None old new r = r ≡ None
Laid (Some bs) old new r = (r ≡ cond (leb (length bs) (length old)) (Some (length bs)) None) × (length bs ≤ length old → new ≡ bs ++ drop (length bs) old)
