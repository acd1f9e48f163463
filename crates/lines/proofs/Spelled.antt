-- Laws of specs/Words.antt, each as a loop of the code takes it: what is left from a place on says what the whole says. Assumes nothing.
use Rattle.std.proofs.Common.{ℕ, suc, ◌+◌, ◌*◌, ◌/◌, ◌%◌, ◌≤◌, ◌<◌, arith, ◌≡◌, refl, sym, ap, subst, ◌∙◌, Bool, true, false, cond, Option, Some, None, List, [], ◌∷◌, ◌++◌, append-nil, length, get_or, take, drop, set, length-set, drop_of_length-le, take-append-drop, leb, eqb}
use native.Mathlib.Numerals.{add-one}
use lib.Seq.{drop-cons, drop-drop, drop-set-lt, take-suc-set, append_snoc, length-take-le}
use borrow.Author.Tests.{le-leb, lt-leb}
use Rattle.lines.specs.Words.{word_from, word_end, start_of, digit_of, with_digit, and_digits, number_said}
use Rattle.std.specs.Str.{bytes_eq}
use Rattle.lines.specs.Words.{pair_said, in_front, paired, bytes_said, Laid}

-- ---- words
module _ (s : List ℕ) where
  pub start_first : start_of s 0 ≡ word_from s 0
  unfolding start_of
  start_first = refl

  pub start_more : (k : ℕ) → start_of s (k + 1) ≡ word_from s (word_end s (start_of s k))
  unfolding start_of
  start_more k = ap (start_of s) (add-one k)

-- ---- numbers
none_stays : (s : List ℕ) → and_digits s None ≡ None
unfolding and_digits
none_stays [] = refl
none_stays (b ∷ s) = none_stays s

-- a digit more: n is what was said before place i
module _ (w : List ℕ) (n i : ℕ) (whole : Option ℕ) (g : and_digits (drop i w) (Some n) ≡ whole) where
  with-more : i < length w → and_digits (drop (suc i) w) (with_digit n (digit_of (get_or w i 0))) ≡ whole
  unfolding and_digits
  with-more h = sym (ap (λ (t : List ℕ). and_digits t (Some n)) (drop-cons w i 0 h)) ∙ g

  pub digits-turn : (m : ℕ) → i < length w → with_digit n (digit_of (get_or w i 0)) ≡ Some m → and_digits (drop (i + 1) w) (Some m) ≡ whole
  digits-turn m h e =
      subst (λ (j : ℕ). and_digits (drop j w) (Some m) ≡ whole) (sym (add-one i)) (sym (ap (and_digits (drop (suc i) w)) e) ∙ with-more h)

  pub digits-stop : i < length w → with_digit n (digit_of (get_or w i 0)) ≡ None → None ≡ whole
  digits-stop h e = sym (ap (and_digits (drop (suc i) w)) e ∙ none_stays (drop (suc i) w)) ∙ with-more h

  pub digits-end : length w ≤ i → Some n ≡ whole
  unfolding and_digits
  digits-end h = sym (ap (λ (t : List ℕ). and_digits t (Some n)) (drop_of_length-le w h)) ∙ g

-- a word of some digits, and one of none
pub number-some : (w : List ℕ) (r : Option ℕ) → eqb (length w) 0 ≡ false → r ≡ and_digits w (Some 0) → r ≡ number_said w
unfolding number_said
number-some w r h e = e ∙ sym (ap (λ (t : Bool). cond t None (and_digits w (Some 0))) h)

pub number-none : (w : List ℕ) → eqb (length w) 0 ≡ true → None ≡ number_said w
unfolding number_said
number-none w h = sym (ap (λ (t : Bool). cond t None (and_digits w (Some 0))) h)

-- ---- bytes
-- bytes laid before others
abbrev pub after : List ℕ → Option (List ℕ) → Option (List ℕ)
after xs None = None
after xs (Some bs) = Some (xs ++ bs)

after_one : (xs : List ℕ) (b : ℕ) (p : Option (List ℕ)) → after xs (in_front (Some b) p) ≡ after (xs ++ (b ∷ [])) p
after_one xs b None = refl
after_one xs b (Some bs) = ap Some (sym (append_snoc xs b bs))

module _ (w : List ℕ) where
  paired_at : (i : ℕ) → suc i < length w → paired (drop i w) ≡ in_front (pair_said (get_or w i 0) (get_or w (suc i) 0)) (paired (drop (suc (suc i)) w))
  unfolding paired
  paired_at i h = ap paired (drop-cons w i 0 (omega (arith, h)) ∙ ap (λ (t : List ℕ). get_or w i 0 ∷ t) (drop-cons w (suc i) 0 h))

  -- what the loop keeps: the bytes in front, and the rest of the buffer as it was
  pub record Laying (old : List ℕ) (k : ℕ) (new : List ℕ) : Type 0 where
    pub size : length old ≡ length new
    pub fits : k ≤ length old
    pub said : after (take k new) (paired (drop (2 * k) w)) ≡ paired w
    pub rest : drop k new ≡ drop k old

  module _ (old : List ℕ) (k : ℕ) (new : List ℕ) (g : Laying old k new) (h : 2 * k + 1 < length w) where
    two : paired (drop (2 * k) w) ≡ in_front (pair_said (get_or w (2 * k) 0) (get_or w (2 * k + 1) 0)) (paired (drop (2 * (k + 1)) w))
    two =
        let one : 2 * k + 1 ≡ suc (2 * k) = omega arith in
        let more : 2 * (k + 1) ≡ suc (suc (2 * k)) = omega arith in
        rw (one, more) (paired_at (2 * k) (omega (arith, h)))

    pub laying-turn : (b : ℕ) → pair_said (get_or w (2 * k) 0) (get_or w (2 * k + 1) 0) ≡ Some b → k < length old → Laying old (k + 1) (set new k b)
    laying-turn b e room =
        let more : k + 1 ≡ suc k = add-one k in
        let here : k < length new = omega (arith, room, g.size) in
        record {
          size = g.size ∙ sym (length-set new k b);
          fits = omega (arith, room);
          said =
              ap (λ (j : ℕ). after (take j (set new k b)) (paired (drop (2 * (k + 1)) w))) more
              ∙ ap (λ (t : List ℕ). after t (paired (drop (2 * (k + 1)) w))) (take-suc-set new k b here)
              ∙ sym (after_one (take k new) b (paired (drop (2 * (k + 1)) w)))
              ∙ ap (λ (t : Option ℕ). after (take k new) (in_front t (paired (drop (2 * (k + 1)) w)))) (sym e)
              ∙ ap (after (take k new)) (sym two)
              ∙ g.said;
          rest =
              drop-set-lt (k + 1) new k b (omega arith)
              ∙ sym (drop-drop 1 k new) ∙ ap (drop 1) g.rest ∙ drop-drop 1 k old;
        }

    pub not-laid : pair_said (get_or w (2 * k) 0) (get_or w (2 * k + 1) 0) ≡ None → Laid (paired w) old new None
    not-laid e =
        let no : paired w ≡ None =
        sym g.said ∙ ap (after (take k new)) two
        ∙ ap (λ (t : Option ℕ). after (take k new) (in_front t (paired (drop (2 * (k + 1)) w)))) e in
        subst (λ (p : Option (List ℕ)). Laid p old new None) (sym no) refl

  pub laying-ends : (old : List ℕ) (k : ℕ) (new : List ℕ) (r : ℕ) → Laying old k new → length w ≤ 2 * k → r ≡ k → Laid (paired w) old new (Some r)
  unfolding paired
  laying-ends old k new r g h q =
      let whole : paired w ≡ Some (take k new ++ []) = sym g.said ∙ ap (λ (t : List ℕ). after (take k new) (paired t)) (drop_of_length-le w h) in
      let xs : paired w ≡ Some (take k new) = whole ∙ ap Some (append-nil (take k new)) in
      let n : length (take k new) ≡ k = length-take-le k new (omega (arith, g.fits, g.size)) in
      let room : leb (length (take k new)) (length old) ≡ true = le-leb (length (take k new)) (length old) (omega (arith, n, g.fits)) in
      subst (λ (p : Option (List ℕ)). Laid p old new (Some r)) (sym xs) (
        ap Some (q ∙ sym n) ∙ sym (ap (λ (t : Bool). cond t (Some (length (take k new))) None) room),
        λ f. sym (take-append-drop k new) ∙ ap (λ (t : List ℕ). take k new ++ t) g.rest ∙ ap (λ (j : ℕ). take k new ++ drop j old) (sym n),
      )

-- an odd number of digits says no bytes
front-none : (b : Option ℕ) → in_front b None ≡ None
front-none None = refl
front-none (Some b) = refl

odd-none : (w : List ℕ) → length w % 2 ≡ 1 → paired w ≡ None
unfolding paired
odd-none [] h = absurd (omega (arith, h))
odd-none (x ∷ []) h = refl
odd-none (x ∷ y ∷ s) h = ap (in_front (pair_said x y)) (odd-none s (omega (arith, h))) ∙ front-none (pair_said x y)

pub laid-odd : (w old new : List ℕ) → length w % 2 ≡ 1 → Laid (paired w) old new None
laid-odd w old new h = subst (λ (p : Option (List ℕ)). Laid p old new None) (sym (odd-none w h)) refl

-- the bytes said are half as many as the digits
abbrev Halves : Option (List ℕ) → ℕ → Type 0
Halves None n = Unit {0}
Halves (Some bs) n = 2 * length bs ≡ n

halves-more : (b : Option ℕ) (p : Option (List ℕ)) (n : ℕ) → Halves p n → Halves (in_front b p) (suc (suc n))
halves-more None p n h = tt
halves-more (Some b) None n h = tt
halves-more (Some b) (Some bs) n h = omega (arith, h)

halves : (w : List ℕ) → Halves (paired w) (length w)
unfolding paired
halves [] = refl
halves (x ∷ []) = tt
halves (x ∷ y ∷ s) = halves-more (pair_said x y) (paired s) (length s) (halves s)

too_long : (p : Option (List ℕ)) (n : ℕ) (old new : List ℕ) → Halves p n → length old < n / 2 → Laid p old new None
too_long None n old new m h = refl
too_long (Some bs) n old new m h = (
  sym (ap (λ (t : Bool). cond t (Some (length bs)) None) (lt-leb (length bs) (length old) (omega (arith, m, h)))),
  λ f. absurd (omega (arith, m, h, f)),
)

pub laid-long : (w old new : List ℕ) → length old < length w / 2 → Laid (paired w) old new None
laid-long w old new = too_long (paired w) (length w) old new (halves w)

-- a word, by whether it is -
pub said-dash : (w old : List ℕ) → bytes_eq w (45 ∷ []) ≡ true → Laid (bytes_said w) old old (Some 0)
unfolding bytes_said
said-dash w old e =
    subst (λ (t : Bool). Laid (cond t (Some []) (paired w)) old old (Some 0)) (sym e)
    (sym (ap (λ (t : Bool). cond t (Some 0) None) (le-leb 0 (length old) (omega arith))), λ f. refl)

pub said-digits : (w old new : List ℕ) (r : Option ℕ) → bytes_eq w (45 ∷ []) ≡ false → Laid (paired w) old new r → Laid (bytes_said w) old new r
unfolding bytes_said
said-digits w old new r e h = subst (λ (t : Bool). Laid (cond t (Some []) (paired w)) old new r) (sym e) h
