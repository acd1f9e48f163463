-- `model::elements::Elements::write`: section by section, each in the part of the buffer behind the last.
use Rattle.std.proofs.Common.{ℕ, ◌+◌, ◌*◌, ◌-◌, ◌≤◌, ◌<◌, ◌≡◌, List, [], ◌∷◌, ◌++◌, length, take, drop, refl, sym, ◌∙◌, ap, ap₂, arith, length-append}
use Rattle.std.proofs.Math.ListN.{set, length-set}
use Rattle.alc.specs.Lists.{each}
use Rattle.alc.specs.Sheet.{Sheet}
use Rattle.alc.specs.declared.Label.{Label}
use Rattle.alc.specs.Settle as theory
use Rattle.model.specs.Laid.{masks_of, words_of}
use Rattle.model.specs.Elements.{sheet_in, count_in, labels_in, seeds_in, edges_in}
use Rattle.model.proofs.Worded.{written, length-written, written_next, written-part, size, edges_few, edges-length, edge-words, masks-length, words-length, words-by-parts}
use Rattle.model.proofs.elements.Elements.write.Goals as goal
use Rattle.model.proofs.elements.Elements.write.Goals.{After-count-elements}

module _ (b : After-count-elements) where
  abbrev sheet : Sheet
  sheet = sheet_in b.args.self.now

  abbrev joint : theory.Joint
  joint = labels_in b.args.self.now

  abbrev seed_list : List Label
  seed_list = seeds_in b.args.self.now

  abbrev masks : List ℕ
  masks = masks_of sheet joint seed_list

  abbrev model : List (List ℕ)
  model = edges_in b.args.self.now

  abbrev elements : ℕ
  elements = b.count-elements.result

  abbrev buffer : List ℕ
  buffer = b.args.out.now

  as-told : elements ≡ count_in b.args.self.now
  as-told = b.count-elements.ensures.0

  as-many : size sheet joint seed_list ≡ elements
  as-many = sym b.count-elements.ensures.2

  few-edges : b.args.edges < 4294967296
  few-edges = omega (arith, b.requires.edges_value, edges_few sheet joint seed_list (omega (arith, b.count-elements.ensures, as-many)))

  fits : 2 + elements + 3 * length model ≤ length buffer
  fits = omega (arith, b.requires.edges_in_bounds, b.requires.edges_value, as-told)

  -- the buffer with the number of elements; `mid` is what is left of the part for the masks, and that part goes back into the buffer
  abbrev counted : List ℕ
  counted = set buffer 0 elements

  abbrev masked : List ℕ → List ℕ
  masked mid = take 1 counted ++ (mid ++ drop (length counted - 1) (drop 1 counted))

  abbrev edged : List ℕ → List ℕ
  edged mid = set (masked mid) (1 + elements) b.args.edges

  first : counted ≡ written (elements ∷ []) buffer
  first = written_next [] buffer 0 refl elements (omega (arith, fits))

  module _ (mid : List ℕ) (e : mid ≡ masks ++ drop (count_in b.args.self.now) (take (length counted - 1) (drop 1 counted))) where
    second : masked mid ≡ written ((elements ∷ []) ++ masks) buffer
    second = written-part (elements ∷ []) buffer 1 refl masks counted mid first
        (e ∙ ap (λ (k : ℕ). masks ++ drop k (take (length counted - 1) (drop 1 counted))) (sym (masks-length sheet joint seed_list ∙ as-many ∙ as-told)))

    second-length : 1 + elements ≡ length ((elements ∷ []) ++ masks)
    second-length = omega (arith, masks-length sheet joint seed_list, as-many, as-told)

    masked-length : length (masked mid) ≡ length buffer
    masked-length = ap length second ∙ length-written ((elements ∷ []) ++ masks) buffer (omega (arith, fits, second-length))

    third : edged mid ≡ written (((elements ∷ []) ++ masks) ++ (b.args.edges ∷ [])) buffer
    third = ap (λ (l : List ℕ). set l (1 + elements) b.args.edges) second
        ∙ written_next ((elements ∷ []) ++ masks) buffer (1 + elements) second-length b.args.edges (omega (arith, fits))

    third-length : 1 + elements + 1 ≡ length (((elements ∷ []) ++ masks) ++ (b.args.edges ∷ []))
    third-length = omega (arith, second-length, length-append ((elements ∷ []) ++ masks) (b.args.edges ∷ []))

    edged-length : length (edged mid) ≡ length buffer
    edged-length = length-set (masked mid) (1 + elements) b.args.edges ∙ masked-length

    fourth : (end : List ℕ) → end ≡ each (λ e. e) model ++ drop (3 * length model) (take (length (edged mid) - (1 + elements + 1)) (drop (1 + elements + 1) (edged mid)))
        → take (1 + elements + 1) (edged mid) ++ (end ++ drop (length (edged mid) - (1 + elements + 1)) (drop (1 + elements + 1) (edged mid)))
        ≡ words_of sheet joint seed_list ++ drop (2 + b.args.self.now.joint.count + b.args.self.now.seeds + 3 * b.args.edges) buffer
    fourth end f =
        let E = each (λ e. e) model in
        let X = ((elements ∷ []) ++ masks) ++ (b.args.edges ∷ []) in
        let lent = take (length (edged mid) - (1 + elements + 1)) (drop (1 + elements + 1) (edged mid)) in
        let threes : 3 * length model ≡ length E = sym (ap length (edge-words sheet joint seed_list) ∙ edges-length sheet joint seed_list) in
        let same : X ++ E ≡ words_of sheet joint seed_list =
        ap₂ (λ (n e : ℕ). (((n ∷ []) ++ masks) ++ (e ∷ [])) ++ E) (sym as-many) b.requires.edges_value ∙ words-by-parts sheet joint seed_list in
        let long : length (words_of sheet joint seed_list) ≡ 2 + b.args.self.now.joint.count + b.args.self.now.seeds + 3 * b.args.edges =
        omega (arith, words-length sheet joint seed_list, as-many, as-told, b.requires.edges_value) in
        written-part X buffer (1 + elements + 1) third-length E (edged mid) end third (f ∙ ap (λ (k : ℕ). E ++ drop k lent) threes)
        ∙ ap (λ (l : List ℕ). written l buffer) same ∙ ap (λ (k : ℕ). words_of sheet joint seed_list ++ drop k buffer) long

pub overflow_cast-out-2 : goal.overflow_cast-out-2
overflow_cast-out-2 c = omega (arith, few-edges (goal.at.overflow_cast-out-2 c).After-count-elements)

pub returns : goal.returns
returns c = fourth (goal.at.returns c).After-count-elements c.write_masks.new.out c.write_masks.ensures c.write_edges.new.out c.write_edges.ensures
