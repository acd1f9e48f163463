-- The edges from one element as keys, and what they stand for. Definitions only.
use Rattle.std.specs.Prelude.{ℕ, ◌+◌, ◌*◌, ◌/◌, ◌%◌, true, false, ◌||◌, cond, List, [], ◌∷◌, length, take, ltb, eqb}
use Rattle.alc.specs.Lists.{◌∈◌, any, each, up_to}
use Rattle.alc.specs.declared.RoleAssertion.{RoleAssertion}
use Rattle.alc.specs.Sheet.{Sheet, role_count}
use Rattle.alc.specs.declared.Label.{Label}
use Rattle.alc.specs.Settle.{Joint}
use Rattle.alc.specs.declared.Ask.{Ask}
use Rattle.alc.specs.Seeds.{asks, seeds}
use Rattle.alc.specs.Model.{leads, asserted}
use Rattle.edges.specs.declared.keys.Edges.{Edges}
use Rattle.edges.specs.declared.recorded.Recorded.{Recorded}
use Rattle.tableau.specs.Records.{word_of, found_at}

-- role · 8192 + to
abbrev pub key_of : ℕ → ℕ → ℕ
key_of r y = r * 8192 + y

abbrev pub keys_of : Edges → List ℕ
keys_of e = take e.count e.keys

-- an ascending list with one key more, unless it is there
abbrev pub insert_key : ℕ → List ℕ → List ℕ
insert_key k [] = k ∷ []
insert_key k (x ∷ xs) = elim (ltb k x) [ true ↦ k ∷ x ∷ xs | false ↦ elim (eqb k x) [ true ↦ x ∷ xs | false ↦ x ∷ insert_key k xs ] ]

-- with many more
abbrev pub insert_keys : List ℕ → List ℕ → List ℕ
insert_keys ks [] = ks
insert_keys ks (k ∷ more) = insert_keys (insert_key k ks) more

-- the element of a seed, by the records: the first `seeds` of them are the elements from `first` on
abbrev pub element_of : Recorded → Label → ℕ
element_of r l = r.first + found_at r.records.now r.seeds (word_of l)

-- the key of an ask
abbrev pub ask_key : Recorded → Ask → ℕ
ask_key r q = key_of q.role (element_of r q.seed)

-- the key of a role assertion, if it is one from x
abbrev pub keys_along : ℕ → RoleAssertion → List ℕ
keys_along x e = cond (eqb e.source x) (key_of e.role e.target ∷ []) []

-- an edge of the model from x, of the key's role and to
abbrev pub edge_of : ℕ → ℕ → List ℕ
edge_of x k = x ∷ k / 8192 ∷ k % 8192 ∷ []

-- the edges from x, whose label is l, sorted by role and to: one row of model_edges
unfoldable pub edges_from : Sheet → Joint → List Label → Label → ℕ → List (List ℕ)
edges_from s J B l x =
    each (λ r. each (λ y. cond (any (leads J B r y) (asks s l) || any (asserted r x y) s.roles) ((x ∷ r ∷ y ∷ []) ∷ []) []) (up_to (length J + length B)))
    (up_to role_count)

-- all seeds of a settled label are recorded
abbrev pub SeedsIn : Sheet → Label → List Label → Type 0
SeedsIn s k C = (q : Label) → q ∈ seeds s k → q ∈ C
