-- What one line of a settled label hands along a role and asks for, as the code has it. Definitions only.
use Rattle.std.specs.Prelude.{ℕ, ◌<◌, List, [], ◌∷◌}
use Rattle.alc.specs.Bits.{members}
use Rattle.std.specs.Prelude.{Option as Maybe, None as nothing, Some as just}
use Rattle.alc.specs.Lists.{◌∈◌}
use Rattle.alc.specs.Sheet.{Sheet, count, line}
use Rattle.alc.specs.declared.Label.{Label}
use Rattle.alc.specs.declared.Mark.{Mark}
use Rattle.alc.specs.declared.Mark.TheVariants.{Holds as holds, Fails as fails}
use Rattle.alc.specs.Label.{has, handed}
use Rattle.alc.specs.declared.Ask.{Ask}
use Rattle.alc.specs.Seeds.{seed_of, asks_of}

-- one or none, as a list
abbrev pub listed : {A : Type 0} → Maybe A → List A
listed nothing = []
listed (just x) = x ∷ []

abbrev pub handed_at : Sheet → ℕ → Label → ℕ → List Mark
handed_at s r l i = handed r (has l (holds i)) (has l (fails i)) (line s i)

abbrev pub ask_for : Sheet → Label → ℕ → Mark → Ask
ask_for s l r m = record { role = r; seed = seed_of s l r m }

abbrev pub asks_at : Sheet → Label → ℕ → List Ask
asks_at s l i = asks_of s l (has l (holds i)) (has l (fails i)) (line s i)

-- the members of a set are lines of the sheet
abbrev pub AreLines : Sheet → ℕ → Type 0
AreLines s set = (i : ℕ) → i ∈ members 32 set → i < count s
