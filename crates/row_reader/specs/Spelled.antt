-- Which bytes spell which fields.
use Rattle.std.specs.Prelude.{◌≡◌, ◌≢◌, ◌++◌, ◌⊎◌, ◌∷◌, ℕ, List, [], if◌then◌else◌, ◌==◌}

-- the bytes, with each double quote doubled
abbrev pub doubled : List ℕ → List ℕ
doubled [] = []
doubled (b ∷ bs) = if b == 34 then 34 ∷ 34 ∷ doubled bs else b ∷ doubled bs

-- no byte is a double quote or a comma
abbrev pub IsBare : List ℕ → Type 0
IsBare [] = Unit {0}
IsBare (b ∷ bs) = (b ≢ 34) × (b ≢ 44) × IsBare bs

-- a field stands as it is, where it is bare, or between double quotes, with each double quote of its own doubled
abbrev pub SpellsField : List ℕ → List ℕ → Type 0
SpellsField text field = ((text ≡ field) × IsBare field) ⊎ (text ≡ 34 ∷ (doubled field ++ 34 ∷ []))

-- the fields, at least one, are joined by commas: `a,"b,""c"""` spells the fields `a` and `b,"c"`
abbrev pub SpellsFields : List ℕ → List (List ℕ) → Type 0
SpellsFields line [] = ⊥
SpellsFields line (f ∷ []) = SpellsField line f
SpellsFields line (f ∷ g ∷ gs) = (text : List ℕ) × (rest : List ℕ) × (line ≡ text ++ 44 ∷ rest) × SpellsField text f × SpellsFields rest (g ∷ gs)
