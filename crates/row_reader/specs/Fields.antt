-- The fields of a line, as they are read one after the other.
use Rattle.std.specs.Prelude.{ℕ, List, [], ◌∷◌, drop, Some, None, if◌then◌else◌, ◌==◌}
use Rattle.csv.specs.Records.{fields_of}
use Rattle.row_reader.specs.declared.fields.Fields.{Fields}
use Rattle.row_reader.specs.declared.fields.Fields.TheVariants.{Plain, Record}

-- a byte before the first of the fields
abbrev pub before_first : ℕ → List (List ℕ) → List (List ℕ)
before_first b [] = (b ∷ []) ∷ []
before_first b (f ∷ fs) = (b ∷ f) ∷ fs

-- the parts between the commas of a text: of `a,,b` they are `a`, nothing and `b`
unfoldable pub commas : List ℕ → List (List ℕ)
commas [] = [] ∷ []
commas (b ∷ bs) = if b == 44 then [] ∷ commas bs else before_first b (commas bs)

-- the fields that are still to be read
abbrev pub left : Fields → List (List ℕ)
left (Plain None) = []
left (Plain (Some text)) = commas text.now
left (Record r next) = drop next (fields_of r.now)
