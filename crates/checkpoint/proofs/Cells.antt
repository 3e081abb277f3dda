-- Cells that are read one after the other.
use Rattle.std.proofs.Common.{◌≡◌, ◌<◌, List, [], ◌∷◌, ◌++◌, ℕ, zero, suc, length, drop, Option, Some, None, sym, ◌∙◌, ap, arith}
use Rattle.tw_rows.specs.declared.cells.Datum.{Datum}
use Rattle.tw_rows.specs.declared.kind.CellKind.{CellKind}
use Rattle.checkpoint.specs.Reading.{cells_of}

-- data, and then those of the rest
abbrev pub then_cells : List Datum → Option (List Datum) → Option (List Datum)
then_cells ds None = None
then_cells ds (Some es) = Some (ds ++ es)

-- a field is wanting
pub none_left : (all : Option (List Datum)) (kinds : List CellKind) (n : ℕ) (fs : List (List ℕ)) (ds : List Datum) → all ≡ then_cells ds (cells_of (drop n kinds) fs) → n < length kinds → fs ≡ [] → None ≡ all
none_left all [] n fs ds so_far low none = absurd (omega (arith, low))
none_left all (k ∷ ks) zero fs ds so_far low none = sym (so_far ∙ ap (λ (l : List (List ℕ)). then_cells ds (cells_of (k ∷ ks) l)) none)
none_left all (k ∷ ks) (suc n) fs ds so_far low none = none_left all ks n fs ds so_far (omega (arith, low)) none
