-- What the registers of a kernel hold for the rows of a block.
use Rattle.std.specs.Prelude.{◌≡◌, ℕ, ◌<◌, ◌&&◌, Bool, true, false, pos, List, [], map, length, slice_index_or}
use Rattle.std.specs.declared.cmp.Ordering.{Ordering}
use Rattle.std.specs.Ordering.{nat_cmp}
use Rattle.std.specs.Cmp.Lexicographic.{slice_cmp}
use Rattle.occupancy.specs.Bits.{test}
use Rattle.lane_expr.specs.Lanes.{number, place}
use Rattle.tw_rows.specs.declared.cells.Datum.{Datum}
use Rattle.tw_rows.specs.declared.cells.Datum.TheVariants.{Int, Bool as Flag, Text}
use Rattle.tw_rows.specs.declared.kind.CellKind.{CellKind}
use Rattle.tw_rows.specs.declared.kind.CellKind.TheVariants.{Whole, Bit, Place}
use Rattle.tw_rows.specs.Cells.{read_cells}
use Rattle.plan_model.specs.declared.expr.ExprNode.{ExprNode}
use Rattle.plan_model.specs.Expr.{holds}
use Rattle.batch.specs.Rows.{Row}
use Rattle.lane_expr.specs.declared.registers.Register.{Register}
use Rattle.lane_expr.specs.declared.step.Step.{Step}
use Rattle.lane_expr.specs.declared.step.Step.TheVariants.{Column, Constant}
use Rattle.lane_expr.specs.Running.{no_row}

-- the datum for row j of the block, where the results are of the kind: the number of lane j, bit j or the place of lane j
abbrev pub datum_of : CellKind → Register → ℕ → Datum
datum_of Whole r j = Int (number r.numbers.lanes j)
datum_of Bit r j = Flag (test r.bits j)
datum_of Place r j = Text (place r.places.lanes j)

abbrev pub datum_at : ℕ → Register → Datum
datum_at j r = datum_of r.kind r j

-- a row stands at the place, and it is occupied
abbrev pub IsOccupied : List Row → ℕ → Type 0
IsOccupied rows at = (slice_index_or rows at no_row).occupied ≡ true

-- a step whose results are the same for each row
abbrev pub is_constant : Step → Bool
is_constant (Constant d) = true
is_constant _ = false

-- how the results in registers are stored
abbrev pub kinds_in : List Register → List CellKind
kinds_in registers = map (λ r. r.kind) registers

-- the datum that the register of the step of number i holds for row j
abbrev pub datum_in : List Register → ℕ → ℕ → Datum
datum_in registers i j = slice_index_or (map (datum_at j) registers) i (Int (pos 0))

-- the register of each constant holds it for each row
abbrev pub AreFilled : List Step → List Register → Type 0
AreFilled steps registers = (i j : ℕ) → j < 64 → (d : Datum) → slice_index_or steps i (Column 0) ≡ Constant d → datum_in registers i j ≡ d

-- at each marked row the place is that of a text of the table: of the marks of rows 0 and 2, the places of these two are looked at
abbrev pub AreTexts : List (List ℕ) → ℕ → List ℕ → Type 0
AreTexts texts marks places = (j : ℕ) → j < 64 → test marks j ≡ true → place places j < length texts

-- how the texts at two places of row j compare. With the texts `b`, `a`, the places 0 and 1 compare as greater
abbrev pub text_order : List (List ℕ) → List ℕ → List ℕ → ℕ → Ordering
text_order texts left right j = slice_cmp nat_cmp (slice_index_or texts (place left j) []) (slice_index_or texts (place right j) [])

-- the row at the place is occupied, and the test is true there
abbrev pub is_met_at : List (List ℕ) → List ExprNode → List Row → ℕ → Bool
is_met_at texts test rows at = (slice_index_or rows at no_row).occupied && holds test (read_cells texts (slice_index_or rows at no_row).cells)
