-- The operands of steps: what registers hold for one row of a block.
use Rattle.std.proofs.Common.{◌≡◌, ℕ, zero, suc, ◌-◌, ◌<◌, ◌≤◌, ◌&&◌, ◌++◌, set, Some, false, List, [], ◌∷◌, map, length, get_or, pos, refl, ap, sym, ◌∙◌, subst, arith}
use Rattle.std.specs.Prelude.{slice_get}
use Rattle.tw_rows.specs.declared.cells.Datum.TheVariants.{Int}
use Rattle.tw_rows.specs.declared.kind.CellKind.{CellKind}
use Rattle.tw_rows.specs.declared.kind.CellKind.TheVariants.{Whole, Bit, Place}
use Rattle.tw_rows.specs.Cells.{datum_kind, read_datum, read_cells, IsPlaced, ArePlaced}
use Rattle.plan_model.specs.Expr.{zero_value, holds}
use Rattle.plan_model.specs.declared.expr.ExprNode.{ExprNode}
use Rattle.batch.specs.Rows.{Row, cell_column}
use Rattle.lane_expr.specs.Kernels.{HoldsPlaces}
use Rattle.lane_expr.proofs.Stepping.{ArePlaced-or_zero, read-get_or}
use Rattle.std.proofs.lemmas.List.{length-map}
use Rattle.plan_model.specs.Typed.{IsOperand, node_kind, kind_of}
use Rattle.lane_expr.specs.declared.step.Step.{Step}
use Rattle.lane_expr.specs.Steps.{expr_of, step_kind}
use Rattle.lane_expr.proofs.Typing.{kinds-texts, length-expr_of}
use Rattle.lane_expr.specs.declared.registers.Register.{Register}
use Rattle.lane_expr.specs.Running.{operand, no_row, cells_of}
use Rattle.lane_expr.specs.Registers.{datum_of, datum_at, IsOccupied, is_met_at}

-- an operand of the kind is what its register holds
pub operand_is : (texts : List (List ℕ)) (j : ℕ) (before : List Register) (i : ℕ) (d : Register) (k : CellKind) → IsOperand (map (λ r. r.kind) before) i k → operand texts (map (datum_at j) before) i ≡ read_datum texts (datum_of k (get_or before i d) j)
operand_is texts j [] i d k e = absurd (cc)
operand_is texts j (r ∷ rs) zero d k e = ap (λ n. read_datum texts (datum_of n r j)) (inside e)
  where
    inside : Some r.kind ≡ Some k → r.kind ≡ k
    inside h = cc
operand_is texts j (r ∷ rs) (suc i) d k e = operand_is texts j rs i d k e

-- the kind of what a register holds is the register's
pub kind_at : (j : ℕ) (rs : List Register) (i : ℕ) → datum_kind (get_or (map (datum_at j) rs) i (Int (pos 0))) ≡ get_or (map (λ r. r.kind) rs) i Whole
kind_at j [] i = refl
kind_at j (r ∷ rs) zero = of r.kind
  where
    of : (k : CellKind) → datum_kind (datum_of k r j) ≡ k
    of Whole = refl
    of Bit = refl
    of Place = refl
kind_at j (r ∷ rs) (suc i) = kind_at j rs i

-- an operand is what its register holds, whatever its kind is
pub operand_at : (texts : List (List ℕ)) (j : ℕ) (before : List Register) (i : ℕ) (d : Register) → i < length before → operand texts (map (datum_at j) before) i ≡ read_datum texts (datum_at j (get_or before i d))
operand_at texts j [] i d lt = absurd (omega arith)
operand_at texts j (r ∷ rs) zero d lt = refl
operand_at texts j (r ∷ rs) (suc i) d lt = operand_at texts j rs i d (omega arith)

pub placed_at : (texts : List (List ℕ)) (j : ℕ) (before : List Register) (i : ℕ) (d : Register) → ArePlaced texts (map (datum_at j) before) → i < length before → IsPlaced texts (datum_at j (get_or before i d))
placed_at texts j [] i d h lt = absurd (omega arith)
placed_at texts j (r ∷ rs) zero d h lt = h.0
placed_at texts j (r ∷ rs) (suc i) d h lt = placed_at texts j rs i d h.1 (omega arith)

-- ---- the rows of a batch
pub occupied_at : (rows : List Row) (i : ℕ) → get_or (map (λ r. r.occupied) rows) i false ≡ (get_or rows i no_row).occupied
occupied_at [] i = refl
occupied_at (r ∷ rs) zero = refl
occupied_at (r ∷ rs) (suc i) = occupied_at rs i

pub occupied_within : (rows : List Row) (i : ℕ) → IsOccupied rows i → i < length rows
occupied_within [] i on = absurd (cc)
occupied_within (r ∷ rs) zero on = omega arith
occupied_within (r ∷ rs) (suc i) on = let h = occupied_within rs i on in omega (arith, h)

no_row_past : (rows : List Row) (i : ℕ) → length rows ≤ i → get_or rows i no_row ≡ no_row
no_row_past [] i ge = refl
no_row_past (r ∷ rs) zero ge = absurd (omega arith)
no_row_past (r ∷ rs) (suc i) ge = no_row_past rs i (omega arith)

-- no test is true past the rows
pub not_met_past : (texts : List (List ℕ)) (test : List ExprNode) (rows : List Row) (i : ℕ) → length rows ≤ i → is_met_at texts test rows i ≡ false
not_met_past texts test rows i ge = ap (λ r. r.occupied && holds test (read_cells texts r.cells)) (no_row_past rows i ge)

pub cell_at : (rows : List Row) (column i : ℕ) → get_or (cell_column rows column) i (Int (pos 0)) ≡ get_or (cells_of rows i) column (Int (pos 0))
cell_at [] column i = refl
cell_at (r ∷ rs) column zero = refl
cell_at (r ∷ rs) column (suc i) = cell_at rs column i

-- what stands at a place
pub item_is : {X : Type 0} (xs : List X) (i : ℕ) (x d : X) → slice_get xs i ≡ Some x → get_or xs i d ≡ x
item_is [] i x d e = absurd (cc)
item_is (y ∷ ys) zero x d e = inside e
  where
    inside : Some y ≡ Some x → y ≡ x
    inside h = cc
item_is (y ∷ ys) (suc i) x d e = item_is ys i x d e

module _ (texts : List (List ℕ)) (rows : List Row) (kinds : List CellKind) (column i : ℕ) (k : CellKind) (kind : slice_get kinds column ≡ Some k) where
  -- the cell of a row, read
  pub cell_read : (r : Register) (j : ℕ) → datum_of k r j ≡ get_or (cell_column rows column) i (Int (pos 0)) → read_datum texts (datum_of (get_or kinds column Whole) r j) ≡ get_or (read_cells texts (cells_of rows i)) column zero_value
  cell_read r j is =
      ap (λ n. read_datum texts (datum_of n r j)) (item_is kinds column k Whole kind) ∙ ap (read_datum texts) (is ∙ cell_at rows column i) ∙ sym (read-get_or texts (cells_of rows i) column)

  pub cell_placed : (r : Register) (j : ℕ) → datum_of k r j ≡ get_or (cell_column rows column) i (Int (pos 0)) → HoldsPlaces texts rows → IsOccupied rows i → IsPlaced texts (datum_of (get_or kinds column Whole) r j)
  cell_placed r j is holds on =
      subst (λ n. IsPlaced texts (datum_of n r j)) (sym (item_is kinds column k Whole kind)) (subst (IsPlaced texts) (sym (is ∙ cell_at rows column i))
      (ArePlaced-or_zero texts (cells_of rows i) column (holds i no_row (occupied_within rows i on) on)))

-- ---- registers one after another
-- the datum of the register that is written behind the first ones
pub written_at : (j : ℕ) (front back : List Register) (r : Register) (to : ℕ) → length front ≡ to → 0 < length back → get_or (map (datum_at j) (front ++ set back 0 r)) to (Int (pos 0)) ≡ datum_at j r
written_at j [] [] r to e some = absurd (omega arith)
written_at j [] (b ∷ bs) r zero e some = refl
written_at j [] (b ∷ bs) r (suc to) e some = absurd (omega arith)
written_at j (x ∷ xs) back r zero e some = absurd (omega arith)
written_at j (x ∷ xs) back r (suc to) e some = written_at j xs back r to (omega arith) some

pub kind_behind : (front back : List Register) (to : ℕ) (d : Register) → length front ≡ to → 0 < length back → (get_or back 0 d).kind ≡ get_or (map (λ r. r.kind) (front ++ back)) to Whole
kind_behind [] [] to d e some = absurd (omega arith)
kind_behind [] (b ∷ bs) zero d e some = refl
kind_behind [] (b ∷ bs) (suc to) d e some = absurd (omega arith)
kind_behind (x ∷ xs) back zero d e some = absurd (omega arith)
kind_behind (x ∷ xs) back (suc to) d e some = kind_behind xs back to d (omega arith) some

pub datum_behind : (j : ℕ) (front back : List Register) (to : ℕ) (d : Register) → length front ≡ to → 0 < length back → datum_at j (get_or back 0 d) ≡ get_or (map (datum_at j) (front ++ back)) to (Int (pos 0))
datum_behind j [] [] to d e some = absurd (omega arith)
datum_behind j [] (b ∷ bs) zero d e some = refl
datum_behind j [] (b ∷ bs) (suc to) d e some = absurd (omega arith)
datum_behind j (x ∷ xs) back zero d e some = absurd (omega arith)
datum_behind j (x ∷ xs) back (suc to) d e some = datum_behind j xs back to d (omega arith) some

-- what a register of a known kind holds
pub datum_is : (j : ℕ) (rs : List Register) (i : ℕ) (d : Register) (k : CellKind) → i < length rs → get_or (map (λ r. r.kind) rs) i Whole ≡ k → get_or (map (datum_at j) rs) i (Int (pos 0)) ≡ datum_of k (get_or rs i d) j
datum_is j [] i d k lt e = absurd (omega arith)
datum_is j (r ∷ rs) zero d k lt e = ap (λ n. datum_of n r j) e
datum_is j (r ∷ rs) (suc i) d k lt e = datum_is j rs i d k (omega arith) e

-- the kind of the last register is that of the expression
pub last_kind : (columns : List CellKind) (rs : List Register) (ss : List Step) (k : CellKind) → map (λ r. r.kind) rs ≡ map (step_kind columns) ss → kind_of (expr_of [] ss) columns ≡ k → get_or (map (λ r. r.kind) rs) (length ss - 1) Whole ≡ k
last_kind columns rs ss k kinds is =
    ap (λ ks. get_or ks (length ss - 1) Whole) (kinds ∙ sym (kinds-texts columns [] ss))
    ∙ ap (λ n. get_or (map (node_kind columns) (expr_of [] ss)) (n - 1) Whole) (sym (length-expr_of [] ss)) ∙ is

pub as_many : (columns : List CellKind) (rs : List Register) (ss : List Step) → map (λ r. r.kind) rs ≡ map (step_kind columns) ss → length rs ≡ length ss
as_many columns rs ss kinds = sym (length-map rs (λ (r : Register). r.kind)) ∙ ap length kinds ∙ length-map ss (step_kind columns)
