-- What contracts see of a `Kernel`, and what its calls compute.
use Rattle.std.specs.Prelude.{◌≡◌, ℕ, ◌≤◌, ◌&&◌, Bool, true, List, [], ◌∷◌, map, length, All}
use Rattle.tw_rows.specs.declared.cells.Datum.{Datum}
use Rattle.tw_rows.specs.declared.kind.CellKind.{CellKind}
use Rattle.tw_rows.specs.declared.kind.CellKind.TheVariants.{Whole, Bit, Place}
use Rattle.tw_rows.specs.declared.kind.Kind.{Kind}
use Rattle.tw_rows.specs.declared.kind.Kind.TheVariants.{Int, Bool as Flag, Text}
use Rattle.tw_rows.specs.Cells.{IsPlaced, ArePlaced, read_datum, read_cells}
use Rattle.plan_model.specs.declared.expr.ExprNode.{ExprNode}
use Rattle.plan_model.specs.Expr.{value, holds}
use Rattle.batch.specs.Rows.{Row, Table}
use Rattle.lane_expr.specs.declared.step.Step.{Step}
use Rattle.plan_model.specs.Typed.{kind_of}
use Rattle.lane_expr.specs.Steps.{expr_of, AreStepsPlaced}

-- the steps of a kernel, how the cells of its columns are stored, and how many rows a batch may have
pub record Program : Type 0 where
  pub steps : List Step
  pub kinds : List CellKind
  pub capacity : ℕ

-- the kind of the kernel's results
abbrev pub result_kind : Program → CellKind
result_kind k = kind_of (expr_of [] k.steps) k.kinds

-- the kernel computes the expression, whose texts are read from the table
pub record IsKernelOf (texts : List (List ℕ)) (expr : List ExprNode) (k : Program) : Type 0 where
  pub same : expr_of texts k.steps ≡ expr
  pub placed : AreStepsPlaced texts k.steps

-- each occupied row's cells are placed in the table
abbrev pub HoldsPlaces : List (List ℕ) → List Row → Type 0
HoldsPlaces texts rows = All (λ r. r.occupied ≡ true → ArePlaced texts r.cells) rows

-- a batch that a kernel may read: of the kernel's kinds, with no more rows than its capacity; all places are in the table
pub record CanRead (texts : List (List ℕ)) (k : Program) (batch : Table) : Type 0 where
  pub kinds : batch.kinds ≡ k.kinds
  pub rows : length batch.rows ≤ k.capacity
  pub steps : AreStepsPlaced texts k.steps
  pub cells : HoldsPlaces texts batch.rows

-- the rows at which the test is true, of those that are occupied
abbrev pub mask_of : List (List ℕ) → List ExprNode → List Row → List Bool
mask_of texts test rows = map (λ r. r.occupied && holds test (read_cells texts r.cells)) rows

-- at an occupied row the datum stands for the expression's value there
pub record IsResult (texts : List (List ℕ)) (expr : List ExprNode) (r : Row) (d : Datum) : Type 0 where
  pub read : r.occupied ≡ true → read_datum texts d ≡ value expr (read_cells texts r.cells)
  pub placed : r.occupied ≡ true → IsPlaced texts d

-- there is one datum for each row, and it is the row's result
abbrev pub AreResults : List (List ℕ) → List ExprNode → List Row → List Datum → Type 0
AreResults texts expr [] [] = Unit {0}
AreResults texts expr [] (d ∷ ds) = ⊥
AreResults texts expr (r ∷ rs) [] = ⊥
AreResults texts expr (r ∷ rs) (d ∷ ds) = IsResult texts expr r d × AreResults texts expr rs ds

-- the kind of values that are stored so: Int for all that is stored as a whole number
abbrev pub kind_for : CellKind → Kind
kind_for Whole = Int
kind_for Bit = Flag
kind_for Place = Text
