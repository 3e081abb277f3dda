-- Steps: the nodes of expressions, with a text as its place in a table.
use Rattle.std.specs.Prelude.{ℕ, ◌<◌, List, [], ◌∷◌, map, length, fold, slice_index_or}
use Rattle.tw_rows.specs.declared.cells.Datum.TheVariants.{Int as IntDatum, Bool as FlagDatum, Text as PlaceDatum}
use Rattle.tw_rows.specs.declared.kind.CellKind.{CellKind}
use Rattle.tw_rows.specs.Cells.{IsPlaced}
use Rattle.tw_rows.specs.Texts.{interned}
use Rattle.plan_model.specs.declared.expr.ExprNode.{ExprNode}
use Rattle.plan_model.specs.declared.expr.ExprNode.TheVariants.{Column, Int, Bool, Text, Neg, Not, Arith, Div, Mod, Compare, And, Or}
use Rattle.plan_model.specs.IsExpr.{IsExpr}
use Rattle.lane_expr.specs.declared.step.Step.{Step}
use Rattle.lane_expr.specs.declared.step.Step.TheVariants.{Column as ColumnStep, Constant, Neg as NegStep, Not as NotStep, Arith as ArithStep, Div as DivStep, Mod as ModStep, Compare as CompareStep, And as AndStep, Or as OrStep}
use Rattle.plan_model.specs.Typed.{node_kind, IsTyped}

-- the node that a step stands for. With the texts `a` and `b` the constant of the place 1 is the text `b`
abbrev pub node_of : List (List ℕ) → Step → ExprNode
node_of texts (ColumnStep column) = Column column
node_of texts (Constant (IntDatum x)) = Int x
node_of texts (Constant (FlagDatum b)) = Bool b
node_of texts (Constant (PlaceDatum id)) = Text (slice_index_or texts id [])
node_of texts (NegStep of) = Neg of
node_of texts (NotStep of) = Not of
node_of texts (ArithStep op left right) = Arith op left right
node_of texts (DivStep of by) = Div of by.by
node_of texts (ModStep of by) = Mod of by.by
node_of texts (CompareStep op left right) = Compare op left right
node_of texts (AndStep left right) = And left right
node_of texts (OrStep left right) = Or left right

-- the expression that steps stand for
abbrev pub expr_of : List (List ℕ) → List Step → List ExprNode
expr_of texts steps = map (node_of texts) steps

-- a constant of a text is the place of one
abbrev pub IsStepPlaced : List (List ℕ) → Step → Type 0
IsStepPlaced texts (ColumnStep column) = Unit {0}
IsStepPlaced texts (Constant d) = IsPlaced texts d
IsStepPlaced texts (NegStep of) = Unit {0}
IsStepPlaced texts (NotStep of) = Unit {0}
IsStepPlaced texts (ArithStep op left right) = Unit {0}
IsStepPlaced texts (DivStep of by) = Unit {0}
IsStepPlaced texts (ModStep of by) = Unit {0}
IsStepPlaced texts (CompareStep op left right) = Unit {0}
IsStepPlaced texts (AndStep left right) = Unit {0}
IsStepPlaced texts (OrStep left right) = Unit {0}

-- each constant of a text is
abbrev pub AreStepsPlaced : List (List ℕ) → List Step → Type 0
AreStepsPlaced texts [] = Unit {0}
AreStepsPlaced texts (s ∷ ss) = IsStepPlaced texts s × AreStepsPlaced texts ss

-- the kind of a step's results: that of its node, whatever the texts are
abbrev pub step_kind : List CellKind → Step → CellKind
step_kind columns step = node_kind columns (node_of [] step)

-- the step's column is there
abbrev pub IsStepWithin : List CellKind → Step → Type 0
IsStepWithin columns (ColumnStep column) = column < length columns
IsStepWithin columns (Constant d) = Unit {0}
IsStepWithin columns (NegStep of) = Unit {0}
IsStepWithin columns (NotStep of) = Unit {0}
IsStepWithin columns (ArithStep op left right) = Unit {0}
IsStepWithin columns (DivStep of by) = Unit {0}
IsStepWithin columns (ModStep of by) = Unit {0}
IsStepWithin columns (CompareStep op left right) = Unit {0}
IsStepWithin columns (AndStep left right) = Unit {0}
IsStepWithin columns (OrStep left right) = Unit {0}

-- the steps are those of an expression that is well typed over the columns, whatever its texts are
pub record AreSteps (columns : List CellKind) (steps : List Step) : Type 0 where
  pub expr : IsExpr (expr_of [] steps)
  pub typed : IsTyped columns (expr_of [] steps)

-- the table once a node's text is in it
abbrev pub with_node : List (List ℕ) → ExprNode → List (List ℕ)
with_node texts (Column column) = texts
with_node texts (Int x) = texts
with_node texts (Bool b) = texts
with_node texts (Text t) = interned texts t
with_node texts (Neg of) = texts
with_node texts (Not of) = texts
with_node texts (Arith op left right) = texts
with_node texts (Div of by) = texts
with_node texts (Mod of by) = texts
with_node texts (Compare op left right) = texts
with_node texts (And left right) = texts
with_node texts (Or left right) = texts

-- the table once the texts of an expression are in it
abbrev pub with_texts : List (List ℕ) → List ExprNode → List (List ℕ)
with_texts texts expr = fold with_node texts expr
