-- Which stage computes which node.
use Rattle.std.specs.Prelude.{◌≡◌, ℕ, ◌≤◌, Bool, true, false, List, [], length, map, All}
use Rattle.tw_rows.specs.Kinds.{cell_kind_of}
use Rattle.tw_rows.specs.declared.kind.CellKind.{CellKind}
use Rattle.tw_rows.specs.declared.kind.Kind.{Kind}
use Rattle.plan_model.specs.declared.expr.ExprNode.{ExprNode}
use Rattle.plan_model.specs.declared.node.Node.{Node}
use Rattle.plan_model.specs.declared.node.Node.TheVariants.{Source, Where, Select}
use Rattle.plan_model.specs.IsPlan.{PlanParts, kinds_of_stream, kinds_at}
use Rattle.plan_model.specs.Meaning.{left_of}
use Rattle.lane_expr.specs.Steps.{AreStepsPlaced}
use Rattle.lane_expr.specs.Kernels.{Program, IsKernelOf, kind_for}
use Rattle.where_select.specs.Filters.{FilterView}
use Rattle.where_select.specs.Projects.{exprs_of}
use Rattle.where_select.specs.declared.row_stage.RowStage.{RowStage}
use Rattle.where_select.specs.declared.row_stage.RowStage.TheVariants.{Source as SourceStage, Where as WhereStage, Select as SelectStage}

-- a node that makes each row of one row that it reads, or of none: a Source, a Where or a Select
abbrev pub is_of_rows : Node → Bool
is_of_rows (Source stream) = true
is_of_rows (Where of test) = true
is_of_rows (Select of items) = true
is_of_rows n = false

-- the kinds of the columns that a node of the plan reads: its child's, or those of its stream. A select of a stream with
-- sym text, qty int reads Place, Whole
abbrev pub kinds_read : PlanParts → Node → List CellKind
kinds_read plan n = left_of [] (kinds_of_stream plan.streams) (kinds_at plan.schemas) n

-- the kernel is for batches of these kinds and of that many rows. One that was compiled for 8 rows is not for 16
pub record IsFor (capacity : ℕ) (kinds : List CellKind) (k : Program) : Type 0 where
  pub alike : k.kinds ≡ kinds
  pub rows : k.capacity ≡ capacity

-- the filter keeps the rows for which the test is true. The filter of `v > 10` keeps 20 of 5 and 20
pub record IsFilterOf (texts : List (List ℕ)) (capacity : ℕ) (kinds : List CellKind) (test : List ExprNode) (f : FilterView) : Type 0 where
  pub kernel : IsKernelOf texts test f.test
  pub suited : IsFor capacity kinds f.test
  pub room : f.capacity ≡ capacity

-- the projection has a kernel for each item, in order. That to `a + b` and `a` has two
pub record IsProjectOf (texts : List (List ℕ)) (capacity : ℕ) (kinds : List CellKind) (items : List (List ExprNode)) (ks : List Program) : Type 0 where
  pub same : exprs_of texts ks ≡ items
  pub placed : All (λ k. AreStepsPlaced texts k.steps) ks
  pub suited : All (IsFor capacity kinds) ks
  pub few : length ks ≤ 32

-- the node is a Where of the filter's test, and the node is a Select of the projection's items. The node `where v > 10` is
-- a Where of the filter of `v > 10`
pub record IsWhereOf (texts : List (List ℕ)) (capacity : ℕ) (kinds : List CellKind) (n : Node) (f : FilterView) : Type 0 where
  pub child : ℕ
  pub test : List ExprNode
  pub is : n ≡ Where child test
  pub filter : IsFilterOf texts capacity kinds test f

pub record IsSelectOf (texts : List (List ℕ)) (capacity : ℕ) (kinds : List CellKind) (n : Node) (ks : List Program) : Type 0 where
  pub child : ℕ
  pub items : List (List ExprNode)
  pub is : n ≡ Select child items
  pub project : IsProjectOf texts capacity kinds items ks

-- the stage computes the node over batches of these kinds and of that many rows, whose texts are read from the table. No
-- stage computes a union
abbrev pub IsStageOf : List (List ℕ) → ℕ → List CellKind → Node → RowStage → Type 0
IsStageOf texts capacity kinds n SourceStage = (stream : ℕ) × (n ≡ Source stream)
IsStageOf texts capacity kinds n (WhereStage f) = IsWhereOf texts capacity kinds n f
IsStageOf texts capacity kinds n (SelectStage ks) = IsSelectOf texts capacity kinds n ks

-- the stage computes some node so. A filter that was made for 8 rows computes none for 16
abbrev pub IsStage : List (List ℕ) → ℕ → List CellKind → RowStage → Type 0
IsStage texts capacity kinds s = (n : Node) × IsStageOf texts capacity kinds n s

-- the kinds say no more than how cells are stored: Int, Bool and Text do, and a decimal with 2 places does not
abbrev pub ArePlain : List Kind → Type 0
ArePlain kinds = kinds ≡ map kind_for (map cell_kind_of kinds)
