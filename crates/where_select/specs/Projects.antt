-- Projections: the rows that one makes of rows.
use Rattle.std.specs.Prelude.{◌≡◌, ℕ, ◌<◌, Bool, true, false, List, [], ◌∷◌, map, ◌+◌, cond}
use Rattle.tw_rows.specs.Cells.{ArePlaced, read_cells}
use Rattle.tw_rows.specs.declared.edge.Edge.{Edge}
use Rattle.tw_rows.specs.declared.row.Value.{Value}
use Rattle.plan_model.specs.declared.expr.ExprNode.{ExprNode}
use Rattle.plan_model.specs.Expr.{value}
use Rattle.batch.specs.declared.payload.Payload.{Payload}
use Rattle.batch.specs.Payloads.{payload_data, payload_capacity}
use Rattle.batch.specs.Rows.{Row, Table}
use Rattle.batch.specs.PoolsView.{PoolsView, free_of}
use Rattle.tw_rows.specs.declared.kind.CellKind.{CellKind}
use Rattle.tw_rows.specs.declared.kind.CellKind.TheVariants.{Whole, Bit, Place}
use Rattle.lane_expr.specs.Kernels.{Program, AreResults}
use Rattle.lane_expr.specs.Steps.{expr_of}

-- the expressions of the items, whose texts are read from the table
abbrev pub exprs_of : List (List ℕ) → List Program → List (List ExprNode)
exprs_of texts items = map (λ k. expr_of texts k.steps) items

-- the new row is the old one but for its cells, which at an occupied row stand for the values of the expressions
pub record IsProjected (texts : List (List ℕ)) (exprs : List (List ExprNode)) (old new : Row) : Type 0 where
  pub rest : new ≡ record old { cells = new.cells }
  pub read : old.occupied ≡ true → read_cells texts new.cells ≡ map (λ e. value e (read_cells texts old.cells)) exprs
  pub placed : old.occupied ≡ true → ArePlaced texts new.cells

-- so is each of the rows
abbrev pub AreProjected : List (List ℕ) → List (List ExprNode) → List Row → List Row → Type 0
AreProjected texts exprs [] [] = Unit {0}
AreProjected texts exprs [] (n ∷ ns) = ⊥
AreProjected texts exprs (r ∷ rs) [] = ⊥
AreProjected texts exprs (r ∷ rs) (n ∷ ns) = IsProjected texts exprs r n × AreProjected texts exprs rs ns

-- two cells are stored alike
abbrev pub is_same_kind : CellKind → CellKind → Bool
is_same_kind Whole Whole = true
is_same_kind Bit Bit = true
is_same_kind Place Place = true
is_same_kind _ _ = false

-- how many of the kinds are the one: of Whole, Bit, Whole two are Whole
abbrev pub many : CellKind → List CellKind → ℕ
many kind [] = 0
many kind (k ∷ ks) = cond (is_same_kind kind k) 1 0 + many kind ks

-- for cells that are stored in one of the ways fewer columns are free than there are kinds: one free column of ints is too few for Whole, Bit, Whole
abbrev pub Lacks : PoolsView → List CellKind → Type 0
Lacks pools kinds = (kind : CellKind) × (free_of pools kind < many kind kinds)

-- a column of the batch's capacity for each expression, with its results at the batch's rows
abbrev pub AreColumns : List (List ℕ) → Table → List (List ExprNode) → List Payload → Type 0
AreColumns texts batch [] [] = Unit {0}
AreColumns texts batch [] (p ∷ ps) = ⊥
AreColumns texts batch (e ∷ es) [] = ⊥
AreColumns texts batch (e ∷ es) (p ∷ ps) = AreResults texts e batch.rows (payload_data p) × (payload_capacity p ≡ batch.capacity) × AreColumns texts batch es ps

-- an edge whose cells are read: its times and its values
pub record Read : Type 0 where
  pub sync : ℕ
  pub other : ℕ
  pub values : List Value

abbrev pub read_edge : List (List ℕ) → Edge → Read
read_edge texts e = record { sync = e.sync; other = e.other; values = read_cells texts e.cells }

-- the same with the values of expressions on them
abbrev pub projected_edge : List (List ℕ) → List (List ExprNode) → Edge → Read
projected_edge texts exprs e = record { sync = e.sync; other = e.other; values = map (λ x. value x (read_cells texts e.cells)) exprs }
