-- How an operator stands, and what it keeps.
use Rattle.std.specs.Prelude.{◌≡◌, ℕ, Bool, false, List, [], Option, Some, None, map, All}
use Rattle.tw_rows.specs.Cells.{datum_kind}
use Rattle.tw_rows.specs.declared.cells.Datum.{Datum}
use Rattle.tw_rows.specs.declared.edge.Edge.{Edge}
use Rattle.tw_rows.specs.declared.kind.CellKind.{CellKind}
use Rattle.edge_history.specs.History.{CellEvent, of}
use Rattle.edge_stream.specs.declared.saved.PartRow.{PartRow}
use Rattle.edge_stream.specs.declared.saved.PartRow.TheVariants.{Left, Right, Own, KeyFirst}
use Rattle.edge_stream.specs.declared.saved.SavedEntry.{SavedEntry}
use Rattle.plan_model.specs.declared.node.Node.{Node}
use Rattle.plan_model.specs.declared.node.Node.TheVariants.{Top, Follow}
use Rattle.plan_model.specs.Meaning.{node_closes, node_events}
use Rattle.plan_model.specs.Nodes.{node_in}
use Rattle.plan_laws.specs.Held.{may_hold}
use Rattle.plan_laws.specs.Keeping.{plain_cells}
use Rattle.plan_laws.specs.Places.{read_of}
use Rattle.plan_laws.specs.Standing.{StandsRead}

-- how an operator stands: its node, up to where its sides are closed, how the columns are stored of what comes in on both
-- sides and of what it answers, how many rows its batches have room for, and whether a step failed. A node with one child
-- reads a right list with no columns
pub record Standing : Type 0 where
  pub node : Node
  pub left_closed : ℕ
  pub right_closed : ℕ
  pub left_kinds : List CellKind
  pub right_kinds : List CellKind
  pub own_kinds : List CellKind
  pub batch_rows : ℕ
  pub has_failed : Bool

-- the closing of its node. Of a union whose sides are closed up to 4 and 7: 4
abbrev pub closing : Standing → ℕ
closing s = node_closes s.node s.left_closed s.right_closed

-- both have the same node, the same columns and the same room; up to where they are closed is not asked
pub record IsLike (old new : Standing) : Type 0 where
  pub node : new.node ≡ old.node
  pub left_kinds : new.left_kinds ≡ old.left_kinds
  pub right_kinds : new.right_kinds ≡ old.right_kinds
  pub own_kinds : new.own_kinds ≡ old.own_kinds
  pub batch_rows : new.batch_rows ≡ old.batch_rows

-- no side is closed, and no step failed
pub record IsFresh (s : Standing) : Type 0 where
  pub left : s.left_closed ≡ 0
  pub right : s.right_closed ≡ 0
  pub works : s.has_failed ≡ false

-- what an operator keeps, with a table of texts, of the edges that came in on both sides and of those that it answered
abbrev pub Keeping : Type 1
Keeping = List (List ℕ) → List Edge → List Edge → List Edge → Type 0

-- where the first holds, the second does
abbrev pub Implies : Keeping → Keeping → Type 0
Implies one other = (texts : List (List ℕ)) (hl hr out : List Edge) → one texts hl hr out → other texts hl hr out

-- the edges `out` stand, read, for the events of its node below its closing, over the rows that are read of hl and hr
abbrev pub StandsFor : Standing → List (List ℕ) → List Edge → List Edge → List Edge → Type 0
StandsFor s texts hl hr out = StandsRead texts (closing s) out (node_events s.node (read_of texts hl) (read_of texts hr))

-- the node's own events, where its operator may keep entries for them: none of a Top and of a Follow, which keep no more than
-- the events that they read
abbrev pub own_kept : Node → List CellEvent → List CellEvent → List CellEvent
own_kept (Top of key by count) a b = []
own_kept (Follow left right left_key right_key within) a b = []
own_kept n a b = node_in plain_cells n a b

-- how many entries a node may keep of the edges that came in, on sides that are closed up to x and y. A Delay that is closed
-- up to 4 may keep 4 of a start at 3 that did not end
abbrev pub may_keep : Node → ℕ → ℕ → List Edge → List Edge → ℕ
may_keep n x y hl hr = may_hold n x (node_closes n x y) (of hl) (of hr) (own_kept n (of hl) (of hr))

abbrev pub most_entries : Standing → List Edge → List Edge → ℕ
most_entries s hl hr = may_keep s.node s.left_closed s.right_closed hl hr

-- how the columns of a row are stored
abbrev pub kinds_of_row : Standing → PartRow → List CellKind
kinds_of_row s Left = s.left_kinds
kinds_of_row s Right = s.right_kinds
kinds_of_row s Own = s.own_kinds
kinds_of_row s KeyFirst = s.own_kinds

-- the cells are stored as those of the row are, if there is a row
abbrev pub IsStoredAs : Standing → Option PartRow → List Datum → Type 0
IsStoredAs s None cells = ⊥
IsStoredAs s (Some row) cells = map datum_kind cells ≡ kinds_of_row s row

-- each entry is of a part that has a row, and its cells are stored as those of that row. Where part 0 has a left row of a
-- number and a bit, an entry of part 0 has a number and a bit
abbrev pub AreStoredAs : (ℕ → Option PartRow) → Standing → List SavedEntry → Type 0
AreStoredAs row_of_part s saved = All (λ e. IsStoredAs s (row_of_part e.part) e.cells) saved
