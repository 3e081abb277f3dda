-- The edges that a node makes of those that come in.
use Rattle.std.proofs.Common.{◌≡◌, ℕ, List, [], ◌∷◌, ◌++◌, map, refl, ap, sym, subst, ◌∙◌}
use Rattle.std.proofs.lemmas.List.Elements.{All-nil, All-append, All-filter}
use Rattle.tw_rows.specs.Cells.{ArePlaced, read_cells}
use Rattle.tw_rows.specs.Event.{Event}
use Rattle.tw_rows.specs.Rows.{Row}
use Rattle.tw_rows.specs.Texts.{BeginsWith}
use Rattle.tw_rows.specs.declared.edge.Edge.{Edge}
use Rattle.tw_rows.specs.declared.kind.CellKind.{CellKind}
use Rattle.edge_history.specs.Order.{KeepsOrder, is_from, failing}
use Rattle.plan_model.specs.declared.expr.ExprNode.{ExprNode}
use Rattle.plan_model.specs.declared.node.Node.{Node}
use Rattle.plan_model.specs.declared.node.Node.TheVariants.{Source as SourceNode, Where as WhereNode, Select as SelectNode}
use Rattle.plan_model.specs.Expr.{holds}
use Rattle.plan_model.specs.Meaning.{node_events, node_closes}
use Rattle.where_select.specs.Projects.{Read, read_edge as read, projected_edge}
use Rattle.where_select.proofs.Ordered.{filter_keeps, projection_keeps}
use Rattle.plan_laws.specs.Places.{AreDistinct, EdgesArePlaced}
use Rattle.plan_laws.specs.Standing.{StandsRead}
use Rattle.plan_laws.specs.Selected.{RowEdge, read_edge, selected_edge, tested_edges, AreSelected}
use Rattle.plan_laws.proofs.Selecting.{selected_stand, selected_more, selected_longer, selected_from, tested_stand, tested_more, tested_longer, tested_from}
use Rattle.plan_laws.proofs.Standing.{placed_longer}
use Rattle.where_select.specs.declared.row_stage.RowStage.{RowStage}
use Rattle.where_select.specs.declared.row_stage.RowStage.TheVariants.{Source, Where, Select}
use Rattle.where_select.specs.Made.{IsMade}
use Rattle.where_select.specs.Stages.{IsStageOf}

-- the records of edges that are read, of projections and of the laws
abbrev as_read : RowEdge → Read
as_read r = record { sync = r.sync; other = r.other; values = r.row }

abbrev as_row : Read → RowEdge
as_row r = record { sync = r.sync; other = r.other; row = r.values }

read-all : (texts : List (List ℕ)) (es : List Edge) → map as_read (map (read_edge texts) es) ≡ map (read texts) es
read-all texts [] = refl
read-all texts (e ∷ es) = ap (λ l. read texts e ∷ l) (read-all texts es)

selected-all : (texts : List (List ℕ)) (items : List (List ExprNode)) (es : List Edge) → map as_read (map (selected_edge texts items) es) ≡ map (projected_edge texts items) es
selected-all texts items [] = refl
selected-all texts items (e ∷ es) = ap (λ l. projected_edge texts items e ∷ l) (selected-all texts items es)

row-all : (texts : List (List ℕ)) (es : List Edge) → map as_row (map (read texts) es) ≡ map (read_edge texts) es
row-all texts [] = refl
row-all texts (e ∷ es) = ap (λ l. read_edge texts e ∷ l) (row-all texts es)

projected-all : (texts : List (List ℕ)) (items : List (List ExprNode)) (es : List Edge) → map as_row (map (projected_edge texts items) es) ≡ map (selected_edge texts items) es
projected-all texts items [] = refl
projected-all texts items (e ∷ es) = ap (λ l. selected_edge texts items e ∷ l) (projected-all texts items es)

pub selected_of : (texts : List (List ℕ)) (items : List (List ExprNode)) (old new : List Edge) → map (read texts) new ≡ map (projected_edge texts items) old → AreSelected texts items old new
selected_of texts items old new e = sym (row-all texts new) ∙ ap (map as_row) e ∙ projected-all texts items old

projected_of : (texts : List (List ℕ)) (items : List (List ExprNode)) (old new : List Edge) → AreSelected texts items old new → map (read texts) new ≡ map (projected_edge texts items) old
projected_of texts items old new e = sym (read-all texts new) ∙ ap (map as_read) e ∙ selected-all texts items old

-- the node of a stage is one of three
pub by_node : (texts : List (List ℕ)) (capacity : ℕ) (kinds : List CellKind) (n : Node) (s : RowStage) → IsStageOf texts capacity kinds n s → (P : Node → Type 0) →
    ((stream : ℕ) → P (SourceNode stream)) → ((of : ℕ) (test : List ExprNode) → P (WhereNode of test)) → ((of : ℕ) (items : List (List ExprNode)) → P (SelectNode of items)) → P n
by_node texts capacity kinds n Source is P a b d = subst P (sym is.1) (a is.0)
by_node texts capacity kinds n (Where f) is P a b d = subst P (sym is.is) (b is.child is.test)
by_node texts capacity kinds n (Select ks) is P a b d = subst P (sym is.is) (d is.child is.items)

module _ (texts : List (List ℕ)) (capacity : ℕ) (kinds : List CellKind) (n : Node) (s : RowStage) (is : IsStageOf texts capacity kinds n s) where
  pub first_made : IsMade texts n [] []
  first_made = by_node texts capacity kinds n s is (λ m. IsMade texts m [] [])
      (λ stream. refl) (λ of test. refl) (λ of items. (refl, All-nil _))

  pub made_more : (left out new more : List Edge) → IsMade texts n left out → IsMade texts n new more → IsMade texts n (left ++ new) (out ++ more)
  made_more left out new more = by_node texts capacity kinds n s is (λ m. IsMade texts m left out → IsMade texts m new more → IsMade texts m (left ++ new) (out ++ more))
      (λ stream a b. ap (λ l. l ++ more) a ∙ ap (λ l. left ++ l) b)
      (λ of test a b. ap (λ l. l ++ more) a ∙ ap (λ l. tested_edges texts test left ++ l) b ∙ sym (tested_more texts test left new))
      (λ of items a b. (selected_more texts items left out new more a.0 b.0, All-append (λ e. ArePlaced texts e.cells) out more a.1 b.1))

  pub made_longer : (longer : List (List ℕ)) → BeginsWith longer texts → (left out : List Edge) → EdgesArePlaced texts left → IsMade texts n left out → IsMade longer n left out
  made_longer longer begins left out placed = by_node texts capacity kinds n s is (λ m. IsMade texts m left out → IsMade longer m left out)
      (λ stream a. a)
      (λ of test a. a ∙ sym (tested_longer longer texts begins test left placed))
      (λ of items a. (selected_longer longer texts begins items left out placed a.1 a.0, placed_longer longer texts begins out a.1))

  pub made_placed : (left out : List Edge) → EdgesArePlaced texts left → IsMade texts n left out → EdgesArePlaced texts out
  made_placed left out placed = by_node texts capacity kinds n s is (λ m. IsMade texts m left out → EdgesArePlaced texts out)
      (λ stream a. subst (EdgesArePlaced texts) (sym a) placed)
      (λ of test a. subst (EdgesArePlaced texts) (sym a) (All-filter (λ e. holds test (read_cells texts e.cells)) (λ e. ArePlaced texts e.cells) left placed))
      (λ of items a. a.1)

  pub made_later : (left out : List Edge) → IsMade texts n left out → (x : ℕ) → failing (is_from x) left ≡ 0 → failing (is_from x) out ≡ 0
  made_later left out made x h = by_node texts capacity kinds n s is (λ m. IsMade texts m left out → failing (is_from x) out ≡ 0)
      (λ stream a. ap (failing (is_from x)) a ∙ h)
      (λ of test a. ap (failing (is_from x)) a ∙ tested_from texts test x left h)
      (λ of items a. selected_from texts items x left out a.0 ∙ h)
      made

  pub made_in_order : (left out : List Edge) → IsMade texts n left out → KeepsOrder left → KeepsOrder out
  made_in_order left out made order = by_node texts capacity kinds n s is (λ m. IsMade texts m left out → KeepsOrder out)
      (λ stream a. subst KeepsOrder (sym a) order)
      (λ of test a. subst KeepsOrder (sym a) (filter_keeps (λ e. holds test (read_cells texts e.cells)) left order))
      (λ of items a. projection_keeps texts items left out (projected_of texts items left out a.0) order)
      made

  pub made_stand : AreDistinct texts → (x y : ℕ) (left out : List Edge) (rows right : List (Event Row)) → IsMade texts n left out → StandsRead texts x left rows →
      StandsRead texts (node_closes n x y) out (node_events n rows right)
  made_stand distinct x y left out rows right made stands = by_node texts capacity kinds n s is (λ m. IsMade texts m left out → StandsRead texts (node_closes m x y) out (node_events m rows right))
      (λ stream a. subst (λ l. StandsRead texts x l rows) (sym a) stands)
      (λ of test a. subst (λ l. StandsRead texts x l (node_events (WhereNode of test) rows right)) (sym a) (tested_stand texts of x test left rows stands))
      (λ of items a. selected_stand texts distinct items of x left out rows a.1 a.0 stands)
      made
