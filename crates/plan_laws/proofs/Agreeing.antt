-- Where and Select: a test and a selection of cells that agree with those of rows.
use Rattle.std.specs.Prelude.{◌≡◌, ℕ, Bool, true, false, cond, List, [], ◌∷◌, All, filter, refl}
use Rattle.std.proofs.Common.{sym, ◌∙◌, ap}
use Rattle.std.proofs.lemmas.List.Elements.{All-head, All-tail}
use Rattle.tw_rows.specs.Cells.{ArePlaced, read_cells}
use Rattle.tw_rows.specs.declared.cells.Datum.{Datum}
use Rattle.plan_model.specs.declared.expr.ExprNode.{ExprNode}
use Rattle.plan_model.specs.Expr.{holds, selected_row}
use Rattle.edge_history.specs.History.{CellEvent}
use Rattle.plan_model.specs.Nodes.{event_to, events_to}
use Rattle.plan_laws.specs.Places.{read_events, EventsArePlaced}

pub where_read : (texts : List (List ℕ)) (test : List ExprNode) (p : List Datum → Bool) → ((ds : List Datum) → ArePlaced texts ds → p ds ≡ holds test (read_cells texts ds)) →
    (es : List CellEvent) → EventsArePlaced texts es → filter (λ e. holds test e.row) (read_events texts es) ≡ read_events texts (filter (λ e. p e.row) es)
where_read texts test p h [] k = refl
where_read texts test p h (e ∷ es) k =
    ap (λ b. cond b (event_to (read_cells texts) e ∷ filter (λ e. holds test e.row) (read_events texts es)) (filter (λ e. holds test e.row) (read_events texts es))) (sym (h e.row (All-head (λ e. ArePlaced texts e.row) e es k)))
    ∙ (ap (λ l. cond (p e.row) (event_to (read_cells texts) e ∷ l) l) (where_read texts test p h es (All-tail (λ e. ArePlaced texts e.row) e es k)) ∙ out (p e.row))
  where
    out : (b : Bool) → cond b (event_to (read_cells texts) e ∷ read_events texts (filter (λ e. p e.row) es)) (read_events texts (filter (λ e. p e.row) es)) ≡ read_events texts (cond b (e ∷ filter (λ e. p e.row) es) (filter (λ e. p e.row) es))
    out true = refl
    out false = refl

pub select_read : (texts : List (List ℕ)) (items : List (List ExprNode)) (f : List Datum → List Datum) (P : List Datum → Type 0) → ((ds : List Datum) → P ds → read_cells texts (f ds) ≡ selected_row items (read_cells texts ds)) →
    (es : List CellEvent) → All (λ e. P e.row) es → events_to (selected_row items) (read_events texts es) ≡ read_events texts (events_to f es)
select_read texts items f P h [] k = refl
select_read texts items f P h (e ∷ es) k =
    let a = h e.row (All-head (λ e. P e.row) e es k) in
    let b = select_read texts items f P h es (All-tail (λ e. P e.row) e es k) in
    λ i. record { row = sym a i; start = e.start; end = e.end } ∷ b i
