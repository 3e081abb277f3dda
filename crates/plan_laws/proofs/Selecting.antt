-- The edges of a Where and of a Select stand for the events of these.
use Rattle.std.specs.Prelude.{◌≡◌, ℕ, nat_le, Bool, cond, List, [], ◌∷◌, ◌++◌, All, map, filter, refl}
use Rattle.std.proofs.Common.{sym, ◌∙◌, ap, subst}
use Rattle.std.proofs.lemmas.List.{map-append}
use Rattle.std.proofs.lemmas.List.Elements.{All-cons, All-head, All-tail, All-nil, filter-append}
use Rattle.tw_rows.specs.Bag.{total}
use Rattle.tw_rows.specs.Event.{Event, cut}
use Rattle.tw_rows.specs.Rows.{Row}
use Rattle.tw_rows.specs.declared.cells.Datum.{Datum}
use Rattle.tw_rows.specs.declared.edge.Edge.{Edge}
use Rattle.tw_rows.specs.Texts.{BeginsWith}
use Rattle.tw_rows.proofs.CellReads.{read_cells-begins}
use Rattle.tw_rows.specs.Cells.{ArePlaced, read_cells}
use Rattle.tw_rows.proofs.Bags.{total-map, SameBag-refl}
use Rattle.edge_history.specs.Order.{is_from, failing}
use Rattle.edge_history.proofs.Sums.{failing-filter}
use Rattle.edge_history.specs.History.{of, StandsBelow}
use Rattle.edge_history.specs.Made.{edges_where, edges_with, events_with}
use Rattle.edge_history.proofs.Made.{stands_with, stands_where as stand_where}
use Rattle.plan_model.specs.declared.expr.ExprNode.{ExprNode}
use Rattle.plan_model.specs.declared.node.Node.TheVariants.{Where, Select}
use Rattle.plan_model.specs.Expr.{holds, selected_row}
use Rattle.plan_model.specs.Meaning.{node_events}
use Rattle.plan_model.specs.Nodes.{events_to}
use Rattle.plan_laws.specs.Places.{AreDistinct, read_of, EdgesArePlaced}
use Rattle.plan_laws.specs.RowCells.{cells_of}
use Rattle.plan_laws.specs.Standing.{StandsRead}
use Rattle.plan_laws.specs.Selected.{RowEdge, read_edge, selected_edge, tested_edges, AreSelected}
use Rattle.plan_laws.proofs.Agreeing.{select_read}
use Rattle.plan_laws.proofs.RowCells.{cells_again}
use Rattle.plan_laws.proofs.Standing.{all_of, placed_stand, node_valid, no_history, none_stand, stands_where, stands_of_sides}

module _ (texts : List (List ℕ)) (apart : AreDistinct texts) (items : List (List ExprNode)) where
  -- the cells that read as the values of the items on what is read of cells
  abbrev made_of : List Datum → List Datum
  made_of ds = cells_of texts (selected_row items (read_cells texts ds))

  -- such cells read so
  abbrev Reads : List Datum → Type 0
  Reads ds = read_cells texts (made_of ds) ≡ selected_row items (read_cells texts ds)

  edges_made : (h out : List Edge) → EdgesArePlaced texts out → AreSelected texts items h out → (out ≡ edges_with made_of h) × All (λ e. Reads e.cells) h
  edges_made [] [] p s = (refl, All-nil (λ e. Reads e.cells))
  edges_made [] (o ∷ out) p s = absurd (cc)
  edges_made (e ∷ h) [] p s = absurd (cc)
  edges_made (e ∷ h) (o ∷ out) p s =
      let first : read_edge texts o ≡ selected_edge texts items e = cc in
      let rest : map (read_edge texts) out ≡ map (selected_edge texts items) h = cc in
      let row : read_cells texts o.cells ≡ selected_row items (read_cells texts e.cells) = ap (λ x. x.row) first in
      let sync : o.sync ≡ e.sync = ap (λ x. x.sync) first in
      let other : o.other ≡ e.other = ap (λ x. x.other) first in
      let cells : o.cells ≡ made_of e.cells = sym (cells_again texts apart o.cells (All-head (λ x. ArePlaced texts x.cells) o out p)) ∙ ap (cells_of texts) row in
      let more = edges_made h out (All-tail (λ x. ArePlaced texts x.cells) o out p) rest in
      let same = more.0 in (
        (λ i. record { sync = sync i; other = other i; cells = cells i } ∷ same i),
        All-cons (λ x. Reads x.cells) e h (ap (read_cells texts) (sym cells) ∙ row) more.1,
      )

  pub selected_stand : (child c : ℕ) (h out : List Edge) (rows : List (Event Row)) → EdgesArePlaced texts out → AreSelected texts items h out →
      StandsRead texts c h rows → StandsRead texts c out (node_events (Select child items) rows [])
  selected_stand child c h out rows p s stands =
      let made = edges_made h out p s in
      let own : StandsBelow c h (of h) = record { history = stands.history; below = stands.below; same = SameBag-refl (cut c (of h)) } in
      let cells : StandsBelow c out (events_with made_of (of h)) = subst (λ o. StandsBelow c o (events_with made_of (of h))) (sym made.0) (stands_with made_of c h (of h) own) in
      let read = select_read texts items made_of Reads (λ ds r. r) (of h) (all_of Reads h made.1) in
      let valid = node_valid texts (Select child items) h [] stands.history no_history in
      let answer = placed_stand texts c out (events_with made_of (of h)) (events_to (selected_row items) (read_of texts h)) stands.known.low read p valid cells in
      stands_of_sides texts (Select child items) c c h [] out rows [] stands (none_stand texts c stands.known.low) answer

pub tested_stand : (texts : List (List ℕ)) (child c : ℕ) (test : List ExprNode) (h : List Edge) (rows : List (Event Row)) →
    StandsRead texts c h rows → StandsRead texts c (tested_edges texts test h) (node_events (Where child test) rows [])
tested_stand texts child c test h rows stands =
    let own : StandsBelow c h (of h) = record { history = stands.history; below = stands.below; same = SameBag-refl (cut c (of h)) } in
    let p : List Datum → Bool = λ ds. holds test (read_cells texts ds) in
    let answer = stands_where texts child test p (λ ds k. refl) c h (edges_where p h) stands.known.low stands.history stands.placed (stand_where p c h (of h) own) in
    stands_of_sides texts (Where child test) c c h [] (edges_where p h) rows [] stands (none_stand texts c stands.known.low) answer

-- both are made step by step
pub selected_more : (texts : List (List ℕ)) (items : List (List ExprNode)) (h out l more : List Edge) → AreSelected texts items h out → AreSelected texts items l more → AreSelected texts items (h ++ l) (out ++ more)
selected_more texts items h out l more s t =
    map-append (read_edge texts) out more
    ∙ (ap (λ x. x ++ map (read_edge texts) more) s ∙ (ap (λ x. map (selected_edge texts items) h ++ x) t ∙ sym (map-append (selected_edge texts items) h l)))

pub tested_more : (texts : List (List ℕ)) (test : List ExprNode) (h l : List Edge) → tested_edges texts test (h ++ l) ≡ tested_edges texts test h ++ tested_edges texts test l
tested_more texts test h l = filter-append (λ e. holds test (read_cells texts e.cells)) h l

-- a longer table changes neither
read_edge-begins : (new old : List (List ℕ)) → BeginsWith new old → (e : Edge) → ArePlaced old e.cells → read_edge new e ≡ read_edge old e
read_edge-begins new old b e p = ap {B = RowEdge} (λ row. record { sync = e.sync; other = e.other; row = row }) (read_cells-begins new old e.cells b p)

selected_edge-begins : (new old : List (List ℕ)) → BeginsWith new old → (items : List (List ExprNode)) (e : Edge) → ArePlaced old e.cells → selected_edge new items e ≡ selected_edge old items e
selected_edge-begins new old b items e p = ap {B = RowEdge} (λ row. record { sync = e.sync; other = e.other; row = selected_row items row }) (read_cells-begins new old e.cells b p)

map_all : {B : Type 0} (f g : Edge → B) (P : Edge → Type 0) → ((e : Edge) → P e → f e ≡ g e) → (h : List Edge) → All P h → map f h ≡ map g h
map_all f g P same [] p = refl
map_all f g P same (e ∷ h) p = ap (λ x. x ∷ map f h) (same e (All-head P e h p)) ∙ ap (λ l. g e ∷ l) (map_all f g P same h (All-tail P e h p))

filter_all : (f g : Edge → Bool) (P : Edge → Type 0) → ((e : Edge) → P e → f e ≡ g e) → (h : List Edge) → All P h → filter f h ≡ filter g h
filter_all f g P same [] p = refl
filter_all f g P same (e ∷ h) p =
    ap (λ b. cond b (e ∷ filter f h) (filter f h)) (same e (All-head P e h p))
    ∙ ap (λ l. cond (g e) (e ∷ l) l) (filter_all f g P same h (All-tail P e h p))

pub tested_longer : (new old : List (List ℕ)) → BeginsWith new old → (test : List ExprNode) (h : List Edge) → EdgesArePlaced old h → tested_edges new test h ≡ tested_edges old test h
tested_longer new old b test h p =
    filter_all (λ e. holds test (read_cells new e.cells)) (λ e. holds test (read_cells old e.cells)) (λ e. ArePlaced old e.cells)
    (λ e k. ap (holds test) (read_cells-begins new old e.cells b k)) h p

pub selected_longer : (new old : List (List ℕ)) → BeginsWith new old → (items : List (List ExprNode)) (h out : List Edge) → EdgesArePlaced old h → EdgesArePlaced old out →
    AreSelected old items h out → AreSelected new items h out
selected_longer new old b items h out p q s =
    map_all (read_edge new) (read_edge old) (λ e. ArePlaced old e.cells) (read_edge-begins new old b) out q
    ∙ (s ∙ sym (map_all (selected_edge new items) (selected_edge old items) (λ e. ArePlaced old e.cells) (selected_edge-begins new old b items) h p))

-- the edges come when those that came in came
pub tested_from : (texts : List (List ℕ)) (test : List ExprNode) (x : ℕ) (l : List Edge) → failing (is_from x) l ≡ 0 → failing (is_from x) (tested_edges texts test l) ≡ 0
tested_from texts test x l h = failing-filter (λ e. holds test (read_cells texts e.cells)) (is_from x) l h

pub selected_from : (texts : List (List ℕ)) (items : List (List ExprNode)) (x : ℕ) (l more : List Edge) → AreSelected texts items l more → failing (is_from x) more ≡ failing (is_from x) l
selected_from texts items x l more s =
    sym (total-map late (read_edge texts) more) ∙ (ap (total late) s ∙ total-map late (selected_edge texts items) l)
  where
    late : RowEdge → ℕ
    late e = cond (nat_le x e.sync) 0 1
