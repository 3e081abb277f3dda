-- From a node's answer over cells to what stands, read.
use Rattle.std.specs.Prelude.{◌≡◌, ℕ, ◌<◌, ◌≤◌, not, Bool, true, false, cond, List, [], ◌∷◌, All, map, filter, refl}
use Rattle.std.proofs.Common.{sym, ◌∙◌, ap, subst, arith}
use Rattle.std.proofs.lemmas.List.Elements.{All-cons, All-head, All-tail, All-nil, All-weaker, All-filter, All-map}
use Rattle.tw_rows.specs.Instant.{inf}
use Rattle.tw_rows.specs.Bag.{SameBag}
use Rattle.tw_rows.specs.Event.{Event, AreEvents, alive, cut, Known}
use Rattle.tw_rows.specs.Rows.{Row}
use Rattle.tw_rows.specs.Texts.{BeginsWith}
use Rattle.tw_rows.specs.Cells.{ArePlaced, read_cells}
use Rattle.tw_rows.specs.declared.cells.Datum.{Datum}
use Rattle.tw_rows.specs.declared.edge.Edge.{Edge}
use Rattle.tw_rows.proofs.Bags.{SameBag-map}
use Rattle.tw_rows.proofs.Knowing.{Known-refl, Known-trans}
use Rattle.tw_rows.proofs.CellReads.{read_cells-begins, ArePlaced-begins}
use Rattle.plan_model.specs.declared.agg.Agg.{Agg}
use Rattle.plan_model.specs.declared.expr.ExprNode.{ExprNode}
use Rattle.plan_model.specs.declared.node.Node.{Node}
use Rattle.plan_model.specs.Groups.{is_undefined}
use Rattle.plan_model.specs.Meaning.{node_events, node_closes}
use Rattle.plan_model.proofs.Aggregates.{undefined_same}
use Rattle.tw_rows.proofs.Lives.{alive_known}
use Rattle.plan_model.proofs.NodeLaws.{node_known}
use Rattle.edge_history.specs.Order.{is_end, IsHistory}
use Rattle.edge_history.specs.History.{CellEvent, begun_one, begun, is_open, ended, end_step, end_all, of, StandsBelow}
use Rattle.edge_history.proofs.Retaining.{events_of_are, valid_from, AreEvents-from}
use Rattle.plan_model.specs.RowOps.{is_undefined_in}
use Rattle.plan_model.specs.Nodes.{event_to, events_to, node_in}
use Rattle.plan_model.specs.CellOps.{cell_ops}
use Rattle.plan_model.specs.Keys.{value_ops}
use Rattle.plan_laws.specs.Readings.{has_expressions}
use Rattle.plan_laws.specs.Places.{AreDistinct, read_events, read_of, EventsArePlaced, EdgesArePlaced}
use Rattle.plan_laws.specs.Standing.{StandsRead}
use Rattle.plan_laws.proofs.Maps.{alive_to, cut_to, AreEvents-to}
use Rattle.plan_laws.proofs.Reading.{undefined_read}
use Rattle.plan_model.specs.declared.node.Node.TheVariants.{Where, Select}
use Rattle.plan_model.specs.Expr.{holds, selected_row}
use Rattle.plan_laws.proofs.Agreeing.{where_read, select_read}
use Rattle.plan_laws.proofs.Answers.{answer_placed}
use Rattle.plan_laws.proofs.Places.{read_wide, place_law, node_placed, events_wide, wide_reads}
use Rattle.plan_laws.specs.CellTests.{CellTest, CellSelect}

-- what holds of the cells of edges holds of the rows of their events
module _ (P : List Datum → Type 0) where
  all_begun : (h : List Edge) → All (λ e. P e.cells) h → All (λ e. P e.row) (begun h)
  all_begun [] p = All-nil (λ e. P e.row)
  all_begun (x ∷ h) p = pick (not (is_end x)) (all_begun h (All-tail (λ e. P e.cells) x h p))
    where
      pick : (b : Bool) → All (λ e. P e.row) (begun h) → All (λ e. P e.row) (map begun_one (cond b (x ∷ filter (λ e. not (is_end e)) h) (filter (λ e. not (is_end e)) h)))
      pick true rest = All-cons (λ e. P e.row) (begun_one x) (begun h) (All-head (λ e. P e.cells) x h p) rest
      pick false rest = rest

  all_ended : (x : Edge) (es : List CellEvent) → All (λ e. P e.row) es → All (λ e. P e.row) (ended x es)
  all_ended x [] p = p
  all_ended x (e ∷ es) p = pick (is_open x.cells x.other e) (all_ended x es (All-tail (λ e. P e.row) e es p))
    where
      pick : (b : Bool) → All (λ e. P e.row) (ended x es) → All (λ e. P e.row) (cond b (record { row = e.row; start = e.start; end = x.sync } ∷ es) (e ∷ ended x es))
      pick true rest = All-cons (λ e. P e.row) (record { row = e.row; start = e.start; end = x.sync }) es (All-head (λ e. P e.row) e es p) (All-tail (λ e. P e.row) e es p)
      pick false rest = All-cons (λ e. P e.row) e (ended x es) (All-head (λ e. P e.row) e es p) rest

  all_step : (x : Edge) (es : List CellEvent) → All (λ e. P e.row) es → All (λ e. P e.row) (end_step x es)
  all_step x es p = pick (is_end x)
    where
      pick : (b : Bool) → All (λ e. P e.row) (cond b (ended x es) es)
      pick true = all_ended x es p
      pick false = p

  all_after : (h : List Edge) (es : List CellEvent) → All (λ e. P e.row) es → All (λ e. P e.row) (end_all h es)
  all_after [] es p = p
  all_after (x ∷ h) es p = all_after h (end_step x es) (all_step x es p)

  pub all_of : (h : List Edge) → All (λ e. P e.cells) h → All (λ e. P e.row) (of h)
  all_of h p = all_after h (begun h) (all_begun h p)

-- the events of placed edges are placed
pub placed_of : (texts : List (List ℕ)) (h : List Edge) → EdgesArePlaced texts h → EventsArePlaced texts (of h)
placed_of texts = all_of (ArePlaced texts)

pub of_valid : (h : List Edge) → IsHistory h → AreEvents (of h)
of_valid h is = AreEvents-from (of h) (valid_from h (of h) is.real (events_of_are h is))

-- events read through a longer table
pub read_longer : (new old : List (List ℕ)) → BeginsWith new old → (es : List CellEvent) → EventsArePlaced old es → read_events new es ≡ read_events old es
read_longer new old b [] p = refl
read_longer new old b (e ∷ es) p =
    let x = read_cells-begins new old e.row b (All-head (λ e. ArePlaced old e.row) e es p) in
    let y = read_longer new old b es (All-tail (λ e. ArePlaced old e.row) e es p) in
    λ i. record { row = x i; start = e.start; end = e.end } ∷ y i

pub placed_longer : (new old : List (List ℕ)) → BeginsWith new old → (h : List Edge) → EdgesArePlaced old h → EdgesArePlaced new h
placed_longer new old b h p = All-weaker (λ e. ArePlaced old e.cells) (λ e. ArePlaced new e.cells) (λ e k. ArePlaced-begins new old e.cells b k) h p

-- what stands through a table stands through each that begins with it
pub stands_longer : (new old : List (List ℕ)) → BeginsWith new old → (c : ℕ) (h : List Edge) (es : List (Event Row)) → StandsRead old c h es → StandsRead new c h es
stands_longer new old b c h es s = record {
  history = s.history;
  below = s.below;
  known = subst (λ x. Known c x es) (sym (read_longer new old b (of h) (placed_of old h s.placed))) s.known;
  placed = placed_longer new old b h s.placed;
}

-- placed edges that stand for events of cells stand, read, for what is read of these
pub placed_stand : (texts : List (List ℕ)) (c : ℕ) (out : List Edge) (es : List CellEvent) (rows : List (Event Row)) → c ≤ inf →
    rows ≡ read_events texts es → EdgesArePlaced texts out → AreEvents rows → StandsBelow c out es → StandsRead texts c out rows
placed_stand texts c out es rows low is placed valid s = record {
  history = s.history;
  below = s.below;
  placed = placed;
  known = record {
    low = low;
    left_valid = AreEvents-to (read_cells texts) (of out) (of_valid out s.history);
    right_valid = valid;
    same = subst (λ x. SameBag (cut c (read_of texts out)) (cut c x)) (sym is)
        (subst (λ x. SameBag x (cut c (read_events texts es))) (sym (cut_to (read_cells texts) c (of out)))
        (subst (λ x. SameBag (events_to (read_cells texts) (cut c (of out))) x) (sym (cut_to (read_cells texts) c es))
        (SameBag-map (event_to (read_cells texts)) _ _ s.same)));
  };
}

-- so do edges that stand for events of placed cells
pub stands_by : (texts : List (List ℕ)) (c : ℕ) (out : List Edge) (es : List CellEvent) (rows : List (Event Row)) → c ≤ inf →
    rows ≡ read_events texts es → EventsArePlaced texts es → AreEvents rows → StandsBelow c out es → StandsRead texts c out rows
stands_by texts c out es rows low is placed valid s = placed_stand texts c out es rows low is (answer_placed texts c out es s placed) valid s

pub node_valid : (texts : List (List ℕ)) (n : Node) (hl hr : List Edge) → IsHistory hl → IsHistory hr → AreEvents (node_events n (read_of texts hl) (read_of texts hr))
node_valid texts n hl hr il ir =
    (node_known n inf inf (read_of texts hl) (read_of texts hr) (read_of texts hl) (read_of texts hr)
    (Known-refl inf (read_of texts hl) (omega arith) (AreEvents-to (read_cells texts) (of hl) (of_valid hl il)))
    (Known-refl inf (read_of texts hr) (omega arith) (AreEvents-to (read_cells texts) (of hr) (of_valid hr ir)))).left_valid

pub no_history : IsHistory []
no_history = record { order = tt; real = refl; paired = λ cells start. omega arith }

pub none_stand : (texts : List (List ℕ)) (c : ℕ) → c ≤ inf → StandsRead texts c [] []
none_stand texts c low = record { history = no_history; below = refl; placed = All-nil (λ e. ArePlaced texts e.cells); known = Known-refl c [] low tt }

-- Where and Select, by a test and a selection of cells that agree with those of rows
pub stands_where : (texts : List (List ℕ)) (child : ℕ) (test : List ExprNode) (p : List Datum → Bool) → ((ds : List Datum) → ArePlaced texts ds → p ds ≡ holds test (read_cells texts ds)) →
    (c : ℕ) (h out : List Edge) → c ≤ inf → IsHistory h → EdgesArePlaced texts h → StandsBelow c out (filter (λ e. p e.row) (of h)) →
    StandsRead texts c out (node_events (Where child test) (read_of texts h) [])
stands_where texts child test p agree c h out low is placed s =
    stands_by texts c out (filter (λ e. p e.row) (of h)) (filter (λ e. holds test e.row) (read_of texts h)) low (where_read texts test p agree (of h) (placed_of texts h placed))
    (All-filter (λ e. p e.row) (λ e. ArePlaced texts e.row) (of h) (placed_of texts h placed))
    (node_valid texts (Where child test) h [] is no_history) s

pub stands_select : (texts : List (List ℕ)) (child : ℕ) (items : List (List ExprNode)) (f : List Datum → List Datum) →
    ((ds : List Datum) → ArePlaced texts ds → read_cells texts (f ds) ≡ selected_row items (read_cells texts ds)) → ((ds : List Datum) → ArePlaced texts ds → ArePlaced texts (f ds)) →
    (c : ℕ) (h out : List Edge) → c ≤ inf → IsHistory h → EdgesArePlaced texts h → StandsBelow c out (events_to f (of h)) →
    StandsRead texts c out (node_events (Select child items) (read_of texts h) [])
stands_select texts child items f agree keeps c h out low is placed s =
    stands_by texts c out (events_to f (of h)) (events_to (selected_row items) (read_of texts h)) low (select_read texts items f (ArePlaced texts) agree (of h) (placed_of texts h placed))
    (All-map (λ e. ArePlaced texts e.row) (event_to f) (of h) (All-weaker (λ e. ArePlaced texts e.row) (λ e. ArePlaced texts (f e.row)) (λ e k. keeps e.row k) (of h) (placed_of texts h placed)))
    (node_valid texts (Select child items) h [] is no_history) s

-- the sides may be the events for which they stand
pub stands_of_sides : (texts : List (List ℕ)) (n : Node) (x y : ℕ) (hl hr out : List Edge) (a b : List (Event Row)) →
    StandsRead texts x hl a → StandsRead texts y hr b →
    StandsRead texts (node_closes n x y) out (node_events n (read_of texts hl) (read_of texts hr)) →
    StandsRead texts (node_closes n x y) out (node_events n a b)
stands_of_sides texts n x y hl hr out a b l r s = record {
  history = s.history;
  below = s.below;
  placed = s.placed;
  known = Known-trans (node_closes n x y) (read_of texts out) (node_events n (read_of texts hl) (read_of texts hr)) (node_events n a b)
      s.known (node_known n x y (read_of texts hl) (read_of texts hr) a b l.known r.known);
}

-- what is alive of what stands
pub rows_standing : (texts : List (List ℕ)) (c t : ℕ) (h : List Edge) (rows : List (Event Row)) → t < c → StandsRead texts c h rows → SameBag (alive (read_of texts h) t) (alive rows t)
rows_standing texts c t h rows low s = alive_known c t (read_of texts h) rows low s.known.low s.known.same

pub cells_standing : (texts : List (List ℕ)) (c t : ℕ) (h : List Edge) (rows : List (Event Row)) → t < c → StandsRead texts c h rows → SameBag (map (read_cells texts) (alive (of h) t)) (alive rows t)
cells_standing texts c t h rows low s = subst (λ l. SameBag l (alive rows t)) (alive_to (read_cells texts) (of h) t) (rows_standing texts c t h rows low s)

module _ (test : CellTest) (select : CellSelect) where
  -- what stands for a node's answer over cells stands, read, for the node of what was read
  pub stands_read : (texts : List (List ℕ)) → AreDistinct texts → (n : Node) → has_expressions n ≡ false → (c : ℕ) (hl hr out : List Edge) → c ≤ inf →
      IsHistory hl → IsHistory hr → EdgesArePlaced texts hl → EdgesArePlaced texts hr →
      StandsBelow c out (node_in (cell_ops test select) n (of hl) (of hr)) →
      StandsRead texts c out (node_events n (read_of texts hl) (read_of texts hr))
  stands_read texts apart n by c hl hr out low il ir pl pr s =
      stands_by texts c out (node_in (cell_ops test select) n (of hl) (of hr)) (node_events n (read_of texts hl) (read_of texts hr)) low
      (place_law test select texts apart n (of hl) (of hr) by (placed_of texts hl pl) (placed_of texts hr pr))
      (node_placed test select texts n (of hl) (of hr) by (placed_of texts hl pl) (placed_of texts hr pr))
      (node_valid texts n hl hr il ir) s

  -- undefined instants are those of the cells
  pub undefined_law : (texts : List (List ℕ)) → AreDistinct texts → (key : List ℕ) (aggs : List Agg) (a : List CellEvent) (t : ℕ) → EventsArePlaced texts a →
      is_undefined key aggs (alive (read_events texts a) t) ≡ is_undefined_in (cell_ops test select) key aggs (alive a t)
  undefined_law texts apart key aggs a t p =
      ap (λ x. is_undefined key aggs (alive x t)) (sym (events_wide texts a p))
      ∙ (ap (is_undefined key aggs) (alive_to (map (read_wide texts)) a t)
      ∙ undefined_read (read_wide texts) (cell_ops test select) value_ops (wide_reads test select texts apart) key aggs (alive a t))

  pub undefined_of_edges : (texts : List (List ℕ)) → AreDistinct texts → (key : List ℕ) (aggs : List Agg) (h : List Edge) (t : ℕ) → EdgesArePlaced texts h →
      is_undefined key aggs (alive (read_of texts h) t) ≡ is_undefined_in (cell_ops test select) key aggs (alive (of h) t)
  undefined_of_edges texts apart key aggs h t p = undefined_law texts apart key aggs (of h) t (placed_of texts h p)

  -- a group of the rows for which edges stand is undefined where one of the cells is
  pub undefined_standing : (texts : List (List ℕ)) → AreDistinct texts → (key : List ℕ) (aggs : List Agg) (c t : ℕ) (h : List Edge) (rows : List (Event Row)) → t < c → StandsRead texts c h rows →
      is_undefined key aggs (alive rows t) ≡ is_undefined_in (cell_ops test select) key aggs (alive (of h) t)
  undefined_standing texts apart key aggs c t h rows low s =
      sym (undefined_same value_ops key aggs (alive (read_of texts h) t) (alive rows t) (rows_standing texts c t h rows low s))
      ∙ undefined_of_edges texts apart key aggs h t s.placed
