-- What an operator keeps that may tell ends ahead.
use Rattle.std.specs.Prelude.{◌≡◌, ℕ, ◌+◌, ◌≤◌, false, List, [], ◌++◌, filter, refl}
use Rattle.std.proofs.Common.{arith}
use Rattle.std.proofs.lemmas.List.Elements.{All-nil}
use Rattle.tw_rows.specs.Instant.{inf}
use Rattle.tw_rows.specs.Bag.{total}
use Rattle.tw_rows.specs.Event.{Known}
use Rattle.tw_rows.specs.Texts.{BeginsWith}
use Rattle.tw_rows.specs.Cells.{ArePlaced}
use Rattle.tw_rows.specs.declared.cells.Datum.{Datum}
use Rattle.tw_rows.specs.declared.edge.Edge.{Edge}
use Rattle.tw_rows.specs.SameCells.{same_cells-Decides}
use Rattle.tw_rows.proofs.Bags.{SameBag-refl, SameBag-trans, total-append}
use Rattle.tw_rows.proofs.Knowing.{Known-refl}
use Rattle.edge_history.specs.Order.{is_from, is_below, is_real, failing, Rises, IsHistory}
use Rattle.edge_history.specs.History.{CellEvent, of, StandsBelow}
use Rattle.edge_history.specs.Balance.{news}
use Rattle.edge_history.specs.Opens.{singles}
use Rattle.edge_history.specs.Ahead.{ToldAhead}
use Rattle.edge_history.proofs.Ahead.{time_parts, ahead_stands, ahead_more}
use Rattle.edge_history.proofs.Retaining.{AreEvents-none_fails}
use Rattle.edge_history.proofs.Telling.{news_same, news_in_parts}
use Rattle.plan_model.specs.CellOps.{cell_ops}
use Rattle.plan_model.specs.RowOps.{RowOps}
use Rattle.plan_model.specs.Nodes.{node_in}
use Rattle.plan_model.specs.Meaning.{node_events, node_closes}
use Rattle.plan_model.specs.declared.node.Node.{Node}
use Rattle.plan_model.proofs.Causal.{node_in_known}
use Rattle.plan_laws.specs.Readings.{has_expressions}
use Rattle.plan_laws.specs.Places.{AreDistinct, read_of, EdgesArePlaced}
use Rattle.plan_laws.specs.Standing.{StandsRead}
use Rattle.plan_laws.specs.Keeping.{KeepsAhead}
use Rattle.plan_laws.proofs.Standing.{of_valid, placed_longer, no_history}
use Rattle.plan_laws.proofs.Steps.{node_rises, node_of_none, side_known, node_low, answer_read, answer_has_places}
use Rattle.plan_laws.specs.CellTests.{CellTest, CellSelect}

nothing_ahead : (c : ℕ) → ToldAhead c [] []
nothing_ahead c = record { order = tt; real = refl; below = refl; told = SameBag-refl []; ahead = λ w. omega arith }

pub ahead_first : (ops : RowOps Datum) (n : Node) (texts : List (List ℕ)) (x y : ℕ) → KeepsAhead ops n texts x y [] [] []
ahead_first ops n texts x y = record {
  left_history = no_history;
  right_history = no_history;
  left_placed = All-nil (λ e. ArePlaced texts e.cells);
  right_placed = All-nil (λ e. ArePlaced texts e.cells);
  told = rw (node_of_none ops n) (nothing_ahead (node_closes n x y));
}

pub ahead_longer : (ops : RowOps Datum) (n : Node) (new old : List (List ℕ)) (x y : ℕ) (hl hr out : List Edge) → BeginsWith new old → KeepsAhead ops n old x y hl hr out → KeepsAhead ops n new x y hl hr out
ahead_longer ops n new old x y hl hr out b k = record {
  left_history = k.left_history;
  right_history = k.right_history;
  left_placed = placed_longer new old b hl k.left_placed;
  right_placed = placed_longer new old b hr k.right_placed;
  told = k.told;
}

-- what is told of events is told of others of which the same is known, if the ends told ahead are ends of these
ahead_same : (c d : ℕ) (out more : List Edge) (a b : List CellEvent) → c ≤ d → d ≤ inf → ToldAhead c out a → Known c a b →
    ((w : Edge → ℕ) → total w (filter (is_below d) (singles more)) + total w (filter (is_below d) (filter (is_from c) (singles out))) ≡ total w (news c d b)) →
    ((w : Edge → ℕ) → total w (filter (is_from d) (singles more)) + total w (filter (is_from d) (filter (is_from c) (singles out))) ≤ total w (news d inf b)) →
    ToldAhead c out b
ahead_same c d out more a b low high told known due later = record {
  order = told.order;
  real = told.real;
  below = told.below;
  told = SameBag-trans _ _ _ told.told (news_same 0 c a b known.low (AreEvents-none_fails a known.left_valid) (AreEvents-none_fails b known.right_valid) known.same);
  ahead = λ w.
      let parts = time_parts w d (filter (is_from c) (singles out)) in
      let first = due w in
      let last = later w in
      let whole = (news_in_parts c d inf b low high).weigh w in
      let split = total-append w (news c d b) (news d inf b) in
      omega (arith, parts, first, last, whole, split);
}

module _ (test : CellTest) (select : CellSelect) where
  pub ahead_stand : (n : Node) (texts : List (List ℕ)) (x y : ℕ) (hl hr out : List Edge) → x ≤ inf → y ≤ inf →
      KeepsAhead (cell_ops test select) n texts x y hl hr out → StandsBelow (node_closes n x y) out (node_in (cell_ops test select) n (of hl) (of hr))
  ahead_stand n texts x y hl hr out lx ly k =
      ahead_stands (node_closes n x y) out (node_in (cell_ops test select) n (of hl) (of hr)) (node_low test select n x y hl hr lx ly k.left_history k.right_history)
      (AreEvents-none_fails (node_in (cell_ops test select) n (of hl) (of hr))
      (node_in_known (cell_ops test select) same_cells-Decides n x y (of hl) (of hr) (of hl) (of hr)
      (Known-refl x (of hl) lx (of_valid hl k.left_history)) (Known-refl y (of hr) ly (of_valid hr k.right_history))).left_valid) k.told

  pub ahead_read : (n : Node) (texts : List (List ℕ)) (x y : ℕ) (hl hr out : List Edge) → has_expressions n ≡ false → AreDistinct texts → x ≤ inf → y ≤ inf →
      KeepsAhead (cell_ops test select) n texts x y hl hr out → StandsRead texts (node_closes n x y) out (node_events n (read_of texts hl) (read_of texts hr))
  ahead_read n texts x y hl hr out plain apart lx ly k =
      answer_read test select n texts x y hl hr out plain apart lx ly k.left_history k.right_history k.left_placed k.right_placed (ahead_stand n texts x y hl hr out lx ly k)

  pub ahead_placed : (n : Node) (texts : List (List ℕ)) (x y : ℕ) (hl hr out : List Edge) → has_expressions n ≡ false → x ≤ inf → y ≤ inf →
      KeepsAhead (cell_ops test select) n texts x y hl hr out → EdgesArePlaced texts out
  ahead_placed n texts x y hl hr out plain lx ly k =
      answer_has_places test select n texts (node_closes n x y) hl hr out plain k.left_placed k.right_placed (ahead_stand n texts x y hl hr out lx ly k)

  pub ahead_step : (n : Node) (texts : List (List ℕ)) (x y u v : ℕ) (hl hr out l r more : List Edge) → x ≤ u → u ≤ inf → y ≤ v → v ≤ inf →
      KeepsAhead (cell_ops test select) n texts x y hl hr out →
      IsHistory (hl ++ l) → IsHistory (hr ++ r) → EdgesArePlaced texts (hl ++ l) → EdgesArePlaced texts (hr ++ r) →
      failing (is_from x) l ≡ 0 → failing (is_from y) r ≡ 0 →
      Rises 0 more → failing is_real more ≡ 0 → failing (is_from (node_closes n x y)) more ≡ 0 → failing (is_below (node_closes n u v)) more ≡ 0 →
      ((w : Edge → ℕ) → total w (filter (is_below (node_closes n u v)) (singles more))
      + total w (filter (is_below (node_closes n u v)) (filter (is_from (node_closes n x y)) (singles out)))
      ≡ total w (news (node_closes n x y) (node_closes n u v) (node_in (cell_ops test select) n (of (hl ++ l)) (of (hr ++ r))))) →
      ((w : Edge → ℕ) → total w (filter (is_from (node_closes n u v)) (singles more))
      + total w (filter (is_from (node_closes n u v)) (filter (is_from (node_closes n x y)) (singles out)))
      ≤ total w (news (node_closes n u v) inf (node_in (cell_ops test select) n (of (hl ++ l)) (of (hr ++ r))))) →
      KeepsAhead (cell_ops test select) n texts u v (hl ++ l) (hr ++ r) (out ++ more)
  ahead_step n texts x y u v hl hr out l r more xu lu yv lv k il ir pl pr fl fr order real from below due later =
      let known = node_in_known (cell_ops test select) same_cells-Decides n x y (of hl) (of hr) (of (hl ++ l)) (of (hr ++ r))
      (side_known x hl l (omega (arith, xu, lu)) k.left_history il fl) (side_known y hr r (omega (arith, yv, lv)) k.right_history ir fr) in
      let rise = node_rises n x y u v xu yv lu in
      let low = node_low test select n u v (hl ++ l) (hr ++ r) lu lv il ir in
      let told = ahead_same (node_closes n x y) (node_closes n u v) out more (node_in (cell_ops test select) n (of hl) (of hr))
      (node_in (cell_ops test select) n (of (hl ++ l)) (of (hr ++ r))) rise low k.told known due later in
      record {
        left_history = il;
        right_history = ir;
        left_placed = pl;
        right_placed = pr;
        told = ahead_more (node_closes n x y) (node_closes n u v) out more (node_in (cell_ops test select) n (of (hl ++ l)) (of (hr ++ r))) rise low told order real from below due later;
      }
