-- A step of the operator of a sweep, and what it kept before the first and in longer tables.
use Rattle.std.specs.Prelude.{◌≡◌, ℕ, ◌≤◌, false, List, [], ◌++◌, map, All}
use Rattle.std.proofs.Common.{sym, subst, arith}
use Rattle.std.proofs.lemmas.List.Elements.{All-append, All-nil}
use Rattle.tw_rows.specs.Cells.{ArePlaced, datum_kind}
use Rattle.tw_rows.specs.Instant.{inf}
use Rattle.tw_rows.specs.Texts.{BeginsWith}
use Rattle.tw_rows.specs.declared.edge.Edge.{Edge}
use Rattle.tw_rows.specs.declared.kind.CellKind.{CellKind}
use Rattle.edge_history.specs.Balance.{Told}
use Rattle.edge_history.specs.Order.{KeepsOrder}
use Rattle.edge_history.proofs.Agreeing.{same_order}
use Rattle.edge_history.proofs.Keeping.{KeepsOrder-back}
use Rattle.edge_history.proofs.Telling.{answer_from, answer_below}
use Rattle.plan_model.specs.declared.node.Node.{Node}
use Rattle.plan_model.specs.Meaning.{node_closes, node_events}
use Rattle.plan_laws.specs.Keeping.{Keeps, plain_cells}
use Rattle.plan_laws.specs.Places.{AreDistinct, read_of}
use Rattle.plan_laws.specs.Readings.{has_expressions}
use Rattle.plan_laws.specs.Standing.{StandsRead}
use Rattle.plan_laws.proofs.Standing.{no_history, placed_longer}
use Rattle.plan_laws.proofs.Steps.{keeps_read, keeps_stand}
use Rattle.edge_stream.specs.Steps.{MayCome}
use Rattle.sweep_sides.specs.Answers.{FitsList}
use Rattle.sweep_sides.proofs.Telling.{between_both, told_stored}
use Rattle.sweep_sides.specs.Sweeping.{AreStored, Keeping, told_events, HasSwept, ComeOn}
use Rattle.sweep_sides.specs.Sweepers.{HaveCome, SweptKeeps}

-- new edges may come to both sides
pub come_on : (x y : ℕ) (texts : List (List ℕ)) (hl hr l r : List Edge) → MayCome texts x hl l → MayCome texts y hr r → ComeOn x y hl hr l r
come_on x y texts hl hr l r ml mr = record { left_history = ml.history; right_history = mr.history; left_from = ml.from; right_from = mr.from }

module _ (n : Node) (lc rc : List CellKind) where
  -- of no edges
  pub none_came : (texts : List (List ℕ)) → HaveCome lc rc 0 0 texts [] []
  none_came texts = record {
    left_low = omega arith;
    right_low = omega arith;
    left_history = no_history;
    right_history = no_history;
    left_placed = All-nil (λ (e : Edge). ArePlaced texts e.cells);
    right_placed = All-nil (λ (e : Edge). ArePlaced texts e.cells);
    left_cells = All-nil (λ (e : Edge). map datum_kind e.cells ≡ lc);
    right_cells = All-nil (λ (e : Edge). map datum_kind e.cells ≡ rc);
  }

  pub none_kept : (keeps : Keeping) (texts : List (List ℕ)) (x y : ℕ) → x ≡ 0 → y ≡ 0 → keeps (node_closes n 0 0) [] [] [] → SweptKeeps n keeps lc rc x y texts [] [] []
  none_kept keeps texts x y e f k = rw (e, f) (record { came = none_came texts; kept = k })

  -- a table that grows
  pub come_longer : (x y : ℕ) (new old : List (List ℕ)) (hl hr : List Edge) → BeginsWith new old → HaveCome lc rc x y old hl hr → HaveCome lc rc x y new hl hr
  come_longer x y new old hl hr b k = record {
    left_low = k.left_low;
    right_low = k.right_low;
    left_history = k.left_history;
    right_history = k.right_history;
    left_placed = placed_longer new old b hl k.left_placed;
    right_placed = placed_longer new old b hr k.right_placed;
    left_cells = k.left_cells;
    right_cells = k.right_cells;
  }

  -- what was told stands for the node
  node_keeps : (x y : ℕ) (texts : List (List ℕ)) (hl hr out : List Edge) → HaveCome lc rc x y texts hl hr → Told (node_closes n x y) out (told_events n hl hr) →
      Keeps plain_cells n texts x y hl hr out
  node_keeps x y texts hl hr out k told = record {
    left_history = k.left_history;
    right_history = k.right_history;
    left_placed = k.left_placed;
    right_placed = k.right_placed;
    told = told;
  }

  pub swept_stands : (x y : ℕ) (texts : List (List ℕ)) (hl hr out : List Edge) → has_expressions n ≡ false → AreDistinct texts → HaveCome lc rc x y texts hl hr →
      Told (node_closes n x y) out (told_events n hl hr) → StandsRead texts (node_closes n x y) out (node_events n (read_of texts hl) (read_of texts hr))
  swept_stands x y texts hl hr out plain apart k told =
      keeps_read (λ test row. false) (λ items row. row) n texts x y hl hr out plain apart k.left_low k.right_low (node_keeps x y texts hl hr out k told)

  told_order : (x y : ℕ) (texts : List (List ℕ)) (hl hr out : List Edge) → HaveCome lc rc x y texts hl hr → Told (node_closes n x y) out (told_events n hl hr) → KeepsOrder out
  told_order x y texts hl hr out k told =
      let s = keeps_stand (λ test row. false) (λ items row. row) n texts x y hl hr out k.left_low k.right_low (node_keeps x y texts hl hr out k told) in
      (same_order out).1 (s.history.order, s.history.real)

  -- new edges that came
  pub come_more : (x y u v : ℕ) (texts : List (List ℕ)) (hl hr l r : List Edge) → u ≤ inf → v ≤ inf → HaveCome lc rc x y texts hl hr → MayCome texts x hl l → MayCome texts y hr r →
      All (λ e. map datum_kind e.cells ≡ lc) l → All (λ e. map datum_kind e.cells ≡ rc) r → HaveCome lc rc u v texts (hl ++ l) (hr ++ r)
  come_more x y u v texts hl hr l r lu lv k ml mr cl cr = record {
    left_low = lu;
    right_low = lv;
    left_history = ml.history;
    right_history = mr.history;
    left_placed = ml.placed;
    right_placed = mr.placed;
    left_cells = All-append (λ (e : Edge). map datum_kind e.cells ≡ lc) hl l k.left_cells cl;
    right_cells = All-append (λ (e : Edge). map datum_kind e.cells ≡ rc) hr r k.right_cells cr;
  }

  -- and a list of what was told for them
  pub swept_more : (own : List CellKind) (keeps : Keeping) (x y u v : ℕ) (texts : List (List ℕ)) (hl hr out told answer : List Edge) → HaveCome lc rc u v texts hl hr →
      HasSwept n keeps (node_closes n x y) (node_closes n u v) hl hr out told →
      (keeps (node_closes n u v) hl hr (out ++ told) → Told (node_closes n u v) (out ++ told) (told_events n hl hr)) →
      AreStored own (told_events n hl hr) →
      (FitsList own (node_closes n x y) (node_closes n u v) told → answer ≡ told) → SweptKeeps n keeps lc rc u v texts hl hr (out ++ answer)
  swept_more own keeps x y u v texts hl hr out told answer k s tells stored listed =
      let c = node_closes n x y in
      let d = node_closes n u v in
      let order = KeepsOrder-back out told (told_order u v texts hl hr (out ++ told) k (tells s.kept)) in
      let is = listed (record {
        order = order;
        cells = told_stored own c d (told_events n hl hr) told stored s.tells;
        between = between_both c d told (answer_from c d told (told_events n hl hr) s.tells) (answer_below c d told (told_events n hl hr) s.tells);
      }) in
      record { came = k; kept = subst (λ (z : List Edge). keeps d hl hr (out ++ z)) (sym is) s.kept }
