-- What an operator keeps of its node, what its answers stand for, and its step.
use Rattle.std.specs.Prelude.{◌≡◌, ℕ, zero, suc, ◌≤◌, nat_lt, Bool, true, false, cond, List, [], ◌++◌, flat_map, refl}
use Rattle.std.proofs.Common.{◌∙◌, ap, arith}
use Rattle.std.proofs.lemmas.List.Elements.{All-nil}
use Rattle.tw_rows.specs.Instant.{inf}
use Rattle.tw_rows.specs.Bag.{SameBag}
use Rattle.tw_rows.specs.Event.{Event, alive, Known}
use Rattle.tw_rows.specs.Texts.{BeginsWith}
use Rattle.tw_rows.specs.Cells.{ArePlaced}
use Rattle.tw_rows.specs.declared.cells.Datum.{Datum}
use Rattle.tw_rows.specs.declared.edge.Edge.{Edge}
use Rattle.tw_rows.proofs.Bags.{SameBag-refl}
use Rattle.tw_rows.proofs.Knowing.{Known-refl}
use Rattle.plan_model.specs.declared.node.Node.{Node}
use Rattle.plan_model.specs.declared.node.Node.TheVariants.{Source, Where, Select, Union, Delay, Hop, Duration, Extend, Session, Clip, Group, Join, Anti, Coalesce, Mean, Top, Follow}
use Rattle.plan_model.specs.Meaning.{node_events, node_closes}
use Rattle.edge_history.specs.Order.{is_from, is_real, failing, Rises, IsHistory}
use Rattle.edge_history.specs.History.{CellEvent, of, StandsBelow}
use Rattle.edge_history.specs.Balance.{Told, news}
use Rattle.tw_rows.specs.SameCells.{same_cells-Decides}
use Rattle.edge_history.proofs.Retaining.{events_of_are, same_below, AreEvents-none_fails}
use Rattle.edge_history.proofs.Standing.{told_stands}
use Rattle.edge_history.proofs.Sums.{failing-parts}
use Rattle.edge_history.proofs.Telling.{told_more, told_same}
use Rattle.plan_model.specs.Nodes.{node_in}
use Rattle.plan_model.specs.CellOps.{cell_ops}
use Rattle.plan_laws.specs.Readings.{has_expressions}
use Rattle.plan_laws.specs.Places.{AreDistinct, read_of, EdgesArePlaced}
use Rattle.plan_laws.specs.Standing.{StandsRead}
use Rattle.plan_laws.specs.Keeping.{Keeps}
use Rattle.key_nodes.specs.Groups.{distinct}
use Rattle.key_nodes.specs.Coalesced.{row_events, rows_below, coalesced}
use Rattle.key_nodes.specs.Tops.{top_rows}
use Rattle.plan_model.specs.RowOps.{RowOps, keys_equal_in, int_in}
use Rattle.plan_model.proofs.NewLives.{floor_rises}
use Rattle.plan_model.proofs.Causal.{node_in_known}
use Rattle.plan_laws.proofs.Places.{node_placed}
use Rattle.plan_laws.proofs.Answers.{answer_placed}
use Rattle.plan_laws.proofs.Standing.{of_valid, placed_of, placed_longer, no_history, stands_read}
use Rattle.plan_laws.specs.CellTests.{CellTest, CellSelect}

-- closings rise with those of the children
pub node_rises : (n : Node) (x y u v : ℕ) → x ≤ u → y ≤ v → u ≤ inf → node_closes n x y ≤ node_closes n u v
node_rises (Source stream) x y u v a b low = a
node_rises (Where of_it test) x y u v a b low = a
node_rises (Select of_it items) x y u v a b low = a
node_rises (Union left right) x y u v a b low = omega arith
node_rises (Delay of_it by) x y u v a b low = omega arith
node_rises (Hop of_it size period) x y u v a b low = floor_rises period x u a low
node_rises (Duration of_it by) x y u v a b low = a
node_rises (Extend of_it by) x y u v a b low = a
node_rises (Session of_it timeout key) x y u v a b low = a
node_rises (Clip left right left_key right_key) x y u v a b low = omega arith
node_rises (Group of_it key aggs) x y u v a b low = a
node_rises (Join left right left_key right_key) x y u v a b low = omega arith
node_rises (Anti left right left_key right_key) x y u v a b low = omega arith
node_rises (Coalesce of_it) x y u v a b low = a
node_rises (Mean of_it at) x y u v a b low = a
node_rises (Top of_it key by count) x y u v a b low = a
node_rises (Follow left right left_key right_key within) x y u v a b low = omega arith

-- without rows there are no coalesced events
below_none : {R : Type 0} (rows : ℕ → List R) → ((t : ℕ) → rows t ≡ []) → (n : ℕ) → rows_below rows n ≡ []
below_none rows h zero = refl
below_none rows h (suc n) = ap (λ l. l ++ rows n) (below_none rows h n) ∙ h n

coalesced_none : {R : Type 0} (same : R → R → Bool) (rows : ℕ → List R) → ((t : ℕ) → rows t ≡ []) → coalesced same rows ≡ []
coalesced_none same rows h = ap (λ l. flat_map (row_events same rows inf) (distinct same l)) (below_none rows h inf)

-- a node of no events has none
pub node_of_none : {X : Type 0} (ops : RowOps X) (n : Node) → node_in ops n [] [] ≡ []
node_of_none ops (Source stream) = refl
node_of_none ops (Where of_it test) = refl
node_of_none ops (Select of_it items) = refl
node_of_none ops (Union left right) = refl
node_of_none ops (Delay of_it by) = refl
node_of_none ops (Hop of_it size period) = refl
node_of_none ops (Duration of_it by) = refl
node_of_none ops (Extend of_it by) = refl
node_of_none {X} ops (Session of_it timeout key) = same (nat_lt 0 timeout)
  where
    same : (b : Bool) → cond {A = List (Event (List X))} b [] [] ≡ []
    same true = refl
    same false = refl
node_of_none ops (Clip left right left_key right_key) = refl
node_of_none ops (Group of_it key aggs) = refl
node_of_none ops (Join left right left_key right_key) = refl
node_of_none ops (Anti left right left_key right_key) = refl
node_of_none ops (Coalesce of_it) = coalesced_none ops.same (alive []) (λ t. refl)
node_of_none ops (Mean of_it at) = refl
node_of_none ops (Top of_it key by count) = coalesced_none ops.same (λ t. top_rows (keys_equal_in ops key key) (int_in ops by) count (alive [] t)) (λ t. refl)
node_of_none ops (Follow left right left_key right_key within) = refl

pub told_none : (c : ℕ) → Told c [] []
told_none c = record { order = tt; settled = refl; stands = SameBag-refl [] }

-- before anything came in, nothing was told
pub keeps_first : (ops : RowOps Datum) (n : Node) (texts : List (List ℕ)) (x y : ℕ) → Keeps ops n texts x y [] [] []
keeps_first ops n texts x y = record {
  left_history = no_history;
  right_history = no_history;
  left_placed = All-nil (λ e. ArePlaced texts e.cells);
  right_placed = All-nil (λ e. ArePlaced texts e.cells);
  told = rw (node_of_none ops n) (told_none (node_closes n x y));
}

pub side_known : (x : ℕ) (h new : List Edge) → x ≤ inf → IsHistory h → IsHistory (h ++ new) → failing (is_from x) new ≡ 0 → Known x (of h) (of (h ++ new))
side_known x h new low i j from = record {
  low = low;
  left_valid = of_valid h i;
  right_valid = of_valid (h ++ new) j;
  same = same_below x h new (of h) (of (h ++ new)) low (failing-parts is_real h new j.real).1 from (events_of_are h i) (events_of_are (h ++ new) j);
}

pub keeps_longer : (ops : RowOps Datum) (n : Node) (new old : List (List ℕ)) (x y : ℕ) (hl hr out : List Edge) → BeginsWith new old → Keeps ops n old x y hl hr out → Keeps ops n new x y hl hr out
keeps_longer ops n new old x y hl hr out b k = record {
  left_history = k.left_history;
  right_history = k.right_history;
  left_placed = placed_longer new old b hl k.left_placed;
  right_placed = placed_longer new old b hr k.right_placed;
  told = k.told;
}

module _ (test : CellTest) (select : CellSelect) where
  abbrev pub answer : Node → List Edge → List Edge → List CellEvent
  answer n hl hr = node_in (cell_ops test select) n (of hl) (of hr)

  -- the node's closing is no later than infinity
  pub node_low : (n : Node) (x y : ℕ) (hl hr : List Edge) → x ≤ inf → y ≤ inf → IsHistory hl → IsHistory hr → node_closes n x y ≤ inf
  node_low n x y hl hr lx ly il ir =
      (node_in_known (cell_ops test select) same_cells-Decides n x y (of hl) (of hr) (of hl) (of hr) (Known-refl x (of hl) lx (of_valid hl il)) (Known-refl y (of hr) ly (of_valid hr ir))).low

  -- what went out is a history below the closing, and stands for the node's events of the cells
  pub keeps_stand : (n : Node) (texts : List (List ℕ)) (x y : ℕ) (hl hr out : List Edge) → x ≤ inf → y ≤ inf →
      Keeps (cell_ops test select) n texts x y hl hr out → StandsBelow (node_closes n x y) out (node_in (cell_ops test select) n (of hl) (of hr))
  keeps_stand n texts x y hl hr out lx ly k = told_stands (node_closes n x y) out (answer n hl hr) (node_low n x y hl hr lx ly k.left_history k.right_history) k.told

  -- what stands for the node's events of the cells that came in stands, read, for those of the rows, and has its places
  pub answer_read : (n : Node) (texts : List (List ℕ)) (x y : ℕ) (hl hr out : List Edge) → has_expressions n ≡ false → AreDistinct texts → x ≤ inf → y ≤ inf →
      IsHistory hl → IsHistory hr → EdgesArePlaced texts hl → EdgesArePlaced texts hr → StandsBelow (node_closes n x y) out (answer n hl hr) →
      StandsRead texts (node_closes n x y) out (node_events n (read_of texts hl) (read_of texts hr))
  answer_read n texts x y hl hr out plain apart lx ly il ir pl pr s =
      stands_read test select texts apart n plain (node_closes n x y) hl hr out (node_low n x y hl hr lx ly il ir) il ir pl pr s

  pub answer_has_places : (n : Node) (texts : List (List ℕ)) (c : ℕ) (hl hr out : List Edge) → has_expressions n ≡ false →
      EdgesArePlaced texts hl → EdgesArePlaced texts hr → StandsBelow c out (answer n hl hr) → EdgesArePlaced texts out
  answer_has_places n texts c hl hr out plain pl pr s =
      answer_placed texts c out (answer n hl hr) s (node_placed test select texts n (of hl) (of hr) plain (placed_of texts hl pl) (placed_of texts hr pr))

  pub keeps_read : (n : Node) (texts : List (List ℕ)) (x y : ℕ) (hl hr out : List Edge) → has_expressions n ≡ false → AreDistinct texts → x ≤ inf → y ≤ inf →
      Keeps (cell_ops test select) n texts x y hl hr out → StandsRead texts (node_closes n x y) out (node_events n (read_of texts hl) (read_of texts hr))
  keeps_read n texts x y hl hr out plain apart lx ly k =
      answer_read n texts x y hl hr out plain apart lx ly k.left_history k.right_history k.left_placed k.right_placed (keeps_stand n texts x y hl hr out lx ly k)

  pub keeps_placed : (n : Node) (texts : List (List ℕ)) (x y : ℕ) (hl hr out : List Edge) → has_expressions n ≡ false → x ≤ inf → y ≤ inf →
      Keeps (cell_ops test select) n texts x y hl hr out → EdgesArePlaced texts out
  keeps_placed n texts x y hl hr out plain lx ly k =
      answer_has_places n texts (node_closes n x y) hl hr out plain k.left_placed k.right_placed (keeps_stand n texts x y hl hr out lx ly k)

  -- the step: what is left to show of an operator's code is that its answer is the news of the node's events, in order
  pub keeps_more : (n : Node) (texts : List (List ℕ)) (x y u v : ℕ) (hl hr out l r more : List Edge) → x ≤ u → u ≤ inf → y ≤ v → v ≤ inf →
      Keeps (cell_ops test select) n texts x y hl hr out →
      IsHistory (hl ++ l) → IsHistory (hr ++ r) → EdgesArePlaced texts (hl ++ l) → EdgesArePlaced texts (hr ++ r) →
      failing (is_from x) l ≡ 0 → failing (is_from y) r ≡ 0 → Rises 0 more →
      SameBag more (news (node_closes n x y) (node_closes n u v) (node_in (cell_ops test select) n (of (hl ++ l)) (of (hr ++ r)))) →
      Keeps (cell_ops test select) n texts u v (hl ++ l) (hr ++ r) (out ++ more)
  keeps_more n texts x y u v hl hr out l r more xu lu yv lv k il ir pl pr fl fr order same =
      let known = node_in_known (cell_ops test select) same_cells-Decides n x y (of hl) (of hr) (of (hl ++ l)) (of (hr ++ r))
      (side_known x hl l (omega (arith, xu, lu)) k.left_history il fl) (side_known y hr r (omega (arith, yv, lv)) k.right_history ir fr) in
      record {
        left_history = il;
        right_history = ir;
        left_placed = pl;
        right_placed = pr;
        told = told_more (node_closes n x y) (node_closes n u v) out more (answer n (hl ++ l) (hr ++ r)) (node_rises n x y u v xu yv lu)
            (node_low n u v (hl ++ l) (hr ++ r) lu lv il ir)
            (AreEvents-none_fails (answer n (hl ++ l) (hr ++ r)) known.right_valid)
            (told_same (node_closes n x y) out (answer n hl hr) (answer n (hl ++ l) (hr ++ r)) known.same k.told) order same;
      }
