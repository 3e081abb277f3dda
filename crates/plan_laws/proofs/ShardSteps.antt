-- What the shards of a node keep together is what the node keeps.
use Rattle.std.specs.Prelude.{◌≡◌, ℕ, zero, suc, ◌+◌, ◌<◌, ◌≤◌, nat_eq, cond, Bool, true, List, [], ◌++◌, filter, refl}
use Rattle.std.proofs.Common.{◌∙◌, ap, arith}
use Rattle.tw_rows.specs.Instant.{inf}
use Rattle.tw_rows.specs.Bag.{total, SameBag}
use Rattle.tw_rows.specs.Event.{AreEvents, cut_one, cut, Known}
use Rattle.tw_rows.specs.declared.cells.Datum.{Datum}
use Rattle.tw_rows.specs.declared.edge.Edge.{Edge}
use Rattle.tw_rows.specs.SameCells.{same_cells-Decides}
use Rattle.tw_rows.proofs.Bags.{total-append, SameBag-refl, SameBag-flat_map}
use Rattle.tw_rows.proofs.Lives.{cut-append}
use Rattle.key_nodes.specs.Shards.{of_shard, over_shards}
use Rattle.edge_history.specs.Order.{failing, Rises, IsHistory}
use Rattle.edge_history.specs.History.{CellEvent, of}
use Rattle.edge_history.specs.Balance.{StandsFor, is_settled}
use Rattle.edge_history.proofs.Made.{events_of_where}
use Rattle.edge_history.proofs.Retaining.{events_of_are, events_unique}
use Rattle.edge_history.proofs.Telling.{gain, loss, stands_by_weight, weight_of_standing, stands_same}
use Rattle.plan_model.specs.CellOps.{cell_ops}
use Rattle.plan_model.specs.RowOps.{key_in}
use Rattle.plan_model.specs.Nodes.{node_in}
use Rattle.plan_model.specs.Meaning.{node_closes}
use Rattle.plan_model.specs.declared.node.Node.{Node}
use Rattle.plan_model.proofs.Causal.{node_in_known, AreEvents-filter}
use Rattle.plan_laws.specs.Places.{EdgesArePlaced}
use Rattle.plan_laws.specs.Keeping.{Keeps}
use Rattle.plan_laws.specs.Shards.{is_keyed, left_key_of, right_key_of, edges_of_shard}
use Rattle.plan_laws.proofs.Keys.{node_shards}
use Rattle.plan_laws.proofs.Standing.{of_valid}
use Rattle.plan_laws.specs.CellTests.{CellTest, CellSelect}

-- edges of two lists stand for the events of both
stand_both : (c : ℕ) (h k : List Edge) (a b : List CellEvent) → StandsFor c h a → StandsFor c k b → StandsFor c (h ++ k) (a ++ b)
stand_both c h k a b u v = stands_by_weight c (h ++ k) (a ++ b) (λ w.
    let p = weight_of_standing c h a u w in
    let q = weight_of_standing c k b v w in
    let events : total w (cut c (a ++ b)) ≡ total w (cut c a) + total w (cut c b) = ap (total w) (cut-append c a b) ∙ total-append w (cut c a) (cut c b) in
    let taken : total (loss w c) (h ++ k) ≡ total (loss w c) h + total (loss w c) k = total-append (loss w c) h k in
    let given : total (gain w c) (h ++ k) ≡ total (gain w c) h + total (gain w c) k = total-append (gain w c) h k in
    omega (arith, p, q, events, taken, given))

stand_all : (c n : ℕ) (outs : ℕ → List Edge) (events : ℕ → List CellEvent) → ((s : ℕ) → s < n → StandsFor c (outs s) (events s)) →
    StandsFor c (over_shards outs n) (over_shards events n)
stand_all c zero outs events h = SameBag-refl []
stand_all c (suc n) outs events h =
    stand_both c (over_shards outs n) (outs n) (over_shards events n) (events n) (stand_all c n outs events (λ s low. h s (omega (arith, low)))) (h n (omega arith))

pub none_fail : (p : Edge → Bool) (n : ℕ) (outs : ℕ → List Edge) → ((s : ℕ) → s < n → failing p (outs s) ≡ 0) → failing p (over_shards outs n) ≡ 0
none_fail p zero outs h = refl
none_fail p (suc n) outs h =
    let both = total-append (λ x. cond {A = ℕ} (p x) 0 1) (over_shards outs n) (outs n) in
    let first = none_fail p n outs (λ s low. h s (omega (arith, low))) in
    let last = h n (omega arith) in
    omega (arith, both, first, last)

-- the same edges in another order stand for events of which the same is known
stand_alike : (c : ℕ) (h k : List Edge) (a b : List CellEvent) → SameBag h k → SameBag (cut c a) (cut c b) → StandsFor c k b → StandsFor c h a
stand_alike c h k a b edges events s = stands_by_weight c h a (λ w.
    let p = weight_of_standing c k b s w in
    let taken = edges.weigh (loss w c) in
    let given = edges.weigh (gain w c) in
    let known = events.weigh w in
    omega (arith, p, taken, given, known))

cut_same : (c : ℕ) (a b : List CellEvent) → SameBag a b → SameBag (cut c a) (cut c b)
cut_same c a b h = SameBag-flat_map (cut_one c) (cut_one c) a b h (λ e. SameBag-refl (cut_one c e))

-- the events of a shard's edges are those of the shard
pub shard_known : (x : ℕ) (shard : List Datum → ℕ) (s : ℕ) (h : List Edge) → x ≤ inf → IsHistory h → IsHistory (edges_of_shard shard s h) →
    Known x (of (edges_of_shard shard s h)) (of_shard shard s (of h))
shard_known x shard s h low whole part = record {
  low = low;
  left_valid = of_valid (edges_of_shard shard s h) part;
  right_valid = AreEvents-test (λ row. nat_eq (shard row) s) (of h) (of_valid h whole);
  same = cut_same x (of (edges_of_shard shard s h)) (of_shard shard s (of h))
      (events_unique (edges_of_shard shard s h) (of (edges_of_shard shard s h)) (of_shard shard s (of h)) (events_of_are (edges_of_shard shard s h) part)
      (events_of_where (λ row. nat_eq (shard row) s) h (of h) (events_of_are h whole)));
}
  where
    AreEvents-test : (p : List Datum → Bool) (es : List CellEvent) → AreEvents es → AreEvents (filter (λ e. p e.row) es)
    AreEvents-test p es v = AreEvents-filter (cell_ops (λ test row. true) (λ items row. row)) p es v

module _ (test : CellTest) (select : CellSelect) (n : Node) (keyed : is_keyed n ≡ true)
    (shard : List Datum → ℕ) (count : ℕ) (low : (key : List Datum) → shard key < count) where
  abbrev by_left : List Datum → ℕ
  by_left cells = shard (key_in (cell_ops test select) (left_key_of n) cells)

  abbrev by_right : List Datum → ℕ
  by_right cells = shard (key_in (cell_ops test select) (right_key_of n) cells)

  pub shards_keep : (texts : List (List ℕ)) (x y : ℕ) (left right out : List Edge) (outs : ℕ → List Edge) → x ≤ inf → y ≤ inf →
      IsHistory left → IsHistory right → EdgesArePlaced texts left → EdgesArePlaced texts right →
      ((s : ℕ) → s < count → Keeps (cell_ops test select) n texts x y (edges_of_shard by_left s left) (edges_of_shard by_right s right) (outs s)) →
      Rises 0 out → SameBag out (over_shards outs count) → Keeps (cell_ops test select) n texts x y left right out
  shards_keep texts x y left right out outs lx ly il ir pl pr keeps order same = record {
    left_history = il;
    right_history = ir;
    left_placed = pl;
    right_placed = pr;
    told = record {
      order = order;
      settled = same.weigh (λ e. cond {A = ℕ} (is_settled (node_closes n x y) e) 0 1) ∙ none_fail (is_settled (node_closes n x y)) count outs (λ s k. (keeps s k).told.settled);
      stands = stand_alike (node_closes n x y) out (over_shards outs count) (node_in (cell_ops test select) n (of left) (of right)) (over_shards part count) same
          (cut_same (node_closes n x y) (node_in (cell_ops test select) n (of left) (of right)) (over_shards part count) (node_shards (cell_ops test select) same_cells-Decides shard count low n (of left) (of right) keyed))
          (stand_all (node_closes n x y) count outs part each);
    };
  }
    where
      part : ℕ → List CellEvent
      part s = node_in (cell_ops test select) n (of_shard by_left s (of left)) (of_shard by_right s (of right))

      each : (s : ℕ) → s < count → StandsFor (node_closes n x y) (outs s) (part s)
      each s k =
          let own = keeps s k in
          let known = node_in_known (cell_ops test select) same_cells-Decides n x y (of (edges_of_shard by_left s left)) (of (edges_of_shard by_right s right)) (of_shard by_left s (of left)) (of_shard by_right s (of right))
          (shard_known x by_left s left lx il own.left_history) (shard_known y by_right s right ly ir own.right_history) in
          stands_same (node_closes n x y) (outs s) (node_in (cell_ops test select) n (of (edges_of_shard by_left s left)) (of (edges_of_shard by_right s right))) (part s) known.same own.told.stands
