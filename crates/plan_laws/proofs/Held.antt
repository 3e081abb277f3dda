-- What the shards of a node may keep together, the node may keep.
use Rattle.std.specs.Prelude.{◌≡◌, ℕ, zero, suc, ◌+◌, ◌*◌, ◌<◌, nat_le, nat_eq, Bool, true, false, cond, List, refl}
use Rattle.std.proofs.Common.{◌∙◌, sym, ap, arith}
use Rattle.tw_rows.specs.Bag.{total, SameBag}
use Rattle.tw_rows.specs.Event.{AreEvents}
use Rattle.tw_rows.specs.SameCells.{same_cells-Decides}
use Rattle.tw_rows.specs.declared.cells.Datum.{Datum}
use Rattle.tw_rows.specs.declared.edge.Edge.{Edge}
use Rattle.tw_rows.proofs.Bags.{total-append, total-filter}
use Rattle.key_nodes.specs.Shards.{of_shard, over_shards}
use Rattle.key_nodes.proofs.Shards.{split_sum, sum_same, total-over_shards}
use Rattle.edge_history.specs.History.{CellEvent, of}
use Rattle.edge_history.specs.Order.{IsHistory}
use Rattle.edge_history.proofs.Made.{events_of_where}
use Rattle.edge_history.proofs.Retaining.{events_of_are, events_unique}
use Rattle.plan_model.specs.Meaning.{node_closes}
use Rattle.plan_model.specs.Nodes.{node_in}
use Rattle.plan_model.specs.declared.node.Node.{Node}
use Rattle.plan_model.specs.declared.node.Node.TheVariants.{Follow}
use Rattle.plan_model.proofs.SameNodes.{node_same}
use Rattle.plan_laws.specs.Held.{reaching, agg_count, counts_answers, counted_from, waiting}
use Rattle.plan_laws.specs.Keeping.{plain_cells}
use Rattle.plan_laws.specs.Shards.{is_keyed, left_key_of, right_key_of, edges_of_shard}
use Rattle.plan_laws.proofs.Keys.{node_shards}
use Rattle.plan_laws.proofs.Standing.{of_valid}
use Rattle.plan_laws.specs.Parts.{by_key, left_part, right_part, sum_of_shards, may_keep_of}
use Rattle.plan_laws.proofs.Histories.{history_where}
use Rattle.plan_laws.proofs.Sums.{AreEvents-cells}

-- a node with a key waits for no event that follows
waiting_none : (n : Node) → is_keyed n ≡ true → (c : ℕ) (es : List CellEvent) → waiting n c es ≡ 0
waiting_none (Follow left right left_key right_key within) h c es = absurd (cc)
waiting_none n h c es = refl

total_of_shards : {X : Type 0} (w : X → ℕ) (f : ℕ → List X) (n : ℕ) → total w (over_shards f n) ≡ sum_of_shards (λ s. total w (f s)) n
total_of_shards w f zero = refl
total_of_shards w f (suc n) = total-append w (over_shards f n) (f n) ∙ ap (λ k. k + total w (f n)) (total_of_shards w f n)

sums_same : (f g : ℕ → ℕ) (n : ℕ) → ((s : ℕ) → f s ≡ g s) → sum_of_shards f n ≡ sum_of_shards g n
sums_same f g zero h = refl
sums_same f g (suc n) h = let a = sums_same f g n h in let b = h n in omega (arith, a, b)

-- events by shards
events_split : (by : List Datum → ℕ) (n : ℕ) → ((r : List Datum) → by r < n) → (es : List CellEvent) → SameBag es (over_shards (λ s. of_shard by s es) n)
events_split by n low es = record {
  weigh = λ w.
      split_sum (λ e. by e.row) n (λ e. low e.row) w es
      ∙ (sum_same _ _ n (λ s. sym (total-filter w (λ e. nat_eq (by e.row) s) es))
      ∙ sym (total-over_shards w (λ s. of_shard by s es) n));
}

sums_spread : (k : ℕ) (b : Bool) (u v o : ℕ → ℕ) (n : ℕ) →
    sum_of_shards (λ s. k * ((u s + v s) + cond b (o s) 0 + 0)) n
    ≡ k * ((sum_of_shards u n + sum_of_shards v n) + cond b (sum_of_shards o n) 0 + 0)
sums_spread k true u v o zero = grind arith
sums_spread k false u v o zero = grind arith
sums_spread k true u v o (suc n) =
    let rest = sums_spread k true u v o n in
    grind (arith, rest)
sums_spread k false u v o (suc n) =
    let rest = sums_spread k false u v o n in
    grind (arith, rest)

module _ (n : Node) (keyed : is_keyed n ≡ true) (shard : List Datum → ℕ) (count : ℕ) (low : (key : List Datum) → shard key < count) where
  -- the events of a shard's edges are those of the shard
  part_events : (key : List ℕ) (s : ℕ) (h : List Edge) → IsHistory h → SameBag (of (edges_of_shard (by_key shard key) s h)) (of_shard (by_key shard key) s (of h))
  part_events key s h is =
      let part = edges_of_shard (by_key shard key) s h in
      events_unique part (of part) (of_shard (by_key shard key) s (of h)) (events_of_are part (history_where (λ cells. nat_eq (by_key shard key cells) s) h is))
      (events_of_where (λ cells. nat_eq (by_key shard key cells) s) h (of h) (events_of_are h is))

  -- what the shards' events weigh together
  side_sum : (w : CellEvent → ℕ) (key : List ℕ) (h : List Edge) → IsHistory h →
      sum_of_shards (λ s. total w (of (edges_of_shard (by_key shard key) s h))) count ≡ total w (of h)
  side_sum w key h is =
      sums_same _ _ count (λ s. (part_events key s h is).weigh w)
      ∙ sym (total_of_shards w (λ s. of_shard (by_key shard key) s (of h)) count)
      ∙ sym ((events_split (by_key shard key) count (λ r. low _) (of h)).weigh w)

  abbrev own : List Edge → List Edge → ℕ → List CellEvent
  own hl hr s = node_in plain_cells n (of (left_part shard n s hl)) (of (right_part shard n s hr))

  part_valid : (key : List ℕ) (s : ℕ) (h : List Edge) → IsHistory h → AreEvents (of (edges_of_shard (by_key shard key) s h))
  part_valid key s h is = of_valid _ (history_where (λ cells. nat_eq (by_key shard key cells) s) h is)

  shard_valid : (key : List ℕ) (s : ℕ) (h : List Edge) → IsHistory h → AreEvents (of_shard (by_key shard key) s (of h))
  shard_valid key s h is = AreEvents-cells (λ e. nat_eq (by_key shard key e.row) s) (of h) (of_valid h is)

  own_sum : (w : CellEvent → ℕ) (hl hr : List Edge) → IsHistory hl → IsHistory hr →
      sum_of_shards (λ s. total w (own hl hr s)) count ≡ total w (node_in plain_cells n (of hl) (of hr))
  own_sum w hl hr il ir =
      let f : ℕ → List CellEvent = λ s. node_in plain_cells n (of_shard (by_key shard (left_key_of n)) s (of hl)) (of_shard (by_key shard (right_key_of n)) s (of hr)) in
      sums_same (λ s. total w (own hl hr s)) (λ s. total w (f s)) count (λ s.
      (node_same plain_cells same_cells-Decides n _ _ _ _ (part_valid (left_key_of n) s hl il) (part_valid (right_key_of n) s hr ir)
      (shard_valid (left_key_of n) s hl il) (shard_valid (right_key_of n) s hr ir) (part_events (left_key_of n) s hl il) (part_events (right_key_of n) s hr ir)).weigh w)
      ∙ sym (total_of_shards w f count)
      ∙ sym ((node_shards plain_cells same_cells-Decides shard count low n (of hl) (of hr) keyed).weigh w)

  pub held_together : (x y : ℕ) (hl hr : List Edge) → IsHistory hl → IsHistory hr →
      sum_of_shards (λ s. may_keep_of n x y (left_part shard n s hl) (right_part shard n s hr)) count ≡ may_keep_of n x y hl hr
  held_together x y hl hr il ir =
      let c = node_closes n x y in
      let m = counted_from n x c in
      let reach : ℕ → CellEvent → ℕ = λ t e. cond (nat_le t e.end) 1 0 in
      let k = 4 + agg_count n in
      let b = counts_answers n in
      let u : ℕ → ℕ = λ s. reaching m (of (left_part shard n s hl)) in
      let v : ℕ → ℕ = λ s. reaching m (of (right_part shard n s hr)) in
      let o : ℕ → ℕ = λ s. reaching c (own hl hr s) in
      sums_same _ (λ s. k * ((u s + v s) + cond b (o s) 0 + 0)) count (λ s. ap (λ z. k * ((u s + v s) + cond b (o s) 0 + z)) (waiting_none n keyed c (of (left_part shard n s hl))))
      ∙ sums_spread k b u v o count
      ∙ ap (λ z. k * ((z + sum_of_shards v count) + cond b (sum_of_shards o count) 0 + 0)) (side_sum (reach m) (left_key_of n) hl il)
      ∙ ap (λ z. k * ((reaching m (of hl) + z) + cond b (sum_of_shards o count) 0 + 0)) (side_sum (reach m) (right_key_of n) hr ir)
      ∙ ap (λ z. k * ((reaching m (of hl) + reaching m (of hr)) + cond b z 0 + 0)) (own_sum (reach c) hl hr il ir)
      ∙ ap (λ z. k * ((reaching m (of hl) + reaching m (of hr)) + cond b (reaching c (node_in plain_cells n (of hl) (of hr))) 0 + z)) (sym (waiting_none n keyed c (of hl)))
