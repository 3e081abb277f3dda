-- What the shards of a node keep together, where they may tell ends ahead.
use Rattle.std.specs.Prelude.{◌≡◌, ℕ, zero, suc, ◌<◌, ◌≤◌, cond, Bool, true, List, filter, refl}
use Rattle.std.proofs.Common.{sym, ◌∙◌, subst, arith}
use Rattle.tw_rows.specs.Instant.{inf}
use Rattle.tw_rows.specs.Bag.{total, SameBag}
use Rattle.tw_rows.specs.Event.{Known}
use Rattle.tw_rows.specs.SameCells.{same_cells-Decides}
use Rattle.tw_rows.specs.declared.cells.Datum.{Datum}
use Rattle.tw_rows.specs.declared.edge.Edge.{Edge}
use Rattle.tw_rows.proofs.Bags.{total-append, total-flat_map, total-filter}
use Rattle.tw_rows.proofs.Knowing.{Known-lower}
use Rattle.key_nodes.specs.Shards.{of_shard, over_shards}
use Rattle.edge_history.specs.Order.{is_real, is_below, is_from, Rises, IsHistory}
use Rattle.edge_history.specs.History.{CellEvent, of}
use Rattle.edge_history.specs.Balance.{news_of, news}
use Rattle.edge_history.specs.Opens.{singles_of, singles}
use Rattle.edge_history.proofs.Retaining.{AreEvents-none_fails}
use Rattle.edge_history.proofs.Telling.{news_same}
use Rattle.plan_model.specs.CellOps.{cell_ops}
use Rattle.plan_model.specs.RowOps.{key_in}
use Rattle.plan_model.specs.Nodes.{node_in}
use Rattle.plan_model.specs.Meaning.{node_closes}
use Rattle.plan_model.specs.declared.node.Node.{Node}
use Rattle.plan_model.proofs.Causal.{node_in_known}
use Rattle.plan_model.proofs.Closings.{node_ends}
use Rattle.plan_laws.specs.Places.{EdgesArePlaced}
use Rattle.plan_laws.specs.Keeping.{KeepsAhead}
use Rattle.plan_laws.specs.Shards.{is_keyed, left_key_of, right_key_of, edges_of_shard}
use Rattle.plan_laws.proofs.Keys.{node_shards}
use Rattle.plan_laws.proofs.ShardSteps.{none_fail, shard_known}
use Rattle.plan_laws.proofs.Steps.{node_low}
use Rattle.plan_laws.specs.CellTests.{CellTest, CellSelect}

-- the weights of single edges by the edges, and of news by the events
abbrev single_weight : (Edge → Bool) → (Edge → ℕ) → Edge → ℕ
single_weight p w e = total (λ x. cond (p x) (w x) 0) (singles_of e)

single_total : (p : Edge → Bool) (w : Edge → ℕ) (h : List Edge) → total w (filter p (singles h)) ≡ total (single_weight p w) h
single_total p w h = total-filter w p (singles h) ∙ total-flat_map (λ x. cond (p x) (w x) 0) singles_of h

news_total : (w : Edge → ℕ) (c d : ℕ) (events : List CellEvent) → total w (news c d events) ≡ total (λ e. total w (news_of c d e)) events
news_total w c d events = total-flat_map w (news_of c d) events

-- shard by shard
equal_over : (f : Edge → ℕ) (g : CellEvent → ℕ) (n : ℕ) (outs : ℕ → List Edge) (parts : ℕ → List CellEvent) →
    ((s : ℕ) → s < n → total f (outs s) ≡ total g (parts s)) → total f (over_shards outs n) ≡ total g (over_shards parts n)
equal_over f g zero outs parts h = refl
equal_over f g (suc n) outs parts h =
    let a = total-append f (over_shards outs n) (outs n) in
    let b = total-append g (over_shards parts n) (parts n) in
    let first = equal_over f g n outs parts (λ s low. h s (omega (arith, low))) in
    let last = h n (omega arith) in
    omega (arith, a, b, first, last)

less_over : (f : Edge → ℕ) (g : CellEvent → ℕ) (n : ℕ) (outs : ℕ → List Edge) (parts : ℕ → List CellEvent) →
    ((s : ℕ) → s < n → total f (outs s) ≤ total g (parts s)) → total f (over_shards outs n) ≤ total g (over_shards parts n)
less_over f g zero outs parts h = omega arith
less_over f g (suc n) outs parts h =
    let a = total-append f (over_shards outs n) (outs n) in
    let b = total-append g (over_shards parts n) (parts n) in
    let first = less_over f g n outs parts (λ s low. h s (omega (arith, low))) in
    let last = h n (omega arith) in
    omega (arith, a, b, first, last)

module _ (test : CellTest) (select : CellSelect) (n : Node) (keyed : is_keyed n ≡ true)
    (shard : List Datum → ℕ) (count : ℕ) (low : (key : List Datum) → shard key < count) where
  abbrev by_left : List Datum → ℕ
  by_left cells = shard (key_in (cell_ops test select) (left_key_of n) cells)

  abbrev by_right : List Datum → ℕ
  by_right cells = shard (key_in (cell_ops test select) (right_key_of n) cells)

  abbrev own : ℕ → List Edge → List Edge → List CellEvent
  own s left right = node_in (cell_ops test select) n (of (edges_of_shard by_left s left)) (of (edges_of_shard by_right s right))

  abbrev part : ℕ → List Edge → List Edge → List CellEvent
  part s left right = node_in (cell_ops test select) n (of_shard by_left s (of left)) (of_shard by_right s (of right))

  -- a shard's own events are its part of all
  own_known : (s : ℕ) (left right : List Edge) → IsHistory left → IsHistory right → IsHistory (edges_of_shard by_left s left) → IsHistory (edges_of_shard by_right s right) →
      Known inf (own s left right) (part s left right)
  own_known s left right il ir jl jr =
      subst (λ t. Known t (own s left right) (part s left right)) (node_ends n)
      (node_in_known (cell_ops test select) same_cells-Decides n inf inf (of (edges_of_shard by_left s left)) (of (edges_of_shard by_right s right)) (of_shard by_left s (of left)) (of_shard by_right s (of right))
      (shard_known inf by_left s left (omega arith) il jl) (shard_known inf by_right s right (omega arith) ir jr))

  own_news : (s c d : ℕ) (left right : List Edge) → d ≤ inf → Known inf (own s left right) (part s left right) → SameBag (news c d (own s left right)) (news c d (part s left right))
  own_news s c d left right high known =
      let k = Known-lower inf d (own s left right) (part s left right) high known in
      news_same c d (own s left right) (part s left right) high (AreEvents-none_fails (own s left right) known.left_valid) (AreEvents-none_fails (part s left right) known.right_valid) k.same

  pub shards_keep_ahead : (texts : List (List ℕ)) (x y : ℕ) (left right out : List Edge) (outs : ℕ → List Edge) → x ≤ inf → y ≤ inf →
      IsHistory left → IsHistory right → EdgesArePlaced texts left → EdgesArePlaced texts right →
      ((s : ℕ) → s < count → KeepsAhead (cell_ops test select) n texts x y (edges_of_shard by_left s left) (edges_of_shard by_right s right) (outs s)) →
      Rises 0 out → SameBag out (over_shards outs count) → KeepsAhead (cell_ops test select) n texts x y left right out
  shards_keep_ahead texts x y left right out outs lx ly il ir pl pr keeps order same = record {
    left_history = il;
    right_history = ir;
    left_placed = pl;
    right_placed = pr;
    told = record {
      order = order;
      real = same.weigh (λ e. cond {A = ℕ} (is_real e) 0 1) ∙ none_fail is_real count outs (λ s k. (keeps s k).told.real);
      below = same.weigh (λ e. cond {A = ℕ} (is_below closing e) 0 1) ∙ none_fail (is_below closing) count outs (λ s k. (keeps s k).told.below);
      told = record {
        weigh = λ w.
            single_total (is_below closing) w out
            ∙ (same.weigh (single_weight (is_below closing) w)
            ∙ (equal_over (single_weight (is_below closing) w) (λ e. total w (news_of 0 closing e)) count outs parts (each_told w)
            ∙ (sym (whole.weigh (λ e. total w (news_of 0 closing e))) ∙ sym (news_total w 0 closing all))));
      };
      ahead = λ w.
          let a = single_total (is_from closing) w out in
          let b = same.weigh (single_weight (is_from closing) w) in
          let d = less_over (single_weight (is_from closing) w) (λ e. total w (news_of closing inf e)) count outs parts (each_ahead w) in
          let e = whole.weigh (λ e. total w (news_of closing inf e)) in
          let f = news_total w closing inf all in
          omega (arith, a, b, d, e, f);
    };
  }
    where
      closing : ℕ
      closing = node_closes n x y

      all : List CellEvent
      all = node_in (cell_ops test select) n (of left) (of right)

      parts : ℕ → List CellEvent
      parts s = part s left right

      whole : SameBag all (over_shards parts count)
      whole = node_shards (cell_ops test select) same_cells-Decides shard count low n (of left) (of right) keyed

      within : closing ≤ inf
      within = node_low test select n x y left right lx ly il ir

      known : (s : ℕ) → s < count → Known inf (own s left right) (parts s)
      known s k = own_known s left right il ir (keeps s k).left_history (keeps s k).right_history

      each_told : (w : Edge → ℕ) (s : ℕ) → s < count → total (single_weight (is_below closing) w) (outs s) ≡ total (λ e. total w (news_of 0 closing e)) (parts s)
      each_told w s k =
          sym (single_total (is_below closing) w (outs s))
          ∙ ((keeps s k).told.told.weigh w ∙ ((own_news s 0 closing left right within (known s k)).weigh w ∙ news_total w 0 closing (parts s)))

      each_ahead : (w : Edge → ℕ) (s : ℕ) → s < count → total (single_weight (is_from closing) w) (outs s) ≤ total (λ e. total w (news_of closing inf e)) (parts s)
      each_ahead w s k =
          let a = single_total (is_from closing) w (outs s) in
          let b = (keeps s k).told.ahead w in
          let d = (own_news s closing inf left right (omega arith) (known s k)).weigh w in
          let e = news_total w closing inf (parts s) in
          omega (arith, a, b, d, e)
