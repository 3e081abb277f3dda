-- What each shard's answers stand for, all answers together stand for of the whole node.
use Rattle.std.specs.Prelude.{◌≡◌, ℕ, zero, suc, ◌<◌, ◌≤◌, ◌||◌, IsTrue, Option, Some, None, nat_eq, cond, Bool, true, false, List, [], ◌∷◌, ◌++◌, map, filter, refl}
use Rattle.std.proofs.Common.{◌∙◌, sym, ap, subst, arith, inl, inr}
use Rattle.std.proofs.lemmas.Bool.{cases_lt}
use Rattle.std.proofs.lemmas.List.{map-append}
use Rattle.std.proofs.lemmas.List.Elements.{All-filter}
use Rattle.tw_rows.specs.Instant.{inf}
use Rattle.tw_rows.specs.Bag.{SameBag}
use Rattle.tw_rows.specs.Event.{Event, AreEvents, lives_at, alive, cut_one, cut}
use Rattle.tw_rows.specs.Rows.{Row}
use Rattle.tw_rows.specs.Cells.{ArePlaced, read_cells}
use Rattle.tw_rows.specs.declared.cells.Datum.{Datum}
use Rattle.tw_rows.specs.declared.edge.Edge.{Edge}
use Rattle.tw_rows.specs.SameCells.{same_cells-Decides}
use Rattle.tw_rows.proofs.Bags.{SameBag-refl, SameBag-sym, SameBag-trans, SameBag-append, SameBag-map, SameBag-filter, SameBag-flat_map}
use Rattle.tw_rows.proofs.Lives.{cut-append}
use Rattle.key_nodes.specs.Shards.{of_shard, over_shards}
use Rattle.edge_history.specs.Order.{failing, is_real, is_below, Rises, IsHistory}
use Rattle.edge_history.specs.History.{CellEvent, of}
use Rattle.edge_history.specs.Balance.{AreEventsOf}
use Rattle.edge_history.proofs.Sums.{failing-same}
use Rattle.edge_history.proofs.Made.{events_same, events_both, events_of_where, paired_from_events}
use Rattle.edge_history.proofs.Retaining.{events_of_are, events_unique}
use Rattle.plan_model.specs.Keys.{value_ops}
use Rattle.plan_model.specs.RowOps.{is_undefined_in}
use Rattle.plan_model.specs.Groups.{is_undefined}
use Rattle.plan_model.specs.declared.agg.Agg.{Agg}
use Rattle.plan_model.proofs.Aggregates.{undefined_same}
use Rattle.plan_laws.specs.Undefined.{undefined_over, or_next, first_below}
use Rattle.plan_laws.proofs.Undefinedness.{first_below_same, first_below_some, first_below_none}
use Rattle.plan_model.specs.Nodes.{node_in}
use Rattle.plan_model.specs.Meaning.{node_events}
use Rattle.plan_model.specs.declared.node.Node.{Node}
use Rattle.plan_model.specs.declared.node.Node.TheVariants.{Where, Select, Group}
use Rattle.plan_model.proofs.SameNodes.{node_same}
use Rattle.plan_model.proofs.InOrder.{rows_equal_tells}
use Rattle.plan_laws.specs.Places.{AreDistinct, read_event, read_events, read_of, EdgesArePlaced}
use Rattle.plan_laws.specs.Readings.{has_expressions}
use Rattle.plan_laws.specs.Keeping.{plain_cells}
use Rattle.plan_laws.specs.Standing.{StandsRead}
use Rattle.plan_laws.specs.Shards.{is_keyed, left_key_of, right_key_of, any_shard, edges_of_shard}
use Rattle.plan_laws.specs.Parts.{by_key}
use Rattle.plan_laws.proofs.Histories.{history_where}
use Rattle.plan_laws.proofs.Maps.{AreEvents-to}
use Rattle.plan_laws.proofs.Keys.{node_shards, undefined_instants}
use Rattle.plan_laws.proofs.Places.{place_law}
use Rattle.plan_laws.proofs.ShardSteps.{none_fail}
use Rattle.plan_laws.proofs.Standing.{of_valid, placed_of, node_valid, undefined_law, undefined_of_edges}

-- lists of all shards, one after another
bags_over : {X : Type 0} (n : ℕ) (f g : ℕ → List X) → ((s : ℕ) → s < n → SameBag (f s) (g s)) → SameBag (over_shards f n) (over_shards g n)
bags_over zero f g h = SameBag-refl []
bags_over (suc n) f g h = SameBag-append (over_shards f n) (over_shards g n) (f n) (g n) (bags_over n f g (λ s low. h s (omega (arith, low)))) (h n (omega arith))

map_over : {X Y : Type 0} (m : X → Y) (f : ℕ → List X) (n : ℕ) → map m (over_shards f n) ≡ over_shards (λ s. map m (f s)) n
map_over m f zero = refl
map_over m f (suc n) = map-append m (over_shards f n) (f n) ∙ ap (λ x. x ++ map m (f n)) (map_over m f n)

cut_over : {R : Type 0} (c : ℕ) (f : ℕ → List (Event R)) (n : ℕ) → cut c (over_shards f n) ≡ over_shards (λ s. cut c (f s)) n
cut_over c f zero = refl
cut_over c f (suc n) = cut-append c (over_shards f n) (f n) ∙ ap (λ x. x ++ cut c (f n)) (cut_over c f n)

cut_bag : {R : Type 0} (c : ℕ) (a b : List (Event R)) → SameBag a b → SameBag (cut c a) (cut c b)
cut_bag c a b h = SameBag-flat_map (cut_one c) (cut_one c) a b h (λ e. SameBag-refl (cut_one c e))

events_over : (n : ℕ) (outs : ℕ → List Edge) → ((s : ℕ) → s < n → IsHistory (outs s)) → AreEventsOf (over_shards outs n) (over_shards (λ s. of (outs s)) n)
events_over zero outs h = SameBag-refl []
events_over (suc n) outs h =
    events_both (over_shards outs n) (outs n) (over_shards (λ s. of (outs s)) n) (of (outs n))
    (events_over n outs (λ s low. h s (omega (arith, low)))) (events_of_are (outs n) (h n (omega arith)))

pub AreEvents-cells : (p : CellEvent → Bool) (es : List CellEvent) → AreEvents es → AreEvents (filter p es)
AreEvents-cells p [] v = tt
AreEvents-cells p (e ∷ es) v = pick (p e) (AreEvents-cells p es v.2)
  where
    pick : (b : Bool) → AreEvents (filter p es) → AreEvents (cond b (e ∷ filter p es) (filter p es))
    pick true w = (v.0, v.1, w)
    pick false w = w

-- a node with a key has no expressions
keyed_plain : (n : Node) → is_keyed n ≡ true → has_expressions n ≡ false
keyed_plain (Where of test) h = absurd (cc)
keyed_plain (Select of items) h = absurd (cc)
keyed_plain n h = refl

module _ (n : Node) (keyed : is_keyed n ≡ true) (shard : List Datum → ℕ) (count : ℕ) (low : (key : List Datum) → shard key < count) where
  abbrev by_left : List Datum → ℕ
  by_left cells = by_key shard (left_key_of n) cells

  abbrev by_right : List Datum → ℕ
  by_right cells = by_key shard (right_key_of n) cells

  -- the edges of a shard are a history
  own_left : (h : List Edge) → IsHistory h → (s : ℕ) → IsHistory (edges_of_shard by_left s h)
  own_left h is s = history_where (λ cells. nat_eq (by_left cells) s) h is

  own_right : (h : List Edge) → IsHistory h → (s : ℕ) → IsHistory (edges_of_shard by_right s h)
  own_right h is s = history_where (λ cells. nat_eq (by_right cells) s) h is

  -- the events of the node over what a shard's edges read as
  abbrev part : List (List ℕ) → List Edge → List Edge → ℕ → List (Event Row)
  part texts hl hr s = node_events n (read_of texts (edges_of_shard by_left s hl)) (read_of texts (edges_of_shard by_right s hr))

  -- the events of a shard's edges are those of the shard, read
  side : (texts : List (List ℕ)) (by : List Datum → ℕ) (s : ℕ) (h : List Edge) → IsHistory h → IsHistory (edges_of_shard by s h) →
      SameBag (read_of texts (edges_of_shard by s h)) (read_events texts (of_shard by s (of h)))
  side texts by s h whole own =
      SameBag-map (read_event texts) (of (edges_of_shard by s h)) (of_shard by s (of h))
      (events_unique (edges_of_shard by s h) (of (edges_of_shard by s h)) (of_shard by s (of h)) (events_of_are (edges_of_shard by s h) own)
      (events_of_where (λ cells. nat_eq (by cells) s) h (of h) (events_of_are h whole)))

  -- the events of the node over what a shard's edges read as are those that are read of the node over the shard's cells
  same_part : (texts : List (List ℕ)) → AreDistinct texts → (hl hr : List Edge) → IsHistory hl → IsHistory hr → EdgesArePlaced texts hl → EdgesArePlaced texts hr →
      (s : ℕ) → IsHistory (edges_of_shard by_left s hl) → IsHistory (edges_of_shard by_right s hr) →
      SameBag (part texts hl hr s) (read_events texts (node_in plain_cells n (of_shard by_left s (of hl)) (of_shard by_right s (of hr))))
  same_part texts apart hl hr il ir pl pr s ol or =
      let a = of_shard by_left s (of hl) in
      let b = of_shard by_right s (of hr) in
      let va = AreEvents-cells (λ e. nat_eq (by_left e.row) s) (of hl) (of_valid hl il) in
      let vb = AreEvents-cells (λ e. nat_eq (by_right e.row) s) (of hr) (of_valid hr ir) in
      let ea = All-filter (λ e. nat_eq (by_left e.row) s) (λ e. ArePlaced texts e.row) (of hl) (placed_of texts hl pl) in
      let eb = All-filter (λ e. nat_eq (by_right e.row) s) (λ e. ArePlaced texts e.row) (of hr) (placed_of texts hr pr) in
      subst (λ x. SameBag (part texts hl hr s) x) (place_law (λ test row. false) (λ items row. row) texts apart n a b (keyed_plain n keyed) ea eb)
      (node_same value_ops rows_equal_tells n (read_of texts (edges_of_shard by_left s hl)) (read_of texts (edges_of_shard by_right s hr)) (read_events texts a) (read_events texts b)
      (AreEvents-to (read_cells texts) (of (edges_of_shard by_left s hl)) (of_valid (edges_of_shard by_left s hl) ol))
      (AreEvents-to (read_cells texts) (of (edges_of_shard by_right s hr)) (of_valid (edges_of_shard by_right s hr) or))
      (AreEvents-to (read_cells texts) a va)
      (AreEvents-to (read_cells texts) b vb)
      (side texts by_left s hl il ol) (side texts by_right s hr ir or))

  -- all shards together have the events of the node
  whole : (texts : List (List ℕ)) → AreDistinct texts → (hl hr : List Edge) → IsHistory hl → IsHistory hr → EdgesArePlaced texts hl → EdgesArePlaced texts hr →
      SameBag (over_shards (part texts hl hr) count) (node_events n (read_of texts hl) (read_of texts hr))
  whole texts apart hl hr il ir pl pr =
      let f : ℕ → List CellEvent = λ s. node_in plain_cells n (of_shard by_left s (of hl)) (of_shard by_right s (of hr)) in
      let a = bags_over count (part texts hl hr) (λ s. read_events texts (f s)) (λ s k. same_part texts apart hl hr il ir pl pr s (own_left hl il s) (own_right hr ir s)) in
      let b = SameBag-map (read_event texts) (node_in plain_cells n (of hl) (of hr)) (over_shards f count) (node_shards plain_cells same_cells-Decides shard count low n (of hl) (of hr) keyed) in
      let c = place_law (λ test row. false) (λ items row. row) texts apart n (of hl) (of hr) (keyed_plain n keyed) (placed_of texts hl pl) (placed_of texts hr pr) in
      subst (λ x. SameBag (over_shards (part texts hl hr) count) x) (sym c)
      (SameBag-trans _ _ _ a (subst (λ x. SameBag x (read_events texts (node_in plain_cells n (of hl) (of hr)))) (map_over (read_event texts) f count)
      (SameBag-sym (read_events texts (node_in plain_cells n (of hl) (of hr))) (read_events texts (over_shards f count)) b)))

  -- what each shard's answers stand for, all answers together, in order, stand for of the whole
  pub shards_stand : (texts : List (List ℕ)) → AreDistinct texts → (c : ℕ) (hl hr out : List Edge) (outs : ℕ → List Edge) → c ≤ inf →
      IsHistory hl → IsHistory hr → EdgesArePlaced texts hl → EdgesArePlaced texts hr →
      ((s : ℕ) → s < count → StandsRead texts c (outs s) (part texts hl hr s)) →
      Rises 0 out → SameBag out (over_shards outs count) → EdgesArePlaced texts out →
      StandsRead texts c out (node_events n (read_of texts hl) (read_of texts hr))
  shards_stand texts apart c hl hr out outs lc il ir pl pr stand order same placed =
      let events : ℕ → List CellEvent = λ s. of (outs s) in
      let are : AreEventsOf out (over_shards events count) =
      events_same (over_shards outs count) out (over_shards events count) (SameBag-sym out (over_shards outs count) same) (events_over count outs (λ s k. (stand s k).history)) in
      let real : failing is_real out ≡ 0 = failing-same is_real out (over_shards outs count) same (none_fail is_real count outs (λ s k. (stand s k).history.real)) in
      let history : IsHistory out = record { order = order; real = real; paired = paired_from_events out (over_shards events count) real are } in
      let read_same : SameBag (read_of texts out) (over_shards (λ s. read_of texts (outs s)) count) =
      subst (λ x. SameBag (read_of texts out) x) (map_over (read_event texts) events count)
      (SameBag-map (read_event texts) (of out) (over_shards events count) (events_unique out (of out) (over_shards events count) (events_of_are out history) are)) in
      let a = cut_bag c (read_of texts out) (over_shards (λ s. read_of texts (outs s)) count) read_same in
      let b = bags_over count (λ s. cut c (read_of texts (outs s))) (λ s. cut c (part texts hl hr s)) (λ s k. (stand s k).known.same) in
      let d = cut_bag c (over_shards (part texts hl hr) count) (node_events n (read_of texts hl) (read_of texts hr)) (whole texts apart hl hr il ir pl pr) in
      record {
        history = history;
        below = failing-same (is_below c) out (over_shards outs count) same (none_fail (is_below c) count outs (λ s k. (stand s k).below));
        placed = placed;
        known = record {
          low = lc;
          left_valid = AreEvents-to (read_cells texts) (of out) (of_valid out history);
          right_valid = node_valid texts n hl hr il ir;
          same = SameBag-trans _ _ _ a
              (subst (λ x. SameBag x (cut c (node_events n (read_of texts hl) (read_of texts hr)))) (sym (cut_over c (λ s. read_of texts (outs s)) count))
              (SameBag-trans _ _ _ b (subst (λ x. SameBag x (cut c (node_events n (read_of texts hl) (read_of texts hr)))) (cut_over c (part texts hl hr) count) d)));
        };
      }

  -- a shard's edges show at each instant the rows of the shard
  undefined_part : (texts : List (List ℕ)) → AreDistinct texts → (h : List Edge) → IsHistory h → EdgesArePlaced texts h → (t : ℕ) (key : List ℕ) (aggs : List Agg) →
      (by : List Datum → ℕ) (s : ℕ) → IsHistory (edges_of_shard by s h) →
      is_undefined_in plain_cells key aggs (alive (of_shard by s (of h)) t) ≡ is_undefined key aggs (alive (read_of texts (edges_of_shard by s h)) t)
  undefined_part texts apart h whole placed t key aggs by s own =
      sym (undefined_law (λ test row. false) (λ items row. row) texts apart key aggs (of_shard by s (of h)) t (All-filter (λ e. nat_eq (by e.row) s) (λ e. ArePlaced texts e.row) (of h) (placed_of texts h placed)))
      ∙ sym (undefined_same value_ops key aggs (alive (read_of texts (edges_of_shard by s h)) t) (alive (read_events texts (of_shard by s (of h))) t)
      (SameBag-map (λ e. e.row) (filter (lives_at t) (read_of texts (edges_of_shard by s h))) (filter (lives_at t) (read_events texts (of_shard by s (of h))))
      (SameBag-filter (lives_at t) (read_of texts (edges_of_shard by s h)) (read_events texts (of_shard by s (of h))) (side texts by s h whole own))))

any_below : (p q : ℕ → Bool) (n : ℕ) → ((s : ℕ) → s < n → p s ≡ q s) → any_shard p n ≡ any_shard q n
any_below p q zero h = refl
any_below p q (suc n) h = ap (λ b. b || p n) (any_below p q n (λ s low. h s (omega (arith, low)))) ∙ ap (λ b. any_shard q n || b) (h n (omega arith))

none_of : (n : ℕ) → any_shard (λ s. false) n ≡ false
none_of zero = refl
none_of (suc n) = ap (λ b. b || false) (none_of n)

any_none : (p : ℕ → Bool) (n : ℕ) → ((s : ℕ) → s < n → p s ≡ false) → any_shard p n ≡ false
any_none p n h = any_below p (λ s. false) n h ∙ none_of n

any_one : (p : ℕ → Bool) (n s : ℕ) → s < n → IsTrue (p s) → IsTrue (any_shard p n)
any_one p zero s low is = absurd (omega (arith, low))
any_one p (suc n) s low is = elim (cases_lt s n) [
  | inl less ↦ (let rest = any_one p n s less is in grind (arith, rest))
  | inr more ↦ (let same : s ≡ n = omega (arith, low, more) in let there : IsTrue (p n) = subst (λ k. IsTrue (p k)) same is in grind (arith, there))
]

-- an instant at which a test holds, and at none before
first_from : (p : ℕ → Bool) (c m : ℕ) → m < c → IsTrue (p m) → ((u : ℕ) → u < m → p u ≡ false) → first_below p c ≡ Some m
first_from p c m low is before = pick (first_below p c) refl
  where
    pick : (o : Option ℕ) → first_below p c ≡ o → first_below p c ≡ Some m
    pick None e = let no = first_below_none p c e m low in absurd (grind (arith, no, is))
    pick (Some t) e =
        let first = first_below_some p c t e in
        e ∙ ap Some (meet t first)
      where
        meet : (t : ℕ) → (t < c) × IsTrue (p t) × ((u : ℕ) → u < t → p u ≡ false) → t ≡ m
        meet t first = elim (cases_lt t m) [
          | inl less ↦ (let no = before t less in absurd (grind (arith, no, first.1)))
          | inr more ↦ elim (cases_lt m t) [
            | inl less ↦ (let no = first.2 m less in absurd (grind (arith, no, is)))
            | inr even ↦ omega (arith, more, even)
          ]
        ]

never : (c : ℕ) → first_below (λ t. false) c ≡ None
never zero = refl
never (suc n) = ap (or_next (λ t. false) n) (never n)

module _ (shard : List Datum → ℕ) (count : ℕ) (low : (key : List Datum) → shard key < count) (texts : List (List ℕ)) (apart : AreDistinct texts)
    (h : List Edge) (history : IsHistory h) (placed : EdgesArePlaced texts h) (t : ℕ) where
  abbrev Together : Node → Type 0
  Together n = undefined_over value_ops n (alive (read_of texts h) t)
      ≡ any_shard (λ s. undefined_over value_ops n (alive (read_of texts (edges_of_shard (by_key shard (left_key_of n)) s h)) t)) count

  -- a node is undefined at an instant where it is so in one of its shards
  pub undefined_by_shards : (n : Node) → is_keyed n ≡ true → Together n
  undefined_by_shards (Group child key aggs) k =
      undefined_of_edges (λ test row. false) (λ items row. row) texts apart key aggs h t placed
      ∙ (undefined_instants plain_cells same_cells-Decides shard count low key aggs (of h) t
      ∙ any_below _ _ count (λ s l. undefined_part (Group child key aggs) k shard count low texts apart h history placed t key aggs (by_key shard key) s
      (history_where (λ cells. nat_eq (by_key shard key cells) s) h history)))
  undefined_by_shards n k = sym (none_of count)

-- the least instant of shards at which a node is undefined, of which the first knows no later one
pub least_of_shards : (q : ℕ → ℕ → Bool) (count c s m : ℕ) → s < count → first_below (q s) c ≡ Some m →
    ((k : ℕ) → k < count → (u : ℕ) → u < m → q k u ≡ false) → first_below (λ t. any_shard (λ k. q k t) count) c ≡ Some m
least_of_shards q count c s m low at others =
    let first = first_below_some (q s) c m at in
    first_from (λ t. any_shard (λ k. q k t) count) c m first.0 (any_one (λ k. q k m) count s low first.1)
    (λ u less. any_none (λ k. q k u) count (λ k below. others k below u less))

pub none_of_shards : (q : ℕ → ℕ → Bool) (count c : ℕ) → ((k : ℕ) → k < count → first_below (q k) c ≡ None) → first_below (λ t. any_shard (λ k. q k t) count) c ≡ None
none_of_shards q count c h =
    first_below_same (λ t. any_shard (λ k. q k t) count) (λ t. false) c (λ t less. any_none (λ k. q k t) count (λ k below. first_below_none (q k) c (h k below) t less)) ∙ never c
