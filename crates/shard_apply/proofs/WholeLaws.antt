-- What holds of every operator holds of several side by side.
use Rattle.std.specs.Prelude.{◌≡◌, ℕ, zero, suc, ◌<◌, ◌≤◌, true, List, [], ◌∷◌, map, take, length, refl}
use Rattle.std.proofs.Common.{◌∙◌, sym, ap, subst, arith, get_or, add-one}
use Rattle.std.proofs.lemmas.List.{length-map, take_more, take_all}
use Rattle.std.proofs.lemmas.List.Elements.{All-nil, All-append}
use Rattle.tw_rows.specs.Bag.{total, SameBag}
use Rattle.tw_rows.specs.Cells.{ArePlaced}
use Rattle.tw_rows.specs.Texts.{BeginsWith}
use Rattle.tw_rows.specs.declared.edge.Edge.{Edge}
use Rattle.tw_rows.proofs.Bags.{SameBag-refl, total-append}
use Rattle.key_nodes.specs.Shards.{over_shards}
use Rattle.edge_stream.specs.Shards.{shard_of, edges_in_shard}
use Rattle.plan_laws.proofs.Keys.{over_none}
use Rattle.plan_model.specs.Meaning.{node_events}
use Rattle.plan_model.specs.declared.node.Node.{Node}
use Rattle.plan_model.specs.declared.node.Node.TheVariants.{Top, Follow}
use Rattle.plan_laws.specs.Places.{AreDistinct, read_of, EdgesArePlaced}
use Rattle.plan_laws.specs.Shards.{is_keyed}
use Rattle.plan_laws.specs.Standing.{StandsRead}
use Rattle.plan_laws.proofs.Standing.{no_history, placed_longer}
use Rattle.edge_stream.specs.Standing.{Standing, Keeping, IsFresh, StandsFor, closing, may_keep, most_entries}
use Rattle.plan_laws.specs.Parts.{left_part, right_part, sum_of_shards, may_keep_of}
use Rattle.plan_laws.proofs.Histories.{placed_bag}
use Rattle.plan_laws.proofs.Sums.{shards_stand}
use Rattle.plan_laws.proofs.Held.{held_together}
use Rattle.shard_apply.specs.Whole.{Whole, first_of, standing_in, entries_in, AreInStep, AreNew, ShardsKeep}
use Rattle.shard_apply.proofs.Faults.{with_item}
use Rattle.shard_apply.proofs.WholeSteps.{shard_low, stands_as, first_as}

placed_over : (texts : List (List ℕ)) (n : ℕ) (outs : ℕ → List Edge) → ((s : ℕ) → s < n → EdgesArePlaced texts (outs s)) → EdgesArePlaced texts (over_shards outs n)
placed_over texts zero outs each = All-nil (λ e. ArePlaced texts e.cells)
placed_over texts (suc n) outs each =
    All-append (λ e. ArePlaced texts e.cells) (over_shards outs n) (outs n) (placed_over texts n outs (λ s low. each s (omega (arith, low)))) (each n (omega arith))

total_taken : {X : Type 0} (w : X → ℕ) (xs : List X) (g : ℕ → ℕ) (n : ℕ) → n ≤ length xs → ((s : ℕ) (d : X) → s < length xs → w (get_or xs s d) ≤ g s) → (d : X) →
    total w (take n xs) ≤ sum_of_shards g n
total_taken w xs g zero le each d = omega arith
total_taken w xs g (suc n) le each d =
    let rest = total_taken w xs g n (omega (arith, le)) each d in
    let last = each n d (omega (arith, le)) in
    let more = ap (λ m. total w (take m xs)) (sym (add-one n)) ∙ ap (total w) (take_more xs n d (omega (arith, le))) ∙ total-append w (take n xs) (get_or xs n d ∷ []) in
    omega (arith, rest, last, more)

-- of a node with a key its own events count, as of a node whose shards are summed up
keeps_same : (node : Node) → is_keyed node ≡ true → (x y : ℕ) (hl hr : List Edge) → may_keep node x y hl hr ≡ may_keep_of node x y hl hr
keeps_same (Top child key by many) keyed x y hl hr = absurd (cc)
keeps_same (Follow left right left_key right_key within) keyed x y hl hr = absurd (cc)
keeps_same node keyed x y hl hr = refl

module _ {O : Type 0} (standing : O → Standing) (keeps : O → Keeping) (w : Whole O) where
  abbrev os : List O
  os = w.operators

  abbrev n : ℕ
  n = length os

  abbrev f : Standing
  f = first_of (map standing os)

  some_of : AreInStep (map standing os) w.left_key w.right_key → 1 ≤ n
  some_of in_step = omega (arith, in_step.some, length-map os standing)

  module _ (is_new : O → Type 0) where
    pub fresh_together : ((o : O) → is_new o → IsFresh (standing o)) → AreNew is_new standing w → IsFresh (standing_in standing w)
    fresh_together law are =
        let some = some_of are.in_step in
        with_item os some (λ d.
        let first = first_as standing os d some in
        let own = law (get_or os 0 d) (are.opening 0 d some) in
        record { left = ap (λ s. s.left_closed) first ∙ own.left; right = ap (λ s. s.right_closed) first ∙ own.right; works = are.works })

    pub opens_together : ((o : O) (texts : List (List ℕ)) → is_new o → keeps o texts [] [] []) → (texts : List (List ℕ)) → AreNew is_new standing w →
        ShardsKeep standing keeps w texts [] [] []
    opens_together law texts are = record {
      works = are.works;
      in_step = are.in_step;
      left_history = no_history;
      right_history = no_history;
      left_placed = All-nil (λ e. ArePlaced texts e.cells);
      right_placed = All-nil (λ e. ArePlaced texts e.cells);
      outs = λ s. [];
      shards = λ s d low. law (get_or os s d) texts (are.opening s d low);
      below = λ s low. refl;
      order = tt;
      same = subst (SameBag []) (sym (over_none {X = Edge} n)) (SameBag-refl []);
    }

  pub grows_together : ((o : O) (new old : List (List ℕ)) (hl hr out : List Edge) → BeginsWith new old → keeps o old hl hr out → keeps o new hl hr out) →
      (new old : List (List ℕ)) (hl hr out : List Edge) → BeginsWith new old → ShardsKeep standing keeps w old hl hr out → ShardsKeep standing keeps w new hl hr out
  grows_together law new old hl hr out longer k = record {
    works = k.works;
    in_step = k.in_step;
    left_history = k.left_history;
    right_history = k.right_history;
    left_placed = placed_longer new old longer hl k.left_placed;
    right_placed = placed_longer new old longer hr k.right_placed;
    outs = k.outs;
    shards = λ s d low. law (get_or os s d) new old _ _ (k.outs s) longer (k.shards s d low);
    below = k.below;
    order = k.order;
    same = k.same;
  }

  module _ (texts : List (List ℕ)) (hl hr out : List Edge) (k : ShardsKeep standing keeps w texts hl hr out) where
    some : 1 ≤ n
    some = some_of k.in_step

    stands : (s : ℕ) (d : O) → s < n → standing (get_or os s d) ≡ f
    stands s d low = stands_as standing os f k.in_step.alike s d low

    left_is : (s : ℕ) → edges_in_shard n w.left_key s hl ≡ left_part (shard_of n) f.node s hl
    left_is s = ap (λ key. edges_in_shard n key s hl) k.in_step.left_key_is

    right_is : (s : ℕ) → edges_in_shard n w.right_key s hr ≡ right_part (shard_of n) f.node s hr
    right_is s = ap (λ key. edges_in_shard n key s hr) k.in_step.right_key_is

    pub stands_together : ((o : O) (texts : List (List ℕ)) (hl hr out : List Edge) → AreDistinct texts → keeps o texts hl hr out → StandsFor (standing o) texts hl hr out) →
        AreDistinct texts → StandsFor (standing_in standing w) texts hl hr out
    stands_together law apart =
        with_item os some (λ item.
        let stand : (s : ℕ) → s < n → StandsRead texts (closing f) (k.outs s)
        (node_events f.node (read_of texts (left_part (shard_of n) f.node s hl)) (read_of texts (right_part (shard_of n) f.node s hr))) = λ s low.
        (let own = law (get_or os s item) texts (edges_in_shard n w.left_key s hl) (edges_in_shard n w.right_key s hr) (k.outs s) apart (k.shards s item low) in
        let here : StandsFor f texts (edges_in_shard n w.left_key s hl) (edges_in_shard n w.right_key s hr) (k.outs s) =
        subst (λ x. StandsFor x texts (edges_in_shard n w.left_key s hl) (edges_in_shard n w.right_key s hr) (k.outs s)) (stands s item low) own in
        subst (λ (l : List Edge). StandsFor f texts l (right_part (shard_of n) f.node s hr) (k.outs s)) (left_is s)
        (subst (λ (r : List Edge). StandsFor f texts (edges_in_shard n w.left_key s hl) r (k.outs s)) (right_is s) here)) in
        let placed : EdgesArePlaced texts out = placed_bag texts out (over_shards k.outs n) k.same (placed_over texts n k.outs (λ s low. (stand s low).placed)) in
        shards_stand f.node k.in_step.keyed (shard_of n) n (shard_low n some) texts apart (closing f) hl hr out k.outs (stand 0 some).known.low
        k.left_history k.right_history k.left_placed k.right_placed stand k.order k.same placed)

    pub bounded_together : (entries : O → ℕ) → ((o : O) (texts : List (List ℕ)) (hl hr out : List Edge) → keeps o texts hl hr out → entries o ≤ most_entries (standing o) hl hr) →
        entries_in entries w ≤ most_entries (standing_in standing w) hl hr
    bounded_together entries law =
        with_item os some (λ item.
        let g : ℕ → ℕ = λ s. may_keep_of f.node f.left_closed f.right_closed (left_part (shard_of n) f.node s hl) (right_part (shard_of n) f.node s hr) in
        let each : (s : ℕ) (d : O) → s < n → entries (get_or os s d) ≤ g s = λ s d low.
        (let own = law (get_or os s d) texts (edges_in_shard n w.left_key s hl) (edges_in_shard n w.right_key s hr) (k.outs s) (k.shards s d low) in
        let here : entries (get_or os s d) ≤ most_entries f (edges_in_shard n w.left_key s hl) (edges_in_shard n w.right_key s hr) =
        subst (λ x. entries (get_or os s d) ≤ most_entries x (edges_in_shard n w.left_key s hl) (edges_in_shard n w.right_key s hr)) (stands s d low) own in
        subst (λ (m : ℕ). entries (get_or os s d) ≤ m) (keeps_same f.node k.in_step.keyed f.left_closed f.right_closed
        (left_part (shard_of n) f.node s hl) (right_part (shard_of n) f.node s hr))
        (subst (λ (l : List Edge). entries (get_or os s d) ≤ most_entries f l (right_part (shard_of n) f.node s hr)) (left_is s)
        (subst (λ (r : List Edge). entries (get_or os s d) ≤ most_entries f (edges_in_shard n w.left_key s hl) r) (right_is s) here))) in
        let sum = total_taken entries os g n (omega arith) each item in
        let all = ap (total entries) (take_all n os (omega arith)) in
        let whole = held_together f.node k.in_step.keyed (shard_of n) n (shard_low n some) f.left_closed f.right_closed hl hr k.left_history k.right_history in
        let kept = keeps_same f.node k.in_step.keyed f.left_closed f.right_closed hl hr in
        omega (arith, sum, all, whole, kept))
