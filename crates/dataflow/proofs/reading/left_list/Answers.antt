use Rattle.std.proofs.Common.{◌≡◌, ◌<◌, ◌∙◌, ℕ, List, [], refl, ap, sym, subst, arith, inl, inr}
use Rattle.std.specs.Prelude.{◌≢◌, ◌⊎◌, true, Some, slice_get, get_or}
use Rattle.std.proofs.lemmas.Result.{IfOk-weaker}
use Rattle.tw_rows.specs.declared.edge.Edge.{Edge}
use Rattle.edge_stream.specs.Listing.{EdgeListView}
use Rattle.plan_model.specs.declared.node.Node.{Node}
use Rattle.plan_model.specs.Shape.{HasLower, left_of}
use Rattle.plan_model.proofs.Kept.{node_at}
use Rattle.where_select.proofs.Nodes.{stream_there}
use Rattle.dataflow.specs.Stages.{left_kinds}
use Rattle.dataflow.specs.Held.{HeldBefore, HeldBetween, IsListWith}
use Rattle.dataflow.proofs.HeldLists.{IfOk-three, left_stream_taken, left_node_taken, stream_list, left_child_list}
use Rattle.dataflow.proofs.reading.left_list.Goals as goal

pub is_stream_needed-again-requires-clause-stream : goal.is_stream_needed-again-requires-clause-stream
is_stream_needed-again-requires-clause-stream c =
    let at = node_at c.args.plan.now _ c.args.i _ c.nodes-nodes.ensures.kept c.nodes-nodes.ensures.nodes c.requires.node c.index-nodes-i.is in
    stream_there c.args.plan.now c.args.i c.index-nodes-i.result at c.in-Source.stream c.in-Source.is

pub is_needed_right-again-requires-clause-child : goal.is_needed_right-again-requires-clause-child
is_needed_right-again-requires-clause-child c =
    let at = node_at c.args.plan.now _ c.args.i _ c.nodes-nodes.ensures.kept c.nodes-nodes.ensures.nodes c.requires.node c.index-nodes-i.is in
    let low : c.in-Some.child < c.args.i = subst (HasLower c.args.i) (sym c.left_child.ensures ∙ c.in-Some.is) (at.kept.nodes_are.each c.args.i c.index-nodes-i.result at.here).left_lower in
    let within = c.requires.node in
    omega (arith, low, within)

pub take_list-requires-clause-at : goal.take_list-requires-clause-at
take_list-requires-clause-at c =
    let at = node_at c.args.plan.now _ c.args.i _ c.nodes-nodes.ensures.kept c.nodes-nodes.ensures.nodes c.requires.node c.index-nodes-i.is in
    subst (λ m. c.in-Source.stream < m) (sym c.requires.streams) (stream_there c.args.plan.now c.args.i c.index-nodes-i.result at c.in-Source.stream c.in-Source.is)

pub take_list-requires-clause-pools : goal.take_list-requires-clause-pools
take_list-requires-clause-pools c =
    let at = node_at c.args.plan.now _ c.args.i _ c.nodes-nodes.ensures.kept c.nodes-nodes.ensures.nodes c.requires.node c.index-nodes-i.is in
    let low = subst (λ m. c.in-Source.stream < m) (sym c.requires.streams) (stream_there c.args.plan.now c.args.i c.index-nodes-i.result at c.in-Source.stream c.in-Source.is) in
    λ d. sym (c.requires.held.1.1.1.of_streams c.in-Source.stream d low (c.args.i, (omega arith, at.here ∙ ap Some c.in-Source.is))).list.rows

pub take_list-requires-in-Some : goal.take_list-requires-in-Some
take_list-requires-in-Some c =
    let at = node_at c.args.plan.now _ c.args.i _ c.nodes-nodes.ensures.kept c.nodes-nodes.ensures.nodes c.requires.node c.index-nodes-i.is in
    let e = sym c.left_child.ensures ∙ c.in-Some.is in
    let low : c.in-Some.child < c.args.i = subst (HasLower c.args.i) e (at.kept.nodes_are.each c.args.i c.index-nodes-i.result at.here).left_lower in
    let there = subst (λ m. c.in-Some.child < m) (sym c.requires.made) low in
    record {
      at = there;
      pools = λ d. sym (c.requires.held.1.1.1.of_nodes c.in-Some.child d there (inr (c.args.i, (c.index-nodes-i.result, (omega arith, (at.here, inl e)))))).list.rows;
    }

pub returns-in-Source-clause-list : goal.returns-in-Source-clause-list
returns-in-Source-clause-list c =
    let plan = c.args.plan.now in
    let old = c.args.streams.now.items in
    let s = c.in-Source.stream in
    let at = node_at plan _ c.args.i _ c.nodes-nodes.ensures.kept c.nodes-nodes.ensures.nodes c.requires.node c.index-nodes-i.is in
    IfOk-three c.take_list.result (λ (l : EdgeListView). (d : EdgeListView) → l.edges ≡ (get_or old s d).edges) (λ (l : EdgeListView). (d : EdgeListView) → l.kinds ≡ (get_or old s d).kinds) (λ (l : EdgeListView). (d : EdgeListView) → l.capacity ≡ (get_or old s d).capacity)
    (λ (l : EdgeListView). (texts : List (List ℕ)) (given more : ℕ → List Edge) (n : Node) → HeldBefore texts c.args.pools.now.capacity plan c.args.i given more old c.args.made.now.items → slice_get plan.nodes c.args.i ≡ Some n → IsListWith texts c.args.pools.now.capacity (left_kinds plan n) (left_of [] given more n) l)
    (λ l edges kinds rows texts given more n held there. stream_list texts c.args.pools.now.capacity plan c.args.i c.index-nodes-i.result at given more old c.args.made.now.items n there l held s c.in-Source.is c.requires.streams edges kinds rows)
    c.take_list.ensures.edges c.take_list.ensures.kinds c.take_list.ensures.capacity

pub returns-in-Source-clause-held : goal.returns-in-Source-clause-held
returns-in-Source-clause-held c =
    let plan = c.args.plan.now in
    let old = c.args.streams.now.items in
    let left = c.take_list.new.lists.items in
    IfOk-weaker c.take_list.result (λ l. (k : ℕ) (d : EdgeListView) → (k ≢ c.in-Source.stream) ⊎ (c.is_stream_needed-again.result ≡ true) → get_or left k d ≡ get_or old k d)
    (λ l. (texts : List (List ℕ)) (given more : ℕ → List Edge) → HeldBefore texts c.args.pools.now.capacity plan c.args.i given more old c.args.made.now.items → HeldBetween texts c.args.pools.now.capacity plan c.args.i given more left c.args.made.now.items)
    (λ l others texts given more held. left_stream_taken texts c.args.pools.now.capacity plan given more c.args.i old c.args.made.now.items held c.in-Source.stream c.is_stream_needed-again.result left c.is_stream_needed-again.ensures c.take_list.ensures.count others)
    c.take_list.ensures.others

pub returns-in-Some : goal.returns-in-Some
returns-in-Some c =
    let plan = c.args.plan.now in
    let old = c.args.made.now.items in
    let left = c.take_list-in-Some.new.lists.items in
    let k = c.in-Some.child in
    let at = node_at plan _ c.args.i _ c.nodes-nodes.ensures.kept c.nodes-nodes.ensures.nodes c.requires.node c.index-nodes-i.is in
    record {
      list = IfOk-three c.take_list-in-Some.result (λ (l : EdgeListView). (d : EdgeListView) → l.edges ≡ (get_or old k d).edges) (λ (l : EdgeListView). (d : EdgeListView) → l.kinds ≡ (get_or old k d).kinds) (λ (l : EdgeListView). (d : EdgeListView) → l.capacity ≡ (get_or old k d).capacity)
          (λ (l : EdgeListView). (texts : List (List ℕ)) (given more : ℕ → List Edge) (n : Node) → HeldBefore texts c.args.pools.now.capacity plan c.args.i given more c.args.streams.now.items old → slice_get plan.nodes c.args.i ≡ Some n → IsListWith texts c.args.pools.now.capacity (left_kinds plan n) (left_of [] given more n) l)
          (λ l edges kinds rows texts given more n held there. left_child_list texts c.args.pools.now.capacity plan c.args.i c.index-nodes-i.result at given more c.args.streams.now.items old n there l held k (sym c.left_child.ensures ∙ c.in-Some.is) c.requires.made edges kinds rows)
          c.take_list-in-Some.ensures.edges c.take_list-in-Some.ensures.kinds c.take_list-in-Some.ensures.capacity;
      held = IfOk-weaker c.take_list-in-Some.result (λ l. (j : ℕ) (d : EdgeListView) → (j ≢ k) ⊎ (c.is_needed_right-again.result ≡ true) → get_or left j d ≡ get_or old j d)
          (λ l. (texts : List (List ℕ)) (given more : ℕ → List Edge) → HeldBefore texts c.args.pools.now.capacity plan c.args.i given more c.args.streams.now.items old → HeldBetween texts c.args.pools.now.capacity plan c.args.i given more c.args.streams.now.items left)
          (λ l others texts given more held. left_node_taken texts c.args.pools.now.capacity plan given more c.args.i c.args.streams.now.items old held k c.is_needed_right-again.result left c.is_needed_right-again.ensures c.take_list-in-Some.ensures.count others)
          c.take_list-in-Some.ensures.others;
      streams = refl;
      made = c.take_list-in-Some.ensures.count;
      pools = c.take_list-in-Some.ensures.pools;
      limit = c.take_list-in-Some.ensures.limit;
    }
