use Rattle.std.proofs.Common.{◌≡◌, ◌<◌, ◌∙◌, ◌+◌, ℕ, List, [], ap, sym, subst, arith, inl}
use Rattle.std.specs.Prelude.{◌≢◌, ◌⊎◌, true, Some, slice_get, get_or}
use Rattle.std.proofs.lemmas.Result.{IfOk-weaker}
use Rattle.tw_rows.specs.declared.edge.Edge.{Edge}
use Rattle.edge_stream.specs.Listing.{EdgeListView}
use Rattle.edge_stream.specs.Lists.{no_edges}
use Rattle.plan_model.specs.declared.node.Node.{Node}
use Rattle.plan_model.specs.Shape.{HasLower, right_of}
use Rattle.plan_model.proofs.Kept.{node_at}
use Rattle.dataflow.specs.Stages.{right_kinds}
use Rattle.dataflow.specs.Held.{HeldBefore, HeldBetween, IsListWith}
use Rattle.dataflow.proofs.HeldLists.{IfOk-three, right_node_taken, right_child_list, right_no_list}
use Rattle.dataflow.proofs.reading.right_list.Goals as goal

pub is_needed-again-requires-clause-child : goal.is_needed-again-requires-clause-child
is_needed-again-requires-clause-child c =
    let at = node_at c.args.plan.now _ c.args.i _ c.nodes-nodes.ensures.kept c.nodes-nodes.ensures.nodes c.requires.node c.index-nodes-i.is in
    let low : c.in-Some.child < c.args.i = subst (HasLower c.args.i) (sym c.right_child.ensures ∙ c.in-Some.is) (at.kept.nodes_are.each c.args.i c.index-nodes-i.result at.here).right_lower in
    let within = c.requires.node in
    omega (arith, low, within)

pub take_list-requires-clause-at : goal.take_list-requires-clause-at
take_list-requires-clause-at c =
    let at = node_at c.args.plan.now _ c.args.i _ c.nodes-nodes.ensures.kept c.nodes-nodes.ensures.nodes c.requires.node c.index-nodes-i.is in
    let e = sym c.right_child.ensures ∙ c.in-Some.is in
    let low : c.in-Some.child < c.args.i = subst (HasLower c.args.i) e (at.kept.nodes_are.each c.args.i c.index-nodes-i.result at.here).right_lower in
    subst (λ m. c.in-Some.child < m) (sym c.requires.made) low

pub take_list-requires-clause-pools : goal.take_list-requires-clause-pools
take_list-requires-clause-pools c =
    let at = node_at c.args.plan.now _ c.args.i _ c.nodes-nodes.ensures.kept c.nodes-nodes.ensures.nodes c.requires.node c.index-nodes-i.is in
    let e = sym c.right_child.ensures ∙ c.in-Some.is in
    let low : c.in-Some.child < c.args.i = subst (HasLower c.args.i) e (at.kept.nodes_are.each c.args.i c.index-nodes-i.result at.here).right_lower in
    λ d. sym (c.requires.held.1.1.1.1.of_nodes c.in-Some.child d (subst (λ m. c.in-Some.child < m) (sym c.requires.made) low) (inl (c.index-nodes-i.result, (at.here, e)))).list.rows

pub returns-in-Some-clause-list : goal.returns-in-Some-clause-list
returns-in-Some-clause-list c =
    let plan = c.args.plan.now in
    let old = c.args.made.now.items in
    let k = c.in-Some.child in
    let at = node_at plan _ c.args.i _ c.nodes-nodes.ensures.kept c.nodes-nodes.ensures.nodes c.requires.node c.index-nodes-i.is in
    IfOk-three c.take_list.result (λ (l : EdgeListView). (d : EdgeListView) → l.edges ≡ (get_or old k d).edges) (λ (l : EdgeListView). (d : EdgeListView) → l.kinds ≡ (get_or old k d).kinds) (λ (l : EdgeListView). (d : EdgeListView) → l.capacity ≡ (get_or old k d).capacity)
    (λ (l : EdgeListView). (texts : List (List ℕ)) (given more : ℕ → List Edge) (streams : List EdgeListView) (n : Node) → HeldBetween texts c.args.pools.now.capacity plan c.args.i given more streams old → slice_get plan.nodes c.args.i ≡ Some n → IsListWith texts c.args.pools.now.capacity (right_kinds plan n) (right_of [] more n) l)
    (λ l edges kinds rows texts given more streams n held there. right_child_list texts c.args.pools.now.capacity plan c.args.i c.index-nodes-i.result at given more streams old n there l held k (sym c.right_child.ensures ∙ c.in-Some.is) c.requires.made edges kinds rows)
    c.take_list.ensures.edges c.take_list.ensures.kinds c.take_list.ensures.capacity

pub returns-in-Some-clause-held : goal.returns-in-Some-clause-held
returns-in-Some-clause-held c =
    let plan = c.args.plan.now in
    let old = c.args.made.now.items in
    let left = c.take_list.new.lists.items in
    let k = c.in-Some.child in
    IfOk-weaker c.take_list.result (λ l. (j : ℕ) (d : EdgeListView) → (j ≢ k) ⊎ (c.is_needed-again.result ≡ true) → get_or left j d ≡ get_or old j d)
    (λ l. (texts : List (List ℕ)) (given more : ℕ → List Edge) (streams : List EdgeListView) → HeldBetween texts c.args.pools.now.capacity plan c.args.i given more streams old → HeldBefore texts c.args.pools.now.capacity plan (c.args.i + 1) given more streams left)
    (λ l others texts given more streams held. right_node_taken texts c.args.pools.now.capacity plan given more c.args.i streams old held k c.is_needed-again.result left c.is_needed-again.ensures c.take_list.ensures.count others)
    c.take_list.ensures.others

pub returns-in-None-clause-list : goal.returns-in-None-clause-list
returns-in-None-clause-list c =
    let plan = c.args.plan.now in
    let old = c.args.made.now.items in
    let at = node_at plan _ c.args.i _ c.nodes-nodes.ensures.kept c.nodes-nodes.ensures.nodes c.requires.node c.index-nodes-i.is in
    IfOk-weaker c.new.result (λ (l : EdgeListView). l ≡ no_edges [] c.capacity.result)
    (λ (l : EdgeListView). (texts : List (List ℕ)) (given more : ℕ → List Edge) (streams : List EdgeListView) (n : Node) → HeldBetween texts c.args.pools.now.capacity plan c.args.i given more streams old → slice_get plan.nodes c.args.i ≡ Some n → IsListWith texts c.args.pools.now.capacity (right_kinds plan n) (right_of [] more n) l)
    (λ l h texts given more streams n held there. right_no_list texts c.args.pools.now.capacity plan c.args.i c.index-nodes-i.result at given more streams old n there l (sym c.right_child.ensures ∙ c.in-None.is) (h ∙ ap (no_edges []) c.capacity.ensures))
    c.new.ensures
