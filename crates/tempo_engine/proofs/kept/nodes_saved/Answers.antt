use Rattle.std.proofs.Common.{◌∙◌, ◌++◌, ◌∷◌, [], add-one, ap, map, drop, take}
use Rattle.std.specs.Vec.Iter.{into_iter_items}
use Rattle.tw_rows.specs.Bag.{total}
use Rattle.frozen_state.specs.Forms.{shards_of}
use Rattle.tempo_engine.proofs.Sharing.{rest_next, saved_next, lists_more}
use Rattle.tempo_engine.proofs.kept.nodes_saved.Goals as goal

pub loop-node-preserved : goal.loop-node-preserved
loop-node-preserved c =
    let inv = c.loop-node.invariant in
    let xs = into_iter_items c.args.parts.now in
    let nodes = c.nodes-node-items.result.now in
    let i = c.loop-node.node-index in
    let n = c.shards_of_node.result in
    let node = c.node-item.result in
    let many = c.shards_of_node.ensures ∙ ap (shards_of c.args.workers) c.node-item.is in
    let own = c.in_ok-shards_saved.ensures in
    record {
      same = inv.same;
      rest = rw add-one (own.rest ∙ ap (λ l. drop n l) inv.rest ∙ rest_next c.args.workers nodes i node c.loop-node-test.true n xs many);
      saved = rw add-one
          (ap (λ l. map (λ shards. shards.items) l) c.in_ok-push.ensures.items ∙ lists_more c.loop-node.saved.items c.in_ok-shards_saved.field-0
          ∙ ap (λ l. map (λ shards. shards.items) c.loop-node.saved.items ++ l ∷ []) (own.saved ∙ ap (λ l. map (λ p. p.saved) (take n l)) inv.rest)
          ∙ ap (λ l. l ++ map (λ p. p.saved) (take n (drop (total (λ k. k) (map (shards_of c.args.workers) (take i nodes))) xs)) ∷ []) inv.saved
          ∙ saved_next c.args.workers nodes i node c.loop-node-test.true n xs many);
    }
