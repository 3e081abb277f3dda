use Rattle.std.proofs.Common.{◌∙◌, map, ap, sym}
use Rattle.tw_rows.specs.Kinds.{cell_kind_of}
use Rattle.edge_stream.proofs.Filling.{given_next, batch_given-capacity}
use Rattle.edge_stream.proofs.list.EdgeList.give_back.Goals as goal

pub loop-batch-preserved : goal.loop-batch-preserved
loop-batch-preserved c =
    let kinds = c.in-Some.ensures.kinds ∙ ap (map cell_kind_of) c.loop-batch.invariant.kinds in
    record {
      given = given_next c.loop-batch.self.batches c.take_batch.new.self.batches c.loop-batch.pools c.give_back.new.pools _ _ c.in-Some.batch.kinds c.in-Some.ensures.batches kinds c.give_back.ensures c.loop-batch.invariant.given;
      kinds = c.take_batch.ensures.shape.kinds ∙ c.loop-batch.invariant.kinds;
      capacity = ap (λ s. s.capacity) c.give_back.ensures ∙ batch_given-capacity c.loop-batch.pools c.in-Some.batch.kinds ∙ c.loop-batch.invariant.capacity ∙ sym c.take_batch.ensures.shape.capacity;
    }
