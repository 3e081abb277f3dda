use Rattle.std.proofs.Common.{◌∙◌, ap}
use Rattle.std.proofs.lemmas.List.{take_all}
use Rattle.sweep_laws.specs.Saving.{rows_of}
use Rattle.synopsis.specs.Queued.{queue_of}
use Rattle.synopsis.proofs.OpenRows.{load_next}
use Rattle.synopsis.proofs.row_queues.queues_of.Goals as goal

pub loop-edge-preserved : goal.loop-edge-preserved
loop-edge-preserved c =
    load_next c.args.edges.now c.loop-edge.edge-index c.edge-item.result c.loop-edge.queues c.put.new.self c.loop-edge-test.true c.edge-item.is c.in_ok-put.ensures c.loop-edge.invariant

pub returns : goal.returns
returns c = λ q. c.loop-edge.invariant q ∙ ap (λ l. queue_of (rows_of l) q) (take_all c.loop-edge.edge-index c.args.edges.now c.loop-edge-test.false)
