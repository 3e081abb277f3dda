use Rattle.std.specs.Prelude.{◌++◌}
use Rattle.std.proofs.Common.{sym, ap, ◌∙◌}
use Rattle.edge_stream.specs.Entries.{entries_of}
use Rattle.sweep_sides.specs.Waiting.{queued}
use Rattle.snapshot_agg.proofs.Lined.{saved_both}
use Rattle.snapshot_agg.proofs.Queueing.{edges_both}
use Rattle.snapshot_agg.proofs.queue.Queue.save.Goals as goal

pub returns : goal.returns
returns c =
    let q = c.self.inside in
    saved_both c.args.part c.args.saved.now c.save_waiting.new.saved c.save_edge_line.new.saved (queued q.others) q.line.items c.in_ok-save_waiting.ensures c.in_ok-save_edge_line.ensures
    ∙ ap (λ l. c.args.saved.now ++ entries_of c.args.part l) (sym (edges_both q.others q.line.items) ∙ ap queued c.self.view_is)
