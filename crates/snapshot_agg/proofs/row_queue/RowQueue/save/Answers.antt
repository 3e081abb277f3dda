use Rattle.std.specs.Prelude.{◌++◌, map}
use Rattle.std.proofs.Common.{sym, ◌∙◌, ap}
use Rattle.std.proofs.lemmas.List.{map-append}
use Rattle.edge_stream.specs.Entries.{entries_of}
use Rattle.sweep_laws.specs.Moves.{start_of}
use Rattle.snapshot_agg.proofs.Lined.{saved_both}
use Rattle.snapshot_agg.proofs.row_queue.RowQueue.save.Goals as goal

pub returns : goal.returns
returns c =
    let q = c.self.inside in
    saved_both c.args.part c.args.saved.now c.save_rows.new.saved c.save_line.new.saved (map start_of q.found.rows) (map start_of q.line.items) c.in_ok-save_rows.ensures c.in_ok-save_line.ensures
    ∙ ap (λ l. c.args.saved.now ++ entries_of c.args.part l) (sym (map-append start_of q.found.rows q.line.items) ∙ ap (λ v. map start_of v.rows) c.self.view_is)
