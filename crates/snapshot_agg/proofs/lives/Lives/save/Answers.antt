use Rattle.std.specs.Prelude.{◌++◌, map}
use Rattle.std.proofs.Common.{sym, ◌∙◌, ap}
use Rattle.std.proofs.lemmas.List.{map-append}
use Rattle.std.proofs.lemmas.Simd.{map-map}
use Rattle.edge_stream.specs.Entries.{entries_of}
use Rattle.sweep_laws.specs.Moves.{start_of}
use Rattle.snapshot_agg.specs.KeptRows.{row_ended}
use Rattle.snapshot_agg.proofs.Lined.{saved_both}
use Rattle.snapshot_agg.proofs.lives.Lives.save.Goals as goal

pub returns : goal.returns
returns c =
    let q = c.self.inside in
    saved_both c.args.part c.args.saved.now c.save.new.saved c.save_lives.new.saved (map start_of q.others.rows) (map (λ e. start_of (row_ended e)) q.ends.items) c.in_ok-save.ensures c.in_ok-save_lives.ensures
    ∙ ap (λ l. c.args.saved.now ++ entries_of c.args.part (map start_of q.others.rows ++ l)) (sym (map-map start_of row_ended q.ends.items))
    ∙ ap (λ l. c.args.saved.now ++ entries_of c.args.part l) (sym (map-append start_of q.others.rows (map row_ended q.ends.items)) ∙ ap (λ v. map start_of v.rows.held) c.self.view_is)
