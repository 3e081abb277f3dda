use Rattle.std.specs.Prelude.{◌++◌}
use Rattle.std.proofs.Common.{◌∙◌, ap, arith}
use Rattle.std.proofs.lemmas.List.{take_all}
use Rattle.edge_stream.specs.Entries.{entry_of, entries_of}
use Rattle.snapshot_agg.proofs.Lined.{saved_more}
use Rattle.snapshot_agg.proofs.saving.save_edge_line.Goals as goal

pub loop-i-preserved : goal.loop-i-preserved
loop-i-preserved c =
    let q = c.args.line.now in
    let e = c.len-i-end.ensures in
    let t = c.loop-i-test.true in
    let k = q.ok in
    saved_more (entry_of c.args.part) c.args.saved.now c.loop-i.saved c.push_cells.new.self q.items c.loop-i.i c.index-edge.result.now
    (omega (arith, e, t, k)) c.index-edge.ensures c.loop-i.invariant c.in_ok-push_cells.ensures.ok

pub returns : goal.returns
returns c =
    let q = c.args.line.now in
    let e = c.len-i-end.ensures in
    let t = c.loop-i-test.false in
    let k = q.ok in
    c.loop-i.invariant ∙ ap (λ l. c.args.saved.now ++ entries_of c.args.part l) (take_all c.loop-i.i q.items (omega (arith, e, t, k)))
