use Rattle.std.proofs.Common.{◌∙◌, ◌++◌, refl, ap, arith}
use Rattle.std.proofs.lemmas.List.{take_all}
use Rattle.edge_stream.specs.Entries.{entries_of}
use Rattle.sweep_laws.specs.Queues.{held_with}
use Rattle.sweep_laws.specs.Saving.{starts_of}
use Rattle.synopsis.proofs.Saved.{start_saved}
use Rattle.synopsis.proofs.saving.save_queue.Goals as goal

pub loop-i-preserved : goal.loop-i-preserved
loop-i-preserved c =
    let e = c.len-i-end.ensures in
    let t = c.loop-i-test.true in
    let k = c.args.since.now.ok in
    start_saved c.args.part c.args.cells.now c.args.cells.now c.args.since.now.items c.loop-i.i c.index.result.now c.index.result.now c.bounds.result.1
    c.args.saved.now c.loop-i.saved c.push_cells.new.self (omega (arith, e, t, k)) c.index.ensures c.bounds.ensures.infinity refl c.loop-i.invariant c.in_ok-push_cells.ensures.ok

pub returns : goal.returns
returns c =
    let e = c.len-i-end.ensures in
    let t = c.loop-i-test.false in
    let k = c.args.since.now.ok in
    c.loop-i.invariant ∙ ap (λ l. c.args.saved.now ++ entries_of c.args.part (starts_of (held_with c.args.cells.now l))) (take_all c.loop-i.i c.args.since.now.items (omega (arith, e, t, k)))
