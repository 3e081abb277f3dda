use Rattle.std.proofs.Common.{◌∙◌, ◌++◌, ap, map, arith}
use Rattle.std.proofs.lemmas.List.{take_all}
use Rattle.egress.specs.Saved.{entry_at}
use Rattle.egress.proofs.SavedEnds.{starts_more}
use Rattle.egress.proofs.saving.save_starts.Goals as goal

pub loop-i-preserved : goal.loop-i-preserved
loop-i-preserved c =
    let e = c.len-i-end.ensures in
    let t = c.loop-i-test.true in
    let k = c.args.since.now.ok in
    starts_more c.args.last c.args.cells.now c.args.since.now.items c.loop-i.i c.index.result.now c.index.result.now
    c.args.saved.now c.loop-i.saved c.push_cells.new.self (omega (arith, e, t, k)) c.index.ensures c.loop-i.invariant c.in_ok-push_cells.ensures.ok

pub returns : goal.returns
returns c =
    let e = c.len-i-end.ensures in
    let t = c.loop-i-test.false in
    let k = c.args.since.now.ok in
    c.loop-i.invariant ∙ ap (λ l. c.args.saved.now ++ map (entry_at c.args.last c.args.cells.now) l) (take_all c.loop-i.i c.args.since.now.items (omega (arith, e, t, k)))
