use Rattle.std.proofs.Common.{arith}
use Rattle.ingress.proofs.SavedAll.{starts_next}
use Rattle.ingress.proofs.saving.save_starts.Goals as goal

pub loop-i-preserved : goal.loop-i-preserved
loop-i-preserved c =
    let e = c.len-i-end.ensures in
    let t = c.loop-i-test.true in
    starts_next c.args.saved.now c.loop-i.saved c.save_start.new.saved c.args.key.now c.args.starts.now.items c.loop-i.i c.index.result.now (let k = c.args.starts.now.ok in omega (arith, e, t, k)) c.index.ensures
    c.loop-i.invariant c.in_ok-save_start.ensures
