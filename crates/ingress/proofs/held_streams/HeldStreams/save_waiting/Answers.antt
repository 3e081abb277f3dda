use Rattle.std.specs.Prelude.{◌++◌}
use Rattle.std.proofs.Common.{◌∙◌, ap, arith}
use Rattle.std.proofs.lemmas.List.{take_all, length-take}
use Rattle.ingress.specs.Loaded.{waits_from}
use Rattle.ingress.proofs.SavedAll.{waits_next}
use Rattle.ingress.proofs.held_streams.HeldStreams.save_waiting.Goals as goal

pub loop-stream-preserved : goal.loop-stream-preserved
loop-stream-preserved c =
    let ws = c.args.self.now.waiting.items in
    let e = c.len-stream-end.ensures in
    let t = c.loop-stream-test.true in
    let l = length-take c.loop-stream.stream ws in
    waits_next c.args.saved.now c.loop-stream.saved c.save.new.saved ws c.loop-stream.stream c.in_ok-part.part c.index.result.now (omega (arith, e, t)) (omega (arith, e, t, l)) c.index.ensures
    c.in_ok-part.ensures.part c.loop-stream.invariant c.in_ok-save.ensures

pub returns : goal.returns
returns c =
    let ws = c.args.self.now.waiting.items in
    let e = c.len-stream-end.ensures in
    let t = c.loop-stream-test.false in
    c.loop-stream.invariant ∙ ap (λ l. c.args.saved.now ++ waits_from 0 l) (take_all c.loop-stream.stream ws (omega (arith, e, t)))
