use Rattle.std.proofs.Common.{arith}
use Rattle.std.proofs.lemmas.List.{get_or_read}
use Rattle.ingress.proofs.Marks.{marks_none, marks_next}
use Rattle.ingress.proofs.watermarks.Watermarks.of.Goals as goal

pub loop-i-init : goal.loop-i-init
loop-i-init c = marks_none c.args.bounds.now c.args.marks.now c.new-streams.result.items c.new-streams.ensures.items

pub loop-i-preserved : goal.loop-i-preserved
loop-i-preserved c =
    let i = c.loop-i.i in
    let t = c.loop-i-test.true in
    let r = c.requires in
    marks_next c.args.bounds.now c.args.marks.now i c.loop-i.streams.items c.push.new.self.items (record { bound = c.index-bounds-i.result; mark = c.index-marks-i.result }) c.loop-i.invariant
    c.in_ok-push.ensures.items
    (get_or_read c.args.bounds.now i c.index-bounds-i.result (omega arith) c.index-bounds-i.is 0)
    (get_or_read c.args.marks.now i c.index-marks-i.result (omega arith) c.index-marks-i.is 0)

pub returns-clause-len : goal.returns-clause-len
returns-clause-len c = let l = c.loop-i.invariant.long in omega (arith, l)

pub returns-clause-bounds : goal.returns-clause-bounds
returns-clause-bounds c = λ s less. c.loop-i.invariant.of_bounds s (omega arith)

pub returns-clause-marks : goal.returns-clause-marks
returns-clause-marks c = λ s less. c.loop-i.invariant.of_marks s (omega arith)
