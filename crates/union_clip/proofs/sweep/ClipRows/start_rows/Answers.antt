use Rattle.std.proofs.Common.{arith}
use Rattle.edge_history.specs.Opens.{started_of}
use Rattle.sweep_laws.proofs.Adding.{adds_none, rows_more}
use Rattle.union_clip.proofs.KeyRules.{keys_stay, keys_then}
use Rattle.sweep_sides.proofs.Telling.{starts_more}
use Rattle.union_clip.proofs.sweep.ClipRows.start_rows.Goals as goal

pub loop-edge-init : goal.loop-edge-init
loop-edge-init c = record { started = λ w. (omega arith); told = adds_none c.args.answer.now.items; keys = keys_stay c.args.self.now }

pub loop-edge-preserved : goal.loop-edge-preserved
loop-edge-preserved c =
    let k = c.loop-edge.invariant in
    let f = c.in_ok-start_one.ensures in
    let x = c.edge-item.result in
    let i = c.loop-edge.edge-index in
    let low = c.loop-edge-test.true in
    let is = c.edge-item.is in
    record {
      started = λ w.
          let b = k.started w in
          let e = f.started w in
          let m = rows_more started_of w c.args.now.now i x low is in
          omega (arith, e, m, b);
      told = starts_more c.args.t c.args.now.now i x c.args.answer.now.items c.loop-edge.answer.items c.start_one.new.answer.items low is k.told f.told;
      keys = keys_then c.args.self.now c.loop-edge.self c.start_one.new.self k.keys f.keys;
    }
