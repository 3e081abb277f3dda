use Rattle.std.proofs.Common.{arith, refl}
use Rattle.edge_history.specs.Opens.{started_of}
use Rattle.sweep_laws.proofs.Adding.{adds_none, rows_more}
use Rattle.sweep_sides.proofs.Telling.{starts_more}
use Rattle.session_window.proofs.Likes.{like_then, await_like, passes_at}
use Rattle.session_window.proofs.sessions.Sessions.start_all.Goals as goal

pub loop-edge-init : goal.loop-edge-init
loop-edge-init c = record { rows = λ w. (omega arith); told = adds_none c.args.answer.now.items; awaits = λ h. h; later = λ u low h. h; like = record { timeout = refl; key = refl } }

pub loop-edge-preserved : goal.loop-edge-preserved
loop-edge-preserved c =
    let s = c.args.self.now in
    let now = c.loop-edge.self in
    let later = c.start_one.new.self in
    let k = c.loop-edge.invariant in
    let f = c.in_ok-start_one.ensures in
    let x = c.edge-item.result in
    let i = c.loop-edge.edge-index in
    record {
      rows = λ w.
          let a = k.rows w in
          let b = f.rows w in
          let d = rows_more started_of w c.args.now.now i x c.loop-edge-test.true c.edge-item.is in
          omega (arith, a, b, d);
      told = starts_more c.args.t c.args.now.now i x c.args.answer.now.items c.loop-edge.answer.items c.start_one.new.answer.items c.loop-edge-test.true c.edge-item.is k.told f.told;
      awaits = λ h. await_like s now later k.like (k.awaits h) f.awaits;
      later = λ u all h. f.later u (passes_at s now u c.args.now.now i x c.loop-edge-test.true c.edge-item.is k.like all) (k.later u all h);
      like = like_then s now later k.like f.like;
    }
