use Rattle.std.proofs.Common.{◌∙◌, ◌++◌, ◌∷◌, [], ap}
use Rattle.sweep_laws.proofs.Adding.{adds_none, map_more}
use Rattle.session_window.proofs.sessions.tell_ends.Goals as goal

pub loop-row-init : goal.loop-row-init
loop-row-init c = adds_none c.args.answer.now.items

pub loop-row-preserved : goal.loop-row-preserved
loop-row-preserved c =
    let r = c.row-item.result in
    map_more c.args.t r c.args.rows.now c.loop-row.row-index c.args.answer.now.items c.loop-row.answer.items c.push.new.self.items c.loop-row-test.true c.row-item.is
    (c.in_ok-push.ensures.items ∙ ap (λ l. c.loop-row.answer.items ++ record { sync = c.args.t; other = r.start; cells = l } ∷ []) c.in_ok-clone.ensures.cases) c.loop-row.invariant
