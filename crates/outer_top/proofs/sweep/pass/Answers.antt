use Rattle.std.proofs.Common.{sym, ap, arith, subst, []}
use Rattle.tw_rows.specs.SameCells.{same_cells}
use Rattle.key_nodes.specs.Coalesced.{how_often}
use Rattle.synopsis.specs.Queued.{rows_at}
use Rattle.tw_rows.specs.Bag.{total}
use Rattle.sweep_laws.specs.Queues.{AreMoves}
use Rattle.outer_top.specs.TopKeys.{HasPassed}
use Rattle.outer_top.specs.TopEvents.{tops_at}
use Rattle.outer_top.proofs.TopSteps.{kept_after, settled_after, moves_after, queues_fit}
use Rattle.outer_top.proofs.sweep.pass.Goals as goal

pub returns-clause-swept : goal.returns-clause-swept
returns-clause-swept c = λ a low lives same h.
    let s = c.args.tops.now in
    let n = c.pass.new.self in
    let now = c.args.now.now in
    let t = c.args.t in
    let f = tops_at s.key.columns s.by s.most a in
    let lost = c.pass.new.lost.items in
    let won = c.pass.new.won.items in
    let passed : HasPassed s.key.columns s.by s.most now [] lost [] won s.keys.entries n.keys.entries =
    subst (λ l. HasPassed s.key.columns s.by s.most now l lost [] won s.keys.entries n.keys.entries) c.new-lost.ensures.items
    (subst (λ l. HasPassed s.key.columns s.by s.most now c.new-lost.result.items lost l won s.keys.entries n.keys.entries) c.new-won.ensures.items c.in_ok-pass.ensures.passed) in
    let moves : AreMoves same_cells f t (λ r. how_often same_cells r c.as_slice.result.now) (λ r. how_often same_cells r c.as_slice-2.result.now) =
    subst (λ l. AreMoves same_cells f t (λ r. how_often same_cells r l) (λ r. how_often same_cells r c.as_slice-2.result.now)) (sym c.as_slice.ensures.value)
    (subst (λ l. AreMoves same_cells f t (λ r. how_often same_cells r lost) (λ r. how_often same_cells r l)) (sym c.as_slice-2.ensures.value)
    (moves_after s.key.columns s.by s.most a t now s.keys.entries n.keys.entries lost won low lives same passed h.kept h.keys)) in
    let m = c.in_ok-move_rows.ensures.moved f low moves h.queues in (
      record {
        keys = settled_after s.key.columns s.by s.most a t now s.keys.entries n.keys.entries lost won low lives same passed h.kept h.keys;
        kept = kept_after s.key.columns s.by s.most a t now s.keys.entries n.keys.entries lost won low lives same passed h.kept h.keys;
        queues = m.0;
      },
      m.1,
    )

pub returns-clause-queues : goal.returns-clause-queues
returns-clause-queues c =
    let s = c.args.tops.now in
    let n = c.pass.new.self in
    queues_fit s.key.columns s.by s.most c.args.t c.args.now.now c.new-lost.result.items c.pass.new.lost.items c.new-won.result.items c.pass.new.won.items s.keys.entries n.keys.entries
    c.args.queues.now c.move_rows.new.self c.in_ok-pass.ensures.passed c.new-won.ensures.items
    (λ w. let r = c.in_ok-move_rows.ensures.rows w in let e = ap (λ l. total w (rows_at c.args.t l)) c.as_slice-2.ensures.value in omega (arith, r, e))

pub returns-clause-settled : goal.returns-clause-settled
returns-clause-settled c = λ h. (
    let p = c.in_ok-pass.ensures.passed in
    record { rows = p.kept h.rows; settled = p.settled h.settled; apart = p.apart })
