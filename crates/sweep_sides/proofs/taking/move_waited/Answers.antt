use Rattle.std.proofs.Common.{ap, arith}
use Rattle.tw_rows.specs.Bag.{total}
use Rattle.sweep_sides.proofs.TakenIn.{push_weighs}
use Rattle.sweep_sides.proofs.KeptStarts.{starts_kept, kept_on, none_more}
use Rattle.sweep_sides.proofs.taking.move_waited.Goals as goal

pub loop-edge-init : goal.loop-edge-init
loop-edge-init c = record { parts = λ w. omega arith; kept = none_more c.args.due.now.items }

pub loop-edge-preserved : goal.loop-edge-preserved
loop-edge-preserved c = record {
  parts = λ w.
      let a = push_weighs w c.loop-edge.due.items c.push.new.self.items c.in-Some.edge c.in_ok-push.ensures.items in
      let b = ap (total w) c.in-Some.ensures.some in
      let i = c.loop-edge.invariant.parts w in
      omega (arith, a, b, i);
  kept = kept_on _ _ _ c.loop-edge.invariant.kept (starts_kept _ _ c.in-Some.edge c.in_ok-push.ensures.items);
}

pub returns-clause-parts : goal.returns-clause-parts
returns-clause-parts c = λ w.
    let a = ap (λ l. total w l) c.in_default.ensures.none in
    let i = c.loop-edge.invariant.parts w in
    omega (arith, a, i)
