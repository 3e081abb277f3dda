use Rattle.std.proofs.Common.{◌<◌, ap, arith, length, subst, sym}
use Rattle.sweep_sides.specs.Ends.{end_of}
use Rattle.sweep_sides.proofs.TakenIn.{push_weighs}
use Rattle.sweep_sides.proofs.KeptStarts.{starts_kept, kept_on, one_kept}
use Rattle.sweep_sides.proofs.taking.push_end.Goals as goal

pub end_edge-requires : goal.end_edge-requires
end_edge-requires c =
    subst (λ l. c.args.end.start < length l) (sym c.deref.ensures.value)
    (one_kept c.args.due.now.items c.push_waited.new.due.items c.args.end c.in_ok-push_waited.ensures.kept c.requires).0

pub returns-clause-parts : goal.returns-clause-parts
returns-clause-parts c = λ w.
    let a = c.in_ok-push_waited.ensures.parts w in
    let b = push_weighs w c.push_waited.new.due.items c.push.new.self.items c.in_ok-edge.edge c.in_ok-push.ensures.items in
    let e = ap w c.in_ok-edge.ensures in
    let d = ap (λ l. w (end_of l c.args.end)) c.deref.ensures.value in
    let k = ap w (one_kept c.args.due.now.items c.push_waited.new.due.items c.args.end c.in_ok-push_waited.ensures.kept c.requires).1 in
    omega (arith, a, b, e, d, k)

pub returns-clause-kept : goal.returns-clause-kept
returns-clause-kept c = kept_on _ _ _ c.in_ok-push_waited.ensures.kept (starts_kept _ _ c.in_ok-edge.edge c.in_ok-push.ensures.items)
