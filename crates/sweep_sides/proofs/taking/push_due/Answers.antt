use Rattle.std.proofs.Common.{◌≡◌, ◌∙◌, sym, ap, arith, rules, length, refl}
use Rattle.tw_rows.specs.Bag.{total}
use Rattle.tw_rows.specs.declared.edge.Edge.{Edge}
use Rattle.edge_history.specs.Order.{failing, is_below}
use Rattle.sweep_sides.specs.Ends.{ends_of}
use Rattle.sweep_sides.proofs.KeptStarts.{starts_kept, pushed_end}
use Rattle.sweep_laws.proofs.Stored.{one_single, two_singles}
use Rattle.sweep_sides.proofs.TakenIn.{early_push, push_weighs}
use Rattle.sweep_sides.proofs.taking.push_due.Goals as goal

pub returns-then-is_single-clause-parts : goal.returns-then-is_single-clause-parts
returns-then-is_single-clause-parts c = λ w.
    let a = push_weighs w c.args.due.now.items c.push.new.self.items c.args.edge c.in_ok-push.ensures.items in
    let b = ap (total w) (one_single c.args.edge (sym c.is_single.ensures ∙ c.if-is_single.true)) in
    let k = ap (total w) (starts_kept _ _ c.args.edge c.in_ok-push.ensures.items c.args.ends.now c.requires).1 in
    omega (arith, a, b, k)

pub returns-then-is_single-clause-early : goal.returns-then-is_single-clause-early
returns-then-is_single-clause-early c = λ low h. early_push c.args.to c.args.due.now.items c.push.new.self.items c.args.edge c.in_ok-push.ensures.items low h

pub returns-then-is_single-clause-ends_early : goal.returns-then-is_single-clause-ends_early
returns-then-is_single-clause-ends_early c = λ h.
    ap (failing (is_below c.args.to)) (starts_kept _ _ c.args.edge c.in_ok-push.ensures.items c.args.ends.now c.requires).1 ∙ h

pub returns-clause-parts : goal.returns-clause-parts
returns-clause-parts c = λ w.
    let e = c.args.edge in
    let x : Edge = record { sync = e.sync; other = c.bounds.result.1; cells = e.cells } in
    let y : Edge = record { sync = e.other; other = e.sync; cells = e.cells } in
    let items = c.in_ok-push-2.ensures.items in
    let same = c.deref.ensures.value in
    let a = push_weighs w c.args.due.now.items c.push-2.new.self.items x items in
    let k = ap (total w) (starts_kept _ _ x items c.args.ends.now c.requires).1 in
    let b = c.in_ok-place_end.ensures.parts w in
    let d = ap (λ l. total w (ends_of l c.args.ends.now)) same in
    let n = ap (λ l. total w (ends_of l c.place_end.new.ends)) same in
    let last : c.len.result ≡ length c.args.due.now.items = search rules in
    let p = ap w (pushed_end c.args.due.now.items c.deref.result.now x c.len.result e.other (same ∙ items) last) in
    let begins = ap (λ n. record e { sync = e.sync; other = n; cells = e.cells }) c.bounds.ensures.infinity in
    let s = two_singles e x y (sym c.is_single.ensures ∙ c.if-is_single.false) begins refl w in
    omega (arith, a, k, b, d, n, p, s)

pub returns-clause-early : goal.returns-clause-early
returns-clause-early c = λ low h.
    early_push c.args.to c.args.due.now.items c.push-2.new.self.items (record { sync = c.args.edge.sync; other = c.bounds.result.1; cells = c.args.edge.cells }) c.in_ok-push-2.ensures.items low h

pub returns-clause-ends_early : goal.returns-clause-ends_early
returns-clause-ends_early c = λ h.
    let x : Edge = record { sync = c.args.edge.sync; other = c.bounds.result.1; cells = c.args.edge.cells } in
    let k = ap (failing (is_below c.args.to)) (starts_kept _ _ x c.in_ok-push-2.ensures.items c.args.ends.now c.requires).1 in
    let d = ap (λ l. failing (is_below c.args.to) (ends_of l c.args.ends.now)) c.deref.ensures.value in
    let n = ap (λ l. failing (is_below c.args.to) (ends_of l c.place_end.new.ends)) c.deref.ensures.value in
    sym n ∙ c.in_ok-place_end.ensures.early (d ∙ (k ∙ h))
