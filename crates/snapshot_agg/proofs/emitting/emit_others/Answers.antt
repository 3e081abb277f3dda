use Rattle.std.specs.Prelude.{◌≡◌, ◌+◌, ℕ, cond, List, [], refl}
use Rattle.std.proofs.Common.{sym, ap, subst, arith}
use Rattle.tw_rows.specs.Bag.{total}
use Rattle.tw_rows.specs.SameCells.{same_cells}
use Rattle.tw_rows.specs.declared.edge.Edge.{Edge}
use Rattle.tw_rows.proofs.Bags.{SameBag-sym}
use Rattle.edge_history.specs.History.{CellEvent}
use Rattle.edge_history.specs.Opens.{started_rows}
use Rattle.edge_history.specs.Order.{failing, is_from, is_below, Rises}
use Rattle.edge_stream.specs.declared.saved.StepFault.TheVariants.{Overflow}
use Rattle.key_nodes.specs.Groups.{grouped}
use Rattle.sweep_laws.specs.Grouping.{GroupSweeping, IsDefined, IsFirstUndefined}
use Rattle.sweep_laws.specs.Sweeps.{IsDue, Tells}
use Rattle.snapshot_agg.specs.Answering.{group_kinds, is_stored, IsSoFar}
use Rattle.snapshot_agg.specs.Living.{AreLate, AreTold, AreRefused, to_come}
use Rattle.snapshot_agg.specs.Totaled.{run_of}
use Rattle.snapshot_agg.specs.Words.{key_data, tell, bad}
use Rattle.snapshot_agg.proofs.Beginning.{come_total}
use Rattle.snapshot_agg.proofs.Faults.{handed_on}
use Rattle.snapshot_agg.proofs.Instants.{come_late}
use Rattle.snapshot_agg.proofs.Reloading.{sweeping_same}
use Rattle.snapshot_agg.proofs.Sweeping.{for_both}
use Rattle.snapshot_agg.proofs.emitting.emit_others.Goals as goal

pub returns-clause-told : goal.returns-clause-told
returns-clause-told c =
    let g = c.args.groups.now in
    let gs = c.settle.new.self in
    let rows0 = g.rows.rows.held in
    let rows1 = gs.rows.rows.held in
    let run0 = run_of c.args.running.now in
    let due = c.in_ok-due.due.items in
    let deref = c.deref_mut.ensures.value in
    let from = c.args.from in
    let to = c.args.to in
    let w1 = c.take_due.new.waiting in
    let key = ap (λ k. k.items) c.settle.ensures.key in
    let aggs = ap (λ k. k.items) c.settle.ensures.aggs in
    let come0 = to_come g.rows.rows.ends c.args.waiting.now c.args.cursor.now.edges in
    let n = c.in_ok-settle.ensures in
    let d = c.in_ok-due.ensures in
    let parts : (w : Edge → ℕ) → total w due + total w (to_come [] w1 []) ≡ total w come0 =
    λ w.
    let a = come_total w [] w1 [] in
    let b = come_total w g.rows.rows.ends c.args.waiting.now c.args.cursor.now.edges in
    let p = n.pending w in
    let z = ap (total w) n.settled in
    let q = d.parts w in
    omega (arith, a, b, p, z, q) in
    let after : AreLate to (to_come [] w1 []) = come_late to [] w1 [] refl d.later refl in
    let sweep : (a : List CellEvent) → GroupSweeping (tell g.key.items g.aggs.items) (bad g.key.items g.aggs.items) a from rows0 run0 → GroupSweeping (tell g.key.items g.aggs.items) (bad g.key.items g.aggs.items) a from rows1 run0 =
    λ a s. sweeping_same g.key.items g.aggs.items a from rows0 rows1 run0 (SameBag-sym _ _ n.held) s in
    let g2 = c.sweep_due.new.groups in
    let rows2 = g2.rows.rows.held in
    let run2 = run_of c.sweep_due.new.running in
    let a0 = c.args.answer.now.items in
    let a1 = c.sweep_due.new.answer.items in
    let y = c.in_ok-sweep_due.ensures in (
      due,
      subst (λ es. AreTold g.key.items g.aggs.items rows0 rows2 run0 run2 come0 (to_come es w1 []) from to a0 a1 due) (sym y.settled) (record {
        parts = parts;
        below = d.below;
        after = after;
        order = λ late. d.order;
        swept = λ late a v is s.
            for_both (λ k b. GroupSweeping (tell k b) (bad k b) a from rows1 run0 →
            GroupSweeping (tell k b) (bad k b) a v rows2 run2 × Tells (grouped (key_data k) same_cells same_cells (tell k b) a) from v a0 a1 × IsDefined (bad k b) a from v)
            gs.key.items g.key.items gs.aggs.items g.aggs.items key aggs (λ z. y.swept a v (subst (IsDue a from v) (sym deref) is) z) (sweep a s);
        so_far = λ left lo under within stored s.
            for_both (λ k b. IsSoFar (group_kinds k b left) lo from to run0 a0 → IsSoFar (group_kinds k b left) lo to to run2 a1)
            gs.key.items g.key.items gs.aggs.items g.aggs.items key aggs
            (λ z. y.so_far left lo to under c.requires.rises within (subst (λ l. failing (is_stored left) l ≡ 0) (sym deref) stored) (subst (λ l. failing (is_below to) l ≡ 0) (sym deref) d.below)
            (subst (Rises 0) (sym deref) d.order) z) s;
        fewer = λ w.
            let z = y.fewer w in
            let e = ap (λ l. total w (started_rows l)) deref in
            let h = n.held.weigh w in
            omega (arith, z, e, h);
      }),
    )

pub returns-in_err-sweep_due-clause-refused : goal.returns-in_err-sweep_due-clause-refused
returns-in_err-sweep_due-clause-refused c =
    let g = c.args.groups.now in
    let gs = c.settle.new.self in
    let rows0 = g.rows.rows.held in
    let rows1 = gs.rows.rows.held in
    let run0 = run_of c.args.running.now in
    let due = c.in_ok-due.due.items in
    let deref = c.deref_mut.ensures.value in
    let from = c.args.from in
    let to = c.args.to in
    let w1 = c.take_due.new.waiting in
    let key = ap (λ k. k.items) c.settle.ensures.key in
    let aggs = ap (λ k. k.items) c.settle.ensures.aggs in
    let come0 = to_come g.rows.rows.ends c.args.waiting.now c.args.cursor.now.edges in
    let n = c.in_ok-settle.ensures in
    let d = c.in_ok-due.ensures in
    let parts : (w : Edge → ℕ) → total w due + total w (to_come [] w1 []) ≡ total w come0 =
    λ w.
    let a = come_total w [] w1 [] in
    let b = come_total w g.rows.rows.ends c.args.waiting.now c.args.cursor.now.edges in
    let p = n.pending w in
    let z = ap (total w) n.settled in
    let q = d.parts w in
    omega (arith, a, b, p, z, q) in
    let after : AreLate to (to_come [] w1 []) = come_late to [] w1 [] refl d.later refl in
    let sweep : (a : List CellEvent) → GroupSweeping (tell g.key.items g.aggs.items) (bad g.key.items g.aggs.items) a from rows0 run0 → GroupSweeping (tell g.key.items g.aggs.items) (bad g.key.items g.aggs.items) a from rows1 run0 =
    λ a s. sweeping_same g.key.items g.aggs.items a from rows0 rows1 run0 (SameBag-sym _ _ n.held) s in
    handed_on c.in_err-sweep_due.field-0.0 c.from_residual-in_err-sweep_due.result
    (λ f. (v : ℕ) → f ≡ Overflow v → AreLate from come0 → (due : List Edge) × (come : List Edge) × AreRefused g.key.items g.aggs.items rows0 run0 come0 come from to v due)
    c.from_residual-in_err-sweep_due.ensures.1
    (λ v e late. (
      due,
      to_come [] w1 [],
      record {
        rises = c.requires.rises;
        parts = parts;
        late = let p = parts (λ x. cond (is_from from x) 0 1) in omega (arith, p, late);
        below = d.below;
        after = after;
        order = d.order;
        undefined = λ a u is s.
            for_both (λ k b. GroupSweeping (tell k b) (bad k b) a from rows1 run0 → IsFirstUndefined (bad k b) a from u v) gs.key.items g.key.items gs.aggs.items g.aggs.items key aggs
            (λ z. c.in_err-sweep_due.ensures.overflow v e a u (subst (IsDue a from u) (sym deref) is) z) (sweep a s);
      },
    ))
