use Rattle.std.specs.Prelude.{◌≡◌, ◌+◌, ◌≤◌, ◌++◌, ℕ, cond, [], All, map, refl}
use Rattle.std.proofs.Common.{sym, ap, subst, arith, rules}
use Rattle.tw_rows.specs.Cells.{datum_kind}
use Rattle.tw_rows.specs.Instant.{inf}
use Rattle.tw_rows.specs.Bag.{total}
use Rattle.tw_rows.specs.Event.{alive}
use Rattle.tw_rows.specs.declared.edge.Edge.{Edge}
use Rattle.edge_history.specs.History.{of}
use Rattle.edge_history.specs.Opens.{singles}
use Rattle.edge_history.specs.Order.{is_from, Rises}
use Rattle.edge_stream.specs.Listing.{cells_of}
use Rattle.plan_laws.specs.Keeping.{plain_cells}
use Rattle.plan_model.specs.RowOps.{is_undefined_in}
use Rattle.sweep_sides.specs.Waiting.{queued}
use Rattle.sweep_sides.proofs.TakenIn.{side_taken}
use Rattle.snapshot_agg.specs.Answering.{group_kinds}
use Rattle.snapshot_agg.specs.Counting.{pending_of}
use Rattle.snapshot_agg.specs.Keeping.{KeepsGroup}
use Rattle.snapshot_agg.specs.Living.{AreLate}
use Rattle.snapshot_agg.specs.Totaled.{run_of}
use Rattle.snapshot_agg.proofs.Beginning.{come_total}
use Rattle.snapshot_agg.proofs.Instants.{all_late, least_wider, pending_total}
use Rattle.snapshot_agg.proofs.Queueing.{pending_own, pending_timed}
use Rattle.snapshot_agg.proofs.Sweeping.{for_both}
use Rattle.snapshot_agg.proofs.Stepping.{step_keeps, step_stops, kept_defined, so_far_empty, due_stored}
use Rattle.snapshot_agg.proofs.emitting.emit_due.Goals as goal

pub emit_all-requires-clause-own : goal.emit_all-requires-clause-own
emit_all-requires-clause-own c = pending_own c.args.groups.now.rows.rows.ends c.args.waiting.now c.requires.side.timed

pub returns-in-Err-clause-overflow : goal.returns-in-Err-clause-overflow
returns-in-Err-clause-overflow c = λ v e came out k m.
    let g = c.args.groups.now in
    let w0 = c.args.waiting.now in
    let new = c.args.left.now.edges in
    let e0 = c.cursor-cursor.result.edges in
    let is : c.cursor-cursor.result.edges ≡ new = ap (λ u. u.edges) c.cursor-cursor.ensures.cursor in
    let h : c.args.to ≤ inf = search rules in
    let late = all_late (cells_of c.args.left.now) c.args.from g.rows.rows.held g.rows.rows.ends w0 e0 c.requires.side (subst (Rises 0) (sym is) c.cursor-cursor.ensures.order.rises)
    (subst (AreLate c.args.from) (sym is) m.from) in
    let r = c.in-Err.ensures.refused v e late in
    let x = r.4 in
    let low = r.3 in
    let parts : (w : Edge → ℕ) → total w r.0 + total w r.1 ≡ total w (queued (pending_of g w0)) + total w (singles new) =
    λ w.
    let p = x.parts w in
    let a = come_total w g.rows.rows.ends w0 e0 in
    let d = pending_total w g.rows.rows.ends w0 in
    let i = ap (λ l. total w (singles l)) is in
    omega (arith, p, a, d, i) in
    let within : r.2 ≤ inf = omega (arith, low, h) in
    least_wider (λ u. is_undefined_in plain_cells g.key.items g.aggs.items (alive (of (came ++ new)) u)) r.2 c.args.to v low
    (step_stops g.key.items g.aggs.items came new (queued (pending_of g w0)) r.0 r.0 r.1
    c.args.from r.2 x.rises within m.history m.from refl parts x.below x.after x.order
    g.rows.rows.held (run_of c.args.running.now) out k v (λ a u due s. x.undefined a u due s))

pub returns-clause-kept : goal.returns-clause-kept
returns-clause-kept c = λ came out k m.
    let g = c.args.groups.now in
    let w0 = c.args.waiting.now in
    let new = c.args.left.now.edges in
    let e0 = c.cursor-cursor.result.edges in
    let is : c.cursor-cursor.result.edges ≡ new = ap (λ u. u.edges) c.cursor-cursor.ensures.cursor in
    let h : c.args.to ≤ inf = search rules in
    let g1 = c.emit_all.new.groups in
    let w1 = c.emit_all.new.waiting in
    let run0 = run_of c.args.running.now in
    let run1 = run_of c.emit_all.new.running in
    let t = c.in-Ok.ensures.told in
    let parts : (w : Edge → ℕ) → total w t.0 + total w (queued (pending_of g1 w1)) ≡ total w (queued (pending_of g w0)) + total w (singles new) =
    λ w.
    let p = t.1.parts w in
    let a = come_total w g.rows.rows.ends w0 e0 in
    let b = come_total w g1.rows.rows.ends w1 [] in
    let d = pending_total w g.rows.rows.ends w0 in
    let f = pending_total w g1.rows.rows.ends w1 in
    let i = ap (λ l. total w (singles l)) is in
    omega (arith, p, a, b, d, f, i) in
    let later : AreLate c.args.to (queued (pending_of g1 w1)) =
    (let z = t.1.after in
    let b = come_total (λ x. cond {A = ℕ} (is_from c.args.to x) 0 1) g1.rows.rows.ends w1 [] in
    let f = pending_total (λ x. cond {A = ℕ} (is_from c.args.to x) 0 1) g1.rows.rows.ends w1 in
    omega (arith, z, b, f)) in
    let late = all_late (cells_of c.args.left.now) c.args.from g.rows.rows.held g.rows.rows.ends w0 e0 c.requires.side (subst (Rises 0) (sym is) c.cursor-cursor.ensures.order.rises)
    (subst (AreLate c.args.from) (sym is) m.from) in
    for_both (λ key aggs. KeepsGroup key aggs g1.rows.rows.held c.emit_all.new.running (pending_of g1 w1) c.args.to (came ++ new) (out ++ c.emit_all.new.answer.items))
    g.key.items g1.key.items g.aggs.items g1.aggs.items (sym (ap (λ x. x.items) c.emit_all.ensures.key)) (sym (ap (λ x. x.items) c.emit_all.ensures.aggs))
    (step_keeps g.key.items g.aggs.items came new (queued (pending_of g w0)) t.0 t.0 (queued (pending_of g1 w1))
    c.args.from c.args.to c.requires.rises h m.history m.from refl parts t.1.below later (t.1.order late)
    g.rows.rows.held run0 out k g1.rows.rows.held run1 c.new-answer.result.items c.emit_all.new.answer.items c.new-answer.ensures.items
    (λ a v due s. t.1.swept late a v due s))

pub returns-clause-defined : goal.returns-clause-defined
returns-clause-defined c = λ came out k m.
    let g = c.args.groups.now in
    let w0 = c.args.waiting.now in
    let new = c.args.left.now.edges in
    let e0 = c.cursor-cursor.result.edges in
    let is : c.cursor-cursor.result.edges ≡ new = ap (λ u. u.edges) c.cursor-cursor.ensures.cursor in
    let h : c.args.to ≤ inf = search rules in
    let g1 = c.emit_all.new.groups in
    let w1 = c.emit_all.new.waiting in
    let run0 = run_of c.args.running.now in
    let run1 = run_of c.emit_all.new.running in
    let t = c.in-Ok.ensures.told in
    let parts : (w : Edge → ℕ) → total w t.0 + total w (queued (pending_of g1 w1)) ≡ total w (queued (pending_of g w0)) + total w (singles new) =
    λ w.
    let p = t.1.parts w in
    let a = come_total w g.rows.rows.ends w0 e0 in
    let b = come_total w g1.rows.rows.ends w1 [] in
    let d = pending_total w g.rows.rows.ends w0 in
    let f = pending_total w g1.rows.rows.ends w1 in
    let i = ap (λ l. total w (singles l)) is in
    omega (arith, p, a, b, d, f, i) in
    let later : AreLate c.args.to (queued (pending_of g1 w1)) =
    (let z = t.1.after in
    let b = come_total (λ x. cond {A = ℕ} (is_from c.args.to x) 0 1) g1.rows.rows.ends w1 [] in
    let f = pending_total (λ x. cond {A = ℕ} (is_from c.args.to x) 0 1) g1.rows.rows.ends w1 in
    omega (arith, z, b, f)) in
    let late = all_late (cells_of c.args.left.now) c.args.from g.rows.rows.held g.rows.rows.ends w0 e0 c.requires.side (subst (Rises 0) (sym is) c.cursor-cursor.ensures.order.rises)
    (subst (AreLate c.args.from) (sym is) m.from) in
    kept_defined g.key.items g.aggs.items g1.rows.rows.held run1 (queued (pending_of g1 w1)) c.args.to (came ++ new) (out ++ c.emit_all.new.answer.items)
    (step_keeps g.key.items g.aggs.items came new (queued (pending_of g w0)) t.0 t.0 (queued (pending_of g1 w1))
    c.args.from c.args.to c.requires.rises h m.history m.from refl parts t.1.below later (t.1.order late)
    g.rows.rows.held run0 out k g1.rows.rows.held run1 c.new-answer.result.items c.emit_all.new.answer.items c.new-answer.ensures.items
    (λ a v due s. t.1.swept late a v due s))

pub returns-clause-cells : goal.returns-clause-cells
returns-clause-cells c = subst (λ u. All (λ e. map datum_kind e.cells ≡ u.kinds) u.edges) c.cursor-cursor.ensures.cursor c.in-Ok.ensures.cells

pub returns-clause-side : goal.returns-clause-side
returns-clause-side c =
    let g = c.args.groups.now in
    let w0 = c.args.waiting.now in
    let new = c.args.left.now.edges in
    let e0 = c.cursor-cursor.result.edges in
    let is : c.cursor-cursor.result.edges ≡ new = ap (λ u. u.edges) c.cursor-cursor.ensures.cursor in
    let h : c.args.to ≤ inf = search rules in
    let g1 = c.emit_all.new.groups in
    let w1 = c.emit_all.new.waiting in
    let run0 = run_of c.args.running.now in
    let run1 = run_of c.emit_all.new.running in
    let t = c.in-Ok.ensures.told in
    let parts : (w : Edge → ℕ) → total w t.0 + total w (queued (pending_of g1 w1)) ≡ total w (queued (pending_of g w0)) + total w (singles new) =
    λ w.
    let p = t.1.parts w in
    let a = come_total w g.rows.rows.ends w0 e0 in
    let b = come_total w g1.rows.rows.ends w1 [] in
    let d = pending_total w g.rows.rows.ends w0 in
    let f = pending_total w g1.rows.rows.ends w1 in
    let i = ap (λ l. total w (singles l)) is in
    omega (arith, p, a, b, d, f, i) in
    let later : AreLate c.args.to (queued (pending_of g1 w1)) =
    (let z = t.1.after in
    let b = come_total (λ x. cond {A = ℕ} (is_from c.args.to x) 0 1) g1.rows.rows.ends w1 [] in
    let f = pending_total (λ x. cond {A = ℕ} (is_from c.args.to x) 0 1) g1.rows.rows.ends w1 in
    omega (arith, z, b, f)) in
    side_taken (cells_of c.args.left.now) c.args.from c.args.to g.rows.rows.held g1.rows.rows.held (pending_of g w0) (pending_of g1 w1) new t.0
    c.requires.rises c.requires.side c.cursor-cursor.ensures.order.real (returns-clause-cells c) parts t.1.below later (pending_timed g1.rows.rows.ends w1 c.in-Ok.ensures.own) t.1.fewer

pub returns-clause-so_far : goal.returns-clause-so_far
returns-clause-so_far c = λ runs.
    let g = c.args.groups.now in
    let w0 = c.args.waiting.now in
    let new = c.args.left.now.edges in
    let e0 = c.cursor-cursor.result.edges in
    let is : c.cursor-cursor.result.edges ≡ new = ap (λ u. u.edges) c.cursor-cursor.ensures.cursor in
    let h : c.args.to ≤ inf = search rules in
    let g1 = c.emit_all.new.groups in
    let w1 = c.emit_all.new.waiting in
    let run0 = run_of c.args.running.now in
    let run1 = run_of c.emit_all.new.running in
    let t = c.in-Ok.ensures.told in
    let parts : (w : Edge → ℕ) → total w t.0 + total w (queued (pending_of g1 w1)) ≡ total w (queued (pending_of g w0)) + total w (singles new) =
    λ w.
    let p = t.1.parts w in
    let a = come_total w g.rows.rows.ends w0 e0 in
    let b = come_total w g1.rows.rows.ends w1 [] in
    let d = pending_total w g.rows.rows.ends w0 in
    let f = pending_total w g1.rows.rows.ends w1 in
    let i = ap (λ l. total w (singles l)) is in
    omega (arith, p, a, b, d, f, i) in
    let later : AreLate c.args.to (queued (pending_of g1 w1)) =
    (let z = t.1.after in
    let b = come_total (λ x. cond {A = ℕ} (is_from c.args.to x) 0 1) g1.rows.rows.ends w1 [] in
    let f = pending_total (λ x. cond {A = ℕ} (is_from c.args.to x) 0 1) g1.rows.rows.ends w1 in
    omega (arith, z, b, f)) in
    let low : c.args.from ≤ c.args.from = omega arith in
    t.1.so_far (cells_of c.args.left.now) c.args.from low h
    (due_stored (cells_of c.args.left.now) c.args.from (queued (pending_of g w0)) (queued (pending_of g1 w1)) new t.0 c.requires.side.later c.cursor-cursor.ensures.order (returns-clause-cells c) parts)
    (so_far_empty (group_kinds g.key.items g.aggs.items (cells_of c.args.left.now)) c.args.from c.args.to run0 c.new-answer.result.items c.new-answer.ensures.items runs)
