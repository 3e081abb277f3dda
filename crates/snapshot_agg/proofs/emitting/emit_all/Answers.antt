use Rattle.std.specs.Prelude.{◌≡◌, ◌≤◌, ◌++◌, ℕ, List, []}
use Rattle.std.proofs.Common.{ap, subst, arith}
use Rattle.tw_rows.specs.declared.edge.Edge.{Edge}
use Rattle.edge_stream.specs.declared.saved.StepFault.TheVariants.{Overflow}
use Rattle.snapshot_agg.specs.Living.{AreLate, AreTold, AreRefused, to_come}
use Rattle.snapshot_agg.specs.Totaled.{run_of}
use Rattle.snapshot_agg.proofs.Faults.{handed_on}
use Rattle.snapshot_agg.proofs.Instants.{told_whole, told_more, refused_more}
use Rattle.snapshot_agg.proofs.Sweeping.{for_both}
use Rattle.snapshot_agg.proofs.emitting.emit_all.Goals as goal

pub returns-then-whole-clause-told : goal.returns-then-whole-clause-told
returns-then-whole-clause-told c =
    let g = c.args.groups.now in
    let g1 = c.live_on.new.groups in
    let w1 = c.live_on.new.waiting in
    let e1 = c.live_on.new.cursor.edges in
    let come0 = to_come g.rows.rows.ends c.args.waiting.now c.args.cursor.now.edges in
    let come1 = to_come g1.rows.rows.ends w1 e1 in
    let run0 = run_of c.args.running.now in
    let run1 = run_of c.live_on.new.running in
    let a0 = c.args.answer.now.items in
    let a1 = c.live_on.new.answer.items in
    let o = c.in_ok-done.ensures.lived in
    let z = c.in_ok-done.ensures.whole c.if-whole.true in (
      o.1.0,
      subst (λ l. AreTold g.key.items g.aggs.items g.rows.rows.held g1.rows.rows.held run0 run1 come0 (to_come g1.rows.rows.ends w1 l) c.args.from c.args.to a0 a1 o.1.0) z.0
          (told_whole g.key.items g.aggs.items g.rows.rows.held g1.rows.rows.held run0 run1 come0 come1 c.args.from c.in_ok-done.done c.args.to a0 a1 o.1.0 o.1.1 o.0 z.1),
    )

pub returns-clause-told : goal.returns-clause-told
returns-clause-told c =
    let g = c.args.groups.now in
    let g1 = c.live_on.new.groups in
    let g2 = c.emit_others.new.groups in
    let come0 = to_come g.rows.rows.ends c.args.waiting.now c.args.cursor.now.edges in
    let come1 = to_come g1.rows.rows.ends c.live_on.new.waiting c.live_on.new.cursor.edges in
    let come2 = to_come g2.rows.rows.ends c.emit_others.new.waiting [] in
    let run0 = run_of c.args.running.now in
    let run1 = run_of c.live_on.new.running in
    let run2 = run_of c.emit_others.new.running in
    let a0 = c.args.answer.now.items in
    let a1 = c.live_on.new.answer.items in
    let a2 = c.emit_others.new.answer.items in
    let o = c.in_ok-done.ensures.lived in
    let y = c.in_ok-emit_others.ensures.told in (
      o.1.0 ++ y.0,
      told_more g.key.items g.aggs.items g.rows.rows.held g1.rows.rows.held run0 run1 come0 come1 c.args.from c.in_ok-done.done c.args.to a0 a1 o.1.0 o.1.1 o.0
          g2.rows.rows.held run2 come2 a2 y.0 c.in_ok-done.ensures.late
          (for_both (λ k b. AreTold k b g1.rows.rows.held g2.rows.rows.held run1 run2 come1 come2 c.in_ok-done.done c.args.to a1 a2 y.0) g1.key.items g.key.items g1.aggs.items g.aggs.items
          (ap (λ k. k.items) c.live_on.ensures.key) (ap (λ k. k.items) c.live_on.ensures.aggs) y.1),
    )

pub returns-in_err-emit_others-clause-refused : goal.returns-in_err-emit_others-clause-refused
returns-in_err-emit_others-clause-refused c =
    let g = c.args.groups.now in
    let g1 = c.live_on.new.groups in
    let come0 = to_come g.rows.rows.ends c.args.waiting.now c.args.cursor.now.edges in
    let come1 = to_come g1.rows.rows.ends c.live_on.new.waiting c.live_on.new.cursor.edges in
    let run0 = run_of c.args.running.now in
    let run1 = run_of c.live_on.new.running in
    let o = c.in_ok-done.ensures.lived in
    let to = c.args.to in
    handed_on c.in_err-emit_others.field-0.0 c.from_residual-in_err-emit_others.result
    (λ f. (v : ℕ) → f ≡ Overflow v → AreLate c.args.from come0 → (due : List Edge) × (come : List Edge) × (d : ℕ) × (d ≤ to) × AreRefused g.key.items g.aggs.items g.rows.rows.held run0 come0 come c.args.from d v due)
    c.from_residual-in_err-emit_others.ensures.1
    (λ v e late.
    let r = c.in_err-emit_others.ensures.refused v e (c.in_ok-done.ensures.late late) in
    let low : to ≤ to = omega arith in (
      o.1.0 ++ r.0,
      r.1,
      to,
      low,
      refused_more g.key.items g.aggs.items g.rows.rows.held g1.rows.rows.held run0 run1 come0 come1 c.args.from c.in_ok-done.done c.args.answer.now.items c.live_on.new.answer.items o.1.0 o.1.1 r.1 to v r.0
          (for_both (λ k b. AreRefused k b g1.rows.rows.held run1 come1 r.1 c.in_ok-done.done to v r.0) g1.key.items g.key.items g1.aggs.items g.aggs.items
          (ap (λ k. k.items) c.live_on.ensures.key) (ap (λ k. k.items) c.live_on.ensures.aggs) r.2),
    ))
