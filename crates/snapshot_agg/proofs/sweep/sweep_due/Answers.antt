use Rattle.std.specs.Prelude.{◌≡◌, ◌<◌, ◌+◌, ◌-◌, ℕ, List, length, refl}
use Rattle.edge_history.specs.History.{CellEvent}
use Rattle.edge_stream.specs.declared.saved.StepFault.TheVariants.{Overflow}
use Rattle.edge_history.specs.Order.{failing}
use Rattle.sweep_laws.specs.Sweeps.{is_at, IsPast, IsDue}
use Rattle.snapshot_agg.specs.Counting.{AreSwept, IsUndefinedFirst}
use Rattle.snapshot_agg.proofs.Faults.{handed_on}
use Rattle.std.proofs.Common.{sym, ◌∙◌, ap, subst, arith}
use Rattle.sweep_laws.specs.Grouping.{IsFirstUndefined}
use Rattle.snapshot_agg.specs.Words.{bad}
use Rattle.snapshot_agg.specs.Totaled.{run_of}
use Rattle.std.specs.Prelude.{take, drop, get_or}
use Rattle.std.proofs.lemmas.List.{drop-drop}
use Rattle.tw_rows.specs.Bag.{total}
use Rattle.edge_history.specs.Opens.{started_of, started_rows}
use Rattle.snapshot_agg.proofs.Applying.{fewer_rows, started_parts}
use Rattle.sweep_sides.proofs.Overwriting.{part_is, rest_written}
use Rattle.snapshot_agg.proofs.Sweeping.{for_part, same_at, InstantTold, InstantUndefined, for_both, InstantSoFar, within_rest, sweep_more, sweep_stops, sweep_from, sweep_ends}
use Rattle.snapshot_agg.specs.Answering.{group_kinds}
use Rattle.snapshot_agg.proofs.Answering.{going_starts, going_more, going_ends}
use Rattle.snapshot_agg.proofs.sweep.sweep_due.Goals as goal

pub loop-done-init : goal.loop-done-init
loop-done-init c =
    let g = c.args.groups.now in
    record {
      within = c.first_from-done.ensures.within;
      rest = refl;
      counted = c.requires.counted;
      settled = c.requires.settled;
      reached = λ a to d s. sweep_from g.key.items g.aggs.items a c.args.from to c.first_from-done.result c.args.due.now g.rows.rows.held (run_of c.args.running.now) c.args.answer.now.items c.first_from-done.ensures.none d s;
      so_far = λ left lo to under low high stored below up s. going_starts (group_kinds g.key.items g.aggs.items left) lo c.args.from to c.first_from-done.result c.args.due.now (run_of c.args.running.now) c.args.answer.now.items under low up c.first_from-done.ensures.head s;
      fewer = λ w. let z = fewer_rows started_of w c.args.due.now c.first_from-done.result in omega (arith, z);
      same_key = refl;
      same_aggs = refl;
    }

pub loop-done-preserved : goal.loop-done-preserved
loop-done-preserved c =
    let g = c.args.groups.now in
    let g1 = c.loop-done.groups in
    let due = c.args.due.now in
    let was = c.loop-done.due in
    let left = c.rest-left.result.now in
    let i = c.loop-done.done in
    let n = c.first_instant-n.result in
    let d = c.index-due-done.result in
    let el : left ≡ drop i due = c.rest-left.ensures ∙ c.loop-done.invariant.rest in
    let part : take ((i + n) - i) (drop i was) ≡ take n left = part_is was left i n c.rest-left.ensures in
    let at : (get_or was i d).sync ≡ (get_or due i d).sync = ap (λ x. x.sync) (same_at was due i d c.loop-done.invariant.rest) in
    let long = c.loop-done.auto.due in
    let some = c.loop-done-test.true in
    let more : i < length due = omega (arith, long, some) in
    let here = subst (λ t. failing (is_at t) (take n left) ≡ 0) at c.first_instant-n.ensures.same in
    let past = subst (λ t. IsPast t (drop n left)) at c.first_instant-n.ensures.next in
    record {
      within = within_rest g.key.items g.aggs.items due left i n d more el c.first_instant-n.ensures.within;
      rest = rest_written was c.sweep_instant.new.now i n (within_rest g.key.items g.aggs.items was left i n d some c.rest-left.ensures c.first_instant-n.ensures.within) c.sweep_instant.auto.now due
          c.loop-done.invariant.rest;
      counted = c.in_ok-sweep_instant.ensures.counted;
      settled = c.in_ok-sweep_instant.ensures.settled;
      reached = λ a to b s. sweep_more g.key.items g.aggs.items due left i n d more el
          here past a c.args.from to g1.rows.rows.held c.sweep_instant.new.groups.rows.rows.held
          (run_of c.loop-done.running) (run_of c.sweep_instant.new.running) c.args.answer.now.items c.loop-done.answer.items c.sweep_instant.new.answer.items
          (for_both (InstantTold (get_or due i d).sync (take n left) g1.rows.rows.held c.sweep_instant.new.groups.rows.rows.held (run_of c.loop-done.running) (run_of c.sweep_instant.new.running) c.loop-done.answer.items c.sweep_instant.new.answer.items)
          g1.key.items g.key.items g1.aggs.items g.aggs.items (ap (λ x. x.items) c.loop-done.invariant.same_key) (ap (λ x. x.items) c.loop-done.invariant.same_aggs) (for_part (λ t l. InstantTold t l g1.rows.rows.held c.sweep_instant.new.groups.rows.rows.held (run_of c.loop-done.running) (run_of c.sweep_instant.new.running) c.loop-done.answer.items c.sweep_instant.new.answer.items g1.key.items g1.aggs.items)
          _ _ _ _ at part c.in_ok-sweep_instant.ensures.swept))
          (c.loop-done.invariant.reached a to b s);
      so_far = λ left lo to under low high stored below up s.
          going_more (group_kinds g.key.items g.aggs.items left) left lo to i n due c.rest-left.result.now d (run_of c.loop-done.running) (run_of c.sweep_instant.new.running) c.loop-done.answer.items c.sweep_instant.new.answer.items
          more el past below stored
          (for_both (InstantSoFar left lo to (get_or due i d).sync (take n c.rest-left.result.now) (run_of c.loop-done.running) (run_of c.sweep_instant.new.running) c.loop-done.answer.items c.sweep_instant.new.answer.items)
          g1.key.items g.key.items g1.aggs.items g.aggs.items (ap (λ x. x.items) c.loop-done.invariant.same_key) (ap (λ x. x.items) c.loop-done.invariant.same_aggs)
          (for_part (λ t l. InstantSoFar left lo to t l (run_of c.loop-done.running) (run_of c.sweep_instant.new.running) c.loop-done.answer.items c.sweep_instant.new.answer.items g1.key.items g1.aggs.items)
          _ _ _ _ at part (λ f b z k. c.in_ok-sweep_instant.ensures.so_far left lo to f b high z k)))
          (c.loop-done.invariant.so_far left lo to under low high stored below up s);
      fewer = λ w.
          let step = c.in_ok-sweep_instant.ensures.fewer w in
          let rest = c.loop-done.invariant.fewer w in
          let parts = started_parts w n (drop i due) in
          let same = ap (λ l. total w (started_rows l)) (part ∙ ap (take n) el) in
          let more = ap (λ l. total w (started_rows l)) (drop-drop n i due) in
          omega (arith, step, rest, parts, same, more);
      same_key = c.in_ok-sweep_instant.ensures.key ∙ c.loop-done.invariant.same_key;
      same_aggs = c.in_ok-sweep_instant.ensures.aggs ∙ c.loop-done.invariant.same_aggs;
    }

pub returns-in_err-sweep_instant-clause-overflow : goal.returns-in_err-sweep_instant-clause-overflow
returns-in_err-sweep_instant-clause-overflow c =
    let g = c.args.groups.now in
    let g1 = c.loop-done.groups in
    let due = c.args.due.now in
    let was = c.loop-done.due in
    let left = c.rest-left.result.now in
    let i = c.loop-done.done in
    let n = c.first_instant-n.result in
    let d = c.index-due-done.result in
    let el : left ≡ drop i due = c.rest-left.ensures ∙ c.loop-done.invariant.rest in
    let part : take ((i + n) - i) (drop i was) ≡ take n left = part_is was left i n c.rest-left.ensures in
    let at : (get_or was i d).sync ≡ (get_or due i d).sync = ap (λ x. x.sync) (same_at was due i d c.loop-done.invariant.rest) in
    let long = c.loop-done.auto.due in
    let some = c.loop-done-test.true in
    let more : i < length due = omega (arith, long, some) in
    let here = subst (λ t. failing (is_at t) (take n left) ≡ 0) at c.first_instant-n.ensures.same in
    let past = subst (λ t. IsPast t (drop n left)) at c.first_instant-n.ensures.next in
    handed_on c.in_err-sweep_instant.field-0.0 c.from_residual.result
    (λ f. (v : ℕ) → f ≡ Overflow v → (a : List CellEvent) (to : ℕ) → IsDue a c.args.from to due → AreSwept g a c.args.from g.rows.rows.held c.args.running.now → IsUndefinedFirst g a c.args.from to v)
    c.from_residual.ensures.1
    (λ v e a to b s.
    let o = c.in_err-sweep_instant.ensures.overflow v e in
    subst (IsFirstUndefined (bad g.key.items g.aggs.items) a c.args.from to) (sym (o.0 ∙ at))
    (sweep_stops g.key.items g.aggs.items due left i n d more el
    here past a c.args.from to g1.rows.rows.held (run_of c.loop-done.running) c.args.answer.now.items c.loop-done.answer.items
    (for_both (InstantUndefined (get_or due i d).sync (take n left) g1.rows.rows.held (run_of c.loop-done.running))
    g1.key.items g.key.items g1.aggs.items g.aggs.items (ap (λ x. x.items) c.loop-done.invariant.same_key) (ap (λ x. x.items) c.loop-done.invariant.same_aggs)
    (for_part (λ t l. InstantUndefined t l g1.rows.rows.held (run_of c.loop-done.running) g1.key.items g1.aggs.items) _ _ _ _ at part o.1))
    (c.loop-done.invariant.reached a to b s)))

pub returns-clause-swept : goal.returns-clause-swept
returns-clause-swept c = λ a to d s.
    let g = c.args.groups.now in
    sweep_ends g.key.items g.aggs.items a c.args.from to c.loop-done.done c.args.due.now c.loop-done.groups.rows.rows.held (run_of c.loop-done.running) c.args.answer.now.items c.loop-done.answer.items
    (let z = c.loop-done-test.false in let long = c.loop-done.auto.due in omega (arith, z, long)) (c.loop-done.invariant.reached a to d s)

pub returns-clause-fewer : goal.returns-clause-fewer
returns-clause-fewer c = λ w. let z = c.loop-done.invariant.fewer w in omega (arith, z)

pub returns-clause-so_far : goal.returns-clause-so_far
returns-clause-so_far c = λ left lo to under low high stored below up s.
    let g = c.args.groups.now in
    going_ends (group_kinds g.key.items g.aggs.items left) lo to (drop c.loop-done.done c.args.due.now) (run_of c.loop-done.running) c.loop-done.answer.items (c.loop-done.invariant.so_far left lo to under low high stored below up s)
