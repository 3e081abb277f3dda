use Rattle.std.specs.Prelude.{◌≡◌, ◌<◌, ◌≤◌, ◌*◌, ◌++◌, ℕ, suc, List, [], All, map, refl}
use Rattle.std.proofs.Common.{◌∙◌, ap, sym, subst, arith, rules}
use Rattle.std.proofs.lemmas.Bool.Decides.{nat_tests}
use Rattle.tw_rows.specs.Cells.{datum_kind}
use Rattle.tw_rows.specs.Instant.{inf}
use Rattle.tw_rows.specs.declared.edge.Edge.{Edge}
use Rattle.edge_history.specs.Opens.{singles}
use Rattle.edge_history.specs.Order.{failing, is_from}
use Rattle.edge_stream.specs.declared.saved.StepFault.TheVariants.{Overflow}
use Rattle.sweep_sides.specs.Waiting.{queued}
use Rattle.snapshot_agg.specs.Living.{AreLate, AreLived, AreRefused, to_come}
use Rattle.snapshot_agg.specs.Totaled.{run_of}
use Rattle.snapshot_agg.proofs.Faults.{handed_on}
use Rattle.snapshot_agg.proofs.Instants.{later_late, lower_rises, come_late, lived_none, lived_more, refused_more, some_at, none_queued}
use Rattle.snapshot_agg.proofs.Sweeping.{for_both}
use Rattle.snapshot_agg.proofs.intervals.live_on.Goals as goal

pub loop-to-init : goal.loop-to-init
loop-to-init c =
    let g = c.args.groups.now in
    record {
      high = c.requires.rises;
      counted = c.requires.counted;
      order = c.requires.order.rises;
      real = c.requires.order.real;
      lived = ([], lived_none g.key.items g.aggs.items g.rows.rows.held (run_of c.args.running.now) (to_come g.rows.rows.ends c.args.waiting.now c.args.cursor.now.edges) c.args.from c.args.answer.now.items);
      late = λ h. h;
      own = λ h. h;
      kinds = refl;
      cells = λ h. h;
      same_key = refl;
      same_aggs = refl;
    }

pub returns-then-le-clause-whole : goal.returns-then-le-clause-whole
returns-then-le-clause-whole c = λ whole.
    let g1 = c.loop-to.groups in
    let t = c.next_instant-t.result in
    let low : c.args.to ≤ t = grind (arith, nat_tests, c.le.ensures, c.if-le.true) in
    let none : c.loop-to.cursor.edges ≡ [] = search rules in
    let queue = none_queued c.len.result c.loop-to.waiting c.len.ensures c.loop-to-test.true in (
      none,
      come_late c.args.to g1.rows.rows.ends c.loop-to.waiting c.loop-to.cursor.edges (later_late c.args.to t g1.rows.rows.ends low c.next_instant-t.ensures.ends)
          (ap (λ l. failing (is_from c.args.to) (queued l)) queue) (ap (λ l. failing (is_from c.args.to) (singles l)) none),
    )

pub live_instant-requires-clause-some : goal.live_instant-requires-clause-some
live_instant-requires-clause-some c =
    let g1 = c.loop-to.groups in
    let t = c.next_instant-t.result in
    let high : c.args.to ≤ inf = search rules in
    let under : t < c.args.to = grind (arith, nat_tests, c.le.ensures, c.if-le.false) in
    some_at t g1.rows.rows.ends c.loop-to.waiting c.loop-to.cursor.edges (c.next_instant-t.ensures.found (λ e. omega (arith, e, high, under)))

pub returns-in_err-live_instant-clause-refused : goal.returns-in_err-live_instant-clause-refused
returns-in_err-live_instant-clause-refused c =
    let g = c.args.groups.now in
    let g1 = c.loop-to.groups in
    let t = c.next_instant-t.result in
    let done = c.loop-to.done in
    let under : t < c.args.to = grind (arith, nat_tests, c.le.ensures, c.if-le.false) in
    let low : done ≤ t = grind (arith, nat_tests, c.lt.ensures, c.if-lt.false) in
    let come0 = to_come g.rows.rows.ends c.args.waiting.now c.args.cursor.now.edges in
    let come1 = to_come g1.rows.rows.ends c.loop-to.waiting c.loop-to.cursor.edges in
    let rows0 = g.rows.rows.held in
    let rows1 = g1.rows.rows.held in
    let run0 = run_of c.args.running.now in
    let run1 = run_of c.loop-to.running in
    let i = c.loop-to.invariant.lived in
    handed_on c.in_err-live_instant.field-0.0 c.from_residual.result
    (λ f. (v : ℕ) → f ≡ Overflow v → (v < c.args.to) × ((due : List Edge) × (come : List Edge) × AreRefused g.key.items g.aggs.items rows0 run0 come0 come c.args.from (suc v) v due))
    c.from_residual.ensures.1
    (λ v e.
    let o = c.in_err-live_instant.ensures.refused v e in
    let r = o.1 done low in
    let is = o.0 in (
      omega (arith, is, under),
      (
        i.0 ++ r.0,
        r.1,
        subst (λ n. AreRefused g.key.items g.aggs.items rows0 run0 come0 r.1 c.args.from (suc n) n (i.0 ++ r.0)) (sym is)
            (refused_more g.key.items g.aggs.items rows0 rows1 run0 run1 come0 come1 c.args.from done c.args.answer.now.items c.loop-to.answer.items i.0 i.1 r.1 (suc t) t r.0
            (for_both (λ key aggs. AreRefused key aggs rows1 run1 come1 r.1 done (suc t) t r.0) g1.key.items g.key.items g1.aggs.items g.aggs.items
            (ap (λ k. k.items) c.loop-to.invariant.same_key) (ap (λ k. k.items) c.loop-to.invariant.same_aggs) r.2)),
      ),
    ))

pub loop-to-preserved : goal.loop-to-preserved
loop-to-preserved c =
    let g = c.args.groups.now in
    let g1 = c.loop-to.groups in
    let g2 = c.live_instant.new.groups in
    let t = c.next_instant-t.result in
    let done = c.loop-to.done in
    let high : c.args.to ≤ inf = search rules in
    let under : t < c.args.to = grind (arith, nat_tests, c.le.ensures, c.if-le.false) in
    let low : done ≤ t = grind (arith, nat_tests, c.lt.ensures, c.if-lt.false) in
    let plus = c.plus-done.ensures in
    let next : c.plus-done.result ≡ suc t = omega (arith, plus, under, high) in
    let come0 = to_come g.rows.rows.ends c.args.waiting.now c.args.cursor.now.edges in
    let come1 = to_come g1.rows.rows.ends c.loop-to.waiting c.loop-to.cursor.edges in
    let come2 = to_come g2.rows.rows.ends c.live_instant.new.waiting c.live_instant.new.cursor.edges in
    let rows0 = g.rows.rows.held in
    let rows1 = g1.rows.rows.held in
    let rows2 = g2.rows.rows.held in
    let run0 = run_of c.args.running.now in
    let run1 = run_of c.loop-to.running in
    let run2 = run_of c.live_instant.new.running in
    let a0 = c.args.answer.now.items in
    let a1 = c.loop-to.answer.items in
    let a2 = c.live_instant.new.answer.items in
    let i = c.loop-to.invariant in
    let n = c.in_ok-live_instant.ensures in
    let y = n.lived done low in
    record {
      high = omega (arith, next, under);
      counted = n.counted;
      order = lower_rises 0 (2 * suc t) c.live_instant.new.cursor.edges (omega arith) n.order;
      real = n.real;
      lived = (
        i.lived.0 ++ y.0,
        subst (λ m. AreLived g.key.items g.aggs.items rows0 rows2 run0 run2 come0 come2 c.args.from m a0 a2 (i.lived.0 ++ y.0)) (sym next)
            (lived_more g.key.items g.aggs.items rows0 rows1 run0 run1 come0 come1 c.args.from done a0 a1 i.lived.0 i.lived.1 rows2 run2 come2 (suc t) a2 y.0
            (for_both (λ key aggs. AreLived key aggs rows1 rows2 run1 run2 come1 come2 done (suc t) a1 a2 y.0) g1.key.items g.key.items g1.aggs.items g.aggs.items
            (ap (λ k. k.items) i.same_key) (ap (λ k. k.items) i.same_aggs) y.1)),
      );
      late = λ h. subst (λ m. AreLate m come2) (sym next) n.late;
      own = λ h. n.own (i.own h);
      kinds = c.live_instant.ensures.kinds ∙ i.kinds;
      cells = λ h. i.cells
          (subst (λ k. All (λ e. map datum_kind e.cells ≡ k) c.loop-to.cursor.edges) i.kinds
          (n.cells (subst (λ k. All (λ e. map datum_kind e.cells ≡ k) c.live_instant.new.cursor.edges) (sym i.kinds) h)));
      same_key = c.live_instant.ensures.key ∙ i.same_key;
      same_aggs = c.live_instant.ensures.aggs ∙ i.same_aggs;
    }
