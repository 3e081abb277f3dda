use Rattle.std.specs.Prelude.{◌≡◌, ◌++◌, map}
use Rattle.std.proofs.Common.{◌∙◌, ap, subst, arith}
use Rattle.tw_rows.specs.SameCells.{same_cells}
use Rattle.sweep_laws.specs.Running.{start_part, begun_at}
use Rattle.sweep_laws.specs.Grouping.{StartsTold}
use Rattle.sweep_laws.proofs.RunOrder.{starts_order}
use Rattle.sweep_laws.proofs.Passing.{starts_more}
use Rattle.snapshot_agg.specs.Touching.{edge_of_key}
use Rattle.snapshot_agg.specs.Totaled.{run_of, Reruns}
use Rattle.std.proofs.lemmas.List.{take_all}
use Rattle.snapshot_agg.proofs.Totaling.{keys_tell}
use Rattle.snapshot_agg.proofs.Touching.{few_edges, edge_at, row_here}
use Rattle.snapshot_agg.proofs.passes.emit_starts.Goals as goal

pub bounds-rows-i : goal.bounds-rows-i
bounds-rows-i c = let t = c.loop-i-test.true in let l = c.requires.long in omega (arith, t, l)

pub loop-i-preserved : goal.loop-i-preserved
loop-i-preserved c =
    let ks = c.args.keys.now in
    let i = c.loop-i.i in
    let k = c.index-keys-i.result in
    let x = c.index-rows-i.result in
    let es = map edge_of_key ks in
    let n = few_edges ks in
    let run1 = run_of c.loop-i.running in
    let low = c.loop-i-test.true in
    record {
      told = λ row same.
          let e = row_here ks c.args.rows.now row i k x low c.index-keys-i.is c.index-rows-i.is same in
          let p : c.start_key.new.answer.items ≡ c.loop-i.answer.items ++ start_part c.args.t (row k) (run1 k) = c.in_ok-start_key.ensures.pushed ∙ ap (λ o. c.loop-i.answer.items ++ start_part c.args.t o (run1 k)) e in
          let m : Reruns c.loop-i.running c.start_key.new.running k (begun_at c.args.t (row k) (run1 k)) = subst (λ o. Reruns c.loop-i.running c.start_key.new.running k (begun_at c.args.t o (run1 k))) e c.in_ok-start_key.ensures.run in
          starts_more (λ k. k) same_cells keys_tell c.args.t es i (edge_of_key k) row
          (run_of c.args.running.now) run1 (run_of c.start_key.new.running) c.args.answer.now.items c.loop-i.answer.items c.start_key.new.answer.items
          (omega (arith, n, low)) (edge_at ks i k c.index-keys-i.is) p m (c.loop-i.invariant.told row same);
      order = λ mid up. starts_order c.args.t x (run1 k) c.loop-i.answer.items c.start_key.new.answer.items mid c.in_ok-start_key.ensures.pushed (c.loop-i.invariant.order mid up);
    }

pub returns-clause-told : goal.returns-clause-told
returns-clause-told c = λ row same.
    let es = map edge_of_key c.args.keys.now in
    let n = few_edges c.args.keys.now in
    subst (λ l. StartsTold (λ k. k) same_cells c.args.t l row (run_of c.args.running.now) (run_of c.loop-i.running) c.args.answer.now.items c.loop-i.answer.items)
    (take_all c.loop-i.i es (let z = c.loop-i-test.false in omega (arith, n, z))) (c.loop-i.invariant.told row same)
