use Rattle.std.specs.Prelude.{◌≡◌, suc, ◌+◌, ◌∷◌, slice_set}
use Rattle.std.proofs.Common.{subst, arith}
use Rattle.snapshot_agg.specs.States.{IsStateOf}
use Rattle.snapshot_agg.proofs.Kept.{AreMixed, mixed_at, mixed_set, mixed_end}
use Rattle.snapshot_agg.proofs.totals.add_all.Goals as goal

pub add-requires : goal.add-requires
add-requires c =
    let r = c.requires in
    let m = mixed_at c.loop-state.state-index c.loop-state.states r.0 (c.args.cells.now ∷ r.1) r.1 c.state-item.result (omega arith) (c.loop-state.invariant r.0 r.1 r.2) c.state-item.is in
    (m.0, r.1, subst (λ y. IsStateOf y m.0 r.1) c.state-item.is m.1, r.3)

pub loop-state-preserved : goal.loop-state-preserved
loop-state-preserved c = λ aggs rows h.
    let i = c.loop-state.state-index in
    subst (λ n. AreMixed n (slice_set c.loop-state.states i c.add.new.self) aggs (c.args.cells.now ∷ rows) rows) (let e : suc i ≡ i + 1 = omega arith in e)
    (mixed_set i c.loop-state.states aggs (c.args.cells.now ∷ rows) rows c.state-item.result c.add.new.self (omega arith) c.state-item.is
    (λ a k. c.in_ok-add.ensures a rows (subst (λ y. IsStateOf y a rows) c.state-item.is k)) (c.loop-state.invariant aggs rows h))

pub returns : goal.returns
returns c = λ aggs rows h. mixed_end c.loop-state.state-index c.loop-state.states aggs (c.args.cells.now ∷ rows) rows (let z = c.loop-state-test.false in omega (arith, z)) (c.loop-state.invariant aggs rows h)
