use Rattle.std.proofs.Common.{ℕ, sym, ◌∙◌, ap, arith, cond}
use Rattle.tw_rows.proofs.Fronts.{total_more}
use Rattle.sweep_laws.specs.Sweeps.{is_at}
use Rattle.sweep_sides.proofs.Cutting.{no_not}
use Rattle.sweep_sides.proofs.instants.first_instant.Goals as goal

pub loop-i-preserved : goal.loop-i-preserved
loop-i-preserved c =
    let x = c.index-rest-i.result in
    let a = total_more (λ y. cond {A = ℕ} (is_at c.args.t y) 0 1) c.args.rest.now c.loop-i.i x c.loop-i-test.true in
    let e = no_not _ (sym c.ne.ensures ∙ c.if-ne.false) in
    let z = ap (λ b. cond {A = ℕ} b 0 1) e in
    let i = c.loop-i.invariant in
    omega (arith, a, z, i)
