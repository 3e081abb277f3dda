use Rattle.std.specs.Prelude.{◌≡◌, refl}
use Rattle.std.proofs.Common.{subst, arith}
use Rattle.edge_history.specs.Order.{failing, is_from}
use Rattle.snapshot_agg.proofs.Living.{all_from}
use Rattle.snapshot_agg.proofs.lives.Lives.next_end.Goals as goal

pub returns-in-Some-clause-from : goal.returns-in-Some-clause-from
returns-in-Some-clause-from c =
    let q = c.self.inside.ends in
    let x = c.in-Some.end.now in
    let some = c.in-Some.ensures.variant.0 refl in
    subst (λ v. failing (is_from x.sync) v.rows.ends ≡ 0) c.self.view_is
    (all_from q.items x (let ok = q.ok in omega (arith, some, ok)) c.in-Some.ensures.lookup c.self.invariant.0)
