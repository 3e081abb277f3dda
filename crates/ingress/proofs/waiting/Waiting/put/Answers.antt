use Rattle.std.specs.Prelude.{◌∷◌, ◌++◌}
use Rattle.std.proofs.Common.{ap, subst}
use Rattle.tw_rows.specs.Bag.{SameBag}
use Rattle.ingress.specs.Held.{edge_with}
use Rattle.ingress.proofs.Fitting.{pools_put}
use Rattle.ingress.proofs.Merged.{ok_maps, last_bag}
use Rattle.ingress.proofs.waiting.Waiting.put.Goals as goal

pub returns-then-goes_last-clause-ok : goal.returns-then-goes_last-clause-ok
returns-then-goes_last-clause-ok c =
    let edge = edge_with c.args.sync c.args.other c.args.cells.now in
    ok_maps c.append_cells.result _ _
    (λ is. subst (λ l. SameBag (c.append_cells.new.self.edges ++ c.self.inside.others) (edge ∷ l)) c.self.view_is
    (last_bag c.self.inside.queue.edges c.self.inside.others edge c.append_cells.new.self.edges (ap (λ v. v.edges) is)))
    c.append_cells.ensures.ok

pub returns-then-goes_last-clause-pools : goal.returns-then-goes_last-clause-pools
returns-then-goes_last-clause-pools c = pools_put c.append_cells.result c.args.pools.now c.append_cells.new.pools c.self.inside.queue c.append_cells.ensures.pools c.append_cells.ensures.err_pools
