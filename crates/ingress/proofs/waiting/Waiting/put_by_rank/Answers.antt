use Rattle.std.specs.Prelude.{◌∷◌, ◌++◌}
use Rattle.std.proofs.Common.{subst}
use Rattle.tw_rows.specs.Bag.{SameBag}
use Rattle.ingress.specs.Held.{edge_with}
use Rattle.ingress.proofs.Merged.{ok_maps, other_bag}
use Rattle.ingress.proofs.waiting.Waiting.put_by_rank.Goals as goal

pub returns-clause-ok : goal.returns-clause-ok
returns-clause-ok c =
    let all = c.self.inside.queue.edges ++ c.put.new.self in
    let edge = edge_with c.args.sync c.args.other c.in_ok-own.own in
    ok_maps c.put.result _ _
    (λ added. subst (λ cells. SameBag all (edge_with c.args.sync c.args.other cells ∷ c.args.self.now)) c.in_ok-own.ensures.ok
    (subst (λ l. SameBag all (edge ∷ l)) c.self.view_is (other_bag c.self.inside.queue.edges c.self.inside.others edge c.put.new.self added)))
    c.put.ensures.ok
