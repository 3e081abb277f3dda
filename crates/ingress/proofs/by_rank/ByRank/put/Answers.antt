use Rattle.std.proofs.Common.{sym, ◌∙◌, ap, subst}
use Rattle.tw_rows.specs.Bag.{SameBag}
use Rattle.std.specs.BTreeMap.{insert_entry}
use Rattle.std.specs.Ordering.{nat_cmp}
use Rattle.std.specs.Prelude.{◌∷◌}
use Rattle.ingress.specs.Ranks.{edges_at}
use Rattle.ingress.proofs.Ranked.{always, same_ranked, same_edges, put_ranked, put_edges, new_ranked, new_edges}
use Rattle.ingress.proofs.by_rank.ByRank.put.Goals as goal

pub invariant_of-self : goal.invariant_of-self
invariant_of-self c =
    same_ranked c.rank_of-rank.result c.self.inside.ranks.entries (c.get_mut.follows.lender c.push.new.self).entries c.in-Some.edges.now c.push.new.self c.self.invariant
    c.in-Some.ensures.value (c.get_mut.follows.holds c.push.new.self).0 c.in_err-push.ensures.items

pub returns-in_err-push-clause-err : goal.returns-in_err-push-clause-err
returns-in_err-push-clause-err c = always c.from_residual.result _ (
    same_edges c.rank_of-rank.result c.self.inside.ranks.entries (c.get_mut.follows.lender c.push.new.self).entries c.in-Some.edges.now c.push.new.self c.self.invariant
    c.in-Some.ensures.value (c.get_mut.follows.holds c.push.new.self).0 c.in_err-push.ensures.items
    ∙ c.self.view_is)

pub invariant_of-self-in-Some : goal.invariant_of-self-in-Some
invariant_of-self-in-Some c =
    put_ranked c.rank_of-rank.result c.self.inside.ranks.entries (c.get_mut.follows.lender c.push.new.self).entries c.in-Some.edges.now c.push.new.self c.self.invariant
    c.in-Some.ensures.value (c.get_mut.follows.holds c.push.new.self).0 c.args.edge (sym c.rank_of-rank.ensures) c.in_ok-push.ensures.items

pub returns-in-Some-clause-ok : goal.returns-in-Some-clause-ok
returns-in-Some-clause-ok c =
    subst (λ l. SameBag (edges_at (c.get_mut.follows.lender c.push.new.self).entries) (c.args.edge ∷ l)) c.self.view_is
    (put_edges c.rank_of-rank.result c.self.inside.ranks.entries (c.get_mut.follows.lender c.push.new.self).entries c.in-Some.edges.now c.push.new.self c.self.invariant
    c.in-Some.ensures.value (c.get_mut.follows.holds c.push.new.self).0 c.args.edge c.in_ok-push.ensures.items)

pub invariant_of-self-2 : goal.invariant_of-self-2
invariant_of-self-2 c =
    new_ranked c.rank_of-rank.result c.self.inside.ranks.entries c.insert.new.self.entries c.in_ok-edges.edges c.push-2.new.self c.self.invariant
    c.args.edge (sym c.rank_of-rank.ensures) c.in_ok-edges.ensures.items c.in_ok-push-2.ensures.items
    (c.in_ok-insert.ensures.entries ∙ ap (λ m. insert_entry nat_cmp m.entries c.rank_of-rank.result c.push-2.new.self) c.get_mut.follows.holds-at-none)

pub returns-clause-ok : goal.returns-clause-ok
returns-clause-ok c =
    subst (λ l. SameBag (edges_at c.insert.new.self.entries) (c.args.edge ∷ l)) c.self.view_is
    (new_edges c.rank_of-rank.result c.self.inside.ranks.entries c.insert.new.self.entries c.in_ok-edges.edges c.push-2.new.self c.self.invariant
    c.args.edge (sym c.rank_of-rank.ensures) c.in_ok-edges.ensures.items c.in_ok-push-2.ensures.items
    (c.in_ok-insert.ensures.entries ∙ ap (λ m. insert_entry nat_cmp m.entries c.rank_of-rank.result c.push-2.new.self) c.get_mut.follows.holds-at-none)
    (sym c.in_default.ensures.value))
