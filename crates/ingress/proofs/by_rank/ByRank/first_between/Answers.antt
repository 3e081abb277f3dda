use Rattle.std.specs.Prelude.{◌≡◌, ◌*◌, ◌++◌, ◌∷◌, filter, drop}
use Rattle.std.proofs.Common.{◌∙◌, ap, sym, subst, arith}
use Rattle.edge_history.specs.Order.{Rises}
use Rattle.ingress.specs.Ranks.{edges_at, is_between}
use Rattle.ingress.proofs.Ranked.{in_order}
use Rattle.ingress.proofs.Merged.{between_rises}
use Rattle.ingress.proofs.Below.{between_found, first_within, first_none, first_some, none_in, first_item, no_first}
use Rattle.ingress.proofs.by_rank.ByRank.first_between.Goals as goal

pub loop-edges-init : goal.loop-edges-init
loop-edges-init c =
    between_found c.args.from c.args.to c.end_rank.result c.end_rank-2.result c.self.inside.ranks.entries c.args.self.now c.self.view_is c.self.invariant c.end_rank.ensures.rank c.end_rank-2.ensures.rank
    (edges_at c.into_iter-edges-iterator.result) (ap edges_at (c.into_iter-edges-iterator.ensures.into_iter_gives ∙ c.range-edges-items.ensures.between tt))

pub loop-edges-preserved : goal.loop-edges-preserved
loop-edges-preserved c =
    let next = edges_at c.next.new.self in
    c.loop-edges.invariant ∙ ap edges_at c.in-Some.ensures.steps ∙ ap (λ x. x ++ next) (sym c.deref.ensures.value ∙ no_first c.deref.result.now c.in_default.ensures.value)

pub returns-in-Some-first-clause-within : goal.returns-in-Some-first-clause-within
returns-in-Some-first-clause-within c =
    let next = edges_at c.next.new.self in
    let es = c.args.self.now in
    let e = c.in-Some-first.edge.now in
    let rest = drop 1 c.deref.result.now ++ next in
    let are : filter (is_between (2 * c.args.from) (2 * c.args.to)) es ≡ e ∷ rest =
    c.loop-edges.invariant ∙ ap edges_at c.in-Some.ensures.steps ∙ ap (λ x. x ++ next) (sym c.deref.ensures.value ∙ first_item c.deref.result.now e c.in-Some-first.ensures.value) in
    let rises = subst (Rises (2 * c.args.from)) are
    (between_rises (2 * c.args.from) (2 * c.args.to) es (in_order c.self.inside.ranks.entries es c.self.view_is c.self.invariant)) in
    let w = first_within c.args.from c.args.to es e rest are rises in
    (w.0, (let k = w.1 in omega (arith, k)))

pub returns-in-Some-first-clause-none : goal.returns-in-Some-first-clause-none
returns-in-Some-first-clause-none c =
    let next = edges_at c.next.new.self in
    let es = c.args.self.now in
    let e = c.in-Some-first.edge.now in
    let rest = drop 1 c.deref.result.now ++ next in
    let are : filter (is_between (2 * c.args.from) (2 * c.args.to)) es ≡ e ∷ rest =
    c.loop-edges.invariant ∙ ap edges_at c.in-Some.ensures.steps ∙ ap (λ x. x ++ next) (sym c.deref.ensures.value ∙ first_item c.deref.result.now e c.in-Some-first.ensures.value) in
    let rises = subst (Rises (2 * c.args.from)) are
    (between_rises (2 * c.args.from) (2 * c.args.to) es (in_order c.self.inside.ranks.entries es c.self.view_is c.self.invariant)) in
    first_none c.args.from c.args.to es e rest are rises

pub returns-in-Some-first-clause-some : goal.returns-in-Some-first-clause-some
returns-in-Some-first-clause-some c = λ _.
    let next = edges_at c.next.new.self in
    let es = c.args.self.now in
    let e = c.in-Some-first.edge.now in
    let rest = drop 1 c.deref.result.now ++ next in
    let are : filter (is_between (2 * c.args.from) (2 * c.args.to)) es ≡ e ∷ rest =
    c.loop-edges.invariant ∙ ap edges_at c.in-Some.ensures.steps ∙ ap (λ x. x ++ next) (sym c.deref.ensures.value ∙ first_item c.deref.result.now e c.in-Some-first.ensures.value) in
    let rises = subst (Rises (2 * c.args.from)) are
    (between_rises (2 * c.args.from) (2 * c.args.to) es (in_order c.self.inside.ranks.entries es c.self.view_is c.self.invariant)) in
    first_some c.args.from c.args.to es e rest are rises

pub returns-clause-none : goal.returns-clause-none
returns-clause-none c = let e = ap edges_at c.in-None.ensures.steps.0 in
    none_in c.args.from c.args.to c.args.self.now c.requires (c.loop-edges.invariant ∙ e)
