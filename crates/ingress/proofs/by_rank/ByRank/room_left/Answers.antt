use Rattle.std.proofs.Common.{◌∙◌, ap, length, arith}
use Rattle.std.proofs.lemmas.List.{length-append}
use Rattle.ingress.specs.Ranks.{edges_at}
use Rattle.ingress.proofs.Below.{between_found, between_length}
use Rattle.ingress.proofs.by_rank.ByRank.room_left.Goals as goal

pub loop-edges-init : goal.loop-edges-init
loop-edges-init c =
    let found = between_found c.args.from c.args.to c.end_rank.result c.end_rank-2.result c.self.inside.ranks.entries c.args.self.now c.self.view_is c.self.invariant c.end_rank.ensures.rank c.end_rank-2.ensures.rank
    (edges_at c.into_iter-edges-iterator.result) (ap edges_at (c.into_iter-edges-iterator.ensures.into_iter_gives ∙ c.range-edges-items.ensures.between tt)) in
    let l = ap length found in
    omega (arith, l)

pub loop-edges-preserved : goal.loop-edges-preserved
loop-edges-preserved c =
    let l = ap (λ it. length (edges_at it)) c.in-Some.ensures.steps in
    let a = length-append c.in-Some.edges.now.items (edges_at c.next.new.self) in
    let n = c.len.ensures in
    let k = c.in-Some.edges.now.ok in
    let s = c.in_ok-rest.ensures in
    let h = c.loop-edges.invariant in
    omega (arith, l, a, n, k, s.0, s.1, h)

pub returns-in_err-rest-clause-none : goal.returns-in_err-rest-clause-none
returns-in_err-rest-clause-none c = λ _.
    let l = ap (λ it. length (edges_at it)) c.in-Some.ensures.steps in
    let a = length-append c.in-Some.edges.now.items (edges_at c.next.new.self) in
    let n = c.len.ensures in
    let k = c.in-Some.edges.now.ok in
    let s = c.in_err-rest.ensures in
    let h = c.loop-edges.invariant in
    let b = between_length c.args.from c.args.to c.args.self.now c.requires in
    omega (arith, l, a, n, k, s, h, b)

pub returns-clause-some : goal.returns-clause-some
returns-clause-some c =
    let n = between_length c.args.from c.args.to c.args.self.now c.requires in
    let e = ap (λ it. length (edges_at it)) c.in-None.ensures.steps.0 in
    let h = c.loop-edges.invariant in
    omega (arith, n, e, h)
