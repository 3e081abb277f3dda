use Rattle.std.proofs.Common.{◌≡◌, ◌+◌, ◌++◌, [], ◌∙◌, cond, nat_lt, length, refl, ap, arith}
use Rattle.std.specs.Option.{is_some, option_to_list}
use Rattle.ingress.specs.Slices.{count_below}
use Rattle.ingress.proofs.SliceEnds.{counts_rise}
use Rattle.ingress.proofs.list_slices.room_left.Goals as goal

pub edges-init : goal.edges-init
edges-init c =
    let a = ap (λ u. count_below c.args.to u.edges) c.cursor-cursor.ensures.cursor in
    let b = ap (λ u. count_below c.args.from u.edges) c.cursor-cursor.ensures.cursor in
    omega (arith, a, b)

pub edges-preserved : goal.edges-preserved
edges-preserved c =
    let is = c.in_ok-edge.ensures.edges ∙ ap (λ o. option_to_list o ++ c.next.new.self.edges) c.in-Some.is in
    let a : count_below c.args.to c.edges.cursor.edges ≡ cond (nat_lt c.in-Some.edge.sync c.args.to) 1 0 + count_below c.args.to c.next.new.self.edges = ap (count_below c.args.to) is in
    let b : count_below c.args.from c.edges.cursor.edges ≡ cond (nat_lt c.in-Some.edge.sync c.args.from) 1 0 + count_below c.args.from c.next.new.self.edges =
    ap (count_below c.args.from) is in
    let h = c.edges.invariant in
    let k = c.in-Some-room_behind.ensures.some in
    omega (arith, a, b, h, k)

pub edges-smaller : goal.edges-smaller
edges-smaller c =
    let is = c.in_ok-edge.ensures.edges ∙ ap (λ o. option_to_list o ++ c.next.new.self.edges) c.in-Some.is in
    let n = ap length is in
    omega (arith, n)

pub returns-clause-some : goal.returns-clause-some
returns-clause-some c =
    let end : c.edges.cursor.edges ≡ [] = c.in_ok-edge.ensures.end.0 (ap is_some c.in_default.is) in
    let a = ap (count_below c.args.to) end in
    let b = ap (count_below c.args.from) end in
    let h = c.edges.invariant in
    omega (arith, a, b, h)

pub returns-in-None-clause-none : goal.returns-in-None-clause-none
returns-in-None-clause-none c = λ _.
    let is = c.in_ok-edge.ensures.edges ∙ ap (λ o. option_to_list o ++ c.next.new.self.edges) c.in-Some.is in
    let a : count_below c.args.to c.edges.cursor.edges ≡ cond (nat_lt c.in-Some.edge.sync c.args.to) 1 0 + count_below c.args.to c.next.new.self.edges = ap (count_below c.args.to) is in
    let b : count_below c.args.from c.edges.cursor.edges ≡ cond (nat_lt c.in-Some.edge.sync c.args.from) 1 0 + count_below c.args.from c.next.new.self.edges =
    ap (count_below c.args.from) is in
    let h = c.edges.invariant in
    let k = c.in-None.ensures.none refl in
    let r = counts_rise c.args.from c.args.to c.next.new.self.edges c.requires in
    omega (arith, a, b, h, k, r)
