use Rattle.std.proofs.Common.{◌∙◌, ◌<◌, ◌≤◌, length, sym, ap, subst, arith}
use Rattle.std.specs.Prelude.{All, filter}
use Rattle.std.specs.List.{list_all}
use Rattle.std.proofs.lemmas.List.{drop_all}
use Rattle.std.proofs.lemmas.List.Elements.{All-drop}
use Rattle.edge_history.specs.Order.{Rises, is_from}
use Rattle.edge_stream.specs.Listing.{IsOf, edges_in}
use Rattle.edge_stream.proofs.Passing.{rises_in, rises_later, later_in}
use Rattle.edge_stream.proofs.Gone.{front_gone}
use Rattle.edge_stream.proofs.rest.remove_below.Goals as goal
use Rattle.edge_stream.proofs.rest.remove_below.Goals.{then-whole-test+else-is_passed, else-whole-test}

pub whole-preserved-then-is_passed : goal.whole-preserved-then-is_passed
whole-preserved-then-is_passed c =
    let bs = c.whole.batches in
    let inv = c.whole.invariant in
    let b = c.index.result.now in
    let lt : 0 < length bs.items = omega (arith, c.whole-test.true, c.len.ensures, bs.ok.0) in
    let low = sym (c.is_passed.ensures (rises_in bs.items 0 b lt c.index.ensures inv.rises)) ∙ c.if-is_passed.true in
    let rest = c.pop_front.ensures.rest in
    record {
      edges = ap (λ xs. filter (is_from c.args.t) (edges_in xs)) rest ∙ front_gone c.args.t bs.items b lt c.index.ensures low ∙ inv.edges;
      rises = subst (λ xs. Rises 0 (edges_in xs)) (sym rest) (rises_later bs.items 0 b lt c.index.ensures inv.rises);
      alike = λ kinds capacity all. subst (All (IsOf kinds capacity)) (sym rest) (All-drop (IsOf kinds capacity) 1 bs.items (inv.alike kinds capacity all));
    }

pub remove_front-requires-clause-from : goal.remove_front-requires-clause-from
remove_front-requires-clause-from c =
    let bs = c.whole.batches in
    let inv = c.whole.invariant in
    elim c.whole-test.branch [
      | then-whole-test+else-is_passed w ↦
          let b = w.index.result.now in
          let lt : 0 < length bs.items = omega (arith, w.whole-test.true, c.len.ensures, bs.ok.0) in
          let some = sym (w.is_passed.ensures (rises_in bs.items 0 b lt w.index.ensures inv.rises)) ∙ w.if-is_passed.false in
          later_in bs.items 0 b lt w.index.ensures inv.rises c.args.t some
      | else-whole-test w ↦
          let few : length bs.items ≤ 1 = omega (arith, w.whole-test.false, c.len.ensures, bs.ok.0) in
          ap (λ xs. list_all (is_from c.args.t) (edges_in xs)) (drop_all 1 bs.items few)
    ]

pub returns-clause-alike : goal.returns-clause-alike
returns-clause-alike c kinds capacity all = c.remove_front.ensures.alike kinds capacity (c.whole.invariant.alike kinds capacity all)
