use Rattle.std.specs.Prelude.{◌≡◌, ◌<◌, length, cond, [], ◌∷◌, map, All, List}
use Rattle.std.proofs.Common.{◌∙◌, sym, ap, subst, arith, rules}
use Rattle.std.proofs.lemmas.Grind.{common_steps}
use Rattle.tw_rows.specs.Bag.{total}
use Rattle.edge_history.specs.Opens.{singles}
use Rattle.edge_history.specs.Order.{failing, is_below}
use Rattle.std.proofs.lemmas.List.Elements.{All-nil, All-cons, All-same}
use Rattle.tw_rows.specs.Cells.{datum_kind}
use Rattle.tw_rows.specs.declared.edge.Edge.{Edge}
use Rattle.edge_stream.specs.Listing.{cells_of}
use Rattle.sweep_sides.specs.declared.endings.Ending.{Ending}
use Rattle.sweep_sides.specs.Ends.{ends_of}
use Rattle.sweep_sides.proofs.TakenIn.{singles_next, same_below}
use Rattle.sweep_sides.proofs.taking.take_into.Goals as goal

pub loop-ends-preserved : goal.loop-ends-preserved
loop-ends-preserved c =
    let s : c.loop-ends.cursor.edges ≡ c.in-Some.edge ∷ c.next.new.self.edges = search rules in
    let k : map datum_kind c.in-Some.edge.cells ≡ c.loop-ends.cursor.kinds = search rules in
    record {
      starts = c.in_ok-take_edge.ensures.starts;
      parts = λ w.
          let a = singles_next w c.in-Some.edge c.loop-ends.cursor.edges c.next.new.self.edges s in
          let b = c.in_ok-take_edge.ensures.parts w in
          let i = c.loop-ends.invariant.parts w in
          omega (arith, a, b, i);
      early = λ t. c.in_ok-take_edge.ensures.early (c.loop-ends.invariant.early t);
      timed = λ t. c.in_ok-take_edge.ensures.timed (c.loop-ends.invariant.timed t);
      kinds = c.next.ensures.kinds ∙ c.loop-ends.invariant.kinds;
      cells = λ h. c.loop-ends.invariant.cells
          (subst (λ (l : List Edge). All (λ e. map datum_kind e.cells ≡ cells_of c.args.edges.now) l) (sym s)
          (All-cons (λ (e : Edge). map datum_kind e.cells ≡ cells_of c.args.edges.now) c.in-Some.edge c.next.new.self.edges (k ∙ c.loop-ends.invariant.kinds) h));
    }

pub returns-clause-parts : goal.returns-clause-parts
returns-clause-parts c = λ w.
    let a = c.in_ok-pop_before.ensures.parts w in
    let b = c.in_ok-by_sync.ensures.same.weigh w in
    let d = c.in_ok-release_all.ensures w in
    let i = c.loop-ends.invariant.parts w in
    let none : c.loop-ends.cursor.edges ≡ [] = first_of (search rules, grind (arith, common_steps)) in
    let z = ap (λ (l : List Edge). total w (singles l)) none in
    omega (arith, a, b, d, i, z)

pub returns-clause-below : goal.returns-clause-below
returns-clause-below c = λ t.
    let d = c.in_ok-release_all.ensures (λ e. cond (is_below c.args.to e) 0 1) in
    let e = c.loop-ends.invariant.early t in
    let a = c.in_ok-pop_before.ensures.early c.args.to (omega arith) (c.loop-ends.invariant.timed t) (omega (arith, d, e)) in
    same_below c.args.to c.pop_before.new.due.items c.by_sync.new.edges.items c.in_ok-by_sync.ensures.same a

pub loop-ends-init : goal.loop-ends-init
loop-ends-init c =
    let k = c.cursor-cursor.ensures.cursor in
    let n = c.in_ok-ends.ensures in
    record {
      starts = All-same (λ (p : Ending). p.start < length c.reserve.new.self.items) c.in_ok-ends.ends [] n (All-nil (λ (p : Ending). p.start < length c.reserve.new.self.items));
      parts = λ w.
          let a = c.in_ok-waited.ensures.parts w in
          let b = ap (λ (l : List Edge). total w l) (c.reserve.ensures.items ∙ c.clear.ensures.items) in
          let e = ap (λ l. total w (ends_of c.reserve.new.self.items l)) n in
          let d = ap (λ u. total w (singles u.edges)) k in
          omega (arith, a, b, d, e);
      early = λ t.
          let a = c.in_ok-waited.ensures.early t in
          let b = ap (failing (is_below c.args.to)) (c.reserve.ensures.items ∙ c.clear.ensures.items) in
          let e = ap (λ l. failing (is_below c.args.to) (ends_of c.reserve.new.self.items l)) n in
          omega (arith, a, b, e);
      timed = c.in_ok-waited.ensures.timed;
      kinds = ap (λ u. u.kinds) k;
      cells = λ h. subst (λ (l : List Edge). All (λ e. map datum_kind e.cells ≡ cells_of c.args.edges.now) l) (ap (λ u. u.edges) k) h;
    }
