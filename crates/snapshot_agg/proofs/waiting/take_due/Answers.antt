use Rattle.std.specs.Prelude.{◌≡◌, ℕ, [], ◌∷◌, List, map, cond, All, refl}
use Rattle.std.proofs.Common.{◌∙◌, sym, ap, subst, arith, rules}
use Rattle.std.proofs.lemmas.List.Elements.{All-nil, All-cons, All-same}
use Rattle.std.proofs.lemmas.Grind.{common_steps}
use Rattle.tw_rows.specs.Bag.{total}
use Rattle.tw_rows.specs.Cells.{datum_kind}
use Rattle.tw_rows.specs.declared.edge.Edge.{Edge}
use Rattle.edge_history.specs.Opens.{singles}
use Rattle.edge_history.specs.Order.{failing, is_below}
use Rattle.sweep_sides.proofs.TakenIn.{singles_next}
use Rattle.snapshot_agg.proofs.waiting.take_due.Goals as goal

pub loop-due-preserved : goal.loop-due-preserved
loop-due-preserved c =
    let s : c.loop-due.cursor.edges ≡ c.in-Some.edge ∷ c.next.new.self.edges = search rules in
    let k : map datum_kind c.in-Some.edge.cells ≡ c.loop-due.cursor.kinds = search rules in
    record {
      own = c.in_ok-place_singles.ensures.own c.in_ok-passed.ensures.own;
      parts = λ w.
          let a = singles_next w c.in-Some.edge c.loop-due.cursor.edges c.next.new.self.edges s in
          let b = c.in_ok-place_singles.ensures.parts w in
          let p = c.in_ok-passed.ensures.parts w in
          let i = c.loop-due.invariant.parts w in
          omega (arith, a, b, p, i);
      kinds = c.next.ensures.kinds ∙ c.loop-due.invariant.kinds;
      cells = λ h. c.loop-due.invariant.cells
          (subst (λ (l : List Edge). All (λ e. map datum_kind e.cells ≡ c.args.cursor.now.kinds) l) (sym s)
          (All-cons (λ (e : Edge). map datum_kind e.cells ≡ c.args.cursor.now.kinds) c.in-Some.edge c.next.new.self.edges (k ∙ c.loop-due.invariant.kinds) h));
      below = c.in_ok-place_singles.ensures.below (c.in_ok-passed.ensures.below c.loop-due.invariant.below);
    }

pub returns-clause-parts : goal.returns-clause-parts
returns-clause-parts c = λ w.
    let b = c.in_ok-put_in_order.ensures.same.weigh w in
    let p = c.in_ok-pop_all.ensures.parts w in
    let i = c.loop-due.invariant.parts w in
    let none : c.loop-due.cursor.edges ≡ [] = first_of (search rules, grind (arith, common_steps)) in
    let z = ap (λ (l : List Edge). total w (singles l)) none in
    omega (arith, b, p, i, z)

pub returns-clause-below : goal.returns-clause-below
returns-clause-below c =
    let f : Edge → ℕ = λ e. cond (is_below c.args.to e) 0 1 in
    let b = c.in_ok-put_in_order.ensures.same.weigh f in
    let p = c.in_ok-pop_all.ensures.below c.args.to (omega arith) c.loop-due.invariant.below in
    omega (arith, b, p)

pub loop-due-init : goal.loop-due-init
loop-due-init c =
    record {
      own = c.requires.own;
      parts = λ w.
          let b = ap (λ (l : List Edge). total w l) c.in_ok-due.ensures.items in
          omega (arith, b);
      below = ap (failing (is_below c.args.to)) c.in_ok-due.ensures.items;
      kinds = refl;
      cells = λ h. h;
    }

pub returns-clause-cells : goal.returns-clause-cells
returns-clause-cells c =
    let none : c.loop-due.cursor.edges ≡ [] = first_of (search rules, grind (arith, common_steps)) in
    c.loop-due.invariant.cells (All-same (λ (e : Edge). map datum_kind e.cells ≡ c.args.cursor.now.kinds) c.loop-due.cursor.edges [] none (All-nil (λ (e : Edge). map datum_kind e.cells ≡ c.args.cursor.now.kinds)))
