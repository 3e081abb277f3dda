use Rattle.std.specs.Prelude.{◌≡◌, min, []}
use Rattle.std.specs.Option.{is_some, option_to_list}
use Rattle.std.proofs.Common.{◌++◌, refl, sym, ◌∙◌, ap, subst, arith, rules}
use Rattle.std.proofs.lemmas.List.Elements.{All-head, All-tail}
use Rattle.tw_rows.specs.Cells.{ArePlaced}
use Rattle.tw_rows.specs.declared.edge.Edge.{Edge}
use Rattle.edge_history.specs.History.{of}
use Rattle.plan_laws.specs.Places.{EdgesArePlaced}
use Rattle.plan_laws.proofs.Standing.{of_valid}
use Rattle.egress.proofs.TakingOne.{Takes, takes_first, takes_next, takes_last}
use Rattle.egress.proofs.egress.Egress.take_edges.Goals as goal

pub loop-edge-init : goal.loop-edge-init
loop-edge-init c =
    let all : c.args.edges.now.edges ≡ c.cursor-cursor.result.edges = sym (ap (λ v. v.edges) c.cursor-cursor.ensures.cursor) in
    record {
      kinds = refl;
      failed = refl;
      placed = c.requires.waiting;
      edges = subst (EdgesArePlaced c.args.texts.now) all c.requires.placed;
      taken = λ h a start holds whole from low.
          subst (λ l. Takes c.args.texts.now h a c.args.to c.args.edges.now.edges l c.args.self.now) all
          (takes_first c.args.texts.now h a c.args.to c.args.edges.now.edges start c.args.self.now holds from low);
    }

pub take_one-requires : goal.take_one-requires
take_one-requires c =
    let is = c.in_ok-edge.ensures.edges ∙ ap (λ o. option_to_list o ++ c.next.new.self.edges) c.in-Some.is in
    record {
      placed = All-head (λ (e : Edge). ArePlaced c.args.texts.now e.cells) c.in-Some.edge c.next.new.self.edges (subst (EdgesArePlaced c.args.texts.now) is c.loop-edge.invariant.edges);
      waiting = c.loop-edge.invariant.placed;
    }

pub loop-edge-preserved : goal.loop-edge-preserved
loop-edge-preserved c =
    let is = c.in_ok-edge.ensures.edges ∙ ap (λ o. option_to_list o ++ c.next.new.self.edges) c.in-Some.is in
    let due : c.min-due.result ≡ min c.in-Some.edge.sync c.args.to = search rules in
    record {
      kinds = c.in_ok-take_one.ensures.kinds ∙ c.loop-edge.invariant.kinds;
      failed = c.in_ok-take_one.ensures.failed ∙ c.loop-edge.invariant.failed;
      placed = c.in_ok-take_one.ensures.placed;
      edges = All-tail (λ (e : Edge). ArePlaced c.args.texts.now e.cells) c.in-Some.edge c.next.new.self.edges (subst (EdgesArePlaced c.args.texts.now) is c.loop-edge.invariant.edges);
      taken = λ h a start holds whole from low.
          takes_next c.args.texts.now h a c.args.to c.args.edges.now.edges c.loop-edge.self c.take_one.new.self c.in-Some.edge c.loop-edge.cursor.edges c.next.new.self.edges c.min-due.result
          is whole (omega (arith, due)) (omega (arith, due)) (λ k one two. omega (arith, due, one, two)) c.in_ok-take_one.ensures.holds
          (c.loop-edge.invariant.taken h a start holds whole from low);
    }

pub returns-clause-holds : goal.returns-clause-holds
returns-clause-holds c = λ h a start holds whole from low.
    let all = h ++ c.args.edges.now.edges in
    let t = c.loop-edge.invariant.taken h a start holds whole from low in
    let none : c.loop-edge.cursor.edges ≡ [] = c.in_ok-edge.ensures.end.0 (ap is_some c.in_default.is) in
    let last = takes_last c.args.texts.now h a c.args.to c.args.edges.now.edges c.loop-edge.self c.loop-edge.cursor.edges none t in
    let is = c.in_ok-show_due.ensures.shown in
    record {
      high = is.within;
      history = whole;
      swept = is.swept (of all) a t.at (of_valid all whole) t.low last.swept;
      cells = λ p none. is.passed p (last.cells p none);
      kept = is.kept last.kept;
    }
