use Rattle.std.proofs.Common.{◌≡◌, ◌+◌, ◌∙◌, ◌∷◌, [], get_or, arith, sym, subst, refl}
use Rattle.std.proofs.lemmas.List.{drop-set-lt}
use Rattle.tw_rows.specs.declared.edge.Edge.{Edge}
use Rattle.sweep_sides.proofs.Overwriting.{rest_past}
use Rattle.temporal_join.specs.Lives.{is_begun}
use Rattle.temporal_join.specs.Pairing.{StartsTold}
use Rattle.temporal_join.proofs.Living.{rest_passes}
use Rattle.temporal_join.proofs.LiveTelling.{starts_none, starts_more}
use Rattle.temporal_join.proofs.Rowing.{rest_at}
use Rattle.temporal_join.proofs.pairs.Pairing.start_lives.Goals as goal

pub loop-edge-init : goal.loop-edge-init
loop-edge-init c = record { rest = refl; told = starts_none c.args.self.now c.args.own.now c.args.others.now c.args.answer.now.items; gone = λ h. h; columns = refl }

pub start_life-requires : goal.start_life-requires
start_life-requires c = rest_passes (is_begun c.args.self.now.at) c.loop-edge.now c.args.now.now c.loop-edge.edge-index c.edge-item.result c.loop-edge-test.true c.loop-edge.invariant.rest c.requires

pub loop-edge-preserved : goal.loop-edge-preserved
loop-edge-preserved c =
    let p = c.args.self.now in
    let i = c.loop-edge.edge-index in
    let x = c.edge-item.result in
    let now = c.args.now.now in
    let later = c.loop-edge.now in
    let rest = c.loop-edge.invariant.rest in
    let own1 = c.loop-edge.own in
    let own2 = c.start_life.new.own in
    let others = c.args.others.now in
    let a1 = c.loop-edge.answer.items in
    let a2 = c.start_life.new.answer.items in
    let is : x ≡ get_or now i x = c.edge-item.is ∙ rest_at later now i x rest in
    record {
      rest = drop-set-lt (i + 1) later i c.start_life.new.edge (omega arith) ∙ rest_past later now i 1 rest;
      told = starts_more p c.args.own.now own1 own2 others now i x c.args.answer.now.items a1 a2 c.loop-edge-test.true is c.loop-edge.invariant.columns
          (subst (λ (y : Edge). StartsTold p own1 own2 others (y ∷ []) a1 a2) (sym c.edge-item.is) c.in_ok-start_life.ensures.told) c.loop-edge.invariant.told;
      gone = λ h. c.in_ok-start_life.ensures.gone (c.loop-edge.invariant.gone h);
      columns = c.in_ok-start_life.ensures.columns ∙ c.loop-edge.invariant.columns;
    }
