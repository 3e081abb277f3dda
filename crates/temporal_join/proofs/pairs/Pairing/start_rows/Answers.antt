use Rattle.std.proofs.Common.{◌≡◌, ◌+◌, arith, true, get_or, sym, ap, subst, ◌∙◌, refl}
use Rattle.std.proofs.lemmas.List.{drop-set-lt}
use Rattle.tw_rows.specs.Bag.{total}
use Rattle.tw_rows.specs.declared.edge.Edge.{Edge}
use Rattle.edge_history.specs.Opens.{started_of}
use Rattle.plan_model.specs.Keys.{paired_row}
use Rattle.sweep_laws.specs.Moves.{Adds}
use Rattle.sweep_laws.proofs.Adding.{adds_none, rows_more}
use Rattle.sweep_laws.proofs.PairsTold.{rows_told_more}
use Rattle.temporal_join.specs.Joined.{join_meets}
use Rattle.temporal_join.specs.Pairing.{told_pairs}
use Rattle.sweep_sides.proofs.Overwriting.{rest_past}
use Rattle.temporal_join.proofs.Rowing.{rest_at}
use Rattle.temporal_join.proofs.pairs.Pairing.start_rows.Goals as goal

pub loop-edge-init : goal.loop-edge-init
loop-edge-init c = record { key = refl; rest = refl; started = λ w. omega arith; told = λ k. adds_none c.args.answer.now.items }

pub loop-edge-preserved : goal.loop-edge-preserved
loop-edge-preserved c =
    let x = c.edge-item.result in
    let i = c.loop-edge.edge-index in
    let p = c.args.self.now in
    let now = c.args.now.now in
    let later = c.loop-edge.now in
    let rest = c.loop-edge.invariant.rest in
    let low = c.loop-edge-test.true in
    let is : x ≡ get_or now i x = c.edge-item.is ∙ rest_at later now i x rest in
    record {
      key = c.in_ok-start_one.ensures.key ∙ c.loop-edge.invariant.key;
      rest = drop-set-lt (i + 1) later i c.start_one.new.edge (omega arith) ∙ rest_past later now i 1 rest;
      started = λ w.
          let b = c.loop-edge.invariant.started w in
          let e = c.in_ok-start_one.ensures.started w in
          let m = rows_more started_of w now i x low is in
          let z = ap (λ (y : Edge). total w (started_of y)) c.edge-item.is in
          omega (arith, e, m, b, z);
      told = λ k.
          rows_told_more (join_meets p.left_key.now p.right_key.now) (paired_row p.right_key.now) started_of p.right true p.at x now c.args.others.now.rows i
          c.args.answer.now.items c.loop-edge.answer.items c.start_one.new.answer.items
          low is (subst (λ (y : Edge). Adds c.loop-edge.answer.items c.start_one.new.answer.items (told_pairs p true (started_of y) c.args.others.now.rows)) (sym c.edge-item.is) (c.in_ok-start_one.ensures.told k))
          (c.loop-edge.invariant.told k);
    }
