use Rattle.std.proofs.Common.{◌∙◌, ◌∷◌, [], ap, arith}
use Rattle.std.proofs.lemmas.Grind.{flat_map-append}
use Rattle.tw_rows.specs.Bag.{total}
use Rattle.tw_rows.proofs.Bags.{total-append}
use Rattle.edge_history.specs.Opens.{singles, singles_of}
use Rattle.temporal_join.proofs.settling.put_now.Goals as goal

pub loop-edge-preserved : goal.loop-edge-preserved
loop-edge-preserved c =
    let e = c.in-Some.edge in
    let rest = c.pop.new.self.items in
    record {
      put = λ w.
          let a = ap (λ l. total w (singles l)) c.in-Some.ensures.items ∙ (ap (total w) (flat_map-append singles_of rest (e ∷ [])) ∙ total-append w (singles rest) (singles (e ∷ []))) in
          let d = total-append w (singles_of e) [] in
          let b = c.in_ok-put_singles.ensures.put w in
          let i = c.loop-edge.invariant.put w in
          omega (arith, a, b, d, i);
      timed = λ t. c.in_ok-put_singles.ensures.timed (c.loop-edge.invariant.timed t);
    }
