use Rattle.std.proofs.Common.{◌≡◌, ◌∙◌, ◌∷◌, [], ap, arith, cond, true, false}
use Rattle.tw_rows.specs.Bag.{total}
use Rattle.tw_rows.specs.Instant.{inf}
use Rattle.edge_history.specs.Order.{is_end}
use Rattle.sweep_sides.proofs.Telling.{end_is}
use Rattle.sweep_sides.proofs.starts.put_start.Goals as goal

pub returns-then-is_end : goal.returns-then-is_end
returns-then-is_end c =
    let e = c.args.edge in
    let end : is_end e ≡ true = end_is c.is_end.result e c.is_end.ensures ∙ c.if-is_end.true in
    record {
      put = λ w. (let z = ap (λ b. total w (cond b [] (record e { sync = e.sync; other = inf; cells = e.cells } ∷ []))) end in omega (arith, z));
      timed = λ t. t;
    }

pub returns : goal.returns
returns c =
    let e = c.args.edge in
    let end : is_end e ≡ false = end_is c.is_end.result e c.is_end.ensures ∙ c.if-is_end.false in
    record {
      put = λ w.
          let a = c.in_ok-put_edge.ensures.put w in
          let z = ap (λ b. total w (cond b [] (record e { sync = e.sync; other = inf; cells = e.cells } ∷ []))) end in
          let o = ap (λ n. w (record { sync = e.sync; other = n; cells = e.cells })) c.bounds.ensures.infinity in
          omega (arith, a, z, o);
      timed = c.in_ok-put_edge.ensures.timed;
    }
