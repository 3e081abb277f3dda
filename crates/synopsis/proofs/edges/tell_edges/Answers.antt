use Rattle.std.specs.Prelude.{◌-◌, ◌++◌, drop, replicate}
use Rattle.std.proofs.Common.{◌∙◌, ap}
use Rattle.tw_rows.specs.SameCells.{same_cells}
use Rattle.edge_history.specs.Opens.{bare, ended_rows, started_rows}
use Rattle.key_nodes.specs.Coalesced.{how_often}
use Rattle.synopsis.specs.Kept.{starts_of}
use Rattle.synopsis.specs.Holding.{since_of, moves_of}
use Rattle.synopsis.proofs.EdgesApart.{apart_once, ends_are, starts_are}
use Rattle.synopsis.proofs.Lone.{tells_of}
use Rattle.synopsis.proofs.edges.tell_edges.Goals as goal

pub returns-then-is_few_apart-clause-since : goal.returns-then-is_few_apart-clause-since
returns-then-is_few_apart-clause-since c = λ q.
    let es = c.args.now.now in
    let t = c.args.at in
    let old = since_of c.args.held.now q in
    let ended = how_often same_cells q (bare (ended_rows es)) in
    c.in_ok-move_apart.ensures.since (c.is_few_apart.ensures.0 c.if-is_few_apart.true).1 q
    ∙ (ap (λ n. drop (n - starts_of (moves_of es) q) old ++ replicate (starts_of (moves_of es) q - n) t) (ends_are es q)
    ∙ ap (λ n. drop (ended - n) old ++ replicate (n - ended) t) (starts_are es q))

pub returns-then-is_few_apart-clause-tells : goal.returns-then-is_few_apart-clause-tells
returns-then-is_few_apart-clause-tells c = λ f low moves is.
    let es = c.args.now.now in
    let apart = (c.is_few_apart.ensures.0 c.if-is_few_apart.true).1 in
    tells_of f c.args.at (moves_of es) (λ r. how_often same_cells r (bare (ended_rows es))) (λ r. how_often same_cells r (bare (started_rows es))) (since_of c.args.held.now)
    c.args.answer.now.items c.move_apart.new.answer.items low moves is (apart_once es apart) (ends_are es) (starts_are es)
    (c.in_ok-move_apart.ensures.told apart) (c.in_ok-move_apart.ensures.order apart low)
