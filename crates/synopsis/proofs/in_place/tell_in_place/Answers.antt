use Rattle.std.specs.Prelude.{◌-◌, ◌++◌, [], drop, replicate, length}
use Rattle.std.proofs.Common.{◌∙◌, ap, arith}
use Rattle.tw_rows.specs.SameCells.{same_cells}
use Rattle.edge_history.specs.Opens.{bare, ended_rows, started_rows}
use Rattle.key_nodes.specs.Coalesced.{how_often}
use Rattle.synopsis.specs.Kept.{starts_of}
use Rattle.synopsis.specs.Holding.{since_of, moves_of}
use Rattle.synopsis.proofs.EdgesApart.{apart_once, ends_are, starts_are}
use Rattle.synopsis.proofs.InPlace.{have_starts, open_count}
use Rattle.synopsis.proofs.Lone.{tells_of}
use Rattle.synopsis.proofs.Telling.{once_net}
use Rattle.synopsis.proofs.in_place.tell_in_place.Goals as goal

pub returns-clause-since : goal.returns-clause-since
returns-clause-since c = λ q.
    let es = c.args.now.now in
    let t = c.args.at in
    let old = since_of c.args.held.now q in
    let ended = how_often same_cells q (bare (ended_rows es)) in
    c.in_ok-move_each.ensures.since c.requires q
    ∙ (ap (λ n. drop (n - starts_of (moves_of es) q) old ++ replicate (starts_of (moves_of es) q - n) t) (ends_are es q)
    ∙ ap (λ n. drop (ended - n) old ++ replicate (n - ended) t) (starts_are es q))

pub returns-clause-tells : goal.returns-clause-tells
returns-clause-tells c = λ f low moves is.
    let es = c.args.now.now in
    let ms = moves_of es in
    let apart = c.requires in
    let once = apart_once es apart in
    let old = since_of c.args.held.now in
    let have = have_starts old es (λ q h.
    let n = once_net (λ m. m.ends) (λ m. m.starts) ms once q in
    let a = ends_are es q in
    let b = starts_are es q in
    let m = moves q in
    let l = open_count same_cells f q c.args.at in
    let s = ap (λ l. length l) (is q) in
    omega (arith, h, n, a, b, m, l, s)) in
    tells_of f c.args.at ms (λ r. how_often same_cells r (bare (ended_rows es))) (λ r. how_often same_cells r (bare (started_rows es))) old
    [] c.move_each.new.now low moves is once (ends_are es) (starts_are es)
    (λ w. let t = c.in_ok-move_each.ensures.told apart have w in omega (arith, t)) (λ early up. c.in_ok-move_each.ensures.order apart have low early)
