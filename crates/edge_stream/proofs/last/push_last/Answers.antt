use Rattle.std.proofs.Common.{◌≡◌, ◌<◌, ◌-◌, suc, ◌∙◌, refl, ap, arith, rules, length, deque_len}
use Rattle.std.specs.Prelude.{Result, Ok, Err, IsErr, OnOk}
use Rattle.tw_rows.specs.declared.edge.Edge.{Edge}
use Rattle.batch.specs.Rows.{edges_of, row_of}
use Rattle.edge_stream.proofs.Rows.{edges-push}
use Rattle.edge_stream.proofs.Cutting.{edges_in-last}
use Rattle.edge_stream.proofs.LastBatch.{last_room-last, last_room-less}
use Rattle.edge_stream.proofs.last.push_last.Goals as goal

-- what a call that cannot fail ensures
done : {T E : Type 0} (r : Result T E) (P : Type 0) → (IsErr r → ⊥) → OnOk r P → P
done (Ok x) P never p = p
done (Err x) P never p = absurd (never refl)

pub returns-in-Some-clause-edges : goal.returns-in-Some-clause-edges
returns-in-Some-clause-edges c =
    let bs = c.args.batches.now in
    let some : 0 < deque_len bs = search rules in
    let last : suc (deque_len bs - 1) ≡ length bs.items = omega (arith, some, bs.ok.0) in
    let b = c.in-Some.last.now in
    let edge : Edge = record { sync = c.args.sync; other = c.args.other; cells = c.args.cells.now } in
    let room = last_room-last bs.items (deque_len bs - 1) b last c.in-Some.ensures.value in
    let new = done c.push_row.result _ (λ h. omega (arith, c.push_row.ensures.full.0 h, room, c.requires.room)) c.push_row.ensures.ok in
    edges_in-last bs.items (deque_len bs - 1) b c.push_row.new.self edge last c.in-Some.ensures.value (ap (λ t. edges_of t.rows) new ∙ edges-push b.rows edge)

pub returns-in-Some-clause-room : goal.returns-in-Some-clause-room
returns-in-Some-clause-room c =
    let bs = c.args.batches.now in
    let some : 0 < deque_len bs = search rules in
    let last : suc (deque_len bs - 1) ≡ length bs.items = omega (arith, some, bs.ok.0) in
    let b = c.in-Some.last.now in
    let edge : Edge = record { sync = c.args.sync; other = c.args.other; cells = c.args.cells.now } in
    let room = last_room-last bs.items (deque_len bs - 1) b last c.in-Some.ensures.value in
    let new = done c.push_row.result _ (λ h. omega (arith, c.push_row.ensures.full.0 h, room, c.requires.room)) c.push_row.ensures.ok in
    last_room-less bs.items (deque_len bs - 1) b c.push_row.new.self (row_of edge) last c.in-Some.ensures.value new c.requires.room
