use Rattle.std.proofs.Common.{◌≡◌, ◌<◌, ◌-◌, suc, ◌∙◌, ap, sym, subst, get_or, arith, rules, length, deque_len}
use Rattle.std.proofs.lemmas.List.Elements.{All-set}
use Rattle.std.proofs.lemmas.Option.{slice_get-get_or}
use Rattle.batch.specs.Rows.{Row, edge_of, edges_of}
use Rattle.batch.proofs.Keeping.{no_row}
use Rattle.edge_stream.specs.Listing.{IsOf}
use Rattle.edge_stream.proofs.Rows.{edges-push_row}
use Rattle.edge_stream.proofs.Cutting.{edges_in-last}
use Rattle.edge_stream.proofs.LastBatch.{last_room-last, last_room-less}
use Rattle.edge_stream.proofs.last.copy_last.Goals as goal

pub copy_row-requires-clause-room : goal.copy_row-requires-clause-room
copy_row-requires-clause-room c =
    let bs = c.args.batches.now in
    let some : 0 < deque_len bs = search rules in
    let last : suc (deque_len bs - 1) ≡ length bs.items = omega (arith, some, bs.ok.0) in
    let room = last_room-last bs.items (deque_len bs - 1) c.in-Some.last.now last c.in-Some.ensures.value in
    omega (arith, room, c.requires.room)

pub returns-in-Some-clause-edges : goal.returns-in-Some-clause-edges
returns-in-Some-clause-edges c r found =
    let bs = c.args.batches.now in
    let some : 0 < deque_len bs = search rules in
    let last : suc (deque_len bs - 1) ≡ length bs.items = omega (arith, some, bs.ok.0) in
    let b = c.in-Some.last.now in
    edges_in-last bs.items (deque_len bs - 1) b c.copy_row.new.to (edge_of r) last c.in-Some.ensures.value
    (ap (λ t. edges_of t.rows) (c.copy_row.ensures r found) ∙ edges-push_row b.rows r (c.requires.occupied r found))

pub returns-in-Some-clause-room : goal.returns-in-Some-clause-room
returns-in-Some-clause-room c =
    let bs = c.args.batches.now in
    let some : 0 < deque_len bs = search rules in
    let last : suc (deque_len bs - 1) ≡ length bs.items = omega (arith, some, bs.ok.0) in
    let b = c.in-Some.last.now in
    let r : Row = get_or c.args.batch.now.rows c.args.i no_row in
    let found = slice_get-get_or c.args.batch.now.rows c.args.i no_row c.requires.place in
    last_room-less bs.items (deque_len bs - 1) b c.copy_row.new.to r last c.in-Some.ensures.value (c.copy_row.ensures r found) c.requires.room

pub returns-in-Some-clause-alike : goal.returns-in-Some-clause-alike
returns-in-Some-clause-alike c kinds capacity all =
    let bs = c.args.batches.now in
    let some : 0 < deque_len bs = search rules in
    let lt : deque_len bs - 1 < length bs.items = omega (arith, some, bs.ok.0) in
    let b = c.in-Some.last.now in
    let r : Row = get_or c.args.batch.now.rows c.args.i no_row in
    let new = c.copy_row.ensures r (slice_get-get_or c.args.batch.now.rows c.args.i no_row c.requires.place) in
    let was : IsOf kinds capacity b = subst (IsOf kinds capacity) (sym c.in-Some.ensures.value) (all (deque_len bs - 1) b lt) in
    All-set (IsOf kinds capacity) bs.items (deque_len bs - 1) c.copy_row.new.to (record { same_kinds = ap (λ t. t.kinds) new ∙ was.same_kinds; same_capacity = ap (λ t. t.capacity) new ∙ was.same_capacity }) all
