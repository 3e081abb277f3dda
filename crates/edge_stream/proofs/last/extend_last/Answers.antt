use Rattle.std.proofs.Common.{◌≡◌, ◌<◌, ◌-◌, suc, ◌∙◌, take, ap, sym, subst, arith, rules, length, deque_len}
use Rattle.std.proofs.lemmas.List.Elements.{All-set}
use Rattle.batch.specs.Rows.{edges_of}
use Rattle.edge_stream.specs.Listing.{IsOf}
use Rattle.edge_stream.proofs.Fronts.{edges-append}
use Rattle.edge_stream.proofs.Cutting.{edges_in-extended}
use Rattle.edge_stream.proofs.LastBatch.{last_room-last}
use Rattle.edge_stream.proofs.last.extend_last.Goals as goal

pub copy_first-requires-clause-room : goal.copy_first-requires-clause-room
copy_first-requires-clause-room c =
    let bs = c.args.batches.now in
    let some : 0 < deque_len bs = search rules in
    let last : suc (deque_len bs - 1) ≡ length bs.items = omega (arith, some, bs.ok.0) in
    let room = last_room-last bs.items (deque_len bs - 1) c.in-Some.last.now last c.in-Some.ensures.value in
    omega (arith, room, c.requires.room, c.requires.some)

pub returns-in-Some-clause-edges : goal.returns-in-Some-clause-edges
returns-in-Some-clause-edges c =
    let bs = c.args.batches.now in
    let some : 0 < deque_len bs = search rules in
    let last : suc (deque_len bs - 1) ≡ length bs.items = omega (arith, some, bs.ok.0) in
    let b = c.in-Some.last.now in
    let more = take c.args.rows c.args.batch.now.rows in
    edges_in-extended bs.items (deque_len bs - 1) b c.copy_first.new.to (edges_of more) last c.in-Some.ensures.value (ap (λ t. edges_of t.rows) c.copy_first.ensures ∙ edges-append b.rows more)

pub returns-in-Some-clause-alike : goal.returns-in-Some-clause-alike
returns-in-Some-clause-alike c kinds capacity all =
    let bs = c.args.batches.now in
    let some : 0 < deque_len bs = search rules in
    let lt : deque_len bs - 1 < length bs.items = omega (arith, some, bs.ok.0) in
    let b = c.in-Some.last.now in
    let new = c.copy_first.ensures in
    let was : IsOf kinds capacity b = subst (IsOf kinds capacity) (sym c.in-Some.ensures.value) (all (deque_len bs - 1) b lt) in
    All-set (IsOf kinds capacity) bs.items (deque_len bs - 1) c.copy_first.new.to (record { same_kinds = ap (λ t. t.kinds) new ∙ was.same_kinds; same_capacity = ap (λ t. t.capacity) new ∙ was.same_capacity }) all
