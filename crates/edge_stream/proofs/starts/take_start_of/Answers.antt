use Rattle.std.proofs.Common.{◌∙◌, ◌<◌, ◌∷◌, false, length, get_or, set, refl, sym, ap, subst, arith}
use Rattle.std.specs.Prelude.{slice_get, All}
use Rattle.std.proofs.lemmas.List.Elements.{All-set}
use Rattle.std.proofs.lemmas.Option.{slice_get-get_or}
use Rattle.tw_rows.specs.Instant.{inf}
use Rattle.tw_rows.specs.Bag.{SameBag}
use Rattle.tw_rows.specs.declared.edge.Edge.{Edge}
use Rattle.batch.specs.Rows.{Row}
use Rattle.batch.proofs.Keeping.{no_row}
use Rattle.edge_history.specs.Order.{starts_it, KeepsOrder}
use Rattle.edge_stream.specs.Listing.{IsOf, edges_in}
use Rattle.edge_stream.proofs.CutLists.{same_item}
use Rattle.edge_stream.proofs.Passing.{many_next}
use Rattle.edge_stream.proofs.Gone.{order_cleared, bag_cleared}
use Rattle.edge_stream.proofs.starts.take_start_of.Goals as goal

-- The row is found in the batch that is read (`index`), and cleared in the same one, that is written (`index_mut`).

pub returns-in-Some-clause-taken : goal.returns-in-Some-clause-taken
returns-in-Some-clause-taken c = λ _.
    let bs = c.loop-place.batches in
    let n = c.loop-place.place in
    let seen = c.index.result.now in
    let b = c.index_mut.result.now in
    let lt : n < length bs.items = omega (arith, c.loop-place-test.true, c.len-place-end.ensures, c.args.batches.now.ok.0, ap length c.loop-place.invariant.same) in
    let i = c.in-Some.row in
    let r : Row = get_or seen.rows i no_row in
    let cleared : Row = record r { occupied = false } in
    let found = slice_get-get_or seen.rows i no_row c.in-Some.ensures.within in
    let same = ap (λ t. t.rows) (same_item bs.items n seen b lt c.index.ensures c.index_mut.ensures.value) in
    let new = c.clear_row.ensures r (ap (λ rows. slice_get rows i) same ∙ found) in
    let gone = ap (λ t. t.rows) new ∙ ap (λ rows. set rows i cleared) same in
    let start : Edge = record { sync = c.args.start; other = inf; cells = c.args.cells.now } in
    subst (λ xs. SameBag (start ∷ edges_in (set bs.items n c.clear_row.new.self)) (edges_in xs)) c.loop-place.invariant.same
    (bag_cleared seen.rows i r c.in-Some.ensures.within found bs.items n b c.clear_row.new.self lt c.index_mut.ensures.value same (c.in-Some.ensures.some r found) gone
    c.args.cells.now c.args.start (c.in-Some.ensures.starts r found))

pub returns-in-Some-clause-order : goal.returns-in-Some-clause-order
returns-in-Some-clause-order c = λ order.
    let bs = c.loop-place.batches in
    let n = c.loop-place.place in
    let seen = c.index.result.now in
    let b = c.index_mut.result.now in
    let lt : n < length bs.items = omega (arith, c.loop-place-test.true, c.len-place-end.ensures, c.args.batches.now.ok.0, ap length c.loop-place.invariant.same) in
    let i = c.in-Some.row in
    let r : Row = get_or seen.rows i no_row in
    let cleared : Row = record r { occupied = false } in
    let found = slice_get-get_or seen.rows i no_row c.in-Some.ensures.within in
    let same = ap (λ t. t.rows) (same_item bs.items n seen b lt c.index.ensures c.index_mut.ensures.value) in
    let new = c.clear_row.ensures r (ap (λ rows. slice_get rows i) same ∙ found) in
    let gone = ap (λ t. t.rows) new ∙ ap (λ rows. set rows i cleared) same in
    order_cleared seen.rows i r c.in-Some.ensures.within found bs.items n b c.clear_row.new.self lt c.index_mut.ensures.value same (c.in-Some.ensures.some r found) gone
    (subst (λ xs. KeepsOrder (edges_in xs)) (sym c.loop-place.invariant.same) order)

pub returns-in-Some-clause-alike : goal.returns-in-Some-clause-alike
returns-in-Some-clause-alike c kinds capacity all =
    let bs = c.loop-place.batches in
    let n = c.loop-place.place in
    let b = c.index_mut.result.now in
    let now : All (IsOf kinds capacity) bs.items = subst (All (IsOf kinds capacity)) (sym c.loop-place.invariant.same) all in
    let lt : n < length bs.items = omega (arith, c.loop-place-test.true, c.len-place-end.ensures, c.args.batches.now.ok.0, ap length c.loop-place.invariant.same) in
    let seen = c.index.result.now in
    let i = c.in-Some.row in
    let r : Row = get_or seen.rows i no_row in
    let found = slice_get-get_or seen.rows i no_row c.in-Some.ensures.within in
    let same = ap (λ t. t.rows) (same_item bs.items n seen b lt c.index.ensures c.index_mut.ensures.value) in
    let new = c.clear_row.ensures r (ap (λ rows. slice_get rows i) same ∙ found) in
    let was : IsOf kinds capacity b = subst (IsOf kinds capacity) (sym c.index_mut.ensures.value) (now n b lt) in
    All-set (IsOf kinds capacity) bs.items n c.clear_row.new.self (record { same_kinds = ap (λ t. t.kinds) new ∙ was.same_kinds; same_capacity = ap (λ t. t.capacity) new ∙ was.same_capacity }) now

pub loop-place-preserved : goal.loop-place-preserved
loop-place-preserved c =
    let bs = c.loop-place.batches in
    let n = c.loop-place.place in
    let lt : n < length bs.items = omega (arith, c.loop-place-test.true, c.len-place-end.ensures, c.args.batches.now.ok.0, ap length c.loop-place.invariant.same) in
    let more = many_next bs.items n c.index.result.now lt c.index.ensures (starts_it c.args.cells.now c.args.start) in
    let here = c.in_default.ensures.none refl in
    record { none = omega (arith, more, c.loop-place.invariant.none, here); same = c.loop-place.invariant.same }
