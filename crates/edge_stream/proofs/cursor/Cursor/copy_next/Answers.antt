use Rattle.std.proofs.Common.{◌<◌, ◌++◌, ◌∷◌, [], ◌∙◌, length, get_or, ap, sym, subst, arith}
use Rattle.std.proofs.lemmas.Option.{get_or_from_slice_get, slice_get-get_or}
use Rattle.batch.specs.Rows.{edge_of}
use Rattle.batch.proofs.Keeping.{no_row}
use Rattle.edge_history.specs.Order.{KeepsOrder}
use Rattle.edge_stream.specs.Listing.{appended}
use Rattle.edge_stream.proofs.Ahead.{stands, next_edge, row_within, row_occupied, head_is}
use Rattle.edge_stream.proofs.cursor.Cursor.copy_next.Goals as goal

pub append_row-requires-clause-place : goal.append_row-requires-clause-place
append_row-requires-clause-place c =
    let s = c.self.inside in
    let bs = s.batches.now in
    let lt : s.place < length bs.items = omega (arith, c.if-self-len.true, c.len.ensures, bs.ok.0) in
    let b = c.index.result.now in
    let set = stands bs.items s.place s.row b lt c.index.ensures c.self.invariant.at in
    row_within b.rows s.row set

pub append_row-requires-clause-occupied : goal.append_row-requires-clause-occupied
append_row-requires-clause-occupied c =
    let s = c.self.inside in
    let bs = s.batches.now in
    let lt : s.place < length bs.items = omega (arith, c.if-self-len.true, c.len.ensures, bs.ok.0) in
    let b = c.index.result.now in
    let set = stands bs.items s.place s.row b lt c.index.ensures c.self.invariant.at in
    row_occupied b.rows s.row set

pub append_row-requires-clause-order : goal.append_row-requires-clause-order
append_row-requires-clause-order c r found =
    let s = c.self.inside in
    let bs = s.batches.now in
    let lt : s.place < length bs.items = omega (arith, c.if-self-len.true, c.len.ensures, bs.ok.0) in
    let b = c.index.result.now in
    let set = stands bs.items s.place s.row b lt c.index.ensures c.self.invariant.at in
    let next = sym (ap (λ v. v.edges) c.self.view_is) ∙ next_edge bs.items s.place s.row b lt c.index.ensures c.self.invariant.at in
    subst (λ q. KeepsOrder (c.args.to.now.edges ++ edge_of q ∷ [])) (get_or_from_slice_get b.rows s.row r no_row found) (c.requires.order _ _ next)

pub returns-in_ok-append_row-clause-ok : goal.returns-in_ok-append_row-clause-ok
returns-in_ok-append_row-clause-ok c e rest is =
    let s = c.self.inside in
    let bs = s.batches.now in
    let lt : s.place < length bs.items = omega (arith, c.if-self-len.true, c.len.ensures, bs.ok.0) in
    let b = c.index.result.now in
    let set = stands bs.items s.place s.row b lt c.index.ensures c.self.invariant.at in
    let next = sym (ap (λ v. v.edges) c.self.view_is) ∙ next_edge bs.items s.place s.row b lt c.index.ensures c.self.invariant.at in
    c.in_ok-append_row.ensures.ok (get_or b.rows s.row no_row) (slice_get-get_or b.rows s.row no_row (row_within b.rows s.row set)) ∙ ap (appended c.args.to.now) (head_is _ _ _ _ (sym next ∙ is))

pub returns-in_ok-append_row-clause-end : goal.returns-in_ok-append_row-clause-end
returns-in_ok-append_row-clause-end c none =
    let s = c.self.inside in
    let bs = s.batches.now in
    let lt : s.place < length bs.items = omega (arith, c.if-self-len.true, c.len.ensures, bs.ok.0) in
    let b = c.index.result.now in
    let next = sym (ap (λ v. v.edges) c.self.view_is) ∙ next_edge bs.items s.place s.row b lt c.index.ensures c.self.invariant.at in
    absurd (cc)
