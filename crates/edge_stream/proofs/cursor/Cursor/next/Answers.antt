use Rattle.std.proofs.Common.{◌≡◌, ◌<◌, ◌∷◌, ◌∙◌, map, length, get_or, ap, sym, arith}
use Rattle.std.proofs.lemmas.List.{get_or-map}
use Rattle.std.proofs.lemmas.Option.{get_or_from_slice_get}
use Rattle.batch.specs.Rows.{edge_of}
use Rattle.batch.proofs.Keeping.{no_row}
use Rattle.edge_stream.proofs.Ahead.{stands, next_edge, row_within}
use Rattle.edge_stream.proofs.cursor.Cursor.next.Goals as goal

pub edge_at-requires : goal.edge_at-requires
edge_at-requires c =
    let s = c.self.inside in
    let bs = s.batches.now in
    let lt : s.place < length bs.items = omega (arith, c.if-self-len.false, c.len.ensures, bs.ok.0) in
    let b = c.index.result.now in
    let set = stands bs.items s.place s.row b lt c.index.ensures c.self.invariant.at in
    row_within b.rows s.row set

pub returns-clause-edges : goal.returns-clause-edges
returns-clause-edges c =
    let s = c.self.inside in
    let bs = s.batches.now in
    let lt : s.place < length bs.items = omega (arith, c.if-self-len.false, c.len.ensures, bs.ok.0) in
    let b = c.index.result.now in
    let set = stands bs.items s.place s.row b lt c.index.ensures c.self.invariant.at in
    let next = sym (ap (λ v. v.edges) c.self.view_is) ∙ next_edge bs.items s.place s.row b lt c.index.ensures c.self.invariant.at in
    let here : edge_of (get_or b.rows s.row no_row) ≡ c.in_ok-edge.edge =
    sym (get_or-map edge_of b.rows s.row no_row c.in_ok-edge.edge (row_within b.rows s.row set)) ∙ get_or_from_slice_get (map edge_of b.rows) s.row c.in_ok-edge.edge c.in_ok-edge.edge c.in_ok-edge.ensures.ok in
    next ∙ (λ i. here i ∷ sym (c.advance.ensures.edges _ _ next) i)

pub returns-clause-end : goal.returns-clause-end
returns-clause-end c =
    let one = returns-clause-edges c in
    (λ h. absurd (cc), λ h. absurd (cc))
