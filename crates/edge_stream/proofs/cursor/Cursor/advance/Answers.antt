use Rattle.std.proofs.Common.{◌<◌, ◌∙◌, Fits, w64, length, rules, ap, sym, arith}
use Rattle.edge_stream.proofs.Ahead.{stands, next_edge, row_within, tail_is}
use Rattle.edge_stream.proofs.cursor.Cursor.advance.Goals as goal

pub overflow_add-self-inside : goal.overflow_add-self-inside
overflow_add-self-inside c =
    let s = c.self.inside in
    let bs = s.batches.now in
    let lt : s.place < length bs.items = omega (arith, c.if-self-len.true, c.len.ensures, bs.ok.0) in
    let b = c.index.result.now in
    let set = stands bs.items s.place s.row b lt c.index.ensures c.self.invariant.at in
    let within = row_within b.rows s.row set in
    let f : Fits w64 c.rows-rows.result = search rules in
    record { fits = omega (arith, f.fits, within, c.rows-rows.ensures.rows) }

pub returns-then-self-len-clause-edges : goal.returns-then-self-len-clause-edges
returns-then-self-len-clause-edges c e rest is =
    let s = c.self.inside in
    let bs = s.batches.now in
    let lt : s.place < length bs.items = omega (arith, c.if-self-len.true, c.len.ensures, bs.ok.0) in
    let b = c.index.result.now in
    let set = stands bs.items s.place s.row b lt c.index.ensures c.self.invariant.at in
    let next = sym (ap (λ v. v.edges) c.self.view_is) ∙ next_edge bs.items s.place s.row b lt c.index.ensures c.self.invariant.at in
    c.next_place-place.ensures.same ∙ tail_is _ _ _ _ (sym next ∙ is)
