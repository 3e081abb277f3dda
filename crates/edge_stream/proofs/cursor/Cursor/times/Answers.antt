use Rattle.std.proofs.Common.{◌<◌, ◌∙◌, length, ap, sym, arith}
use Rattle.edge_stream.proofs.Rows.{sync_is, other_is}
use Rattle.edge_stream.proofs.Ahead.{stands, next_edge, row_within, head_is}
use Rattle.edge_stream.proofs.cursor.Cursor.times.Goals as goal

pub sync_at-requires : goal.sync_at-requires
sync_at-requires c =
    let s = c.self.inside in
    let bs = s.batches.now in
    let lt : s.place < length bs.items = omega (arith, c.if-self-len.false, c.len.ensures, bs.ok.0) in
    let b = c.index-batch.result.now in
    let set = stands bs.items s.place s.row b lt c.index-batch.ensures c.self.invariant.at in
    row_within b.rows s.row set

pub other_at-requires : goal.other_at-requires
other_at-requires c =
    let s = c.self.inside in
    let bs = s.batches.now in
    let lt : s.place < length bs.items = omega (arith, c.if-self-len.false, c.len.ensures, bs.ok.0) in
    let b = c.index-batch.result.now in
    let set = stands bs.items s.place s.row b lt c.index-batch.ensures c.self.invariant.at in
    row_within b.rows s.row set

pub returns-clause-none : goal.returns-clause-none
returns-clause-none c =
    let s = c.self.inside in
    let bs = s.batches.now in
    let lt : s.place < length bs.items = omega (arith, c.if-self-len.false, c.len.ensures, bs.ok.0) in
    let b = c.index-batch.result.now in
    let set = stands bs.items s.place s.row b lt c.index-batch.ensures c.self.invariant.at in
    let next = sym (ap (λ v. v.edges) c.self.view_is) ∙ next_edge bs.items s.place s.row b lt c.index-batch.ensures c.self.invariant.at in
    (λ h. absurd (cc), λ h. absurd (cc))

pub returns-clause-sync : goal.returns-clause-sync
returns-clause-sync c e rest is =
    let s = c.self.inside in
    let bs = s.batches.now in
    let lt : s.place < length bs.items = omega (arith, c.if-self-len.false, c.len.ensures, bs.ok.0) in
    let b = c.index-batch.result.now in
    let set = stands bs.items s.place s.row b lt c.index-batch.ensures c.self.invariant.at in
    let next = sym (ap (λ v. v.edges) c.self.view_is) ∙ next_edge bs.items s.place s.row b lt c.index-batch.ensures c.self.invariant.at in
    sym (sync_is b.rows s.row c.sync_at.result (row_within b.rows s.row set) c.sync_at.ensures) ∙ ap (λ x. x.sync) (head_is _ _ _ _ (sym next ∙ is))

pub returns-clause-other : goal.returns-clause-other
returns-clause-other c e rest is =
    let s = c.self.inside in
    let bs = s.batches.now in
    let lt : s.place < length bs.items = omega (arith, c.if-self-len.false, c.len.ensures, bs.ok.0) in
    let b = c.index-batch.result.now in
    let set = stands bs.items s.place s.row b lt c.index-batch.ensures c.self.invariant.at in
    let next = sym (ap (λ v. v.edges) c.self.view_is) ∙ next_edge bs.items s.place s.row b lt c.index-batch.ensures c.self.invariant.at in
    sym (other_is b.rows s.row c.other_at.result (row_within b.rows s.row set) c.other_at.ensures) ∙ ap (λ x. x.other) (head_is _ _ _ _ (sym next ∙ is))
