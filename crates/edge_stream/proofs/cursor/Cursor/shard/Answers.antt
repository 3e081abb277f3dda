use Rattle.std.proofs.Common.{◌<◌, ◌∙◌, length, get_or, ap, sym, arith}
use Rattle.std.proofs.lemmas.Option.{slice_get-get_or}
use Rattle.batch.proofs.Keeping.{no_row}
use Rattle.edge_stream.specs.Shards.{shard_by}
use Rattle.edge_stream.proofs.Ahead.{stands, next_edge, row_within, head_is}
use Rattle.edge_stream.proofs.cursor.Cursor.shard.Goals as goal

pub shard_at-requires-clause-row : goal.shard_at-requires-clause-row
shard_at-requires-clause-row c =
    let s = c.self.inside in
    let bs = s.batches.now in
    let lt : s.place < length bs.items = omega (arith, c.if-self-len.false, c.len.ensures, bs.ok.0) in
    let b = c.index.result.now in
    let set = stands bs.items s.place s.row b lt c.index.ensures c.self.invariant.at in
    row_within b.rows s.row set

pub returns-clause-none : goal.returns-clause-none
returns-clause-none c =
    let s = c.self.inside in
    let bs = s.batches.now in
    let lt : s.place < length bs.items = omega (arith, c.if-self-len.false, c.len.ensures, bs.ok.0) in
    let b = c.index.result.now in
    let next = sym (ap (λ v. v.edges) c.self.view_is) ∙ next_edge bs.items s.place s.row b lt c.index.ensures c.self.invariant.at in
    (λ h. absurd (cc), λ h. absurd (cc))

pub returns-clause-shard : goal.returns-clause-shard
returns-clause-shard c e rest is =
    let s = c.self.inside in
    let bs = s.batches.now in
    let lt : s.place < length bs.items = omega (arith, c.if-self-len.false, c.len.ensures, bs.ok.0) in
    let b = c.index.result.now in
    let set = stands bs.items s.place s.row b lt c.index.ensures c.self.invariant.at in
    let next = sym (ap (λ v. v.edges) c.self.view_is) ∙ next_edge bs.items s.place s.row b lt c.index.ensures c.self.invariant.at in
    c.shard_at.ensures (get_or b.rows s.row no_row) (slice_get-get_or b.rows s.row no_row (row_within b.rows s.row set))
    ∙ ap (λ x. shard_by c.args.count c.args.key.now x.cells) (head_is _ _ _ _ (sym next ∙ is))
