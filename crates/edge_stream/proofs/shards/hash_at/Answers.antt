use Rattle.std.proofs.Common.{◌∙◌, get_or}
use Rattle.edge_stream.proofs.ShardCuts.{cell_is, hash_more}
use Rattle.edge_stream.proofs.shards.hash_at.Goals as goal

pub loop-column-preserved : goal.loop-column-preserved
loop-column-preserved c r found =
    let key = c.args.key.now in
    let i = c.loop-column.column-index in
    let at = cell_is c.args.batch.now.rows c.args.row (get_or key i 0) c.datum.result _ r c.column.ensures.cells c.datum.ensures.datum found in
    c.mix_words-hash.ensures ∙ hash_more key i r.cells c.loop-column.hash c.word.result c.datum.result c.loop-column-test.true (c.loop-column.invariant r found) c.word.ensures at
