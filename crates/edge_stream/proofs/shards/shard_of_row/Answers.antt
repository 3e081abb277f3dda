use Rattle.std.proofs.Common.{◌∙◌, get_or, refl}
use Rattle.std.specs.Prelude.{pos}
use Rattle.tw_rows.specs.declared.cells.Datum.TheVariants.{Int}
use Rattle.edge_stream.proofs.ShardCuts.{hash_more}
use Rattle.edge_stream.proofs.shards.shard_of_row.Goals as goal

pub loop-column-preserved : goal.loop-column-preserved
loop-column-preserved c =
    let key = c.args.key.now in
    let i = c.loop-column.column-index in
    let cells = c.args.cells.now in
    c.mix_words-hash.ensures
    ∙ hash_more key i cells c.loop-column.hash c.word_at.result (get_or cells (get_or key i 0) (Int (pos 0))) c.loop-column-test.true c.loop-column.invariant c.word_at.ensures refl
