use Rattle.std.proofs.Common.{refl, ap}
use Rattle.lane_expr.specs.Steps.{expr_of}
use Rattle.where_select.proofs.Batches.{filter_reads, filter_made, filtered_placed}
use Rattle.where_select.proofs.row_stage.filtered.Goals as goal

pub apply-requires-clause-reads : goal.apply-requires-clause-reads
apply-requires-clause-reads c = filter_reads c.args.texts.now c.args.batch.capacity c.args.batch.kinds c.requires.stage.0 c.args.filter.now c.requires.stage.1 c.args.batch refl c.rows.ensures.within c.requires.placed

pub returns-clause-made : goal.returns-clause-made
returns-clause-made c = λ n is. filter_made c.args.texts.now c.args.batch.capacity c.args.batch.kinds n c.args.filter.now is c.args.batch.rows c.apply.new.batch.rows (ap (λ b. b.rows) c.apply.ensures.batch)

pub returns-clause-placed : goal.returns-clause-placed
returns-clause-placed c = filtered_placed c.args.texts.now (expr_of c.args.texts.now c.args.filter.now.test.steps) c.args.batch.rows c.apply.new.batch.rows (ap (λ b. b.rows) c.apply.ensures.batch) c.requires.placed
