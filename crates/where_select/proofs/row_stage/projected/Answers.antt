use Rattle.std.proofs.Common.{◌∙◌, length, map, refl, ap, sym, subst}
use Rattle.std.specs.Prelude.{IsErr}
use Rattle.std.proofs.lemmas.List.{length-map}
use Rattle.lane_expr.specs.Kernels.{result_kind}
use Rattle.where_select.specs.Projects.{exprs_of}
use Rattle.where_select.proofs.Batches.{project_reads, project_made, project_kinds, projected_placed, pools_kept, limit_kept, no_lack}
use Rattle.where_select.proofs.row_stage.projected.Goals as goal

pub apply-requires-clause-reads : goal.apply-requires-clause-reads
apply-requires-clause-reads c = project_reads c.args.texts.now c.args.batch.capacity c.args.batch.kinds c.requires.stage.0 c.args.project.now c.requires.stage.1 c.args.batch refl c.rows.ensures.within c.requires.placed

pub returns-clause-made : goal.returns-clause-made
returns-clause-made c = λ n is. project_made c.args.texts.now c.args.batch.capacity c.args.batch.kinds n c.args.project.now is c.args.batch.rows c.in-Ok.batch.rows c.in-Ok.ensures.rows

pub returns-clause-kinds : goal.returns-clause-kinds
returns-clause-kinds c = λ n is. c.in-Ok.ensures.kinds ∙ project_kinds c.args.texts.now c.args.batch.capacity c.args.batch.kinds n c.args.project.now is

pub returns-clause-placed : goal.returns-clause-placed
returns-clause-placed c = projected_placed c.args.texts.now (exprs_of c.args.texts.now c.args.project.now) c.args.batch.rows c.in-Ok.batch.rows c.in-Ok.ensures.rows

pub returns-clause-pools : goal.returns-clause-pools
returns-clause-pools c = pools_kept c.refill.new.self c.apply.new.pools (map result_kind c.args.project.now) c.args.batch.kinds c.in-Ok.ensures.given ∙ ap (λ s. s.capacity) c.in_ok-refill.ensures.ok

pub returns-clause-limit : goal.returns-clause-limit
returns-clause-limit c = limit_kept c.refill.new.self c.apply.new.pools (map result_kind c.args.project.now) c.args.batch.kinds c.in-Ok.ensures.given ∙ ap (λ s. s.limit) c.in_ok-refill.ensures.ok

pub unreachable-requires : goal.unreachable-requires
unreachable-requires c =
    let ks = c.args.project.now in
    no_lack c.args.pools.now c.refill.new.self _ (map result_kind ks) (ap length c.kinds.ensures ∙ length-map ks _ ∙ sym (length-map ks result_kind)) c.in_ok-refill.ensures.ok
    (c.apply.ensures.lacking.0 (subst IsErr (sym c.in-Err.is) refl))
