use Rattle.std.proofs.Common.{◌≡◌, ◌∙◌, ap}
use Rattle.batch.specs.Rows.{kept}
use Rattle.lane_expr.specs.Steps.{expr_of}
use Rattle.lane_expr.specs.Kernels.{mask_of}
use Rattle.where_select.proofs.Edges.{kept-mask}
use Rattle.where_select.proofs.filter.Filter.apply.Goals as goal

pub returns-clause-batch : goal.returns-clause-batch
returns-clause-batch c =
    let texts = c.args.texts.now in
    let batch = c.args.batch.now in
    let same : c.self.inside.test ≡ c.args.self.now.test = ap (λ s. s.test) c.self.view_is in
    let bits : c.mask.new.out.items ≡ mask_of texts (expr_of texts c.args.self.now.test.steps) batch.rows =
    ap (λ o. o.items) c.mask.ensures.mask ∙ ap (λ k. mask_of texts (expr_of texts k.steps) batch.rows) same in
    c.keep.ensures ∙ ap (λ b. record batch { rows = kept batch.rows b }) bits
    ∙ ap (λ rs. record batch { rows = rs }) (kept-mask texts (expr_of texts c.args.self.now.test.steps) batch.rows)
