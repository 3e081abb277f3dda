use Rattle.std.specs.Prelude.{[], ◌∷◌, ◌++◌}
use Rattle.std.proofs.Common.{◌∙◌, ap}
use Rattle.snapshot_agg.proofs.Touching.{pushed_key}
use Rattle.snapshot_agg.proofs.totals.touch.Goals as goal

pub returns : goal.returns
returns c = λ q.
    let ks = c.args.touched.now.items in
    pushed_key ks c.push.new.self.items c.args.key.now q (c.in_ok-push.ensures.items ∙ ap (λ k. ks ++ k ∷ []) c.in_ok-from_slice.ensures.ok)
