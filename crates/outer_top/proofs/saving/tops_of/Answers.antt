use Rattle.std.proofs.Common.{subst}
use Rattle.outer_top.specs.TopKeys.{HasPassed}
use Rattle.outer_top.specs.TopEvents.{AreSettled}
use Rattle.outer_top.proofs.TopSides.{starts_loaded, loaded_settled}
use Rattle.outer_top.proofs.TopSteps.{for_like}
use Rattle.outer_top.proofs.saving.tops_of.Goals as goal

pub returns-clause-settled : goal.returns-clause-settled
returns-clause-settled c =
    let t = c.in_ok-tops.tops in
    let n = c.pass.new.self in
    let p = subst (λ es. HasPassed t.key.columns t.by t.most c.args.starts.now c.new-lost.result.items c.pass.new.lost.items c.new-won.result.items c.pass.new.won.items es n.keys.entries) c.in_ok-tops.ensures.rows c.in_ok-pass.ensures.passed in
    for_like (λ cs b ms. AreSettled cs b ms n.keys.entries) c.args.key.now t.key.columns c.args.by t.by c.args.most t.most c.in_ok-tops.ensures.key c.in_ok-tops.ensures.by c.in_ok-tops.ensures.most
    (loaded_settled t.key.columns t.by t.most c.args.starts.now c.new-lost.result.items c.pass.new.lost.items c.new-won.result.items c.pass.new.won.items n.keys.entries p)

pub returns-clause-rows : goal.returns-clause-rows
returns-clause-rows c = λ kinds to low h.
    let t = c.in_ok-tops.tops in
    let n = c.pass.new.self in
    let p = subst (λ es. HasPassed t.key.columns t.by t.most c.args.starts.now c.new-lost.result.items c.pass.new.lost.items c.new-won.result.items c.pass.new.won.items es n.keys.entries) c.in_ok-tops.ensures.rows c.in_ok-pass.ensures.passed in
    starts_loaded kinds t.key.columns t.by t.most to c.args.starts.now c.new-lost.result.items c.pass.new.lost.items c.new-won.result.items c.pass.new.won.items n.keys.entries p low h
