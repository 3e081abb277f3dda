use Rattle.std.proofs.Common.{false, None, sym, subst}
use Rattle.tempo_engine.specs.Fed.{FedBy}
use Rattle.tempo_engine.proofs.Fitting.{thawed_fed}
use Rattle.tempo_engine.proofs.engine.Engine.thaw.Goals as goal

pub invariant_of-result : goal.invariant_of-result
invariant_of-result c = record { run = c.in-Ok.ensures.run; took = λ none. absurd (let t = c.in-Ok.ensures.thawed in cc) }

pub returns-in-Ok-clause-lists : goal.returns-in-Ok-clause-lists
returns-in-Ok-clause-lists c = λ lines given lists fits.
    let o = c.args.options in
    let e = c.in-Ok.parts in
    subst (λ n. FedBy c.args.plan o.policy lines given lists (record { parts = e; lines = n; fault = None; ended = false })) (sym c.lines-lines.ensures)
    (thawed_fed o.workers c.args.plan o.policy c.args.frozen e c.in-Ok.ensures.went c.in-Ok.ensures.texts lines given lists fits)

pub returns-in-Ok-clause-fed : goal.returns-in-Ok-clause-fed
returns-in-Ok-clause-fed c = λ lines fits.
    let o = c.args.options in
    let e = c.in-Ok.parts in
    record {
      given = fits.given;
      lists = fits.lists;
      by = subst (λ n. FedBy c.args.plan o.policy lines fits.given fits.lists (record { parts = e; lines = n; fault = None; ended = false })) (sym c.lines-lines.ensures)
          (thawed_fed o.workers c.args.plan o.policy c.args.frozen e c.in-Ok.ensures.went c.in-Ok.ensures.texts lines fits.given fits.lists fits.by);
    }
