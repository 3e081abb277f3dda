use Rattle.std.proofs.Common.{◌≡◌, ◌∙◌, false, None, ap, subst}
use Rattle.tempo_engine.specs.Went.{GoesOn}
use Rattle.tempo_engine.proofs.Counting.{frozen_few}
use Rattle.tempo_engine.proofs.Fitting.{frozen_fits}
use Rattle.tempo_engine.proofs.engine.Engine.freeze.Goals as goal

pub freeze-requires : goal.freeze-requires
freeze-requires c =
    let going : c.self.inside.ended ≡ false = ap (λ e. e.ended) c.self.view_is ∙ c.requires.going in
    let goes : GoesOn None false c.self.inside.parts = subst (λ b. GoesOn None b c.self.inside.parts) going (subst (λ f. GoesOn f c.self.inside.ended c.self.inside.parts) c.in_default.is c.self.invariant) in
    goes.run

pub returns-in-Ok-clause-lists : goal.returns-in-Ok-clause-lists
returns-in-Ok-clause-lists c =
    rw (← c.self.view_is) (frozen_fits c.self.inside.parts c.self.inside.lines c.self.inside.fault c.self.inside.ended c.in-Ok.frozen c.in-Ok.ensures.fits c.in-Ok.ensures.lines c.in-Ok.ensures.texts)

pub returns-in-Ok-clause-fits : goal.returns-in-Ok-clause-fits
returns-in-Ok-clause-fits c =
    rw (← c.self.view_is)
    (λ plan policy lines fed. record {
      given = fed.given;
      lists = fed.lists;
      by = frozen_fits c.self.inside.parts c.self.inside.lines c.self.inside.fault c.self.inside.ended c.in-Ok.frozen c.in-Ok.ensures.fits c.in-Ok.ensures.lines c.in-Ok.ensures.texts plan policy lines fed.given fed.lists fed.by;
    })

pub returns-in-Ok-clause-few : goal.returns-in-Ok-clause-few
returns-in-Ok-clause-few c =
    rw (← c.self.view_is)
    (frozen_few c.plans_keep_at_most.ensures c.row_stages_keep_nothing.ensures c.answers_of_lines_stand.ensures c.self.inside.parts c.each_text_once.ensures
    c.self.inside.lines c.self.inside.fault c.self.inside.ended c.in-Ok.frozen.parts c.in-Ok.ensures.few)
