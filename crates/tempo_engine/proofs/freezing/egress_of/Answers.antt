use Rattle.std.proofs.Common.{◌∙◌, sym, subst}
use Rattle.egress.specs.Saving.{Resumes as ShownResumes}
use Rattle.tempo_engine.proofs.freezing.egress_of.Goals as goal

pub returns-in-Ok-clause-holds : goal.returns-in-Ok-clause-holds
returns-in-Ok-clause-holds c = λ texts h resumes.
    let kinds = c.in_ok-egress.ensures.kinds ∙ c.deref.ensures.value ∙ c.in_ok-kinds.ensures in
    c.in-Ok.ensures.holds texts h (subst (λ k. ShownResumes k c.args.output.now c.args.closed texts h) (sym kinds) resumes)
