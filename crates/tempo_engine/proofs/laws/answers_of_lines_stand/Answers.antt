use Rattle.std.proofs.Common.{false, length, sym, subst}
use Rattle.plan_model.specs.IsPlan.{IsPlan}
use Rattle.plan_laws.specs.Standing.{SourcesStandRead, AllStandRead}
use Rattle.admission.specs.Admission.{rows}
use Rattle.admission.specs.Progress.{progress}
use Rattle.ingress.proofs.Reading.{follows_stand}
use Rattle.tempo_engine.proofs.laws.answers_of_lines_stand.Goals as goal

pub returns : goal.returns
returns c = λ plan policy lines given lists e distinct fed.
    let w = progress plan policy lines false in
    let texts = e.parts.texts in
    let stand : SourcesStandRead texts w.last (rows w.after) given = λ s. (let l = follows_stand texts w.after given e.parts.ingress fed.went.took.follows s in rw fed.went.released at l) in
    subst (λ q. AllStandRead texts q.nodes w.last (rows w.after) lists (length q.nodes)) fed.went.planned
    (c.answers_stand.ensures texts w.last (rows w.after) given lists e.parts.dataflow (subst IsPlan (sym fed.went.planned) fed.sound) distinct fed.went.flows stand)
