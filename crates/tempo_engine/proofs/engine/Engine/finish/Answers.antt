use Rattle.std.proofs.Common.{◌≡◌, ◌++◌, true, false, None, subst}
use Rattle.std.proofs.lemmas.Result.{on_ok_weaker, IfOk-weaker, IfErr-weaker}
use Rattle.admission.specs.Progress.{fault as fault_of}
use Rattle.tempo_engine.specs.Faults.{IsFaultOf}
use Rattle.tempo_engine.specs.Output.{plan_text}
use Rattle.tempo_engine.specs.Went.{GoesOn}
use Rattle.tempo_engine.proofs.Holding.{end_holds, tells_of_lines}
use Rattle.tempo_engine.proofs.engine.Engine.finish.Goals as goal

pub finish-finished-requires-clause-run : goal.finish-finished-requires-clause-run
finish-finished-requires-clause-run g c κs within =
    let goes : GoesOn None false c.self.inside.parts = subst (λ b. GoesOn None b c.self.inside.parts) c.if-self.false (subst (λ f. GoesOn f c.self.inside.ended c.self.inside.parts) c.in_default.is c.self.invariant) in
    goes.run

pub finish-finished-requires-clause-took : goal.finish-finished-requires-clause-took
finish-finished-requires-clause-took g c κs within =
    let goes : GoesOn None false c.self.inside.parts = subst (λ b. GoesOn None b c.self.inside.parts) c.if-self.false (subst (λ f. GoesOn f c.self.inside.ended c.self.inside.parts) c.in_default.is c.self.invariant) in
    goes.took

pub returns-clause-fine : goal.returns-clause-fine
returns-clause-fine g c =
    rw (← c.self.view_is)
    (on_ok_weaker c.finish-finished.result (tells_of_lines c.self.inside.parts c.self.inside.lines c.self.inside.fault c.self.inside.ended (λ plan policy lines. fault_of plan policy lines true ≡ None)) c.finish-finished.ensures.fine)

pub returns-clause-holds : goal.returns-clause-holds
returns-clause-holds g c =
    rw (← c.self.view_is)
    (end_holds c.plans_keep_at_most.ensures c.finish-finished.result c.self.inside.parts c.finish-finished.new.self c.each_text_once.ensures c.fault_in-self-inside.result c.fault_in-self-inside.ensures.ok
    c.self.inside.lines c.self.inside.lines c.self.inside.fault c.self.inside.ended true c.finish-finished.ensures.texts c.finish-finished.ensures.fine c.finish-finished.ensures.worked)

pub returns-clause-text : goal.returns-clause-text
returns-clause-text g c =
    rw (← c.self.view_is)
    (IfOk-weaker c.finish-finished.result _ _ (λ bytes h. tells_of_lines c.self.inside.parts c.self.inside.lines c.self.inside.fault c.self.inside.ended
    (λ plan policy lines. plan_text plan policy lines true ≡ plan_text plan policy lines false ++ bytes.items) h) c.finish-finished.ensures.text)

pub returns-clause-fault : goal.returns-clause-fault
returns-clause-fault g c =
    rw (← c.self.view_is)
    (IfErr-weaker c.finish-finished.result _ _ (λ f h. tells_of_lines c.self.inside.parts c.self.inside.lines c.self.inside.fault c.self.inside.ended
    (λ plan policy lines. IsFaultOf f (fault_of plan policy lines true)) h) c.finish-finished.ensures.fault)
