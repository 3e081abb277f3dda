use Rattle.std.specs.Prelude.{◌≡◌, length}
use Rattle.std.proofs.Common.{◌∙◌, ap, sym, subst}
use Rattle.lane_expr.specs.Steps.{with_texts}
use Rattle.egress.specs.Saving.{EntriesArePlaced}
use Rattle.tempo_engine.specs.Kept.{KeptView, kept_of}
use Rattle.dataflow.specs.Held.{nodes_in_all}
use Rattle.tempo_engine.specs.Freezing.{GoesOnFrom}
use Rattle.tempo_engine.specs.Frozen.{IsSoundKept}
use Rattle.tempo_engine.proofs.Fitting.{output_placed}
use Rattle.tempo_engine.proofs.parts.Parts.thaw.Goals as goal

pub of_kept-requires-clause-bounds : goal.of_kept-requires-clause-bounds
of_kept-requires-clause-bounds c = subst (λ (v : KeptView). length v.bounds ≡ length c.args.plan.streams) (sym c.in_ok-kept.ensures) c.in-Ok.ensures.complete.bounds

pub of_kept-requires-clause-marks : goal.of_kept-requires-clause-marks
of_kept-requires-clause-marks c = subst (λ (v : KeptView). length v.marks ≡ length c.args.plan.streams) (sym c.in_ok-kept.ensures) c.in-Ok.ensures.complete.marks

pub of_kept-requires-clause-shown : goal.of_kept-requires-clause-shown
of_kept-requires-clause-shown c =
    let f = c.args.frozen in
    let placed = output_placed c.args.workers c.args.plan f.texts f c.in-Ok.ensures.complete.placed in
    subst (λ (v : KeptView). EntriesArePlaced c.in-Ok.texts v.output) (sym c.in_ok-kept.ensures)
    (subst (λ t. EntriesArePlaced t (kept_of c.args.workers c.args.plan f).output) (sym c.in-Ok.ensures.texts) placed)

pub returns-in-Ok-of_kept-clause-went : goal.returns-in-Ok-of_kept-clause-went
returns-in-Ok-of_kept-clause-went c =
    let f = c.args.frozen in
    let e = c.in-Ok-of_kept.parts in
    subst (λ t. GoesOnFrom c.args.workers c.args.plan c.args.policy t (kept_of c.args.workers c.args.plan f) e) c.in-Ok.ensures.texts
    (subst (λ v. GoesOnFrom c.args.workers c.args.plan c.args.policy c.in-Ok.texts v e) c.in_ok-kept.ensures c.in-Ok-of_kept.ensures.went)

pub returns-in-Ok-of_kept-clause-texts : goal.returns-in-Ok-of_kept-clause-texts
returns-in-Ok-of_kept-clause-texts c = c.in-Ok-of_kept.ensures.texts ∙ ap (λ t. with_texts t (nodes_in_all c.args.plan.nodes)) c.in-Ok.ensures.texts

pub returns-in-Ok-of_kept-clause-state : goal.returns-in-Ok-of_kept-clause-state
returns-in-Ok-of_kept-clause-state c = record {
  complete = c.in-Ok.ensures.complete;
  distinct = c.in-Ok.ensures.distinct;
  sound = subst (IsSoundKept c.args.workers c.args.plan) c.in_ok-kept.ensures c.in-Ok-of_kept.ensures.sound;
}

pub returns-in-Err-clause-refused : goal.returns-in-Err-clause-refused
returns-in-Err-clause-refused c = λ is state. c.in-Err.ensures.refused is state.complete state.distinct
