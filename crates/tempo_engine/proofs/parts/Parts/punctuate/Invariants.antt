use Rattle.std.proofs.Common.{◌≡◌, ◌≤◌, ◌-◌, ℕ, List}
use Rattle.tw_rows.specs.declared.edge.Edge.{Edge}
use Rattle.plan_model.specs.IsPlan.{PlanParts}
use Rattle.admission.specs.declared.policy.Policy.{Policy}
use Rattle.admission.specs.Progress.{Progress}
use Rattle.tempo_engine.specs.Went.{Further, CanRun}
use Rattle.tempo_engine.specs.Working.{IsDue}
use Rattle.tempo_engine.specs.Underway.{IsUnderway}
use Rattle.tempo_engine.proofs.parts.Parts.punctuate.Given as goal

abbrev pub invariant-slices : goal.invariant-slices
invariant-slices g l = record {
  run : CanRun l.self;
  low : l.self.ingress.released ≤ l.p;
  thawed : l.self.dataflow.thawed ≡ l.fn.self.dataflow.thawed;
  plan : l.self.dataflow.plan ≡ l.fn.self.dataflow.plan;
  workers : l.self.dataflow.workers ≡ l.fn.self.dataflow.workers;
  texts : l.self.texts ≡ l.fn.self.texts;
  underway : (plan : PlanParts) (policy : Policy) (w : Progress) (given lists : ℕ → List Edge) → IsDue l.p plan policy w given lists l.fn.self →
      Further given lists (λ more_given more_lists. IsUnderway plan policy w more_given more_lists l.self);
}

abbrev pub decreases-slices : goal.decreases-slices
decreases-slices g l = l.p - l.self.ingress.released
