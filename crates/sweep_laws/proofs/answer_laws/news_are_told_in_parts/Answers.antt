use Rattle.edge_history.proofs.Retaining.{AreEvents-none_fails}
use Rattle.sweep_laws.proofs.Sides.{tells_parts, tells_still, told_step}
use Rattle.sweep_laws.proofs.answer_laws.news_are_told_in_parts.Goals as goal

pub returns : goal.returns
returns x = record {
  parts = tells_parts;
  still = tells_still;
  step = λ c d out answer0 answer events later low high known. told_step c d out answer0 answer events later low high (AreEvents-none_fails later known.right_valid) known.same;
}
