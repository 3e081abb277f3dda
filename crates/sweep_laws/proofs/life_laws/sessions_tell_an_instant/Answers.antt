use Rattle.edge_history.proofs.Retaining.{AreEvents-none_fails}
use Rattle.key_nodes.proofs.Sessioning.{sessions_valid}
use Rattle.sweep_laws.proofs.SessionSteps.{sessions_step}
use Rattle.sweep_laws.proofs.SessionTelling.{sessions_then, sessions_told, sessions_between}
use Rattle.sweep_laws.proofs.life_laws.sessions_tell_an_instant.Goals as goal

pub returns : goal.returns
returns g c = record {
  step = λ key same decides timeout t a w pos low valid. sessions_step key same decides timeout t a w pos low (AreEvents-none_fails a valid);
  told = λ key same decides timeout t a now rows stay later ended answer0 answer1 answer2 pos low valid is h split gone come a1 a2.
      let v = AreEvents-none_fails a valid in
      let s = AreEvents-none_fails _ (sessions_valid key same timeout pos a valid) in (
        sessions_then key same decides timeout t a now rows stay later ended answer0 answer1 answer2 pos low v s is h split gone come a1 a2,
        sessions_told key same decides timeout t a now rows stay later ended answer0 answer1 answer2 pos low v s is h split gone come a1 a2,
      );
  between = λ key same decides timeout u t a rows pos low high valid none h quiet.
      sessions_between key same decides timeout u t a rows pos low high (AreEvents-none_fails a valid) (AreEvents-none_fails _ (sessions_valid key same timeout pos a valid)) none h quiet;
}
