use Rattle.edge_history.proofs.Retaining.{AreEvents-none_fails}
use Rattle.key_nodes.proofs.Sessioning.{sessions_valid}
use Rattle.sweep_laws.proofs.SessionState.{lasts_then, all_then, sessions_wait}
use Rattle.sweep_laws.proofs.life_laws.open_sessions_follow.Goals as goal

pub returns : goal.returns
returns g c = record {
  instant = λ key same decides timeout t a now rows stay later ended last last2 pos low valid is h split gone come moved open_rows.
      let v = AreEvents-none_fails a valid in
      record {
        open_rows = open_rows;
        lasts = lasts_then key same decides timeout t a now rows stay later ended last last2 pos v is h.lasts h.all split gone come moved;
        all = all_then key same decides timeout t a now rows stay later ended last last2 pos v is h.lasts h.all split gone come moved;
      };
  between = λ key same decides timeout u t a rows last pos low high valid none h wait.
      sessions_wait key same decides timeout u t a rows last pos low high (AreEvents-none_fails a valid) (AreEvents-none_fails _ (sessions_valid key same timeout pos a valid)) none h wait;
}
